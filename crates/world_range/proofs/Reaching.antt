-- Each fact's cell is picked, and what it adds there is added up.
use Rattle.std.proofs.Common.{◌≡◌, ℕ, ◌+◌, ◌*◌, ◌<◌, ◌≤◌, List, [], ◌∷◌, ◌++◌, length, get_or, take, refl, ap, sym, ◌∙◌, arith, ℤ, pos, ◌+ℤ◌}
use Rattle.std.specs.Prelude.{All, if◌then◌else◌, nat_abs, sum_by}
use Rattle.std.proofs.lemmas.Int.{ints}
use Rattle.std.proofs.lemmas.List.{map-append, take_all, take_more}
use Rattle.cube_model.specs.Allocation.{ExtendedFact}
use Rattle.cube_model.specs.Cells.{is_among}
use Rattle.cube_model.specs.Limits.{MAX_VALUE}
use Rattle.cube_model.specs.Tree.{Dimension}
use Rattle.cube_model.proofs.Totals.{total_by-append}
use Rattle.world_law.specs.declared.placed.Placed.{Placed}
use Rattle.world_law.specs.Law.{IsShared}
use Rattle.world_law.specs.Placed.{IsPlacedFor, placed_fact, placed_facts}
use Rattle.world_law.specs.Worlds.{column_of}
use Rattle.world_law.proofs.Judging.{of_read}
use Rattle.world_law.proofs.Placing.{own_small, shared}
use Rattle.world_range.specs.declared.extreme.Extreme.{Extreme}
use Rattle.world_range.specs.Ends.{AreEnds, HasRows}
use Rattle.world_range.specs.Picks.{end_of, part, pick, pick_among, picks}
use Rattle.world_range.proofs.Reached.{ends_reached}

-- the first of the facts were picked and added
pub record Reaching (extreme : Extreme) (cells : List ℕ) (column : ℕ) (placed : List Placed) (i : ℕ) (sum : ℤ) (picked : List ℕ) : Type 0 where
  pub added_up : sum ≡ end_of extreme cells column (placed_facts (take i placed))
  pub picked_all : picked ≡ picks extreme cells column (placed_facts (take i placed))
  pub small : nat_abs sum ≤ i * MAX_VALUE

module _ (extreme : Extreme) (cells : List ℕ) (column : ℕ) (placed : List Placed) where
  pub reaching_none : (picked : List ℕ) → picked ≡ [] → Reaching extreme cells column placed 0 (pos 0) picked
  reaching_none picked none = record { added_up = refl; picked_all = none; small = omega arith }

  -- once all are, the end is reached
  pub reaching_all_sum : (i : ℕ) (sum : ℤ) (picked : List ℕ) → Reaching extreme cells column placed i sum picked → length placed ≤ i → sum ≡ end_of extreme cells column (placed_facts placed)
  reaching_all_sum i sum picked reaching end = reaching.added_up ∙ ap (λ xs. end_of extreme cells column (placed_facts xs)) (take_all i placed end)

  pub reaching_all_picks : (i : ℕ) (sum : ℤ) (picked : List ℕ) → Reaching extreme cells column placed i sum picked → length placed ≤ i → picked ≡ picks extreme cells column (placed_facts placed)
  reaching_all_picks i sum picked reaching end = reaching.picked_all ∙ ap (λ xs. picks extreme cells column (placed_facts xs)) (take_all i placed end)

  -- one fact more
  module _ (i : ℕ) (p : Placed) (inside : i < length placed) (is : p ≡ get_or placed i p) where
    facts_more : placed_facts (take (i + 1) placed) ≡ placed_facts (take i placed) ++ placed_fact p ∷ []
    facts_more =
        ap placed_facts (take_more placed i p inside ∙ ap (λ (x : Placed). take i placed ++ x ∷ []) (sym is)) ∙ map-append placed_fact (take i placed) (p ∷ [])

    module _ (asked : List ℕ) (value : ℤ) (rows : List (ℕ × ℕ)) (cell : ℕ) (same : asked ≡ cells) (valued : value ≡ column_of column (placed_fact p)) (are_rows : rows ≡ p.rows)
        (chosen : cell ≡ pick_among extreme asked value rows) where
      chosen_is : cell ≡ pick extreme cells column (placed_fact p)
      chosen_is =
          chosen ∙ ap (λ cs. pick_among extreme cs value rows) same ∙ ap (pick_among extreme cells value) are_rows ∙ ap (λ v. pick_among extreme cells v p.rows) valued

      part_is : (if is_among asked cell then value else pos 0) ≡ part extreme cells column (placed_fact p)
      part_is =
          ap (λ cs. if is_among cs cell then value else pos 0) same ∙ ap (λ c. if is_among cells c then value else pos 0) chosen_is
          ∙ ap (λ v. if is_among cells (pick extreme cells column (placed_fact p)) then v else pos 0) valued

      pub reaching_more : (dims : List Dimension) (sum more : ℤ) (picked new : List ℕ) → All (IsPlacedFor dims column) placed → Reaching extreme cells column placed i sum picked
          → more ≡ sum +ℤ (if is_among asked cell then value else pos 0) → new ≡ picked ++ cell ∷ [] → Reaching extreme cells column placed (i + 1) more new
      reaching_more dims sum more picked new are before added pushed = record {
        added_up =
            let push : end_of extreme cells column (placed_facts (take i placed) ++ placed_fact p ∷ []) ≡ end_of extreme cells column (placed_facts (take i placed)) +ℤ part extreme cells column (placed_fact p) =
            omega (arith, ints, total_by-append (part extreme cells column) (placed_facts (take i placed)) (placed_fact p ∷ [])) in
            added ∙ ap (λ z. z +ℤ (if is_among asked cell then value else pos 0)) before.added_up ∙ ap (λ z. end_of extreme cells column (placed_facts (take i placed)) +ℤ z) part_is
            ∙ sym (ap (end_of extreme cells column) facts_more ∙ push);
        picked_all =
            pushed ∙ ap (λ cs. cs ++ cell ∷ []) before.picked_all ∙ ap (λ c. picks extreme cells column (placed_facts (take i placed)) ++ c ∷ []) chosen_is
            ∙ sym (ap (picks extreme cells column) facts_more ∙ map-append (pick extreme cells column) (placed_facts (take i placed)) (placed_fact p ∷ []));
        small =
            let fits = own_small dims cells column p (of_read (IsPlacedFor dims column) placed i p are inside is) (pick extreme cells column (placed_fact p)) in
            let both : nat_abs (sum +ℤ part extreme cells column (placed_fact p)) ≤ nat_abs sum + nat_abs (part extreme cells column (placed_fact p)) = omega (arith, ints) in
            omega (arith, fits, both, before.small, ap nat_abs (added ∙ ap (λ z. sum +ℤ z) part_is));
      }

-- facts whose weights add up to their denominators have rows
shared_rows : (e : ExtendedFact) (rows : List (ℕ × ℕ)) → rows ≡ e.allocation.rows → IsShared e → 1 ≤ length rows
shared_rows e [] are is = absurd (omega (arith, is.whole, is.some, ap (sum_by (λ (row : ℕ × ℕ). row.1)) are))
shared_rows e (row ∷ rows) are is = omega arith

pub have_rows : (facts : List ExtendedFact) → All IsShared facts → All HasRows facts
have_rows facts are k d within = shared_rows (get_or facts k d) (get_or facts k d).allocation.rows refl (are k d within)

pub placed_ends : (dims : List Dimension) (region : List ℕ) (column : ℕ) (placed : List Placed) → All (IsPlacedFor dims column) placed → AreEnds dims region column (placed_facts placed)
placed_ends dims region column placed are = ends_reached dims region column (placed_facts placed) (have_rows (placed_facts placed) (shared dims column placed are))
