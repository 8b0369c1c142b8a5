-- The entries of a view under a region that it serves merge to the answer of its facts there: each cell of the region is in
-- exactly one region of the product of the cuts that is under it, so the weights inside these add up to the weight inside it.
use Rattle.std.proofs.Common.{◌≡◌, ℕ, zero, suc, ◌+◌, ◌-◌, ◌<◌, ◌≤◌, ◌≢◌, Bool, true, false, List, [], ◌∷◌, filter, refl, ap, sym, ◌∙◌, inl, inr, eq-eqb, ne_eqb, arith}
use Rattle.std.specs.Prelude.{All, Option, Some, None, if◌then◌else◌, is_some, unwrap_or, ◌&&◌, ◌==◌, slice_get}
use Rattle.std.specs.List.{count_by, range_with_len, sum_by}
use Rattle.std.specs.Option.{option_map_or}
use Rattle.std.proofs.lemmas.Bool.{cases_eq}
use Rattle.std.proofs.lemmas.List.Sums.{sum_by-cons}
use Rattle.cube_model.specs.declared.term.Term.{Term}
use Rattle.cube_model.specs.Allocation.{ExtendedFact}
use Rattle.cube_model.specs.Answer.{answer, merge, merge_all, weight_inside}
use Rattle.cube_model.specs.Cells.{all_cells, cells_of, is_among, is_inside}
use Rattle.cube_model.specs.Tree.{Dimension, IsTree}
use Rattle.group_sum.specs.Terms.{TermList}
use Rattle.region_algebra.specs.Space.{IsRegion, region_total}
use Rattle.region_algebra.proofs.Children.{count_by-cons}
use Rattle.staged_map.specs.Staged.{value_at}
use Rattle.view_store.specs.Facts.{IsViewOfFacts}
use Rattle.view_store.specs.Rolling.{is_below, rolled_up, serves, term_lists_below}
use Rattle.view_store.specs.Views.{ViewMap, entry_at, is_in_view, no_terms, region_at}
use Rattle.view_store.proofs.CutsOver.{code-over}
use Rattle.region_algebra.proofs.LeafTuples.{is_among-inside}
use Rattle.view_store.proofs.Weighing.{merge-weighed, weighed, weighed-nothing, weighed-same, weighed-without, weights-add_up, weights_among-none}

-- a test that none passes, and one that a number alone passes
count-nothing : (p : ℕ → Bool) (xs : List ℕ) → ((x : ℕ) → p x ≡ false) → count_by p xs ≡ 0
count-nothing p [] each = refl
count-nothing p (x ∷ xs) each = count_by-cons p x xs ∙ rw (each x, count-nothing p xs each) refl

count-before : (p : ℕ → Bool) (code from n : ℕ) → code < from → ((x : ℕ) → x ≢ code → p x ≡ false) → count_by p (range_with_len from n) ≡ 0
count-before p code from zero less others = refl
count-before p code from (suc n) less others =
    let not : p from ≡ false = others from (λ same. omega (arith, same, less)) in
    count_by-cons p from (range_with_len (from + 1) n) ∙ rw (not, count-before p code (from + 1) n (omega (arith, less)) others) refl

count-one : (p : ℕ → Bool) (b : Bool) (code from n : ℕ) → from ≤ code → code < from + n → p code ≡ b → ((x : ℕ) → x ≢ code → p x ≡ false) → count_by p (range_with_len from n) ≡ (if b then 1 else 0)
count-one p b code from zero least most here others = absurd (omega (arith, least, most))
count-one p b code from (suc n) least most here others = elim (cases_eq from code) [
  | inl same ↦
      let first : p from ≡ b = ap p same ∙ here in
      count_by-cons p from (range_with_len (from + 1) n) ∙ rw (first, count-before p code (from + 1) n (omega (arith, same)) others) (plus-nothing b)
  | inr other ↦
      let not : p from ≡ false = others from other in
      count_by-cons p from (range_with_len (from + 1) n) ∙ ap (λ c. (if c then 1 else 0) + count_by p (range_with_len (from + 1) n)) not ∙ omega (arith, count-one p b code (from + 1) n (omega (arith, other, least)) (omega (arith, most)) here others)
]
  where
    plus-nothing : (b : Bool) → (if b then 1 else 0) + 0 ≡ (if b then 1 else 0)
    plus-nothing true = refl
    plus-nothing false = refl

-- whether a code is one of the product of the cuts, of a region under this one
abbrev is_part : List Dimension → List ℕ → List ℕ → ℕ → Bool
is_part dims depths region code = is_below dims region code && is_in_view dims depths code

-- the cells of such a region; of others, none
abbrev part_cells : List Dimension → List ℕ → List ℕ → ℕ → List ℕ
part_cells dims depths region code = if is_part dims depths region code then cells_of dims (region_at dims code) else []

part-over : (below in_view here : Bool) (cells : List ℕ) (cell : ℕ) → (in_view ≡ true → is_among cells cell ≡ here) → is_among (if below && in_view then cells else []) cell ≡ (below && (in_view && here))
part-over true true here cells cell is = is refl
part-over true false here cells cell is = refl
part-over false in_view here cells cell is = refl

part-none : (b : Bool) (cells : List ℕ) (cell : ℕ) → is_among cells cell ≡ false → is_among (if b then cells else []) cell ≡ false
part-none true cells cell not = not
part-none false cells cell not = refl

both-false : (a b : Bool) → (a && (b && false)) ≡ false
both-false true true = refl
both-false true false = refl
both-false false b = refl

both-true : (a b : Bool) → b ≡ true → (a && (b && true)) ≡ a
both-true true true is = refl
both-true true false is = is
both-true false b is = refl

-- each cell is in one of them where it is in the region
module _ (dims : List Dimension) (depths region : List ℕ) (trees : All IsTree dims) (named : IsRegion dims region) (served : serves dims depths region ≡ true) where
  no_cell : (cell : ℕ) (any : List ℕ) → slice_get (all_cells dims) cell ≡ None → is_among (cells_of dims any) cell ≡ false
  no_cell cell any at = is_among-inside dims any cell ∙ ap (λ o. option_map_or (is_inside dims any) o false) at

  once : (cell : ℕ) → count_by (λ code. is_among (part_cells dims depths region code) cell) (range_with_len 0 (region_total dims)) ≡ (if is_among (cells_of dims region) cell then 1 else 0)
  once cell = by (slice_get (all_cells dims) cell) refl
    where
      by : (found : Option (List ℕ)) → slice_get (all_cells dims) cell ≡ found → count_by (λ code. is_among (part_cells dims depths region code) cell) (range_with_len 0 (region_total dims)) ≡ (if is_among (cells_of dims region) cell then 1 else 0)
      by None at =
          count-nothing (λ code. is_among (part_cells dims depths region code) cell) (range_with_len 0 (region_total dims)) (λ code. part-none (is_part dims depths region code) (cells_of dims (region_at dims code)) cell (no_cell cell (region_at dims code) at))
          ∙ ap (λ b. if b then 1 else 0) (sym (no_cell cell region at))
      by (Some leaves) at =
          let it = code-over dims depths region leaves cell trees at named served in
          let test : (code : ℕ) → is_among (part_cells dims depths region code) cell ≡ (is_below dims region code && (is_in_view dims depths code && (code == it.code))) =
          λ code. part-over (is_below dims region code) (is_in_view dims depths code) (code == it.code) (cells_of dims (region_at dims code)) cell (it.is_over.only code) in
          count-one (λ code. is_among (part_cells dims depths region code) cell) (is_below dims region it.code) it.code 0 (region_total dims) (omega arith) (omega (arith, it.within))
          (test it.code ∙ ap (λ b. is_below dims region it.code && (is_in_view dims depths it.code && b)) (eq-eqb it.code it.code refl) ∙ both-true (is_below dims region it.code) (is_in_view dims depths it.code) it.is_over.in_view)
          (λ code other. test code ∙ ap (λ b. is_below dims region code && (is_in_view dims depths code && b)) (ne_eqb code it.code other) ∙ both-false (is_below dims region code) (is_in_view dims depths code))
          ∙ ap (λ b. if b then 1 else 0) (sym it.same)

module _ (dims : List Dimension) (facts : List ExtendedFact) (view : ViewMap) (region : List ℕ) (of : IsViewOfFacts dims facts view) where
  -- what a fact weighs in the cells of a code
  abbrev part_weight : ℕ → ExtendedFact → ℕ
  part_weight code e = weight_inside (part_cells dims view.depths region code) e.allocation

  abbrev rolled : List ℕ → List Term
  rolled codes = merge_all (view.columns - 1) (term_lists_below view.columns dims region view.entries (filter (λ code. is_some (value_at view.entries code)) codes))

  cells-are : (code : ℕ) (b : Bool) → is_part dims view.depths region code ≡ b → part_cells dims view.depths region code ≡ (if b then cells_of dims (region_at dims code) else [])
  cells-are code b is = ap (λ c. if c then cells_of dims (region_at dims code) else []) is

  -- other codes have no part
  no-part : (code : ℕ) → is_part dims view.depths region code ≡ false → weighed (view.columns - 1) facts (part_weight code) ≡ []
  no-part code not =
      weighed-nothing (view.columns - 1) facts (part_weight code) (λ e. ap (λ cells. weight_inside cells e.allocation) (cells-are code false not) ∙ weights_among-none e.allocation.rows)

  not-below : (code : ℕ) → is_below dims region code ≡ false → weighed (view.columns - 1) facts (part_weight code) ≡ []
  not-below code not = no-part code (ap (λ b. b && is_in_view dims view.depths code) not)

  -- the terms of a code below the region are its part
  entry-weighed : (code : ℕ) → is_below dims region code ≡ true → (entry_at view code).terms ≡ weighed (view.columns - 1) facts (part_weight code)
  unfolding answer
  entry-weighed code below = by (is_in_view dims view.depths code) refl
    where
      by : (b : Bool) → is_in_view dims view.depths code ≡ b → (entry_at view code).terms ≡ weighed (view.columns - 1) facts (part_weight code)
      by true is =
          of.answers code is ∙ ap (λ cells. weighed (view.columns - 1) facts (λ e. weight_inside cells e.allocation)) (sym (cells-are code true (ap (λ b. b && is_in_view dims view.depths code) below ∙ is)))
      by false is = of.others code is ∙ sym (no-part code (ap (λ b. b && is_in_view dims view.depths code) below ∙ is))

  no-entry : (code : ℕ) (found : Option TermList) → value_at view.entries code ≡ found → is_some found ≡ false → (entry_at view code).terms ≡ []
  no-entry code None at none = ap (λ (o : Option TermList). (unwrap_or o (no_terms view.columns)).terms) at
  no-entry code (Some terms) at none = absurd (grind arith)

  -- what it weighs in those of several
  abbrev parts_weight : List ℕ → ExtendedFact → ℕ
  parts_weight codes e = sum_by (λ code. part_weight code e) codes

  rolled-next : (code : ℕ) (codes : List ℕ) → rolled codes ≡ weighed (view.columns - 1) facts (parts_weight codes) → rolled (code ∷ codes) ≡ weighed (view.columns - 1) facts (parts_weight (code ∷ codes))
  rolled-next code codes rest = by (is_some (value_at view.entries code)) (is_below dims region code) refl refl
    where
      adds : (e : ExtendedFact) → part_weight code e + parts_weight codes e ≡ parts_weight (code ∷ codes) e
      adds e = sym (sum_by-cons (λ c. part_weight c e) code codes)

      left_out : weighed (view.columns - 1) facts (part_weight code) ≡ [] → rolled codes ≡ weighed (view.columns - 1) facts (parts_weight (code ∷ codes))
      left_out none = rest ∙ weighed-without (view.columns - 1) facts (part_weight code) (parts_weight codes) (parts_weight (code ∷ codes)) none adds

      by : (some below : Bool) → is_some (value_at view.entries code) ≡ some → is_below dims region code ≡ below → rolled (code ∷ codes) ≡ weighed (view.columns - 1) facts (parts_weight (code ∷ codes))
      by true true has is =
          rw (has, is) (ap (λ terms. merge (view.columns - 1) terms (rolled codes)) (entry-weighed code is) ∙ ap (merge (view.columns - 1) (weighed (view.columns - 1) facts (part_weight code))) rest
          ∙ merge-weighed (view.columns - 1) facts (part_weight code) (parts_weight codes) (parts_weight (code ∷ codes)) adds)
      by true false has is = rw (has, is) (left_out (not-below code is))
      by false true has is = rw has (left_out (sym (entry-weighed code is) ∙ no-entry code (value_at view.entries code) refl has))
      by false false has is = rw has (left_out (not-below code is))

  rolled-weighed : (codes : List ℕ) → rolled codes ≡ weighed (view.columns - 1) facts (parts_weight codes)
  rolled-weighed [] = sym (weighed-nothing (view.columns - 1) facts (parts_weight []) (λ e. refl))
  rolled-weighed (code ∷ codes) = rolled-next code codes (rolled-weighed codes)

  pub answer-of_facts : All IsTree dims → IsRegion dims region → serves dims view.depths region ≡ true → rolled_up dims view region ≡ answer (view.columns - 1) dims facts region
  unfolding answer
  answer-of_facts trees named served =
      rolled-weighed (range_with_len 0 (region_total dims))
      ∙ weighed-same (view.columns - 1) facts (parts_weight (range_with_len 0 (region_total dims))) (λ e. weight_inside (cells_of dims region) e.allocation)
      (λ e. weights-add_up (part_cells dims view.depths region) (range_with_len 0 (region_total dims)) (cells_of dims region) (once dims view.depths region trees named served) e.allocation.rows)
