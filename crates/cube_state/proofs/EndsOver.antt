-- The ends of the facts at several codes: of all codes, and of those that have a cell in common with the region.
use Rattle.std.proofs.Common.{◌≡◌, ℕ, Bool, true, false, List, eqb, get_or, map, ap, sym, ◌∙◌, subst, arith, ℤ, pos, ◌+ℤ◌}
use Rattle.std.specs.Prelude.{All, filter, not, ◌&&◌, if◌then◌else◌}
use Rattle.std.specs.List.{IsDistinct, list_any}
use Rattle.std.specs.Map.{keys_of}
use Rattle.std.proofs.lemmas.Bool.Decides.{nat_tests}
use Rattle.std.proofs.lemmas.Int.{ints}
use Rattle.std.proofs.lemmas.List.{get_or-map, length-map}
use Rattle.std.proofs.lemmas.List.Elements.{All-filter, filter_passes}
use Rattle.std.proofs.lemmas.List.Folds.{list_any_none}
use Rattle.cube_model.specs.declared.edit.Fact.{Fact}
use Rattle.cube_model.specs.declared.statistic.CellStat.{CellStat}
use Rattle.cube_model.specs.Allocation.{ExtendedFact, Policy, allocation, extended, weight_of}
use Rattle.cube_model.specs.Answer.{total_by}
use Rattle.cube_model.specs.Cells.{cells_of, is_among}
use Rattle.cube_model.specs.Tree.{Dimension, IsTree}
use Rattle.cube_model.proofs.Totals.{total_by-append, total_by-nothing, total_by-same}
use Rattle.region_algebra.specs.Space.{IsRegion, code_of}
use Rattle.region_index.specs.Touching.{codes_touching}
use Rattle.staged_map.specs.Staged.{held}
use Rattle.fact_groups.specs.Groups.{AreGrouped, facts_with, has_code}
use Rattle.fact_groups.proofs.Groups.{total_by-map}
use Rattle.fact_groups.proofs.Partition.{totals_over_keys}
use Rattle.fact_indexes.specs.Kept.{IsState}
use Rattle.fact_indexes.proofs.HeldGroups.{grouped-held}
use Rattle.fact_indexes.proofs.ValidFacts.{valid-regions}
use Rattle.fact_records.specs.Shape.{width_of_all}
use Rattle.world_law.proofs.Shares.{shared-extended}
use Rattle.world_range.specs.declared.extreme.Extreme.{Extreme}
use Rattle.world_range.specs.Ends.{HasRows}
use Rattle.world_range.specs.Picks.{end_of, part, wants_inside}
use Rattle.world_range.specs.Sides.{sides_of}
use Rattle.world_range.proofs.Parts.{part-where}
use Rattle.world_range.proofs.Reaching.{have_rows}
use Rattle.cube_state.specs.Ranging.{column_in, end_over}
use Rattle.cube_state.specs.State.{StateValue, policy_in, rows_in}
use Rattle.cube_state.proofs.TouchingShares.{all_codes, apart-each, grouped-all, other-codes, spread-on, touching-told}

module _ (policy : Policy) (dims : List Dimension) (facts : List Fact) (trees : All IsTree dims) (regions : All (λ f. IsRegion dims f.region) facts) (extreme : Extreme) (column : ℕ) where
  abbrev row : Fact → ExtendedFact
  row f = record { id = f.id; values = f.cols; allocation = allocation policy dims facts f }

  -- an end of the facts at a code
  abbrev end-of-code : List ℕ → ℕ → ℤ
  end-of-code cells code = end_of extreme cells column (map row (facts_with dims code facts))

  -- where the codes hold all facts, those of the codes come to that of all
  pub end-grouped : (cells codes : List ℕ) → AreGrouped dims facts codes → total_by (end-of-code cells) codes ≡ end_of extreme cells column (extended policy dims facts)
  unfolding extended
  end-grouped cells codes grouped =
      total_by-same (end-of-code cells) (λ code. total_by (λ f. part extreme cells column (row f)) (facts_with dims code facts)) codes (λ k d within. total_by-map (part extreme cells column) row (facts_with dims (get_or codes k d) facts))
      ∙ sym (totals_over_keys (has_code dims) codes (λ f. part extreme cells column (row f)) facts grouped.held)
      ∙ sym (total_by-map (part extreme cells column) row facts)

  facts-rows : All (λ f. HasRows (row f)) facts
  unfolding extended
  facts-rows k d within =
      let all : All HasRows (map row facts) = have_rows (map row facts) (shared-extended policy dims facts trees regions) in
      subst HasRows (get_or-map row facts k d (row d) within) (all k (row d) (omega (arith, within, length-map facts row)))

  module _ (region : List ℕ) where
    abbrev cells : List ℕ
    cells = cells_of dims region

    -- a fact whose region has no cell in common adds nothing
    part-outside : (code : ℕ) (f : Fact) → is_among (codes_touching dims region) code ≡ false → IsRegion dims f.region → has_code dims code f ≡ true → HasRows (row f) → part extreme cells column (row f) ≡ pos 0
    unfolding allocation
    part-outside code f outside named passes rows =
        let coded : code_of dims f.region ≡ code = grind (arith, nat_tests, passes) in
        let apart : list_any (is_among (cells_of dims f.region)) cells ≡ false = sym (touching-told policy 0 dims facts trees regions region code f named coded) ∙ outside in
        let others = spread-on (λ cell. is_among cells cell ≡ false) (weight_of policy dims facts) (cells_of dims f.region) (λ k d within. apart-each (cells_of dims f.region) cells k d within apart) in
        let none : (sides_of cells (allocation policy dims facts f).rows).inside ≡ false = list_any_none (λ row. is_among cells row.0) (allocation policy dims facts f).rows others in
        let sides = sides_of cells (allocation policy dims facts f).rows in
        part-where extreme cells column (row f) rows
        ∙ ap (λ (b : Bool). if b then (if sides.outside && not (wants_inside extreme (column_in column f)) then pos 0 else column_in column f) else pos 0) none

    code-outside : (code : ℕ) → is_among (codes_touching dims region) code ≡ false → end-of-code cells code ≡ pos 0
    code-outside code outside =
        let here = facts_with dims code facts in
        let named = All-filter (has_code dims code) (λ f. IsRegion dims f.region) facts regions in
        let rows = All-filter (has_code dims code) (λ f. HasRows (row f)) facts facts-rows in
        let passes = filter_passes (has_code dims code) facts in
        total_by-map (part extreme cells column) row here
        ∙ total_by-same (λ f. part extreme cells column (row f)) (λ f. pos 0) here (λ k d within. part-outside code (get_or here k d) outside (named k d within) (passes k d within) (rows k d within))
        ∙ total_by-nothing here

    codes-outside : (codes : List ℕ) → All (λ code. is_among (codes_touching dims region) code ≡ false) codes → total_by (end-of-code cells) codes ≡ pos 0
    codes-outside codes each = total_by-same (end-of-code cells) (λ code. pos 0) codes (λ k d within. code-outside (get_or codes k d) (each k d within)) ∙ total_by-nothing codes

    -- so the codes of the regions that have one come to the end of all too
    pub end-touching : (codes : List ℕ) → AreGrouped dims facts codes → total_by (end-of-code cells) (codes_touching dims region) ≡ end_of extreme cells column (extended policy dims facts)
    end-touching codes grouped =
        let others = filter (λ code. not (is_among (codes_touching dims region) code)) codes in
        let none = codes-outside others (other-codes policy 0 dims facts trees regions region codes grouped codes) in
        let both = total_by-append (end-of-code cells) (codes_touching dims region) others in
        let whole = end-grouped cells (all_codes policy 0 dims facts trees regions region codes grouped) (grouped-all policy 0 dims facts trees regions region codes grouped) in
        added _ _ _ _ both none whole
      where
        added : (a b sum end : ℤ) → sum ≡ a +ℤ b → b ≡ pos 0 → sum ≡ end → a ≡ end
        added a b sum end both none whole = omega (arith, ints, both, none, whole)

-- the same of a state, as it is seen
module _ {P : Type 0} (weigh : P → CellStat → ℕ) (state seen : StateValue P) (same : seen ≡ state) (kept : IsState (policy_in weigh seen) seen.shape seen.dims seen.cuts seen.facts seen.kept)
    (trees : All IsTree seen.dims) (distinct : IsDistinct eqb (keys_of seen.kept.groups)) (once : IsDistinct eqb (keys_of (held seen.kept.groups))) (region cells : List ℕ) (told : cells ≡ cells_of seen.dims region) (extreme : Extreme) (column : ℕ) where
  regions : All (λ f. IsRegion seen.dims f.region) seen.facts
  regions = valid-regions seen.shape seen.dims seen.facts kept.valid

  grouped : AreGrouped seen.dims seen.facts (keys_of (held seen.kept.groups))
  grouped = grouped-held (policy_in weigh seen) (width_of_all seen.shape.measures) seen.dims seen.facts seen.kept.groups kept.groups distinct once trees regions

  pub ends-held : (sum : ℤ) → sum ≡ end_over weigh extreme cells column state (keys_of (held state.kept.groups)) → sum ≡ end_of extreme (cells_of state.dims region) column (rows_in weigh state)
  ends-held sum is =
      is ∙ ap (λ (s : StateValue P). end_over weigh extreme cells column s (keys_of (held s.kept.groups))) (sym same)
      ∙ ap (λ cs. end_over weigh extreme cs column seen (keys_of (held seen.kept.groups))) told
      ∙ end-grouped (policy_in weigh seen) seen.dims seen.facts trees regions extreme column (cells_of seen.dims region) (keys_of (held seen.kept.groups)) grouped
      ∙ ap (λ (s : StateValue P). end_of extreme (cells_of s.dims region) column (rows_in weigh s)) same

  pub ends-touching : (codes : List ℕ) → codes ≡ codes_touching seen.dims region → (sum : ℤ) → sum ≡ end_over weigh extreme cells column state codes → sum ≡ end_of extreme (cells_of state.dims region) column (rows_in weigh state)
  ends-touching codes are sum is =
      is ∙ ap (end_over weigh extreme cells column state) are
      ∙ ap (λ (s : StateValue P). end_over weigh extreme cells column s (codes_touching seen.dims region)) (sym same)
      ∙ ap (λ cs. end_over weigh extreme cs column seen (codes_touching seen.dims region)) told
      ∙ end-touching (policy_in weigh seen) seen.dims seen.facts trees regions extreme column region (keys_of (held seen.kept.groups)) grouped
      ∙ ap (λ (s : StateValue P). end_of extreme (cells_of s.dims region) column (rows_in weigh s)) same
