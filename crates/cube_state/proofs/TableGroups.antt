-- Of the groups near a region the facts answer as all facts do in each region under it.
use Rattle.std.proofs.Common.{◌≡◌, ℕ, ◌≤◌, Bool, true, false, List, [], ◌∷◌, refl, ap, sym, ◌∙◌, true≢false, arith, pos}
use Rattle.std.specs.Prelude.{All, filter, is_some, not, if◌then◌else◌, Option, Some, None, slice_get}
use Rattle.std.specs.List.{cons_option, flat_map, list_any, range_with_len, sum_by}
use Rattle.std.specs.Option.{option_map_or}
use Rattle.std.proofs.lemmas.Int.{ints}
use Rattle.std.proofs.lemmas.List.Sums.{sum_by-cons}
use Rattle.cube_model.specs.declared.edit.Fact.{Fact}
use Rattle.cube_model.specs.declared.statistic.CellStat.{CellStat}
use Rattle.cube_model.specs.Allocation.{ExtendedFact, Policy, extended}
use Rattle.cube_model.specs.Answer.{answer, weight_inside}
use Rattle.cube_model.specs.Ascending.{ascends_from}
use Rattle.cube_model.specs.Cells.{all_cells, cells_of, is_among, is_inside}
use Rattle.cube_model.specs.Tree.{Dimension, IsTree}
use Rattle.cube_model.proofs.Ascending.{ascends_places}
use Rattle.fact_groups.specs.Groups.{Group, count_in, group_at, group_facts, groups_at, sum_in}
use Rattle.fact_groups.proofs.AsFacts.{count-as_facts, some-facts, sum-as_facts}
use Rattle.fact_records.specs.Shape.{ShapeValue, policy_over, width_of_all}
use Rattle.fact_records.specs.Valid.{AreValid}
use Rattle.group_sum.specs.Shares.{product_at, units_at}
use Rattle.region_algebra.specs.Space.{IsRegion, all_regions, region_total}
use Rattle.region_index.specs.Touching.{codes_touching}
use Rattle.staged_map.specs.Staged.{Places}
use Rattle.view_store.proofs.CutRegions.{inside-inside}
use Rattle.region_algebra.proofs.LeafTuples.{is_among-inside}
use Rattle.view_store.proofs.OfFacts.{answers-alike}
use Rattle.fact_indexes.specs.Anew.{AreGroupsOf}
use Rattle.fact_indexes.proofs.SplitGroups.{counts-split, others_of, sums-split}
use Rattle.fact_indexes.proofs.ValidFacts.{valid-regions}
use Rattle.cube_state.specs.Answering.{shares_of}
use Rattle.cube_state.specs.Tables.{HoldTouching}
use Rattle.cube_state.proofs.GroupShares.{products-are, units-are}
use Rattle.cube_state.proofs.TouchingShares.{group-outside}

-- the codes of the regions that have a cell in common are such
pub touching-held : (dims : List Dimension) (groups : Places Group) (region codes : List ℕ) → codes ≡ codes_touching dims region → HoldTouching dims groups region codes
unfolding codes_touching
touching-held dims groups region codes are = record {
  ascending = ap (ascends_from (λ x. x) 0) are ∙ ascends_places (λ other. list_any (is_among (cells_of dims other)) (cells_of dims region)) 0 (all_regions dims);
  each = λ code some touches. ap (λ cs. is_among cs code) are ∙ touches;
}

-- what lies in a region lies in each region over it
module _ (dims : List Dimension) (region low : List ℕ) (trees : All IsTree dims) (named : IsRegion dims region) (named_low : IsRegion dims low) (under : is_inside dims region low ≡ true) where
  cell-over : (cell : ℕ) → is_among (cells_of dims low) cell ≡ true → is_among (cells_of dims region) cell ≡ true
  cell-over cell among = is_among-inside dims region cell ∙ by (slice_get (all_cells dims) cell) (sym (is_among-inside dims low cell) ∙ among)
    where
      by : (o : Option (List ℕ)) → option_map_or (is_inside dims low) o false ≡ true → option_map_or (is_inside dims region) o false ≡ true
      by None inside = absurd (true≢false (sym inside))
      by (Some leaves) inside = inside-inside dims region low leaves trees named named_low under inside

  rows-over : (rows : List (ℕ × ℕ)) → sum_by (λ row. row.1) (filter (λ row. is_among (cells_of dims low) row.0) rows) ≤ sum_by (λ row. row.1) (filter (λ row. is_among (cells_of dims region) row.0) rows)
  rows-over [] = omega arith
  rows-over (row ∷ rows) = by (is_among (cells_of dims low) row.0) (is_among (cells_of dims region) row.0) refl refl (rows-over rows)
    where
      inner : List (ℕ × ℕ)
      inner = filter (λ row. is_among (cells_of dims low) row.0) rows

      outer : List (ℕ × ℕ)
      outer = filter (λ row. is_among (cells_of dims region) row.0) rows

      by : (a b : Bool) → is_among (cells_of dims low) row.0 ≡ a → is_among (cells_of dims region) row.0 ≡ b → sum_by (λ row. row.1) inner ≤ sum_by (λ row. row.1) outer
          → sum_by (λ row. row.1) (if a then row ∷ inner else inner) ≤ sum_by (λ row. row.1) (if b then row ∷ outer else outer)
      by true true first second rest = omega (arith, sum_by-cons (λ (row : ℕ × ℕ). row.1) row inner, sum_by-cons (λ (row : ℕ × ℕ). row.1) row outer, rest)
      by true false first second rest = absurd (true≢false (sym (cell-over row.0 first) ∙ second))
      by false true first second rest = omega (arith, sum_by-cons (λ (row : ℕ × ℕ). row.1) row outer, rest)
      by false false first second rest = rest

  nothing-under : (g : Group) → weight_inside (cells_of dims region) g.spread ≡ 0 → weight_inside (cells_of dims low) g.spread ≡ 0
  nothing-under g none = omega (arith, rows-over g.spread.rows, none)

module _ (weigh : CellStat → ℕ) (shape : ShapeValue) (dims : List Dimension) (facts : List Fact) (trees : All IsTree dims) (valid : AreValid shape dims facts)
    (groups : Places Group) (kept : AreGroupsOf (policy_over weigh shape) shape dims facts groups) (region codes : List ℕ) (hold : HoldTouching dims groups region codes) where
  abbrev policy : Policy
  policy = policy_over weigh shape

  abbrev width : ℕ
  width = width_of_all shape.measures

  -- the facts of the groups at the codes
  abbrev pub near : List ExtendedFact
  near = flat_map group_facts (groups_at policy width dims facts codes)

  regions : All (λ f. IsRegion dims f.region) facts
  regions = valid-regions shape dims facts valid

  -- a group at another code has nothing in the region
  nothing-elsewhere : (code : ℕ) (g : Group) → group_at policy width dims facts code ≡ Some g → is_among codes code ≡ false → weight_inside (cells_of dims region) g.spread ≡ 0
  nothing-elsewhere code g is other = by (is_among (codes_touching dims region) code) refl
    where
      by : (b : Bool) → is_among (codes_touching dims region) code ≡ b → weight_inside (cells_of dims region) g.spread ≡ 0
      by true touches = absurd (true≢false (sym (hold.each code (ap is_some (kept code ∙ is)) touches) ∙ other))
      by false apart = group-outside policy width dims facts trees regions region code g is apart

  module _ (low : List ℕ) (named : IsRegion dims region) (named_low : IsRegion dims low) (under : is_inside dims region low ≡ true) where
    abbrev cells : List ℕ
    cells = cells_of dims low

    abbrev others : List Group
    others = groups_at policy width dims facts (others_of dims codes)

    no-shares : (some : List ℕ) → shares_of cells (groups_at policy width dims facts (filter (λ c. not (is_among codes c)) some)) ≡ []
    no-shares [] = refl
    no-shares (code ∷ some) = by (is_among codes code) refl (no-shares some)
      where
        rest_codes : List ℕ
        rest_codes = filter (λ c. not (is_among codes c)) some

        found : (o : Option Group) → group_at policy width dims facts code ≡ o → is_among codes code ≡ false → shares_of cells (groups_at policy width dims facts rest_codes) ≡ [] → shares_of cells (cons_option o (groups_at policy width dims facts rest_codes)) ≡ []
        found None is other rest = rest
        found (Some g) is other rest =
            let none : weight_inside cells g.spread ≡ 0 = nothing-under dims region low trees named named_low under g (nothing-elsewhere code g is other) in
            rw none rest

        by : (b : Bool) → is_among codes code ≡ b → shares_of cells (groups_at policy width dims facts rest_codes) ≡ [] → shares_of cells (groups_at policy width dims facts (if not b then code ∷ rest_codes else rest_codes)) ≡ []
        by true is rest = rest
        by false is rest = found (group_at policy width dims facts code) refl is rest

    none : shares_of cells others ≡ []
    none = no-shares (range_with_len 0 (region_total dims))

    no-count : (d : ℕ) → count_in cells others d ≡ 0
    no-count d = sym (units-are cells d others) ∙ ap (λ shares. units_at shares d) none

    no-sum : (d k : ℕ) → sum_in cells others k d ≡ pos 0
    no-sum d k = sym (products-are cells d k others) ∙ ap (λ shares. product_at shares d k) none

    -- so they answer alike
    pub near-answer : answer width dims near low ≡ answer width dims (extended policy dims facts) low
    near-answer =
        let some : List Group = groups_at policy width dims facts codes in
        answers-alike width dims near (extended policy dims facts) low
        (λ d. omega (arith, count-as_facts cells d some (some-facts policy width dims facts codes), counts-split policy width dims codes trees hold.ascending facts regions cells d, no-count d))
        (λ d k lt. omega (arith, ints, sum-as_facts cells k d some, sums-split policy width dims codes trees hold.ascending facts regions cells k d lt, no-sum d k))
