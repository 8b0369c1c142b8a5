-- The groups of regions that have no cell in common with a region have no share in it.
use Rattle.std.proofs.Common.{◌≡◌, ℕ, ◌+◌, ◌<◌, Bool, true, false, List, [], ◌∷◌, ◌++◌, get_or, length, map, refl, ap, sym, ◌∙◌, true≢false, ne_eqb, arith}
use Rattle.std.specs.Prelude.{All, filter, find, not, nat_lt, slice_get, ◌==◌, if◌then◌else◌, Option, Some, None}
use Rattle.std.specs.List.{cons_option, count_by, list_any, sum_by}
use Rattle.std.specs.Option.{option_map}
use Rattle.std.proofs.lemmas.Bool.{or_parts}
use Rattle.std.proofs.lemmas.Bool.Decides.{nat_tests}
use Rattle.std.proofs.lemmas.List.{append-nil, map-append}
use Rattle.std.proofs.lemmas.List.Elements.{All-cons, All-filter, All-head, All-map, All-tail, filter-append, filter_map-append}
use Rattle.std.proofs.lemmas.List.Folds.{list_any_at}
use Rattle.std.proofs.lemmas.List.Sums.{sum_by-append, sum_by-cons}
use Rattle.std.proofs.lemmas.Option.{same_Some}
use Rattle.cube_model.specs.declared.edit.Fact.{Fact}
use Rattle.cube_model.specs.Allocation.{Allocation, Policy, allocation, spread, spread_by, spread_evenly, weight_of}
use Rattle.cube_model.specs.Answer.{weight_inside}
use Rattle.cube_model.specs.Cells.{cells_of, is_among}
use Rattle.cube_model.specs.Tree.{Dimension, IsTree}
use Rattle.cube_model.proofs.Ascending.{any-turned, ascends_places}
use Rattle.region_algebra.specs.Space.{IsRegion, all_regions, code_of}
use Rattle.region_algebra.proofs.Tuples.{region-at_code}
use Rattle.region_index.specs.Touching.{codes_touching}
use Rattle.region_index.proofs.Places.{among-places}
use Rattle.fact_groups.specs.Groups.{AreGrouped, Group, column_sums, facts_with, group_at, groups_at, has_code}
use Rattle.fact_groups.specs.Partition.{IsPartition}
use Rattle.fact_groups.proofs.Ascending.{once_among}
use Rattle.fact_groups.proofs.Groups.{first-holds, first-passes}
use Rattle.group_sum.specs.declared.shares.Share.{Share}
use Rattle.cube_state.specs.Answering.{group_share, shares_of}

-- where none of the cells is among others, none of the others is among the cells
pub apart-each : (others cells : List ℕ) (k d : ℕ) → k < length others → list_any (is_among others) cells ≡ false → is_among cells (get_or others k d) ≡ false
apart-each others [] k d within apart = refl
apart-each others (cell ∷ cells) k d within apart =
    let parts = or_parts (is_among others cell) (list_any (is_among others) cells) apart in
    let other : (cell == get_or others k d) ≡ false = ne_eqb cell (get_or others k d) (λ same.
    let there : is_among others cell ≡ true = list_any_at (λ c. c == cell) others k d within (grind (arith, nat_tests, same)) in
    absurd (true≢false (sym there ∙ parts.0))) in
    rw other (apart-each others cells k d within parts.1)

-- what is spread over cells has rows of these cells
module _ (P : ℕ → Type 0) where
  on-cells : (weight : ℕ → ℕ) (cells : List ℕ) → All P cells → All {X = ℕ × ℕ} (λ row. P row.0) (map (λ cell. (cell, weight cell)) cells)
  on-cells weight cells each = All-map (λ (row : ℕ × ℕ). P row.0) (λ cell. (cell, weight cell)) cells each

  either-rows : (b c : Bool) (even weighed : Allocation) → All (λ row. P row.0) even.rows → All (λ row. P row.0) weighed.rows → All (λ row. P row.0) (if b then even else (if c then even else weighed)).rows
  either-rows true c even weighed first second = first
  either-rows false true even weighed first second = first
  either-rows false false even weighed first second = second

  pub spread-on : (weight : ℕ → ℕ) (cells : List ℕ) → All P cells → All (λ row. P row.0) (spread weight cells).rows
  spread-on weight cells each =
      either-rows (length cells == 1) (sum_by weight cells == 0) (spread_evenly cells) (spread_by weight cells) (on-cells (λ cell. 1) cells each)
      (All-filter (λ (row : ℕ × ℕ). nat_lt 0 row.1) (λ (row : ℕ × ℕ). P row.0) (map (λ cell. (cell, weight cell)) cells) (on-cells weight cells each))

-- rows of other cells weigh nothing inside
weight-none : (cells : List ℕ) (rows : List (ℕ × ℕ)) → All (λ row. is_among cells row.0 ≡ false) rows → sum_by (λ row. row.1) (filter (λ row. is_among cells row.0) rows) ≡ 0
weight-none cells [] each = refl
weight-none cells (row ∷ rows) each =
    let here : is_among cells row.0 ≡ false = All-head (λ (row : ℕ × ℕ). is_among cells row.0 ≡ false) row rows each in
    rw here (weight-none cells rows (All-tail (λ (row : ℕ × ℕ). is_among cells row.0 ≡ false) row rows each))

module _ (policy : Policy) (columns : ℕ) (dims : List Dimension) (facts : List Fact) (trees : All IsTree dims) (regions : All (λ f. IsRegion dims f.region) facts) (region : List ℕ) where
  abbrev cells : List ℕ
  cells = cells_of dims region

  -- of a fact's code it is told whether its region has a cell in common
  pub touching-told : (code : ℕ) (f : Fact) → IsRegion dims f.region → code_of dims f.region ≡ code → is_among (codes_touching dims region) code ≡ list_any (is_among (cells_of dims f.region)) cells
  unfolding codes_touching
  touching-told code f named is =
      among-places (λ other. list_any (is_among (cells_of dims other)) cells) 0 code code (all_regions dims) f.region (omega arith) (ap (slice_get (all_regions dims)) (sym is) ∙ region-at_code dims f.region trees named)

  -- a group at another code weighs nothing inside
  pub group-outside : (code : ℕ) (g : Group) → group_at policy columns dims facts code ≡ Some g → is_among (codes_touching dims region) code ≡ false → weight_inside cells g.spread ≡ 0
  unfolding allocation
  group-outside code g is outside = by (find (has_code dims code) facts) refl is
    where
      by : (found : Option Fact) → find (has_code dims code) facts ≡ found
          → option_map (λ f. record { spread = allocation policy dims facts f; count = length (facts_with dims code facts); sums = column_sums columns (facts_with dims code facts) }) found ≡ Some g → weight_inside cells g.spread ≡ 0
      by None there none = cc
      by (Some f) there some =
          let whole : Group = record { spread = allocation policy dims facts f; count = length (facts_with dims code facts); sums = column_sums columns (facts_with dims code facts) } in
          let same : whole ≡ g = same_Some whole g some in
          let spread_is : allocation policy dims facts f ≡ g.spread = ap (λ (x : Group). x.spread) same in
          let passes : has_code dims code f ≡ true = first-passes (has_code dims code) facts f there in
          let coded : code_of dims f.region ≡ code = grind (arith, nat_tests, passes) in
          let named : IsRegion dims f.region = first-holds (λ f. IsRegion dims f.region) (has_code dims code) facts f regions there in
          let apart : list_any (is_among (cells_of dims f.region)) cells ≡ false = sym (touching-told code f named coded) ∙ outside in
          let rows = spread-on (λ cell. is_among cells cell ≡ false) (weight_of policy dims facts) (cells_of dims f.region) (λ k d within. apart-each (cells_of dims f.region) cells k d within apart) in
          ap (weight_inside cells) (sym spread_is) ∙ weight-none cells (spread (weight_of policy dims facts) (cells_of dims f.region)).rows rows

  -- so groups at other codes have no share
  shares-outside : (codes : List ℕ) → All (λ code. is_among (codes_touching dims region) code ≡ false) codes → shares_of cells (groups_at policy columns dims facts codes) ≡ []
  shares-outside [] each = refl
  shares-outside (code ∷ codes) each =
      by (group_at policy columns dims facts code) refl (shares-outside codes (All-tail (λ code. is_among (codes_touching dims region) code ≡ false) code codes each))
    where
      outside : is_among (codes_touching dims region) code ≡ false
      outside = All-head (λ code. is_among (codes_touching dims region) code ≡ false) code codes each

      by : (o : Option Group) → group_at policy columns dims facts code ≡ o → shares_of cells (groups_at policy columns dims facts codes) ≡ [] → shares_of cells (cons_option o (groups_at policy columns dims facts codes)) ≡ []
      by None is rest = rest
      by (Some g) is rest = rw (group-outside code g is outside) rest

  -- All codes: those of the regions that have a cell in common, and the others of those that hold the facts.
  module _ (held : List ℕ) (grouped : AreGrouped dims facts held) where
    abbrev is_other : ℕ → Bool
    is_other code = not (is_among (codes_touching dims region) code)

    abbrev pub all_codes : List ℕ
    all_codes = codes_touching dims region ++ filter is_other held

    pub other-codes : (codes : List ℕ) → All (λ code. is_among (codes_touching dims region) code ≡ false) (filter is_other codes)
    other-codes [] = λ k d within. absurd (omega (arith, within))
    other-codes (code ∷ codes) = by (is_among (codes_touching dims region) code) refl (other-codes codes)
      where
        by : (b : Bool) → is_among (codes_touching dims region) code ≡ b → All (λ code. is_among (codes_touching dims region) code ≡ false) (filter is_other codes)
            → All (λ code. is_among (codes_touching dims region) code ≡ false) (if not b then code ∷ filter is_other codes else filter is_other codes)
        by true is rest = rest
        by false is rest = All-cons (λ code. is_among (codes_touching dims region) code ≡ false) code (filter is_other codes) is rest

    -- among the others there is no code of a region that has a cell in common, and each other one as often as it is held
    count-none : (c : ℕ) (codes : List ℕ) → is_among (codes_touching dims region) c ≡ true → count_by (λ k. c == k) (filter is_other codes) ≡ 0
    count-none c [] among = refl
    count-none c (k ∷ ks) among = by (is_among (codes_touching dims region) k) refl (count-none c ks among)
      where
        by : (b : Bool) → is_among (codes_touching dims region) k ≡ b → count_by (λ k. c == k) (filter is_other ks) ≡ 0 → count_by (λ k. c == k) (if not b then k ∷ filter is_other ks else filter is_other ks) ≡ 0
        by true is rest = rest
        by false is rest =
            let other : (c == k) ≡ false = ne_eqb c k (λ same. absurd (true≢false (sym among ∙ ap (is_among (codes_touching dims region)) same ∙ is))) in
            omega (arith, sum_by-cons (λ k. if c == k then 1 else 0) k (filter is_other ks), ap {B = ℕ} (λ b. if b then 1 else 0) other, rest)

    count-kept : (c : ℕ) (codes : List ℕ) → is_among (codes_touching dims region) c ≡ false → count_by (λ k. c == k) (filter is_other codes) ≡ count_by (λ k. c == k) codes
    count-kept c [] apart = refl
    count-kept c (k ∷ ks) apart = by (is_among (codes_touching dims region) k) refl (count-kept c ks apart)
      where
        by : (b : Bool) → is_among (codes_touching dims region) k ≡ b → count_by (λ k. c == k) (filter is_other ks) ≡ count_by (λ k. c == k) ks
            → count_by (λ k. c == k) (if not b then k ∷ filter is_other ks else filter is_other ks) ≡ count_by (λ k. c == k) (k ∷ ks)
        by true is rest =
            let other : (c == k) ≡ false = ne_eqb c k (λ same. absurd (true≢false (sym is ∙ ap (is_among (codes_touching dims region)) (sym same) ∙ apart))) in
            omega (arith, sum_by-cons (λ k. if c == k then 1 else 0) k ks, ap {B = ℕ} (λ b. if b then 1 else 0) other, rest)
        by false is rest = omega (arith, sum_by-cons (λ k. if c == k then 1 else 0) k ks, sum_by-cons (λ k. if c == k then 1 else 0) k (filter is_other ks), rest)

    count-touching : (c : ℕ) → count_by (λ k. c == k) (codes_touching dims region) ≡ (if is_among (codes_touching dims region) c then 1 else 0)
    unfolding codes_touching
    count-touching c =
        once_among 0 (codes_touching dims region) (ascends_places (λ other. list_any (is_among (cells_of dims other)) cells) 0 (all_regions dims)) c
        ∙ ap {B = ℕ} (λ b. if b then 1 else 0) (any-turned c (codes_touching dims region))

    -- so each fact's code is one of all, once
    once : IsPartition (has_code dims) all_codes facts
    once k d within =
        let c = code_of dims (get_or facts k d).region in
        let both : count_by (λ k. c == k) all_codes ≡ count_by (λ k. c == k) (codes_touching dims region) + count_by (λ k. c == k) (filter is_other held) =
        sum_by-append (λ k. if c == k then 1 else 0) (codes_touching dims region) (filter is_other held) in
        by c (is_among (codes_touching dims region) c) refl both (grouped.held k d within)
      where
        by : (c : ℕ) (b : Bool) → is_among (codes_touching dims region) c ≡ b → count_by (λ k. c == k) all_codes ≡ count_by (λ k. c == k) (codes_touching dims region) + count_by (λ k. c == k) (filter is_other held)
            → count_by (λ k. c == k) held ≡ 1 → count_by (λ k. c == k) all_codes ≡ 1
        by c true is both one = omega (arith, both, count-touching c, ap {B = ℕ} (λ b. if b then 1 else 0) is, count-none c held is)
        by c false is both one = omega (arith, both, count-touching c, ap {B = ℕ} (λ b. if b then 1 else 0) is, count-kept c held is, one)

    pub grouped-all : AreGrouped dims facts all_codes
    grouped-all = record { trees = trees; regions = regions; held = once }

    -- and the groups that have shares are those of the regions that have a cell in common
    pub shares-all : shares_of cells (groups_at policy columns dims facts all_codes) ≡ shares_of cells (groups_at policy columns dims facts (codes_touching dims region))
    shares-all =
        let first = groups_at policy columns dims facts (codes_touching dims region) in
        let others = groups_at policy columns dims facts (filter is_other held) in
        ap (shares_of cells) (filter_map-append (group_at policy columns dims facts) (codes_touching dims region) (filter is_other held))
        ∙ ap (filter (λ (s : Share). nat_lt 0 s.weight)) (map-append (group_share cells) first others)
        ∙ filter-append (λ (s : Share). nat_lt 0 s.weight) (map (group_share cells) first) (map (group_share cells) others)
        ∙ ap (λ (shares : List Share). shares_of cells first ++ shares) (shares-outside (filter is_other held) (other-codes held))
        ∙ append-nil (shares_of cells first)
