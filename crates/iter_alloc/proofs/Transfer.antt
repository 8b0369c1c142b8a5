-- Rounds over the places of marked spots are rounds of the facts, and portions by them are those of the facts.
use Rattle.cube_model.specs.declared.edit.Fact.{Fact}
use Rattle.iter_alloc.specs.declared.rounds.Span.{Span}
use Rattle.iter_alloc.specs.declared.spots.First.{First}
use Rattle.cube_model.proofs.Ascending.{ascends_cells}
use Rattle.cube_model.specs.Ascending.{ascends_from}
use Rattle.cube_model.specs.Cells.{cells_of, is_among}
use Rattle.cube_model.specs.Facts.{is_precise}
use Rattle.cube_model.specs.Limits.{MAX_CELLS}
use Rattle.cube_model.specs.Tree.{Dimension, IsTree}
use Rattle.fact_groups.proofs.Partition.{sum_by-filter}
use Rattle.iter_alloc.proofs.Bounded.{level-bound, share_by-unit}
use Rattle.iter_alloc.proofs.Kept.{all-among, portion-apart, same-portion}
use Rattle.iter_alloc.proofs.Numbering.{marked-few}
use Rattle.iter_alloc.proofs.PlaceSums.{sum_by-among, sum_by-map}
use Rattle.iter_alloc.proofs.SpotFacts.{spots-are, spots-within}
use Rattle.iter_alloc.proofs.SpotRegions.{in-spots, region-of_spot}
use Rattle.iter_alloc.proofs.Weighing.{amount-same, portion-same, sum-spots, value_in}
use Rattle.iter_alloc.specs.Counting.{ArePlacedIn}
use Rattle.iter_alloc.specs.Forest.{at}
use Rattle.iter_alloc.specs.Iterated.{portion}
use Rattle.iter_alloc.specs.LaidOut.{marked_cells, part_at, AreLaidOut}
use Rattle.iter_alloc.specs.Marks.{is_marked, spot_region, is_kept, AreMarks, is_of, AreMembers}
use Rattle.iter_alloc.specs.Places.{Part, parts, amount, amounts, placed_level, LEVEL_LIMIT}
use Rattle.iter_alloc.specs.Portions.{portion_in, ArePortions, PORTION_LIMIT}
use Rattle.iter_alloc.specs.Rounds.{WHOLE_FACT, start, has_cell, share_by, given_to_cell, level_from}
use Rattle.iter_alloc.specs.Spotting.{spot_of, spot_in, spotted_all}
use Rattle.region_algebra.specs.Space.{common_cells}
use Rattle.std.proofs.Common.{◌≡◌, ℕ, zero, suc, ◌+◌, ◌-◌, ◌*◌, ◌<◌, ◌≤◌, Bool, true, false, List, [], ◌∷◌, get_or, length, map, refl, ap, sym, ◌∙◌, subst, arith}
use Rattle.std.proofs.lemmas.List.{get_or-map, get_or_default}
use Rattle.std.proofs.lemmas.List.Elements.{All-contains, All-filter, Contains-get_or}
use Rattle.std.proofs.lemmas.List.FromFn.{get_or-map-range_with_len, get_or-range_with_len, length-map-range_with_len, length-range_with_len}
use Rattle.std.proofs.lemmas.List.Sums.{sum_by-le, length-filter, count_by-le-length}
use Rattle.std.specs.List.{sum_by, count_by, range_with_len, Contains}
use Rattle.std.specs.Prelude.{All, Option, Some, None, if◌then◌else◌, not, ◌&&◌, filter}

module _ (dims : List Dimension) (facts : List Fact) (firsts : List First) (spots : List (Option ℕ)) (marks : List Bool) (trees : All IsTree dims) (placed : ArePlacedIn dims facts)
    (is : record { firsts = firsts; spots = spots } ≡ spotted_all dims facts) where
  abbrev givers : List Fact
  givers = filter (is_kept dims firsts marks) facts

  abbrev cells : ℕ → List ℕ
  cells spot = marked_cells dims firsts marks spot

  -- what a cell gets of each fact of a spot, if it is marked
  abbrev worth : (ℕ → ℕ) → ℕ → ℕ → ℕ
  worth level cell spot = if is_among (cells spot) cell then share_by level (cells spot) cell else 0

  worth-of : (level : ℕ → ℕ) (cell : ℕ) (f : Fact) (spot : ℕ) (p b : Bool) (region : List ℕ) → (p ≡ false → region ≡ f.region)
      → (if b then (if not p && is_among (cells_of dims f.region) cell then share_by level (cells_of dims f.region) cell else 0) else 0)
      ≡ value_in (λ s. if is_among (if b then cells_of dims region else []) cell then share_by level (if b then cells_of dims region else []) cell else 0) (if p then None else Some spot)
  worth-of level cell f spot true true region same = refl
  worth-of level cell f spot true false region same = refl
  worth-of level cell f spot false true region same = ap (λ (r : List ℕ). if is_among (cells_of dims r) cell then share_by level (cells_of dims r) cell else 0) (sym (same refl))
  worth-of level cell f spot false false region same = refl

  fact-worth : (level : ℕ → ℕ) (cell : ℕ) (f : Fact) → Contains facts f
      → (if is_kept dims firsts marks f then (if has_cell dims cell f then share_by level (cells_of dims f.region) cell else 0) else 0) ≡ value_in (worth level cell) (spot_in dims firsts f)
  fact-worth level cell f among =
      either (is_precise dims f) refl
    where
      either : (p : Bool) → is_precise dims f ≡ p
          → (if is_kept dims firsts marks f then (if not p && is_among (cells_of dims f.region) cell then share_by level (cells_of dims f.region) cell else 0) else 0)
          ≡ value_in (worth level cell) (if p then None else Some (spot_of dims firsts f))
      either true precise = worth-of level cell f (spot_of dims firsts f) true (is_kept dims firsts marks f) (spot_region firsts (spot_of dims firsts f)) (λ apart. absurd (cc apart))
      either false several = worth-of level cell f (spot_of dims firsts f) false (is_kept dims firsts marks f) (spot_region firsts (spot_of dims firsts f)) (λ _. region-of_spot dims facts firsts spots trees placed (spots-are dims facts firsts spots placed is) f among several)

  given_to_cell-worth : (level : ℕ → ℕ) (cell : ℕ) → given_to_cell dims givers level cell ≡ sum_by (value_in (worth level cell)) spots
  given_to_cell-worth level cell =
      sum_by-filter (has_cell dims cell) (λ f. share_by level (cells_of dims f.region) cell) givers
      ∙ sum_by-filter (is_kept dims firsts marks) (λ f. if has_cell dims cell f then share_by level (cells_of dims f.region) cell else 0) facts
      ∙ sum_by-among (λ f. if is_kept dims firsts marks f then (if has_cell dims cell f then share_by level (cells_of dims f.region) cell else 0) else 0) (λ f. value_in (worth level cell) (spot_in dims firsts f)) facts
      (λ k d within. fact-worth level cell (get_or facts k d) (Contains-get_or facts k d within))
      ∙ sym (sum_by-map (value_in (worth level cell)) (spot_in dims firsts) facts)
      ∙ ap (λ (os : List (Option ℕ)). sum_by (value_in (worth level cell)) os) (sym (spots-are dims facts firsts spots placed is).spots)

  abbrev none : First
  none = record { id = 0; region = [] }

  pub first-sizes : All (λ first. length (cells_of dims first.region) ≤ MAX_CELLS) firsts
  first-sizes k d within =
      let of = (spots-are dims facts firsts spots placed is).firsts k d within in
      subst (λ (first : First). length (cells_of dims first.region) ≤ MAX_CELLS) of.is (All-contains (λ f. length (cells_of dims f.region) ≤ MAX_CELLS) facts of.fact placed.sizes of.among)

  ascends-marked : (spot : ℕ) → ascends_from (λ c. c) 0 (cells spot) ≡ true
  ascends-marked spot = either (is_marked marks spot)
    where
      either : (b : Bool) → ascends_from (λ c. c) 0 (if b then cells_of dims (spot_region firsts spot) else []) ≡ true
      either true = ascends_cells dims (spot_region firsts spot)
      either false = refl

  module _ (members keys flat : List ℕ) (spans : List Span) (counted : AreMembers spots (length firsts) members) (laid : AreLaidOut dims firsts marks members (length firsts) keys flat spans) where
    abbrev all : List Part
    all = parts spans flat

    abbrev begun : List ℕ
    begun = map (start dims facts) keys

    abbrev level : ℕ → ℕ → ℕ
    level n cell = level_from dims facts givers n cell

    below : (k d : ℕ) → k < length (range_with_len 0 (length firsts)) → get_or (range_with_len 0 (length firsts)) k d < length firsts
    below k d within =
        let inside : k < length firsts = omega (arith, within, length-range_with_len 0 (length firsts)) in
        omega (arith, get_or-range_with_len 0 (length firsts) k d inside, inside)

    spot-amount : (l p : ℕ → ℕ) → ((i : ℕ) → i < length keys → p i ≡ l (at keys i)) → (i : ℕ) → i < length keys → (spot : ℕ) → spot < length firsts
        → amount p i (part_at dims firsts marks members keys spot) ≡ count_by (is_of spot) spots * worth l (at keys i) spot
    spot-amount l p same i inside spot within =
        amount-same keys laid.own l p same (cells spot) (laid.has spot within) 0 (at members spot) i inside (ascends-marked spot) ∙ ap (λ n. n * worth l (at keys i) spot) (counted.each spot within)

    round-same : (l p : ℕ → ℕ) → ((i : ℕ) → i < length keys → p i ≡ l (at keys i)) → (i : ℕ) → i < length keys → amounts p all i ≡ given_to_cell dims givers l (at keys i)
    round-same l p same i inside =
        ap (λ (ps : List Part). sum_by (amount p i) ps) laid.parts_are
        ∙ sum_by-map (amount p i) (part_at dims firsts marks members keys) (range_with_len 0 (length firsts))
        ∙ sum_by-among (λ k. amount p i (part_at dims firsts marks members keys k)) (λ k. count_by (is_of k) spots * worth l (at keys i) k) (range_with_len 0 (length firsts))
        (λ k d within. spot-amount l p same i inside (get_or (range_with_len 0 (length firsts)) k d) (below k d within))
        ∙ sum-spots (worth l (at keys i)) (length firsts) spots (spots-within dims facts firsts spots placed is (length firsts) refl)
        ∙ sym (given_to_cell-worth l (at keys i))

    pub levels-same : (n i : ℕ) → i < length keys → placed_level begun all n i ≡ level n (at keys i)
    unfolding placed_level level_from
    levels-same zero i inside = get_or-map (start dims facts) keys i 0 0 inside
    levels-same (suc n) i inside =
        ap (λ m. m + amounts (placed_level begun all n) all i) (get_or-map (start dims facts) keys i 0 0 inside)
        ∙ ap (λ m. start dims facts (at keys i) + m) (round-same (level n) (placed_level begun all n) (levels-same n) i inside)

    pub levels-low : (n i : ℕ) → i < length keys → placed_level begun all n i ≤ LEVEL_LIMIT
    levels-low n i inside = omega (arith, levels-same n i inside, level-bound dims (is_kept dims firsts marks) facts n (at keys i), placed.few)

    -- portions
    module _ (rounds : ℕ) (region : List ℕ) (marked : AreMarks dims facts firsts region marks) where
      abbrev inside : List ℕ
      inside = cells_of dims region

      spot-portion : (spot : ℕ) → spot < length firsts
          → portion_in inside keys (placed_level begun all (rounds - 1)) (part_at dims firsts marks members keys spot) ≡ sum_by (share_by (level (rounds - 1)) (cells spot)) (filter (is_among inside) (cells spot))
      spot-portion spot within = portion-same keys laid.own (level (rounds - 1)) (placed_level begun all (rounds - 1)) (levels-same (rounds - 1)) (cells spot) (laid.has spot within) inside (at members spot)

      module _ (portions : List ℕ) (are : portions ≡ map (portion_in inside keys (placed_level begun all (rounds - 1))) all) where
        portions-are : portions ≡ map (λ spot. portion_in inside keys (placed_level begun all (rounds - 1)) (part_at dims firsts marks members keys spot)) (range_with_len 0 (length firsts))
        portions-are = are ∙ ap (λ (ps : List Part). map (portion_in inside keys (placed_level begun all (rounds - 1))) ps) laid.parts_are ∙ map-twice (range_with_len 0 (length firsts))
          where
            map-twice : (ks : List ℕ) → map (portion_in inside keys (placed_level begun all (rounds - 1))) (map (part_at dims firsts marks members keys) ks)
                ≡ map (λ spot. portion_in inside keys (placed_level begun all (rounds - 1)) (part_at dims firsts marks members keys spot)) ks
            map-twice [] = refl
            map-twice (k ∷ ks) = ap (λ ns. portion_in inside keys (placed_level begun all (rounds - 1)) (part_at dims firsts marks members keys k) ∷ ns) (map-twice ks)

        long : length portions ≡ length firsts
        long = ap (λ (ns : List ℕ). length ns) portions-are ∙ length-map-range_with_len (λ spot. portion_in inside keys (placed_level begun all (rounds - 1)) (part_at dims firsts marks members keys spot)) 0 (length firsts)

        portion-at : (spot d : ℕ) → spot < length firsts → get_or portions spot d ≡ sum_by (share_by (level (rounds - 1)) (cells spot)) (filter (is_among inside) (cells spot))
        portion-at spot d within =
            ap (λ (ns : List ℕ). get_or ns spot d) portions-are
            ∙ get_or-map-range_with_len (λ spot. portion_in inside keys (placed_level begun all (rounds - 1)) (part_at dims firsts marks members keys spot)) 0 (length firsts) spot spot d within (omega arith)
            ∙ spot-portion spot within

        cells-few : (spot : ℕ) → spot < length firsts → length (cells spot) ≤ MAX_CELLS
        cells-few spot within = marked-few dims firsts marks spot (get_or firsts spot none) within (get_or_default firsts spot none (get_or firsts spot none) within) first-sizes

        low : All (λ n. n ≤ PORTION_LIMIT) portions
        low k d within =
            let k_inside : k < length firsts = omega (arith, within, long) in
            let each = All-filter (is_among inside) (λ c. share_by (level (rounds - 1)) (cells k) c ≤ WHOLE_FACT) (cells k) (λ j e in_cells. share_by-unit (level (rounds - 1)) (cells k) (get_or (cells k) j e) (all-among (cells k) j e in_cells)) in
            omega (
              arith,
              portion-at k d k_inside,
              sum_by-le (share_by (level (rounds - 1)) (cells k)) WHOLE_FACT (filter (is_among inside) (cells k)) each,
              length-filter (is_among inside) (cells k),
              count_by-le-length (is_among inside) (cells k),
              cells-few k k_inside,
            )

        module _ (f : Fact) (among : Contains facts f) (several : is_precise dims f ≡ false) where
          abbrev spot : ℕ
          spot = spot_of dims firsts f

          within_spots : spot < length firsts
          within_spots = in-spots dims facts firsts spots trees placed (spots-are dims facts firsts spots placed is) f among several

          same-region : spot_region firsts spot ≡ f.region
          same-region = region-of_spot dims facts firsts spots trees placed (spots-are dims facts firsts spots placed is) f among several

          by-mark : (b : Bool) → is_marked marks spot ≡ b
              → sum_by (share_by (level (rounds - 1)) (if b then cells_of dims (spot_region firsts spot) else [])) (filter (is_among inside) (if b then cells_of dims (spot_region firsts spot) else [])) ≡ portion dims facts rounds region f
          by-mark true marks_it =
              ap (λ (r : List ℕ). sum_by (share_by (level (rounds - 1)) (cells_of dims r)) (filter (is_among inside) (cells_of dims r))) same-region
              ∙ sym (ap (λ (b : Bool). if b then WHOLE_FACT * length (common_cells dims f.region region) else sum_by (share_by (level (rounds - 1)) (cells_of dims f.region)) (common_cells dims f.region region)) several)
              ∙ same-portion dims (is_kept dims firsts marks) facts marked.whole rounds region f (record { among = among; kept = marks_it })
          by-mark false marks_not = sym (portion-apart dims facts facts rounds region f (ap (λ (r : List ℕ). common_cells dims r region) (sym same-region) ∙ marked.apart spot within_spots marks_not))

          fact-portion : at portions spot ≡ portion dims facts rounds region f
          fact-portion = portion-at spot 0 within_spots ∙ by-mark (is_marked marks spot) refl

        pub portions-same : ArePortions dims facts rounds region firsts portions
        portions-same = record { as_many = long; low = low; each = fact-portion }
