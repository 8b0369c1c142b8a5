-- What the facts of a group add at an end of a region's sum: they are spread alike, so the sides of its rows tell it.
use Rattle.std.proofs.Common.{◌≡◌, ℕ, zero, suc, ◌*◌, ◌≤◌, Bool, true, false, List, [], ◌∷◌, length, map, refl, ap, sym, ◌∙◌, subst, arith, inl, inr, ℤ, pos, ◌+ℤ◌}
use Rattle.std.specs.Prelude.{All, filter, find, nat_abs, not, slice_index_or, ◌&&◌, ◌==◌, if◌then◌else◌, Option, Some, None}
use Rattle.std.specs.List.{list_any, sum_by}
use Rattle.std.specs.Option.{option_map}
use Rattle.std.proofs.lemmas.Bool.{cases_lt}
use Rattle.std.proofs.lemmas.Bool.Decides.{nat_tests}
use Rattle.std.proofs.lemmas.Int.{ints}
use Rattle.std.proofs.lemmas.List.{get_or_past, length-map}
use Rattle.std.proofs.lemmas.List.Elements.{All-cons, All-head, All-nil, All-tail, All-weaker}
use Rattle.std.proofs.lemmas.List.FromFn.{get_or-map-range_with_len}
use Rattle.std.proofs.lemmas.Option.{same_Some}
use Rattle.cube_model.specs.declared.edit.Fact.{Fact}
use Rattle.cube_model.specs.Allocation.{Allocation, ExtendedFact, Policy, allocation, spread, spread_evenly, weight_of}
use Rattle.cube_model.specs.Answer.{total_by}
use Rattle.cube_model.specs.Cells.{cells_of, is_among, is_single}
use Rattle.cube_model.specs.Facts.{is_precise}
use Rattle.cube_model.specs.Limits.{MAX_FACTS, MAX_VALUE}
use Rattle.cube_model.specs.Tree.{Dimension, IsTree}
use Rattle.cube_model.proofs.Totals.{total_by-nothing}
use Rattle.region_algebra.specs.Space.{IsRegion, code_of}
use Rattle.region_index.specs.Indexed.{is_indexed_at}
use Rattle.alloc_rows.specs.Alloc.{IsAllocation}
use Rattle.fact_groups.specs.Groups.{Group, column_sums, facts_with, group_at, has_code, spread_at}
use Rattle.fact_groups.proofs.Groups.{group_at-region, total_by-map}
use Rattle.fact_groups.proofs.Sharing.{allocation-spread_at}
use Rattle.world_range.specs.declared.extreme.Extreme.{Extreme}
use Rattle.world_range.specs.declared.sides.Sides.{Sides}
use Rattle.world_range.specs.Picks.{end_of, part, pick, wants_inside}
use Rattle.world_range.specs.Sides.{part_where, sides_of}
use Rattle.world_range.proofs.Parts.{part-where}
use Rattle.cube_state.specs.Ranging.{column_in, either_part}

-- what facts add of which each may stand inside and outside
abbrev pub either_end : Extreme → ℕ → List Fact → ℤ
either_end extreme column facts = total_by (λ f. either_part extreme (column_in column f)) facts

-- the sum of a column over facts, as a group keeps it
pub total-ones : {X : Type 0} (xs : List X) → pos (length xs) ≡ total_by (λ x. pos 1) xs
total-ones [] = refl
total-ones (x ∷ xs) = let others = total-ones xs in omega (arith, ints, others)

pub column-sum : (columns column : ℕ) (some : List Fact) → column ≤ columns → slice_index_or (pos (length some) ∷ column_sums columns some) column (pos 0) ≡ total_by (column_in column) some
column-sum columns zero some within = total-ones some
column-sum columns (suc k) some within = get_or-map-range_with_len (λ j. total_by (λ (f : Fact). slice_index_or f.cols j (pos 0)) some) 0 columns k k (pos 0) (omega (arith, within)) (omega arith)

-- rows that an allocation has
pub rows-some : (a : Allocation) (rows : List (ℕ × ℕ)) → rows ≡ a.rows → IsAllocation a → 1 ≤ length rows
rows-some a [] are is = absurd (omega (arith, is.total, is.some, ap (sum_by (λ (row : ℕ × ℕ). row.1)) are))
rows-some a (row ∷ rows) are is = omega arith

-- one row alone is on one side
module _ (p : ℕ × ℕ → Bool) where
  one-side : (rows : List (ℕ × ℕ)) → length rows ≡ 1 → list_any p rows ≡ true → list_any (λ row. not (p row)) rows ≡ false
  one-side [] one inside = cc
  one-side (row ∷ []) one inside = grind (arith, inside)
  one-side (row ∷ other ∷ rows) one inside = absurd (omega (arith, one))

module _ (policy : Policy) (dims : List Dimension) (all : List Fact) where
  abbrev row : Fact → ExtendedFact
  row f = record { id = f.id; values = f.cols; allocation = allocation policy dims all f }

  -- facts are spread alike
  abbrev pub AreSpread : Allocation → List Fact → Type 0
  AreSpread spread some = All (λ f. allocation policy dims all f ≡ spread) some

  module _ (extreme : Extreme) (cells : List ℕ) (column : ℕ) where
    end-alike : (spread : Allocation) → 1 ≤ length spread.rows → (some : List Fact) → AreSpread spread some
        → end_of extreme cells column (map row some) ≡ total_by (λ f. part_where extreme (sides_of cells spread.rows) (column_in column f)) some
    end-alike spread rows [] each = refl
    end-alike spread rows (f ∷ some) each =
        let is = All-head (λ f. allocation policy dims all f ≡ spread) f some each in
        let one : part extreme cells column (row f) ≡ part_where extreme (sides_of cells spread.rows) (column_in column f) =
        part-where extreme cells column (row f) (subst (λ (a : Allocation). 1 ≤ length a.rows) (sym is) rows) ∙ ap (λ (a : Allocation). part_where extreme (sides_of cells a.rows) (column_in column f)) is in
        ap (λ z. z +ℤ end_of extreme cells column (map row some)) one
        ∙ ap (λ z. part_where extreme (sides_of cells spread.rows) (column_in column f) +ℤ z) (end-alike spread rows some (All-tail (λ f. allocation policy dims all f ≡ spread) f some each))

    module _ (spread : Allocation) (is : IsAllocation spread) (sides : Sides) (told : sides ≡ sides_of cells spread.rows) (some : List Fact) (each : AreSpread spread some) where
      seen : end_of extreme cells column (map row some) ≡ total_by (λ f. part_where extreme sides (column_in column f)) some
      seen = end-alike spread (rows-some spread spread.rows refl is) some each ∙ ap (λ (s : Sides). total_by (λ f. part_where extreme s (column_in column f)) some) (sym told)

      -- where no row is inside they add nothing, and where all are what they have
      pub end-outside : sides.inside ≡ false → pos 0 ≡ end_of extreme cells column (map row some)
      end-outside none =
          sym (seen ∙ ap (λ (b : Bool). total_by (λ f. if b then (if sides.outside && not (wants_inside extreme (column_in column f)) then pos 0 else column_in column f) else pos 0) some) none ∙ total_by-nothing some)

      pub end-inside : sides.inside ≡ true → sides.outside ≡ false → total_by (column_in column) some ≡ end_of extreme cells column (map row some)
      end-inside inside none =
          sym (seen ∙ ap (λ (b : Bool). total_by (λ f. if b then (if sides.outside && not (wants_inside extreme (column_in column f)) then pos 0 else column_in column f) else pos 0) some) inside
          ∙ ap (λ (b : Bool). total_by (λ f. if b && not (wants_inside extreme (column_in column f)) then pos 0 else column_in column f) some) none)

      -- where some are and some are not, each adds what it does if it may stand inside and outside
      pub end-either : sides.inside ≡ true → sides.outside ≡ true → either_end extreme column some ≡ end_of extreme cells column (map row some)
      end-either inside outside =
          sym (seen ∙ ap (λ (b : Bool). total_by (λ f. if b then (if sides.outside && not (wants_inside extreme (column_in column f)) then pos 0 else column_in column f) else pos 0) some) inside
          ∙ ap (λ (b : Bool). total_by (λ f. if b && not (wants_inside extreme (column_in column f)) then pos 0 else column_in column f) some) outside)

  -- a fact that is spread over rows on both sides is imprecise
  both-sides : (p : ℕ × ℕ → Bool) (weight : ℕ → ℕ) (cells : List ℕ) (b : Bool) → is_single cells ≡ b → list_any p (spread weight cells).rows ≡ true → list_any (λ row. not (p row)) (spread weight cells).rows ≡ true → b ≡ false
  both-sides p weight cells false is inside outside = refl
  both-sides p weight cells true is inside outside =
      let even : (spread weight cells).rows ≡ (spread_evenly cells).rows = rw is refl in
      let one : length (spread_evenly cells).rows ≡ 1 = grind (arith, nat_tests, is, length-map {B = ℕ × ℕ} cells (λ cell. (cell, 1))) in
      let none = one-side p (spread_evenly cells).rows one (ap (list_any p) (sym even) ∙ inside) in
      let other = ap (list_any (λ row. not (p row))) (sym even) ∙ outside in
      cc

  pub not-precise : (cells : List ℕ) (a : Allocation) (f : Fact) → allocation policy dims all f ≡ a → (sides_of cells a.rows).inside ≡ true → (sides_of cells a.rows).outside ≡ true → is_precise dims f ≡ false
  unfolding allocation
  not-precise cells a f is inside outside =
      both-sides (λ row. is_among cells row.0) (weight_of policy dims all) (cells_of dims f.region) (is_precise dims f) refl
      (ap (λ (a : Allocation). (sides_of cells a.rows).inside) is ∙ inside) (ap (λ (a : Allocation). (sides_of cells a.rows).outside) is ∙ outside)

-- the facts at a code, as its group tells of them
module _ (policy : Policy) (columns : ℕ) (dims : List Dimension) (facts : List Fact) (code : ℕ) (g : Group) (there : group_at policy columns dims facts code ≡ Some g) where
  abbrev whole : Fact → Group
  whole f = record { spread = allocation policy dims facts f; count = length (facts_with dims code facts); sums = column_sums columns (facts_with dims code facts) }

  told-by : {Z : Type 0} (value : Group → Z) (z : Z) → ((f : Fact) → value (whole f) ≡ z) → value g ≡ z
  told-by value z each = by (find (has_code dims code) facts) there
    where
      by : (found : Option Fact) → option_map whole found ≡ Some g → value g ≡ z
      by None none = cc
      by (Some f) some = ap value (sym (same_Some (whole f) g some)) ∙ each f

  pub count-told : g.count ≡ length (facts_with dims code facts)
  count-told = told-by (λ (g : Group). g.count) _ (λ f. refl)

  pub sums-told : g.sums ≡ column_sums columns (facts_with dims code facts)
  sums-told = told-by (λ (g : Group). g.sums) _ (λ f. refl)

  -- so the sum of a column
  pub column-told : (column : ℕ) → column ≤ columns → slice_index_or (pos g.count ∷ g.sums) column (pos 0) ≡ total_by (column_in column) (facts_with dims code facts)
  column-told column within = told-by (λ (g : Group). slice_index_or (pos g.count ∷ g.sums) column (pos 0)) _ (λ f. column-sum columns column (facts_with dims code facts) within)

  module _ (trees : All IsTree dims) (regions : All (λ f. IsRegion dims f.region) facts) where
    spread-told : (f : Fact) → IsRegion dims f.region → has_code dims code f ≡ true → allocation policy dims facts f ≡ g.spread
    spread-told f named passes =
        let coded : code_of dims f.region ≡ code = grind (arith, nat_tests, passes) in
        allocation-spread_at policy dims facts f ∙ by (length (facts_with dims (code_of dims f.region) facts) == 0) (sym (group_at-region policy columns dims facts f.region trees regions named) ∙ ap (group_at policy columns dims facts) coded ∙ there)
      where
        of_region : Group
        of_region = record {
          spread = spread_at policy dims facts f.region;
          count = length (facts_with dims (code_of dims f.region) facts);
          sums = column_sums columns (facts_with dims (code_of dims f.region) facts);
        }

        by : (b : Bool) → (if b then None else Some of_region) ≡ Some g → of_region.spread ≡ g.spread
        by true none = cc
        by false some = ap (λ (g : Group). g.spread) (same_Some of_region g some)

    spread-some : (some : List Fact) → All (λ f. IsRegion dims f.region) some → AreSpread policy dims facts g.spread (filter (has_code dims code) some)
    spread-some [] each = All-nil (λ f. allocation policy dims facts f ≡ g.spread)
    spread-some (f ∷ some) each =
        by (has_code dims code f) refl (spread-some some (All-tail (λ f. IsRegion dims f.region) f some each))
      where
        by : (b : Bool) → has_code dims code f ≡ b → AreSpread policy dims facts g.spread (filter (has_code dims code) some) → AreSpread policy dims facts g.spread (if b then f ∷ filter (has_code dims code) some else filter (has_code dims code) some)
        by true is rest = All-cons (λ f. allocation policy dims facts f ≡ g.spread) f (filter (has_code dims code) some) (spread-told f (All-head (λ f. IsRegion dims f.region) f some each) is) rest
        by false is rest = rest

    pub spread-all : AreSpread policy dims facts g.spread (facts_with dims code facts)
    spread-all = spread-some facts regions

    -- where rows are on both sides, the facts are the imprecise ones
    module _ (cells : List ℕ) (inside : (sides_of cells g.spread.rows).inside ≡ true) (outside : (sides_of cells g.spread.rows).outside ≡ true) where
      indexed-some : (some : List Fact) → All (λ f. IsRegion dims f.region) some → filter (is_indexed_at dims code) some ≡ filter (has_code dims code) some
      indexed-some [] each = refl
      indexed-some (f ∷ some) each =
          by (has_code dims code f) (is_precise dims f) refl (λ is. not-precise policy dims facts cells g.spread f (spread-told f (All-head (λ f. IsRegion dims f.region) f some each) is) inside outside)
          (indexed-some some (All-tail (λ f. IsRegion dims f.region) f some each))
        where
          by : (b precise : Bool) → has_code dims code f ≡ b → (has_code dims code f ≡ true → precise ≡ false) → filter (is_indexed_at dims code) some ≡ filter (has_code dims code) some
              → (if b && not precise then f ∷ filter (is_indexed_at dims code) some else filter (is_indexed_at dims code) some) ≡ (if b then f ∷ filter (has_code dims code) some else filter (has_code dims code) some)
          by true true is none rest = let wrong = none is in cc
          by true false is none rest = ap (λ fs. f ∷ fs) rest
          by false precise is none rest = rest

      pub indexed-all : filter (is_indexed_at dims code) facts ≡ facts_with dims code facts
      indexed-all = indexed-some facts regions

-- A value is small, and so is what some of them add up to.
pub column-small : (column : ℕ) (f : Fact) → All (λ value. nat_abs value ≤ MAX_VALUE) f.cols → nat_abs (column_in column f) ≤ MAX_VALUE
column-small zero f small = omega arith
column-small (suc k) f small = elim (cases_lt k (length f.cols)) [
  | inl within ↦ small k (pos 0) within
  | inr past ↦ omega (arith, ints, ap nat_abs (get_or_past f.cols k (pos 0) past))
]

total-within : {X : Type 0} (h : X → ℤ) (limit : ℕ) (xs : List X) → All (λ x. nat_abs (h x) ≤ limit) xs → nat_abs (total_by h xs) ≤ length xs * limit
total-within h limit [] each = omega arith
total-within {X} h limit (x ∷ xs) each =
    let P : X → Type 0 = λ x. nat_abs (h x) ≤ limit in
    let first = All-head P x xs each in
    let rest = total-within h limit xs (All-tail P x xs each) in
    omega (arith, ints, first, rest)

either-small : (b : Bool) (z : ℤ) (limit : ℕ) → nat_abs z ≤ limit → nat_abs (if b then z else pos 0) ≤ limit
either-small true z limit small = small
either-small false z limit small = omega arith

-- an end of few facts of small values is small
pub end-small : (policy : Policy) (dims : List Dimension) (all : List Fact) (extreme : Extreme) (cells : List ℕ) (column : ℕ) (some : List Fact) → All (λ f. All (λ value. nat_abs value ≤ MAX_VALUE) f.cols) some → length some ≤ MAX_FACTS
    → nat_abs (end_of extreme cells column (map (row policy dims all) some)) ≤ MAX_FACTS * MAX_VALUE
end-small policy dims all extreme cells column some small few =
    let h : Fact → ℤ = λ f. part extreme cells column (row policy dims all f) in
    let each : All (λ f. nat_abs (h f) ≤ MAX_VALUE) some =
    All-weaker (λ (f : Fact). All (λ value. nat_abs value ≤ MAX_VALUE) f.cols) (λ f. nat_abs (h f) ≤ MAX_VALUE)
    (λ f is. either-small (is_among cells (pick extreme cells column (row policy dims all f))) (column_in column f) MAX_VALUE (column-small column f is)) some small in
    omega (arith, ap nat_abs (total_by-map (part extreme cells column) (row policy dims all) some), total-within h MAX_VALUE some each, few)
