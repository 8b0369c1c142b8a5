-- Placed facts, one by one, and their choices.
use Rattle.std.proofs.Common.{◌≡◌, ℕ, zero, suc, ◌+◌, ◌*◌, ◌<◌, ◌≤◌, Bool, true, false, List, [], ◌∷◌, ◌++◌, length, get_or, drop, map, refl, ap, sym, ◌∙◌, arith, ℤ, pos, ◌+ℤ◌, ◌*ℤ◌, Option, Some, None}
use Rattle.std.specs.Prelude.{All, nat_abs, nat_lt, if◌then◌else◌, slice_index_or}
use Rattle.std.specs.Option.{option_map_or}
use Rattle.std.proofs.lemmas.Bool.Decides.{nat_tests}
use Rattle.std.proofs.lemmas.Int.{ints}
use Rattle.std.proofs.lemmas.List.{drop_more, get_or-map, length-map}
use Rattle.std.proofs.lemmas.List.Elements.{All-head, All-map, All-weaker}
use Rattle.cube_model.specs.Allocation.{ExtendedFact}
use Rattle.cube_model.specs.Cells.{cells_of, is_among}
use Rattle.cube_model.specs.Limits.{MAX_FACTS, MAX_VALUE}
use Rattle.cube_model.specs.Tree.{Dimension}
use Rattle.region_algebra.specs.Space.{product}
use Rattle.world_law.specs.declared.placed.Placed.{Placed}
use Rattle.world_law.specs.declared.sum.WorldFault.TheVariants as world_fault
use Rattle.world_law.specs.declared.walk.Found.{Found}
use Rattle.world_law.specs.Choices.{AddsWorlds, AreSmall, Choice, IsLight, Settles, choice_of, own, ways, whole, yield}
use Rattle.world_law.specs.Law.{IsShared}
use Rattle.world_law.specs.Limits.{MAX_MASS, MAX_WORLDS}
use Rattle.world_law.specs.Placed.{IsPlacedFact, IsPlacedFor, choices_of, dens, fault_of, placed_fact, placed_facts, product_above, row_counts}
use Rattle.world_law.specs.Worlds.{column_of, mass, total, world_count}
use Rattle.world_law.proofs.Chosen.{ways-choices, whole-choices, yield-choices}
use Rattle.world_law.proofs.Expectation.{mass-product, world_count-product}
use Rattle.world_law.proofs.Judging.{of_read, product_some, product_within}
use Rattle.world_law.proofs.Settling.{Settling, settled_all, settling_several, settling_single, sum_fits, weight_fits}

-- the next choice
module _ (dims : List Dimension) (region : List ℕ) (column : ℕ) (placed : List Placed) (i : ℕ) (p : Placed) (inside : i < length placed) (is : p ≡ get_or placed i p) where
  pub next_choice : drop i (choices_of dims region column placed) ≡ choice_of (cells_of dims region) column (placed_fact p) ∷ drop (i + 1) (choices_of dims region column placed)
  next_choice =
      let choice : ExtendedFact → Choice = choice_of (cells_of dims region) column in
      let within : i < length (placed_facts placed) = omega (arith, inside, length-map placed placed_fact) in
      drop_more (choices_of dims region column placed) i (choice (placed_fact p)) (omega (arith, within, length-map (placed_facts placed) choice))
      ∙ ap (λ c. c ∷ drop (i + 1) (choices_of dims region column placed))
      (get_or-map choice (placed_facts placed) i (placed_fact p) (choice (placed_fact p)) within ∙ ap choice (get_or-map placed_fact placed i p (placed_fact p) inside ∙ ap placed_fact (sym is)))

  one_row : (rows : List (ℕ × ℕ)) → length rows ≡ 1 → rows ≡ get_or rows 0 (0, 0) ∷ []
  one_row [] one = absurd (omega arith)
  one_row (row ∷ []) one = refl
  one_row (row ∷ other ∷ rows) one = absurd (omega arith)

  -- of one row alone
  pub next_single : (rows : List (ℕ × ℕ)) → rows ≡ p.rows → length rows ≡ 1
      → drop i (choices_of dims region column placed) ≡ (((get_or rows 0 (0, 0)).1, own (cells_of dims region) column (placed_fact p) (get_or rows 0 (0, 0)).0) ∷ []) ∷ drop (i + 1) (choices_of dims region column placed)
  next_single rows are one =
      let values : ℕ × ℕ → ℕ × ℤ = λ row. (row.1, own (cells_of dims region) column (placed_fact p) row.0) in
      next_choice ∙ ap (λ rows. map values rows ∷ drop (i + 1) (choices_of dims region column placed)) (sym are ∙ one_row rows one)

-- no value is large
column_small : (column : ℕ) (values : List ℤ) → column ≤ length values → All (λ value. nat_abs value ≤ MAX_VALUE) values → nat_abs (slice_index_or (pos 1 ∷ values) column (pos 0)) ≤ MAX_VALUE
column_small zero values within small = omega arith
column_small (suc k) values within small = small k (pos 0) (omega arith)

either_small : (b : Bool) (x : ℤ) → nat_abs x ≤ MAX_VALUE → nat_abs (if b then x else pos 0) ≤ MAX_VALUE
either_small true x small = small
either_small false x small = omega arith

pub own_small : (dims : List Dimension) (cells : List ℕ) (column : ℕ) (p : Placed) → IsPlacedFor dims column p → (cell : ℕ) → nat_abs (own cells column (placed_fact p) cell) ≤ MAX_VALUE
own_small dims cells column p is cell = either_small (is_among cells cell) (column_of column (placed_fact p)) (column_small column p.cols is.width is.small)

pub choice_small : (dims : List Dimension) (cells : List ℕ) (column : ℕ) (p : Placed) → IsPlacedFor dims column p → AreSmall (choice_of cells column (placed_fact p))
choice_small dims cells column p is =
    All-map (λ (row : ℕ × ℤ). nat_abs row.1 ≤ MAX_VALUE) (λ (row : ℕ × ℕ). (row.1, own cells column (placed_fact p) row.0)) p.rows (λ k d within. own_small dims cells column p is (get_or p.rows k d).0)

-- what a column needs of facts is what they are
pub placed_for : (dims : List Dimension) (columns column : ℕ) (placed : List Placed) → All (IsPlacedFact dims columns) placed → column + 1 ≤ columns → All (IsPlacedFor dims column) placed
placed_for dims columns column placed are within =
    All-weaker (IsPlacedFact dims columns) (IsPlacedFor dims column) (λ p is. record { allocation = is.allocation; cells = is.cells; width = omega (arith, is.width, within); small = is.small }) placed are

-- where there is no column there is no fact
pub none_placed : (dims : List Dimension) (columns : ℕ) (placed : List Placed) → All (IsPlacedFact dims columns) placed → columns ≡ 0 → placed ≡ []
none_placed dims columns [] are none = refl
none_placed dims columns (p ∷ placed) are none = absurd (omega (arith, none, (All-head (IsPlacedFact dims columns) p placed are).width))

-- where the facts are not refused, their worlds are few and light

not_refused : (above : Option ℕ) (wide : Bool) → option_map_or (λ product. Some (world_fault.Many product)) above (if wide then Some world_fault.Wide else None) ≡ None → (above ≡ None) × (wide ≡ false)
not_refused None false none = (refl, refl)
not_refused None true none = cc
not_refused (Some product) wide none = cc

pub counts_same : (placed : List Placed) → map (λ (e : ExtendedFact). length e.allocation.rows) (placed_facts placed) ≡ row_counts placed
counts_same [] = refl
counts_same (p ∷ placed) = ap (λ ns. length p.rows ∷ ns) (counts_same placed)

pub dens_same : (placed : List Placed) → map (λ (e : ExtendedFact). e.allocation.den) (placed_facts placed) ≡ dens placed
dens_same [] = refl
dens_same (p ∷ placed) = ap (λ ns. p.den ∷ ns) (dens_same placed)

pub shared : (dims : List Dimension) (column : ℕ) (placed : List Placed) → All (IsPlacedFor dims column) placed → All IsShared (placed_facts placed)
shared dims column placed are =
    All-map IsShared placed_fact placed (All-weaker (IsPlacedFor dims column) (λ p. IsShared (placed_fact p)) (λ p is. record { whole = is.allocation.total; some = is.allocation.some }) placed are)

module _ (dims : List Dimension) (region : List ℕ) (column : ℕ) (placed : List Placed) (are : All (IsPlacedFor dims column) placed) (accepted : fault_of placed ≡ None) where
  parts : (product_above MAX_WORLDS 1 (row_counts placed) ≡ None) × (nat_lt MAX_MASS (product (dens placed)) ≡ false)
  parts = not_refused (product_above MAX_WORLDS 1 (row_counts placed)) (nat_lt MAX_MASS (product (dens placed))) accepted

  pub few_ways : ways (choices_of dims region column placed) ≤ MAX_WORLDS
  few_ways =
      let few = product_within MAX_WORLDS 1 (row_counts placed) (omega arith) parts.0 in
      omega (arith, few, ways-choices (cells_of dims region) column (placed_facts placed), world_count-product (placed_facts placed), ap product (counts_same placed))

  mass_is : whole (choices_of dims region column placed) ≡ product (dens placed)
  mass_is = whole-choices (cells_of dims region) column (placed_facts placed) ∙ mass-product (placed_facts placed) (shared dims column placed are) ∙ ap product (dens_same placed)

  pub light : IsLight (choices_of dims region column placed)
  light =
      let least : 1 ≤ product (dens placed) = product_some (λ (p : Placed). p.den) placed (All-weaker (IsPlacedFor dims column) (λ p. 1 ≤ p.den) (λ p is. is.allocation.some) placed are) in
      let wide = parts.1 in
      let most : product (dens placed) ≤ MAX_MASS = grind (arith, nat_tests) in
      record { some = omega (arith, mass_is, least); most = omega (arith, mass_is, most) }

-- A fact more is settled.
module _ (dims : List Dimension) (region : List ℕ) (column : ℕ) (placed : List Placed) (i : ℕ) (p : Placed) (are : All (IsPlacedFor dims column) placed) (inside : i < length placed) (is : p ≡ get_or placed i p)
    (w : ℕ) (s : ℤ) (several : List Choice) (before : Settling (choices_of dims region column placed) i w s several) where
  abbrev cells : List ℕ
  cells = cells_of dims region

  p_is : IsPlacedFor dims column p
  p_is = of_read (IsPlacedFor dims column) placed i p are inside is

  -- one of one row
  module _ (rows : List (ℕ × ℕ)) (are_rows : rows ≡ p.rows) (one : length rows ≡ 1) where
    next : drop i (choices_of dims region column placed) ≡ (((get_or rows 0 (0, 0)).1, own cells column (placed_fact p) (get_or rows 0 (0, 0)).0) ∷ []) ∷ drop (i + 1) (choices_of dims region column placed)
    next = next_single dims region column placed i p inside is rows are_rows one

    value_small : nat_abs (own cells column (placed_fact p) (get_or rows 0 (0, 0)).0) ≤ MAX_VALUE
    value_small = own_small dims cells column p p_is (get_or rows 0 (0, 0)).0

    pub one_weight_fits : IsLight (choices_of dims region column placed) → w * (get_or rows 0 (0, 0)).1 ≤ MAX_MASS
    one_weight_fits light = weight_fits (choices_of dims region column placed) several i w s before (get_or rows 0 (0, 0)).1 (own cells column (placed_fact p) (get_or rows 0 (0, 0)).0) next value_small light

    module _ (v : ℤ) (value : v ≡ own cells column (placed_fact p) (get_or rows 0 (0, 0)).0) where
      pub one_sum_fits : length placed ≤ MAX_FACTS → nat_abs (s +ℤ v) ≤ MAX_MASS
      one_sum_fits few =
          rw value (sum_fits (choices_of dims region column placed) several i w s before (get_or rows 0 (0, 0)).1 (own cells column (placed_fact p) (get_or rows 0 (0, 0)).0) next value_small (omega arith))

      pub one_settled : (sum : ℤ) → sum ≡ s +ℤ v → Settling (choices_of dims region column placed) (i + 1) (w * (get_or rows 0 (0, 0)).1) sum several
      one_settled sum added =
          rw (added, value) (settling_single (choices_of dims region column placed) several i w s before (get_or rows 0 (0, 0)).1 (own cells column (placed_fact p) (get_or rows 0 (0, 0)).0) next value_small)

  -- or of any number of them
  pub several_settled : (c : Choice) (new : List Choice) → c ≡ choice_of cells column (placed_fact p) → new ≡ several ++ c ∷ [] → Settling (choices_of dims region column placed) (i + 1) w s new
  several_settled c new chosen pushed =
      settling_several (choices_of dims region column placed) several i w s before (choice_of cells column (placed_fact p)) new (next_choice dims region column placed i p inside is) (choice_small dims cells column p p_is)
      (pushed ∙ ap (λ (c : Choice). several ++ c ∷ []) chosen)

-- In the end all are.
module _ (dims : List Dimension) (region : List ℕ) (column : ℕ) (placed : List Placed) (i w : ℕ) (s : ℤ) (several : List Choice) (settled : Settling (choices_of dims region column placed) i w s several) where
  pub all_settled : length placed ≤ i → Settles (choices_of dims region column placed) w s several
  all_settled end =
      settled_all (choices_of dims region column placed) several i w s settled (omega (arith, end, length-map placed placed_fact, length-map (placed_facts placed) (choice_of (cells_of dims region) column)))

  pub all_small : i ≤ length placed → length placed ≤ MAX_FACTS → nat_abs s + length several * MAX_VALUE ≤ MAX_MASS
  all_small end few = omega (arith, settled.small, end, few)

-- What was found of the choices that are left is what the worlds of all facts come to.
module _ (dims : List Dimension) (region : List ℕ) (column : ℕ) (placed : List Placed) (w : ℕ) (s : ℤ) (several rows : List Choice) (found : Found) (settles : Settles (choices_of dims region column placed) w s several) (are : rows ≡ several)
    (adds : AddsWorlds rows w s (record { worlds = 0; mass = 0; total = pos 0 }) found) where
  pub found_worlds : found.worlds ≡ world_count (placed_facts placed)
  found_worlds = omega (arith, adds.worlds, ap ways are, settles.worlds, ways-choices (cells_of dims region) column (placed_facts placed))

  pub found_mass : found.mass ≡ mass (placed_facts placed)
  found_mass = omega (arith, adds.mass, ap (λ (cs : List Choice). whole cs * w) are, settles.mass, whole-choices (cells_of dims region) column (placed_facts placed))

  pub found_total : found.total ≡ total dims region column (placed_facts placed)
  found_total =
      let all = ap (λ (cs : List Choice). (s *ℤ pos (whole cs) +ℤ yield cs) *ℤ pos w) are in
      omega (arith, ints, adds.total, all, settles.total, yield-choices dims region column (placed_facts placed))
