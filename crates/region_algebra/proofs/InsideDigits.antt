-- Digits of a cell's code, each in a range, tell whether the cell is in a region.
use Rattle.std.proofs.Common.{◌≡◌, ℕ, inl, inr, ◌+◌, ◌-◌, ◌*◌, ◌/◌, ◌%◌, ◌<◌, ◌≤◌, Bool, true, false, List, [], ◌∷◌, ◌++◌, length, take, drop, get_or, set, refl, sym, ap, ◌∙◌, arith}
use Rattle.std.specs.Prelude.{All, ◌==◌, ◌&&◌, ◌||◌, nat_le, nat_lt}
use Rattle.std.specs.List.{list_all, range_with_len}
use Rattle.std.proofs.Math.Arith.{mod-mul}
use Rattle.std.proofs.Math.Nat.{mod-eq_of_lt, mul-add-mod_self_right}
use Rattle.std.proofs.lemmas.Bool.{cases_lt}
use Rattle.std.proofs.lemmas.Bool.Decides.{nat_tests}
use Rattle.std.proofs.lemmas.List.{drop_all, drop_more, take_more_set}
use Rattle.std.proofs.lemmas.List.Elements.{All-append, All-cons, All-nil}
use Rattle.std.proofs.lemmas.List.Folds.{list_all-append, list_any_none}
use Rattle.std.proofs.lemmas.Nat.{div_below, le-div, mod_below, mul-le}
use Rattle.cube_model.specs.Cells.{cells_of, is_among, leaf_places}
use Rattle.cube_model.specs.Limits.{MAX_DIMS, SPACE_LIMIT}
use Rattle.cube_model.specs.Tree.{Dimension, leaves}
use Rattle.region_algebra.specs.declared.inside.Digit.{Digit}
use Rattle.region_algebra.specs.Inside.{TellsInside, is_held}
use Rattle.region_algebra.specs.Space.{cell_total, is_region}
use Rattle.region_algebra.specs.Stepped.{IsStepped}
use Rattle.region_algebra.proofs.Tuples.{is_among-turn, step-at}
use Rattle.region_algebra.proofs.Turns.{Here, cell_total-drop, cell_total-some, cells-at_end, cells-below}

-- a test of each element, from one on
pub all-next : {X : Type 0} (p : X → Bool) (xs : List X) (i : ℕ) (default : X) → i < length xs → list_all p (drop i xs) ≡ (p (get_or xs i default) && list_all p (drop (i + 1) xs))
all-next p xs i default within = ap (list_all p) (drop_more xs i default within)

-- what is read past the end
abbrev pub no_digit : Digit
no_digit = record { cells = 0; low = 0; high = 0 }

-- a leaf is in a range where its cells are
lower-end : (first rest step : ℕ) → 0 < step → nat_le first (rest / step) ≡ nat_le (first * step) rest
lower-end first rest step some = elim (cases_lt rest (first * step)) [
  | inl below ↦ grind (arith, nat_tests, div_below rest step first some below)
  | inr above ↦ grind (arith, nat_tests, le-div first rest step some above)
]

upper-end : (end rest step : ℕ) → 0 < step → nat_lt (rest / step) end ≡ nat_lt rest (end * step)
upper-end end rest step some = elim (cases_lt rest (end * step)) [
  | inl below ↦ grind (arith, nat_tests, div_below rest step end some below)
  | inr above ↦ grind (arith, nat_tests, le-div end rest step some above)
]

-- the rest of a rest
rest-rest : (cell many step : ℕ) → 0 < many → 0 < step → cell % (many * step) % step ≡ cell % step
rest-rest cell many step some positive =
    ap (λ n. n % step) (mod-mul cell {m = many} {c = step} some positive) ∙ mul-add-mod_self_right (cell / step % many) step (cell % step) ∙ mod-eq_of_lt (mod_below cell step positive)

-- The digits of the first d dimensions, and the rest of a cell, tell whether it is in the region.
pub record IsTold (dims : List Dimension) (nodes : List ℕ) (d : ℕ) (digits : List Digit) (count : ℕ) : Type 0 where
  pub few : count ≤ d
  pub some : All (λ digit. 0 < digit.cells) (take count digits)
  pub tells : (cell : ℕ) → cell < cell_total dims
      → is_among (cells_of dims nodes) cell ≡ (list_all (is_held cell) (take count digits) && is_among (cells_of (drop d dims) (drop d nodes)) (cell % cell_total (drop d dims)))

pub told_start : (dims : List Dimension) (nodes : List ℕ) (digits : List Digit) → IsTold dims nodes 0 digits 0
told_start dims nodes digits = record {
  few = omega arith;
  some = All-nil (λ digit. 0 < digit.cells);
  tells = λ cell within. ap (is_among (cells_of dims nodes)) (sym (mod-eq_of_lt within));
}

one-rest : (cell : ℕ) → cell % 1 ≡ 0
one-rest cell = omega (arith, mod_below cell 1 (omega arith))

and-true : (b : Bool) → (b && true) ≡ b
and-true true = refl
and-true false = refl

pub told_done : (dims : List Dimension) (nodes : List ℕ) (d : ℕ) (digits : List Digit) (count : ℕ) → is_region dims nodes ≡ true → length dims ≤ d → d ≤ MAX_DIMS → IsTold dims nodes d digits count → TellsInside dims nodes digits count
told_done dims nodes d digits count names all few told = record {
  few = omega (arith, told.few);
  some = told.some;
  tells = λ cell within.
      let one = cells-at_end dims nodes d names all in
      let total : cell_total (drop d dims) ≡ 1 = ap cell_total (drop_all d dims all) in
      let zero_left : cell % cell_total (drop d dims) ≡ 0 = ap (λ n. cell % n) total ∙ one-rest cell in
      let last : is_among (cells_of (drop d dims) (drop d nodes)) (cell % cell_total (drop d dims)) ≡ true = rw (one, zero_left) refl in
      told.tells cell within ∙ ap (λ b. list_all (is_held cell) (take count digits) && b) last ∙ and-true (list_all (is_held cell) (take count digits));
}

and-assoc : (a b c : Bool) → (a && (b && c)) ≡ ((a && b) && c)
and-assoc true b c = refl
and-assoc false b c = refl

module _ (dims : List Dimension) (steps nodes : List ℕ) (d count first end many : ℕ) (digits : List Digit) (dim : Dimension) (node : ℕ) (stepped : IsStepped cell_total dims steps) (within : d < length dims) (at : Here dims nodes d (d + 1) dim node)
    (range : leaf_places dim node ≡ range_with_len first (end - first)) (some : first < end) (most : end ≤ length (leaves dim)) (leaf_many : many ≡ length (leaves dim)) (told : IsTold dims nodes d digits count) where
  step : (get_or steps d 0 ≡ cell_total (drop (d + 1) dims)) × (0 < get_or steps d 0)
  step = step-at cell_total cell_total-some dims steps d stepped within

  total-here : cell_total (drop d dims) ≡ many * get_or steps d 0
  total-here = ap cell_total at.dims_are ∙ rw (leaf_many, step.0) refl

  -- a cell's test in this dimension
  turned : (cell : ℕ) → is_among (cells_of (drop d dims) (drop d nodes)) (cell % cell_total (drop d dims))
      ≡ ((nat_le (first * get_or steps d 0) (cell % (many * get_or steps d 0)) && nat_lt (cell % (many * get_or steps d 0)) (end * get_or steps d 0))
      && is_among (cells_of (drop (d + 1) dims) (drop (d + 1) nodes)) (cell % cell_total (drop (d + 1) dims)))
  turned cell =
      let rest = cell % (many * get_or steps d 0) in
      let s = get_or steps d 0 in
      ap (λ n. is_among (cells_of (drop d dims) (drop d nodes)) (cell % n)) total-here
      ∙ is_among-turn dims nodes d (d + 1) first end (get_or steps d 0) (cell % (many * get_or steps d 0)) dim node at range some step.0 step.1
      ∙ ap (λ b. b && is_among (cells_of (drop (d + 1) dims) (drop (d + 1) nodes)) (cell % (many * get_or steps d 0) % get_or steps d 0))
      (ap (λ b. b && nat_lt (cell % (many * get_or steps d 0) / get_or steps d 0) end) (lower-end first rest s step.1) ∙ ap (λ b. nat_le (first * get_or steps d 0) (cell % (many * get_or steps d 0)) && b) (upper-end end rest s step.1))
      ∙ ap (λ n. (nat_le (first * get_or steps d 0) (cell % (many * get_or steps d 0)) && nat_lt (cell % (many * get_or steps d 0)) (end * get_or steps d 0)) && is_among (cells_of (drop (d + 1) dims) (drop (d + 1) nodes)) n)
      (rest-rest cell many s (omega (arith, some, most, leaf_many)) step.1 ∙ ap (λ n. cell % n) step.0)

  positive : 0 < many * get_or steps d 0
  positive = omega (arith, mul-le 1 1 many (get_or steps d 0) (omega (arith, some, most, leaf_many)) (omega (arith, step.1)))

  -- the digit that is asked
  abbrev pub digit_of : Digit
  digit_of = record { cells = many * get_or steps d 0; low = first * get_or steps d 0; high = end * get_or steps d 0 }

  pub digit_fits : (many * get_or steps d 0 < SPACE_LIMIT) × (first * get_or steps d 0 < SPACE_LIMIT) × (end * get_or steps d 0 < SPACE_LIMIT)
  digit_fits =
      let whole : many * get_or steps d 0 < SPACE_LIMIT = omega (arith, total-here, cell_total-drop dims d stepped.trees, stepped.limit) in
      (whole, omega (arith, whole, mul-le first (get_or steps d 0) many (get_or steps d 0) (omega (arith, some, most, leaf_many)) (omega arith)), omega (arith, whole, mul-le end (get_or steps d 0) many (get_or steps d 0) (omega (arith, most, leaf_many)) (omega arith)))

  pub told_digit : length digits ≡ MAX_DIMS → d < MAX_DIMS → IsTold dims nodes (d + 1) (set digits count digit_of) (count + 1)
  told_digit room few =
      let more : take (count + 1) (set digits count digit_of) ≡ take count digits ++ digit_of ∷ [] = take_more_set digits count digit_of (omega (arith, room, told.few)) in
      record {
        few = omega (arith, told.few);
        some = rw more (All-append (λ digit. 0 < digit.cells) (take count digits) (digit_of ∷ []) told.some (All-cons (λ digit. 0 < digit.cells) digit_of [] positive (All-nil (λ digit. 0 < digit.cells))));
        tells = λ cell below.
            told.tells cell below ∙ ap (λ b. list_all (is_held cell) (take count digits) && b) (turned cell)
            ∙ and-assoc (list_all (is_held cell) (take count digits)) (is_held cell digit_of) (is_among (cells_of (drop (d + 1) dims) (drop (d + 1) nodes)) (cell % cell_total (drop (d + 1) dims)))
            ∙ ap (λ b. b && is_among (cells_of (drop (d + 1) dims) (drop (d + 1) nodes)) (cell % cell_total (drop (d + 1) dims)))
            (ap (λ b. list_all (is_held cell) (take count digits) && b) (sym (and-true (is_held cell digit_of))) ∙ sym (list_all-append (is_held cell) (take count digits) (digit_of ∷ [])) ∙ ap (list_all (is_held cell)) (sym more));
      }

  -- where nothing is to be asked, each cell passes
  pub told_whole : (nat_lt 0 (first * get_or steps d 0) || nat_lt (end * get_or steps d 0) (many * get_or steps d 0)) ≡ false → IsTold dims nodes (d + 1) digits count
  told_whole unasked = record {
    few = omega (arith, told.few);
    some = told.some;
    tells = λ cell below.
        told.tells cell below ∙ ap (λ b. list_all (is_held cell) (take count digits) && b) (turned cell
        ∙ ap (λ b. b && is_among (cells_of (drop (d + 1) dims) (drop (d + 1) nodes)) (cell % cell_total (drop (d + 1) dims))) (passes (first * get_or steps d 0) (end * get_or steps d 0) (many * get_or steps d 0) cell unasked positive));
  }
    where
      passes : (low high cells cell : ℕ) → (nat_lt 0 low || nat_lt high cells) ≡ false → 0 < cells → (nat_le low (cell % cells) && nat_lt (cell % cells) high) ≡ true
      passes low high cells cell unasked positive = grind (arith, nat_tests, mod_below cell cells positive)

-- a cell behind all cells is in no region
pub is_among-past : (dims : List Dimension) (nodes : List ℕ) (cell : ℕ) → cell_total dims ≤ cell → is_among (cells_of dims nodes) cell ≡ false
is_among-past dims nodes cell past = list_any_none (λ c. c == cell) (cells_of dims nodes) (λ k d within. grind (arith, nat_tests, cells-below dims nodes k d within))
