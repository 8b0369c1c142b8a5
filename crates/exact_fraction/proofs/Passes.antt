-- What a pass over a column keeps, fraction by fraction.
use Rattle.std.proofs.Common.{◌≡◌, ℕ, suc, ◌+◌, ◌*◌, ◌/◌, ◌^◌, ◌<◌, ◌≤◌, true, List, [], ◌∷◌, length, Some, None, sym, ap, ◌∙◌, inl, inr, arith, ℤ, pos, ◌+ℤ◌, ◌-ℤ◌, drop}
use Rattle.std.specs.Prelude.{nat_abs, All}
use lib.IntN.{+ℤ_assoc}
use Rattle.std.proofs.lemmas.List.{drop_all, length-map}
use Rattle.std.proofs.lemmas.List.Elements.{All-nil, All-cons, All-drop}
use Rattle.std.proofs.lemmas.Bool.{cases_lt}
use Rattle.std.proofs.lemmas.Bool.Decides.{nat_tests}
use Rattle.std.proofs.lemmas.Int.{ints}
use Rattle.std.proofs.lemmas.List.Sums.{sum_by-cons}
use Rattle.std.proofs.Math.Nat.{mul_comm}
use Rattle.cube_model.specs.declared.term.Term.{Term}
use Rattle.cube_model.specs.Answer.{total_by}
use Rattle.cube_model.specs.Limits.{WIDE}
use Rattle.group_sum.specs.Terms.{TermList, AreTerms, are_terms_from}
use Rattle.group_sum.proofs.Ascending.{first_is}
use Rattle.exact_fraction.specs.Number.{lcm, within}
use Rattle.exact_fraction.specs.Fraction.{UNIT, Fraction, term_fraction, column_fractions, common_den, sum_over, abs_over, floor_of, ceiling_of}
use Rattle.exact_fraction.specs.Signed.{AddsToSums, AreSignedSums, fraction_of, signed, MOST_PART}
use Rattle.exact_fraction.specs.declared.fraction.SignedFraction.{SignedFraction}
use Rattle.exact_fraction.specs.declared.column.SignedSums.{SignedSums}
use Rattle.exact_fraction.specs.declared.fraction.Bounds.{Bounds}
use Rattle.exact_fraction.proofs.Columns.{column_of}
use Rattle.exact_fraction.proofs.Signs.{floor_small, ceiling_small, nat_abs-signed, signed-times}
use Rattle.exact_fraction.proofs.Divisors.{cofactor_some, lcm_some, le-lcm, lcm_assoc, lcm-one, one-lcm}

-- no denominator is 0
abbrev pub AreFractions : List Fraction → Type 0
AreFractions fs = All (λ f. 1 ≤ f.den) fs

pub first_of : {X : Type 0} (P : X → Type 0) (x : X) (xs : List X) → All P (x ∷ xs) → P x
first_of P x xs each = each 0 x (omega arith)

pub rest_of : {X : Type 0} (P : X → Type 0) (x : X) (xs : List X) → All P (x ∷ xs) → All P xs
rest_of P x xs each = λ k d lt. each (suc k) d (omega arith)

pub common_den_some : (fs : List Fraction) → AreFractions fs → 1 ≤ common_den fs
common_den_some [] some = omega arith
common_den_some (f ∷ fs) some =
    let P : Fraction → Type 0 = λ f. 1 ≤ f.den in
    lcm_some f.den (common_den fs) (first_of P f fs some) (common_den_some fs (rest_of P f fs some))

-- none is 0 among the fractions of terms
pub column_some : (columns column least : ℕ) (terms : List Term) → 1 ≤ least → are_terms_from columns least terms ≡ true → AreFractions (column_fractions column terms)
column_some columns column least [] from ok = All-nil (λ f. 1 ≤ f.den)
column_some columns column least (t ∷ terms) from ok =
    let is = first_is columns least t terms ok in
    All-cons (λ f. 1 ≤ f.den) (term_fraction column t) (column_fractions column terms)
    (cofactor_some (nat_abs (column_of column t)) t.den (omega (arith, is.from)))
    (column_some columns column (t.den + 1) terms (omega arith) is.others)

pub rest_some : (list : TermList) (column i : ℕ) → AreTerms list → AreFractions (drop i (column_fractions column list.terms))
rest_some list column i are = All-drop (λ f. 1 ≤ f.den) i (column_fractions column list.terms) (column_some list.columns column 1 list.terms (omega arith) are.terms)

-- past the last term there is none
pub rest_none : (column i : ℕ) (terms : List Term) → length terms ≤ i → drop i (column_fractions column terms) ≡ []
rest_none column i terms past = drop_all i (column_fractions column terms) (rw length-map past)

-- what is told of a number that does not pass WIDE
pub within_some : (n m : ℕ) → Some m ≡ within n → (n ≡ m) × (m ≤ WIDE)
within_some n m told = elim (cases_lt WIDE n) [
  | inl wide ↦ absurd (grind (arith, nat_tests))
  | inr narrow ↦ (grind (arith, nat_tests), grind (arith, nat_tests))
]

pub within_none : (n : ℕ) → None ≡ within n → WIDE < n
within_none n told = elim (cases_lt WIDE n) [ inl wide ↦ wide | inr narrow ↦ absurd (grind (arith, nat_tests)) ]

pub none_within : (n : ℕ) → WIDE < n → within n ≡ None
none_within n wide = grind (arith, nat_tests)

-- the multiple so far, and the one of it and all fractions from here on
pub record HasCommon (common whole : ℕ) (rest : List Fraction) : Type 0 where
  pub some : 1 ≤ common
  pub narrow : common ≤ WIDE
  pub reaches : lcm common (common_den rest) ≡ whole

-- before any fraction it is 1
pub has_first : (fs : List Fraction) → AreFractions fs → HasCommon 1 (common_den fs) fs
has_first fs some = record { some = omega arith; narrow = omega arith; reaches = one-lcm (common_den fs) (common_den_some fs some) }

module _ (common whole : ℕ) (f : Fraction) (rest : List Fraction) (has : HasCommon common whole (f ∷ rest)) (some : 1 ≤ f.den) (others : AreFractions rest) where
  common_next : lcm (lcm common f.den) (common_den rest) ≡ whole
  common_next = lcm_assoc common f.den (common_den rest) some (common_den_some rest others) ∙ has.reaches

  pub has_next : (next : ℕ) → Some next ≡ within (lcm common f.den) → HasCommon next whole rest
  has_next next told =
      let parts = within_some (lcm common f.den) next told in
      record { some = rw (← parts.0) (lcm_some common f.den has.some some); narrow = parts.1; reaches = rw (← parts.0) common_next }

  -- a multiple that passes WIDE divides the one of all
  pub has_none : None ≡ within (lcm common f.den) → within whole ≡ None
  has_none told =
      let above = le-lcm (lcm common f.den) (common_den rest) (lcm_some common f.den has.some some) (common_den_some rest others) in
      none_within whole (omega (arith, within_none (lcm common f.den) told, above, common_next))

pub has_all : (common whole : ℕ) (rest : List Fraction) → HasCommon common whole rest → rest ≡ [] → within whole ≡ Some common
has_all common whole rest has empty =
    let is : common ≡ whole = sym (lcm-one common) ∙ ap (λ fs. lcm common (common_den fs)) (sym empty) ∙ has.reaches in
    let narrow = has.narrow in
    grind (arith, nat_tests)

-- the sum so far, with the fractions from here on, is the sum of all
pub record HasSums (multiple : ℕ) (fs : List Fraction) (sums : SignedSums) (rest : List Fraction) : Type 0 where
  pub sum : pos sums.above -ℤ pos sums.below +ℤ sum_over multiple rest ≡ sum_over multiple fs
  pub size : sums.above + sums.below + abs_over multiple rest ≡ abs_over multiple fs
  pub narrow : sums.above + sums.below ≤ WIDE

-- with one more fraction
module _ (multiple : ℕ) (fs : List Fraction) (sums : SignedSums) (p : SignedFraction) (rest : List Fraction) (has : HasSums multiple fs sums (fraction_of p ∷ rest)) (share : ℕ) (share_is : multiple / p.den * p.size ≡ share) where
  sum_left : pos sums.above -ℤ pos sums.below +ℤ (signed p.negative share +ℤ sum_over multiple rest) ≡ sum_over multiple fs
  sum_left = ap (λ z. pos sums.above -ℤ pos sums.below +ℤ (z +ℤ sum_over multiple rest)) (sym (signed-times p.negative p.size (multiple / p.den) ∙ ap (signed p.negative) share_is)) ∙ has.sum

  size_left : sums.above + sums.below + (share + abs_over multiple rest) ≡ abs_over multiple fs
  size_left =
      let one : nat_abs (signed p.negative p.size) * (multiple / p.den) ≡ share = ap (λ n. n * (multiple / p.den)) (nat_abs-signed p.negative p.size) ∙ mul_comm p.size (multiple / p.den) ∙ share_is in
      ap (λ n. sums.above + sums.below + (n + abs_over multiple rest)) (sym one)
      ∙ ap (λ n. sums.above + sums.below + n) (sym (sum_by-cons (λ (f : Fraction). nat_abs f.num * (multiple / f.den)) (fraction_of p) rest)) ∙ has.size

  pub sums_next : (next : SignedSums) → AddsToSums sums p.negative share next → HasSums multiple fs next rest
  sums_next next adds = record {
    sum = ap (λ z. z +ℤ sum_over multiple rest) adds.sum ∙ +ℤ_assoc (pos sums.above -ℤ pos sums.below) (signed p.negative share) (sum_over multiple rest) ∙ sum_left;
    size = omega (arith, adds.size, size_left);
    narrow = adds.within;
  }

  -- or where they pass WIDE
  pub sums_wide : WIDE < sums.above + sums.below + share → WIDE < abs_over multiple fs
  sums_wide wide = omega (arith, size_left)

-- past the last fraction the sums are those of all
pub sums_all : (multiple : ℕ) (fs : List Fraction) (sums : SignedSums) (rest : List Fraction) → HasSums multiple fs sums rest → rest ≡ [] → AreSignedSums multiple fs sums
sums_all multiple fs sums rest has empty =
    let all = rw empty at has in
    record { sum = omega (arith, ints, all.sum); size = omega (arith, all.size); within = has.narrow }

-- the bounds so far, with those of the fractions from here on, are the bounds of all; and they are small
pub record HasBounds (fs : List Fraction) (i : ℕ) (bounds : Bounds) (rest : List Fraction) : Type 0 where
  pub lo : bounds.lo +ℤ total_by floor_of rest ≡ total_by floor_of fs
  pub hi : bounds.hi +ℤ total_by ceiling_of rest ≡ total_by ceiling_of fs
  pub small_lo : nat_abs bounds.lo ≤ i * 2 ^ 91
  pub small_hi : nat_abs bounds.hi ≤ i * 2 ^ 91

-- a sum is no larger than its parts together
pub sum_small : (x y : ℤ) (m n : ℕ) → nat_abs x ≤ m → nat_abs y ≤ n → nat_abs (x +ℤ y) ≤ m + n
sum_small x y m n le_x le_y = omega (arith, ints)

module _ (fs : List Fraction) (i : ℕ) (bounds : Bounds) (p : SignedFraction) (rest : List Fraction) (has : HasBounds fs i bounds (fraction_of p ∷ rest)) (some : 1 ≤ p.den) (size : p.size ≤ MOST_PART * p.den)
    (each : Bounds) (lo_is : each.lo ≡ floor_of (fraction_of p)) (hi_is : each.hi ≡ ceiling_of (fraction_of p)) where
  pub bounds_next : HasBounds fs (i + 1) (record { lo = bounds.lo +ℤ each.lo; hi = bounds.hi +ℤ each.hi }) rest
  bounds_next = record {
    lo = +ℤ_assoc bounds.lo each.lo (total_by floor_of rest) ∙ ap (λ z. bounds.lo +ℤ (z +ℤ total_by floor_of rest)) lo_is ∙ has.lo;
    hi = +ℤ_assoc bounds.hi each.hi (total_by ceiling_of rest) ∙ ap (λ z. bounds.hi +ℤ (z +ℤ total_by ceiling_of rest)) hi_is ∙ has.hi;
    small_lo = let small = sum_small bounds.lo each.lo (i * 2 ^ 91) (MOST_PART * UNIT + 1) has.small_lo (rw lo_is (floor_small MOST_PART p.size p.den some size p.negative)) in omega arith;
    small_hi = let small = sum_small bounds.hi each.hi (i * 2 ^ 91) (MOST_PART * UNIT + 1) has.small_hi (rw hi_is (ceiling_small MOST_PART p.size p.den some size p.negative)) in omega arith;
  }
