-- To terms whose numerators are far below WIDE a share fits.
use Rattle.std.proofs.Common.{ℕ, zero, suc, ◌+◌, ◌*◌, ◌^◌, ◌<◌, ◌≤◌, Bool, true, false, [], ◌∷◌, get_or, ◌==◌, if◌then◌else◌, ℤ, pos, ◌+ℤ◌, ◌*ℤ◌, nat_abs, ◌∙◌, arith}
use Rattle.std.proofs.lemmas.Int.{ints}
use Rattle.cube_model.specs.Answer.{numerator_of}
use Rattle.cube_model.specs.Limits.{WIDE}
use Rattle.group_sum.specs.Terms.{TermList, FitsShare, AddsShare}
use Rattle.library_tests.specs.Small.{AreSmallLists}

-- a sum with a value added, or with nothing
sum_more : (adds : Bool) (sum value : ℤ) (times : ℕ) → nat_abs sum ≤ times * 2 ^ 32 → nat_abs value ≤ 2 ^ 32 → nat_abs (sum +ℤ (if adds then pos 1 *ℤ value else pos 0)) ≤ (times + 1) * 2 ^ 32
sum_more true sum value times small within = omega (arith, ints)
sum_more false sum value times small within = omega (arith, ints)

module _ (times : ℕ) (old : TermList) (small : AreSmallLists times old) (den : ℕ) (value : ℤ) (within : nat_abs value ≤ 2 ^ 32) where
  -- one more share fits
  sums_fit : (few : times ≤ 8) (k : ℕ) → k < 1 → nat_abs (numerator_of old.terms den (k + 1) +ℤ pos 1 *ℤ get_or (value ∷ []) k (pos 0)) ≤ WIDE
  sums_fit few zero lt = omega (arith, sum_more true (numerator_of old.terms den (zero + 1)) value times (small.sums den zero lt) within)
  sums_fit few (suc k) lt = absurd (omega arith)

  pub fits_more : times ≤ 8 → FitsShare old.terms den 1 (value ∷ [])
  fits_more few = record { count = omega (arith, small.counts den); sums = sums_fit few }

  -- and the terms stay small
  module _ (new : TermList) (adds : AddsShare old new den 1 (value ∷ [])) where
    sums_more : (d k : ℕ) → k < 1 → nat_abs (numerator_of new.terms d (k + 1)) ≤ (times + 1) * 2 ^ 32
    sums_more d zero lt = rw (adds.sums d zero (omega arith)) (sum_more (d == den) _ value times (small.sums d zero lt) within)
    sums_more d (suc k) lt = absurd (omega arith)

    pub small_more : AreSmallLists (times + 1) new
    small_more = record { columns = adds.columns ∙ small.columns; counts = λ d. grind (arith, adds.counts d, small.counts d); sums = sums_more }
