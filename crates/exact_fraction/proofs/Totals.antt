-- The sum of a column as one fraction.
use Rattle.std.proofs.Common.{get_or, ◌≡◌, ℕ, ◌*◌, ◌/◌, ◌<◌, ◌≤◌, true, List, length, None, Some, sym, ap, ◌∙◌, arith, ℤ}
use Rattle.std.specs.Prelude.{nat_abs, All}
use Rattle.std.proofs.lemmas.Bool.Decides.{nat_tests}
use Rattle.std.proofs.lemmas.List.{length-map}
use Rattle.std.proofs.lemmas.List.Sums.{sum_by-le}
use Rattle.std.proofs.Math.Nat.{mul-le-mul_right, mul-le-mul_left, mul-div-le, div-le_self}
use Rattle.cube_model.specs.Limits.{WIDE}
use Rattle.group_sum.specs.Terms.{TermList, AreTerms}
use Rattle.exact_fraction.specs.Number.{gcd, within}
use Rattle.exact_fraction.specs.Fraction.{Fraction, reduced, term_fraction, column_fractions, common_den, sum_over, abs_over}
use Rattle.exact_fraction.specs.Moderate.{IsModerate}
use Rattle.exact_fraction.specs.Signed.{signed, signed_lowest, AreSignedSums, IsSumOver, StandsFor, MOST_PART, MOST_WHOLE}
use Rattle.exact_fraction.specs.One.{is_wide, IsExactSum}
use Rattle.exact_fraction.specs.declared.fraction.SignedFraction.{SignedFraction}
use Rattle.exact_fraction.specs.declared.column.SignedSums.{SignedSums}
use Rattle.exact_fraction.proofs.Divisors.{cofactor_some, cofactor_le}
use Rattle.exact_fraction.proofs.Signs.{reduced-signed}
use Rattle.exact_fraction.proofs.Columns.{column_small, terms_small}
use Rattle.exact_fraction.proofs.Passes.{common_den_some, column_some, within_some, within_none}

-- the absolute values over a multiple, where no fraction is larger than some number
pub abs_over_bound : (most multiple : ℕ) (fs : List Fraction) → All (λ f. nat_abs f.num ≤ most * f.den) fs → abs_over multiple fs ≤ length fs * (most * multiple)
abs_over_bound most multiple fs small =
    sum_by-le (λ f. nat_abs f.num * (multiple / f.den)) (most * multiple) fs (λ k d lt. share_bound (get_or fs k d).num (get_or fs k d).den (small k d lt))
  where
    share_bound : (num : ℤ) (den : ℕ) → nat_abs num ≤ most * den → nat_abs num * (multiple / den) ≤ most * multiple
    share_bound num den le = omega (arith, mul-le-mul_right (multiple / den) le, mul-le-mul_left most (mul-div-le multiple den))

-- parts in lowest terms
pub lowest_told : (num : ℤ) (den : ℕ) (p : SignedFraction) → signed p.negative p.size ≡ num → p.den ≡ den → 1 ≤ den → den ≤ WIDE → p.size ≤ WIDE → p.size ≤ MOST_WHOLE * den → StandsFor (reduced num den) (signed_lowest p)
lowest_told num den p num_is den_is some narrow within size =
    let some_den : 1 ≤ p.den = rw den_is some in
    record {
      fraction = sym (reduced-signed p.negative p.size p.den) ∙ ap (λ z. reduced z p.den) num_is ∙ ap (reduced num) den_is;
      some = cofactor_some p.size p.den some_den;
      narrow = omega (arith, div-le_self p.den (gcd p.size p.den));
      within = omega (arith, div-le_self p.size (gcd p.size p.den));
      size = cofactor_le MOST_WHOLE p.size p.den some_den (rw den_is size);
    }

-- denominators whose least common multiple passes WIDE
pub common_wide : (fs : List Fraction) → None ≡ within (common_den fs) → is_wide fs ≡ true
common_wide fs told = let wide = within_none (common_den fs) told in grind (arith, nat_tests)

module _ (list : TermList) (column : ℕ) (are : AreTerms list) (moderate : IsModerate list.terms) (in_columns : column < list.columns) where
  -- no sum over a multiple is larger than MOST_WHOLE
  pub abs_over_small : (multiple : ℕ) → abs_over multiple (column_fractions column list.terms) ≤ MOST_WHOLE * multiple
  abs_over_small multiple =
      let fs = column_fractions column list.terms in
      let each = abs_over_bound MOST_PART multiple fs (column_small MOST_PART list.columns column 1 list.terms (omega arith) are.terms (terms_small list.columns column 1 list.terms are.terms in_columns moderate.each)) in
      let few = rw (← length-map list.terms (term_fraction column)) at moderate.few in
      omega (arith, each, mul-le-mul_right (MOST_PART * multiple) few)

  module _ (common : ℕ) (told : Some common ≡ within (common_den (column_fractions column list.terms))) where
    -- what is told of the common denominator
    pub common_told : (common_den (column_fractions column list.terms) ≡ common) × (common ≤ WIDE)
    common_told = within_some _ common told

    pub sum_wide : WIDE < abs_over common (column_fractions column list.terms) → is_wide (column_fractions column list.terms) ≡ true
    sum_wide wide =
        let shown : WIDE < abs_over (common_den (column_fractions column list.terms)) (column_fractions column list.terms) = rw common_told.0 wide in
        grind (arith, nat_tests)

    pub common_some : 1 ≤ common
    common_some = rw (← common_told.0) (common_den_some _ (column_some list.columns column 1 list.terms (omega arith) are.terms))

    -- the sum in lowest terms
    pub sum_exact : (sums : SignedSums) (p : SignedFraction) → AreSignedSums common (column_fractions column list.terms) sums → IsSumOver sums common p → IsExactSum (column_fractions column list.terms) (signed_lowest p)
    sum_exact sums p are_sums is =
        let same = common_told.0 in
        let narrow = common_told.1 in
        let within_sum : abs_over (common_den (column_fractions column list.terms)) (column_fractions column list.terms) ≤ WIDE = rw (same, ← are_sums.size) are_sums.within in
        record {
          narrow = grind (arith, nat_tests);
          parts = rw same (lowest_told (sum_over common (column_fractions column list.terms)) common p (is.num ∙ sym are_sums.sum) is.den common_some narrow (omega (arith, is.size, are_sums.within)) (omega (arith, is.size, are_sums.size, abs_over_small common)));
        }
