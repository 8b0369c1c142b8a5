-- What the value of a sum tells.
use Rattle.std.proofs.Common.{◌≡◌, ℕ, ◌≤◌, true, false, List, [], ◌∷◌, sym, ap, ◌∙◌, inl, inr, arith}
use Rattle.std.specs.Prelude.{All}
use Rattle.std.specs.Int.{◌∣◌}
use Rattle.std.proofs.lemmas.Bool.{cases_Bool}
use Rattle.std.proofs.lemmas.List.Elements.{All-nil, All-cons}
use Rattle.std.proofs.lemmas.Nat.Gcd.{dvd_trans}
use Rattle.group_sum.specs.Terms.{TermList, AreTerms}
use Rattle.exact_fraction.specs.Fraction.{Fraction, column_fractions, reduced, common_den, sum_over}
use Rattle.exact_fraction.specs.One.{is_wide, exact_value, wide_value, sum_of, IsExactSum}
use Rattle.exact_fraction.specs.Signed.{fraction_of}
use Rattle.exact_fraction.specs.declared.fraction.SignedFraction.{SignedFraction}
use Rattle.exact_fraction.specs.Laws.{IsCommonMultiple, TellsSum}
use Rattle.exact_fraction.proofs.Divisors.{lcm-is}
use Rattle.exact_fraction.proofs.Passes.{AreFractions, common_den_some, column_some, rest_of}
use Rattle.exact_fraction.proofs.Bounding.{totals_bound, reduced_lowest, reduced_equals, equal_bounds}

-- what a denominator divides, its multiple is divided by too
pub divide_more : (m n : ℕ) (fs : List Fraction) → m ∣ n → All (λ f. f.den ∣ m) fs → All (λ f. f.den ∣ n) fs
divide_more m n fs more each = λ k d lt. dvd_trans _ (each k d lt) more

-- the common denominator is a multiple of each
pub common_multiple : (fs : List Fraction) → AreFractions fs → IsCommonMultiple (common_den fs) fs
common_multiple [] some = record { some = omega arith; each = All-nil (λ f. f.den ∣ 1) }
common_multiple (f ∷ fs) some =
    let others = rest_of (λ (f : Fraction). 1 ≤ f.den) f fs some in
    let is = lcm-is f.den (common_den fs) (common_den_some fs others) in
    record {
      some = common_den_some (f ∷ fs) some;
      each = All-cons (λ g. g.den ∣ common_den (f ∷ fs)) f fs is.left (divide_more (common_den fs) (common_den (f ∷ fs)) fs is.right (common_multiple fs others).each);
    }

-- a sum that is told as one fraction, and one that is not
pub sum_narrow : (fs : List Fraction) → is_wide fs ≡ false → sum_of fs ≡ exact_value (reduced (sum_over (common_den fs) fs) (common_den fs))
sum_narrow fs narrow = rw narrow

pub exact_told : (fs : List Fraction) (p : SignedFraction) → IsExactSum fs p → exact_value (fraction_of p) ≡ sum_of fs
exact_told fs p is = ap exact_value is.parts.fraction ∙ sym (sum_narrow fs is.narrow)

pub sum_wide : (fs : List Fraction) → is_wide fs ≡ true → sum_of fs ≡ wide_value fs
sum_wide fs wide = rw wide

-- what it tells
pub sum_tells : (fs : List Fraction) → AreFractions fs → TellsSum fs (sum_of fs)
sum_tells fs some = elim (cases_Bool (is_wide fs)) [
  | inl wide ↦ rw (sum_wide fs wide) (record { bounds = totals_bound fs some; lowest = tt; equal = tt })
  | inr narrow ↦
      let is = common_multiple fs some in
      let lowest = reduced_lowest (sum_over (common_den fs) fs) (common_den fs) is.some in
      let equals = reduced_equals fs (common_den fs) is in
      rw (sum_narrow fs narrow) (record { bounds = λ m is_m. equal_bounds _ _ _ (sum_over m fs) _ m lowest.some lowest.bounds (equals m is_m); lowest = lowest; equal = equals })
]

-- the fractions of terms add up so
pub one_tells : (list : TermList) (column : ℕ) → AreTerms list → TellsSum (column_fractions column list.terms) (sum_of (column_fractions column list.terms))
one_tells list column are = sum_tells (column_fractions column list.terms) (column_some list.columns column 1 list.terms (omega arith) are.terms)
