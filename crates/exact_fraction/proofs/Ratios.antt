-- The quotient of a column by the count and a scale as one fraction.
use Rattle.std.proofs.Common.{◌≡◌, ℕ, ◌+◌, ◌*◌, ◌<◌, ◌≤◌, ◌||◌, Bool, true, false, List, [], ◌∷◌, length, Option, Some, None, MatchOption, subst, refl, sym, ap, ◌∙◌, arith}
use Rattle.std.specs.Prelude.{nat_lt}
use Rattle.std.proofs.lemmas.Bool.Decides.{nat_tests}
use Rattle.cube_model.specs.Limits.{MAX_VALUE, WIDE}
use Rattle.group_sum.specs.Terms.{TermList, AreTerms}
use Rattle.exact_fraction.specs.Number.{lcm, within}
use Rattle.exact_fraction.specs.Fraction.{Fraction, reduced, column_fractions, common_den, abs_over}
use Rattle.exact_fraction.specs.Moderate.{IsModerate}
use Rattle.exact_fraction.specs.Signed.{signed, AreSignedSums, IsSumOver, StandsFor}
use Rattle.exact_fraction.specs.Ratio.{joint_den, reduced_quotient, is_wide_quotient, IsExactQuotient}
use Rattle.exact_fraction.specs.Laws.{IsCommonMultiple}
use Rattle.exact_fraction.specs.declared.fraction.SignedFraction.{SignedFraction}
use Rattle.exact_fraction.specs.declared.column.SignedSums.{SignedSums}
use Rattle.exact_fraction.proofs.Divisors.{one-lcm, lcm_assoc, lcm-is, le-lcm, lcm-le, lcm_some}
use Rattle.exact_fraction.proofs.Passes.{AreFractions, common_den_some, column_some, rest_of, within_some, within_none}
use Rattle.exact_fraction.proofs.Told.{divide_more, common_multiple}
use Rattle.exact_fraction.proofs.Shares.{abs_over_count, count_some}

-- one of four numbers passes WIDE, or none does
module _ (a b c d : ℕ) where
  abbrev any_wide : Bool
  any_wide = nat_lt WIDE a || nat_lt WIDE b || nat_lt WIDE c || nat_lt WIDE d

  first_wide : WIDE < a → any_wide ≡ true
  first_wide wide = grind (arith, nat_tests)

  second_wide : WIDE < b → any_wide ≡ true
  second_wide wide = grind (arith, nat_tests)

  third_wide : WIDE < c → any_wide ≡ true
  third_wide wide = grind (arith, nat_tests)

  fourth_wide : WIDE < d → any_wide ≡ true
  fourth_wide wide = grind (arith, nat_tests)

  none_wide : a ≤ WIDE → b ≤ WIDE → c ≤ WIDE → d ≤ WIDE → any_wide ≡ false
  none_wide a_le b_le c_le d_le = grind (arith, nat_tests)

-- as it is told of a quotient
module _ (scale : ℕ) (fs cs : List Fraction) where
  wide_den : WIDE < joint_den fs cs → is_wide_quotient scale fs cs ≡ true
  wide_den = first_wide (joint_den fs cs) (abs_over (joint_den fs cs) fs) (abs_over (joint_den fs cs) cs) (reduced_quotient scale fs cs).den

  wide_sum : WIDE < abs_over (joint_den fs cs) fs → is_wide_quotient scale fs cs ≡ true
  wide_sum = second_wide (joint_den fs cs) (abs_over (joint_den fs cs) fs) (abs_over (joint_den fs cs) cs) (reduced_quotient scale fs cs).den

  wide_count : WIDE < abs_over (joint_den fs cs) cs → is_wide_quotient scale fs cs ≡ true
  wide_count = third_wide (joint_den fs cs) (abs_over (joint_den fs cs) fs) (abs_over (joint_den fs cs) cs) (reduced_quotient scale fs cs).den

  wide_ratio : WIDE < (reduced_quotient scale fs cs).den → is_wide_quotient scale fs cs ≡ true
  wide_ratio = fourth_wide (joint_den fs cs) (abs_over (joint_den fs cs) fs) (abs_over (joint_den fs cs) cs) (reduced_quotient scale fs cs).den

  narrow_ratio : joint_den fs cs ≤ WIDE → abs_over (joint_den fs cs) fs ≤ WIDE → abs_over (joint_den fs cs) cs ≤ WIDE → (reduced_quotient scale fs cs).den ≤ WIDE → is_wide_quotient scale fs cs ≡ false
  narrow_ratio = none_wide (joint_den fs cs) (abs_over (joint_den fs cs) fs) (abs_over (joint_den fs cs) cs) (reduced_quotient scale fs cs).den

-- the common denominator of two lists
pub joint_is : (fs cs : List Fraction) → AreFractions fs → AreFractions cs → joint_den fs cs ≡ lcm (common_den fs) (common_den cs)
joint_is [] cs some some_count = sym (one-lcm (common_den cs) (common_den_some cs some_count))
joint_is (f ∷ fs) cs some some_count =
    let others = rest_of (λ (f : Fraction). 1 ≤ f.den) f fs some in
    ap (λ n. lcm f.den n) (joint_is fs cs others some_count) ∙ sym (lcm_assoc f.den (common_den fs) (common_den cs) (common_den_some fs others) (common_den_some cs some_count))

-- is a multiple of both
module _ (fs cs : List Fraction) (some : AreFractions fs) (some_count : AreFractions cs) where
  joint_some : 1 ≤ joint_den fs cs
  joint_some = rw (joint_is fs cs some some_count) (lcm_some (common_den fs) (common_den cs) (common_den_some fs some) (common_den_some cs some_count))

  pub joint_left : IsCommonMultiple (joint_den fs cs) fs
  joint_left = record {
    some = joint_some;
    each = divide_more (common_den fs) (joint_den fs cs) fs (rw (joint_is fs cs some some_count) (lcm-is (common_den fs) (common_den cs) (common_den_some cs some_count)).left) (common_multiple fs some).each;
  }

  pub joint_right : IsCommonMultiple (joint_den fs cs) cs
  joint_right = record {
    some = joint_some;
    each = divide_more (common_den cs) (joint_den fs cs) cs (rw (joint_is fs cs some some_count) (lcm-is (common_den fs) (common_den cs) (common_den_some cs some_count)).right) (common_multiple cs some_count).each;
  }

module _ (list : TermList) (column scale : ℕ) (are : AreTerms list) (moderate : IsModerate list.terms) (in_columns : column < list.columns) where
  abbrev fs : List Fraction
  fs = column_fractions column list.terms

  abbrev cs : List Fraction
  cs = column_fractions 0 list.terms

  pub fs_some : AreFractions fs
  fs_some = column_some list.columns column 1 list.terms (omega arith) are.terms

  pub cs_some : AreFractions cs
  cs_some = column_some list.columns 0 1 list.terms (omega arith) are.terms

  -- the denominators of the column pass WIDE, or those of the count
  pub first_told : None ≡ within (common_den fs) → is_wide_quotient scale fs cs ≡ true
  first_told told =
      let wide = within_none _ told in
      let above = le-lcm (common_den fs) (common_den cs) (common_den_some fs fs_some) (common_den_some cs cs_some) in
      wide_den scale fs cs (rw (joint_is fs cs fs_some cs_some) (omega (arith, wide, above)))

  pub second_told : None ≡ within (common_den cs) → is_wide_quotient scale fs cs ≡ true
  second_told told =
      let wide = within_none _ told in
      let above = lcm-le (common_den fs) (common_den cs) (common_den_some fs fs_some) (common_den_some cs cs_some) in
      wide_den scale fs cs (rw (joint_is fs cs fs_some cs_some) (omega (arith, wide, above)))

  module _ (first second : ℕ) (told_first : Some first ≡ within (common_den fs)) (told_second : Some second ≡ within (common_den cs)) where
    joint_from : joint_den fs cs ≡ lcm first second
    joint_from = joint_is fs cs fs_some cs_some ∙ ap (λ n. lcm n (common_den cs)) (within_some _ first told_first).0 ∙ ap (lcm first) (within_some _ second told_second).0

    -- those of both do
    pub both_told : None ≡ within (lcm first second) → is_wide_quotient scale fs cs ≡ true
    both_told told = wide_den scale fs cs (rw joint_from (within_none _ told))

    module _ (common : ℕ) (told : Some common ≡ within (lcm first second)) where
      joint_told : (joint_den fs cs ≡ common) × (common ≤ WIDE)
      joint_told = let parts = within_some (lcm first second) common told in (joint_from ∙ parts.0, parts.1)

      -- the absolute values do
      pub sum_told : WIDE < abs_over common fs → is_wide_quotient scale fs cs ≡ true
      sum_told wide = wide_sum scale fs cs (rw joint_told.0 wide)

      pub count_told : WIDE < abs_over common cs → is_wide_quotient scale fs cs ≡ true
      count_told wide = wide_count scale fs cs (rw joint_told.0 wide)

      module _ (some : 1 ≤ length list.terms) (sum count : SignedSums) (are_sum : AreSignedSums common fs sum) (are_count : AreSignedSums common cs count) (p : SignedFraction) (is : IsSumOver sum (count.above + count.below) p) where
        den_is : p.den ≡ abs_over common cs
        den_is = is.den ∙ are_count.size

        -- the parts are a moderate fraction
        pub den_some : 1 ≤ p.den
        den_some =
            let multiple = rw joint_told.0 at (joint_right fs cs fs_some cs_some) in
            rw den_is (count_some list.columns common list.terms some are.terms multiple)

        pub size_le : p.size ≤ MAX_VALUE * p.den
        size_le =
            let multiple = rw joint_told.0 at (joint_left fs cs fs_some cs_some) in
            let multiple_count = rw joint_told.0 at (joint_right fs cs fs_some cs_some) in
            let bound = abs_over_count list.columns column in_columns common 1 list.terms (omega arith) are.terms moderate.each multiple multiple_count in
            rw den_is (omega (arith, is.size, are_sum.size, bound))

        quotient_is : reduced_quotient scale fs cs ≡ reduced (signed p.negative p.size) (p.den * scale)
        quotient_is = rw (joint_told.0, ← den_is, are_sum.sum, ← is.num) refl

        same_den : (reduced_quotient scale fs cs).den ≡ (reduced (signed p.negative p.size) (p.den * scale)).den
        same_den = ap (λ (f : Fraction). f.den) quotient_is

        -- the denominator of the quotient passes WIDE, or the quotient is told
        pub quotient_told : (told_quotient : Option SignedFraction) → MatchOption told_quotient (WIDE < (reduced (signed p.negative p.size) (p.den * scale)).den) (λ q. StandsFor (reduced (signed p.negative p.size) (p.den * scale)) q)
            → MatchOption told_quotient (is_wide_quotient scale fs cs ≡ true) (λ q. IsExactQuotient scale fs cs q)
        quotient_told None wide = let P : ℕ → Type 0 = λ n. WIDE < n in wide_ratio scale fs cs (subst P (sym same_den) wide)
        quotient_told (Some q) parts =
            let P : ℕ → Type 0 = λ n. n ≤ WIDE in
            let den_told : (reduced_quotient scale fs cs).den ≤ WIDE = subst P (ap (λ (f : Fraction). f.den) parts.fraction ∙ sym same_den) parts.narrow in
            record {
              narrow = narrow_ratio scale fs cs (rw joint_told.0 joint_told.1) (rw (joint_told.0, ← are_sum.size) are_sum.within) (rw (joint_told.0, ← are_count.size) are_count.within) den_told;
              parts = rw quotient_is parts;
            }
