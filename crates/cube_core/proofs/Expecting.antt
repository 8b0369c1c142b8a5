-- Answers are what facts are expected to come to over all worlds, and so are the fractions that are told of them.
use Rattle.std.proofs.Common.{◌≡◌, ℕ, zero, ◌*◌, ◌/◌, ◌≤◌, List, [], ◌∷◌, refl, ap, sym, ◌∙◌, arith, subst, ℤ, pos, ◌+ℤ◌, ◌*ℤ◌, Option, Some, None}
use Rattle.std.specs.Prelude.{All, IfSome, nat_abs}
use Rattle.std.specs.Int.{◌∣◌}
use Rattle.std.proofs.lemmas.List.Elements.{All-head, All-map, All-tail, All-weaker}
use Rattle.std.proofs.lemmas.Nat.Gcd.{dvd_trans}
use Rattle.std.proofs.Math.Nat.{dvd-mul_right, mul-div_cancel', mul-div_cancel_left}
use Rattle.cube_model.specs.declared.term.Term.{Term}
use Rattle.cube_model.specs.Allocation.{ExtendedFact}
use Rattle.cube_model.specs.Answer.{answer}
use Rattle.cube_model.specs.Tree.{Dimension}
use Rattle.exact_fraction.specs.Fraction.{Fraction, column_fractions, reduced, sum_over, term_fraction}
use Rattle.exact_fraction.specs.Laws.{EqualsSum, IsCommonMultiple}
use Rattle.exact_fraction.specs.Number.{gcd}
use Rattle.exact_fraction.specs.One.{one_of}
use Rattle.exact_fraction.proofs.Bounding.{reduced_den, reduced_lowest, reduced_num}
use Rattle.exact_fraction.proofs.Passes.{AreFractions}
use Rattle.exact_fraction.proofs.Products.{times-times}
use Rattle.exact_fraction.proofs.Told.{sum_tells}
use Rattle.world_law.specs.Law.{IsShared, cleared, numerator}
use Rattle.world_law.specs.Worlds.{mass}
use Rattle.world_law.proofs.Expectation.{mass-product}
use Rattle.world_law.proofs.Grouping.{lawful}
use Rattle.world_law.proofs.Judging.{product_some}
use Rattle.cube_core.specs.Expected.{AreExpected}

-- a divisor of a number that is not 0 is not 0
divisor_some : (d n : ℕ) → d ∣ n → 1 ≤ n → 1 ≤ d
divisor_some zero n divides some = absurd (omega (arith, some, mul-div_cancel' 0 divides))
divisor_some d n divides some = omega arith

-- a fraction in lowest terms, over a multiple of its denominator
module _ (num : ℤ) (den whole : ℕ) (divides : den ∣ whole) (some : 1 ≤ den) where
  lowest_divides : (reduced num den).den ∣ whole
  lowest_divides = dvd_trans (reduced num den).den (subst (λ n. (reduced num den).den ∣ n) (reduced_den num den some) (dvd-mul_right (reduced num den).den (gcd (nat_abs num) den))) divides

  share-lowest : whole / (reduced num den).den ≡ gcd (nat_abs num) den * (whole / den)
  share-lowest =
      let d = (reduced num den).den in
      let g = gcd (nat_abs num) den in
      let whole_is : d * (g * (whole / den)) ≡ whole = turned d g (whole / den) den (reduced_den num den some) ∙ mul-div_cancel' den divides in
      ap (λ n. n / d) (sym whole_is) ∙ mul-div_cancel_left (g * (whole / den)) (reduced_lowest num den some).some
    where
      turned : (d g q den : ℕ) → d * g ≡ den → d * (g * q) ≡ den * q
      turned d g q den is = rw (← is) (omega arith)

  number-lowest : (reduced num den).num *ℤ pos (whole / (reduced num den).den) ≡ num *ℤ pos (whole / den)
  number-lowest =
      let r = (reduced num den).num in
      let g = gcd (nat_abs num) den in
      ap (λ n. r *ℤ pos n) share-lowest ∙ sym (times-times r g (whole / den)) ∙ ap (λ z. z *ℤ pos (whole / den)) (reduced_num num den some)

-- terms whose denominators divide a number
module _ (column whole : ℕ) (some : 1 ≤ whole) where
  sum_over-cleared : (terms : List Term) → All (λ t. t.den ∣ whole) terms → sum_over whole (column_fractions column terms) ≡ cleared whole column terms
  sum_over-cleared [] each = refl
  sum_over-cleared (t ∷ terms) each =
      let divides = All-head (λ (t : Term). t.den ∣ whole) t terms each in
      ap (λ z. z +ℤ sum_over whole (column_fractions column terms)) (number-lowest (numerator column t) t.den whole divides (divisor_some t.den whole divides some))
      ∙ ap (λ z. numerator column t *ℤ pos (whole / t.den) +ℤ z) (sum_over-cleared terms (All-tail (λ (t : Term). t.den ∣ whole) t terms each))

  common : (terms : List Term) → All (λ t. t.den ∣ whole) terms → IsCommonMultiple whole (column_fractions column terms)
  common terms each = record {
    some = some;
    each = All-map (λ (f : Fraction). f.den ∣ whole) (term_fraction column) terms
        (All-weaker (λ (t : Term). t.den ∣ whole) (λ (t : Term). (term_fraction column t).den ∣ whole) (λ t divides. lowest_divides (numerator column t) t.den whole divides (divisor_some t.den whole divides some)) terms each);
  }

  fractions : (terms : List Term) → All (λ t. t.den ∣ whole) terms → AreFractions (column_fractions column terms)
  fractions terms each =
      All-map (λ (f : Fraction). 1 ≤ f.den) (term_fraction column) terms
      (All-weaker (λ (t : Term). t.den ∣ whole) (λ (t : Term). 1 ≤ (term_fraction column t).den) (λ t divides. (reduced_lowest (numerator column t) t.den (divisor_some t.den whole divides some)).some) terms each)

  equal : (exact : Option (ℤ × ℕ)) (terms : List Term) → All (λ t. t.den ∣ whole) terms → IfSome exact (λ x. EqualsSum x.0 x.1 (column_fractions column terms)) → IfSome exact (λ x. x.0 *ℤ pos whole ≡ cleared whole column terms *ℤ pos x.1)
  equal None terms each equals = tt
  equal (Some x) terms each equals = equals whole (common terms each) ∙ ap (λ z. z *ℤ pos x.1) (sum_over-cleared terms each)

  one-cleared : (terms : List Term) → All (λ t. t.den ∣ whole) terms → IfSome (one_of column terms).exact (λ x. x.0 *ℤ pos whole ≡ cleared whole column terms *ℤ pos x.1)
  unfolding one_of
  one-cleared terms each = equal (one_of column terms).exact terms each (sum_tells (column_fractions column terms) (fractions terms each)).equal

mass_some : (facts : List ExtendedFact) → All IsShared facts → 1 ≤ mass facts
mass_some facts are = rw (mass-product facts are) (product_some (λ (e : ExtendedFact). e.allocation.den) facts (All-weaker IsShared (λ e. 1 ≤ e.allocation.den) (λ e is. is.some) facts are))

-- answers over facts whose weights add up to their denominators are expected
pub are_expected : (columns : ℕ) (dims : List Dimension) (region : List ℕ) (facts : List ExtendedFact) → All IsShared facts → AreExpected columns dims region facts (answer columns dims facts region)
are_expected columns dims region facts are =
    let law = lawful columns dims region facts are in
    let terms = answer columns dims facts region in
    record {
      dens = law.dens;
      totals = law.totals;
      fractions = λ column within. subst (λ z. IfSome (one_of column terms).exact (λ x. x.0 *ℤ pos (mass facts) ≡ z *ℤ pos x.1)) (sym (law.totals column within)) (one-cleared column (mass facts) (mass_some facts are) terms law.dens);
    }
