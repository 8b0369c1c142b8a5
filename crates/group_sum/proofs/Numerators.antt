-- The numerators of the term of a denominator.
use Rattle.std.proofs.Common.{◌≡◌, ℕ, ◌+◌, ◌-◌, ◌<◌, ◌≤◌, true, List, ◌∷◌, length, Option, Some, None, get_or, ℤ, pos, nat_abs, refl, add-one, le-leb, arith}
use Rattle.std.specs.Prelude.{nat_le}
use Rattle.std.specs.Option.{option_map_or}
use Rattle.std.proofs.lemmas.Bool.Decides.{nat_tests}
use Rattle.cube_model.specs.declared.term.Term.{Term}
use Rattle.cube_model.specs.Answer.{term_of, numerator_of}
use Rattle.cube_model.specs.Limits.{WIDE}
use Rattle.group_sum.specs.Terms.{is_term}
use Rattle.group_sum.specs.Heads.{head_sum, AreWithin, IsTermOf}
use Rattle.group_sum.proofs.Adding.{list_all_passes}

-- a column's numerator of the term of a denominator
abbrev pub sum_of : List Term → ℕ → ℕ → ℤ
sum_of terms d k = head_sum (term_of terms d) k

-- which is the numerator of the column behind the count
numerator_in : (found : Option Term) (k : ℕ) → option_map_or (λ (t : Term). get_or (pos t.count ∷ t.sums) (k + 1) (pos 0)) found (pos 0) ≡ head_sum found k
numerator_in None k = refl
numerator_in (Some term) k = rw add-one refl

pub numerator_is : (terms : List Term) (d k : ℕ) → numerator_of terms d (k + 1) ≡ sum_of terms d k
numerator_is terms d k = numerator_in (term_of terms d) k

-- a term of these numerators is one of the columns
pub is_term_of : (columns den weight : ℕ) (numerator : ℕ → ℤ) (term : Term) → 1 ≤ columns → 1 ≤ weight → weight ≤ WIDE → AreWithin (columns - 1) numerator → IsTermOf den (columns - 1) weight numerator term → is_term columns term ≡ true
is_term_of columns den weight numerator term some_columns some most within is =
    let sum_within : (k : ℕ) → k < length term.sums → nat_le (nat_abs (get_or term.sums k (pos 0))) WIDE ≡ true = λ k lt.
    let in_values : k < columns - 1 = omega (arith, is.columns) in
    le-leb _ _ (rw (is.sums.each k lt) (within.each k in_values)) in
    let sums = list_all_passes (λ sum. nat_le (nat_abs sum) WIDE) (pos 0) term.sums sum_within in
    grind (arith, nat_tests, sums, is.count, is.columns)
