-- Terms are determined by their numerators: they are the model's answer with the same ones.
use Rattle.std.proofs.Common.{◌≡◌, ℕ, zero, suc, ◌+◌, ◌<◌, ◌≤◌, true, false, List, [], ◌∷◌, ◌++◌, length, ℤ, pos, Option, Some, None, ◌==◌, if◌then◌else◌, sym, ap, ◌∙◌, refl, inl, inr, arith}
use Rattle.std.specs.Prelude.{nat_lt, slice_index_or}
use Rattle.std.specs.List.{filter}
use Rattle.std.specs.Option.{option_map_or, option_to_list}
use Rattle.std.proofs.lemmas.Bool.{cases_lt, cases_eq}
use Rattle.std.proofs.lemmas.Bool.Decides.{nat_tests}
use Rattle.std.proofs.lemmas.List.{ext_get_or}
use Rattle.cube_model.specs.declared.term.Term.{Term}
use Rattle.cube_model.specs.Answer.{term_of, count_of, numerator_of, terms_below}
use Rattle.group_sum.specs.Terms.{are_terms_from, is_term}
use Rattle.group_sum.proofs.Ascending.{first_is, term_of_below}
use Rattle.group_sum.proofs.Adding.{numerator_there}

-- the terms whose denominators are below a bound
abbrev below : ℕ → List Term → List Term
below bound terms = filter (λ t. nat_lt t.den bound) terms

-- the term has the denominator and the columns
pub record IsFound (columns d : ℕ) (term : Term) : Type 0 where
  pub at : term.den ≡ d
  pub whole : is_term columns term ≡ true

module _ (columns : ℕ) where
  -- what is found has the denominator that was sought
  pub found_is : (least : ℕ) (terms : List Term) → are_terms_from columns least terms ≡ true → (d : ℕ) (term : Term) → term_of terms d ≡ Some term → IsFound columns d term
  found_is least [] ok d term found = absurd (cc)
  found_is least (first ∷ terms) ok d term found =
      let is = first_is columns least first terms ok in
      elim (cases_eq first.den d) [
        | inl same ↦
            let test : (first.den == d) ≡ true = grind (arith, nat_tests) in
            let this : first ≡ term = grind (arith, nat_tests) in
            rw (← this) (record { at = same; whole = is.whole })
        | inr other ↦ found_is (first.den + 1) terms is.others d term (grind (arith, nat_tests))
      ]

  -- none is below what is not above the least
  below_least : (least : ℕ) (terms : List Term) → are_terms_from columns least terms ≡ true → (bound : ℕ) → bound ≤ least → below bound terms ≡ []
  below_least least [] ok bound le = refl
  below_least least (first ∷ terms) ok bound le =
      let is = first_is columns least first terms ok in
      grind (arith, nat_tests, is.from, below_least (first.den + 1) terms is.others bound (omega (arith, is.from)))

  -- one denominator more
  below_next : (least : ℕ) (terms : List Term) → are_terms_from columns least terms ≡ true → (d : ℕ) → below (suc d) terms ≡ below d terms ++ option_to_list (term_of terms d)
  below_next least [] ok d = refl
  below_next least (first ∷ terms) ok d =
      let is = first_is columns least first terms ok in
      elim (cases_lt first.den d) [
        | inl lt ↦
            let test : nat_lt first.den d ≡ true = grind (arith, nat_tests) in
            let test_more : nat_lt first.den (suc d) ≡ true = grind (arith, nat_tests) in
            let other : (first.den == d) ≡ false = grind (arith, nat_tests) in
            rw (test, test_more, other) (ap (λ ts. first ∷ ts) (below_next (first.den + 1) terms is.others d))
        | inr le ↦
            let none : below d terms ≡ [] = below_least (first.den + 1) terms is.others d (omega arith) in
            let none_more : below (suc d) terms ≡ [] = below_least (first.den + 1) terms is.others (suc d) (omega arith) in
            let not_found : d < first.den → term_of terms d ≡ None = λ lt. term_of_below columns (first.den + 1) terms is.others d (omega arith) in
            grind (arith, nat_tests, none, none_more, not_found)
      ]

  -- all are below a bound from which on every count is 0
  below_all : (least : ℕ) (terms : List Term) → are_terms_from columns least terms ≡ true → (bound : ℕ) → ((d : ℕ) → bound ≤ d → count_of terms d ≡ 0) → below bound terms ≡ terms
  below_all least [] ok bound beyond = refl
  below_all least (first ∷ terms) ok bound beyond =
      let is = first_is columns least first terms ok in
      let lt : first.den < bound = grind (arith, nat_tests, is.whole, beyond first.den) in
      let test : nat_lt first.den bound ≡ true = grind (arith, nat_tests) in
      let beyond_others : (d : ℕ) → bound ≤ d → count_of terms d ≡ 0 = λ d le. grind (arith, nat_tests, beyond d le) in
      rw test (ap (λ ts. first ∷ ts) (below_all (first.den + 1) terms is.others bound beyond_others))

  module _ (terms : List Term) (count : ℕ → ℕ) (sums : ℕ → List ℤ) (ok : are_terms_from columns 1 terms ≡ true)
      (counts : (d : ℕ) → count_of terms d ≡ count d)
      (lengths : (d : ℕ) → length (sums d) + 1 ≡ columns)
      (numerators : (d k : ℕ) → k + 1 < columns → numerator_of terms d (k + 1) ≡ slice_index_or (sums d) k (pos 0)) where
    -- what a denominator adds to the answer
    abbrev part : ℕ → List Term
    part d = if count d == 0 then [] else record { den = d; count = count d; sums = sums d } ∷ []

    -- which is the term that is found there
    part_is : (d : ℕ) (found : Option Term) → term_of terms d ≡ found → option_to_list found ≡ part d
    part_is d None found =
        let none : count d ≡ 0 = sym (counts d) ∙ ap (λ o. option_map_or (λ (t : Term). t.count) o 0) found in
        grind (arith, nat_tests)
    part_is d (Some term) found =
        let is = found_is 1 terms ok d term found in
        let same_count : term.count ≡ count d = sym (ap (λ o. option_map_or (λ (t : Term). t.count) o 0) found) ∙ counts d in
        let some : (count d == 0) ≡ false = grind (arith, nat_tests, is.whole) in
        let same_length : length term.sums ≡ length (sums d) = grind (arith, nat_tests, is.whole, lengths d) in
        let same_sums : term.sums ≡ sums d = ext_get_or (pos 0) term.sums (sums d) same_length (λ k lt. sym (numerator_there terms d k term found) ∙ numerators d k (omega (arith, lengths d))) in
        rw (some, ← same_count, ← same_sums, ← is.at) refl

    -- so the terms below a bound are the answer below it
    below_is : (bound : ℕ) → below bound terms ≡ terms_below count sums bound
    below_is zero = below_least 1 terms ok zero (omega arith)
    below_is (suc d) = below_next 1 terms ok d ∙ ap (λ ts. ts ++ option_to_list (term_of terms d)) (below_is d) ∙ ap (λ ts. terms_below count sums d ++ ts) (part_is d (term_of terms d) refl)

-- Terms with these counts and sums are the terms of the denominators below a bound, where every count from it on is 0.
pub terms_determined : (columns : ℕ) (terms : List Term) (count : ℕ → ℕ) (sums : ℕ → List ℤ) (bound : ℕ) → are_terms_from columns 1 terms ≡ true
    → ((d : ℕ) → count_of terms d ≡ count d)
    → ((d : ℕ) → length (sums d) + 1 ≡ columns)
    → ((d k : ℕ) → k + 1 < columns → numerator_of terms d (k + 1) ≡ slice_index_or (sums d) k (pos 0))
    → ((d : ℕ) → bound ≤ d → count d ≡ 0)
    → terms ≡ terms_below count sums bound
terms_determined columns terms count sums bound ok counts lengths numerators beyond =
    sym (below_all columns 1 terms ok bound (λ d le. counts d ∙ beyond d le)) ∙ below_is columns terms count sums ok counts lengths numerators bound
