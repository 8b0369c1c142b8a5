-- The least denominator behind terms, and the terms before one of them.
use Rattle.std.proofs.Common.{◌≡◌, ℕ, zero, suc, ◌+◌, ◌<◌, ◌≤◌, true, List, [], ◌∷◌, ◌++◌, length, take, None, refl, add-one, arith}
use Rattle.std.proofs.lemmas.Bool.Decides.{nat_tests}
use Rattle.cube_model.specs.declared.term.Term.{Term}
use Rattle.cube_model.specs.Answer.{term_of}
use Rattle.group_sum.specs.Place.{term_at}
use Rattle.group_sum.specs.Terms.{are_terms_from}
use Rattle.group_sum.proofs.Ascending.{FindsAfter, at_least, first_is, term_of_below}

-- the least denominator that a term behind these may have
abbrev pub next_from : ℕ → List Term → ℕ
next_from least [] = least
next_from least (term ∷ terms) = next_from (term.den + 1) terms

module _ (columns : ℕ) where
  -- it is not below the least of all
  next_above : (least : ℕ) (terms : List Term) → are_terms_from columns least terms ≡ true → least ≤ next_from least terms
  next_above least [] ok = omega arith
  next_above least (term ∷ terms) ok =
      let first = first_is columns least term terms ok in
      omega (arith, first.from, next_above (term.den + 1) terms first.others)

  -- from it on no denominator is found
  pub term_of_beyond : (least : ℕ) (terms : List Term) → are_terms_from columns least terms ≡ true → (d : ℕ) → next_from least terms ≤ d → term_of terms d ≡ None
  term_of_beyond least [] ok d le = refl
  term_of_beyond least (term ∷ terms) ok d le =
      let first = first_is columns least term terms ok in
      grind (arith, nat_tests, next_above (term.den + 1) terms first.others, term_of_beyond (term.den + 1) terms first.others d le)

  -- among the terms before one, what is below it is found as among all
  pub term_of_before : (least : ℕ) (terms : List Term) → are_terms_from columns least terms ≡ true → (i : ℕ) → i < length terms → (d : ℕ) → d < (term_at terms i).den → term_of (take i terms) d ≡ term_of terms d
  term_of_before least [] ok i lt d below = absurd (omega arith)
  term_of_before least (term ∷ terms) ok zero lt d below =
      let first = first_is columns least term terms ok in
      grind (arith, nat_tests, term_of_below columns (term.den + 1) terms first.others d (omega arith))
  term_of_before least (term ∷ terms) ok (suc i) lt d below =
      let first = first_is columns least term terms ok in
      grind (arith, nat_tests, term_of_before (term.den + 1) terms first.others i (omega arith) d below)

  -- and its own denominator is not
  pub term_of_ahead : (least : ℕ) (terms : List Term) → are_terms_from columns least terms ≡ true → (i : ℕ) → i < length terms → term_of (take i terms) (term_at terms i).den ≡ None
  term_of_ahead least [] ok i lt = absurd (omega arith)
  term_of_ahead least (term ∷ terms) ok zero lt = refl
  term_of_ahead least (term ∷ terms) ok (suc i) lt =
      let first = first_is columns least term terms ok in
      grind (arith, nat_tests, at_least columns (term.den + 1) terms first.others i (omega arith), term_of_ahead (term.den + 1) terms first.others i (omega arith))

  -- with the term it is
  term_of-suc : (least : ℕ) (terms : List Term) → are_terms_from columns least terms ≡ true → (i : ℕ) → i < length terms → FindsAfter (take i terms) (take (suc i) terms) (term_at terms i)
  term_of-suc least [] ok i lt d = absurd (omega arith)
  term_of-suc least (term ∷ terms) ok zero lt d = grind (arith, nat_tests)
  term_of-suc least (term ∷ terms) ok (suc i) lt d =
      let first = first_is columns least term terms ok in
      grind (arith, nat_tests, at_least columns (term.den + 1) terms first.others i (omega arith), term_of-suc (term.den + 1) terms first.others i (omega arith) d)

  pub term_of-take : (terms : List Term) → are_terms_from columns 1 terms ≡ true → (i : ℕ) → i < length terms → FindsAfter (take i terms) (take (i + 1) terms) (term_at terms i)
  term_of-take terms ok i lt = rw add-one (term_of-suc 1 terms ok i lt)

-- behind one more term
pub next_from-push : (least : ℕ) (terms : List Term) (new : Term) → next_from least (terms ++ new ∷ []) ≡ new.den + 1
next_from-push least [] new = refl
next_from-push least (term ∷ terms) new = next_from-push (term.den + 1) terms new
