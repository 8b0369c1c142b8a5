-- Terms whose denominators ascend: where each stands, what is found, and what a write, an insertion or a removal does.
use Rattle.std.proofs.Common.{◌≡◌, ℕ, zero, suc, ◌+◌, ◌<◌, ◌≤◌, true, List, [], ◌∷◌, length, set, ◌==◌, if◌then◌else◌, Some, None, refl, arith}
use Rattle.std.specs.List.{insert, remove}
use Rattle.std.proofs.lemmas.Bool.Decides.{nat_tests}
use Rattle.cube_model.specs.declared.term.Term.{Term}
use Rattle.cube_model.specs.Answer.{term_of}
use Rattle.group_sum.specs.Terms.{are_terms_from, is_term}
use Rattle.group_sum.specs.Place.{term_at, IsAt, IsGapFor}

-- the new terms have the new one at its denominator, and at every other what the old ones have
abbrev pub FindsAfter : List Term → List Term → Term → Type 0
FindsAfter old new term = (d : ℕ) → term_of new d ≡ (if d == term.den then Some term else term_of old d)

-- what a list of terms says of the first and of the others
pub record FirstIs (columns least : ℕ) (term : Term) (terms : List Term) : Type 0 where
  pub from : least ≤ term.den
  pub whole : is_term columns term ≡ true
  pub others : are_terms_from columns (term.den + 1) terms ≡ true

pub first_is : (columns least : ℕ) (term : Term) (terms : List Term) → are_terms_from columns least (term ∷ terms) ≡ true → FirstIs columns least term terms
first_is columns least term terms ok = record { from = grind (arith, nat_tests); whole = grind (arith, nat_tests); others = grind (arith, nat_tests) }

-- the same the other way round
pub first_then : (columns least : ℕ) (term : Term) (terms : List Term) → FirstIs columns least term terms → are_terms_from columns least (term ∷ terms) ≡ true
first_then columns least term terms first = grind (arith, nat_tests, first.from, first.whole, first.others)

-- in the others, a place is one lower
is_at_tail : (term : Term) (terms : List Term) (den i : ℕ) → IsAt (term ∷ terms) den (suc i) → IsAt terms den i
is_at_tail term terms den i is_at = record { in_range = omega (arith, is_at.in_range); has_key = is_at.has_key }

is_gap_tail : (term : Term) (terms : List Term) (den i : ℕ) → IsGapFor (term ∷ terms) den (suc i) → IsGapFor terms den i
is_gap_tail term terms den i gap = record {
  in_range = omega (arith, gap.in_range);
  smaller_before = λ j lt. gap.smaller_before (suc j) (omega arith);
  greater_after = λ j le lt. gap.greater_after (suc j) (omega arith) (omega arith);
}

module _ (columns : ℕ) where
  -- no denominator is below the least
  pub at_least : (least : ℕ) (terms : List Term) → are_terms_from columns least terms ≡ true → (i : ℕ) → i < length terms → least ≤ (term_at terms i).den
  at_least least [] ok i lt = absurd (omega arith)
  at_least least (term ∷ terms) ok zero lt = (first_is columns least term terms ok).from
  at_least least (term ∷ terms) ok (suc i) lt =
      let first = first_is columns least term terms ok in
      omega (arith, first.from, at_least (term.den + 1) terms first.others i (omega arith))

  -- a later term has a greater denominator
  pub ascends : (least : ℕ) (terms : List Term) → are_terms_from columns least terms ≡ true → (i j : ℕ) → i < j → j < length terms → (term_at terms i).den < (term_at terms j).den
  ascends least [] ok i j lt in_range = absurd (omega arith)
  ascends least (term ∷ terms) ok i zero lt in_range = absurd (omega arith)
  ascends least (term ∷ terms) ok zero (suc j) lt in_range =
      omega (arith, at_least (term.den + 1) terms (first_is columns least term terms ok).others j (omega arith))
  ascends least (term ∷ terms) ok (suc i) (suc j) lt in_range =
      ascends (term.den + 1) terms (first_is columns least term terms ok).others i j (omega arith) (omega arith)

  -- each term has the columns
  pub is_term_at : (least : ℕ) (terms : List Term) → are_terms_from columns least terms ≡ true → (i : ℕ) → i < length terms → is_term columns (term_at terms i) ≡ true
  is_term_at least [] ok i lt = absurd (omega arith)
  is_term_at least (term ∷ terms) ok zero lt = (first_is columns least term terms ok).whole
  is_term_at least (term ∷ terms) ok (suc i) lt = is_term_at (term.den + 1) terms (first_is columns least term terms ok).others i (omega arith)

  -- a denominator below the least is not found
  pub term_of_below : (least : ℕ) (terms : List Term) → are_terms_from columns least terms ≡ true → (d : ℕ) → d < least → term_of terms d ≡ None
  term_of_below least [] ok d lt = refl
  term_of_below least (term ∷ terms) ok d lt =
      let first = first_is columns least term terms ok in
      grind (arith, nat_tests, first.from, term_of_below (term.den + 1) terms first.others d (omega (arith, first.from)))

  -- a denominator is found at its place
  pub term_of_at : (least : ℕ) (terms : List Term) → are_terms_from columns least terms ≡ true → (den i : ℕ) → IsAt terms den i → term_of terms den ≡ Some (term_at terms i)
  term_of_at least [] ok den i is_at = absurd (omega (arith, is_at.in_range))
  term_of_at least (term ∷ terms) ok den zero is_at = grind (arith, nat_tests, is_at.has_key)
  term_of_at least (term ∷ terms) ok den (suc i) is_at =
      let first = first_is columns least term terms ok in
      let tail = is_at_tail term terms den i is_at in
      grind (arith, nat_tests, at_least (term.den + 1) terms first.others i tail.in_range, tail.has_key, term_of_at (term.den + 1) terms first.others den i tail)

  -- a term written over that of its denominator is found in its place
  pub term_of-set : (least : ℕ) (terms : List Term) → are_terms_from columns least terms ≡ true → (new : Term) (i : ℕ) → IsAt terms new.den i → FindsAfter terms (set terms i new) new
  term_of-set least [] ok new i is_at d = absurd (omega (arith, is_at.in_range))
  term_of-set least (term ∷ terms) ok new zero is_at d = grind (arith, nat_tests, is_at.has_key)
  term_of-set least (term ∷ terms) ok new (suc i) is_at d =
      let first = first_is columns least term terms ok in
      let tail = is_at_tail term terms new.den i is_at in
      grind (arith, nat_tests, at_least (term.den + 1) terms first.others i tail.in_range, tail.has_key, term_of-set (term.den + 1) terms first.others new i tail d)

  -- the terms stay in order
  pub are_terms-set : (least : ℕ) (terms : List Term) → are_terms_from columns least terms ≡ true → (new : Term) (i : ℕ) → IsAt terms new.den i → is_term columns new ≡ true → are_terms_from columns least (set terms i new) ≡ true
  are_terms-set least [] ok new i is_at whole = refl
  are_terms-set least (term ∷ terms) ok new zero is_at whole =
      let first = first_is columns least term terms ok in
      grind (arith, nat_tests, is_at.has_key, first.from, first.others, whole)
  are_terms-set least (term ∷ terms) ok new (suc i) is_at whole =
      let first = first_is columns least term terms ok in
      first_then columns least term (set terms i new)
      (record { from = first.from; whole = first.whole; others = are_terms-set (term.den + 1) terms first.others new i (is_at_tail term terms new.den i is_at) whole })

  -- so they do with a new term in the gap for it
  pub are_terms-insert : (least : ℕ) (terms : List Term) → are_terms_from columns least terms ≡ true → (new : Term) (i : ℕ) → IsGapFor terms new.den i → least ≤ new.den → is_term columns new ≡ true → are_terms_from columns least (insert terms i new) ≡ true
  are_terms-insert least [] ok new zero gap from whole = grind (arith, nat_tests)
  are_terms-insert least [] ok new (suc i) gap from whole = grind (arith, nat_tests)
  are_terms-insert least (term ∷ terms) ok new zero gap from whole =
      let first = first_is columns least term terms ok in
      let greater : new.den + 1 ≤ term.den = omega (arith, gap.greater_after 0 (omega arith) (omega arith)) in
      first_then columns least new (term ∷ terms)
      (record { from = from; whole = whole; others = first_then columns (new.den + 1) term terms (record { from = greater; whole = first.whole; others = first.others }) })
  are_terms-insert least (term ∷ terms) ok new (suc i) gap from whole =
      let first = first_is columns least term terms ok in
      first_then columns least term (insert terms i new)
      (record { from = first.from; whole = first.whole; others = are_terms-insert (term.den + 1) terms first.others new i (is_gap_tail term terms new.den i gap) (omega (arith, gap.smaller_before 0 (omega arith))) whole })

  -- without the term at a place its denominator is not found, and every other is as before
  pub term_of-remove : (least : ℕ) (terms : List Term) → are_terms_from columns least terms ≡ true → (i : ℕ) → i < length terms → (d : ℕ) → term_of (remove terms i) d ≡ (if d == (term_at terms i).den then None else term_of terms d)
  term_of-remove least [] ok i lt d = absurd (omega arith)
  term_of-remove least (term ∷ terms) ok zero lt d =
      let first = first_is columns least term terms ok in
      grind (arith, nat_tests, term_of_below (term.den + 1) terms first.others d)
  term_of-remove least (term ∷ terms) ok (suc i) lt d =
      let first = first_is columns least term terms ok in
      grind (arith, nat_tests, at_least (term.den + 1) terms first.others i (omega arith), term_of-remove (term.den + 1) terms first.others i (omega arith) d)

  -- the others stay in order
  pub are_terms-remove : (least : ℕ) (terms : List Term) → are_terms_from columns least terms ≡ true → (i : ℕ) → i < length terms → are_terms_from columns least (remove terms i) ≡ true
  are_terms-remove least [] ok i lt = absurd (omega arith)
  are_terms-remove least (term ∷ []) ok zero lt = refl
  are_terms-remove least (term ∷ second ∷ terms) ok zero lt =
      let first = first_is columns least term (second ∷ terms) ok in
      let next = first_is columns (term.den + 1) second terms first.others in
      first_then columns least second terms (record { from = omega (arith, first.from, next.from); whole = next.whole; others = next.others })
  are_terms-remove least (term ∷ terms) ok (suc i) lt =
      let first = first_is columns least term terms ok in
      first_then columns least term (remove terms i) (record { from = first.from; whole = first.whole; others = are_terms-remove (term.den + 1) terms first.others i (omega arith) })

-- a denominator that has a gap is not found
pub term_of_gap : (terms : List Term) (den i : ℕ) → IsGapFor terms den i → term_of terms den ≡ None
term_of_gap [] den i gap = refl
term_of_gap (term ∷ terms) den zero gap =
    let tail : IsGapFor terms den 0 = record { in_range = omega arith; smaller_before = λ j lt. absurd (omega arith); greater_after = λ j le lt. gap.greater_after (suc j) (omega arith) (omega arith) } in
    grind (arith, nat_tests, gap.greater_after 0 (omega arith) (omega arith), term_of_gap terms den zero tail)
term_of_gap (term ∷ terms) den (suc i) gap =
    grind (arith, nat_tests, gap.smaller_before 0 (omega arith), term_of_gap terms den i (is_gap_tail term terms den i gap))

-- a term inserted in the gap for it is found there
pub term_of-insert : (terms : List Term) (new : Term) (i : ℕ) → IsGapFor terms new.den i → FindsAfter terms (insert terms i new) new
term_of-insert [] new zero gap d = grind (arith, nat_tests)
term_of-insert [] new (suc i) gap d = grind (arith, nat_tests)
term_of-insert (term ∷ terms) new zero gap d = grind (arith, nat_tests)
term_of-insert (term ∷ terms) new (suc i) gap d =
    grind (arith, nat_tests, gap.smaller_before 0 (omega arith), term_of-insert terms new i (is_gap_tail term terms new.den i gap) d)
