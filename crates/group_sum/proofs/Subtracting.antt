-- What terms of a part take from a whole, one by one.
use Rattle.std.proofs.Common.{◌≡◌, ℕ, zero, suc, ◌+◌, ◌-◌, ◌<◌, ◌≤◌, true, List, [], ◌∷◌, length, take, set, Option, Some, None, ◌==◌, if◌then◌else◌, pos, ◌+ℤ◌, inl, inr, refl, sym, ap, subst, ◌∙◌, arith}
use Rattle.std.specs.List.{remove}
use Rattle.std.proofs.lemmas.Bool.{cases_eq}
use Rattle.std.proofs.lemmas.Bool.Decides.{nat_tests}
use Rattle.std.proofs.lemmas.Int.{ints}
use Rattle.cube_model.specs.declared.term.Term.{Term}
use Rattle.cube_model.specs.Answer.{term_of, count_of}
use Rattle.cube_model.specs.Limits.{WIDE}
use Rattle.group_sum.specs.Terms.{TermList, AreTerms, are_terms_from}
use Rattle.group_sum.specs.Heads.{head_count, head_sum, remainder_in, AreWithin, IsTermOf, HasNoRemainder, HasRemainder}
use Rattle.group_sum.specs.Merge.{FitsDifference, Subtracts, IsBad, IsFirstBad, HasDifference, HasRemainders}
use Rattle.group_sum.specs.Place.{IsAt, term_at}
use Rattle.group_sum.proofs.Ascending.{are_terms-remove, are_terms-set, is_term_at, term_of-remove, term_of-set, term_of_at}
use Rattle.group_sum.proofs.Determined.{found_is}
use Rattle.group_sum.proofs.Behind.{term_of-take, term_of_ahead, term_of_before}
use Rattle.group_sum.proofs.Numerators.{sum_of, numerator_is, is_term_of}

-- where something can be left the denominator is not bad
pub not_bad : (whole part : TermList) (d : ℕ) → HasRemainder (whole.columns - 1) (term_of whole.terms d) (term_of part.terms d) → ¬ IsBad whole part d
not_bad whole part d has (inl less) = absurd (omega (arith, has.less))
not_bad whole part d has (inr (same, (k, lt, other))) =
    other (rw (numerator_is whole.terms d k, numerator_is part.terms d k) (has.same same k (omega arith)))

-- and where it is so at each, there is a difference
pub has_difference : (whole part : TermList) → HasRemainders whole part → HasDifference whole part
has_difference whole part has d = not_bad whole part d (has.each d)

-- where nothing can be left it is bad
pub is_bad : (whole part : TermList) (d : ℕ) → HasNoRemainder (whole.columns - 1) (term_of whole.terms d) (term_of part.terms d) → IsBad whole part d
is_bad whole part d (inl less) = inl less
is_bad whole part d (inr (same, (k, lt, other))) =
    inr (same, (k, omega arith, λ equal. other (rw (numerator_is whole.terms d k, numerator_is part.terms d k) at equal)))

-- terms of the same columns
abbrev with_terms : TermList → List Term → TermList
with_terms list terms = record { columns = list.columns; terms = terms }

-- of nothing all is left
left_of_none : (columns d : ℕ) (terms : List Term) → are_terms_from columns 1 terms ≡ true → (found : Option Term) → term_of terms d ≡ found → HasRemainder (columns - 1) found None
left_of_none columns d terms ok None is = record { less = omega arith; same = λ same k lt. refl }
left_of_none columns d terms ok (Some term) is =
    let whole = (found_is columns 1 terms ok d term is).whole in
    let some : 1 ≤ term.count = grind (arith, nat_tests, whole) in
    record { less = omega arith; same = λ none. absurd (omega (arith, some)) }

-- and nothing is taken from it
pub taken_none : (whole part : TermList) → Subtracts whole (with_terms part []) whole
taken_none whole part = record { columns = refl; counts = λ d. omega arith; sums = λ d k lt. omega (arith, ints) }

-- each term has a count
pub some_in : (list : TermList) → AreTerms list → (i : ℕ) → i < length list.terms → 1 ≤ (term_at list.terms i).count
some_in list ok i lt = let whole = is_term_at list.columns 1 list.terms ok.terms i lt in grind (arith, nat_tests, whole)

module _ (whole part : TermList) (part_ok : are_terms_from part.columns 1 part.terms ≡ true) where
  -- the part's terms before a place are judged, none at first
  pub judged_none : AreTerms whole → HasRemainders whole (with_terms part [])
  judged_none ok = record { each = λ d. left_of_none whole.columns d whole.terms ok.terms (term_of whole.terms d) refl }

  module _ (j : ℕ) (lt : j < length part.terms) where
    abbrev here : Term
    here = term_at part.terms j

    place_of : IsAt part.terms here.den j
    place_of = record { in_range = lt; has_key = refl }

    found_here : term_of part.terms here.den ≡ Some here
    found_here = term_of_at part.columns 1 part.terms part_ok here.den j place_of

    pub judged_next : HasRemainders whole (with_terms part (take j part.terms)) → HasRemainder (whole.columns - 1) (term_of whole.terms here.den) (Some here) → HasRemainders whole (with_terms part (take (j + 1) part.terms))
    judged_next before has = record {
      each = λ d. elim (cases_eq d here.den) [
        | inl same ↦
            let now : term_of (take (j + 1) part.terms) d ≡ Some here = grind (arith, nat_tests, term_of-take part.columns part.terms part_ok j lt d) in
            rw (now, same) has
        | inr other ↦
            let now : term_of (take (j + 1) part.terms) d ≡ term_of (take j part.terms) d = grind (arith, nat_tests, term_of-take part.columns part.terms part_ok j lt d) in
            rw now (before.each d)
      ];
    }

    none_before : term_of (take j part.terms) here.den ≡ None
    none_before = term_of_ahead part.columns 1 part.terms part_ok j lt

    -- at the first place where nothing can be left the denominator is the first bad one
    pub first_bad : HasRemainders whole (with_terms part (take j part.terms)) → HasNoRemainder (whole.columns - 1) (term_of whole.terms here.den) (Some here) → IsFirstBad whole part here.den
    first_bad before refused = record {
      bad = is_bad whole part here.den (rw found_here refused);
      first = λ d below. not_bad whole part d (rw (← term_of_before part.columns 1 part.terms part_ok j lt d below) (before.each d));
    }

    -- the numerators of the terms up to it are those of the terms before it and its own
    counts_more : (d : ℕ) → count_of (take (j + 1) part.terms) d ≡ count_of (take j part.terms) d + count_of (here ∷ []) d
    counts_more d =
        let now = term_of-take part.columns part.terms part_ok j lt d in
        elim (cases_eq d here.den) [
          | inl same ↦
              let is : term_of (take (j + 1) part.terms) d ≡ Some here = grind (arith, nat_tests, now) in
              let before : term_of (take j part.terms) d ≡ None = rw same none_before in
              let one : term_of (here ∷ []) d ≡ Some here = grind (arith, nat_tests) in
              rw (is, before, one) (omega arith)
          | inr other ↦
              let is : term_of (take (j + 1) part.terms) d ≡ term_of (take j part.terms) d = grind (arith, nat_tests, now) in
              let none : term_of (here ∷ []) d ≡ None = grind (arith, nat_tests) in
              rw (is, none) (omega arith)
        ]

    sums_more : (d k : ℕ) → sum_of (take (j + 1) part.terms) d k ≡ sum_of (take j part.terms) d k +ℤ sum_of (here ∷ []) d k
    sums_more d k =
        let now = term_of-take part.columns part.terms part_ok j lt d in
        elim (cases_eq d here.den) [
          | inl same ↦
              let is : term_of (take (j + 1) part.terms) d ≡ Some here = grind (arith, nat_tests, now) in
              let before : term_of (take j part.terms) d ≡ None = rw same none_before in
              let one : term_of (here ∷ []) d ≡ Some here = grind (arith, nat_tests) in
              rw (is, before, one) (omega (arith, ints))
          | inr other ↦
              let is : term_of (take (j + 1) part.terms) d ≡ term_of (take j part.terms) d = grind (arith, nat_tests, now) in
              let none : term_of (here ∷ []) d ≡ None = grind (arith, nat_tests) in
              rw (is, none) (omega (arith, ints))
        ]

    -- where the terms before it are taken away, what is left at its denominator is the whole
    module _ (left : TermList) (taken : Subtracts whole (with_terms part (take j part.terms)) left) where
      count_here : head_count (term_of left.terms here.den) ≡ head_count (term_of whole.terms here.den)
      count_here =
          let none : count_of (take j part.terms) here.den ≡ 0 = rw none_before refl in
          omega (arith, taken.counts here.den, none)

      sum_here : (k : ℕ) → k + 1 < whole.columns → sum_of left.terms here.den k ≡ sum_of whole.terms here.den k
      sum_here k lt =
          let none : sum_of (take j part.terms) here.den k ≡ pos 0 = rw none_before refl in
          omega (arith, ints, none, taken.sums here.den k lt, numerator_is left.terms here.den k, numerator_is whole.terms here.den k, numerator_is (take j part.terms) here.den k)

      -- so the term can be taken away too
      pub possible_here : HasRemainders whole part → HasRemainder (left.columns - 1) (term_of left.terms here.den) (Some here)
      possible_here has =
          let of_whole = rw found_here at (has.each here.den) in
          record {
            less = omega (arith, count_here, of_whole.less);
            same = λ same k lt. sum_here k (omega (arith, taken.columns)) ∙ of_whole.same (sym count_here ∙ same) k (omega (arith, taken.columns));
          }

      pub within_here : FitsDifference whole part → AreWithin (left.columns - 1) (remainder_in (term_of left.terms here.den) (Some here))
      within_here fits = record {
        each = λ k lt.
            let bound = rw (numerator_is whole.terms here.den k, numerator_is part.terms here.den k, found_here) at (fits.sums here.den k (omega (arith, taken.columns))) in
            rw (sum_here k (omega (arith, taken.columns))) bound;
      }

      -- and then the terms up to it are
      pub taken_next : (new : TermList) → Subtracts left (with_terms left (here ∷ [])) new → Subtracts whole (with_terms part (take (j + 1) part.terms)) new
      taken_next new step = record {
        columns = step.columns ∙ taken.columns;
        counts = λ d. omega (arith, step.counts d, taken.counts d, counts_more d);
        sums = λ d k lt. omega (
          arith,
          ints,
          step.sums d k (omega (arith, taken.columns)),
          taken.sums d k lt,
          sums_more d k,
          numerator_is (here ∷ []) d k,
          numerator_is (take j part.terms) d k,
          numerator_is (take (j + 1) part.terms) d k,
        );
      }

-- what is written over a term that goes makes no difference
remove-set : (terms : List Term) (i : ℕ) (term : Term) → i < length terms → remove (set terms i term) i ≡ remove terms i
remove-set [] i term lt = absurd (omega arith)
remove-set (x ∷ terms) zero term lt = refl
remove-set (x ∷ terms) (suc i) term lt = ap (λ ts. x ∷ ts) (remove-set terms i term (omega arith))

-- One term is taken from the one of its denominator.
module _ (left : TermList) (ok : AreTerms left) (part : Term) (possible : HasRemainder (left.columns - 1) (term_of left.terms part.den) (Some part)) where
  -- which is there
  pub not_missing : 1 ≤ part.count → term_of left.terms part.den ≡ None → ⊥
  not_missing some none = absurd (omega (arith, some, (rw none at possible).less))

  module _ (at : ℕ) (place : IsAt left.terms part.den at) where
    abbrev whole_there : Term
    whole_there = term_at left.terms at

    found_there : term_of left.terms part.den ≡ Some whole_there
    found_there = term_of_at left.columns 1 left.terms ok.terms part.den at place

    pub less_there : part.count ≤ whole_there.count
    less_there = (rw found_there at possible).less

    pub most_there : whole_there.count ≤ WIDE
    most_there = let whole = is_term_at left.columns 1 left.terms ok.terms at place.in_range in grind (arith, nat_tests, whole)

    pub within_there : AreWithin (left.columns - 1) (remainder_in (term_of left.terms part.den) (Some part)) → AreWithin (left.columns - 1) (remainder_in (Some whole_there) (Some part))
    within_there within = rw found_there at within

    -- what is left in its place, if anything, makes the difference
    takes : (all : List Term) (now : Option Term) → ((d : ℕ) → term_of all d ≡ (if d == part.den then now else term_of left.terms d)) → head_count now + part.count ≡ whole_there.count
        → ((k : ℕ) → k + 1 < left.columns → head_sum now k ≡ remainder_in (Some whole_there) (Some part) k) → Subtracts left (with_terms left (part ∷ [])) (with_terms left all)
    takes all now finds count sums = record {
      columns = refl;
      counts = λ d. elim (cases_eq d part.den) [
        | inl same ↦
            let is : term_of all d ≡ now = grind (arith, nat_tests, finds d) in
            let before : term_of left.terms d ≡ Some whole_there = rw same found_there in
            let one : term_of (part ∷ []) d ≡ Some part = grind (arith, nat_tests) in
            rw (is, before, one) count
        | inr other ↦
            let is : term_of all d ≡ term_of left.terms d = grind (arith, nat_tests, finds d) in
            let none : term_of (part ∷ []) d ≡ None = grind (arith, nat_tests) in
            rw (is, none) (omega arith)
      ];
      sums = λ d k lt. rw (numerator_is all d k, numerator_is left.terms d k, numerator_is (part ∷ []) d k) (elim (cases_eq d part.den) [
        | inl same ↦
            let is : term_of all d ≡ now = grind (arith, nat_tests, finds d) in
            let before : term_of left.terms d ≡ Some whole_there = rw same found_there in
            let one : term_of (part ∷ []) d ≡ Some part = grind (arith, nat_tests) in
            rw (is, before, one) (sums k lt)
        | inr other ↦
            let is : term_of all d ≡ term_of left.terms d = grind (arith, nat_tests, finds d) in
            let none : term_of (part ∷ []) d ≡ None = grind (arith, nat_tests) in
            rw (is, none) (omega (arith, ints))
      ]);
    }

    -- the difference, whose terms are in order
    pub record IsTaken (new : TermList) : Type 0 where
      pub difference : Subtracts left (with_terms left (part ∷ [])) new
      pub terms : AreTerms new

    module _ (mid : TermList) (only : mid ≡ record { columns = left.columns; terms = set left.terms at (term_at mid.terms at) })
        (is : IsTermOf whole_there.den (left.columns - 1) (whole_there.count - part.count) (remainder_in (Some whole_there) (Some part)) (term_at mid.terms at)) where
      abbrev term : Term
      term = term_at mid.terms at

      -- the term is another
      pub taken_from : 1 ≤ term.count → AreWithin (left.columns - 1) (remainder_in (term_of left.terms part.den) (Some part)) → IsTaken mid
      taken_from some within =
          let den : term.den ≡ part.den = is.has_den ∙ place.has_key in
          let new_place : IsAt left.terms term.den at = rw den place in
          let whole = is_term_of left.columns whole_there.den (whole_there.count - part.count) (remainder_in (Some whole_there) (Some part)) term ok.some (omega (arith, is.count)) (omega (arith, most_there)) (within_there within) is in
          let finds = term_of-set left.columns 1 left.terms ok.terms term at new_place in
          subst IsTaken (sym only) (record {
            difference = takes (set left.terms at term) (Some term) (λ d. rw (← den) (finds d)) (omega (arith, is.count, less_there)) (λ k lt. is.sums.each k (omega (arith, is.columns)));
            terms = record { some = ok.some; most = ok.most; terms = are_terms-set left.columns 1 left.terms ok.terms term at new_place whole };
          })

      -- or it has no count and goes
      pub taken_away : term.count ≡ 0 → (new : TermList) → new ≡ record { columns = mid.columns; terms = remove mid.terms at } → IsTaken new
      taken_away none new gone =
          let same : whole_there.count ≡ part.count = omega (arith, is.count, less_there) in
          let sums = (rw found_there at possible).same same in
          let without : new ≡ with_terms left (remove left.terms at) =
          gone ∙ ap (λ (l : TermList). let all : TermList = record { columns = l.columns; terms = remove l.terms at } in all) only
          ∙ ap (λ (ts : List Term). let all : TermList = record { columns = left.columns; terms = ts } in all) (remove-set left.terms at term place.in_range) in
          subst IsTaken (sym without) (record {
            difference = takes (remove left.terms at) None (λ d. rw (← place.has_key) (term_of-remove left.columns 1 left.terms ok.terms at place.in_range d)) (omega (arith, same)) (λ k lt. omega (arith, ints, sums k (omega arith)));
            terms = record { some = ok.some; most = ok.most; terms = are_terms-remove left.columns 1 left.terms ok.terms at place.in_range };
          })
