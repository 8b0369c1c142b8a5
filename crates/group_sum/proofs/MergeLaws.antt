-- What merging has at each denominator, and its laws: it is commutative and associative, nothing merged changes nothing,
-- and it can be taken back.
use Rattle.std.proofs.Common.{◌≡◌, ℕ, zero, suc, ◌+◌, ◌-◌, ◌<◌, ◌≤◌, ◌≢◌, true, false, List, [], ◌∷◌, ◌++◌, map, max, get_or, ℤ, pos, ◌+ℤ◌, Option, Some, None, ◌==◌, if◌then◌else◌, sym, ap, ◌∙◌, refl, inl, inr, append-nil, arith}
use Rattle.std.specs.List.{range_with_len}
use Rattle.std.proofs.lemmas.Bool.{cases_lt, cases_eq}
use Rattle.std.proofs.lemmas.Bool.Decides.{nat_tests}
use Rattle.std.proofs.lemmas.Int.{ints}
use Rattle.std.proofs.lemmas.List.FromFn.{get_or-map-range_with_len}
use Rattle.cube_model.specs.declared.term.Term.{Term}
use Rattle.cube_model.specs.Answer.{count_of, den_bound, merge, numerator_of, term_of, terms_below}
use Rattle.group_sum.specs.Terms.{are_terms_from}
use Rattle.group_sum.specs.Heads.{head_count}
use Rattle.group_sum.specs.Merge.{Merges}
use Rattle.group_sum.proofs.Adding.{numerator_there, numerator_absent}
use Rattle.group_sum.proofs.Ascending.{first_is}
use Rattle.group_sum.proofs.Merged.{count_of_both, count_of_bound, is_merge, sums_of_both}

-- a denominator that the first of two lists has not is that of the second, and the other way round
append_absent : (xs ys : List Term) (d : ℕ) → term_of xs d ≡ None → term_of (xs ++ ys) d ≡ term_of ys d
append_absent [] ys d none = refl
append_absent (x ∷ xs) ys d none = elim (cases_eq x.den d) [
  | inl same ↦ let test : (x.den == d) ≡ true = grind (arith, nat_tests) in absurd (grind (arith, nat_tests))
  | inr other ↦ grind (arith, nat_tests, append_absent xs ys d)
]

append_present : (xs ys : List Term) (d : ℕ) → term_of ys d ≡ None → term_of (xs ++ ys) d ≡ term_of xs d
append_present [] ys d none = none
append_present (x ∷ xs) ys d none = grind (arith, nat_tests, append_present xs ys d none)

module _ (count : ℕ → ℕ) (sums : ℕ → List ℤ) where
  -- the term of a denominator, where it has a count
  abbrev found : ℕ → Option Term
  found d = if count d == 0 then None else Some (record { den = d; count = count d; sums = sums d })

  -- what a denominator adds to the answer
  abbrev part : ℕ → List Term
  part d = if count d == 0 then [] else record { den = d; count = count d; sums = sums d } ∷ []

  found_here : (d : ℕ) → term_of (part d) d ≡ found d
  found_here d = grind (arith, nat_tests)

  found_nowhere : (b d : ℕ) → b ≢ d → term_of (part b) d ≡ None
  found_nowhere b d other = grind (arith, nat_tests)

  absent_from : (bound d : ℕ) → bound ≤ d → term_of (terms_below count sums bound) d ≡ None
  absent_from zero d le = refl
  absent_from (suc bound) d le = append_absent (terms_below count sums bound) (part bound) d (absent_from bound d (omega arith)) ∙ found_nowhere bound d (omega arith)

  found_below : (bound d : ℕ) → d < bound → term_of (terms_below count sums bound) d ≡ found d
  found_below zero d lt = absurd (omega arith)
  found_below (suc bound) d lt = elim (cases_eq d bound) [
    | inl same ↦ rw same (append_absent (terms_below count sums bound) (part bound) bound (absent_from bound bound (omega arith)) ∙ found_here bound)
    | inr other ↦ append_present (terms_below count sums bound) (part bound) d (found_nowhere bound d (omega arith)) ∙ found_below bound d (omega arith)
  ]

  -- below a greater bound there is no more where no count is
  below_more : (bound more : ℕ) → ((d : ℕ) → bound ≤ d → count d ≡ 0) → terms_below count sums (more + bound) ≡ terms_below count sums bound
  below_more bound zero none = let none_more : zero + bound ≡ bound = omega arith in rw none_more refl
  below_more bound (suc more) none =
      let next : suc more + bound ≡ suc (more + bound) = omega arith in
      let nothing : part (more + bound) ≡ [] = grind (arith, nat_tests, none (more + bound) (omega arith)) in
      rw (next, nothing, append-nil) (below_more bound more none)

  -- the numerators are those that the terms were made of
  pub count_of_below : (bound : ℕ) → ((d : ℕ) → bound ≤ d → count d ≡ 0) → (d : ℕ) → count_of (terms_below count sums bound) d ≡ count d
  count_of_below bound none d = elim (cases_lt d bound) [
    | inl lt ↦ ap head_count (found_below bound d lt) ∙ grind (arith, nat_tests)
    | inr le ↦ ap head_count (absent_from bound d le) ∙ sym (none d le)
  ]

  pub numerator_of_below : (bound : ℕ) → ((d : ℕ) → bound ≤ d → count d ≡ 0) → (d k : ℕ) → (count d ≡ 0 → get_or (sums d) k (pos 0) ≡ pos 0)
      → numerator_of (terms_below count sums bound) d (k + 1) ≡ get_or (sums d) k (pos 0)
  numerator_of_below bound none d k zeros = elim (cases_eq (count d) 0) [
    | inl no_count ↦ elim (cases_lt d bound) [
      | inl lt ↦
          let nothing : found d ≡ None = grind (arith, nat_tests) in
          numerator_absent (terms_below count sums bound) d k (found_below bound d lt ∙ nothing) ∙ sym (zeros no_count)
      | inr le ↦ numerator_absent (terms_below count sums bound) d k (absent_from bound d le) ∙ sym (zeros no_count)
    ]
    | inr some ↦ elim (cases_lt d bound) [
      | inl lt ↦
          let term : found d ≡ Some (record { den = d; count = count d; sums = sums d }) = grind (arith, nat_tests) in
          numerator_there (terms_below count sums bound) d k _ (found_below bound d lt ∙ term)
      | inr le ↦ absurd (some (none d le))
    ]
  ]

-- terms made of the same numerators are the same
same_below : (count other : ℕ → ℕ) (sums others : ℕ → List ℤ) → ((d : ℕ) → count d ≡ other d) → ((d : ℕ) → sums d ≡ others d) → (bound : ℕ) → terms_below count sums bound ≡ terms_below other others bound
same_below count other sums others counts lists zero = refl
same_below count other sums others counts lists (suc d) = rw (same_below count other sums others counts lists d, counts d, lists d) refl

-- and so are numbers made of the places
same_range : (f g : ℕ → ℤ) (from n : ℕ) → ((k : ℕ) → k < from + n → f k ≡ g k) → map f (range_with_len from n) ≡ map g (range_with_len from n)
same_range f g from zero each = refl
same_range f g from (suc n) each = rw (each from (omega arith), same_range f g (from + 1) n (λ k lt. each k (omega arith))) refl

-- a bound is one of all parts
den_bound-append : (xs ys : List Term) → den_bound (xs ++ ys) ≡ max (den_bound xs) (den_bound ys)
den_bound-append [] ys = omega arith
den_bound-append (x ∷ xs) ys = omega (arith, den_bound-append xs ys)

pub den_bound_below : (count : ℕ → ℕ) (sums : ℕ → List ℤ) (bound : ℕ) → den_bound (terms_below count sums bound) ≤ bound
den_bound_below count sums zero = omega arith
den_bound_below count sums (suc d) =
    let whole = den_bound-append (terms_below count sums d) (part count sums d) in
    let one : den_bound (part count sums d) ≤ suc d = grind (arith, nat_tests) in
    omega (arith, whole, one, den_bound_below count sums d)

den_bound_merge : (columns : ℕ) (left right : List Term) → den_bound (merge columns left right) ≤ max (den_bound left) (den_bound right)
unfolding merge
den_bound_merge columns left right = den_bound_below (count_of_both left right) (sums_of_both columns left right) (max (den_bound left) (den_bound right))

-- no denominator from the bounds of both on has a count
beyond_both : (left right : List Term) (d : ℕ) → max (den_bound left) (den_bound right) ≤ d → count_of_both left right d ≡ 0
beyond_both left right d le = omega (arith, count_of_bound left d (omega arith), count_of_bound right d (omega arith))

-- Both merged are the terms of any numerators that are those of both added up, below any bound of both.
pub merge_is_below : (columns : ℕ) (left right : List Term) (count : ℕ → ℕ) (sum : ℕ → ℕ → ℤ) (bound : ℕ)
    → ((d : ℕ) → count_of left d + count_of right d ≡ count d)
    → ((d k : ℕ) → k < columns → numerator_of left d (k + 1) +ℤ numerator_of right d (k + 1) ≡ sum d k)
    → max (den_bound left) (den_bound right) ≤ bound
    → merge columns left right ≡ terms_below count (λ d. map (sum d) (range_with_len 0 columns)) bound
unfolding merge
merge_is_below columns left right count sum bound counts sums le =
    let most = max (den_bound left) (den_bound right) in
    let up : (bound - most) + most ≡ bound = omega arith in
    let longer = below_more (count_of_both left right) (sums_of_both columns left right) most (bound - most) (beyond_both left right) in
    sym (rw up at longer) ∙ same_below (count_of_both left right) count (sums_of_both columns left right) (λ d. map (sum d) (range_with_len 0 columns)) counts
    (λ d. same_range (λ column. numerator_of left d (column + 1) +ℤ numerator_of right d (column + 1)) (sum d) 0 columns (λ k lt. sums d k (omega arith))) bound

-- where there is no count there is no term
none_of_count : (columns least : ℕ) (terms : List Term) → are_terms_from columns least terms ≡ true → (d : ℕ) → count_of terms d ≡ 0 → term_of terms d ≡ None
none_of_count columns least [] ok d none = refl
none_of_count columns least (term ∷ terms) ok d none =
    let first = first_is columns least term terms ok in
    elim (cases_eq term.den d) [
      | inl same ↦ absurd (grind (arith, nat_tests, first.whole))
      | inr other ↦
          let test : (term.den == d) ≡ false = grind (arith, nat_tests) in
          rw test (none_of_count columns (term.den + 1) terms first.others d (rw test at none))
    ]

module _ (columns : ℕ) (some : 1 ≤ columns) where
  -- The numerators of two answers merged are those of both added up.
  pub merges_merge : (left right : List Term) → are_terms_from columns 1 left ≡ true → are_terms_from columns 1 right ≡ true
      → Merges (record { columns = columns; terms = left }) (record { columns = columns; terms = right }) (record { columns = columns; terms = merge (columns - 1) left right })
  unfolding merge
  merges_merge left right left_ok right_ok = record {
    columns = refl;
    counts = count_of_below (count_of_both left right) (sums_of_both (columns - 1) left right) (max (den_bound left) (den_bound right)) (beyond_both left right);
    sums = λ d k lt.
        let read = get_or-map-range_with_len (λ column. numerator_of left d (column + 1) +ℤ numerator_of right d (column + 1)) 0 (columns - 1) k k (pos 0) (omega arith) (omega arith) in
        let zeros : count_of_both left right d ≡ 0 → get_or (sums_of_both (columns - 1) left right d) k (pos 0) ≡ pos 0 = λ none.
        let no_left = numerator_absent left d k (none_of_count columns 1 left left_ok d (omega arith)) in
        let no_right = numerator_absent right d k (none_of_count columns 1 right right_ok d (omega arith)) in
        read ∙ omega (arith, ints, no_left, no_right) in
        numerator_of_below (count_of_both left right) (sums_of_both (columns - 1) left right) (max (den_bound left) (den_bound right)) (beyond_both left right) d k zeros ∙ read;
  }

  -- Nothing merged changes nothing.
  pub merge_nothing : (terms : List Term) → are_terms_from columns 1 terms ≡ true → merge (columns - 1) terms [] ≡ terms
  merge_nothing terms ok = sym (is_merge columns terms [] terms some ok (record { columns = refl; counts = λ d. omega arith; sums = λ d k lt. omega (arith, ints) }))

  -- Three answers merged are the same in either grouping.
  pub merge_associates : (first second third : List Term) → are_terms_from columns 1 first ≡ true → are_terms_from columns 1 second ≡ true → are_terms_from columns 1 third ≡ true
      → merge (columns - 1) (merge (columns - 1) first second) third ≡ merge (columns - 1) first (merge (columns - 1) second third)
  merge_associates first second third first_ok second_ok third_ok =
      let count : ℕ → ℕ = λ d. count_of first d + (count_of second d + count_of third d) in
      let sum : ℕ → ℕ → ℤ = λ d k. numerator_of first d (k + 1) +ℤ (numerator_of second d (k + 1) +ℤ numerator_of third d (k + 1)) in
      let bound : ℕ = max (den_bound first) (max (den_bound second) (den_bound third)) in
      let front = merges_merge first second first_ok second_ok in
      let back = merges_merge second third second_ok third_ok in
      merge_is_below (columns - 1) (merge (columns - 1) first second) third count sum bound
      (λ d. omega (arith, front.counts d)) (λ d k lt. omega (arith, ints, front.sums d k (omega arith))) (omega (arith, den_bound_merge (columns - 1) first second))
      ∙ sym (merge_is_below (columns - 1) first (merge (columns - 1) second third) count sum bound
      (λ d. omega (arith, back.counts d)) (λ d k lt. omega (arith, ints, back.sums d k (omega arith))) (omega (arith, den_bound_merge (columns - 1) second third)))

  -- What merged with a part gives the same whole is the same.
  pub merge_cancels : (first second part : List Term) → are_terms_from columns 1 first ≡ true → are_terms_from columns 1 second ≡ true → are_terms_from columns 1 part ≡ true
      → merge (columns - 1) first part ≡ merge (columns - 1) second part → first ≡ second
  merge_cancels first second part first_ok second_ok part_ok same =
      let of_first = merges_merge first part first_ok part_ok in
      let of_second = merges_merge second part second_ok part_ok in
      is_merge columns second [] first some first_ok (record {
        columns = refl;
        counts = λ d. omega (arith, of_first.counts d, of_second.counts d, ap (λ (terms : List Term). count_of terms d) same);
        sums = λ d k lt. omega (arith, ints, of_first.sums d k lt, of_second.sums d k lt, ap (λ (terms : List Term). numerator_of terms d (k + 1)) same);
      })
      ∙ merge_nothing second second_ok

-- Two answers merged are the same in either order.
pub merge_commutes : (columns : ℕ) (left right : List Term) → merge columns left right ≡ merge columns right left
merge_commutes columns left right =
    let count : ℕ → ℕ = λ d. count_of left d + count_of right d in
    let sum : ℕ → ℕ → ℤ = λ d k. numerator_of left d (k + 1) +ℤ numerator_of right d (k + 1) in
    let bound : ℕ = max (den_bound left) (den_bound right) in
    merge_is_below columns left right count sum bound (λ d. refl) (λ d k lt. refl) (omega arith)
    ∙ sym (merge_is_below columns right left count sum bound (λ d. omega arith) (λ d k lt. omega (arith, ints)) (omega arith))
