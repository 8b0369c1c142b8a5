-- One step of merging from the back.
use Rattle.std.proofs.Common.{◌≡◌, ℕ, zero, suc, ◌+◌, ◌-◌, ◌<◌, ◌≤◌, true, false, List, [], ◌∷◌, ◌++◌, length, take, drop, set, ℤ, Some, None, ◌==◌, if◌then◌else◌, sym, ap, subst, ◌∙◌, refl, inl, inr, arith}
use Rattle.std.specs.Prelude.{is_none}
use Rattle.std.proofs.lemmas.Bool.{cases_lt}
use Rattle.std.proofs.lemmas.Bool.Decides.{nat_tests}
use Rattle.std.proofs.lemmas.List.{get_or-set_same, get_or-take, set-set, take_more}
use Rattle.cube_model.specs.declared.term.Term.{Term}
use Rattle.cube_model.specs.Answer.{term_of}
use Rattle.group_sum.specs.declared.merge.Ahead.{Ahead}
use Rattle.group_sum.specs.Back.{AddsUpTerms, AreLevel, FitsLevel, StepsBack, last_other, last_own, missing_in}
use Rattle.group_sum.specs.Heads.{IsTotal}
use Rattle.group_sum.specs.Merge.{FitsMerge}
use Rattle.group_sum.specs.Place.{no_term, term_at}
use Rattle.group_sum.specs.Rows.{row_of, row_term}
use Rattle.group_sum.specs.Terms.{are_terms_from}
use Rattle.group_sum.proofs.Ascending.{at_least, term_of_below}
use Rattle.group_sum.proofs.Backwards.{IsBack, adds_up, copies, moves, pair_count, pair_sums}
use Rattle.group_sum.proofs.Missing.{missing_more}
use Rattle.group_sum.proofs.Behind.{next_from, next_from-push}

-- where both last terms have the denominator, the own one is copied and the other added to it
pub adds_up_in_place : (old others mid new : List Term) (ahead : Ahead) (row : List ℤ) → AreLevel old others ahead → ahead.place - 1 < length old → mid ≡ set old (ahead.place - 1) (last_own old ahead)
    → new ≡ set mid (ahead.place - 1) (term_at new (ahead.place - 1)) → row ≡ row_of (last_other others ahead) → IsTotal (term_at mid (ahead.place - 1)) (row_term 0 row) (term_at new (ahead.place - 1))
    → AddsUpTerms old others new ahead (record { own = ahead.own - 1; other = ahead.other - 1; place = ahead.place - 1 })
adds_up_in_place old others mid new ahead row level lt is_mid is_new is_row total =
    let there : term_at mid (ahead.place - 1) ≡ last_own old ahead = ap (λ ts. term_at ts (ahead.place - 1)) is_mid ∙ get_or-set_same old (ahead.place - 1) (last_own old ahead) no_term lt in
    let of_own : IsTotal (last_own old ahead) (row_term 0 row) (term_at new (ahead.place - 1)) = subst (λ x. IsTotal x (row_term 0 row) (term_at new (ahead.place - 1))) there total in
    let of_both : IsTotal (last_own old ahead) (row_term 0 (row_of (last_other others ahead))) (term_at new (ahead.place - 1)) =
    subst (λ r. IsTotal (last_own old ahead) (row_term 0 r) (term_at new (ahead.place - 1))) is_row of_own in
    record {
      level = level;
      next_is = refl;
      terms = is_new ∙ ap (λ ts. set ts (ahead.place - 1) (term_at new (ahead.place - 1))) is_mid ∙ set-set old (ahead.place - 1) (last_own old ahead) (term_at new (ahead.place - 1));
      total = record { has_den = of_both.has_den; count = of_both.count; columns = of_both.columns; sums = record { each = λ k within. of_both.sums.each k within } };
    }

-- the least denominator behind so many terms
next_is : (terms : List Term) (i : ℕ) → 1 ≤ i → i ≤ length terms → next_from 1 (take i terms) ≡ (term_at terms (i - 1)).den + 1
next_is terms i some le =
    let up : i ≡ i - 1 + 1 = omega arith in
    let ends : take (i - 1 + 1) terms ≡ take (i - 1) terms ++ term_at terms (i - 1) ∷ [] = take_more terms (i - 1) no_term (omega arith) in
    ap (λ n. next_from 1 (take n terms)) up ∙ ap (next_from 1) ends ∙ next_from-push 1 (take (i - 1) terms) (term_at terms (i - 1))

module _ (columns : ℕ) (left right : List Term) (left_ok : are_terms_from columns 1 left ≡ true) (right_ok : are_terms_from columns 1 right ≡ true) where
  module _ (now : List Term) (ahead : Ahead) (is : IsBack columns left right now ahead.own ahead.other ahead.place) (some_other : 1 ≤ ahead.other) where
    -- the last own term ahead stands where it was
    own_same : 1 ≤ ahead.own → last_own now ahead ≡ term_at left (ahead.own - 1)
    own_same some =
        sym (get_or-take ahead.own now (ahead.own - 1) no_term (omega arith)) ∙ ap (λ ts. term_at ts (ahead.own - 1)) is.front ∙ get_or-take ahead.own left (ahead.own - 1) no_term (omega arith)

    -- there is a place for it
    pub some_place : 1 ≤ ahead.place
    some_place = elim (cases_lt 0 ahead.own) [
      | inl some ↦ omega (arith, is.place)
      | inr none ↦
          let nothing : ahead.own ≡ 0 = omega arith in
          let y = last_other right ahead in
          let next = next_is right ahead.other some_other is.other in
          let behind : are_terms_from columns is.bound left ≡ true = subst (λ n. are_terms_from columns is.bound (drop n left) ≡ true) nothing is.left_behind in
          let absent : term_of left y.den ≡ None = term_of_below columns is.bound left behind y.den (omega (arith, next, is.right_before)) in
          let lacks : true ≡ is_none (term_of left y.den) = rw absent refl in
          let up : ahead.other - 1 + 1 ≡ ahead.other = omega arith in
          let more = missing_more left right (ahead.other - 1) true (omega (arith, is.other)) lacks in
          let more_here : missing_in left (take ahead.other right) ≡ missing_in left (take (ahead.other - 1) right) + 1 = subst (λ n. missing_in left (take n right) ≡ missing_in left (take (ahead.other - 1) right) + 1) up more in
          omega (arith, is.place, more_here)
    ]

    -- where both last terms have the denominator they fit
    pub fits_level : 1 ≤ columns → FitsMerge (record { columns = columns; terms = left }) (record { columns = columns; terms = right }) → FitsLevel (record { columns = columns; terms = now }) (record { columns = columns; terms = right }) ahead
    fits_level some fits = record {
      count = λ level.
          let same = own_same level.some in
          rw same (pair_count columns left right left_ok right_ok now (ahead.own - 1) (ahead.other - 1) 0 some fits (omega (arith, is.own, level.some)) (omega (arith, is.other)) (sym (ap (λ (t : Term). t.den) same) ∙ level.same));
      sums = λ level.
          let same = own_same level.some in
          rw same (pair_sums columns left right left_ok right_ok now (ahead.own - 1) (ahead.other - 1) 0 some fits (omega (arith, is.own, level.some)) (omega (arith, is.other)) (sym (ap (λ (t : Term). t.den) same) ∙ level.same));
    }

    -- after a step all is so again, and fewer terms are ahead
    pub record IsNext (new : List Term) (next : Ahead) : Type 0 where
      pub back : IsBack columns left right new next.own next.other next.place
      pub fewer : next.own + next.other < ahead.own + ahead.other

    pub steps_back : 1 ≤ columns → FitsMerge (record { columns = columns; terms = left }) (record { columns = columns; terms = right }) → (new : List Term) (next : Ahead) → StepsBack now right new ahead next → IsNext new next
    steps_back some fits new next (inl step) =
        let same = own_same step.some in
        let own_up : ahead.own ≡ ahead.own - 1 + 1 = omega (arith, step.some) in
        let place_up : ahead.place ≡ ahead.place - 1 + 1 = omega (arith, some_place) in
        let here : IsBack columns left right now (ahead.own - 1 + 1) ahead.other (ahead.place - 1 + 1) = subst (λ n. IsBack columns left right now n ahead.other (ahead.place - 1 + 1)) own_up (subst (λ n. IsBack columns left right now ahead.own ahead.other n) place_up is) in
        let next_other = next_is right ahead.other some_other is.other in
        let less : next_from 1 (take ahead.other right) ≤ (term_at left (ahead.own - 1)).den = omega (arith, next_other, step.greater, ap (λ (t : Term). t.den) same) in
        let moved = moves columns left right left_ok right_ok now (ahead.own - 1) ahead.other (ahead.place - 1) here less in
        let terms : new ≡ set now (ahead.place - 1) (term_at left (ahead.own - 1)) = step.terms ∙ ap (λ t. set now (ahead.place - 1) t) same in
        rw (step.next_is, terms) (record { back = moved; fewer = omega (arith, step.some) })
    steps_back some fits new next (inr (inl step)) =
        let same = own_same step.level.some in
        let own_up : ahead.own ≡ ahead.own - 1 + 1 = omega (arith, step.level.some) in
        let other_up : ahead.other ≡ ahead.other - 1 + 1 = omega arith in
        let place_up : ahead.place ≡ ahead.place - 1 + 1 = omega (arith, some_place) in
        let here : IsBack columns left right now (ahead.own - 1 + 1) (ahead.other - 1 + 1) (ahead.place - 1 + 1) =
        subst (λ n. IsBack columns left right now n (ahead.other - 1 + 1) (ahead.place - 1 + 1)) own_up (subst (λ n. IsBack columns left right now ahead.own n (ahead.place - 1 + 1)) other_up (subst (λ n. IsBack columns left right now ahead.own ahead.other n) place_up is)) in
        let total : IsTotal (term_at left (ahead.own - 1)) (last_other right ahead) (term_at new (ahead.place - 1)) = subst (λ x. IsTotal x (last_other right ahead) (term_at new (ahead.place - 1))) same step.total in
        let added = adds_up columns left right left_ok right_ok now (ahead.own - 1) (ahead.other - 1) (ahead.place - 1) some fits here (sym (ap (λ (t : Term). t.den) same) ∙ step.level.same) (term_at new (ahead.place - 1)) total in
        rw step.next_is (record { back = subst (λ ts. IsBack columns left right ts (ahead.own - 1) (ahead.other - 1) (ahead.place - 1)) (sym step.terms) added; fewer = omega (arith, step.level.some) })
    steps_back some fits new next (inr (inr step)) =
        let other_up : ahead.other ≡ ahead.other - 1 + 1 = omega arith in
        let place_up : ahead.place ≡ ahead.place - 1 + 1 = omega (arith, some_place) in
        let here : IsBack columns left right now ahead.own (ahead.other - 1 + 1) (ahead.place - 1 + 1) =
        subst (λ n. IsBack columns left right now ahead.own n (ahead.place - 1 + 1)) other_up (subst (λ n. IsBack columns left right now ahead.own ahead.other n) place_up is) in
        let y = last_other right ahead in
        let less : next_from 1 (take ahead.own left) ≤ y.den = elim (cases_lt 0 ahead.own) [
          | inl some_own ↦ omega (arith, next_is left ahead.own some_own is.own, step.greater some_own, ap (λ (t : Term). t.den) (own_same some_own))
          | inr none ↦
              let nothing : 0 ≡ ahead.own = omega arith in
              subst (λ n. next_from 1 (take n left) ≤ y.den) nothing (at_least columns 1 right right_ok (ahead.other - 1) (omega (arith, is.other)))
        ] in
        let copied = copies columns left right left_ok right_ok now ahead.own (ahead.other - 1) (ahead.place - 1) here less in
        rw (step.next_is, step.terms) (record { back = copied; fewer = omega arith })

-- the denominator of the last of so many terms is told where there is one
pub record IsLastDen (len den own : ℕ) : Type 0 where
  pub some : 1 ≤ len
  pub same : den ≡ own

pub last_den_is : (len den own : ℕ) → (if len == 0 then None else Some den) ≡ Some own → IsLastDen len den own
last_den_is zero den own is = let none : None ≡ Some own = is in absurd (cc)
last_den_is (suc len) den own is =
    let test : (suc len == 0) ≡ false = grind (arith, nat_tests) in
    let found : Some den ≡ Some own = rw test at is in
    record { some = omega arith; same = cc }
