-- How many of other terms have no term among the own.
use Rattle.std.proofs.Common.{◌≡◌, ℕ, zero, suc, ◌+◌, ◌<◌, Bool, List, [], ◌∷◌, length, take, true, false, ◌≤◌, inl, inr, sym, subst, refl, arith}
use Rattle.std.specs.Prelude.{is_none, if◌then◌else◌}
use Rattle.std.proofs.lemmas.List.Sums.{count_by_more_no, count_by_more_yes}
use Rattle.cube_model.specs.declared.term.Term.{Term}
use Rattle.cube_model.specs.Answer.{term_of}
use Rattle.group_sum.specs.Back.{IsPlaceBehind, missing_in}
use Rattle.group_sum.specs.Place.{Ascend, IsAt, IsGapFor, no_term, term_at}
use Rattle.group_sum.proofs.Ascending.{term_of_gap}
use Rattle.std.specs.Prelude.{MatchBool, not}
use Rattle.std.proofs.lemmas.Bool.{cases_eq}
use Rattle.std.proofs.lemmas.Bool.Decides.{nat_tests}

-- what is at a place is found
pub found_at : (terms : List Term) (den i : ℕ) → IsAt terms den i → is_none (term_of terms den) ≡ false
found_at [] den i at = absurd (omega (arith, at.in_range))
found_at (term ∷ terms) den zero at = grind (arith, nat_tests, at.has_key)
found_at (term ∷ terms) den (suc i) at =
    let tail : IsAt terms den i = record { in_range = omega (arith, at.in_range); has_key = at.has_key } in
    grind (arith, nat_tests, found_at terms den i tail)

-- Where the denominators before a place are smaller, and the one at it is not, it is there or missing.
pub missing_is : (terms : List Term) (den i : ℕ) → Ascend terms → IsPlaceBehind terms den i → (i < length terms → den ≤ (term_at terms i).den) → (there : Bool) → MatchBool there (IsAt terms den i) (IsAt terms den i → ⊥)
    → not there ≡ is_none (term_of terms den)
missing_is terms den i ascend behind first true at = sym (found_at terms den i at)
missing_is terms den i ascend behind first false other =
    let gap : IsGapFor terms den i = record {
      in_range = behind.in_range;
      smaller_before = behind.smaller_before;
      greater_after = λ k le lt. elim (cases_eq i k) [
        | inl same ↦
            let here : i < length terms = omega arith in
            let differs : (term_at terms i).den ≡ den → ⊥ = λ equal. other (record { in_range = here; has_key = equal }) in
            subst (λ n. den < (term_at terms n).den) same (omega (arith, first here, differs))
        | inr later ↦ omega (arith, first (omega arith), ascend.each i k (omega arith) lt)
      ];
    } in
    rw (term_of_gap terms den i gap) refl

-- what is behind a denominator is behind a greater one
pub behind_more : (terms : List Term) (den more i : ℕ) → IsPlaceBehind terms den i → den ≤ more → IsPlaceBehind terms more i
behind_more terms den more i behind le = record { in_range = behind.in_range; smaller_before = λ k lt. omega (arith, behind.smaller_before k lt) }

-- one more is missing, or not
pub missing_more : (own others : List Term) (j : ℕ) (lacks : Bool) → j < length others → lacks ≡ is_none (term_of own (term_at others j).den)
    → missing_in own (take (j + 1) others) ≡ missing_in own (take j others) + (if lacks then 1 else 0)
missing_more own others j true lt is = count_by_more_yes (λ (t : Term). is_none (term_of own t.den)) others j no_term lt (sym is)
missing_more own others j false lt is =
    let same : missing_in own (take (j + 1) others) ≡ missing_in own (take j others) = count_by_more_no (λ (t : Term). is_none (term_of own t.den)) others j no_term lt (sym is) in
    omega (arith, same)
