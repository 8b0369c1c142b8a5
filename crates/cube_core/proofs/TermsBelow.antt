-- What holds of the terms of an answer, and how many they are.
use Rattle.std.proofs.Common.{◌≡◌, ℕ, zero, suc, ◌+◌, ◌≤◌, Bool, true, false, List, [], ◌∷◌, length, map, refl, inl, inr, arith, ℤ, length-append}
use Rattle.std.specs.Prelude.{All, if◌then◌else◌, nat_lt, ◌==◌}
use Rattle.std.specs.List.{range_with_len}
use Rattle.std.proofs.lemmas.Bool.{cases_eq}
use Rattle.std.proofs.lemmas.Bool.Decides.{nat_tests}
use Rattle.std.proofs.lemmas.List.Elements.{All-append, All-cons, All-nil}
use Rattle.cube_model.specs.declared.term.Term.{Term}
use Rattle.cube_model.specs.Allocation.{ExtendedFact}
use Rattle.cube_model.specs.Answer.{answer, bound_of, count_at, sum_at, terms_below}
use Rattle.cube_model.specs.Cells.{cells_of}
use Rattle.cube_model.specs.Tree.{Dimension}

-- what holds of the term of each denominator with a count holds of the terms
pub terms_below-each : (P : Term → Type 0) (count : ℕ → ℕ) (sums : ℕ → List ℤ) → ((den : ℕ) → (count den == 0) ≡ false → P (record { den = den; count = count den; sums = sums den }))
    → (bound : ℕ) → All P (terms_below count sums bound)
terms_below-each P count sums each zero = All-nil P
terms_below-each P count sums each (suc den) =
    All-append P (terms_below count sums den) (if count den == 0 then [] else record { den = den; count = count den; sums = sums den } ∷ []) (terms_below-each P count sums each den)
    (one (count den == 0) (record { den = den; count = count den; sums = sums den }) (each den))
  where
    one : (none : Bool) (t : Term) → (none ≡ false → P t) → All P (if none then [] else t ∷ [])
    one true t holds = All-nil P
    one false t holds = All-cons P t [] (holds refl) (All-nil P)

-- one fact more has at most one term more
module _ (old new : ℕ → ℕ) (sums : ℕ → List ℤ) (den : ℕ) (same : (d : ℕ) → (den == d) ≡ false → new d ≡ old d) where
  length-more : (bound : ℕ) → length (terms_below new sums bound) ≤ length (terms_below old sums bound) + (if nat_lt den bound then 1 else 0)
  length-more zero = omega arith
  length-more (suc d) =
      let before = length-more d in
      let now_len = length-append (terms_below new sums d) (if new d == 0 then [] else record { den = d; count = new d; sums = sums d } ∷ []) in
      let old_len = length-append (terms_below old sums d) (if old d == 0 then [] else record { den = d; count = old d; sums = sums d } ∷ []) in
      elim (cases_eq den d) [
        | inl here ↦ grind (arith, nat_tests, before, now_len, old_len)
        | inr other ↦ grind (arith, nat_tests, before, now_len, old_len, same d)
      ]

length-none : (sums : ℕ → List ℤ) (bound : ℕ) → length (terms_below (λ d. 0) sums bound) ≡ 0
length-none sums zero = refl
length-none sums (suc d) = omega (arith, length-none sums d, length-append (terms_below (λ d. 0) sums d) [])

count_at-other : (cells : List ℕ) (e : ExtendedFact) (rows : List ExtendedFact) (den : ℕ) → (e.allocation.den == den) ≡ false → count_at cells (e ∷ rows) den ≡ count_at cells rows den
count_at-other cells e rows den other = rw other refl

length-terms_below : (cells : List ℕ) (rows : List ExtendedFact) (sums : ℕ → List ℤ) (bound : ℕ) → length (terms_below (count_at cells rows) sums bound) ≤ length rows
length-terms_below cells [] sums bound = omega (arith, length-none sums bound)
length-terms_below cells (e ∷ rows) sums bound =
    let rest = length-terms_below cells rows sums bound in
    let more = length-more (count_at cells rows) (count_at cells (e ∷ rows)) sums e.allocation.den (count_at-other cells e rows) bound in
    grind (arith, nat_tests)

-- there are no more terms than facts
pub length-answer : (columns : ℕ) (dims : List Dimension) (rows : List ExtendedFact) (region : List ℕ) → length (answer columns dims rows region) ≤ length rows
unfolding answer
length-answer columns dims rows region =
    length-terms_below (cells_of dims region) rows (λ den. map (λ column. sum_at (cells_of dims region) rows column den) (range_with_len 0 columns)) (bound_of rows)
