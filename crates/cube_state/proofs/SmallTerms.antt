-- Terms of small values: no sum passes MAX_VALUE times the count. Such terms merged are such terms.
use Rattle.std.proofs.Common.{◌≡◌, ℕ, zero, suc, ◌+◌, ◌*◌, ◌<◌, ◌≤◌, List, [], ◌∷◌, map, ap, arith, ℤ, pos, ◌+ℤ◌, take}
use Rattle.std.specs.Prelude.{All, nat_abs}
use Rattle.std.proofs.lemmas.Int.{ints}
use Rattle.std.proofs.lemmas.List.Elements.{All-cons, All-head, All-nil, All-tail}
use Rattle.cube_model.specs.declared.term.Term.{Term}
use Rattle.cube_model.specs.Answer.{count_of, merge, merge_all, numerator_of}
use Rattle.cube_model.specs.Limits.{MAX_VALUE, WIDE}
use Rattle.view_store.specs.Changes.{IsWithinWide}
use Rattle.view_store.proofs.Merges.{AreRegular, count_of-merge, numerator_of-merge}

pub record AreSmallTerms (columns : ℕ) (terms : List Term) : Type 0 where
  pub small : (d k : ℕ) → k < columns → nat_abs (numerator_of terms d (k + 1)) ≤ MAX_VALUE * count_of terms d

small-regular : (columns : ℕ) (terms : List Term) → AreSmallTerms columns terms → AreRegular columns terms
small-regular columns terms small = record { zeros = λ d k lt none. nothing (numerator_of terms d (k + 1)) (count_of terms d) (small.small d k lt) none }
  where
    nothing : (z : ℤ) (n : ℕ) → nat_abs z ≤ MAX_VALUE * n → n ≡ 0 → z ≡ pos 0
    nothing z n le none = omega (arith, ints, le, none)

pub small-none : (columns : ℕ) → AreSmallTerms columns []
small-none columns = record { small = λ d k lt. omega (arith, ints) }

small-merge : (columns : ℕ) (left right : List Term) → AreSmallTerms columns left → AreSmallTerms columns right → AreSmallTerms columns (merge columns left right)
small-merge columns left right first second = record {
  small = λ d k lt.
      added (numerator_of left d (k + 1)) (numerator_of right d (k + 1)) (numerator_of (merge columns left right) d (k + 1)) (count_of left d) (count_of right d) (count_of (merge columns left right) d)
      (first.small d k lt) (second.small d k lt) (numerator_of-merge columns left right (small-regular columns left first) (small-regular columns right second) d k lt) (count_of-merge columns left right d);
}
  where
    added : (a b c : ℤ) (m n t : ℕ) → nat_abs a ≤ MAX_VALUE * m → nat_abs b ≤ MAX_VALUE * n → c ≡ a +ℤ b → t ≡ m + n → nat_abs c ≤ MAX_VALUE * t
    added a b c m n t first second sum total = omega (arith, ints, first, second, sum, total)

-- of any first of them merged no count passes that of all merged
module _ (columns : ℕ) where
  small-take : (n : ℕ) (answers : List (List Term)) → All (AreSmallTerms columns) answers → AreSmallTerms columns (merge_all columns (take n answers))
  small-take zero answers each = small-none columns
  small-take (suc n) [] each = small-none columns
  small-take (suc n) (terms ∷ answers) each =
      small-merge columns terms (merge_all columns (take n answers)) (All-head (AreSmallTerms columns) terms answers each) (small-take n answers (All-tail (AreSmallTerms columns) terms answers each))

  count-take : (n d : ℕ) (answers : List (List Term)) → count_of (merge_all columns (take n answers)) d ≤ count_of (merge_all columns answers) d
  count-take zero d answers = omega arith
  count-take (suc n) d [] = omega arith
  count-take (suc n) d (terms ∷ answers) =
      omega (arith, count_of-merge columns terms (merge_all columns (take n answers)) d, count_of-merge columns terms (merge_all columns answers) d, count-take n d answers)

  -- so nothing passes WIDE where all merged are within it
  pub merges-within : (answers : List (List Term)) (whole : List Term) → All (AreSmallTerms columns) answers → merge_all columns answers ≡ whole → ((d : ℕ) → MAX_VALUE * count_of whole d ≤ WIDE)
      → (n : ℕ) → IsWithinWide (columns + 1) (merge_all columns (take n answers))
  merges-within answers whole each is most n =
      let counts : (d : ℕ) → MAX_VALUE * count_of (merge_all columns (take n answers)) d ≤ WIDE = λ d. omega (arith, count-take n d answers, ap (λ (terms : List Term). count_of terms d) is, most d) in
      record {
        counts = λ d. omega (arith, counts d);
        sums = λ d k lt. omega (arith, (small-take n answers each).small d k (omega (arith, lt)), counts d);
      }

-- what holds of the terms of all codes holds of those of some
pub small-each : {X : Type 0} (columns : ℕ) (terms_of : X → List Term) (codes : List X) → ((code : X) → AreSmallTerms columns (terms_of code)) → All (AreSmallTerms columns) (map terms_of codes)
small-each columns terms_of [] each = All-nil (AreSmallTerms columns)
small-each columns terms_of (code ∷ codes) each = All-cons (AreSmallTerms columns) (terms_of code) (map terms_of codes) (each code) (small-each columns terms_of codes each)
