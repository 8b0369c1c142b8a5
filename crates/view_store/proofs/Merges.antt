-- Terms merged, denominator by denominator, where no limit is asked of them.
use Rattle.std.proofs.Common.{◌≡◌, ℕ, ◌+◌, ◌<◌, List, [], ◌∷◌, ◌++◌, max, refl, ap, sym, ◌∙◌, arith, ℤ, pos, ◌+ℤ◌}
use Rattle.std.specs.Prelude.{All}
use Rattle.std.proofs.lemmas.List.Elements.{All-head, All-tail}
use Rattle.std.proofs.lemmas.Int.{ints}
use Rattle.std.proofs.lemmas.List.FromFn.{get_or-map-range_with_len}
use Rattle.cube_model.specs.declared.term.Term.{Term}
use Rattle.cube_model.specs.Answer.{count_of, den_bound, merge, merge_all, numerator_of}
use Rattle.group_sum.proofs.Merged.{count_of_both, count_of_bound, sums_of_both}
use Rattle.group_sum.proofs.MergeLaws.{count_of_below, merge_commutes, merge_is_below, numerator_of_below}

-- where the count is 0, so is every other numerator
pub record AreRegular (columns : ℕ) (terms : List Term) : Type 0 where
  pub zeros : (d k : ℕ) → k < columns → count_of terms d ≡ 0 → numerator_of terms d (k + 1) ≡ pos 0

module _ (columns : ℕ) (left right : List Term) where
  pub count_of-merge : (d : ℕ) → count_of (merge columns left right) d ≡ count_of left d + count_of right d
  unfolding merge
  count_of-merge d = count_of_below (count_of_both left right) (sums_of_both columns left right) (max (den_bound left) (den_bound right))
      (λ e le. omega (arith, count_of_bound left e (omega arith), count_of_bound right e (omega arith))) d

  pub numerator_of-merge : AreRegular columns left → AreRegular columns right → (d k : ℕ) → k < columns → numerator_of (merge columns left right) d (k + 1) ≡ numerator_of left d (k + 1) +ℤ numerator_of right d (k + 1)
  unfolding merge
  numerator_of-merge first second d k lt =
      let read = get_or-map-range_with_len (λ column. numerator_of left d (column + 1) +ℤ numerator_of right d (column + 1)) 0 columns k k (pos 0) lt (omega arith) in
      numerator_of_below (count_of_both left right) (sums_of_both columns left right) (max (den_bound left) (den_bound right))
      (λ e le. omega (arith, count_of_bound left e (omega arith), count_of_bound right e (omega arith))) d k
      (λ none. read ∙ omega (arith, ints, first.zeros d k lt (omega arith), second.zeros d k lt (omega arith))) ∙ read

  pub AreRegular-merge : AreRegular columns left → AreRegular columns right → AreRegular columns (merge columns left right)
  AreRegular-merge first second = record {
    zeros = λ d k lt none.
        omega (arith, ints, numerator_of-merge first second d k lt, first.zeros d k lt (omega (arith, none, count_of-merge d)), second.zeros d k lt (omega (arith, none, count_of-merge d)));
  }

pub AreRegular-none : (columns : ℕ) → AreRegular columns []
AreRegular-none columns = record { zeros = λ d k lt none. refl }

-- three merged are the same in either grouping
pub merge-grouped : (columns : ℕ) (first second third : List Term) → AreRegular columns first → AreRegular columns second → AreRegular columns third
    → merge columns (merge columns first second) third ≡ merge columns first (merge columns second third)
merge-grouped columns first second third a b c =
    let count : ℕ → ℕ = λ d. count_of first d + (count_of second d + count_of third d) in
    let sum : ℕ → ℕ → ℤ = λ d k. numerator_of first d (k + 1) +ℤ (numerator_of second d (k + 1) +ℤ numerator_of third d (k + 1)) in
    let bound : ℕ = max (max (den_bound (merge columns first second)) (den_bound third)) (max (den_bound first) (den_bound (merge columns second third))) in
    merge_is_below columns (merge columns first second) third count sum bound
    (λ d. omega (arith, count_of-merge columns first second d)) (λ d k lt. omega (arith, ints, numerator_of-merge columns first second a b d k lt)) (omega arith)
    ∙ sym (merge_is_below columns first (merge columns second third) count sum bound
    (λ d. omega (arith, count_of-merge columns second third d)) (λ d k lt. omega (arith, ints, numerator_of-merge columns second third b c d k lt)) (omega arith))

-- one more merged with several
pub merge_all-push : (columns : ℕ) (answers : List (List Term)) (terms : List Term) → All (AreRegular columns) answers → AreRegular columns terms
    → (merge_all columns (answers ++ terms ∷ []) ≡ merge columns (merge_all columns answers) terms) × AreRegular columns (merge_all columns answers)
merge_all-push columns [] terms all one = (merge_commutes columns terms [], AreRegular-none columns)
merge_all-push columns (first ∷ answers) terms all one =
    let head = All-head (AreRegular columns) first answers all in
    let rest = merge_all-push columns answers terms (All-tail (AreRegular columns) first answers all) one in
    (ap (merge columns first) rest.0 ∙ sym (merge-grouped columns first (merge_all columns answers) terms head rest.1 one), AreRegular-merge columns first (merge_all columns answers) head rest.1)
