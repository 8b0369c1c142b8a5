-- What shares add up to, one by one and in any order.
use Rattle.std.proofs.Common.{◌≡◌, ℕ, ◌+◌, ◌<◌, ◌≤◌, true, false, List, [], ◌∷◌, ◌++◌, length, get_or, take, drop, ℤ, pos, ◌+ℤ◌, ◌-ℤ◌, nat_abs, ◌==◌, if◌then◌else◌, sym, ap, ◌∙◌, refl, inl, inr, arith}
use Rattle.std.specs.Prelude.{IsPermutation}
use Rattle.std.specs.List.{sum_by}
use Rattle.std.proofs.lemmas.Bool.{cases_eq}
use Rattle.std.proofs.lemmas.Bool.Decides.{nat_tests}
use lib.IntN.{+ℤ_idr}
use Rattle.std.proofs.lemmas.List.{take_more, take-append-drop}
use Rattle.std.proofs.lemmas.List.Elements.{filter-append}
use Rattle.std.proofs.lemmas.Int.{ints}
use Rattle.std.proofs.lemmas.List.Sums.{sum_by-append, sum_by-cons}
use Rattle.std.proofs.lemmas.List.Sorted.{sum_by-IsPermutation}
use borrow.Author.Differences.{up, down}
use Rattle.cube_model.specs.Answer.{numerator_of, total_by}
use Rattle.group_sum.specs.declared.shares.Share.{Share}
use Rattle.group_sum.specs.Terms.{AddsUnits, FitsUnits, TermList}
use Rattle.group_sum.specs.Shares.{AddUpTo, IsShare, SharesFit, product_at, product_in, shares_at, size_at, units_at, units_of}

-- what is added up over the shares of a denominator
abbrev part : (Share → ℕ) → ℕ → Share → ℕ
part f d s = if s.den == d then f s else 0

sum-at : (f : Share → ℕ) (d : ℕ) (shares : List Share) → sum_by f (shares_at d shares) ≡ sum_by (part f d) shares
sum-at f d [] = refl
sum-at f d (s ∷ shares) =
    let rest = sum-at f d shares in
    let cons = sum_by-cons (part f d) s shares in
    elim (cases_eq s.den d) [
      | inl same ↦
          let test : (s.den == d) ≡ true = grind (arith, nat_tests) in
          let first : sum_by f (shares_at d (s ∷ shares)) ≡ f s + sum_by f (shares_at d shares) = rw test (sum_by-cons f s (shares_at d shares)) in
          let here : part f d s ≡ f s = rw test refl in
          omega (arith, first, here, rest, cons)
      | inr other ↦
          let test : (s.den == d) ≡ false = grind (arith, nat_tests) in
          let first : sum_by f (shares_at d (s ∷ shares)) ≡ sum_by f (shares_at d shares) = rw test refl in
          let here : part f d s ≡ 0 = rw test refl in
          omega (arith, first, here, rest, cons)
    ]

-- a sum of whole numbers is that of what is above 0 without that of what is below
split : (f : Share → ℤ) (xs : List Share) → total_by f xs ≡ pos (sum_by (λ x. up (f x)) xs) -ℤ pos (sum_by (λ x. down (f x)) xs)
split f [] = refl
split f (x ∷ xs) = omega (arith, ints, split f xs, sum_by-cons (λ x. up (f x)) x xs, sum_by-cons (λ x. down (f x)) x xs)

-- it is not greater than that of the absolute values
bounded : (f : Share → ℤ) (xs : List Share) → nat_abs (total_by f xs) ≤ sum_by (λ x. nat_abs (f x)) xs
bounded f [] = omega arith
bounded f (x ∷ xs) = omega (arith, ints, bounded f xs, sum_by-cons (λ x. nat_abs (f x)) x xs)

total-append : (f : Share → ℤ) (xs ys : List Share) → total_by f (xs ++ ys) ≡ total_by f xs +ℤ total_by f ys
total-append f [] ys = omega (arith, ints)
total-append f (x ∷ xs) ys = omega (arith, ints, total-append f xs ys)

-- a front of the shares adds up to no more than all
front_le : (f : Share → ℕ) (d n : ℕ) (shares : List Share) → sum_by f (shares_at d (take n shares)) ≤ sum_by f (shares_at d shares)
front_le f d n shares =
    let parts : sum_by (part f d) (take n shares ++ drop n shares) ≡ sum_by (part f d) (take n shares) + sum_by (part f d) (drop n shares) = sum_by-append (part f d) (take n shares) (drop n shares) in
    let all : sum_by (part f d) (take n shares ++ drop n shares) ≡ sum_by (part f d) shares = ap (sum_by (part f d)) (take-append-drop n shares) in
    omega (arith, parts, all, sum-at f d (take n shares), sum-at f d shares)

-- in another order they add up to the same
same_in_order : (f : Share → ℕ) (d : ℕ) (xs ys : List Share) → IsPermutation xs ys → sum_by f (shares_at d ys) ≡ sum_by f (shares_at d xs)
same_in_order f d xs ys order = sum-at f d ys ∙ sum_by-IsPermutation (part f d) xs ys order ∙ sym (sum-at f d xs)

total_in_order : (f : Share → ℤ) (d : ℕ) (xs ys : List Share) → IsPermutation xs ys → total_by f (shares_at d ys) ≡ total_by f (shares_at d xs)
total_in_order f d xs ys order =
    omega (arith, ints, split f (shares_at d xs), split f (shares_at d ys), same_in_order (λ x. up (f x)) d xs ys order, same_in_order (λ x. down (f x)) d xs ys order)

pub fit_in_order : (columns : ℕ) (xs ys : List Share) → IsPermutation xs ys → SharesFit columns xs → SharesFit columns ys
fit_in_order columns xs ys order fit = record {
  counts = λ d. rw (same_in_order units_of d xs ys order) (fit.counts d);
  sums = λ d k lt. rw (same_in_order (λ s. nat_abs (product_in k s)) d xs ys order) (fit.sums d k lt);
}

pub add_up_in_order : (columns : ℕ) (xs ys : List Share) (list : TermList) → IsPermutation xs ys → AddUpTo columns ys list → AddUpTo columns xs list
add_up_in_order columns xs ys list order up = record {
  columns_are = up.columns_are;
  counts = λ d. up.counts d ∙ same_in_order units_of d xs ys order;
  sums = λ d k lt. up.sums d k lt ∙ total_in_order (product_in k) d xs ys order;
}

-- no shares add up to no terms
pub add_up_none : (list : TermList) → list.terms ≡ [] → AddUpTo list.columns [] list
add_up_none list none = record { columns_are = refl; counts = λ d. rw none refl; sums = λ d k lt. rw none refl }

module _ (shares : List Share) (i : ℕ) (s : Share) (lt : i < length shares) (is : s ≡ get_or shares i s) where
  -- one share more
  next : take (i + 1) shares ≡ take i shares ++ s ∷ []
  next = take_more shares i s lt ∙ ap (λ x. take i shares ++ x ∷ []) (sym is)

  parts : (d : ℕ) → shares_at d (take (i + 1) shares) ≡ shares_at d (take i shares) ++ shares_at d (s ∷ [])
  parts d = ap (shares_at d) next ∙ filter-append (λ (x : Share). x.den == d) (take i shares) (s ∷ [])

  units_more : (d : ℕ) → units_at (take (i + 1) shares) d ≡ units_at (take i shares) d + (if d == s.den then units_of s else 0)
  units_more d =
      let both : units_at (take (i + 1) shares) d ≡ units_at (take i shares) d + units_at (s ∷ []) d = ap (sum_by units_of) (parts d) ∙ sum_by-append units_of (shares_at d (take i shares)) (shares_at d (s ∷ [])) in
      both ∙ ap (λ n. units_at (take i shares) d + n) (one d)
    where
      one : (d : ℕ) → units_at (s ∷ []) d ≡ (if d == s.den then units_of s else 0)
      one d = elim (cases_eq d s.den) [
        | inl same ↦
            let there : (s.den == d) ≡ true = grind (arith, nat_tests) in
            let test : (d == s.den) ≡ true = grind (arith, nat_tests) in
            rw (there, test) (omega arith)
        | inr other ↦
            let there : (s.den == d) ≡ false = grind (arith, nat_tests) in
            let test : (d == s.den) ≡ false = grind (arith, nat_tests) in
            rw (there, test) refl
      ]

  product_more : (d k : ℕ) → product_at (take (i + 1) shares) d k ≡ product_at (take i shares) d k +ℤ (if d == s.den then product_in k s else pos 0)
  product_more d k =
      let both : product_at (take (i + 1) shares) d k ≡ product_at (take i shares) d k +ℤ product_at (s ∷ []) d k = ap (total_by (product_in k)) (parts d) ∙ total-append (product_in k) (shares_at d (take i shares)) (shares_at d (s ∷ [])) in
      both ∙ ap (λ n. product_at (take i shares) d k +ℤ n) (one d)
    where
      one : (d : ℕ) → product_at (s ∷ []) d k ≡ (if d == s.den then product_in k s else pos 0)
      one d = elim (cases_eq d s.den) [
        | inl same ↦
            let there : (s.den == d) ≡ true = grind (arith, nat_tests) in
            let test : (d == s.den) ≡ true = grind (arith, nat_tests) in
            rw (there, test) (+ℤ_idr _)
        | inr other ↦
            let there : (s.den == d) ≡ false = grind (arith, nat_tests) in
            let test : (d == s.den) ≡ false = grind (arith, nat_tests) in
            rw (there, test) refl
      ]

  module _ (columns : ℕ) (whole : IsShare columns s) (old : TermList) (up : AddUpTo columns (take i shares) old) where
    -- it fits the terms
    pub fits_next : SharesFit columns shares → FitsUnits old.terms s.den (units_of s) s.weight s.cols
    fits_next fit = record {
      count =
          let test : (s.den == s.den) ≡ true = grind (arith, nat_tests) in
          let more : units_at (take (i + 1) shares) s.den ≡ units_at (take i shares) s.den + units_of s = rw test at (units_more s.den) in
          omega (arith, up.counts s.den, more, front_le units_of s.den (i + 1) shares, fit.counts s.den);
      sums = λ k within.
          let test : (s.den == s.den) ≡ true = grind (arith, nat_tests) in
          let more : product_at (take (i + 1) shares) s.den k ≡ product_at (take i shares) s.den k +ℤ product_in k s = rw test at (product_more s.den k) in
          let column : k + 1 < columns = omega (arith, whole.columns_are) in
          let sum : numerator_of old.terms s.den (k + 1) +ℤ product_in k s ≡ product_at (take (i + 1) shares) s.den k = ap (λ z. z +ℤ product_in k s) (up.sums s.den k column) ∙ sym more in
          let bound = bounded (product_in k) (shares_at s.den (take (i + 1) shares)) in
          let size : size_at (take (i + 1) shares) s.den k ≤ size_at shares s.den k = front_le (λ (x : Share). nat_abs (product_in k x)) s.den (i + 1) shares in
          rw sum (omega (arith, bound, size, fit.sums s.den k column));
    }

    -- with it added, one share more is added up
    pub add_up_next : (new : TermList) → AddsUnits old new s.den (units_of s) s.weight s.cols → AddUpTo columns (take (i + 1) shares) new
    add_up_next new adds = record {
      columns_are = adds.columns ∙ up.columns_are;
      counts = λ d. adds.counts d ∙ ap (λ n. n + (if d == s.den then units_of s else 0)) (up.counts d) ∙ sym (units_more d);
      sums = λ d k within.
          adds.sums d k (omega (arith, whole.columns_are)) ∙ ap (λ z. z +ℤ (if d == s.den then product_in k s else pos 0)) (up.sums d k within) ∙ sym (product_more d k);
    }
