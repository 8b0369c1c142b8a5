-- The answers at the regions with each child of a node in its place merge to the answer at the region: each cell of the region
-- is in exactly one of them, so the weights inside them add up to the weight inside it.
use Rattle.std.proofs.Common.{◌≡◌, ℕ, zero, suc, ◌+◌, ◌*◌, ◌<◌, ◌≤◌, Bool, true, false, List, [], ◌∷◌, filter, map, refl, ap, sym, ◌∙◌, arith, ℤ, pos, ◌+ℤ◌, ◌*ℤ◌, Option, Some, None}
use Rattle.std.specs.Prelude.{All, IfSome, if◌then◌else◌, slice_get, slice_index_or, slice_set, ◌==◌}
use Rattle.std.specs.List.{count_by, range_with_len, sum_by}
use Rattle.std.proofs.lemmas.Bool.Decides.{nat_tests}
use Rattle.std.proofs.lemmas.Int.{ints}
use Rattle.std.proofs.lemmas.List.FromFn.{get_or-map-range_with_len}
use Rattle.std.proofs.lemmas.List.Sums.{sum_by-cons}
use Rattle.cube_model.specs.declared.term.Term.{Term}
use Rattle.cube_model.specs.Allocation.{ExtendedFact}
use Rattle.cube_model.specs.Answer.{answer, bound_of, count_of, merge, merge_all, numerator_of, over, terms_below, total_by, weight_inside}
use Rattle.cube_model.specs.Cells.{cells_of, is_among}
use Rattle.cube_model.specs.Cut.{children}
use Rattle.cube_model.specs.Tree.{Dimension, IsTree}
use Rattle.group_sum.proofs.MergeLaws.{count_of_below, den_bound_below, merge_is_below, numerator_of_below}
use Rattle.region_algebra.specs.Space.{IsRegion}
use Rattle.region_algebra.proofs.Children.{count_by-cons}
use Rattle.region_algebra.proofs.Partition.{cells_are_those_of_the_children}
use Rattle.world_law.specs.Additive.{AddUpOverChildren}
use Rattle.world_law.proofs.Products.{product_comm, scaled-by_none, scaled-sum}
use Rattle.world_law.proofs.Recurrences.{weights_in}

-- what two numbers of each item come to is what their sums come to
sum_by-parts : {X : Type 0} (v u t : X → ℕ) (xs : List X) → ((x : X) → v x + u x ≡ t x) → sum_by v xs + sum_by u xs ≡ sum_by t xs
sum_by-parts v u t [] each = refl
sum_by-parts v u t (x ∷ xs) each = omega (arith, each x, sum_by-parts v u t xs each, sum_by-cons v x xs, sum_by-cons u x xs, sum_by-cons t x xs)

sum_by-none : {X : Type 0} (t : X → ℕ) (xs : List X) → ((x : X) → 0 ≡ t x) → sum_by t xs ≡ 0
sum_by-none t [] each = refl
sum_by-none t (x ∷ xs) each = omega (arith, each x, sum_by-none t xs each, sum_by-cons t x xs)

sum_by-test : (p : ℕ → Bool) (n : ℕ) (xs : List ℕ) → sum_by (λ x. if p x then n else 0) xs ≡ n * count_by p xs
sum_by-test p n [] = omega arith
sum_by-test p n (x ∷ xs) = sum_by-cons (λ x. if p x then n else 0) x xs ∙ either (p x) (sum_by-test p n xs) ∙ ap (λ m. n * m) (sym (count_by-cons p x xs))
  where
    either : (b : Bool) → sum_by (λ x. if p x then n else 0) xs ≡ n * count_by p xs → (if b then n else 0) + sum_by (λ x. if p x then n else 0) xs ≡ n * ((if b then 1 else 0) + count_by p xs)
    either true rest = omega (arith, rest)
    either false rest = omega (arith, rest)

-- a weight of each fact times its value in a column, added up
abbrev scaled_by : (ExtendedFact → ℕ) → ℕ → List ExtendedFact → ℤ
scaled_by weight column facts = total_by (λ e. pos (weight e) *ℤ slice_index_or e.values column (pos 0)) facts

scaled_by-parts : (v u t : ExtendedFact → ℕ) (column : ℕ) (facts : List ExtendedFact) → ((e : ExtendedFact) → v e + u e ≡ t e) → scaled_by v column facts +ℤ scaled_by u column facts ≡ scaled_by t column facts
scaled_by-parts v u t column [] each = omega (arith, ints)
scaled_by-parts v u t column (e ∷ facts) each =
    let x = slice_index_or e.values column (pos 0) in
    let both : pos (v e) *ℤ x +ℤ pos (u e) *ℤ x ≡ pos (t e) *ℤ x =
    ap (λ z. z +ℤ pos (u e) *ℤ x) (product_comm (v e) x) ∙ ap (λ z. x *ℤ pos (v e) +ℤ z) (product_comm (u e) x) ∙ sym (scaled-sum x (v e) (u e)) ∙ ap (λ n. x *ℤ pos n) (each e) ∙ sym (product_comm (t e) x) in
    omega (arith, ints, both, scaled_by-parts v u t column facts each)

scaled_by-none : (t : ExtendedFact → ℕ) (column : ℕ) (facts : List ExtendedFact) → sum_by t facts ≡ 0 → scaled_by t column facts ≡ pos 0
scaled_by-none t column [] none = refl
scaled_by-none t column (e ∷ facts) none =
    let x = slice_index_or e.values column (pos 0) in
    let sum = sum_by-cons t e facts in
    let nothing : t e ≡ 0 = omega (arith, sum, none) in
    let here : pos (t e) *ℤ x ≡ pos 0 = ap (λ n. pos n *ℤ x) nothing ∙ product_comm 0 x ∙ scaled-by_none x in
    omega (arith, ints, here, scaled_by-none t column facts (omega (arith, sum, none)))

-- no fact has a denominator from the bound on
over-none : (facts : List ExtendedFact) (den : ℕ) → bound_of facts ≤ den → over den facts ≡ []
over-none [] den le = refl
over-none (e ∷ facts) den le =
    let other : (e.allocation.den == den) ≡ false = grind (arith, nat_tests) in
    rw other (over-none facts den (omega arith))

terms_below-none : (count : ℕ → ℕ) (sums : ℕ → List ℤ) (bound : ℕ) → ((d : ℕ) → count d ≡ 0) → terms_below count sums bound ≡ []
terms_below-none count sums zero none = refl
terms_below-none count sums (suc d) none = rw (terms_below-none count sums d none, none d) refl

module _ (columns : ℕ) (facts : List ExtendedFact) where
  abbrev counts : (ExtendedFact → ℕ) → ℕ → ℕ
  counts weight den = sum_by weight (over den facts)

  abbrev sums_at : (ExtendedFact → ℕ) → ℕ → ℕ → ℤ
  sums_at weight den column = scaled_by weight column (over den facts)

  -- an answer, whatever weighs the facts
  abbrev weighed : (ExtendedFact → ℕ) → List Term
  weighed weight = terms_below (counts weight) (λ den. map (sums_at weight den) (range_with_len 0 columns)) (bound_of facts)

  beyond : (weight : ExtendedFact → ℕ) (d : ℕ) → bound_of facts ≤ d → counts weight d ≡ 0
  beyond weight d le = ap (sum_by weight) (over-none facts d le)

  count_of-weighed : (weight : ExtendedFact → ℕ) (d : ℕ) → count_of (weighed weight) d ≡ counts weight d
  count_of-weighed weight d = count_of_below (counts weight) (λ den. map (sums_at weight den) (range_with_len 0 columns)) (bound_of facts) (beyond weight) d

  numerator_of-weighed : (weight : ExtendedFact → ℕ) (d k : ℕ) → k < columns → numerator_of (weighed weight) d (k + 1) ≡ sums_at weight d k
  numerator_of-weighed weight d k within =
      let read = get_or-map-range_with_len (sums_at weight d) 0 columns k k (pos 0) within (omega arith) in
      numerator_of_below (counts weight) (λ den. map (sums_at weight den) (range_with_len 0 columns)) (bound_of facts) (beyond weight) d k (λ none. read ∙ scaled_by-none weight k (over d facts) none) ∙ read

  -- answers by the parts of weights merge to the answer by the weights
  merge-parts : (v u t : ExtendedFact → ℕ) → ((e : ExtendedFact) → v e + u e ≡ t e) → merge columns (weighed v) (weighed u) ≡ weighed t
  merge-parts v u t each =
      merge_is_below columns (weighed v) (weighed u) (counts t) (sums_at t) (bound_of facts)
      (λ d. omega (arith, count_of-weighed v d, count_of-weighed u d, sum_by-parts v u t (over d facts) each))
      (λ d k lt. omega (arith, ints, numerator_of-weighed v d k lt, numerator_of-weighed u d k lt, scaled_by-parts v u t k (over d facts) each))
      (omega (arith, den_bound_below (counts v) (λ den. map (sums_at v den) (range_with_len 0 columns)) (bound_of facts), den_bound_below (counts u) (λ den. map (sums_at u den) (range_with_len 0 columns)) (bound_of facts)))

  merge_all-parts : (part : ℕ → ExtendedFact → ℕ) (xs : List ℕ) (t : ExtendedFact → ℕ) → ((e : ExtendedFact) → sum_by (λ x. part x e) xs ≡ t e) → merge_all columns (map (λ x. weighed (part x)) xs) ≡ weighed t
  merge_all-parts part [] t each = sym (terms_below-none (counts t) (λ den. map (sums_at t den) (range_with_len 0 columns)) (bound_of facts) (λ d. sum_by-none t (over d facts) each))
  merge_all-parts part (x ∷ xs) t each =
      let rest : ExtendedFact → ℕ = λ e. sum_by (λ x. part x e) xs in
      ap (merge columns (weighed (part x))) (merge_all-parts part xs rest (λ e. refl)) ∙ merge-parts (part x) rest t (λ e. sym (sum_by-cons (λ x. part x e) x xs) ∙ each e)

-- Each cell being in one of some lists exactly where it is in the whole, the weights inside the lists add up to that inside the whole.
module _ (part : ℕ → List ℕ) (xs whole : List ℕ) (once : (cell : ℕ) → count_by (λ x. is_among (part x) cell) xs ≡ (if is_among whole cell then 1 else 0)) where
  weights_in-row : (cells : List ℕ) (row : ℕ × ℕ) (rows : List (ℕ × ℕ)) → (if is_among cells row.0 then row.1 else 0) + weights_in cells rows ≡ weights_in cells (row ∷ rows)
  weights_in-row cells row rows = grind (arith, sum_by-cons (λ (row : ℕ × ℕ). row.1) row (filter (λ row. is_among cells row.0) rows))

  weights_in-parts : (rows : List (ℕ × ℕ)) → sum_by (λ x. weights_in (part x) rows) xs ≡ weights_in whole rows
  weights_in-parts [] = sum_by-none (λ x. 0) xs (λ x. refl)
  weights_in-parts (row ∷ rows) =
      let here : ℕ → ℕ = λ x. if is_among (part x) row.0 then row.1 else 0 in
      let first : sum_by here xs ≡ (if is_among whole row.0 then row.1 else 0) = sum_by-test (λ x. is_among (part x) row.0) row.1 xs ∙ ap (λ n. row.1 * n) (once row.0) ∙ times-test (is_among whole row.0) row.1 in
      sym (sum_by-parts here (λ x. weights_in (part x) rows) (λ x. weights_in (part x) (row ∷ rows)) xs (λ x. weights_in-row (part x) row rows))
      ∙ ap (λ n. n + sum_by (λ x. weights_in (part x) rows) xs) first ∙ ap (λ n. (if is_among whole row.0 then row.1 else 0) + n) (weights_in-parts rows) ∙ weights_in-row whole row rows
    where
      times-test : (b : Bool) (n : ℕ) → n * (if b then 1 else 0) ≡ (if b then n else 0)
      times-test true n = omega arith
      times-test false n = omega arith

weaker : {X : Type 0} (o : Option X) (P Q : X → Type 0) → ((x : X) → P x → Q x) → IfSome o P → IfSome o Q
weaker None P Q more holds = tt
weaker (Some x) P Q more holds = more x holds

pub add_up_over_children : (columns : ℕ) (dims : List Dimension) (region : List ℕ) (facts : List ExtendedFact) → All IsTree dims → IsRegion dims region → AddUpOverChildren columns dims region facts (answer columns dims facts region)
unfolding answer
add_up_over_children columns dims region facts trees named = λ d.
    weaker (slice_get dims d) _ _ (λ dim. weaker (slice_get region d) _ _ (λ node once inner.
    let part : ℕ → List ℕ = λ child. cells_of dims (slice_set region d child) in
    merge_all-parts columns facts (λ child e. weight_inside (part child) e.allocation) (children dim node) (λ e. weight_inside (cells_of dims region) e.allocation)
    (λ e. weights_in-parts part (children dim node) (cells_of dims region) (once inner) e.allocation.rows)))
    (cells_are_those_of_the_children dims region d trees named)
