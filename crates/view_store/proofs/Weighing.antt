-- Answers by parts of the weights of facts merge to the answer by the weights.
use Rattle.std.proofs.Common.{◌≡◌, ℕ, zero, suc, ◌+◌, ◌*◌, ◌<◌, ◌≤◌, Bool, true, false, List, [], ◌∷◌, filter, map, refl, ap, sym, ◌∙◌, arith, ℤ, pos, ◌+ℤ◌, ◌*ℤ◌}
use Rattle.std.specs.Prelude.{if◌then◌else◌, slice_index_or}
use Rattle.std.specs.List.{count_by, range_with_len, sum_by}
use Rattle.std.proofs.lemmas.Int.{ints}
use Rattle.std.proofs.lemmas.List.FromFn.{get_or-map-range_with_len}
use Rattle.std.proofs.lemmas.List.Sums.{sum_by-cons}
use Rattle.cube_model.specs.declared.term.Term.{Term}
use Rattle.cube_model.specs.Allocation.{ExtendedFact}
use Rattle.cube_model.specs.Answer.{bound_of, count_of, merge, numerator_of, over, terms_below, total_by}
use Rattle.cube_model.specs.Cells.{is_among}
use Rattle.group_sum.proofs.MergeLaws.{count_of_below, den_bound_below, merge_is_below, numerator_of_below}
use Rattle.region_algebra.proofs.Children.{count_by-cons}
use Rattle.view_store.proofs.Shares.{no_product, over-beyond, sum-product}

-- what two numbers of each item come to is what their sums come to
pub sum_by-both : {X : Type 0} (v u t : X → ℕ) (xs : List X) → ((x : X) → v x + u x ≡ t x) → sum_by v xs + sum_by u xs ≡ sum_by t xs
sum_by-both v u t [] each = refl
sum_by-both v u t (x ∷ xs) each = omega (arith, each x, sum_by-both v u t xs each, sum_by-cons v x xs, sum_by-cons u x xs, sum_by-cons t x xs)

sum_by-nothing : {X : Type 0} (t : X → ℕ) (xs : List X) → ((x : X) → t x ≡ 0) → sum_by t xs ≡ 0
sum_by-nothing t [] each = refl
sum_by-nothing t (x ∷ xs) each = omega (arith, each x, sum_by-nothing t xs each, sum_by-cons t x xs)

-- a number for each item that passes
sum_by-passing : (p : ℕ → Bool) (n : ℕ) (xs : List ℕ) → sum_by (λ x. if p x then n else 0) xs ≡ n * count_by p xs
sum_by-passing p n [] = omega arith
sum_by-passing p n (x ∷ xs) = sum_by-cons (λ x. if p x then n else 0) x xs ∙ either (p x) (sum_by-passing p n xs) ∙ ap (λ m. n * m) (sym (count_by-cons p x xs))
  where
    either : (b : Bool) → sum_by (λ x. if p x then n else 0) xs ≡ n * count_by p xs → (if b then n else 0) + sum_by (λ x. if p x then n else 0) xs ≡ n * ((if b then 1 else 0) + count_by p xs)
    either true rest = omega (arith, rest)
    either false rest = omega (arith, rest)

-- a weight of each fact times its value in a column, added up
abbrev scaled : (ExtendedFact → ℕ) → ℕ → List ExtendedFact → ℤ
scaled weight column facts = total_by (λ e. pos (weight e) *ℤ slice_index_or e.values column (pos 0)) facts

scaled-both : (v u t : ExtendedFact → ℕ) (column : ℕ) (facts : List ExtendedFact) → ((e : ExtendedFact) → v e + u e ≡ t e) → scaled v column facts +ℤ scaled u column facts ≡ scaled t column facts
scaled-both v u t column [] each = omega (arith, ints)
scaled-both v u t column (e ∷ facts) each =
    let x = slice_index_or e.values column (pos 0) in
    let both : pos (v e) *ℤ x +ℤ pos (u e) *ℤ x ≡ pos (t e) *ℤ x = sum-product (v e) (u e) x ∙ ap (λ n. pos n *ℤ x) (each e) in
    omega (arith, ints, both, scaled-both v u t column facts each)

scaled-nothing : (t : ExtendedFact → ℕ) (column : ℕ) (facts : List ExtendedFact) → sum_by t facts ≡ 0 → scaled t column facts ≡ pos 0
scaled-nothing t column [] none = refl
scaled-nothing t column (e ∷ facts) none =
    let x = slice_index_or e.values column (pos 0) in
    let sum = sum_by-cons t e facts in
    let nothing : t e ≡ 0 = omega (arith, sum, none) in
    let here : pos (t e) *ℤ x ≡ pos 0 = ap (λ n. pos n *ℤ x) nothing ∙ no_product x in
    omega (arith, ints, here, scaled-nothing t column facts (omega (arith, sum, none)))

terms_below-nothing : (count : ℕ → ℕ) (sums : ℕ → List ℤ) (bound : ℕ) → ((d : ℕ) → count d ≡ 0) → terms_below count sums bound ≡ []
terms_below-nothing count sums zero none = refl
terms_below-nothing count sums (suc d) none = rw (terms_below-nothing count sums d none, none d) refl

module _ (columns : ℕ) (facts : List ExtendedFact) where
  abbrev counts : (ExtendedFact → ℕ) → ℕ → ℕ
  counts weight den = sum_by weight (over den facts)

  abbrev sums_at : (ExtendedFact → ℕ) → ℕ → ℕ → ℤ
  sums_at weight den column = scaled weight column (over den facts)

  -- an answer, whatever weighs the facts
  abbrev pub weighed : (ExtendedFact → ℕ) → List Term
  weighed weight = terms_below (counts weight) (λ den. map (sums_at weight den) (range_with_len 0 columns)) (bound_of facts)

  beyond : (weight : ExtendedFact → ℕ) (d : ℕ) → bound_of facts ≤ d → counts weight d ≡ 0
  beyond weight d le = ap (sum_by weight) (over-beyond facts d le)

  count_of-weighed : (weight : ExtendedFact → ℕ) (d : ℕ) → count_of (weighed weight) d ≡ counts weight d
  count_of-weighed weight d = count_of_below (counts weight) (λ den. map (sums_at weight den) (range_with_len 0 columns)) (bound_of facts) (beyond weight) d

  numerator_of-weighed : (weight : ExtendedFact → ℕ) (d k : ℕ) → k < columns → numerator_of (weighed weight) d (k + 1) ≡ sums_at weight d k
  numerator_of-weighed weight d k within =
      let read = get_or-map-range_with_len (sums_at weight d) 0 columns k k (pos 0) within (omega arith) in
      numerator_of_below (counts weight) (λ den. map (sums_at weight den) (range_with_len 0 columns)) (bound_of facts) (beyond weight) d k (λ none. read ∙ scaled-nothing weight k (over d facts) none) ∙ read

  -- two parts of the weights
  pub merge-weighed : (v u t : ExtendedFact → ℕ) → ((e : ExtendedFact) → v e + u e ≡ t e) → merge columns (weighed v) (weighed u) ≡ weighed t
  merge-weighed v u t each =
      merge_is_below columns (weighed v) (weighed u) (counts t) (sums_at t) (bound_of facts)
      (λ d. omega (arith, count_of-weighed v d, count_of-weighed u d, sum_by-both v u t (over d facts) each))
      (λ d k lt. omega (arith, ints, numerator_of-weighed v d k lt, numerator_of-weighed u d k lt, scaled-both v u t k (over d facts) each))
      (omega (arith, den_bound_below (counts v) (λ den. map (sums_at v den) (range_with_len 0 columns)) (bound_of facts), den_bound_below (counts u) (λ den. map (sums_at u den) (range_with_len 0 columns)) (bound_of facts)))

  -- weights of 0 make no terms
  pub weighed-nothing : (weight : ExtendedFact → ℕ) → ((e : ExtendedFact) → weight e ≡ 0) → weighed weight ≡ []
  weighed-nothing weight none = terms_below-nothing (counts weight) (λ den. map (sums_at weight den) (range_with_len 0 columns)) (bound_of facts) (λ d. sum_by-nothing weight (over d facts) none)

  -- a part that makes no terms can be left out
  pub weighed-without : (v u t : ExtendedFact → ℕ) → weighed v ≡ [] → ((e : ExtendedFact) → v e + u e ≡ t e) → weighed u ≡ weighed t
  weighed-without v u t none each =
      let nothing : ExtendedFact → ℕ = λ e. 0 in
      sym (merge-weighed nothing u u (λ e. omega arith)) ∙ ap (λ terms. merge columns terms (weighed u)) (weighed-nothing nothing (λ e. refl) ∙ sym none) ∙ merge-weighed v u t each

  pub weighed-same : (u t : ExtendedFact → ℕ) → ((e : ExtendedFact) → u e ≡ t e) → weighed u ≡ weighed t
  weighed-same u t each =
      let nothing : ExtendedFact → ℕ = λ e. 0 in
      weighed-without nothing u t (weighed-nothing nothing (λ e. refl)) (λ e. omega (arith, each e))

-- the weights of the rows of cells among some
abbrev pub weights_among : List ℕ → List (ℕ × ℕ) → ℕ
weights_among cells rows = sum_by (λ row. row.1) (filter (λ row. is_among cells row.0) rows)

pub weights_among-none : (rows : List (ℕ × ℕ)) → weights_among [] rows ≡ 0
weights_among-none [] = refl
weights_among-none (row ∷ rows) = weights_among-none rows

-- Each cell being in one of some lists exactly where it is in the whole, the weights inside the lists add up to that inside the whole.
module _ (part : ℕ → List ℕ) (xs whole : List ℕ) (once : (cell : ℕ) → count_by (λ x. is_among (part x) cell) xs ≡ (if is_among whole cell then 1 else 0)) where
  weights-row : (cells : List ℕ) (row : ℕ × ℕ) (rows : List (ℕ × ℕ)) → (if is_among cells row.0 then row.1 else 0) + weights_among cells rows ≡ weights_among cells (row ∷ rows)
  weights-row cells row rows = grind (arith, sum_by-cons (λ (row : ℕ × ℕ). row.1) row (filter (λ row. is_among cells row.0) rows))

  pub weights-add_up : (rows : List (ℕ × ℕ)) → sum_by (λ x. weights_among (part x) rows) xs ≡ weights_among whole rows
  weights-add_up [] = sum_by-nothing (λ x. 0) xs (λ x. refl)
  weights-add_up (row ∷ rows) =
      let here : ℕ → ℕ = λ x. if is_among (part x) row.0 then row.1 else 0 in
      let first : sum_by here xs ≡ (if is_among whole row.0 then row.1 else 0) = sum_by-passing (λ x. is_among (part x) row.0) row.1 xs ∙ ap (λ n. row.1 * n) (once row.0) ∙ times-test (is_among whole row.0) row.1 in
      sym (sum_by-both here (λ x. weights_among (part x) rows) (λ x. weights_among (part x) (row ∷ rows)) xs (λ x. weights-row (part x) row rows))
      ∙ ap (λ n. n + sum_by (λ x. weights_among (part x) rows) xs) first ∙ ap (λ n. (if is_among whole row.0 then row.1 else 0) + n) (weights-add_up rows) ∙ weights-row whole row rows
    where
      times-test : (b : Bool) (n : ℕ) → n * (if b then 1 else 0) ≡ (if b then n else 0)
      times-test true n = omega arith
      times-test false n = omega arith
