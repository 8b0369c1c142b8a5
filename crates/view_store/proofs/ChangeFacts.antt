-- What the facts of one change add up to: their weights inside cells, and the sums of their values by the weight.
use Rattle.std.proofs.Common.{◌≡◌, ℕ, zero, suc, ◌+◌, ◌*◌, ◌-◌, ◌≤◌, Bool, true, false, List, [], ◌∷◌, ◌++◌, filter, replicate, length, refl, ap, ◌∙◌, inl, inr, arith, ℤ, pos, ◌+ℤ◌, ◌*ℤ◌}
use Rattle.std.specs.Prelude.{if◌then◌else◌, slice_index_or, ◌==◌}
use Rattle.std.specs.List.{sum_by}
use Rattle.std.proofs.lemmas.Bool.{cases_eq}
use Rattle.std.proofs.lemmas.Bool.Decides.{nat_tests}
use Rattle.std.proofs.lemmas.Int.{ints}
use Rattle.std.proofs.lemmas.List.Elements.{filter-append}
use Rattle.std.proofs.lemmas.List.Folds.{sum_by-replicate}
use Rattle.std.proofs.lemmas.List.Sums.{sum_by-append, sum_by-cons}
use borrow.Author.Differences.{product_is, same_in}
use Rattle.cube_model.specs.Allocation.{ExtendedFact}
use Rattle.cube_model.specs.Answer.{count_at, over, sum_at, total_by, weight_inside}
use Rattle.cube_model.proofs.Totals.{total_by-append}
use Rattle.group_sum.proofs.Adding.{get_or-zeros}
use Rattle.view_store.specs.declared.change.ViewChange.{ViewChange}
use Rattle.view_store.specs.Changes.{change_fact, change_facts}

-- items that are all the same pass a test together
filter-replicate : {X : Type 0} (p : X → Bool) (b : Bool) (n : ℕ) (x : X) → p x ≡ b → filter p (replicate n x) ≡ (if b then replicate n x else [])
filter-replicate p true zero x is = refl
filter-replicate p true (suc n) x is = rw is (ap (λ xs. x ∷ xs) (filter-replicate p true n x is))
filter-replicate p false zero x is = refl
filter-replicate p false (suc n) x is = rw is (filter-replicate p false n x is)

-- numbers of 0 add up to 0
total_by-zeros : {X : Type 0} (f : X → ℤ) (n : ℕ) (x : X) → f x ≡ pos 0 → total_by f (replicate n x) ≡ pos 0
total_by-zeros f zero x none = refl
total_by-zeros f (suc n) x none = omega (arith, ints, none, total_by-zeros f n x none)

-- facts with more behind them
pub count_at-append : (cells : List ℕ) (facts more : List ExtendedFact) (d : ℕ) → count_at cells (facts ++ more) d ≡ count_at cells facts d + count_at cells more d
count_at-append cells facts more d =
    ap (sum_by (λ (f : ExtendedFact). weight_inside cells f.allocation)) (filter-append (λ (f : ExtendedFact). f.allocation.den == d) facts more)
    ∙ sum_by-append (λ (f : ExtendedFact). weight_inside cells f.allocation) (over d facts) (over d more)

pub sum_at-append : (cells : List ℕ) (facts more : List ExtendedFact) (k d : ℕ) → sum_at cells (facts ++ more) k d ≡ sum_at cells facts k d +ℤ sum_at cells more k d
sum_at-append cells facts more k d =
    let part : ExtendedFact → ℤ = λ f. pos (weight_inside cells f.allocation) *ℤ slice_index_or f.values k (pos 0) in
    ap (total_by part) (filter-append (λ (f : ExtendedFact). f.allocation.den == d) facts more) ∙ total_by-append part (over d facts) (over d more)

-- a value of 0 adds nothing, whatever it weighs
no_value : (m : ℕ) → pos m *ℤ pos 0 ≡ pos 0
no_value m = same_in _ _ (omega (arith, product_is (pos m) (pos 0)))

-- what each fact of a change weighs in cells
abbrev pub weight_in : List ℕ → ViewChange → ℕ
weight_in cells change = weight_inside cells (record { den = change.den; rows = change.rows })

module _ (cells : List ℕ) (change : ViewChange) (d : ℕ) where
  -- all of them are over the denominator, or none is
  over-all : (b : Bool) → (change.den == d) ≡ b → over d (change_facts change) ≡ (if b then change_facts change else [])
  over-all true is = rw is (ap (λ fs. change_fact change change.cols ∷ fs) (filter-replicate (λ (f : ExtendedFact). f.allocation.den == d) true (change.facts - 1) (change_fact change (replicate (length change.cols) (pos 0))) is))
  over-all false is = rw is (filter-replicate (λ (f : ExtendedFact). f.allocation.den == d) false (change.facts - 1) (change_fact change (replicate (length change.cols) (pos 0))) is)

  weights : 1 ≤ change.facts → sum_by (λ (f : ExtendedFact). weight_inside cells f.allocation) (change_facts change) ≡ weight_in cells change * change.facts
  weights some =
      let part : ExtendedFact → ℕ = λ f. weight_inside cells f.allocation in
      let others = sum_by-replicate part (change.facts - 1) (change_fact change (replicate (length change.cols) (pos 0))) in
      sum_by-cons part (change_fact change change.cols) (replicate (change.facts - 1) (change_fact change (replicate (length change.cols) (pos 0)))) ∙ ap (λ n. weight_in cells change + n) others ∙ times (weight_in cells change) change.facts (change.facts - 1) (omega (arith, some))
    where
      times : (w n m : ℕ) → n ≡ m + 1 → w + m * w ≡ w * n
      times w n m is = rw is (omega arith)

  pub count_at-change : 1 ≤ change.facts → count_at cells (change_facts change) d ≡ (if d == change.den then weight_in cells change * change.facts else 0)
  count_at-change some = elim (cases_eq d change.den) [
    | inl same ↦
        let there : (change.den == d) ≡ true = grind (arith, nat_tests) in
        let here : (d == change.den) ≡ true = grind (arith, nat_tests) in
        rw here (ap (sum_by (λ (f : ExtendedFact). weight_inside cells f.allocation)) (over-all true there) ∙ weights some)
    | inr other ↦
        let there : (change.den == d) ≡ false = grind (arith, nat_tests) in
        let here : (d == change.den) ≡ false = grind (arith, nat_tests) in
        rw here (ap (sum_by (λ (f : ExtendedFact). weight_inside cells f.allocation)) (over-all false there))
  ]

  totals : (k : ℕ) → total_by (λ (f : ExtendedFact). pos (weight_inside cells f.allocation) *ℤ slice_index_or f.values k (pos 0)) (change_facts change) ≡ pos (weight_in cells change) *ℤ slice_index_or change.cols k (pos 0)
  totals k =
      let part : ExtendedFact → ℤ = λ f. pos (weight_inside cells f.allocation) *ℤ slice_index_or f.values k (pos 0) in
      let zeros : List ℤ = replicate (length change.cols) (pos 0) in
      let none : pos (weight_in cells change) *ℤ slice_index_or zeros k (pos 0) ≡ pos 0 = ap (λ v. pos (weight_in cells change) *ℤ v) (get_or-zeros (length change.cols) k) ∙ no_value (weight_in cells change) in
      omega (arith, ints, total_by-zeros part (change.facts - 1) (change_fact change zeros) none)

  pub sum_at-change : (k : ℕ) → sum_at cells (change_facts change) k d ≡ (if d == change.den then pos (weight_in cells change) *ℤ slice_index_or change.cols k (pos 0) else pos 0)
  sum_at-change k =
      let part : ExtendedFact → ℤ = λ f. pos (weight_inside cells f.allocation) *ℤ slice_index_or f.values k (pos 0) in
      elim (cases_eq d change.den) [
        | inl same ↦
            let there : (change.den == d) ≡ true = grind (arith, nat_tests) in
            let here : (d == change.den) ≡ true = grind (arith, nat_tests) in
            rw here (ap (total_by part) (over-all true there) ∙ totals k)
        | inr other ↦
            let there : (change.den == d) ≡ false = grind (arith, nat_tests) in
            let here : (d == change.den) ≡ false = grind (arith, nat_tests) in
            rw here (ap (total_by part) (over-all false there))
      ]
