-- Entries that are answers of facts stay answers, of the facts after.
use Rattle.std.proofs.Common.{◌≡◌, ℕ, ◌+◌, ◌-◌, ◌<◌, Bool, true, false, List, [], arith, ap, map, max, refl, sym, ◌∙◌, ◌+ℤ◌, unwrap_or}
use Rattle.std.specs.List.{range_with_len}
use Rattle.std.proofs.lemmas.Int.{ints}
use Rattle.cube_model.specs.declared.term.Term.{Term}
use Rattle.cube_model.specs.Allocation.{ExtendedFact}
use Rattle.cube_model.specs.Answer.{answer, bound_of, count_at, count_of, den_bound, merge, numerator_of, sum_at}
use Rattle.cube_model.specs.Cells.{cells_of}
use Rattle.cube_model.specs.Tree.{Dimension}
use Rattle.group_sum.specs.Terms.{AreTerms, TermList}
use Rattle.group_sum.proofs.MergeLaws.{den_bound_below, merge_is_below}
use Rattle.staged_map.specs.Staged.{value_at}
use Rattle.region_algebra.specs.declared.view_def.ViewDef.{ViewDef}
use Rattle.view_store.specs.declared.change.ViewChange.{ViewChange}
use Rattle.view_store.specs.Changes.{IsAfter, facts_put, facts_taken_away}
use Rattle.view_store.specs.Facts.{FollowBy, IsViewOfFacts}
use Rattle.view_store.specs.Views.{ViewMap, entry_at, is_in_view, no_terms, region_at, view_of}
use Rattle.view_store.proofs.Drafting.{AreRegular-terms}
use Rattle.view_store.proofs.Merges.{count_of-merge, numerator_of-merge}
use Rattle.view_store.proofs.Shares.{AreRegular-answer, count_of-answer, numerator_of-answer}

-- nothing merged with an answer is the answer
answer-alone : (columns : ℕ) (dims : List Dimension) (facts : List ExtendedFact) (region : List ℕ) → merge columns (answer columns dims facts region) [] ≡ answer columns dims facts region
unfolding answer
answer-alone columns dims facts region =
    let cells = cells_of dims region in
    merge_is_below columns (answer columns dims facts region) [] (count_at cells facts) (λ d k. sum_at cells facts k d) (bound_of facts)
    (λ d. omega (arith, count_of-answer columns dims facts region d))
    (λ d k lt. omega (arith, ints, numerator_of-answer columns dims facts region d k lt))
    (omega (arith, den_bound_below (count_at cells facts) (λ den. map (λ column. sum_at cells facts column den) (range_with_len 0 columns)) (bound_of facts)))

-- terms of which what is taken away makes the answer before are, with what is given, the answer after
answer-after : (columns : ℕ) (dims : List Dimension) (before gone more after : List ExtendedFact) (region : List ℕ) (rest : TermList) → AreTerms rest → FollowBy before gone more after
    → merge columns rest.terms (answer columns dims gone region) ≡ answer columns dims before region → merge columns rest.terms (answer columns dims more region) ≡ answer columns dims after region
answer-after columns dims before gone more after region rest are follow is =
    let cells = cells_of dims region in
    let regular = AreRegular-terms columns rest are in
    let bound : ℕ = max (max (den_bound rest.terms) (den_bound (answer columns dims more region))) (den_bound (answer columns dims after region)) in
    let less_counts : (d : ℕ) → count_of rest.terms d + count_at cells gone d ≡ count_at cells before d = λ d.
    omega (arith, count_of-merge columns rest.terms (answer columns dims gone region) d, ap (λ (terms : List Term). count_of terms d) is, count_of-answer columns dims gone region d, count_of-answer columns dims before region d) in
    let less_sums : (d k : ℕ) → k < columns → numerator_of rest.terms d (k + 1) +ℤ sum_at cells gone k d ≡ sum_at cells before k d = λ d k lt.
    omega (
      arith,
      ints,
      numerator_of-merge columns rest.terms (answer columns dims gone region) regular (AreRegular-answer columns dims gone region) d k lt,
      ap (λ (terms : List Term). numerator_of terms d (k + 1)) is,
      numerator_of-answer columns dims gone region d k lt,
      numerator_of-answer columns dims before region d k lt,
    ) in
    merge_is_below columns rest.terms (answer columns dims more region) (count_at cells after) (λ d k. sum_at cells after k d) bound
    (λ d. omega (arith, less_counts d, follow.counts cells d, count_of-answer columns dims more region d))
    (λ d k lt. omega (arith, ints, less_sums d k lt, follow.sums cells k d, numerator_of-answer columns dims more region d k lt))
    (omega arith)
    ∙ sym (merge_is_below columns (answer columns dims after region) [] (count_at cells after) (λ d k. sum_at cells after k d) bound
    (λ d. omega (arith, count_of-answer columns dims after region d))
    (λ d k lt. omega (arith, ints, numerator_of-answer columns dims after region d k lt))
    (omega arith))
    ∙ answer-alone columns dims after region

-- facts that add up to as much in a region have the same answer there
pub answers-alike : (columns : ℕ) (dims : List Dimension) (facts others : List ExtendedFact) (region : List ℕ) → ((d : ℕ) → count_at (cells_of dims region) facts d ≡ count_at (cells_of dims region) others d)
    → ((d k : ℕ) → k < columns → sum_at (cells_of dims region) facts k d ≡ sum_at (cells_of dims region) others k d) → answer columns dims facts region ≡ answer columns dims others region
answers-alike columns dims facts others region counts sums =
    let cells = cells_of dims region in
    let bound : ℕ = max (den_bound (answer columns dims facts region)) (den_bound (answer columns dims others region)) in
    sym (answer-alone columns dims facts region)
    ∙ merge_is_below columns (answer columns dims facts region) [] (count_at cells others) (λ d k. sum_at cells others k d) bound
    (λ d. omega (arith, count_of-answer columns dims facts region d, counts d))
    (λ d k lt. omega (arith, ints, numerator_of-answer columns dims facts region d k lt, sums d k lt))
    (omega arith)
    ∙ sym (merge_is_below columns (answer columns dims others region) [] (count_at cells others) (λ d k. sum_at cells others k d) bound
    (λ d. omega (arith, count_of-answer columns dims others region d))
    (λ d k lt. omega (arith, ints, numerator_of-answer columns dims others region d k lt))
    (omega arith))
    ∙ answer-alone columns dims others region

-- a view without entries
pub view-of_none : (dims : List Dimension) (columns : ℕ) (def : ViewDef) → IsViewOfFacts dims [] (view_of columns def)
unfolding answer
view-of_none dims columns def = record {
  columns = λ code. refl;
  answers = λ code in_view. refl;
  others = λ code outside. refl;
}

module _ (dims : List Dimension) (changes : List ViewChange) (old new : ViewMap) (before after : List ExtendedFact) (installed : IsAfter dims changes old new) (was : IsViewOfFacts dims before old) (follow : FollowBy before (facts_taken_away changes) (facts_put changes) after) where
  kept-entry : (code : ℕ) → is_in_view dims old.depths code ≡ false → entry_at new code ≡ entry_at old code
  kept-entry code outside = ap (λ o. unwrap_or o (no_terms new.columns)) (installed.kept code outside) ∙ ap (λ n. unwrap_or (value_at old.entries code) (no_terms n)) installed.columns

  made-answer : (code : ℕ) → is_in_view dims old.depths code ≡ true → (entry_at new code).terms ≡ answer (old.columns - 1) dims after (region_at dims code)
  made-answer code in_view =
      let made = installed.made code in_view in
      let cols = was.columns code in
      let region = region_at dims code in
      let rest_columns : made.rest.columns ≡ old.columns = made.taken_away.columns ∙ cols in
      let less : merge (old.columns - 1) made.rest.terms (answer (old.columns - 1) dims (facts_taken_away changes) region) ≡ answer (old.columns - 1) dims before region =
      ap (λ n. merge (n - 1) made.rest.terms (answer (old.columns - 1) dims (facts_taken_away changes) region)) (sym cols) ∙ made.taken_away.merges ∙ was.answers code in_view in
      made.put ∙ ap (λ n. merge (n - 1) made.rest.terms (answer (old.columns - 1) dims (facts_put changes) region)) rest_columns
      ∙ answer-after (old.columns - 1) dims before (facts_taken_away changes) (facts_put changes) after region made.rest made.are_terms follow less

  by-cuts : {P : Type 0} (code : ℕ) → (is_in_view dims old.depths code ≡ true → P) → (is_in_view dims old.depths code ≡ false → P) → P
  by-cuts {P} code inside outside = by (is_in_view dims old.depths code) refl
    where
      by : (b : Bool) → is_in_view dims old.depths code ≡ b → P
      by true is = inside is
      by false is = outside is

  pub view-after : IsViewOfFacts dims after new
  view-after = record {
    columns = λ code. by-cuts code
        (λ in_view. (installed.made code in_view).columns ∙ was.columns code ∙ sym installed.columns)
        (λ outside. ap (λ (t : TermList). t.columns) (kept-entry code outside) ∙ was.columns code ∙ sym installed.columns);
    answers = λ code in_view.
        let same : is_in_view dims old.depths code ≡ true = ap (λ depths. is_in_view dims depths code) (sym installed.depths) ∙ in_view in
        made-answer code same ∙ ap (λ n. answer (n - 1) dims after (region_at dims code)) (sym installed.columns);
    others = λ code outside.
        let same : is_in_view dims old.depths code ≡ false = ap (λ depths. is_in_view dims depths code) (sym installed.depths) ∙ outside in
        ap (λ (t : TermList). t.terms) (kept-entry code same) ∙ was.others code same;
  }
