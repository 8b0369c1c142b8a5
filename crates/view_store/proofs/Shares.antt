-- What facts add up to, one more at a time, and the terms that they make.
use Rattle.std.proofs.Common.{◌≡◌, ℕ, suc, ◌+◌, ◌*◌, ◌-◌, ◌<◌, ◌≤◌, Bool, true, false, List, [], ◌∷◌, ◌++◌, length, map, refl, ap, sym, ◌∙◌, inl, inr, arith, ℤ, pos, negsuc, ◌+ℤ◌, ◌*ℤ◌, nat_abs, take, mul-le-mul_right}
use Rattle.std.specs.Prelude.{if◌then◌else◌, slice_index_or, ◌==◌}
use Rattle.std.specs.List.{range_with_len, sum_by}
use Rattle.std.proofs.lemmas.Bool.{cases_eq}
use Rattle.std.proofs.lemmas.Bool.Decides.{nat_tests}
use Rattle.std.proofs.lemmas.Int.{ints}
use Rattle.std.proofs.lemmas.List.FromFn.{get_or-map-range_with_len, length-map-range_with_len}
use Rattle.std.proofs.lemmas.List.Sums.{sum_by-cons}
use borrow.Author.Differences.{product_is, same_in, sum_is_lem}
use Rattle.cube_model.specs.declared.term.Term.{Term}
use Rattle.cube_model.specs.Allocation.{ExtendedFact}
use Rattle.cube_model.specs.Answer.{answer, bound_of, count_at, count_of, merge, numerator_of, over, sum_at, terms_below, total_by, weight_inside}
use Rattle.cube_model.specs.Cells.{cells_of}
use Rattle.cube_model.specs.Limits.{WIDE}
use Rattle.cube_model.specs.Tree.{Dimension}
use Rattle.group_sum.specs.Terms.{AddsUnits, FitsUnits, TermList}
use Rattle.group_sum.proofs.Determined.{terms_determined}
use Rattle.group_sum.proofs.Merged.{is_merge}
use Rattle.group_sum.proofs.MergeLaws.{count_of_below, numerator_of_below}
use Rattle.view_store.specs.declared.change.ViewChange.{ViewChange}
use Rattle.view_store.specs.Changes.{IsChange, IsWithinWide, change_facts, shares}
use Rattle.view_store.specs.Drafts.{AddsChange, FitsChange, FitsShares, HasShares, facts_of_kind, weight_at}
use Rattle.view_store.specs.Views.{IsOver, no_terms, region_at}
use Rattle.view_store.proofs.ChangeFacts.{count_at-append, count_at-change, sum_at-append, sum_at-change}
use Rattle.view_store.proofs.Merges.{AreRegular}

-- a weight of 0 adds nothing
pub no_product : (x : ℤ) → pos 0 *ℤ x ≡ pos 0
no_product x = same_in _ _ (omega (arith, product_is (pos 0) x))

-- the products of two weights with a value are that of both
pub sum-product : (m n : ℕ) (x : ℤ) → pos m *ℤ x +ℤ pos n *ℤ x ≡ pos (m + n) *ℤ x
sum-product m n x = same_in _ _ (omega (arith, product_is (pos m) x, product_is (pos n) x, product_is (pos (m + n)) x, sum_is_lem (pos m *ℤ x) (pos n *ℤ x)))

-- where no weight is inside, no sum is
sum_at-none : (cells : List ℕ) (k : ℕ) (facts : List ExtendedFact) → sum_by (λ e. weight_inside cells e.allocation) facts ≡ 0
    → total_by (λ e. pos (weight_inside cells e.allocation) *ℤ slice_index_or e.values k (pos 0)) facts ≡ pos 0
sum_at-none cells k [] none = refl
sum_at-none cells k (e ∷ facts) none =
    let whole = sum_by-cons (λ (f : ExtendedFact). weight_inside cells f.allocation) e facts in
    let nothing : weight_inside cells e.allocation ≡ 0 = omega (arith, whole, none) in
    let here : pos (weight_inside cells e.allocation) *ℤ slice_index_or e.values k (pos 0) ≡ pos 0 = ap (λ n. pos n *ℤ slice_index_or e.values k (pos 0)) nothing ∙ no_product (slice_index_or e.values k (pos 0)) in
    omega (arith, ints, here, sum_at-none cells k facts (omega (arith, whole, none)))

-- no fact has a denominator from the bound on
pub over-beyond : (facts : List ExtendedFact) (d : ℕ) → bound_of facts ≤ d → over d facts ≡ []
over-beyond [] d le = refl
over-beyond (e ∷ facts) d le =
    let other : (e.allocation.den == d) ≡ false = grind (arith, nat_tests) in
    rw other (over-beyond facts d (omega arith))

-- the numerators of an answer
module _ (columns : ℕ) (dims : List Dimension) (facts : List ExtendedFact) (region : List ℕ) where
  pub count_of-answer : (d : ℕ) → count_of (answer columns dims facts region) d ≡ count_at (cells_of dims region) facts d
  unfolding answer
  count_of-answer d =
      count_of_below (count_at (cells_of dims region) facts) (λ den. map (λ column. sum_at (cells_of dims region) facts column den) (range_with_len 0 columns)) (bound_of facts)
      (λ den le. ap (sum_by (λ (e : ExtendedFact). weight_inside (cells_of dims region) e.allocation)) (over-beyond facts den le)) d

  pub numerator_of-answer : (d k : ℕ) → k < columns → numerator_of (answer columns dims facts region) d (k + 1) ≡ sum_at (cells_of dims region) facts k d
  unfolding answer
  numerator_of-answer d k within =
      let read = get_or-map-range_with_len (λ column. sum_at (cells_of dims region) facts column d) 0 columns k k (pos 0) within (omega arith) in
      numerator_of_below (count_at (cells_of dims region) facts) (λ den. map (λ column. sum_at (cells_of dims region) facts column den) (range_with_len 0 columns)) (bound_of facts)
      (λ den le. ap (sum_by (λ (e : ExtendedFact). weight_inside (cells_of dims region) e.allocation)) (over-beyond facts den le)) d k
      (λ none. read ∙ sum_at-none (cells_of dims region) k (over d facts) none) ∙ read

pub AreRegular-answer : (columns : ℕ) (dims : List Dimension) (facts : List ExtendedFact) (region : List ℕ) → AreRegular columns (answer columns dims facts region)
AreRegular-answer columns dims facts region = record {
  zeros = λ d k lt none.
      numerator_of-answer columns dims facts region d k lt ∙ sum_at-none (cells_of dims region) k (over d facts) (sym (count_of-answer columns dims facts region d) ∙ none);
}

-- with what no facts add up to, terms are as they were
pub HasShares-none : (columns : ℕ) (dims : List Dimension) (code : ℕ) (old : TermList) → HasShares columns dims [] code old old
HasShares-none columns dims code old = record { counts = λ d. omega arith; sums = λ d k lt. omega (arith, ints) }

-- the facts of one change more
module _ (dims : List Dimension) (facts : List ExtendedFact) (change : ViewChange) (code : ℕ) (some : 1 ≤ change.facts) where
  counts-more : (d : ℕ) → count_at (cells_of dims (region_at dims code)) (facts ++ change_facts change) d
      ≡ count_at (cells_of dims (region_at dims code)) facts d + (if d == change.den then weight_at dims change code * change.facts else 0)
  counts-more d =
      let cells = cells_of dims (region_at dims code) in
      count_at-append cells facts (change_facts change) d ∙ ap (λ n. count_at cells facts d + n) (count_at-change cells change d some)

  sums-more : (k d : ℕ) → sum_at (cells_of dims (region_at dims code)) (facts ++ change_facts change) k d
      ≡ sum_at (cells_of dims (region_at dims code)) facts k d +ℤ (if d == change.den then pos (weight_at dims change code) *ℤ slice_index_or change.cols k (pos 0) else pos 0)
  sums-more k d =
      let cells = cells_of dims (region_at dims code) in
      sum_at-append cells facts (change_facts change) k d ∙ ap (λ n. sum_at cells facts k d +ℤ n) (sum_at-change cells change d k)

-- with the share of a change more
pub HasShares-next : (columns : ℕ) (dims : List Dimension) (facts : List ExtendedFact) (change : ViewChange) (code : ℕ) (old now new : TermList) → IsChange dims columns change → HasShares columns dims facts code old now
    → AddsChange dims change code now new → HasShares columns dims (facts ++ change_facts change) code old new
HasShares-next columns dims facts change code old now new is before adds = record {
  counts = λ d. omega (arith, before.counts d, adds.counts d, counts-more dims facts change code is.facts d);
  sums = λ d k lt. omega (arith, ints, before.sums d k lt, adds.sums d k (omega (arith, is.width)), sums-more dims facts change code is.facts k d);
}

-- Terms to which facts were added are those terms and the answer of the facts, merged.
module _ (columns : ℕ) (dims : List Dimension) (facts : List ExtendedFact) (code : ℕ) (old new : TermList) where
  pub HasShares-merge : IsOver columns new → HasShares columns dims facts code old new → new.terms ≡ merge (columns - 1) old.terms (shares columns dims facts code).terms
  HasShares-merge over has =
      let wide : 1 ≤ columns = omega (arith, over.columns_are, over.are_terms.some) in
      let cols = over.columns_are in
      is_merge columns old.terms (shares columns dims facts code).terms new.terms wide (rw cols at over.are_terms.terms) (record {
        columns = refl;
        counts = λ d. omega (arith, has.counts d, count_of-answer (columns - 1) dims facts (region_at dims code) d);
        sums = λ d k lt. omega (arith, ints, has.sums d k lt, numerator_of-answer (columns - 1) dims facts (region_at dims code) d k (omega arith));
      })

-- from none, they are the answer of the facts
pub HasShares-answer : (columns : ℕ) (dims : List Dimension) (facts : List ExtendedFact) (code : ℕ) (new : TermList) → IsOver columns new → HasShares columns dims facts code (no_terms columns) new → new ≡ shares columns dims facts code
unfolding answer
HasShares-answer columns dims facts code new over has =
    let cells = cells_of dims (region_at dims code) in
    let wide : 1 ≤ columns = omega (arith, over.columns_are, over.are_terms.some) in
    let sums : ℕ → List ℤ = λ den. map (λ column. sum_at cells facts column den) (range_with_len 0 (columns - 1)) in
    let cols = over.columns_are in
    let terms : new.terms ≡ terms_below (count_at cells facts) sums (bound_of facts) =
    terms_determined columns new.terms (count_at cells facts) sums (bound_of facts) (rw cols at over.are_terms.terms)
    (λ d. omega (arith, has.counts d))
    (λ d. omega (arith, length-map-range_with_len (λ column. sum_at cells facts column d) 0 (columns - 1)))
    (λ d k lt.
    let read = get_or-map-range_with_len (λ column. sum_at cells facts column d) 0 (columns - 1) k k (pos 0) (omega arith) (omega arith) in
    omega (arith, ints, has.sums d k lt, read))
    (λ d le. ap (sum_by (λ (e : ExtendedFact). weight_inside cells e.allocation)) (over-beyond facts d le)) in
    same_list columns new (terms_below (count_at cells facts) sums (bound_of facts)) cols terms
  where
    same_list : (columns : ℕ) (list : TermList) (terms : List Term) → list.columns ≡ columns → list.terms ≡ terms → list ≡ record { columns = columns; terms = terms }
    same_list columns list terms cols is = grind (arith, cols, is)

-- A number with a part of what is added to it is within a limit where it is without it and with all of it.
within-part : (s v : ℤ) (part whole limit : ℕ) → part ≤ whole → nat_abs s ≤ limit → nat_abs (s +ℤ pos whole *ℤ v) ≤ limit → nat_abs (s +ℤ pos part *ℤ v) ≤ limit
within-part s (pos n) part whole limit le before after = omega (arith, ints, mul-le-mul_right n le)
within-part s (negsuc n) part whole limit le before after = omega (arith, ints, product_is (pos part) (negsuc n), product_is (pos whole) (negsuc n), mul-le-mul_right (suc n) le)

-- where what all first changes make fits, the next change fits what those before it have made
pub FitsShares-change : (columns : ℕ) (dims : List Dimension) (put : Bool) (changes : List ViewChange) (n : ℕ) (change : ViewChange) (code : ℕ) (old now : TermList) → IsChange dims columns change
    → facts_of_kind put (take (n + 1) changes) ≡ facts_of_kind put (take n changes) ++ change_facts change → FitsShares columns dims put changes code old → HasShares columns dims (facts_of_kind put (take n changes)) code old now
    → FitsChange columns dims change code now
FitsShares-change columns dims put changes n change code old now is next fits has =
    let den = change.den in
    let facts = facts_of_kind put (take n changes) in
    let same : (den == den) ≡ true = grind (arith, nat_tests) in
    record {
      held = record {
        counts = λ d. omega (arith, has.counts d, fits.counts n d);
        sums = λ d k lt. rw (has.sums d k lt) (fits.sums n d k lt);
      };
      share = record {
        count =
            let more = rw same at (counts-more dims facts change code is.facts den) in
            omega (arith, has.counts den, rw next at (fits.counts (n + 1) den), more);
        sums = λ k lt.
            let more = rw same at (sums-more dims facts change code is.facts k den) in
            let bound = rw next at (fits.sums (n + 1) den k (omega (arith, is.width))) in
            omega (arith, ints, has.sums den k (omega (arith, is.width)), bound, more);
      };
    }

-- of facts whose share is being added, row by row
module _ (columns : ℕ) (den facts : ℕ) (values : List ℤ) (old now : TermList) where
  -- the share of a row fits, where that of all rows does
  pub FitsUnits-part : (before weight whole : ℕ) → length values + 1 ≡ columns → before + weight ≤ whole → IsWithinWide columns old.terms → FitsUnits old.terms den (whole * facts) whole values
      → AddsUnits old now den (before * facts) before values → FitsUnits now.terms den (weight * facts) weight values
  FitsUnits-part before weight whole width le within fits adds =
      let same : (den == den) ≡ true = grind (arith, nat_tests) in
      record {
        count = omega (arith, fits.count, rw same at (adds.counts den), mul-le-mul_right facts le);
        sums = λ k lt.
            let so_far = rw same at (adds.sums den k lt) in
            let v = slice_index_or values k (pos 0) in
            let both : pos before *ℤ v +ℤ pos weight *ℤ v ≡ pos (before + weight) *ℤ v = sum-product before weight v in
            let bound = within-part (numerator_of old.terms den (k + 1)) v (before + weight) whole WIDE le (within.sums den k (omega arith)) (fits.sums k lt) in
            omega (arith, ints, so_far, both, bound);
      }

  -- and the shares of the rows so far and of the next are the share of all these
  pub AddsUnits-more : (new : TermList) (before weight : ℕ) → AddsUnits old now den (before * facts) before values → AddsUnits now new den (weight * facts) weight values
      → AddsUnits old new den ((before + weight) * facts) (before + weight) values
  AddsUnits-more new before weight adds more = record {
    columns = more.columns ∙ adds.columns;
    counts = λ d. elim (cases_eq d den) [
      | inl same ↦ let test : (d == den) ≡ true = grind (arith, nat_tests) in rw test (omega (arith, rw test at (adds.counts d), rw test at (more.counts d)))
      | inr other ↦ let test : (d == den) ≡ false = grind (arith, nat_tests) in rw test (omega (arith, rw test at (adds.counts d), rw test at (more.counts d)))
    ];
    sums = λ d k lt.
        let v = slice_index_or values k (pos 0) in
        let both : pos before *ℤ v +ℤ pos weight *ℤ v ≡ pos (before + weight) *ℤ v = sum-product before weight v in
        elim (cases_eq d den) [
          | inl same ↦ let test : (d == den) ≡ true = grind (arith, nat_tests) in rw test (omega (arith, ints, both, rw test at (adds.sums d k lt), rw test at (more.sums d k lt)))
          | inr other ↦ let test : (d == den) ≡ false = grind (arith, nat_tests) in rw test (omega (arith, ints, rw test at (adds.sums d k lt), rw test at (more.sums d k lt)))
        ];
  }

-- no share changes nothing
pub AddsUnits-none : (den units : ℕ) (values : List ℤ) (list : TermList) → units ≡ 0 → AddsUnits list list den units 0 values
AddsUnits-none den units values list nothing = record {
  columns = refl;
  counts = λ d. elim (cases_eq d den) [
    | inl same ↦ let test : (d == den) ≡ true = grind (arith, nat_tests) in rw test (omega (arith, nothing))
    | inr other ↦ let test : (d == den) ≡ false = grind (arith, nat_tests) in rw test (omega arith)
  ];
  sums = λ d k lt.
      let none = no_product (slice_index_or values k (pos 0)) in
      elim (cases_eq d den) [
        | inl same ↦ let test : (d == den) ≡ true = grind (arith, nat_tests) in rw test (omega (arith, ints, none))
        | inr other ↦ let test : (d == den) ≡ false = grind (arith, nat_tests) in rw test (omega (arith, ints))
      ];
}
