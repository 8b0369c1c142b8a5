-- Entries of views can be changed where what is taken away is part of the facts, and there are few facts before and after.
use Rattle.std.proofs.Common.{◌≡◌, ℕ, ◌+◌, ◌*◌, ◌-◌, ◌<◌, ◌≤◌, true, List, [], ◌∷◌, take, ap, sym, ◌∙◌, subst, inl, inr, arith, ℤ, ◌+ℤ◌}
use Rattle.std.specs.Prelude.{All, nat_abs, ◌-ℤ◌}
use Rattle.std.specs.List.{flat_map}
use Rattle.std.proofs.lemmas.Int.{ints}
use Rattle.std.proofs.lemmas.List.Elements.{All-cons, All-head, All-nil, All-tail, All-weaker}
use Rattle.cube_model.specs.declared.term.Term.{Term}
use Rattle.cube_model.specs.Allocation.{ExtendedFact}
use Rattle.cube_model.specs.Answer.{answer, count_at, count_of, merge, numerator_of, sum_at}
use Rattle.cube_model.specs.Cells.{AreRows, cells_of, is_among}
use Rattle.cube_model.specs.Limits.{MAX_FACTS, MAX_VALUE, WIDE}
use Rattle.cube_model.specs.Tree.{Dimension}
use Rattle.region_algebra.specs.Space.{IsRegion}
use Rattle.group_sum.specs.Merge.{Differs, FitsDifference, HasDifference, IsDifference}
use Rattle.group_sum.specs.Terms.{AreTerms, TermList}
use Rattle.fact_groups.specs.Groups.{Group, count_in, group_facts, sum_in}
use Rattle.fact_groups.proofs.AsFacts.{count-as_facts, sum-as_facts}
use Rattle.view_store.specs.declared.change.ViewChange.{ViewChange}
use Rattle.view_store.specs.Changes.{CanChange, FitsView, IsChange, IsWithinWide, facts_put, facts_taken_away, shares, together}
use Rattle.view_store.specs.Facts.{IsViewOfFacts}
use Rattle.view_store.specs.Views.{ViewMap, entry_at, region_at}
use Rattle.view_store.proofs.Drafting.{AreRegular-terms}
use Rattle.view_store.proofs.Merges.{count_of-merge, numerator_of-merge}
use Rattle.view_store.proofs.Shares.{AreRegular-answer, count_of-answer, numerator_of-answer}
use Rattle.fact_indexes.proofs.ChangeGroups.{All-first, All-that, facts_put-groups, facts_taken_away-groups, group_of, groups_that, members-take, puts, takes_away}
use Rattle.fact_indexes.proofs.Modest.{AreModest, IsModest, count-within, members, modest-groups, sum-within}

-- a modest group of a region, whose rows are of cells there
pub record IsPlaced (dims : List Dimension) (width : ℕ) (region : List ℕ) (g : Group) : Type 0 where
  pub modest : IsModest width g
  pub cells : AreRows dims g.spread.rows
  pub named : IsRegion dims region
  pub inside : All (λ row. is_among (cells_of dims region) row.0 ≡ true) g.spread.rows

-- Facts are those of the groups that changes take away and of the others, and they are few, as are those that changes put with
-- the others.
pub record StandFor (dims : List Dimension) (width : ℕ) (rows : List ExtendedFact) (changes : List ViewChange) (others : List Group) : Type 0 where
  pub each : All (λ change. IsPlaced dims width change.region (group_of change)) changes
  pub stay : All (IsModest width) others
  pub counts : (cells : List ℕ) (d : ℕ) → count_at cells rows d ≡ count_in cells (groups_that takes_away changes) d + count_in cells others d
  pub sums : (cells : List ℕ) (k d : ℕ) → k < width → sum_at cells rows k d ≡ sum_in cells (groups_that takes_away changes) k d +ℤ sum_in cells others k d
  pub few_before : members (groups_that takes_away changes) + members others ≤ MAX_FACTS
  pub few_after : members (groups_that puts changes) + members others ≤ MAX_FACTS

-- numerators of few facts, added up
modest-both : (m n : ℕ) (c e : ℕ → ℕ) (s t : ℕ → ℕ → ℤ) → AreModest m c s → AreModest n e t → AreModest (m + n) (λ d. c d + e d) (λ k d. s k d +ℤ t k d)
modest-both m n c e s t first second = record {
  counts = λ d. omega (arith, first.counts d, second.counts d);
  sums = λ k d. added (s k d) (t k d) (c d) (e d) (first.sums k d) (second.sums k d);
  limit = λ d most. omega (arith, first.limit d most, second.limit d most);
}
  where
    added : (a b : ℤ) (x y : ℕ) → nat_abs a ≤ MAX_VALUE * x → nat_abs b ≤ MAX_VALUE * y → nat_abs (a +ℤ b) ≤ MAX_VALUE * (x + y)
    added a b x y one two = omega (arith, ints, one, two)

-- the shares of groups at an entry
module _ (width : ℕ) (dims : List Dimension) (code columns : ℕ) (facts : List ExtendedFact) (groups : List Group) (same : facts ≡ flat_map group_facts groups) (each : All (IsModest width) groups) where
  share-count : (d : ℕ) → count_of (shares columns dims facts code).terms d ≡ count_in (cells_of dims (region_at dims code)) groups d
  share-count d =
      let cells = cells_of dims (region_at dims code) in
      count_of-answer (columns - 1) dims facts (region_at dims code) d
      ∙ ap (λ (es : List ExtendedFact). count_at cells es d) same
      ∙ count-as_facts cells d groups (All-weaker (IsModest width) (λ g. 1 ≤ g.count) (λ g one. one.some) groups each)

  share-sum : (d k : ℕ) → k + 1 < columns → numerator_of (shares columns dims facts code).terms d (k + 1) ≡ sum_in (cells_of dims (region_at dims code)) groups k d
  share-sum d k lt =
      let cells = cells_of dims (region_at dims code) in
      numerator_of-answer (columns - 1) dims facts (region_at dims code) d k (omega (arith, lt)) ∙ ap (λ (es : List ExtendedFact). sum_at cells es k d) same ∙ sum-as_facts cells k d groups

  share-within : members groups ≤ MAX_FACTS → IsWithinWide columns (shares columns dims facts code).terms
  share-within few =
      let cells = cells_of dims (region_at dims code) in
      let modest = modest-groups width cells groups each in
      record {
        counts = λ d. omega (arith, share-count d, count-within (members groups) (count_in cells groups) (sum_in cells groups) modest few d);
        sums = λ d k lt. omega (arith, ap nat_abs (share-sum d k lt), sum-within (members groups) (count_in cells groups) (sum_in cells groups) modest few k d);
      }

-- a number without part of it
rest-within : (whole part rest : ℤ) (limit : ℕ) → whole ≡ part +ℤ rest → nat_abs rest ≤ limit → nat_abs (whole -ℤ part) ≤ limit
rest-within whole part rest limit is le = omega (arith, ints, is, le)

rest-none : (whole part rest : ℤ) (n : ℕ) → whole ≡ part +ℤ rest → nat_abs rest ≤ MAX_VALUE * n → n ≡ 0 → whole ≡ part
rest-none whole part rest n is le none = omega (arith, ints, is, le, none)

rest-is : (whole part rest left : ℤ) → whole ≡ part +ℤ rest → left +ℤ part ≡ whole → left ≡ rest
rest-is whole part rest left is merged = omega (arith, ints, is, merged)

module _ (dims : List Dimension) (width : ℕ) (rows : List ExtendedFact) (changes : List ViewChange) (others : List Group) (stand : StandFor dims width rows changes others) where
  modest-each : All (λ change. IsModest width (group_of change)) changes
  modest-each = All-weaker (λ change. IsPlaced dims width change.region (group_of change)) (λ change. IsModest width (group_of change)) (λ change one. one.modest) changes stand.each

  -- an entry that has what the facts add up to
  module _ (old : TermList) (code : ℕ) (wide : old.columns ≡ width + 1) (is : old.terms ≡ answer (old.columns - 1) dims rows (region_at dims code)) where
    abbrev cells : List ℕ
    cells = cells_of dims (region_at dims code)

    abbrev gone : List Group
    gone = groups_that takes_away changes

    abbrev part : TermList
    part = shares old.columns dims (facts_taken_away changes) code

    part-count : (d : ℕ) → count_of part.terms d ≡ count_in cells gone d
    part-count d = share-count width dims code old.columns (facts_taken_away changes) gone (facts_taken_away-groups changes) (All-that takes_away (IsModest width) changes modest-each) d

    part-sum : (d k : ℕ) → k + 1 < old.columns → numerator_of part.terms d (k + 1) ≡ sum_in cells gone k d
    part-sum d k lt = share-sum width dims code old.columns (facts_taken_away changes) gone (facts_taken_away-groups changes) (All-that takes_away (IsModest width) changes modest-each) d k lt

    whole-count : (d : ℕ) → count_of old.terms d ≡ count_of part.terms d + count_in cells others d
    whole-count d =
        omega (arith, ap (λ (terms : List Term). count_of terms d) is, count_of-answer (old.columns - 1) dims rows (region_at dims code) d, stand.counts cells d, part-count d)

    whole-sum : (d k : ℕ) → k + 1 < old.columns → numerator_of old.terms d (k + 1) ≡ numerator_of part.terms d (k + 1) +ℤ sum_in cells others k d
    whole-sum d k lt =
        ap (λ (terms : List Term). numerator_of terms d (k + 1)) is
        ∙ numerator_of-answer (old.columns - 1) dims rows (region_at dims code) d k (omega (arith, lt))
        ∙ stand.sums cells k d (omega (arith, lt, wide))
        ∙ ap (λ z. z +ℤ sum_in cells others k d) (sym (part-sum d k lt))

    modest : AreModest (members others) (count_in cells others) (sum_in cells others)
    modest = modest-groups width cells others stand.stay

    few : members others ≤ MAX_FACTS
    few = omega (arith, stand.few_before)

    -- what is taken away is there
    same-there : (d : ℕ) → count_of old.terms d ≡ count_of part.terms d → Differs old part d → ⊥
    same-there d same differs =
        let k = differs.0 in
        let none : count_in cells others d ≡ 0 = omega (arith, same, whole-count d) in
        differs.2 (rest-none (numerator_of old.terms d (k + 1)) (numerator_of part.terms d (k + 1)) (sum_in cells others k d) (count_in cells others d) (whole-sum d k differs.1) (modest.sums k d) none)

    is-there : HasDifference old part
    is-there d bad = elim bad [ inl less ↦ omega (arith, less, whole-count d) | inr same ↦ same-there d same.0 same.1 ]

    left-within : FitsDifference old part
    left-within = record {
      sums = λ d k lt.
          rest-within (numerator_of old.terms d (k + 1)) (numerator_of part.terms d (k + 1)) (sum_in cells others k d) WIDE (whole-sum d k lt)
          (sum-within (members others) (count_in cells others) (sum_in cells others) modest few k d);
    }

    -- nor does what is put pass the limit
    module _ (left : TermList) (are : AreTerms left) (difference : IsDifference old part left) (n : ℕ) where
      abbrev added : List Group
      added = groups_that puts (take n changes)

      abbrev more : TermList
      more = shares old.columns dims (facts_put (take n changes)) code

      added-modest : All (IsModest width) added
      added-modest = All-first puts (IsModest width) n changes modest-each

      left-count : (d : ℕ) → count_of left.terms d ≡ count_in cells others d
      left-count d = omega (arith, count_of-merge (old.columns - 1) left.terms part.terms d, ap (λ (terms : List Term). count_of terms d) difference.merges, whole-count d)

      left-sum : (d k : ℕ) → k + 1 < old.columns → numerator_of left.terms d (k + 1) ≡ sum_in cells others k d
      left-sum d k lt =
          let merged = numerator_of-merge (old.columns - 1) left.terms part.terms (AreRegular-terms (old.columns - 1) left are) (AreRegular-answer (old.columns - 1) dims (facts_taken_away changes) (region_at dims code)) d k (omega (arith, lt)) in
          rest-is (numerator_of old.terms d (k + 1)) (numerator_of part.terms d (k + 1)) (sum_in cells others k d) (numerator_of left.terms d (k + 1)) (whole-sum d k lt)
          (sym merged ∙ ap (λ (terms : List Term). numerator_of terms d (k + 1)) difference.merges)

      both-modest : AreModest (members others + members added) (λ d. count_in cells others d + count_in cells added d) (λ k d. sum_in cells others k d +ℤ sum_in cells added k d)
      both-modest = modest-both (members others) (members added) (count_in cells others) (count_in cells added) (sum_in cells others) (sum_in cells added) modest (modest-groups width cells added added-modest)

      both-few : members others + members added ≤ MAX_FACTS
      both-few = omega (arith, stand.few_after, members-take puts n changes)

      more-count : (d : ℕ) → count_of more.terms d ≡ count_in cells added d
      more-count d = share-count width dims code old.columns (facts_put (take n changes)) added (facts_put-groups (take n changes)) added-modest d

      more-sum : (d k : ℕ) → k + 1 < old.columns → numerator_of more.terms d (k + 1) ≡ sum_in cells added k d
      more-sum d k lt = share-sum width dims code old.columns (facts_put (take n changes)) added (facts_put-groups (take n changes)) added-modest d k lt

      merged-within : IsWithinWide old.columns (merge (old.columns - 1) left.terms more.terms)
      merged-within = record {
        counts = λ d.
            let most = count-within (members others + members added) (λ d. count_in cells others d + count_in cells added d) (λ k d. sum_in cells others k d +ℤ sum_in cells added k d) both-modest both-few d in
            omega (arith, count_of-merge (old.columns - 1) left.terms more.terms d, left-count d, more-count d, most);
        sums = λ d k lt.
            let most = sum-within (members others + members added) (λ d. count_in cells others d + count_in cells added d) (λ k d. sum_in cells others k d +ℤ sum_in cells added k d) both-modest both-few k d in
            let regular = AreRegular-answer (old.columns - 1) dims (facts_put (take n changes)) (region_at dims code) in
            let merged = numerator_of-merge (old.columns - 1) left.terms more.terms (AreRegular-terms (old.columns - 1) left are) regular d k (omega (arith, lt)) in
            let whole = merged ∙ ap (λ z. z +ℤ numerator_of more.terms d (k + 1)) (left-sum d k lt) ∙ ap (λ z. sum_in cells others k d +ℤ z) (more-sum d k lt) in
            omega (arith, ap nat_abs whole, most);
      }

      put-within : IsWithinWide old.columns (together left more)
      put-within = subst (λ (c : ℕ). IsWithinWide old.columns (merge (c - 1) left.terms more.terms)) (sym difference.columns) merged-within

    can-change : CanChange dims changes old code
    can-change = record {
      taken_within = λ n.
          share-within width dims code old.columns (facts_taken_away (take n changes)) (groups_that takes_away (take n changes)) (facts_taken_away-groups (take n changes)) (All-first takes_away (IsModest width) n changes modest-each)
          (omega (arith, members-take takes_away n changes, stand.few_before));
      there = is-there;
      left_within = left-within;
      put_within = put-within;
    }

  -- so each view of the facts can be changed
  fits-view : (view : ViewMap) → IsViewOfFacts dims rows view → view.columns ≡ width + 1 → FitsView dims changes view
  fits-view view of wide = record {
    changes_fit =
        All-weaker (λ change. IsPlaced dims width change.region (group_of change)) (IsChange dims view.columns) (λ change one. record {
          facts = one.modest.some;
          den = one.modest.spread_is.some;
          width = omega (arith, one.modest.width, wide);
          cells = one.cells;
          region = one.named;
          inside = one.inside;
          whole = one.modest.spread_is.total;
        }) changes stand.each;
    entries_fit = λ code inside.
        can-change (entry_at view code) code (of.columns code ∙ wide) (of.answers code inside ∙ ap (λ n. answer (n - 1) dims rows (region_at dims code)) (sym (of.columns code)));
  }

  pub fits-views : (views : List ViewMap) → All (IsViewOfFacts dims rows) views → All (λ view. view.columns ≡ width + 1) views → All (FitsView dims changes) views
  fits-views [] of wide = All-nil (FitsView dims changes)
  fits-views (view ∷ views) of wide =
      All-cons (FitsView dims changes) view views (fits-view view (All-head (IsViewOfFacts dims rows) view views of) (All-head (λ v. v.columns ≡ width + 1) view views wide))
      (fits-views views (All-tail (IsViewOfFacts dims rows) view views of) (All-tail (λ v. v.columns ≡ width + 1) view views wide))
