-- What changes make of the entries of a view, from the drafts.
use Rattle.std.proofs.Common.{◌≡◌, ℕ, ◌-◌, true, false, List, [], refl, ap, sym, subst, ◌∙◌, arith, take, Option, Some, None, is_some, unwrap_or}
use Rattle.std.specs.Prelude.{IfOk, IfSome, Result, Ok, Err}
use Rattle.std.proofs.lemmas.Int.{ints}
use Rattle.cube_model.specs.declared.term.Term.{Term}
use Rattle.cube_model.specs.Allocation.{ExtendedFact}
use Rattle.cube_model.specs.Answer.{answer, merge}
use Rattle.cube_model.specs.Tree.{Dimension}
use Rattle.group_sum.specs.Merge.{FitsDifference, HasDifference, IsDifference}
use Rattle.group_sum.specs.Terms.{TermList}
use Rattle.group_sum.proofs.MergeLaws.{merge_nothing}
use Rattle.staged_map.specs.Staged.{Places, value_at}
use Rattle.view_store.specs.declared.change.ViewChange.{ViewChange}
use Rattle.view_store.specs.Changes.{CanChange, FitsView, facts_put, facts_taken_away, shares}
use Rattle.view_store.specs.Drafts.{AreLeftOver, AreOver, AreRemade, AreWithout, CanTake, FitsShares, HasShares, KeepsToView, draft_at}
use Rattle.view_store.specs.Views.{AreEntries, held_at, is_in_view, IsEntry, IsOver, no_terms, region_at}
use Rattle.view_store.proofs.Drafting.{AreRegular-terms, draft-held}
use Rattle.view_store.proofs.Merges.{AreRegular, count_of-merge, numerator_of-merge}
use Rattle.view_store.proofs.Shares.{AreRegular-answer, HasShares-answer, HasShares-merge, count_of-answer, numerator_of-answer}

-- of entries, what is held at each code is over the columns
pub AreOver-entries : (columns : ℕ) (entries : Places TermList) → AreEntries columns entries → AreOver columns entries
AreOver-entries columns entries are code = by (value_at entries code) (are.each code)
  where
    by : (o : Option TermList) → IfSome o (IsEntry columns) → IfSome o (IsOver columns)
    by None is = tt
    by (Some list) is = is.over

pub IsOver-none : (columns : ℕ) (entries : Places TermList) → AreEntries columns entries → IsOver columns (no_terms columns)
IsOver-none columns entries are = record { columns_are = refl; are_terms = record { some = are.least; most = are.most; terms = refl } }

pub held-over : (columns : ℕ) (places : Places TermList) (code : ℕ) → IsOver columns (no_terms columns) → AreOver columns places → IsOver columns (held_at columns places code)
held-over columns places code none over = by (value_at places code) (over code)
  where
    by : (o : Option TermList) → IfSome o (IsOver columns) → IsOver columns (unwrap_or o (no_terms columns))
    by None is = none
    by (Some list) is = is

draft-over : (columns : ℕ) (entries drafts : Places TermList) (code : ℕ) → IsOver columns (held_at columns entries code) → AreOver columns drafts → IsOver columns (draft_at columns entries drafts code)
draft-over columns entries drafts code held over = by (value_at drafts code) (over code)
  where
    by : (o : Option TermList) → IfSome o (IsOver columns) → IsOver columns (unwrap_or o (held_at columns entries code))
    by None is = held
    by (Some list) is = is

-- what is taken away fits
can-taken : (columns : ℕ) (dims : List Dimension) (changes : List ViewChange) (old : TermList) (code : ℕ) → old.columns ≡ columns → CanChange dims changes old code → FitsShares columns dims false changes code (no_terms columns)
can-taken columns dims changes old code cols can = record {
  counts = λ n d. omega (arith, (can.taken_within n).counts d, count_of-answer (old.columns - 1) dims (facts_taken_away (take n changes)) (region_at dims code) d);
  sums = λ n d k lt.
      let read = numerator_of-answer (old.columns - 1) dims (facts_taken_away (take n changes)) (region_at dims code) d k (omega arith) in
      let bound = rw read at ((can.taken_within n).sums d k (omega arith)) in
      omega (arith, ints, bound);
}

-- and so does what is put
can-given : (columns : ℕ) (dims : List Dimension) (changes : List ViewChange) (old rest : TermList) (code : ℕ) → old.columns ≡ columns → CanChange dims changes old code → IsOver columns rest
    → IsDifference old (shares columns dims (facts_taken_away changes) code) rest → FitsShares columns dims true changes code rest
can-given columns dims changes old rest code cols can over difference =
    let same : old.columns - 1 ≡ rest.columns - 1 = omega (arith, cols, over.columns_are) in
    let left = subst (λ n. IsDifference old (shares n dims (facts_taken_away changes) code) rest) (sym cols) difference in
    let facts : ℕ → List ExtendedFact = λ n. facts_put (take n changes) in
    let terms : ℕ → List Term = λ n. answer (old.columns - 1) dims (facts n) (region_at dims code) in
    let regular : (n : ℕ) → AreRegular (rest.columns - 1) (terms n) = λ n. subst (λ m. AreRegular m (terms n)) same (AreRegular-answer (old.columns - 1) dims (facts n) (region_at dims code)) in
    record {
      counts = λ n d.
          let within = can.put_within rest over.are_terms left n in
          omega (arith, within.counts d, count_of-merge (rest.columns - 1) rest.terms (terms n) d, count_of-answer (old.columns - 1) dims (facts n) (region_at dims code) d);
      sums = λ n d k lt.
          let within = can.put_within rest over.are_terms left n in
          let sum = numerator_of-merge (rest.columns - 1) rest.terms (terms n) (AreRegular-terms (rest.columns - 1) rest over.are_terms) (regular n) d k (omega (arith, over.columns_are)) in
          let read = numerator_of-answer (old.columns - 1) dims (facts n) (region_at dims code) d k (omega arith) in
          let bound = rw (sum, read) at (within.sums d k (omega arith)) in
          omega (arith, ints, bound);
    }

module _ (dims : List Dimension) (depths : List ℕ) (columns : ℕ) (entries : Places TermList) (changes : List ViewChange) (are : AreEntries columns entries) (fits : FitsView dims changes (record { columns = columns; depths = depths; entries = entries })) where
  none-over : IsOver columns (no_terms columns)
  none-over = IsOver-none columns entries are

  entry-over : (code : ℕ) → IsOver columns (held_at columns entries code)
  entry-over code = held-over columns entries code none-over (AreOver-entries columns entries are)

  pub facts_taken_away-fits : (code : ℕ) → is_in_view dims depths code ≡ true → FitsShares columns dims false changes code (no_terms columns)
  facts_taken_away-fits code in_view = can-taken columns dims changes (held_at columns entries code) code (entry-over code).columns_are (fits.entries_fit code in_view)

  -- the shares that are taken away
  module _ (parts : Places TermList) (has : (code : ℕ) → is_in_view dims depths code ≡ true → HasShares columns dims (facts_taken_away changes) code (no_terms columns) (held_at columns parts code))
      (keys : KeepsToView dims depths [] parts) (parts_over : AreOver columns parts) where
    part-is : (code : ℕ) → is_in_view dims depths code ≡ true → held_at columns parts code ≡ shares columns dims (facts_taken_away changes) code
    part-is code in_view = HasShares-answer columns dims (facts_taken_away changes) code (held_at columns parts code) (held-over columns parts code none-over parts_over) (has code in_view)

    pub can-take : CanTake columns entries parts
    can-take code = by (value_at parts code) refl
      where
        by : (o : Option TermList) → value_at parts code ≡ o → IfSome o (λ part. HasDifference (held_at columns entries code) part × FitsDifference (held_at columns entries code) part)
        by None is = tt
        by (Some part) is =
            let in_view = keys code (ap is_some is) in
            let can = fits.entries_fit code in_view in
            let cols = (entry-over code).columns_are in
            let held : part ≡ held_at columns parts code = sym (ap (λ o. unwrap_or o (no_terms columns)) is) in
            let its : shares (held_at columns entries code).columns dims (facts_taken_away changes) code ≡ part = ap (λ n. shares n dims (facts_taken_away changes) code) cols ∙ sym (held ∙ part-is code in_view) in
            (subst (HasDifference (held_at columns entries code)) its can.there, subst (FitsDifference (held_at columns entries code)) its can.left_within)

    -- and what is left of the entries without them
    module _ (rests : Places TermList) (without : AreWithout columns entries parts rests) where
      rest-is : (code : ℕ) → is_in_view dims depths code ≡ true → IsDifference (held_at columns entries code) (shares columns dims (facts_taken_away changes) code) (draft_at columns entries rests code)
      rest-is code in_view = by (value_at parts code) refl (without.left code)
        where
          old : TermList
          old = held_at columns entries code

          whole : IsDifference old (no_terms columns) old
          whole = record { columns = refl; merges = merge_nothing old.columns (entry-over code).are_terms.some old.terms (entry-over code).are_terms.terms }

          by : (o : Option TermList) → value_at parts code ≡ o → IfSome o (λ part. IsDifference old part (held_at columns rests code)) → IsDifference old (shares columns dims (facts_taken_away changes) code) (draft_at columns entries rests code)
          by None is difference =
              let none : no_terms columns ≡ shares columns dims (facts_taken_away changes) code = sym (ap (λ o. unwrap_or o (no_terms columns)) is) ∙ part-is code in_view in
              let absent : value_at rests code ≡ None = none-of (value_at rests code) (without.codes code ∙ ap is_some is) in
              let same : old ≡ draft_at columns entries rests code = sym (ap (λ o. unwrap_or o old) absent) in
              subst (IsDifference old (shares columns dims (facts_taken_away changes) code)) same (subst (λ part. IsDifference old part old) none whole)
            where
              none-of : (o : Option TermList) → is_some o ≡ false → o ≡ None
              none-of None absent = refl
              none-of (Some list) absent = absurd (grind (arith, absent))
          by (Some part) is difference =
              let its : part ≡ shares columns dims (facts_taken_away changes) code = sym (ap (λ o. unwrap_or o (no_terms columns)) is) ∙ part-is code in_view in
              let there : draft_at columns entries rests code ≡ held_at columns rests code = draft-held columns entries rests code (without.codes code ∙ ap is_some is) in
              subst (IsDifference old (shares columns dims (facts_taken_away changes) code)) (sym there) (subst (λ part. IsDifference old part (held_at columns rests code)) its difference)

      pub are-left_over : AreLeftOver dims changes (record { columns = columns; depths = depths; entries = entries }) rests
      are-left_over = record {
        left = rest-is;
        keys = λ code there. keys code (sym (without.codes code) ∙ there);
        over = without.over;
      }

    -- so of whatever says what is left
    pub left_over-from : {E : Type 0} (result : Result (Places TermList) E) → IfOk result (AreWithout columns entries parts)
        → IfOk result (AreLeftOver dims changes (record { columns = columns; depths = depths; entries = entries }))
    left_over-from (Ok rests) without = are-left_over rests without
    left_over-from (Err fault) without = tt

  -- what is left, and what is put to it
  module _ (rests : Places TermList) (left_over : AreLeftOver dims changes (record { columns = columns; depths = depths; entries = entries }) rests) where
    rest-over : (code : ℕ) → IsOver columns (draft_at columns entries rests code)
    rest-over code = draft-over columns entries rests code (entry-over code) left_over.over

    pub facts_put-fits : (code : ℕ) → is_in_view dims depths code ≡ true → FitsShares columns dims true changes code (draft_at columns entries rests code)
    facts_put-fits code in_view = can-given columns dims changes (held_at columns entries code) (draft_at columns entries rests code) code (entry-over code).columns_are (fits.entries_fit code in_view) (rest-over code) (left_over.left code in_view)

    pub are-remade : (drafts : Places TermList) → ((code : ℕ) → is_in_view dims depths code ≡ true → HasShares columns dims (facts_put changes) code (draft_at columns entries rests code) (draft_at columns entries drafts code))
        → KeepsToView dims depths rests drafts → AreOver columns drafts → AreRemade dims changes (record { columns = columns; depths = depths; entries = entries }) drafts
    are-remade drafts has keys drafts_over = record {
      made = λ code in_view.
          let rest = draft_at columns entries rests code in
          let over = rest-over code in
          let new = draft-over columns entries drafts code (entry-over code) drafts_over in
          record {
            rest = rest;
            are_terms = over.are_terms;
            taken_away = left_over.left code in_view;
            columns = new.columns_are ∙ sym (entry-over code).columns_are;
            put = HasShares-merge columns dims (facts_put changes) code rest (draft_at columns entries drafts code) new (has code in_view) ∙ ap (λ n. merge (n - 1) rest.terms (shares columns dims (facts_put changes) code).terms) (sym over.columns_are);
          };
      keys = λ code there. grind (arith, keys code there, left_over.keys code);
      over = drafts_over;
    }
