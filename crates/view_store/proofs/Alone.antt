-- Changes that one region of the product of the cuts holds: what they make of its entry, as drafts of which there is one.
use Rattle.std.proofs.Common.{◌≡◌, ℕ, ◌+◌, ◌*◌, ◌<◌, ◌≤◌, Bool, true, false, List, [], ◌∷◌, ◌++◌, length, get_or, refl, ap, sym, subst, ◌∙◌, inl, inr, arith, take, Option, Some, None, is_some, unwrap_or}
use mathlib.Core.Bool.{beq}
use Rattle.std.specs.Prelude.{All, Err, IfOk, IfSome, Ok, Result, if◌then◌else◌, ◌==◌, nat_eq}
use Rattle.std.specs.List.{IsDistinct}
use Rattle.std.specs.Option.{option_map}
use Rattle.std.proofs.lemmas.Bool.{cases_eq}
use Rattle.std.proofs.lemmas.Bool.Decides.{nat_tests}
use Rattle.std.proofs.lemmas.Int.{ints}
use Rattle.std.proofs.lemmas.List.{take_all, take_more}
use Rattle.std.proofs.lemmas.List.Elements.{All-cons, All-get_or, All-head, All-push, All-tail}
use Rattle.cube_model.specs.declared.term.Term.{Term}
use Rattle.cube_model.specs.Allocation.{ExtendedFact}
use Rattle.cube_model.specs.Cells.{cells_of}
use Rattle.cube_model.specs.Tree.{Dimension}
use Rattle.group_sum.specs.Merge.{IsDifference}
use Rattle.group_sum.specs.Terms.{AddsUnits, AreTerms, FitsUnits, TermList}
use Rattle.group_sum.proofs.MergeLaws.{merge_nothing}
use Rattle.staged_map.specs.Staged.{AreOfDifferentKeys, Entries, Places, staged_entry, value_at}
use Rattle.view_store.specs.declared.change.ViewChange.{ViewChange}
use Rattle.view_store.specs.Changes.{FitsView, IsChange, IsMadeFor, change_facts, facts_put, facts_taken_away}
use Rattle.view_store.specs.Cuts.{HoldsCells, HoldsRows}
use Rattle.view_store.specs.Drafts.{AddsChange, AreKept, AreLeftOver, AreOver, AreRemade, CanTakeAt, FitsShares, HasShares, HoldsChanges, KeepsToView, draft_at, facts_of_kind, kept, one_draft, puts_as, share_of}
use Rattle.view_store.specs.Views.{AreEntries, IsOver, held_at, is_in_view, no_terms, region_at}
use Rattle.view_store.proofs.AllChanges.{facts-append, facts-next_of_kind, facts-next_other, facts-one, kind-other, kind-same}
use Rattle.view_store.proofs.ChangeFacts.{count_at-append, sum_at-append}
use Rattle.view_store.proofs.Drafting.{rows-held, spread-of, weight-elsewhere, weight-whole, whole-fits}
use Rattle.view_store.proofs.Making.{made-for}
use Rattle.view_store.proofs.Shares.{AddsUnits-none, FitsShares-change, HasShares-next, HasShares-none}
use Rattle.view_store.proofs.Staging.{AreOver-entries, IsOver-none, are-left_over, are-remade, can-take, facts_put-fits, held-over}

-- The region of a code holds all cells of the regions of the first changes; so of one more, and of all.
module _ (dims : List Dimension) (depths : List ℕ) (changes : List ViewChange) (code i : ℕ) (before : All (λ change. HoldsCells dims depths change.region code) (take i changes)) where
  pub held-next : (change : ViewChange) → i < length changes → change ≡ get_or changes i change → (over : ℕ) → HoldsCells dims depths change.region over → over ≡ code → All (λ change. HoldsCells dims depths change.region code) (take (i + 1) changes)
  held-next change within is over holds same =
      let its : HoldsCells dims depths (get_or changes i change).region code = subst (λ (c : ViewChange). HoldsCells dims depths c.region code) is (subst (HoldsCells dims depths change.region) same holds) in
      subst (All (λ (c : ViewChange). HoldsCells dims depths c.region code)) (sym (take_more changes i change within)) (All-push (λ (c : ViewChange). HoldsCells dims depths c.region code) (take i changes) (get_or changes i change) before its)

  pub held-all : length changes ≤ i → All (λ change. HoldsCells dims depths change.region code) changes
  held-all end = subst (All (λ (c : ViewChange). HoldsCells dims depths c.region code)) (take_all i changes end) before

-- of the first and of all others
pub held-changes : (dims : List Dimension) (depths : List ℕ) (changes : List ViewChange) (first : ViewChange) (others : List ViewChange) (code : ℕ) → changes ≡ first ∷ others → HoldsCells dims depths first.region code
    → All (λ change. HoldsCells dims depths change.region code) others → HoldsChanges dims depths changes code
held-changes dims depths changes first others code is here rest = record {
  in_view = here.in_view;
  each = subst (All (λ (c : ViewChange). HoldsCells dims depths c.region code)) (sym is) (All-cons (λ (c : ViewChange). HoldsCells dims depths c.region code) first others here rest);
}

-- What facts have in the region of a code was added to its terms.
pub record HasShare (columns : ℕ) (dims : List Dimension) (facts : List ExtendedFact) (code : ℕ) (old now : TermList) : Type 0 where
  pub shares : HasShares columns dims facts code old now
  pub over : IsOver columns now

module _ (dims : List Dimension) (depths : List ℕ) (columns : ℕ) (put : Bool) (changes : List ViewChange) (code : ℕ) (old now : TermList)
    (i : ℕ) (change : ViewChange) (within : i < length changes) (is : change ≡ get_or changes i change) (holds : HoldsChanges dims depths changes code) (all : All (IsChange dims columns) changes)
    (before : HasShare columns dims (facts_of_kind put (take i changes)) code old now) where
  pub one-change : IsChange dims columns change
  one-change = subst (IsChange dims columns) (sym is) (All-get_or (IsChange dims columns) changes i change within all)

  one-rows : HoldsRows dims depths change.rows code
  one-rows =
      let cells : HoldsCells dims depths change.region code = subst (λ (c : ViewChange). HoldsCells dims depths c.region code) (sym is) (All-get_or (λ (c : ViewChange). HoldsCells dims depths c.region code) changes i change within holds.each) in
      rows-held dims depths columns change (Some code) one-change cells

  -- a change of another kind adds nothing
  pub HasShare-other : beq change.put put ≡ false → HasShare columns dims (facts_of_kind put (take (i + 1) changes)) code old now
  HasShare-other differ = rw (facts-next_other put changes i change within is (kind-other change.put put differ)) before

  -- the whole of a change of the kind fits
  pub one-fits : beq change.put put ≡ true → FitsShares columns dims put changes code old → FitsUnits now.terms change.den (change.den * change.facts) change.den change.cols
  one-fits same fits =
      let next = facts-next_of_kind put changes i change within is (kind-same change.put put same) in
      let share = FitsShares-change columns dims put changes i change code old now one-change next fits before.shares in
      whole-fits dims depths columns [] (share_of change) change.rows (spread-of dims columns change one-change) code one-rows now share.share

  -- and once it was added, the shares of one more were
  pub HasShare-next : (new : TermList) → beq change.put put ≡ true → AddsUnits now new change.den (change.den * change.facts) change.den change.cols → AreTerms new → HasShare columns dims (facts_of_kind put (take (i + 1) changes)) code old new
  HasShare-next new same added are =
      let next = facts-next_of_kind put changes i change within is (kind-same change.put put same) in
      let whole = weight-whole dims depths columns [] (share_of change) change.rows (spread-of dims columns change one-change) code one-rows in
      let adds : AddsChange dims change code now new = subst (λ (n : ℕ). AddsUnits now new change.den (n * change.facts) n change.cols) (sym whole) added in
      record {
        shares = rw next (HasShares-next columns dims (facts_of_kind put (take i changes)) change code old now new one-change before.shares adds);
        over = record { columns_are = added.columns ∙ before.over.columns_are; are_terms = are };
      }

-- In any other region of the product of the cuts they have nothing.
module _ (dims : List Dimension) (depths : List ℕ) (columns : ℕ) (put : Bool) (code k : ℕ) (in_view : is_in_view dims depths k ≡ true) (other : (k == code) ≡ false) (list : TermList) where
  HasShares-both : (facts more : List ExtendedFact) → HasShares columns dims facts k list list → HasShares columns dims more k list list → HasShares columns dims (facts ++ more) k list list
  HasShares-both facts more first second =
      let cells = cells_of dims (region_at dims k) in
      record {
        counts = λ d. omega (arith, first.counts d, second.counts d, count_at-append cells facts more d);
        sums = λ d n lt. omega (arith, ints, first.sums d n lt, second.sums d n lt, sum_at-append cells facts more n d);
      }

  HasShares-one : (change : ViewChange) → IsChange dims columns change → HoldsCells dims depths change.region code → HasShares columns dims (facts_of_kind put (change ∷ [])) k list list
  HasShares-one change is cells = subst (λ (facts : List ExtendedFact). HasShares columns dims facts k list list) (sym (facts-one put change)) (by (puts_as put change))
    where
      by : (b : Bool) → HasShares columns dims (if b then change_facts change else []) k list list
      by true =
          let rows : HoldsRows dims depths change.rows code = rows-held dims depths columns change (Some code) is cells in
          let none = weight-elsewhere dims depths columns [] (share_of change) change.rows (spread-of dims columns change is) code rows k in_view other in
          let adds : AddsChange dims change k list list =
          subst (λ (n : ℕ). AddsUnits list list change.den (n * change.facts) n change.cols) (sym none) (AddsUnits-none change.den (0 * change.facts) change.cols list (omega arith)) in
          HasShares-next columns dims [] change k list list list is (HasShares-none columns dims k list) adds
      by false = HasShares-none columns dims k list

  pub HasShares-elsewhere : (changes : List ViewChange) → All (IsChange dims columns) changes → All (λ change. HoldsCells dims depths change.region code) changes → HasShares columns dims (facts_of_kind put changes) k list list
  HasShares-elsewhere [] all cells = HasShares-none columns dims k list
  HasShares-elsewhere (change ∷ changes) all cells =
      let first = HasShares-one change (All-head (IsChange dims columns) change changes all) (All-head (λ (c : ViewChange). HoldsCells dims depths c.region code) change changes cells) in
      let rest = HasShares-elsewhere changes (All-tail (IsChange dims columns) change changes all) (All-tail (λ (c : ViewChange). HoldsCells dims depths c.region code) change changes cells) in
      subst (λ (facts : List ExtendedFact). HasShares columns dims facts k list list) (sym (facts-append put (change ∷ []) changes)) (HasShares-both (facts_of_kind put (change ∷ [])) (facts_of_kind put changes) first rest)

-- drafts of which there is one
module _ (code : ℕ) (list : TermList) where
  one-here : value_at (one_draft code list) code ≡ Some list
  one-here =
      let same : (code == code) ≡ true = grind (arith, nat_tests) in
      rw same refl

  one-elsewhere : (k : ℕ) → (k == code) ≡ false → value_at (one_draft code list) k ≡ None
  one-elsewhere k other = rw other refl

  one-there : (k : ℕ) → is_some (value_at (one_draft code list) k) ≡ (k == code)
  one-there k = by (k == code) refl
    where
      by : (b : Bool) → (k == code) ≡ b → is_some (value_at (one_draft code list) k) ≡ b
      by true same = rw same refl
      by false other = rw other refl

  one-each : (P : ℕ → TermList → Type 0) → P code list → (k : ℕ) → IfSome (value_at (one_draft code list) k) (P k)
  one-each P holds k = elim (cases_eq k code) [
    | inl same ↦ subst (λ (c : ℕ). IfSome (value_at (one_draft code list) c) (P c)) (sym same) (rw one-here holds)
    | inr other ↦
        let apart : (k == code) ≡ false = grind (arith, nat_tests) in
        rw (one-elsewhere k apart) tt
  ]

  -- what is staged for them
  AreKept-one : AreKept (one_draft code list) ((code, kept (Some list)) ∷ [])
  AreKept-one k = by (k == code) refl
    where
      by : (b : Bool) → (k == code) ≡ b → staged_entry ((code, kept (Some list)) ∷ []) k ≡ option_map (λ l. kept (Some l)) (value_at (one_draft code list) k)
      by true same = rw same refl
      by false other = rw other refl

single-distinct : (code : ℕ) → IsDistinct nat_eq (code ∷ [])
unfolding IsDistinct
single-distinct code = (tt, tt)

pub distinct-one : (code : ℕ) (entry : Option TermList) (items : Entries TermList) → items ≡ (code, entry) ∷ [] → AreOfDifferentKeys items
distinct-one code entry items is = subst AreOfDifferentKeys (sym is) (single-distinct code)

module _ (dims : List Dimension) (depths : List ℕ) (columns : ℕ) (entries : Places TermList) (changes : List ViewChange) (are : AreEntries columns entries) (fits : FitsView dims changes (record { columns = columns; depths = depths; entries = entries }))
    (code : ℕ) (holds : HoldsChanges dims depths changes code) where
  -- what was added to the terms of the region was added to the draft of each
  one-shares : (over : Places TermList) (put : Bool) (old new : TermList) → HasShares columns dims (facts_of_kind put changes) code old new
      → (k : ℕ) → is_in_view dims depths k ≡ true → HasShares columns dims (facts_of_kind put changes) k (draft_at columns over (one_draft code old) k) (draft_at columns over (one_draft code new) k)
  one-shares over put old new has k in_view = elim (cases_eq k code) [
    | inl same ↦
        let all : HasShares columns dims (facts_of_kind put changes) code (draft_at columns over (one_draft code old) code) (draft_at columns over (one_draft code new) code) = rw (one-here code old, one-here code new) has in
        subst (λ (c : ℕ). HasShares columns dims (facts_of_kind put changes) c (draft_at columns over (one_draft code old) c) (draft_at columns over (one_draft code new) c)) (sym same) all
    | inr other ↦
        let apart : (k == code) ≡ false = grind (arith, nat_tests) in
        rw (one-elsewhere code old k apart, one-elsewhere code new k apart) (HasShares-elsewhere dims depths columns put code k in_view apart (held_at columns over k) changes fits.changes_fit holds.each)
  ]

  one-keys : (old : Places TermList) (list : TermList) → KeepsToView dims depths old (one_draft code list)
  one-keys old list k there = elim (cases_eq k code) [
    | inl same ↦
        let view : is_in_view dims depths k ≡ true = ap (is_in_view dims depths) same ∙ holds.in_view in
        grind (arith, view)
    | inr other ↦
        let apart : (k == code) ≡ false = grind (arith, nat_tests) in
        absurd (grind (arith, sym there ∙ one-there code list k ∙ apart))
  ]

  entry-is : IsOver columns (held_at columns entries code)
  entry-is = held-over columns entries code (IsOver-none columns entries are) (AreOver-entries columns entries are)

  -- the share that is taken away
  module _ (part : TermList) (has : HasShares columns dims (facts_taken_away changes) code (no_terms columns) part) (over : IsOver columns part) where
    parts-have : (k : ℕ) → is_in_view dims depths k ≡ true → HasShares columns dims (facts_taken_away changes) k (no_terms columns) (held_at columns (one_draft code part) k)
    parts-have k in_view =
        subst (λ (list : TermList). HasShares columns dims (facts_taken_away changes) k list (held_at columns (one_draft code part) k)) (none (value_at (one_draft code (no_terms columns)) k) (one-each code (no_terms columns) (λ c list. list ≡ no_terms columns) refl k))
        (one-shares [] false (no_terms columns) part has k in_view)
      where
        none : (o : Option TermList) → IfSome o (λ list. list ≡ no_terms columns) → unwrap_or o (no_terms columns) ≡ no_terms columns
        none None is = refl
        none (Some list) is = is

    parts-over : AreOver columns (one_draft code part)
    parts-over = one-each code part (λ c. IsOver columns) over

    pub part-can : CanTakeAt columns entries code part
    part-can =
        subst (λ (o : Option TermList). IfSome o (CanTakeAt columns entries code)) (one-here code part)
        (can-take dims depths columns entries changes are fits (one_draft code part) parts-have (one-keys [] part) parts-over code)

    -- and what is left of the entry without it
    rest-left : (rest : TermList) → IsDifference (held_at columns entries code) part rest → IsOver columns rest → AreLeftOver dims changes (record { columns = columns; depths = depths; entries = entries }) (one_draft code rest)
    rest-left rest difference rest_over =
        let left : IsDifference (held_at columns entries code) part (held_at columns (one_draft code rest) code) = rw (one-here code rest) difference in
        are-left_over dims depths columns entries changes are fits (one_draft code part) parts-have (one-keys [] part) parts-over (one_draft code rest) (record {
          codes = λ k. one-there code rest k ∙ sym (one-there code part k);
          left = one-each code part (λ k p. IsDifference (held_at columns entries k) p (held_at columns (one_draft code rest) k)) left;
          over = one-each code rest (λ c. IsOver columns) rest_over;
        })

    -- where it is nothing, that is the entry
    whole-left : length part.terms ≡ 0 → (rest : TermList) → rest ≡ held_at columns entries code → AreLeftOver dims changes (record { columns = columns; depths = depths; entries = entries }) (one_draft code rest)
    whole-left nothing rest is = rest-left rest (subst (IsDifference (held_at columns entries code) part) (sym is) (by part.terms refl nothing)) (subst (IsOver columns) (sym is) entry-is)
      where
        by : (terms : List Term) → part.terms ≡ terms → length terms ≡ 0 → IsDifference (held_at columns entries code) part (held_at columns entries code)
        by [] same none =
            let old = held_at columns entries code in
            record { columns = refl; merges = rw same (merge_nothing old.columns entry-is.are_terms.some old.terms entry-is.are_terms.terms) }
        by (t ∷ terms) same none = absurd (omega (arith, none))

    -- so where the one or the other was found
    pub left-found : {E : Type 0} (result : Result TermList E) → IfOk result (IsDifference (held_at columns entries code) part) → IfOk result (IsOver columns)
        → IfOk result (λ rest. AreLeftOver dims changes (record { columns = columns; depths = depths; entries = entries }) (one_draft code rest))
    left-found (Ok rest) difference rest_over = rest-left rest difference rest_over
    left-found (Err fault) difference rest_over = tt

    pub whole-found : {E : Type 0} → length part.terms ≡ 0 → (result : Result TermList E) → IfOk result (λ rest. rest ≡ held_at columns entries code)
        → IfOk result (λ rest. AreLeftOver dims changes (record { columns = columns; depths = depths; entries = entries }) (one_draft code rest))
    whole-found nothing (Ok rest) is = whole-left nothing rest is
    whole-found nothing (Err fault) is = tt

  -- what is left, and what is put to it
  module _ (rest : TermList) (left : AreLeftOver dims changes (record { columns = columns; depths = depths; entries = entries }) (one_draft code rest)) where
    rest-over : IsOver columns rest
    rest-over = subst (λ (o : Option TermList). IfSome o (IsOver columns)) (one-here code rest) (left.over code)

    pub rest-fits : FitsShares rest.columns dims true changes code rest
    rest-fits =
        let fits_rest : FitsShares columns dims true changes code rest =
        subst (FitsShares columns dims true changes code) (ap (λ o. unwrap_or o (held_at columns entries code)) (one-here code rest))
        (facts_put-fits dims depths columns entries changes are fits (one_draft code rest) left code holds.in_view) in
        subst (λ n. FitsShares n dims true changes code rest) (sym rest-over.columns_are) fits_rest

    module _ (new : TermList) (has : HasShares rest.columns dims (facts_put changes) code rest new) (over : IsOver rest.columns new) where
      one-remade : AreRemade dims changes (record { columns = columns; depths = depths; entries = entries }) (one_draft code new)
      one-remade =
          let new_has : HasShares columns dims (facts_put changes) code rest new = subst (λ n. HasShares n dims (facts_put changes) code rest new) rest-over.columns_are has in
          let new_over : IsOver columns new = subst (λ n. IsOver n new) rest-over.columns_are over in
          are-remade dims depths columns entries changes are fits (one_draft code rest) left (one_draft code new) (one-shares entries true rest new new_has) (one-keys (one_draft code rest) new) (one-each code new (λ c. IsOver columns) new_over)

      -- is what the changes make
      pub one-made : (items : Entries TermList) → items ≡ (code, kept (Some new)) ∷ [] → IsMadeFor dims changes (record { columns = columns; depths = depths; entries = entries }) items
      one-made items is =
          subst (IsMadeFor dims changes (record { columns = columns; depths = depths; entries = entries })) (sym is)
          (made-for columns (one_draft code new) ((code, kept (Some new)) ∷ []) (AreKept-one code new) dims depths entries changes one-remade)
