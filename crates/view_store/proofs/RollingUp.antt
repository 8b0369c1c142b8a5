-- Entries under a region, merged one after another.
use Rattle.std.proofs.Common.{◌≡◌, ℕ, ◌+◌, ◌-◌, ◌<◌, Bool, true, false, List, [], ◌∷◌, ◌++◌, append-nil, arith, ap, drop, filter, get_or, length, map, refl, sym, subst, take, Some, is_some, unwrap_or, ◌∙◌}
use Rattle.std.specs.Prelude.{All, IfOk, if◌then◌else◌, Result, Ok, Err}
use Rattle.std.proofs.lemmas.List.{map-append, take-append-drop, take_more}
use Rattle.std.proofs.lemmas.List.Elements.{All-cons, All-from_get_or, All-nil, filter-append}
use Rattle.std.proofs.Math.Seq.{take-append_seam}
use Rattle.cube_model.specs.Answer.{merge, merge_all}
use Rattle.cube_model.specs.Tree.{Dimension}
use Rattle.group_sum.specs.Merge.{FitsMerge}
use Rattle.group_sum.specs.Terms.{TermList}
use Rattle.region_algebra.specs.Space.{region_total}
use Rattle.staged_map.specs.Staged.{AreKeys, Places, value_at}
use Rattle.view_store.specs.Rolling.{AreCodes, FitsBelow, is_below, rolled_up, term_lists_below}
use Rattle.view_store.specs.Views.{AreEntries, IsViewOf, ViewMap, codes_of, held_at, no_terms}
use Rattle.view_store.proofs.Drafting.{AreRegular-terms}
use Rattle.view_store.proofs.Listing.{key-below}
use Rattle.view_store.proofs.Merges.{AreRegular, count_of-merge, merge_all-push, numerator_of-merge}
use Rattle.view_store.proofs.Staging.{AreOver-entries, IsOver-none, held-over}

module _ (columns : ℕ) (dims : List Dimension) (region : List ℕ) (entries : Places TermList) where
  terms-append : (codes more : List ℕ) → term_lists_below columns dims region entries (codes ++ more) ≡ term_lists_below columns dims region entries codes ++ term_lists_below columns dims region entries more
  terms-append codes more =
      ap (map (λ code. (held_at columns entries code).terms)) (filter-append (is_below dims region) codes more)
      ∙ map-append (λ (code : ℕ). (held_at columns entries code).terms) (filter (is_below dims region) codes) (filter (is_below dims region) more)

  terms-one : (code : ℕ) → term_lists_below columns dims region entries (code ∷ []) ≡ (if is_below dims region code then (held_at columns entries code).terms ∷ [] else [])
  terms-one code = by (is_below dims region code)
    where
      by : (b : Bool) → map (λ code. (held_at columns entries code).terms) (if b then code ∷ [] else []) ≡ (if b then (held_at columns entries code).terms ∷ [] else [])
      by true = refl
      by false = refl

  terms-next : (codes : List ℕ) (i : ℕ) → i < length codes → term_lists_below columns dims region entries (take (i + 1) codes)
      ≡ term_lists_below columns dims region entries (take i codes) ++ (if is_below dims region (get_or codes i 0) then (held_at columns entries (get_or codes i 0)).terms ∷ [] else [])
  terms-next codes i within =
      ap (term_lists_below columns dims region entries) (take_more codes i 0 within) ∙ terms-append (take i codes) (get_or codes i 0 ∷ [])
      ∙ ap (λ ts. term_lists_below columns dims region entries (take i codes) ++ ts) (terms-one (get_or codes i 0))

  -- the terms of the first codes are the first terms
  first-terms : (codes : List ℕ) (i : ℕ) → take (length (term_lists_below columns dims region entries (take i codes))) (term_lists_below columns dims region entries codes) ≡ term_lists_below columns dims region entries (take i codes)
  first-terms codes i =
      let front = term_lists_below columns dims region entries (take i codes) in
      let whole : term_lists_below columns dims region entries codes ≡ front ++ term_lists_below columns dims region entries (drop i codes) =
      ap (term_lists_below columns dims region entries) (sym (take-append-drop i codes)) ∙ terms-append (take i codes) (drop i codes) in
      ap (take (length front)) whole ∙ take-append_seam front (term_lists_below columns dims region entries (drop i codes))

  -- what is merged of some codes
  abbrev pub merged : List ℕ → TermList
  merged codes = record { columns = columns; terms = merge_all (columns - 1) (term_lists_below columns dims region entries codes) }

  module _ (are : AreEntries columns entries) where
    regular : (code : ℕ) → AreRegular (columns - 1) (held_at columns entries code).terms
    regular code = AreRegular-terms (columns - 1) (held_at columns entries code) (held-over columns entries code (IsOver-none columns entries are) (AreOver-entries columns entries are)).are_terms

    all-regular : (codes : List ℕ) → All (AreRegular (columns - 1)) (term_lists_below columns dims region entries codes)
    all-regular codes = each (filter (is_below dims region) codes)
      where
        each : (cs : List ℕ) → All (AreRegular (columns - 1)) (map (λ code. (held_at columns entries code).terms) cs)
        each [] = All-nil (AreRegular (columns - 1))
        each (c ∷ cs) = All-cons (AreRegular (columns - 1)) (held_at columns entries c).terms (map (λ code. (held_at columns entries code).terms) cs) (regular c) (each cs)

    module _ (codes : List ℕ) (i : ℕ) (within : i < length codes) where
      merged-other : is_below dims region (get_or codes i 0) ≡ false → merged (take (i + 1) codes) ≡ merged (take i codes)
      merged-other outside =
          ap (λ ts. record { columns = columns; terms = merge_all (columns - 1) ts }) (rw outside at (terms-next codes i within) ∙ append-nil (term_lists_below columns dims region entries (take i codes)))

      merged-more : is_below dims region (get_or codes i 0) ≡ true
          → merged (take (i + 1) codes) ≡ record { columns = columns; terms = merge (columns - 1) (merged (take i codes)).terms (held_at columns entries (get_or codes i 0)).terms }
      merged-more inside =
          let terms = rw inside at (terms-next codes i within) in
          let push = (merge_all-push (columns - 1) (term_lists_below columns dims region entries (take i codes)) (held_at columns entries (get_or codes i 0)).terms (all-regular (take i codes)) (regular (get_or codes i 0))).0 in
          ap (λ ts. record { columns = columns; terms = ts }) (ap (merge_all (columns - 1)) terms ∙ push)

      held-is : (entry : TermList) → value_at entries (get_or codes i 0) ≡ Some entry → held_at columns entries (get_or codes i 0) ≡ entry
      held-is entry is = ap (λ o. unwrap_or o (no_terms columns)) is

      -- the next entry fits
      pub entry-fits : FitsBelow columns dims region entries codes → is_below dims region (get_or codes i 0) ≡ true → (entry : TermList) → value_at entries (get_or codes i 0) ≡ Some entry
          → FitsMerge (merged (take i codes)) entry
      entry-fits fits inside entry is =
          let its = held-is entry is in
          let bound = fits (length (term_lists_below columns dims region entries (take (i + 1) codes))) in
          let whole : merge_all (columns - 1) (take (length (term_lists_below columns dims region entries (take (i + 1) codes))) (term_lists_below columns dims region entries codes)) ≡ merge (columns - 1) (merged (take i codes)).terms entry.terms =
          ap (merge_all (columns - 1)) (first-terms codes (i + 1)) ∙ ap (λ (t : TermList). t.terms) (merged-more inside) ∙ ap (λ (t : TermList). merge (columns - 1) (merged (take i codes)).terms t.terms) its in
          let front = (merge_all-push (columns - 1) (term_lists_below columns dims region entries (take i codes)) (held_at columns entries (get_or codes i 0)).terms (all-regular (take i codes)) (regular (get_or codes i 0))).1 in
          let last : AreRegular (columns - 1) entry.terms = subst (λ (t : TermList). AreRegular (columns - 1) t.terms) its (regular (get_or codes i 0)) in
          record {
            counts = λ d. omega (arith, count_of-merge (columns - 1) (merged (take i codes)).terms entry.terms d, rw whole at (bound.counts d));
            sums = λ d k lt.
                let sum = numerator_of-merge (columns - 1) (merged (take i codes)).terms entry.terms front last d k (omega arith) in
                rw (← sum) (rw whole at (bound.sums d k lt));
          }

      pub merged-with : is_below dims region (get_or codes i 0) ≡ true → (all entry new : TermList) → all ≡ merged (take i codes) → value_at entries (get_or codes i 0) ≡ Some entry
          → new ≡ record { columns = all.columns; terms = merge (all.columns - 1) all.terms entry.terms } → new ≡ merged (take (i + 1) codes)
      merged-with inside all entry new before is added =
          added ∙ ap (λ (t : TermList). record { columns = t.columns; terms = merge (t.columns - 1) t.terms entry.terms }) before
          ∙ ap (λ (t : TermList). record { columns = columns; terms = merge (columns - 1) (merged (take i codes)).terms t.terms }) (sym (held-is entry is)) ∙ sym (merged-more inside)

      pub merged-without : is_below dims region (get_or codes i 0) ≡ false → (all : TermList) → all ≡ merged (take i codes) → all ≡ merged (take (i + 1) codes)
      merged-without outside all before = before ∙ sym (merged-other outside)

      pub columns-same : (all entry : TermList) → all ≡ merged (take i codes) → value_at entries (get_or codes i 0) ≡ Some entry → all.columns ≡ entry.columns
      columns-same all entry before is =
          ap (λ (t : TermList). t.columns) before ∙ sym (held-over columns entries (get_or codes i 0) (IsOver-none columns entries are) (AreOver-entries columns entries are)).columns_are ∙ ap (λ (t : TermList). t.columns) (held-is entry is)

-- the keys of a view are codes
pub keys-codes : (dims : List Dimension) (view : ViewMap) (keys : List ℕ) → IsViewOf dims view → AreKeys view.entries keys → AreCodes dims view.entries keys
keys-codes dims view keys of are = All-from_get_or (λ code. (code < region_total dims) × (is_some (value_at view.entries code) ≡ true)) keys 0 (λ i within. key-below dims view keys i of are within)

-- what is merged of the keys is what the view rolls up to
pub rolled-from : {E : Type 0} (dims : List Dimension) (view : ViewMap) (region keys : List ℕ) (result : Result TermList E) → keys ≡ codes_of dims view
    → IfOk result (λ terms. terms ≡ merged view.columns dims region view.entries keys) → IfOk result (λ terms. terms ≡ record { columns = view.columns; terms = rolled_up dims view region })
rolled-from dims view region keys (Ok terms) same is = is ∙ ap (merged view.columns dims region view.entries) same
rolled-from dims view region keys (Err fault) same is = tt
