-- All terms of a table merged are those of the asked region: some view of the facts has the table.
use Rattle.std.proofs.Common.{◌≡◌, ℕ, zero, suc, ◌+◌, ◌-◌, ◌<◌, ◌≤◌, Bool, true, false, List, [], length, map, refl, ap, sym, subst, ◌∙◌, inl, inr, true≢false, arith}
use Rattle.std.specs.Prelude.{All, Option, Some, None, if◌then◌else◌, is_some, nat_le, nat_lt, unwrap_or, ◌&&◌, ◌==◌}
use Rattle.std.specs.List.{range_with_len}
use Rattle.std.proofs.lemmas.Bool.{cases_eq}
use Rattle.std.proofs.lemmas.Bool.Decides.{nat_tests}
use Rattle.std.proofs.lemmas.List.{nil_from_length}
use Rattle.std.proofs.lemmas.List.Elements.{All-map, filter_passes}
use Rattle.cube_model.specs.Allocation.{ExtendedFact}
use Rattle.cube_model.specs.Answer.{answer, merge_all}
use Rattle.cube_model.specs.Tree.{Dimension, IsTree}
use Rattle.group_sum.specs.Terms.{TermList}
use Rattle.region_algebra.specs.Space.{IsRegion, region_total}
use Rattle.staged_map.specs.Staged.{value_at}
use Rattle.view_store.specs.Cuts.{entries_of}
use Rattle.view_store.specs.Facts.{IsViewOfFacts}
use Rattle.view_store.specs.Rolling.{listed_under}
use Rattle.view_store.specs.Views.{IsViewOf, ViewMap, codes_of, entry_at, is_in_cuts, is_in_view, listed, no_terms, region_at}
use Rattle.view_store.proofs.CutListing.{HasTerms, terms_over}
use Rattle.cube_state.specs.Tables.{depths_under, table_regions}
use Rattle.cube_state.proofs.TableRegions.{length-depths_under, table-listed, table-merged}

-- places of the numbers of a range, with what a function gives
value-in_range : {V : Type 0} (f : ℕ → Option V) (from n code : ℕ) → value_at (map (λ k. (k, f k)) (range_with_len from n)) code ≡ (if nat_le from code && nat_lt code (from + n) then f code else None)
value-in_range f from zero code = by (f code)
  where
    by : {V : Type 0} (o : Option V) → None ≡ (if nat_le from code && nat_lt code (from + 0) then o else None)
    by o = let outside : (nat_le from code && nat_lt code (from + 0)) ≡ false = grind (arith, nat_tests) in rw outside refl
value-in_range f from (suc n) code = elim (cases_eq code from) [
  | inl same ↦
      let here : (code == from) ≡ true = grind (arith, nat_tests, same) in
      let inside : (nat_le from code && nat_lt code (from + suc n)) ≡ true = grind (arith, nat_tests, same) in
      rw (here, inside) (ap f (sym same))
  | inr other ↦
      let there : (code == from) ≡ false = grind (arith, nat_tests, other) in
      let moved : (nat_le from code && nat_lt code (from + suc n)) ≡ (nat_le (from + 1) code && nat_lt code (from + 1 + n)) = grind (arith, nat_tests, other) in
      rw (there, moved) (value-in_range f (from + 1) n code)
]

module _ (dims : List Dimension) (rows : List ExtendedFact) (width : ℕ) (cuts : List ℕ) where
  abbrev terms_at : ℕ → TermList
  terms_at code = record { columns = width + 1; terms = answer width dims rows (region_at dims code) }

  -- the entry at a code of the product of the cuts, where there are terms
  abbrev kept : ℕ → Option TermList
  kept code = if is_in_view dims cuts code && nat_lt 0 (length (terms_at code).terms) then Some (terms_at code) else None

  abbrev view : ViewMap
  view = record { columns = width + 1; depths = cuts; entries = map (λ code. (code, kept code)) (range_with_len 0 (region_total dims)) }

  is-kept : (code : ℕ) → value_at view.entries code ≡ kept code
  is-kept code = value-in_range kept 0 (region_total dims) code ∙ by (nat_lt code (region_total dims)) refl
    where
      by : (b : Bool) → nat_lt code (region_total dims) ≡ b → (if nat_le 0 code && nat_lt code (0 + region_total dims) then kept code else None) ≡ kept code
      by true below = let inside : (nat_le 0 code && nat_lt code (0 + region_total dims)) ≡ true = grind (arith, nat_tests, below) in rw inside refl
      by false past =
          let outside : (nat_le 0 code && nat_lt code (0 + region_total dims)) ≡ false = grind (arith, nat_tests, past) in
          let other : is_in_view dims cuts code ≡ false = ap (λ b. b && is_in_cuts dims cuts (region_at dims code)) past in
          rw (outside, other) refl

  no-terms : (terms : TermList) → nat_lt 0 (length terms.terms) ≡ false → [] ≡ terms.terms
  no-terms terms none = sym (nil_from_length terms.terms (grind (arith, nat_tests, none)))

  view-has_columns : (code : ℕ) → (entry_at view code).columns ≡ width + 1
  view-has_columns code = ap (λ (o : Option TermList). (unwrap_or o (no_terms (width + 1))).columns) (is-kept code) ∙ by (is_in_view dims cuts code && nat_lt 0 (length (terms_at code).terms))
    where
      by : (b : Bool) → (unwrap_or (if b then Some (terms_at code) else None) (no_terms (width + 1))).columns ≡ width + 1
      by true = refl
      by false = refl

  view-answers : (code : ℕ) → is_in_view dims cuts code ≡ true → (entry_at view code).terms ≡ answer width dims rows (region_at dims code)
  view-answers code inside = ap (λ (o : Option TermList). (unwrap_or o (no_terms (width + 1))).terms) (is-kept code ∙ ap (λ b. if b && nat_lt 0 (length (terms_at code).terms) then Some (terms_at code) else None) inside) ∙ by (nat_lt 0 (length (terms_at code).terms)) refl
    where
      by : (b : Bool) → nat_lt 0 (length (terms_at code).terms) ≡ b → (unwrap_or (if true && b then Some (terms_at code) else None) (no_terms (width + 1))).terms ≡ (terms_at code).terms
      by true some = refl
      by false none = no-terms (terms_at code) none

  view-others : (code : ℕ) → is_in_view dims cuts code ≡ false → (entry_at view code).terms ≡ []
  view-others code outside = ap (λ (o : Option TermList). (unwrap_or o (no_terms (width + 1))).terms) (is-kept code ∙ ap (λ b. if b && nat_lt 0 (length (terms_at code).terms) then Some (terms_at code) else None) outside)

  -- it is the view of the facts
  values : width + 1 - 1 ≡ width
  values = omega arith

  view-of_facts : IsViewOfFacts dims rows view
  view-of_facts = record {
    columns = view-has_columns;
    answers = λ code inside. view-answers code inside ∙ ap (λ n. answer n dims rows (region_at dims code)) (sym values);
    others = view-others;
  }

  view-regions : length cuts ≡ length dims → IsViewOf dims view
  view-regions deep = record { depths = deep; regions = λ code there. by code (nat_lt code (region_total dims)) refl (sym (ap is_some (is-kept code)) ∙ there) }
    where
      by : (code : ℕ) (b : Bool) → nat_lt code (region_total dims) ≡ b → is_some (kept code) ≡ true → code < region_total dims
      by code true below there = grind (arith, nat_tests, below)
      by code false past there =
          let other : is_in_view dims cuts code ≡ false = ap (λ b. b && is_in_cuts dims cuts (region_at dims code)) past in
          absurd (true≢false (sym (sym (ap (λ b. is_some (if b && nat_lt 0 (length (terms_at code).terms) then Some (terms_at code) else None)) other) ∙ there)))

  -- and each entry has a term
  view-whole : All HasTerms (listed dims view)
  view-whole =
      All-map HasTerms (λ (code : ℕ). (region_at dims code, entry_at view code)) (codes_of dims view)
      (λ k d within. some _ (filter_passes (λ code. is_some (value_at view.entries code)) (range_with_len 0 (region_total dims)) k d within))
    where
      held : (code : ℕ) (o : Option TermList) (a b : Bool) → nat_lt 0 (length (terms_at code).terms) ≡ b → o ≡ (if a && b then Some (terms_at code) else None) → is_some o ≡ true → 1 ≤ length (unwrap_or o (no_terms (width + 1))).terms
      held code o true true full is there = rw is (grind (arith, nat_tests, full))
      held code o true false full is there = absurd (true≢false (sym there ∙ ap is_some is))
      held code o false b full is there = absurd (true≢false (sym there ∙ ap is_some is))

      some : (code : ℕ) → is_some (value_at view.entries code) ≡ true → HasTerms (region_at dims code, entry_at view code)
      some code there = held code (value_at view.entries code) (is_in_view dims cuts code) (nat_lt 0 (length (terms_at code).terms)) refl (is-kept code) there

-- So the terms of a table's regions merge to those of the asked region, whatever the facts.
pub tables-merge : (dims : List Dimension) (rows : List ExtendedFact) (width : ℕ) (depths region : List ℕ) → All IsTree dims → length depths ≡ length dims → IsRegion dims region
    → merge_all width (map (λ entry. entry.1.terms) (entries_of (terms_over dims rows (width + 1)) (table_regions dims depths region))) ≡ answer width dims rows region
tables-merge dims rows width depths region trees deep named =
    let cuts = depths_under dims depths region in
    let its = view dims rows width cuts in
    let of = view-of_facts dims rows width cuts in
    let over = view-regions dims rows width cuts (length-depths_under dims depths region deep named) in
    let whole = view-whole dims rows width cuts in
    let entries = table-listed dims rows rows its depths region trees deep named of over refl whole (λ low named_low under. refl) in
    let merged = table-merged dims rows rows its depths region trees deep named of over refl whole (λ low named_low under. refl) in
    ap (λ found. merge_all width (map (λ (entry : List ℕ × TermList). entry.1.terms) found)) (sym entries)
    ∙ subst (λ n. merge_all n (map (λ (entry : List ℕ × TermList). entry.1.terms) (listed_under dims its region)) ≡ answer n dims rows region) (values dims rows width cuts) merged
