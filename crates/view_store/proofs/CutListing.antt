-- The list of a view of facts is the entries of the facts in the product of its cuts, in the order of the product.
use Rattle.std.proofs.Common.{◌≡◌, ℕ, ◌-◌, ◌≤◌, Bool, true, false, List, [], ◌∷◌, filter, length, map, refl, sym, ap, subst, ◌∙◌, arith}
use Rattle.std.specs.Prelude.{All, IfSome, if◌then◌else◌, is_some, nat_lt, unwrap_or, Option, Some, None}
use Rattle.std.specs.List.{range_with_len}
use Rattle.std.proofs.lemmas.Bool.Decides.{nat_tests}
use Rattle.std.proofs.lemmas.List.Elements.{All-cons, All-filter, All-head, All-map, All-nil, All-tail}
use Rattle.cube_model.specs.Allocation.{ExtendedFact}
use Rattle.cube_model.specs.Answer.{answer}
use Rattle.cube_model.specs.Tree.{Dimension, IsTree}
use Rattle.dim_tree.proofs.Climbing.{both}
use Rattle.dim_tree.proofs.Renaming.{map-map}
use Rattle.group_sum.specs.Terms.{TermList}
use Rattle.region_algebra.specs.Space.{IsRegion, region_total}
use Rattle.staged_map.specs.Staged.{value_at}
use Rattle.view_store.specs.Cuts.{cut_regions, entries_of}
use Rattle.view_store.specs.Facts.{IsViewOfFacts}
use Rattle.view_store.specs.Views.{AreEntries, IsEntry, IsViewOf, ViewMap, entry_at, is_in_cuts, is_in_view, listed, no_terms, region_at}
use Rattle.view_store.proofs.CutOrder.{cut_regions-coded}
use Rattle.view_store.proofs.CutRegions.{region_at-below}
use Rattle.view_store.proofs.Listing.{listed_first}

-- an entry of a region has terms
abbrev pub HasTerms : List ℕ × TermList → Type 0
HasTerms entry = 1 ≤ length entry.1.terms

-- what facts add up to in a region
abbrev pub terms_over : List Dimension → List ExtendedFact → ℕ → List ℕ → TermList
terms_over dims facts columns region = record { columns = columns; terms = answer (columns - 1) dims facts region }

same-list : (list other : TermList) → list.columns ≡ other.columns → list.terms ≡ other.terms → list ≡ other
same-list list other columns terms = rw (columns, terms) refl

module _ (dims : List Dimension) (facts : List ExtendedFact) (view : ViewMap) (of : IsViewOfFacts dims facts view) where
  abbrev terms_of : List ℕ → TermList
  terms_of = terms_over dims facts view.columns

  -- a code's region with the terms of the facts there
  abbrev entry_of : ℕ → List ℕ × TermList
  entry_of code = (region_at dims code, terms_of (region_at dims code))

  -- those of these codes that are in the view and have terms
  abbrev entries : List ℕ → List (List ℕ × TermList)
  entries codes = filter (λ entry. nat_lt 0 (length entry.1.terms)) (map entry_of (filter (is_in_view dims view.depths) codes))

  -- the codes at which an entry is kept
  abbrev kept : List ℕ → List ℕ
  kept codes = filter (λ code. is_some (value_at view.entries code)) codes

  entry-in_view : (code : ℕ) → is_in_view dims view.depths code ≡ true → entry_at view code ≡ terms_of (region_at dims code)
  entry-in_view code inside = same-list (entry_at view code) (terms_of (region_at dims code)) (of.columns code) (of.answers code inside)

  -- where nothing is kept there are no terms
  no-terms : (code : ℕ) (found : Option TermList) → value_at view.entries code ≡ found → is_some found ≡ false → (entry_at view code).terms ≡ []
  no-terms code None at none = ap (λ (o : Option TermList). (unwrap_or o (no_terms view.columns)).terms) at
  no-terms code (Some terms) at none = absurd (grind arith)

  some-terms : (terms : TermList) → 1 ≤ length terms.terms → nat_lt 0 (length terms.terms) ≡ true
  some-terms terms some = grind (arith, nat_tests, some)

  not-empty : (terms : TermList) → terms.terms ≡ [] → 1 ≤ length terms.terms → ⊥
  not-empty terms none some = omega (arith, some, ap length none)

  listed-next : (code : ℕ) (codes : List ℕ) → All HasTerms (listed_first dims view (kept (code ∷ codes))) → (All HasTerms (listed_first dims view (kept codes)) → listed_first dims view (kept codes) ≡ entries codes)
      → listed_first dims view (kept (code ∷ codes)) ≡ entries (code ∷ codes)
  listed-next code codes = by (is_some (value_at view.entries code)) (is_in_view dims view.depths code) refl refl
    where
      behind : is_some (value_at view.entries code) ≡ false → All HasTerms (listed_first dims view (kept (code ∷ codes))) → All HasTerms (listed_first dims view (kept codes))
      behind has each = subst (λ (b : Bool). All HasTerms (listed_first dims view (if b then code ∷ kept codes else kept codes))) has each

      by : (some inside : Bool) → is_some (value_at view.entries code) ≡ some → is_in_view dims view.depths code ≡ inside → All HasTerms (listed_first dims view (kept (code ∷ codes)))
          → (All HasTerms (listed_first dims view (kept codes)) → listed_first dims view (kept codes) ≡ entries codes) → listed_first dims view (kept (code ∷ codes)) ≡ entries (code ∷ codes)
      by true inside has is each rest = first inside is (All-head HasTerms (region_at dims code, entry_at view code) (listed_first dims view (kept codes)) whole) (rest (All-tail HasTerms (region_at dims code, entry_at view code) (listed_first dims view (kept codes)) whole))
        where
          whole : All HasTerms ((region_at dims code, entry_at view code) ∷ listed_first dims view (kept codes))
          whole = subst (λ (b : Bool). All HasTerms (listed_first dims view (if b then code ∷ kept codes else kept codes))) has each

          first : (inside : Bool) → is_in_view dims view.depths code ≡ inside → 1 ≤ length (entry_at view code).terms → listed_first dims view (kept codes) ≡ entries codes → listed_first dims view (kept (code ∷ codes)) ≡ entries (code ∷ codes)
          first true is some rest =
              let its = entry-in_view code is in
              let full : nat_lt 0 (length (answer (view.columns - 1) dims facts (region_at dims code))) ≡ true = ap (λ (t : TermList). nat_lt 0 (length t.terms)) (sym its) ∙ some-terms (entry_at view code) some in
              rw (has, is, full, its, rest) refl
          first false is some rest = absurd (not-empty (entry_at view code) (of.others code is) some)
      by false true has is each rest =
          let its = entry-in_view code is in
          let none : answer (view.columns - 1) dims facts (region_at dims code) ≡ [] = ap (λ (t : TermList). t.terms) (sym its) ∙ no-terms code (value_at view.entries code) refl has in
          rw (has, is, none) (rest (behind has each))
      by false false has is each rest = rw (has, is) (rest (behind has each))

  listed-entries : (codes : List ℕ) → All HasTerms (listed_first dims view (kept codes)) → listed_first dims view (kept codes) ≡ entries codes
  listed-entries [] each = refl
  listed-entries (code ∷ codes) each = listed-next code codes each (listed-entries codes)

  pub listed-in_order : All IsTree dims → IsViewOf dims view → All HasTerms (listed dims view) → listed dims view ≡ entries_of terms_of (cut_regions dims view.depths)
  listed-in_order trees over each =
      let codes : List ℕ = filter (is_in_view dims view.depths) (range_with_len 0 (region_total dims)) in
      listed-entries (range_with_len 0 (region_total dims)) each
      ∙ ap (filter (λ (entry : List ℕ × TermList). nat_lt 0 (length entry.1.terms))) (sym (map-map (λ (region : List ℕ). (region, terms_of region)) (region_at dims) codes))
      ∙ ap (entries_of terms_of) (cut_regions-coded dims view.depths trees over.depths)

-- where each entry that is kept has a term, so has each that is listed
pub listed-whole : (dims : List Dimension) (view : ViewMap) → AreEntries view.columns view.entries → All HasTerms (listed dims view)
listed-whole dims view whole = of_codes (range_with_len 0 (region_total dims))
  where
    held : (found : Option TermList) → IfSome found (IsEntry view.columns) → is_some found ≡ true → 1 ≤ length (unwrap_or found (no_terms view.columns)).terms
    held None entry some = absurd (grind arith)
    held (Some terms) entry some = entry.some

    of_codes : (codes : List ℕ) → All HasTerms (listed_first dims view (filter (λ code. is_some (value_at view.entries code)) codes))
    of_codes [] = All-nil HasTerms
    of_codes (code ∷ codes) = by (is_some (value_at view.entries code)) refl (of_codes codes)
      where
        by : (some : Bool) → is_some (value_at view.entries code) ≡ some → All HasTerms (listed_first dims view (filter (λ code. is_some (value_at view.entries code)) codes))
            → All HasTerms (listed_first dims view (filter (λ code. is_some (value_at view.entries code)) (code ∷ codes)))
        by true has rest = rw has (All-cons HasTerms (region_at dims code, entry_at view code) (listed_first dims view (filter (λ code. is_some (value_at view.entries code)) codes)) (held (value_at view.entries code) (whole.each code) has) rest)
        by false has rest = rw has rest

-- the regions of a view's codes are regions
coded-regions : (dims : List Dimension) (depths codes : List ℕ) → All IsTree dims → All (IsRegion dims) (map (region_at dims) (filter (is_in_view dims depths) codes))
coded-regions dims depths [] trees = All-nil (IsRegion dims)
coded-regions dims depths (code ∷ codes) trees = by (is_in_view dims depths code) refl (coded-regions dims depths codes trees)
  where
    by : (inside : Bool) → is_in_view dims depths code ≡ inside → All (IsRegion dims) (map (region_at dims) (filter (is_in_view dims depths) codes)) → All (IsRegion dims) (map (region_at dims) (filter (is_in_view dims depths) (code ∷ codes)))
    by false is rest = rw is rest
    by true is rest =
        let below = (both (nat_lt code (region_total dims)) (is_in_cuts dims depths (region_at dims code)) is).0 in
        rw is (All-cons (IsRegion dims) (region_at dims code) (map (region_at dims) (filter (is_in_view dims depths) codes)) (region_at-below dims code trees (grind (arith, nat_tests, below))).region rest)

-- the product of cuts is of regions
pub cut-regions : (dims : List Dimension) (depths : List ℕ) → All IsTree dims → length depths ≡ length dims → All (IsRegion dims) (cut_regions dims depths)
cut-regions dims depths trees deep = subst (All (IsRegion dims)) (cut_regions-coded dims depths trees deep) (coded-regions dims depths (range_with_len 0 (region_total dims)) trees)

-- and so are the entries in it
pub entries-regions : (terms_of : List ℕ → TermList) (dims : List Dimension) (depths : List ℕ) → All IsTree dims → length depths ≡ length dims → All (λ entry. IsRegion dims entry.0) (entries_of terms_of (cut_regions dims depths))
entries-regions terms_of dims depths trees deep =
    All-filter (λ (entry : List ℕ × TermList). nat_lt 0 (length entry.1.terms)) (λ entry. IsRegion dims entry.0) (map (λ (region : List ℕ). (region, terms_of region)) (cut_regions dims depths))
    (All-map (λ (entry : List ℕ × TermList). IsRegion dims entry.0) (λ (region : List ℕ). (region, terms_of region)) (cut_regions dims depths) (cut-regions dims depths trees deep))
