-- The codes over a cell at which an index of facts holds ids are those of the imprecise facts that cover the cell.
use Rattle.std.proofs.Common.{◌≡◌, ℕ, Bool, true, false, List, [], ◌∷◌, length, map, filter, not, refl, sym, ap, ◌∙◌, arith}
use Rattle.std.specs.Prelude.{◌&&◌, ◌||◌, ◌==◌, All, if◌then◌else◌, nat_lt, Some, slice_get}
use Rattle.std.specs.List.{list_any}
use Rattle.std.proofs.lemmas.Bool.Decides.{nat_tests}
use Rattle.std.proofs.lemmas.List.Elements.{All-head, All-tail}
use Rattle.cube_model.specs.declared.edit.Fact.{Fact}
use Rattle.cube_model.specs.Cells.{cells_of, is_among}
use Rattle.cube_model.specs.Facts.{is_precise}
use Rattle.cube_model.specs.Tree.{Dimension, IsTree}
use Rattle.region_algebra.specs.Space.{IsRegion, all_regions, code_of}
use Rattle.region_algebra.proofs.Tuples.{region-at_code}
use Rattle.region_index.specs.Patterns.{HasPatterns, KnowsPatterns, Patterns, is_known, knows, pattern_of}
use Rattle.region_index.specs.Content.{Content, held_codes, holds_ids}
use Rattle.region_index.specs.Indexed.{Indexes, covers_at, is_indexed_at}
use Rattle.region_index.specs.Over.{codes_over}
use Rattle.region_index.proofs.Changing.{among-filter}
use Rattle.region_index.proofs.Indexing.{over-code}

-- some are left of a list where some pass
some-passes : (p : Fact → Bool) (facts : List Fact) → nat_lt 0 (length (map (λ fact. fact.id) (filter p facts))) ≡ list_any p facts
some-passes p [] = refl
some-passes p (fact ∷ facts) = either (p fact) (some-passes p facts)
  where
    either : (b : Bool) → nat_lt 0 (length (map (λ (fact : Fact). fact.id) (filter p facts))) ≡ list_any p facts
        → nat_lt 0 (length (map (λ (fact : Fact). fact.id) (if b then fact ∷ filter p facts else filter p facts))) ≡ (b || list_any p facts)
    either true rest = grind (arith, nat_tests)
    either false rest = rest

-- a fact at a code over the cell covers the cell
covers-at : (dims : List Dimension) (cell code : ℕ) (facts : List Fact) → All IsTree dims → All (λ fact. IsRegion dims fact.region) facts
    → (list_any (is_indexed_at dims code) facts && is_among (codes_over dims cell) code) ≡ list_any (covers_at dims cell code) facts
covers-at dims cell code [] trees named = refl
covers-at dims cell code (fact ∷ facts) trees named =
    parts (code_of dims fact.region == code) (not (is_precise dims fact)) (is_among (cells_of dims fact.region) cell) (list_any (is_indexed_at dims code) facts) (is_among (codes_over dims cell) code) (list_any (covers_at dims cell code) facts)
    here (covers-at dims cell code facts trees (All-tail (λ (fact : Fact). IsRegion dims fact.region) fact facts named))
  where
    here : (code_of dims fact.region == code) ≡ true → is_among (codes_over dims cell) code ≡ is_among (cells_of dims fact.region) cell
    here is =
        let same : code_of dims fact.region ≡ code = grind (arith, nat_tests, is) in
        ap (is_among (codes_over dims cell)) (sym same) ∙ over-code dims cell fact.region trees (All-head (λ (fact : Fact). IsRegion dims fact.region) fact facts named)

    parts : (at imprecise inside others over rest : Bool) → (at ≡ true → over ≡ inside) → (others && over) ≡ rest → (((at && imprecise) || others) && over) ≡ (((inside && imprecise) && at) || rest)
    parts at imprecise inside others over rest same before = grind (arith, same, before)

-- an index holds an id at a code where an imprecise fact is there
holds_ids-facts : (dims : List Dimension) (facts : List Fact) (content : Content) (code : ℕ) → Indexes dims facts content → holds_ids content code ≡ list_any (is_indexed_at dims code) facts
holds_ids-facts dims facts content code indexes =
    ap (λ ids. nat_lt 0 (length ids)) (indexes.ids code) ∙ some-passes (is_indexed_at dims code) facts

pub held_codes-cover : (dims : List Dimension) (facts : List Fact) (content : Content) (cell code : ℕ) → All IsTree dims → All (λ fact. IsRegion dims fact.region) facts → Indexes dims facts content
    → is_among (held_codes content (codes_over dims cell)) code ≡ list_any (covers_at dims cell code) facts
held_codes-cover dims facts content cell code trees named indexes =
    among-filter (holds_ids content) (codes_over dims cell) code
    ∙ ap (λ b. b && is_among (codes_over dims cell) code) (holds_ids-facts dims facts content code indexes)
    ∙ covers-at dims cell code facts trees named

-- where an imprecise fact is at the code of a region, the region's pattern is known
known-at : (dims : List Dimension) (code : ℕ) (region : List ℕ) (facts : List Fact) (patterns : Patterns) → All IsTree dims → All (λ fact. IsRegion dims fact.region) facts → KnowsPatterns dims facts patterns
    → slice_get (all_regions dims) code ≡ Some region → list_any (is_indexed_at dims code) facts ≡ true → is_known patterns (pattern_of dims region) ≡ true
known-at dims code region [] patterns trees named knows_all at some = absurd (grind (arith, some))
known-at dims code region (fact ∷ facts) patterns trees named knows_all at some =
    here (code_of dims fact.region == code) refl (is_precise dims fact) (All-head (λ (f : Fact). knows dims patterns f ≡ true) fact facts knows_all) some
    (known-at dims code region facts patterns trees (All-tail (λ (fact : Fact). IsRegion dims fact.region) fact facts named) (All-tail (λ (f : Fact). knows dims patterns f ≡ true) fact facts knows_all) at)
  where
    here : (b : Bool) → (code_of dims fact.region == code) ≡ b → (precise : Bool) → (precise || is_known patterns (pattern_of dims fact.region)) ≡ true
        → ((b && not precise) || list_any (is_indexed_at dims code) facts) ≡ true → (list_any (is_indexed_at dims code) facts ≡ true → is_known patterns (pattern_of dims region) ≡ true)
        → is_known patterns (pattern_of dims region) ≡ true
    here true is false known either later =
        let code_is : code_of dims fact.region ≡ code = grind (arith, nat_tests, is) in
        let found : Some fact.region ≡ Some region = sym (region-at_code dims fact.region trees (All-head (λ (fact : Fact). IsRegion dims fact.region) fact facts named)) ∙ ap (slice_get (all_regions dims)) code_is ∙ at in
        let same : fact.region ≡ region = grind (arith, found) in
        ap (λ r. is_known patterns (pattern_of dims r)) (sym same) ∙ known
    here true is true known either later = later either
    here false is precise known either later = later either

-- so what is known of facts is known of the regions at which an index of them holds ids
pub HasPatterns-known : (dims : List Dimension) (facts : List Fact) (content : Content) (patterns : Patterns) → All IsTree dims → All (λ fact. IsRegion dims fact.region) facts
    → Indexes dims facts content → KnowsPatterns dims facts patterns → HasPatterns dims content patterns
HasPatterns-known dims facts content patterns trees named indexes knows_all = record {
  each = λ code region at held. known-at dims code region facts patterns trees named knows_all at (sym (holds_ids-facts dims facts content code indexes) ∙ held);
}
