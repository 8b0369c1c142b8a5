-- An index of facts gives, over a cell, the facts that cover it.
use Rattle.std.proofs.Common.{◌≡◌, ℕ, Bool, true, false, List, [], ◌∷◌, map, filter, not, refl, sym, ap, ◌∙◌, arith}
use Rattle.std.specs.Prelude.{◌&&◌, ◌||◌, ◌==◌, All, if◌then◌else◌}
use Rattle.std.specs.List.{list_any}
use Rattle.std.proofs.lemmas.Bool.Decides.{nat_tests}
use Rattle.std.proofs.lemmas.List.Elements.{All-head, All-tail}
use Rattle.cube_model.specs.declared.edit.Fact.{Fact}
use Rattle.cube_model.specs.Ascending.{ascends_from}
use Rattle.cube_model.specs.Cells.{cells_of, is_among}
use Rattle.cube_model.specs.Facts.{is_precise}
use Rattle.cube_model.specs.Tree.{Dimension, IsTree}
use Rattle.cube_model.proofs.Ascending.{ascends_filter, ascends_map, same_members}
use Rattle.region_algebra.specs.Space.{IsRegion, all_regions, code_of}
use Rattle.region_algebra.proofs.Tuples.{region-at_code}
use Rattle.region_index.specs.Changes.{Applies, Pair, is_named}
use Rattle.region_index.specs.Content.{AreAscending, AreIdsAt, Content, ids_at}
use Rattle.region_index.specs.Indexed.{Indexes, covers, has_at, ids_that_cover, is_indexed_at}
use Rattle.region_index.specs.Over.{codes_over}
use Rattle.region_index.proofs.Changing.{among-after, ascends-after}
use Rattle.region_index.proofs.Places.{among-places}

-- an id is among those of the facts that pass where a fact that passes has it
among-ids : (p : Fact → Bool) (facts : List Fact) (id : ℕ) → is_among (map (λ fact. fact.id) (filter p facts)) id ≡ list_any (λ fact. p fact && fact.id == id) facts
among-ids p [] id = refl
among-ids p (fact ∷ facts) id = either (p fact) (among-ids p facts id)
  where
    either : (b : Bool) → is_among (map (λ fact. fact.id) (filter p facts)) id ≡ list_any (λ fact. p fact && fact.id == id) facts
        → is_among (map (λ (fact : Fact). fact.id) (if b then fact ∷ filter p facts else filter p facts)) id ≡ ((b && fact.id == id) || list_any (λ fact. p fact && fact.id == id) facts)
    either true rest = ap (λ b. (fact.id == id) || b) rest
    either false rest = rest

-- some item passes one of two tests where some passes the one or some the other
any-either : (p q : ℕ → Bool) (xs : List ℕ) → list_any (λ x. p x || q x) xs ≡ (list_any p xs || list_any q xs)
any-either p q [] = refl
any-either p q (x ∷ xs) = rw (any-either p q xs) (four (p x) (q x) (list_any p xs) (list_any q xs))
  where
    four : (a b c d : Bool) → ((a || b) || (c || d)) ≡ ((a || c) || (b || d))
    four a b c d = grind arith

any-never : {X : Type 0} (xs : List X) → list_any (λ x. false) xs ≡ false
any-never [] = refl
any-never (x ∷ xs) = any-never xs

-- a fact of a code is at one of the codes where the code is one of them
at-one : (code : ℕ) (imprecise named : Bool) (codes : List ℕ) → list_any (λ c. (code == c && imprecise) && named) codes ≡ ((is_among codes code && imprecise) && named)
at-one code imprecise named [] = refl
at-one code imprecise named (c ∷ codes) =
    let flip : (code == c) ≡ (c == code) = grind (arith, nat_tests) in
    rw (at-one code imprecise named codes, flip) (parts (c == code) (is_among codes code))
  where
    parts : (a b : Bool) → (((a && imprecise) && named) || ((b && imprecise) && named)) ≡ (((a || b) && imprecise) && named)
    parts a b = grind arith

-- the code of a region is over a cell where the cell is the region's
pub over-code : (dims : List Dimension) (cell : ℕ) (region : List ℕ) → All IsTree dims → IsRegion dims region → is_among (codes_over dims cell) (code_of dims region) ≡ is_among (cells_of dims region) cell
unfolding codes_over
over-code dims cell region trees named =
    among-places (λ region. is_among (cells_of dims region) cell) 0 (code_of dims region) (code_of dims region) (all_regions dims) region (omega arith) (region-at_code dims region trees named)

-- some code over the cell has an imprecise fact of this id where some fact of the id covers the cell
at-codes : (dims : List Dimension) (cell id : ℕ) (facts : List Fact) → All IsTree dims → All (λ fact. IsRegion dims fact.region) facts
    → list_any (λ code. list_any (λ fact. is_indexed_at dims code fact && fact.id == id) facts) (codes_over dims cell) ≡ list_any (λ fact. covers dims cell fact && fact.id == id) facts
at-codes dims cell id [] trees named = any-never (codes_over dims cell)
at-codes dims cell id (fact ∷ facts) trees named =
    any-either (λ code. is_indexed_at dims code fact && fact.id == id) (λ code. list_any (λ fact. is_indexed_at dims code fact && fact.id == id) facts) (codes_over dims cell)
    ∙ rw (at-one (code_of dims fact.region) (not (is_precise dims fact)) (fact.id == id) (codes_over dims cell), over-code dims cell fact.region trees (All-head (λ (fact : Fact). IsRegion dims fact.region) fact facts named), at-codes dims cell id facts trees (All-tail (λ (fact : Fact). IsRegion dims fact.region) fact facts named)) refl

any-same : (p q : ℕ → Bool) (xs : List ℕ) → ((x : ℕ) → p x ≡ q x) → list_any p xs ≡ list_any q xs
any-same p q [] each = refl
any-same p q (x ∷ xs) each = rw (each x, any-same p q xs each) refl

pub ids-cover : (dims : List Dimension) (facts : List Fact) (content : Content) (cell : ℕ) (ids : List ℕ) → All IsTree dims → All (λ fact. IsRegion dims fact.region) facts
    → ascends_from (λ fact. fact.id) 0 facts ≡ true → Indexes dims facts content → AreIdsAt content (codes_over dims cell) ids → ids ≡ ids_that_cover dims cell facts
ids-cover dims facts content cell ids trees named ascends indexes are =
    same_members 0 0 ids (ids_that_cover dims cell facts) are.ascending
    (ascends_map (λ id. id) (λ (fact : Fact). fact.id) 0 (filter (covers dims cell) facts) ∙ ascends_filter (λ (fact : Fact). fact.id) (covers dims cell) 0 facts ascends)
    (λ id.
    are.exact id
    ∙ any-same (λ code. is_among (ids_at content code) id) (λ code. list_any (λ fact. is_indexed_at dims code fact && fact.id == id) facts) (codes_over dims cell)
    (λ code. ap (λ ids. is_among ids id) (indexes.ids code) ∙ among-ids (is_indexed_at dims code) facts id)
    ∙ at-codes dims cell id facts trees named
    ∙ sym (among-ids (covers dims cell) facts id))

-- the ids of the facts at a code ascend as the facts do
ascends-at : (dims : List Dimension) (facts : List Fact) (code : ℕ) → ascends_from (λ fact. fact.id) 0 facts ≡ true → AreAscending (map (λ fact. fact.id) (filter (is_indexed_at dims code) facts))
ascends-at dims facts code ascends =
    ascends_map (λ id. id) (λ (fact : Fact). fact.id) 0 (filter (is_indexed_at dims code) facts) ∙ ascends_filter (λ (fact : Fact). fact.id) (is_indexed_at dims code) 0 facts ascends

pub Indexes-applied : (dims : List Dimension) (before after : List Fact) (old new : Content) (puts drops : List Pair) → ascends_from (λ fact. fact.id) 0 before ≡ true → ascends_from (λ fact. fact.id) 0 after ≡ true
    → ((code id : ℕ) → has_at dims code id after ≡ (is_named puts code id || (has_at dims code id before && not (is_named drops code id))))
    → Indexes dims before old → Applies old new puts drops → Indexes dims after new
Indexes-applied dims before after old new puts drops ascends rises follow indexes applies = record {
  ids = λ code.
      let was : AreAscending (ids_at old code) = rw (indexes.ids code) (ascends-at dims before code ascends) in
      let is : AreAscending (ids_at new code) = rw (applies.ids code) (ascends-after puts drops code (ids_at old code) was) in
      same_members 0 0 (ids_at new code) (map (λ fact. fact.id) (filter (is_indexed_at dims code) after)) is (ascends-at dims after code rises) (λ id.
      let held : is_among (ids_at old code) id ≡ has_at dims code id before = ap (λ ids. is_among ids id) (indexes.ids code) ∙ among-ids (is_indexed_at dims code) before id in
      ap (λ ids. is_among ids id) (applies.ids code)
      ∙ among-after puts drops code (ids_at old code) id
      ∙ ap (λ b. is_named puts code id || (b && not (is_named drops code id))) held
      ∙ sym (follow code id)
      ∙ sym (among-ids (is_indexed_at dims code) after id));
}
