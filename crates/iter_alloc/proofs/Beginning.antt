-- Precise facts are added to the places of their cells.
use Rattle.cube_model.specs.declared.edit.Fact.{Fact}
use Rattle.cube_model.specs.Cells.{cells_of, is_among}
use Rattle.cube_model.specs.Facts.{lies_at}
use Rattle.cube_model.specs.Limits.{MAX_FACTS}
use Rattle.cube_model.specs.Tree.{Dimension}
use Rattle.iter_alloc.proofs.PlaceSums.{raised-at}
use Rattle.iter_alloc.proofs.Tests.{equal, itself, unequal}
use Rattle.iter_alloc.specs.Counting.{ArePlacedIn}
use Rattle.iter_alloc.specs.Forest.{at}
use Rattle.iter_alloc.specs.LaidOut.{AreOwnPlaces}
use Rattle.iter_alloc.specs.Places.{IsRaised}
use Rattle.iter_alloc.specs.Rounds.{WHOLE_FACT, start}
use Rattle.iter_alloc.specs.Spotting.{place_in}
use Rattle.region_algebra.specs.Space.{IsRegion, only_cell}
use Rattle.std.proofs.Common.{◌≡◌, ℕ, ◌+◌, ◌*◌, ◌<◌, ◌≤◌, Bool, true, false, List, [], ◌∷◌, get_or, set, length, map, refl, ap, sym, ◌∙◌, subst, arith}
use Rattle.std.proofs.lemmas.Bool.Decides.{nat_tests}
use Rattle.std.proofs.lemmas.List.{length-map, length-set, get_or-map, same_lists, get_or_default}
use Rattle.std.proofs.lemmas.List.Elements.{All-head, All-tail}
use Rattle.std.proofs.lemmas.List.Quantifiers.{position-Some}
use Rattle.std.proofs.lemmas.List.Sums.{sum_by-cons, fails_before_first}
use Rattle.std.specs.List.{count_by, position_or_len}
use Rattle.std.specs.Prelude.{All, Some, None, if◌then◌else◌, ◌==◌, ◌&&◌, ◌||◌, nat_eq, nat_lt, position}

-- and one that is in one lies there
pub lies-some : (dims : List Dimension) (f : Fact) (cell : ℕ) → only_cell (cells_of dims f.region) ≡ Some cell → (c : ℕ) → lies_at dims c f ≡ (cell == c)
lies-some dims f cell some c = at-cells (cells_of dims f.region) some
  where
    or-false : (b : Bool) → (b || false) ≡ b
    or-false true = refl
    or-false false = refl

    at-cells : (cells : List ℕ) → only_cell cells ≡ Some cell → ((length cells == 1) && is_among cells c) ≡ (cell == c)
    at-cells [] is = cc
    at-cells (x ∷ []) is = let same : x ≡ cell = cc is in or-false (x == c) ∙ ap (λ n. n == c) same
    at-cells (x ∷ y ∷ cells) is = cc

-- the place of a cell tells it from others
pub place-tells : (keys : List ℕ) (cell p : ℕ) → AreOwnPlaces keys → position (nat_eq cell) keys ≡ Some p → (i : ℕ) → i < length keys → (cell == at keys i) ≡ (p == i)
place-tells keys cell p own is i within = either (p == i) refl
  where
    found : (p < length keys) × (nat_eq cell (get_or keys p 0) ≡ true)
    found = let some = position-Some (nat_eq cell) keys p 0 is in (some.0, some.1)

    here : cell ≡ at keys p
    here = equal cell (at keys p) found.1

    either : (b : Bool) → (p == i) ≡ b → (cell == at keys i) ≡ b
    either true same = ap (λ c. c == at keys i) here ∙ ap (λ k. at keys k == at keys i) (equal p i same) ∙ itself (at keys i)
    either false other =
        unequal cell (at keys i) (λ same. absurd (cc (other, itself i, ap (λ k. k == i) (sym (own.own p found.0) ∙ ap (place_in keys) (sym here ∙ same) ∙ own.own i within))))

pub place-absent : (keys : List ℕ) (cell : ℕ) → position (nat_eq cell) keys ≡ None → (i : ℕ) → i < length keys → (cell == at keys i) ≡ false
place-absent keys cell is i within = fails_before_first (nat_eq cell) keys i 0 (omega (arith, behind, within))
  where
    past : (b : Bool) → nat_lt (position_or_len (nat_eq cell) keys) (length keys) ≡ b → (if b then Some (position_or_len (nat_eq cell) keys) else None) ≡ None → length keys ≤ position_or_len (nat_eq cell) keys
    past true under none = cc
    past false under none = grind (arith, nat_tests)

    behind : length keys ≤ position_or_len (nat_eq cell) keys
    behind = past (nat_lt (position_or_len (nat_eq cell) keys) (length keys)) refl is

pub raised-one : (raise : ℕ → ℕ) (old : List ℕ) (p more : ℕ) → p < length old → ((i : ℕ) → i < length old → raise i ≡ (if p == i then more else 0)) → IsRaised raise old (set old p (at old p + more))
raised-one raise old p more inside is = record {
  as_many = length-set old p (at old p + more);
  each = λ i within. omega (arith, is i within, raised-at old p i more inside);
}

-- what is added, and what is left to add, are all
pub record Beginning (dims : List Dimension) (keys : List ℕ) (facts left : List Fact) (begun : List ℕ) : Type 0 where
  pub as_many : length begun ≡ length keys
  pub regions : All (λ fact. IsRegion dims fact.region) left
  pub few : length facts ≤ MAX_FACTS
  pub each : (i : ℕ) → i < length keys → at begun i + WHOLE_FACT * count_by (lies_at dims (at keys i)) left ≡ start dims facts (at keys i)

module _ (dims : List Dimension) (keys : List ℕ) (facts : List Fact) where
  pub begin-start : (left : List Fact) (begun : List ℕ) → ArePlacedIn dims facts → left ≡ facts → length begun ≡ length keys → ((i : ℕ) → i < length keys → at begun i ≡ 0) → Beginning dims keys facts left begun
  begin-start left begun placed is long none =
      subst (λ (fs : List Fact). Beginning dims keys facts fs begun) (sym is) (record { as_many = long; regions = placed.regions; few = placed.few; each = λ i within. omega (arith, none i within) })

  module _ (left : List Fact) (begun : List ℕ) (beginning : Beginning dims keys facts left begun) where
    module _ (f : Fact) (others : List Fact) (first : left ≡ f ∷ others) where
      pub begin-region : IsRegion dims f.region
      begin-region = All-head (λ fact. IsRegion dims fact.region) f others (subst (λ (fs : List Fact). All (λ fact. IsRegion dims fact.region) fs) first beginning.regions)

      next-count : (c : ℕ) → count_by (lies_at dims c) left ≡ (if lies_at dims c f then 1 else 0) + count_by (lies_at dims c) others
      next-count c = ap (λ (fs : List Fact). count_by (lies_at dims c) fs) first ∙ sum_by-cons (λ g. if lies_at dims c g then 1 else 0) f others

      pub begin-next : (raised : List ℕ) → IsRaised (λ i. if lies_at dims (at keys i) f then WHOLE_FACT else 0) begun raised → Beginning dims keys facts others raised
      begin-next raised adds = record {
        as_many = adds.as_many ∙ beginning.as_many;
        regions = All-tail (λ fact. IsRegion dims fact.region) f others (subst (λ (fs : List Fact). All (λ fact. IsRegion dims fact.region) fs) first beginning.regions);
        few = beginning.few;
        each = λ i within. one i (lies_at dims (at keys i) f) (adds.each i (omega (arith, within, beginning.as_many))) (next-count (at keys i)) (beginning.each i within);
      }
        where
          one : (i : ℕ) (b : Bool) → at raised i ≡ at begun i + (if b then WHOLE_FACT else 0) → count_by (lies_at dims (at keys i)) left ≡ (if b then 1 else 0) + count_by (lies_at dims (at keys i)) others
              → at begun i + WHOLE_FACT * count_by (lies_at dims (at keys i)) left ≡ start dims facts (at keys i) → at raised i + WHOLE_FACT * count_by (lies_at dims (at keys i)) others ≡ start dims facts (at keys i)
          one i true more counts all = omega (arith, more, counts, all)
          one i false more counts all = omega (arith, more, counts, all)

    pub begin-all : left ≡ [] → begun ≡ map (start dims facts) keys
    begin-all none = same_lists begun (map (start dims facts) keys) (beginning.as_many ∙ sym (length-map keys (start dims facts))) (λ k d within. each k d (omega (arith, within, beginning.as_many)) within)
      where
        each : (k d : ℕ) → k < length keys → k < length begun → get_or begun k d ≡ get_or (map (start dims facts) keys) k d
        each k d inside within =
            get_or_default begun k d 0 within ∙ omega (arith, beginning.each k inside, ap (λ (fs : List Fact). count_by (lies_at dims (at keys k)) fs) none) ∙ sym (get_or-map (start dims facts) keys k 0 d inside)
