-- An index that is made of the places of facts is one of the facts.
use Rattle.std.proofs.Common.{◌≡◌, ℕ, Bool, true, false, List, [], ◌∷◌, ◌++◌, refl, ap, sym, subst, ◌∙◌, arith}
use Rattle.std.specs.Prelude.{All, ◌&&◌, ◌||◌, ◌==◌, unwrap_or}
use Rattle.std.proofs.lemmas.List.Elements.{All-tail}
use Rattle.std.proofs.lemmas.List.{append_assoc}
use Rattle.cube_model.specs.declared.edit.Fact.{Fact}
use Rattle.cube_model.specs.Facts.{is_precise}
use Rattle.cube_model.specs.Tree.{Dimension}
use Rattle.region_algebra.specs.Space.{IsRegion, code_of}
use Rattle.staged_map.specs.Staged.{value_at}
use Rattle.region_index.specs.Changes.{Applies, IsUnchanged, Pair, is_named}
use Rattle.region_index.specs.Content.{Content}
use Rattle.region_index.specs.Indexed.{Indexes, has_at}
use Rattle.region_index.proofs.Indexing.{Indexes-applied}
use Rattle.fact_groups.proofs.Ascending.{ascends-from_pairs}
use Rattle.fact_records.specs.FactList.{IsAscending}
use Rattle.fact_indexes.specs.Placed.{places_of}

-- Of some of the facts the places are gathered, and the others are left.
pub record IsGathering (dims : List Dimension) (facts others : List Fact) (places : List Pair) : Type 0 where
  pub all : places ++ places_of dims others ≡ places_of dims facts
  pub regions : All (λ f. IsRegion dims f.region) others

-- the place of one, if it has one, stands before those of the others
places-cons : (dims : List Dimension) (fact : Fact) (facts : List Fact) → places_of dims (fact ∷ facts) ≡ places_of dims (fact ∷ []) ++ places_of dims facts
places-cons dims fact facts = either (is_precise dims fact) refl
  where
    either : (b : Bool) → is_precise dims fact ≡ b → places_of dims (fact ∷ facts) ≡ places_of dims (fact ∷ []) ++ places_of dims facts
    either true is = rw is refl
    either false is = rw is refl

-- one more is looked at
pub IsGathering-next : (dims : List Dimension) (facts left : List Fact) (fact : Fact) (others : List Fact) → left ≡ fact ∷ others → (old new : List Pair) → IsGathering dims facts left old → new ≡ old ++ places_of dims (fact ∷ []) → IsGathering dims facts others new
IsGathering-next dims facts left fact others first old new gathering gathered = record {
  all =
      ap (λ ps. ps ++ places_of dims others) gathered
      ∙ append_assoc old (places_of dims (fact ∷ [])) (places_of dims others)
      ∙ ap (λ ps. old ++ ps) (sym (places-cons dims fact others))
      ∙ ap (λ some. old ++ places_of dims some) (sym first)
      ∙ gathering.all;
  regions = All-tail (λ f. IsRegion dims f.region) fact others (subst (λ some. All (λ f. IsRegion dims f.region) some) first gathering.regions);
}

-- an id is named at a code exactly where an imprecise fact of the id has a region of the code
has-named : (dims : List Dimension) (facts : List Fact) (code id : ℕ) → has_at dims code id facts ≡ is_named (places_of dims facts) code id
has-named dims [] code id = refl
has-named dims (f ∷ facts) code id = either (is_precise dims f) refl (has-named dims facts code id)
  where
    lone : (a b : Bool) → (a && false && b) ≡ false
    lone true b = refl
    lone false b = refl

    both : (a b : Bool) → (a && true && b) ≡ (a && b)
    both true b = refl
    both false b = refl

    either : (b : Bool) → is_precise dims f ≡ b → has_at dims code id facts ≡ is_named (places_of dims facts) code id → has_at dims code id (f ∷ facts) ≡ is_named (places_of dims (f ∷ facts)) code id
    either true is rest = rw (is, lone (code_of dims f.region == code) (f.id == id)) rest
    either false is rest = rw (is, both (code_of dims f.region == code) (f.id == id), rest) refl

or-false : (b : Bool) → b ≡ (b || false)
or-false true = refl
or-false false = refl

-- an index in which nothing is held becomes one of the facts: whatever is dropped, none was there
pub Indexes-placed : (dims : List Dimension) (facts : List Fact) → IsAscending facts → (none old new : Content) (puts drops : List Pair) → none ≡ [] → IsUnchanged none old → puts ≡ places_of dims facts → Applies old new puts drops → Indexes dims facts new
Indexes-placed dims facts up none old new puts drops nothing unchanged placed applies =
    Indexes-applied dims [] facts old new puts drops refl (ascends-from_pairs (λ (f : Fact). f.id) 0 facts up (λ k d within. omega arith))
    (λ code id. has-named dims facts code id ∙ ap (λ ps. is_named ps code id) (sym placed) ∙ or-false (is_named puts code id))
    (record { ids = λ code. ap (λ ids. unwrap_or ids []) (unchanged.values code ∙ ap (λ c. value_at c code) nothing) })
    applies
