-- The patterns of regions whose codes an index holds are known where they were noted.
use Rattle.std.proofs.Common.{◌≡◌, ℕ, Bool, true, false, List, [], ◌∷◌, ◌++◌, sym, ap, ◌∙◌, refl, subst, arith}
use Rattle.std.specs.Prelude.{◌||◌, ◌==◌, Some, slice_get, unwrap_or}
use Rattle.std.specs.List.{list_any}
use Rattle.std.proofs.lemmas.Bool.Decides.{nat_tests}
use Rattle.std.proofs.lemmas.List.{append-nil}
use Rattle.std.proofs.lemmas.List.Folds.{list_any-append}
use Rattle.cube_model.specs.Tree.{Dimension}
use Rattle.region_algebra.specs.Space.{all_regions}
use Rattle.region_index.proofs.Changing.{after-none}
use Rattle.region_index.proofs.Noting.{known-kept, known-noted}
use Rattle.region_index.specs.Changes.{Applies, IsUnchanged, Pair}
use Rattle.region_index.specs.Content.{Content, holds_ids, ids_at}
use Rattle.region_index.specs.Patterns.{HasPatterns, Patterns, is_known, noted, pattern_of}
use Rattle.library_tests.specs.Noted.{AreNoted}

-- one more id at the code of a region, whose pattern is noted
AreNoted-next : (dims : List Dimension) (pairs : List Pair) (patterns : Patterns) (code id : ℕ) (region : List ℕ) → slice_get (all_regions dims) code ≡ Some region
    → AreNoted dims pairs patterns → AreNoted dims (pairs ++ (code, id) ∷ []) (noted patterns (pattern_of dims region))
AreNoted-next dims pairs patterns code id region at known other named is any =
    let either : (list_any (λ (pair : Pair). pair.0 == other) pairs || (code == other || false)) ≡ true = sym (list_any-append (λ (pair : Pair). pair.0 == other) pairs ((code, id) ∷ [])) ∙ any in
    by (code == other) refl (list_any (λ (pair : Pair). pair.0 == other) pairs) refl either
  where
    by : (here : Bool) → (code == other) ≡ here → (before : Bool) → list_any (λ (pair : Pair). pair.0 == other) pairs ≡ before → (before || (here || false)) ≡ true
        → is_known (noted patterns (pattern_of dims region)) (pattern_of dims named) ≡ true
    by true same before was either =
        let codes : code ≡ other = grind (arith, nat_tests, same) in
        let regions_same : Some region ≡ Some named = sym at ∙ ap (slice_get (all_regions dims)) codes ∙ is in
        let patterns_same : pattern_of dims region ≡ pattern_of dims named = ap (λ found. pattern_of dims (unwrap_or found [])) regions_same in
        ap (is_known (noted patterns (pattern_of dims region))) (sym patterns_same) ∙ known-noted patterns (pattern_of dims region)
    by false other_code true was either = known-kept patterns (pattern_of dims region) (pattern_of dims named) (known other named is was)
    by false other_code false was either = absurd (grind (arith, either))

-- so where a region is placed, it is noted
pub AreNoted-placed : (dims : List Dimension) (pairs more : List Pair) (patterns later : Patterns) (code id : ℕ) (region : List ℕ) → slice_get (all_regions dims) code ≡ Some region
    → AreNoted dims pairs patterns → more ≡ pairs ++ (code, id) ∷ [] → later ≡ noted patterns (pattern_of dims region) → AreNoted dims more later
AreNoted-placed dims pairs more patterns later code id region at known put note =
    subst (λ (ps : List Pair). AreNoted dims ps later) (sym put) (subst (AreNoted dims (pairs ++ (code, id) ∷ [])) (sym note) (AreNoted-next dims pairs patterns code id region at known))

-- where ids are held after they are put where none were, one was put
named-held : (pairs : List Pair) (old new : Content) (code : ℕ) → ids_at old code ≡ [] → Applies old new pairs [] → holds_ids new code ≡ true → list_any (λ (pair : Pair). pair.0 == code) pairs ≡ true
named-held pairs old new code none applies holds = by (list_any (λ (pair : Pair). pair.0 == code) pairs) refl
  where
    by : (b : Bool) → list_any (λ (pair : Pair). pair.0 == code) pairs ≡ b → b ≡ true
    by true named = refl
    by false apart =
        let no_pair : list_any (λ (pair : Pair). pair.0 == code) (pairs ++ []) ≡ false = ap (list_any (λ (pair : Pair). pair.0 == code)) (append-nil pairs) ∙ apart in
        let empty : ids_at new code ≡ [] = applies.ids code ∙ after-none pairs [] code (ids_at old code) no_pair ∙ none in
        absurd (grind (arith, empty, holds))

pub HasPatterns-first : (dims : List Dimension) (pairs puts drops : List Pair) (empty staged new : Content) (patterns : Patterns) → AreNoted dims pairs patterns
    → empty ≡ [] → IsUnchanged empty staged → Applies staged new puts drops → puts ≡ pairs → drops ≡ [] → HasPatterns dims new patterns
HasPatterns-first dims pairs puts drops empty staged new patterns known empty_is ids_same applies puts_are drops_are = record {
  each = λ code region at holds.
      let here : Applies staged new pairs [] = subst (λ (ps : List Pair). Applies staged new ps []) puts_are (subst (Applies staged new puts) drops_are applies) in
      let no_ids : ids_at staged code ≡ [] = ap (λ found. unwrap_or found []) (ids_same.values code) ∙ ap (λ (c : Content). ids_at c code) empty_is in
      known code region at (named-held pairs staged new code no_ids here holds);
}
