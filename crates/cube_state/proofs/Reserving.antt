-- Room for what an edit gives: for its fact, and for groups by code.
use Rattle.std.proofs.Common.{◌≡◌, ℕ, ◌+◌, ◌<◌, ◌≤◌, Bool, true, false, List, [], ◌∷◌, refl, ap, sym, ◌∙◌, subst, take, get_or, length, arith}
use Rattle.std.specs.Prelude.{◌||◌, is_some, nat_lt, Option}
use Rattle.std.specs.Map.{keys_of}
use Rattle.std.proofs.lemmas.List.{get_or-map, take_all}
use Rattle.std.proofs.lemmas.Map.Entries.{length-keys_of}
use Rattle.std.proofs.lemmas.Bool.Decides.{nat_tests}
use Rattle.cube_model.specs.declared.edit.Edit.{Edit}
use Rattle.cube_model.specs.declared.edit.Edit.TheVariants.{Put, Change, Withdraw}
use Rattle.cube_model.specs.declared.edit.Fact.{Fact}
use Rattle.cube_model.specs.Facts.{has_id}
use Rattle.staged_map.specs.Staged.{Entries, Places, Reserves, have_places}
use Rattle.staged_map.proofs.Changes.{Reserves-next}
use Rattle.staged_map.proofs.Entries.{have_places-reserved}
use Rattle.fact_groups.specs.Edits.{given, taken}
use Rattle.cube_state.specs.Sets.{has_room}
use Rattle.cube_state.proofs.Accepting.{found-there}

-- where an edit takes a fact, the one that it gives comes in its place
pub room-taken : (edit : Edit) (facts : List Fact) (spare : ℕ) → is_some (taken edit facts) ≡ true → has_room edit facts spare ≡ true
room-taken (Put fact) facts spare there = rw (found-there fact.id facts, there) refl
room-taken (Change fact) facts spare there = rw (found-there fact.id facts, there) refl
room-taken (Withdraw id) facts spare there = refl

-- where it gives none, there is none to make room for
pub room-given : (edit : Edit) (facts : List Fact) (spare : ℕ) → is_some (given edit) ≡ false → has_room edit facts spare ≡ true
room-given (Put fact) facts spare none = cc
room-given (Change fact) facts spare none = cc
room-given (Withdraw id) facts spare none = refl

-- and where there is room there is
pub room-spare : (edit : Edit) (facts : List Fact) (spare : ℕ) → 0 < spare → has_room edit facts spare ≡ true
room-spare (Put fact) facts spare some = either (has_id fact.id facts)
  where
    either : (b : Bool) → (b || nat_lt 0 spare) ≡ true
    either b = grind (arith, nat_tests, some)
room-spare (Change fact) facts spare some = either (has_id fact.id facts)
  where
    either : (b : Bool) → (b || nat_lt 0 spare) ≡ true
    either b = grind (arith, nat_tests, some)
room-spare (Withdraw id) facts spare some = refl

-- the codes of entries, one behind the other
module _ {V : Type 0} (old between new : Places V) (entries : Entries V) (i : ℕ) (entry : ℕ × Option V) (within : i < length entries) (is : entry ≡ get_or entries i entry) where
  pub places-next : Reserves old between (take i (keys_of entries)) → Reserves between new (entry.0 ∷ []) → Reserves old new (take (i + 1) (keys_of entries))
  places-next before last =
      let here : get_or (keys_of entries) i 0 ≡ entry.0 = get_or-map (λ (e : ℕ × Option V). e.0) entries i entry 0 within ∙ ap (λ (e : ℕ × Option V). e.0) (sym is) in
      let inside : i < length (keys_of entries) = omega (arith, length-keys_of entries, within) in
      Reserves-next old new between (keys_of entries) i inside before (subst (λ k. Reserves between new (k ∷ [])) (sym here) last)

-- all of them
pub places-all : {V : Type 0} (old new : Places V) (entries : Entries V) (i : ℕ) → length entries ≤ i → Reserves old new (take i (keys_of entries)) → have_places new entries ≡ true
places-all old new entries i over reserves =
    have_places-reserved new old entries (subst (Reserves old new) (take_all i (keys_of entries) (omega (arith, length-keys_of entries, over))) reserves)
