-- A key that a set lacks, put in at a place.
use Rattle.std.proofs.Common.{◌≡◌, ℕ, ◌≤◌, Bool, false, List, [], ◌∷◌, ◌++◌, insert, length, map, string_bytes, String, if◌then◌else◌, refl, ap, ◌∙◌, arith}
use Rattle.std.specs.List.{list_any, position_or_len}
use Rattle.std.proofs.lemmas.Bool.Decides.{nat_tests}
use Rattle.indexmap.specs.IndexMap.{index_before, move_index}
use Rattle.indexmap.proofs.MoveLemmas.{push_moved}
use Rattle.indexmap.proofs.SetLemmas.{map-insert}

-- a search for what is not there ends behind the last
absent_len : {X : Type 0} (p : X → Bool) (xs : List X) → list_any p xs ≡ false → position_or_len p xs ≡ length xs
absent_len p [] absent = refl
absent_len p (x ∷ xs) absent = grind (arith, absent_len p xs)

-- before a place among the keys
before_place : (n place : ℕ) → place ≤ n → index_before n place ≡ place
before_place n place within = grind (arith, nat_tests)

-- a new key lands at its place
pub key_put : {X : Type 0} (p : X → Bool) (keys : List X) (key : X) (place : ℕ) → list_any p keys ≡ false → place ≤ length keys
    → move_index (if list_any p keys then keys else keys ++ key ∷ []) (position_or_len p keys) (index_before (position_or_len p keys) place) ≡ insert keys place key
key_put p keys key place absent within =
    ap (λ b. move_index (if b then keys else keys ++ key ∷ []) (position_or_len p keys) (index_before (position_or_len p keys) place)) absent ∙ ap (λ n. move_index (keys ++ key ∷ []) n (index_before n place)) (absent_len p keys absent)
    ∙ ap (move_index (keys ++ key ∷ []) (length keys)) (before_place (length keys) place within) ∙ push_moved keys key place within

-- and so do its bytes
pub name_put : {A : Type 0} (keys : List (String A)) (text : String A) (place : ℕ) → map string_bytes (insert keys place text) ≡ insert (map string_bytes keys) place (string_bytes text)
name_put keys text place = map-insert string_bytes keys place text
