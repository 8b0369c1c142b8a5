-- Whether there is a fact of an id.
use Rattle.std.proofs.Common.{◌≡◌, Bool, List, [], ◌∷◌, refl, arith}
use Rattle.std.specs.Prelude.{is_some}
use Rattle.std.specs.List.{find, list_any}

-- where a test passes, an element is found
pub is_some-find : {X : Type 0} (p : X → Bool) (xs : List X) → is_some (find p xs) ≡ list_any p xs
is_some-find p [] = refl
is_some-find p (x ∷ xs) = grind (arith, is_some-find p xs)
