-- A list that is copied item by item.
use Rattle.std.proofs.Common.{◌≡◌, ℕ, ◌+◌, List, [], ◌∷◌, ◌++◌, take, ap, sym, ◌∙◌}
use Rattle.std.specs.Prelude.{Some, slice_get}
use Rattle.std.proofs.lemmas.List.{take_more}
use Rattle.std.proofs.lemmas.Option.{get_or_from_slice_get, slice_get_within}

-- one item more, as it is read
pub take-read : {X : Type 0} (xs : List X) (i : ℕ) (x : X) → slice_get xs i ≡ Some x → take (i + 1) xs ≡ take i xs ++ x ∷ []
take-read xs i x read = take_more xs i x (slice_get_within xs i x read) ∙ ap (λ y. take i xs ++ y ∷ []) (get_or_from_slice_get xs i x x read)

-- so a copy of those before it is one of those up to it
pub copy-next : {X : Type 0} (xs copy more : List X) (i : ℕ) (x : X) → slice_get xs i ≡ Some x → copy ≡ take i xs → more ≡ copy ++ x ∷ [] → more ≡ take (i + 1) xs
copy-next xs copy more i x read so_far one = one ∙ ap (λ ys. ys ++ x ∷ []) so_far ∙ sym (take-read xs i x read)
