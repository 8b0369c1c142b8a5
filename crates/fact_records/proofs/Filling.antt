-- Items written one by one behind others.
use Rattle.std.proofs.Common.{◌≡◌, ℕ, ◌+◌, ◌<◌, List, [], ◌∷◌, ◌++◌, length, take, set, Some, sym, ap, ◌∙◌}
use Rattle.std.specs.Prelude.{slice_get}
use Rattle.std.proofs.lemmas.List.{append_assoc, take_more, take_more_set}
use Rattle.std.proofs.lemmas.Option.{get_or_from_slice_get, slice_get_within}

-- the items up to a place, and the item at that place
take-slice_get : {X : Type 0} (items : List X) (i : ℕ) (x : X) → slice_get items i ≡ Some x → take (i + 1) items ≡ take i items ++ x ∷ []
take-slice_get items i x at =
    take_more items i x (slice_get_within items i x at) ∙ ap (λ y. take i items ++ y ∷ []) (get_or_from_slice_get items i x x at)

-- behind the front and the items up to a place the item at that place is written
pub filled-more : {X : Type 0} (front items places : List X) (end i : ℕ) (x : X) → take end places ≡ front ++ take i items → end < length places → slice_get items i ≡ Some x
    → take (end + 1) (set places end x) ≡ front ++ take (i + 1) items
filled-more front items places end i x before within at =
    take_more_set places end x within
    ∙ ap (λ l. l ++ x ∷ []) before
    ∙ append_assoc front (take i items) (x ∷ [])
    ∙ ap (λ l. front ++ l) (sym (take-slice_get items i x at))
