-- Where a key stands among items, or where it would go. What is read past the end of the items is the default.
use Rattle.std.specs.Prelude.{◌≡◌, ℕ, ◌<◌, ◌≤◌, List, length, slice_index_or}

-- the item at the place has the key
pub record IsKeyAt {X : Type 0} (key : X → ℕ) (default : X) (items : List X) (k place : ℕ) : Type 0 where
  pub in_range : place < length items
  pub has_key : key (slice_index_or items place default) ≡ k

-- no item has the key, and one would go to the place: smaller keys stand before it, and greater ones from it on
pub record IsKeyGap {X : Type 0} (key : X → ℕ) (default : X) (items : List X) (k place : ℕ) : Type 0 where
  pub in_range : place ≤ length items
  pub smaller_before : (i : ℕ) → i < place → key (slice_index_or items i default) < k
  pub greater_after : (i : ℕ) → place ≤ i → i < length items → k < key (slice_index_or items i default)
