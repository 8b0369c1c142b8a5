-- What a binary search by a key finds among items whose keys ascend.
use Rattle.std.proofs.Common.{◌≡◌, ℕ, ◌<◌, ◌≤◌, List, length, get_or, Result, Ok, Err, IfOk, IfErr, sym, ap, arith}
use Rattle.std.specs.List.Sorted.{IsSearchInRange, IsBinarySearchResult, IsNonDecreasingBy}
use Rattle.std.specs.Ordering.{nat_cmp, ordering_index}
use Rattle.std.proofs.lemmas.Bool.Decides.{nat_tests}
use Rattle.std.proofs.lemmas.Cmp.{ranked}
use Rattle.std.proofs.lemmas.List.Sorted.{IsNonDecreasingBy-from_default}
use Rattle.cube_base.specs.Search.{IsKeyAt, IsKeyGap}

-- the key is at the place, or the place is the gap for it
pub record Searched {X : Type 0} (key : X → ℕ) (default : X) (items : List X) (k : ℕ) (r : Result ℕ ℕ) : Type 0 where
  pub found : IfOk r (IsKeyAt key default items k)
  pub absent : IfErr r (IsKeyGap key default items k)

-- where keys do not fall, neither do the comparisons with a key, as a binary search asks
pub comparisons_rise : {X : Type 0} (key : X → ℕ) (default : X) (items : List X) → ((i j : ℕ) → i ≤ j → j < length items → key (get_or items i default) ≤ key (get_or items j default)) → (k : ℕ) → IsNonDecreasingBy (λ x. ordering_index (nat_cmp (key x) k)) items
comparisons_rise key default items rises k = IsNonDecreasingBy-from_default (λ x. ordering_index (nat_cmp (key x) k)) items default (λ i j le in_range.
    let rise : key (get_or items i default) ≤ key (get_or items j default) = rises i j le in_range in
    grind (arith, nat_tests))

module _ {X : Type 0} (key : X → ℕ) (default : X) (items : List X) (ascends : (i j : ℕ) → i < j → j < length items → key (get_or items i default) < key (get_or items j default)) (k : ℕ) where
  rise : IsNonDecreasingBy (λ x. ordering_index (nat_cmp (key x) k)) items
  rise = comparisons_rise key default items (λ i j le in_range. grind (arith, ascends i j, λ (same : i ≡ j). ap (λ n. key (get_or items n default)) same)) k

  -- a binary search by the key ends at it, or at the gap for it
  pub searched : (r : Result ℕ ℕ) → IsSearchInRange r (length items) → IsBinarySearchResult (λ x. nat_cmp (key x) k) items r → Searched key default items k r
  searched (Ok at) in_range equal = record { found = record { in_range = in_range; has_key = ranked _ k _ (sym (equal default)) }; absent = tt }
  searched (Err at) in_range parted = record {
    found = tt;
    absent = record {
      in_range = in_range;
      smaller_before = λ i lt. ranked _ k _ (sym ((parted rise).0 i default (omega arith) lt));
      greater_after = λ i le lt. ranked _ k _ (sym ((parted rise).1 i default le lt));
    };
  }
