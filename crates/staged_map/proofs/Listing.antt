-- The keys that have a value, once they are sorted.
use Rattle.std.proofs.Common.{◌≡◌, ℕ, List, Option, Some, None, is_some, eqb, ◌==◌, map, filter, ap, sym, subst, refl, ◌∙◌}
use Rattle.std.proofs.lemmas.List.Sorted.{IsNonDecreasingBy-from_sort, list_any-IsPermutation}
use Rattle.std.proofs.lemmas.Map.Entries.{lookup-filter-values, option_filter}
use Rattle.std.proofs.lemmas.Map.Keys.{IsDistinct-IsPermutation, IsStrictlyIncreasing-from_distinct}
use Rattle.std.proofs.lemmas.Map.Made.{IsDistinct-keys_filter, is_some-lookup}
use Rattle.std.specs.Cmp.{nat_eq_equiv}
use Rattle.std.specs.List.{IsDistinct, list_any}
use Rattle.std.specs.List.Sorted.{IsPermutation, IsSorted}
use Rattle.std.specs.Map.{keys_of}
use Rattle.std.specs.Option.{option_flatten}
use Rattle.std.specs.Ordering.{nat_cmp}
use Rattle.staged_map.specs.Staged.{AreKeys, Places, key_place, value_at}

-- what is left of a place that must hold a value is its value
is_some-option_filter : {V : Type 0} (place : Option (Option V)) → is_some (option_filter is_some place) ≡ is_some (option_flatten place)
is_some-option_filter None = refl
is_some-option_filter (Some None) = refl
is_some-option_filter (Some (Some value)) = refl

-- the keys of the places that hold a value, sorted, are the keys that have a value, ascending
pub AreKeys-sorted : {V : Type 0} (places : Places V) (unsorted sorted : List ℕ) → IsDistinct eqb (keys_of places)
    → unsorted ≡ map (λ place. place.0) (filter (λ place. is_some place.1) places)
    → IsPermutation unsorted sorted → IsSorted nat_cmp sorted → AreKeys places sorted
AreKeys-sorted {V} places unsorted sorted distinct are moved rising = record {
  ascending = IsStrictlyIncreasing-from_distinct sorted (IsNonDecreasingBy-from_sort (λ x. x) sorted rising) apart;
  among = among;
}
  where
    apart : IsDistinct eqb sorted
    apart =
        let left = IsDistinct-keys_filter eqb (λ place. is_some place.1) places distinct in
        IsDistinct-IsPermutation eqb nat_eq_equiv.symm unsorted sorted moved (subst (IsDistinct eqb) (sym are) left)

    among : (k : ℕ) → list_any (λ key. k == key) sorted ≡ is_some (value_at places k)
    among k =
        sym (list_any-IsPermutation (eqb k) unsorted sorted moved)
        ∙ ap (list_any (eqb k)) are
        ∙ sym (is_some-lookup (eqb k) (filter (λ place. is_some place.1) places))
        ∙ ap is_some (lookup-filter-values nat_eq_equiv is_some k places distinct)
        ∙ is_some-option_filter (key_place places k)
