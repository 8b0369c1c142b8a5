-- The values of a map, as they are moved out from the last place to the first.
use Rattle.std.proofs.Common.{◌≡◌, ℕ, ◌<◌, true, false, true≢false, [], ◌∷◌, ◌++◌, filter, length, reverse, Option, Some, None, is_some, eqb, ap, refl, sym, ◌∙◌, arith}
use Rattle.std.proofs.lemmas.List.{append_assoc, append-nil, reverse-append}
use Rattle.std.proofs.lemmas.List.Elements.{filter-append}
use Rattle.std.proofs.lemmas.List.Sorted.{IsPermutation-map, IsPermutation-reverse}
use Rattle.std.proofs.lemmas.Map.Entries.{lookup-filter-values, option_filter}
use Rattle.std.proofs.lemmas.Map.Keys.{IsDistinct-IsPermutation}
use Rattle.std.proofs.lemmas.Map.Made.{IsDistinct-keys_filter}
use Rattle.std.specs.Cmp.{nat_eq_equiv}
use Rattle.std.specs.List.{IsDistinct}
use Rattle.std.specs.Map.{keys_of}
use Rattle.std.specs.Option.{option_flatten, option_map}
use Rattle.indexmap.proofs.MapLemmas.{lookup_permutation}
use Rattle.staged_map.specs.Staged.{AreOfDifferentKeys, Entries, Places, key_place, staged_entry, value_at}

module _ {V : Type 0} where
  -- the entry of a place, if it has a value
  abbrev pub entries_of : Places V → Entries V
  entries_of places = filter (λ place. is_some place.1) places

  -- the entries of all places, from the last to the first
  abbrev pub taken : Places V → Entries V
  taken places = entries_of (reverse places)

  -- what was moved out and what is left are all
  abbrev pub Taking : Places V → Places V → Entries V → Type 0
  Taking all left entries = taken all ≡ entries ++ taken left

  -- the last of the places that are left
  pub Taking-next : (all before left : Places V) (entries more : Entries V) (place : ℕ × Option V) → before ≡ left ++ place ∷ [] → Taking all before entries
      → more ≡ entries ++ entries_of (place ∷ []) → Taking all left more
  Taking-next all before left entries more place cut taking is =
      let first : taken before ≡ entries_of (place ∷ []) ++ taken left =
      ap taken cut ∙ ap entries_of (reverse-append left (place ∷ [])) ∙ filter-append (λ (entry : ℕ × Option V). is_some entry.1) (place ∷ []) (reverse left) in
      taking ∙ ap (λ rest. entries ++ rest) first ∙ sym (append_assoc entries (entries_of (place ∷ [])) (taken left)) ∙ ap (λ front. front ++ taken left) (sym is)

  -- where nothing is left all were moved out
  pub Taking-all : (all left : Places V) (entries : Entries V) → left ≡ [] → Taking all left entries → entries ≡ taken all
  Taking-all all left entries none taking = sym (taking ∙ ap (λ rest. entries ++ taken rest) none ∙ append-nil entries)

  distinct-reverse : (places : Places V) → IsDistinct eqb (keys_of places) → IsDistinct eqb (keys_of (reverse places))
  distinct-reverse places = IsDistinct-IsPermutation eqb nat_eq_equiv.symm (keys_of places) (keys_of (reverse places)) (IsPermutation-map (λ place. place.0) places (reverse places) (IsPermutation-reverse places))

  -- no key is taken twice
  pub taken-distinct : (places : Places V) → IsDistinct eqb (keys_of places) → AreOfDifferentKeys (taken places)
  taken-distinct places distinct = IsDistinct-keys_filter eqb (λ place. is_some place.1) (reverse places) (distinct-reverse places distinct)

  held-filter : (place : Option (Option V)) → option_filter is_some place ≡ option_map Some (option_flatten place)
  held-filter None = refl
  held-filter (Some None) = refl
  held-filter (Some (Some value)) = refl

  -- and each that has a value is taken with it
  pub taken-each : (places : Places V) → IsDistinct eqb (keys_of places) → (key : ℕ) → staged_entry (taken places) key ≡ option_map Some (value_at places key)
  taken-each places distinct key =
      let apart = distinct-reverse places distinct in
      lookup-filter-values nat_eq_equiv is_some key (reverse places) apart
      ∙ ap (option_filter is_some) (lookup_permutation nat_eq_equiv places (reverse places) (IsPermutation-reverse places) apart (eqb key) (nat_eq_equiv.congr key))
      ∙ held-filter (key_place places key)

-- where there is no last place there is none
pub nothing-left : {V : Type 0} (left : Places V) → (0 < length left → false ≡ true) → left ≡ []
nothing-left [] some = refl
nothing-left (place ∷ left) some = absurd (true≢false (sym (some (omega arith))))
