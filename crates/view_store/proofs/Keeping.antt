-- What is staged for drafts, and entries that are taken out of a map one after another.
use Rattle.std.proofs.Common.{◌≡◌, ℕ, zero, suc, ◌+◌, ◌<◌, ◌≤◌, true, false, List, [], ◌∷◌, eqb, get_or, length, map, set, refl, ap, sym, subst, ◌∙◌, inl, inr, arith, drop, Option, None, Some, add-one, drop-cons}
use Rattle.std.specs.Prelude.{◌==◌}
use Rattle.std.specs.List.{IsDistinct, list_any}
use Rattle.std.specs.Map.{keys_of}
use Rattle.std.specs.Option.{option_map}
use Rattle.std.proofs.lemmas.Map.Made.{lookup-map_values}
use Rattle.std.proofs.lemmas.Bool.{cases_eq}
use Rattle.std.proofs.lemmas.Bool.Decides.{nat_tests}
use Rattle.group_sum.specs.Terms.{TermList}
use Rattle.staged_map.specs.Staged.{AreKeys, AreOfDifferentKeys, Entries, Places, Removes, staged_entry, value_at}
use Rattle.cube_model.proofs.Ascending.{ascends_increasing}
use Rattle.view_store.specs.Drafts.{AreKept, kept, kept_entry}
use Rattle.view_store.proofs.Ascending.{has, not_among-behind}

-- The entries of the codes from a place on are there still.
pub record AreAhead (entries : Places TermList) (codes : List ℕ) (i : ℕ) (now : Places TermList) : Type 0 where
  pub keys : AreKeys entries codes
  pub values : (code : ℕ) → list_any (eqb code) (drop i codes) ≡ true → value_at now code ≡ value_at entries code

module _ (entries : Places TermList) (codes : List ℕ) (i : ℕ) (within : i < length codes) where
  front : drop i codes ≡ get_or codes i 0 ∷ drop (i + 1) codes
  front = rw (add-one, drop-cons codes i 0) refl

  -- so that of the next one
  pub ahead-here : (now : Places TermList) → AreAhead entries codes i now → value_at now (get_or codes i 0) ≡ value_at entries (get_or codes i 0)
  ahead-here now before = before.values (get_or codes i 0) (rw front (grind (arith, nat_tests)))

  -- behind it too, where it stays or is taken out
  pub ahead-same : (now : Places TermList) → AreAhead entries codes i now → AreAhead entries codes (i + 1) now
  ahead-same now before = record {
    keys = before.keys;
    values = λ k among. before.values k (rw front (grind (arith, among)));
  }

  pub ahead-next : (now new : Places TermList) → AreAhead entries codes i now → Removes now new (get_or codes i 0) → AreAhead entries codes (i + 1) new
  ahead-next now new before removes = record {
    keys = before.keys;
    values = λ k among. elim (cases_eq k (get_or codes i 0)) [
      | inl same ↦
          let ascends = ascends_increasing 0 codes before.keys.ascending (λ some. omega arith) in
          let behind : has (drop (i + 1) codes) k ≡ false = ap (has (drop (i + 1) codes)) same ∙ not_among-behind 0 codes i ascends within in
          absurd (grind (arith, among, behind))
      | inr other ↦
          let apart : (get_or codes i 0 == k) ≡ false = grind (arith, nat_tests) in
          let value : value_at new k ≡ value_at now k = removes.values k ∙ grind (arith, apart) in
          value ∙ before.values k (rw front (grind (arith, among)))
    ];
  }

-- the entries, of which the first are what is kept of them
abbrev pub kept_first : ℕ → Entries TermList → Entries TermList
kept_first zero entries = entries
kept_first (suc i) [] = []
kept_first (suc i) (entry ∷ entries) = kept_entry entry ∷ kept_first i entries

length-kept_first : (i : ℕ) (entries : Entries TermList) → length (kept_first i entries) ≡ length entries
length-kept_first zero entries = refl
length-kept_first (suc i) [] = refl
length-kept_first (suc i) (entry ∷ entries) = ap suc (length-kept_first i entries)

-- one more
pub kept_first-next : (i : ℕ) (entries : Entries TermList) (entry : ℕ × Option TermList) → i < length entries → set (kept_first i entries) i (kept_entry (get_or (kept_first i entries) i entry)) ≡ kept_first (suc i) entries
kept_first-next i [] entry within = absurd (omega (arith, within))
kept_first-next zero (first ∷ entries) entry within = refl
kept_first-next (suc i) (first ∷ entries) entry within = ap (λ rest. kept_entry first ∷ rest) (kept_first-next i entries entry (omega (arith, within)))

-- and all
pub kept_first-all : (i : ℕ) (entries : Entries TermList) → length entries ≤ i → kept_first i entries ≡ map kept_entry entries
kept_first-all zero [] end = refl
kept_first-all zero (entry ∷ entries) end = absurd (omega (arith, end))
kept_first-all (suc i) [] end = refl
kept_first-all (suc i) (entry ∷ entries) end = ap (λ rest. kept_entry entry ∷ rest) (kept_first-all i entries (omega (arith, end)))

-- it is of the same keys
keys_of-kept : (entries : Entries TermList) → keys_of (map kept_entry entries) ≡ keys_of entries
keys_of-kept [] = refl
keys_of-kept (entry ∷ entries) = ap (λ rest. entry.0 ∷ rest) (keys_of-kept entries)

pub distinct-kept : (entries : Entries TermList) → AreOfDifferentKeys entries → AreOfDifferentKeys (map kept_entry entries)
distinct-kept entries = subst (IsDistinct eqb) (sym (keys_of-kept entries))

-- and what is staged for drafts that were moved out
pub AreKept-moved : (drafts : Places TermList) (entries : Entries TermList) → ((code : ℕ) → staged_entry entries code ≡ option_map Some (value_at drafts code)) → AreKept drafts (map kept_entry entries)
AreKept-moved drafts entries each code = lookup-map_values kept (eqb code) entries ∙ ap (option_map kept) (each code) ∙ kept-some (value_at drafts code)
  where
    kept-some : (held : Option TermList) → option_map kept (option_map Some held) ≡ option_map (λ list. kept (Some list)) held
    kept-some None = refl
    kept-some (Some list) = refl
