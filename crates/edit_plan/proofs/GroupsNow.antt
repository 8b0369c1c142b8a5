-- The groups after an edit, of which those that may differ are kept by their codes.
use Rattle.std.proofs.Common.{◌≡◌, ℕ, zero, suc, ◌+◌, ◌<◌, Bool, true, false, List, [], ◌∷◌, length, get_or, refl, ap, sym, ◌∙◌, subst, cond, eqb, arith}
use Rattle.std.specs.Prelude.{All, AllPairs, Option, Some, None, ◌||◌, ◌==◌, unwrap_or}
use Rattle.std.specs.List.{list_any}
use Rattle.std.proofs.lemmas.Bool.Decides.{nat_tests}
use Rattle.std.proofs.lemmas.List.{get_or_default}
use Rattle.std.proofs.lemmas.List.Elements.{All-from_get_or, All-head, All-tail}
use Rattle.cube_base.specs.Search.{IsKeyAt, IsKeyGap}
use Rattle.cube_model.specs.declared.edit.Edit.{Edit}
use Rattle.cube_model.specs.declared.edit.Fact.{Fact}
use Rattle.cube_model.specs.Allocation.{Policy}
use Rattle.cube_model.specs.Ascending.{ascends_from}
use Rattle.cube_model.specs.Cells.{is_among}
use Rattle.cube_model.specs.Facts.{after}
use Rattle.cube_model.specs.Tree.{Dimension}
use Rattle.cube_model.proofs.Ascending.{any-turned, ascends_filter, ascends_first, ascends_later, ascends_map}
use Rattle.staged_map.specs.Staged.{Entries, staged_entry}
use Rattle.staged_map.proofs.Entries.{staged_entry-made}
use Rattle.fact_groups.specs.Groups.{Group, group_at}
use Rattle.cube_state.specs.declared.changed_groups.Regrouped.{Regrouped}
use Rattle.edit_plan.specs.Refreshing.{AscendByCode, group_now}
use Rattle.cube_state.specs.Regrouped.{IsRegrouped}
use Rattle.cube_state.specs.Regrouped.{HoldChanged, group_is_respread, groups_after, is_edited_at, regrouped}
use Rattle.cube_state.proofs.LeftOut.{groups-left_out}

-- a code and its group
abbrev pub Entry : Type 0
Entry = ℕ × Option Group

abbrev pub no_entry : Entry
no_entry = (0, None)

-- keys that ascend rise from place to place
pub rises : (shown entries : Entries Group) → shown ≡ entries → AscendByCode entries → (i j : ℕ) → i < j → j < length shown → (get_or shown i no_entry).0 < (get_or shown j no_entry).0
rises shown entries is ascends i j before within = ascends_later (λ (e : Entry). e.0) 0 shown (subst AscendByCode (sym is) ascends) i j no_entry no_entry before within

entry-first : (code : ℕ) (entry : Entry) (entries : Entries Group) (b : Bool) → (code == entry.0) ≡ b → staged_entry (entry ∷ entries) code ≡ cond b (Some entry.1) (staged_entry entries code)
entry-first code entry entries b is = ap (λ (c : Bool). cond c (Some entry.1) (staged_entry entries code)) is

entry-at : (least code : ℕ) (entries : Entries Group) (at : ℕ) (d : Entry) → ascends_from (λ (e : Entry). e.0) least entries ≡ true → at < length entries → (get_or entries at d).0 ≡ code → staged_entry entries code ≡ Some (get_or entries at d).1
entry-at least code [] at d ascends within key = absurd (omega (arith, within))
entry-at least code (entry ∷ entries) zero d ascends within key = entry-first code entry entries true (grind (arith, nat_tests, key))
entry-at least code (entry ∷ entries) (suc at) d ascends within key =
    let first = ascends_first (λ (e : Entry). e.0) least entry entries ascends in
    let later = ascends_later (λ (e : Entry). e.0) least (entry ∷ entries) ascends 0 (suc at) d d (omega arith) within in
    entry-first code entry entries false (grind (arith, nat_tests, key, later)) ∙ entry-at (entry.0 + 1) code entries at d first.others (omega (arith, within)) key

entry-none : (code : ℕ) (entries : Entries Group) → All (λ e. (code == e.0) ≡ false) entries → staged_entry entries code ≡ None
entry-none code [] none = refl
entry-none code (entry ∷ entries) none =
    entry-first code entry entries false (All-head (λ (e : Entry). (code == e.0) ≡ false) entry entries none) ∙ entry-none code entries (All-tail (λ (e : Entry). (code == e.0) ≡ false) entry entries none)

-- a search by the code finds the entry of the code, and none exactly where there is none
module _ (shown entries : Entries Group) (is : shown ≡ entries) (code at : ℕ) where
  pub entry-found : AscendByCode entries → (d : Entry) → IsKeyAt (λ (e : Entry). e.0) no_entry shown code at → Some (get_or shown at d).1 ≡ staged_entry entries code
  entry-found ascends d found =
      let key : (get_or shown at d).0 ≡ code = ap (λ (e : Entry). e.0) (get_or_default shown at d no_entry found.in_range) ∙ found.has_key in
      sym (entry-at 0 code shown at d (subst AscendByCode (sym is) ascends) found.in_range key) ∙ ap (λ (es : Entries Group). staged_entry es code) is

  pub entry-absent : IsKeyGap (λ (e : Entry). e.0) no_entry shown code at → None ≡ staged_entry entries code
  entry-absent gap = sym (entry-none code shown (All-from_get_or (λ (e : Entry). (code == e.0) ≡ false) shown no_entry other)) ∙ ap (λ (es : Entries Group). staged_entry es code) is
    where
      other : (k : ℕ) → k < length shown → (code == (get_or shown k no_entry).0) ≡ false
      other k within = grind (arith, nat_tests, gap.smaller_before k, gap.greater_after k)

module _ (policy : Policy) (columns : ℕ) (dims : List Dimension) (edit : Edit) (facts : List Fact) (codes : List ℕ) (hold : HoldChanged policy columns dims edit facts codes) where
  abbrev later : List Fact
  later = after edit facts

  abbrev entries_after : Entries Group
  entries_after = groups_after policy columns dims edit facts codes

  -- the groups that are made anew are in order of their codes
  AscendByCode-after : AscendByCode entries_after
  AscendByCode-after =
      ascends_map (λ (e : Entry). e.0) (λ (code : ℕ). (code, group_at policy columns dims later code)) 0 (regrouped policy columns dims edit facts codes)
      ∙ ascends_filter (λ (code : ℕ). code) (λ code. is_edited_at dims edit facts code || group_is_respread (group_at policy columns dims facts code) (group_at policy columns dims later code)) 0 codes hold.ascending

  -- with the others as they were, they are the groups of the facts after the edit
  group_now-after : AllPairs (λ f g. f.id < g.id) facts → (code : ℕ) → group_now entries_after (group_at policy columns dims facts) code ≡ group_at policy columns dims later code
  group_now-after up code =
      ap (λ o. unwrap_or o (group_at policy columns dims facts code)) (staged_entry-made (group_at policy columns dims later) (regrouped policy columns dims edit facts codes) code)
      ∙ either (list_any (eqb code) (regrouped policy columns dims edit facts codes)) (any-turned code (regrouped policy columns dims edit facts codes))
    where
      either : (b : Bool) → b ≡ is_among (regrouped policy columns dims edit facts codes) code → unwrap_or (cond b (Some (group_at policy columns dims later code)) None) (group_at policy columns dims facts code) ≡ group_at policy columns dims later code
      either true is = refl
      either false is = sym (groups-left_out policy columns dims edit facts up codes hold code (sym is))

module _ (policy : Policy) (columns : ℕ) (dims : List Dimension) (edit : Edit) (facts : List Fact) (regrouped : Regrouped) (is : IsRegrouped policy columns dims edit facts regrouped) where
  -- the same of groups that were made so
  pub by-code : AscendByCode regrouped.groups
  by-code = subst AscendByCode (sym is.groups) (AscendByCode-after policy columns dims edit facts is.codes is.hold)

  pub groups-now : AllPairs (λ f g. f.id < g.id) facts → (code : ℕ) → group_now regrouped.groups (group_at policy columns dims facts) code ≡ group_at policy columns dims (after edit facts) code
  groups-now up code =
      ap (λ (entries : Entries Group). group_now entries (group_at policy columns dims facts) code) is.groups ∙ group_now-after policy columns dims edit facts is.codes is.hold up code
