-- What staging and installing do to the entries of a view.
use Rattle.std.proofs.Common.{◌≡◌, ℕ, Bool, true, false, List, [], ◌∷◌, sym, subst, Option, Some, None, unwrap_or}
use Rattle.std.specs.Prelude.{IfSome, if◌then◌else◌, ◌==◌}
use Rattle.std.specs.Map.{keys_of}
use Rattle.std.proofs.lemmas.List.Elements.{All-head, All-tail}
use Rattle.cube_model.specs.Tree.{Dimension}
use Rattle.group_sum.specs.Terms.{TermList}
use Rattle.staged_map.specs.Staged.{AreOfDifferentKeys, Entries, Places, PutsAll, Reserves, staged_entry, value_at}
use Rattle.staged_map.proofs.Entries.{have_places-reserved}
use Rattle.view_store.specs.declared.change.ViewChange.{ViewChange}
use Rattle.view_store.specs.Changes.{AreWhole, HasRoomFor, IsMadeFor}
use Rattle.view_store.specs.Views.{AreEntries, IsEntry}

-- entries of the same values are entries too
pub AreEntries-same : (columns : ℕ) (old new : Places TermList) → AreEntries columns old → ((code : ℕ) → value_at new code ≡ value_at old code) → AreEntries columns new
AreEntries-same columns old new are same = record { least = are.least; most = are.most; each = λ code. rw (same code) (are.each code) }

-- what is staged for a code is whole
staged-whole : (columns : ℕ) (entries : Entries TermList) (code : ℕ) → AreWhole columns entries → IfSome (staged_entry entries code) (λ o. IfSome o (IsEntry columns))
staged-whole columns [] code whole = tt
staged-whole columns (entry ∷ entries) code whole = by (code == entry.0) (All-head P entry entries whole) (staged-whole columns entries code (All-tail P entry entries whole))
  where
    P : ℕ × Option TermList → Type 0
    P e = IfSome e.1 (IsEntry columns)

    by : (b : Bool) → IfSome entry.1 (IsEntry columns) → IfSome (staged_entry entries code) (λ o. IfSome o (IsEntry columns)) → IfSome (if b then Some entry.1 else staged_entry entries code) (λ o. IfSome o (IsEntry columns))
    by true first rest = first
    by false first rest = rest

-- once whole entries are put, all are entries
pub AreEntries-put : (columns : ℕ) (old new : Places TermList) (entries : Entries TermList) → AreEntries columns old → AreWhole columns entries → PutsAll old new entries → AreEntries columns new
AreEntries-put columns old new entries are whole puts = record {
  least = are.least;
  most = are.most;
  each = λ code. rw (puts.values code) (by (staged_entry entries code) (value_at old code) (staged-whole columns entries code whole) (are.each code));
}
  where
    by : (o : Option (Option TermList)) (old : Option TermList) → IfSome o (λ p. IfSome p (IsEntry columns)) → IfSome old (IsEntry columns) → IfSome (unwrap_or o old) (IsEntry columns)
    by None old first rest = rest
    by (Some p) old first rest = first

module _ (columns : ℕ) (depths : List ℕ) (old new : Places TermList) (entries : Entries TermList) (codes : List ℕ) (reserves : Reserves old new codes) where
  -- what was made of the entries before is what is made of the same entries with places
  pub made-placed : (dims : List Dimension) (changes : List ViewChange) → IsMadeFor dims changes (record { columns = columns; depths = depths; entries = old }) entries
      → IsMadeFor dims changes (record { columns = columns; depths = depths; entries = new }) entries
  made-placed dims changes is = record {
    made = λ code in_view. rw (reserves.values code) (is.made code in_view);
    kept = is.kept;
  }

  -- and there is room for it
  pub room-placed : AreOfDifferentKeys entries → AreWhole columns entries → keys_of entries ≡ codes → HasRoomFor (record { columns = columns; depths = depths; entries = new }) entries
  room-placed distinct whole same = record {
    distinct = distinct;
    placed = have_places-reserved new old entries (subst (Reserves old new) (sym same) reserves);
    whole = whole;
  }
