-- What changes of facts' shares make of the entries of views.
use Rattle.std.specs.Prelude.{◌≡◌, ℕ, ◌+◌, ◌-◌, ◌<◌, ◌≤◌, true, false, List, ◌∷◌, All, IfSome, length, filter, not, nat_abs, None, replicate, slice_get, take, unwrap_or, ℤ, pos}
use Rattle.std.specs.List.{flat_map, sum_by}
use Rattle.cube_model.specs.declared.term.Term.{Term}
use Rattle.cube_model.specs.Allocation.{ExtendedFact}
use Rattle.cube_model.specs.Answer.{answer, count_of, merge, numerator_of}
use Rattle.cube_model.specs.Cells.{AreRows, cells_of, is_among}
use Rattle.cube_model.specs.Limits.{WIDE}
use Rattle.cube_model.specs.Tree.{Dimension}
use Rattle.group_sum.specs.Merge.{FitsDifference, HasDifference, IsDifference}
use Rattle.group_sum.specs.Terms.{AreTerms, TermList}
use Rattle.region_algebra.specs.Space.{IsRegion}
use Rattle.staged_map.specs.Staged.{AreOfDifferentKeys, Entries, PutsAll, has_place, have_places, staged_entry, value_at}
use Rattle.view_store.specs.declared.change.ViewChange.{ViewChange}
use Rattle.view_store.specs.Views.{IsEntry, ViewMap, ViewMaps, entry_at, is_in_view, no_terms, region_at}

-- a fact of an extended database with the rows of a change, and these values; its id, of which views take no notice, is 0
abbrev pub change_fact : ViewChange → List ℤ → ExtendedFact
change_fact change values = record { id = 0; values = values; allocation = record { den = change.den; rows = change.rows } }

-- The facts that a change puts or takes away: as many as it says, with its rows. Only the sums of their values are
-- given, so the first of them has these, and the others have 0 in every column.
abbrev pub change_facts : ViewChange → List ExtendedFact
change_facts change = change_fact change change.cols ∷ replicate (change.facts - 1) (change_fact change (replicate (length change.cols) (pos 0)))

-- the facts that are taken away, and those that are put, in order
abbrev pub facts_taken_away : List ViewChange → List ExtendedFact
facts_taken_away changes = flat_map change_facts (filter (λ change. not change.put) changes)

abbrev pub facts_put : List ViewChange → List ExtendedFact
facts_put changes = flat_map change_facts (filter (λ change. change.put) changes)

-- The shares of facts in a region, merged: what the facts add up to there, over columns of which one is the count.
abbrev pub shares : ℕ → List Dimension → List ExtendedFact → ℕ → TermList
shares columns dims facts code = record { columns = columns; terms = answer (columns - 1) dims facts (region_at dims code) }

-- terms with those of others
abbrev pub together : TermList → TermList → List Term
together list other = merge (list.columns - 1) list.terms other.terms

-- An entry as it was, less the shares taken away, and with those that are put.
pub record IsMadeAnew (old less more new : TermList) : Type 0 where
  pub rest : TermList
  pub are_terms : AreTerms rest
  pub taken_away : IsDifference old less rest
  pub columns : new.columns ≡ old.columns
  pub put : new.terms ≡ together rest more

-- no numerator passes WIDE
pub record IsWithinWide (columns : ℕ) (terms : List Term) : Type 0 where
  pub counts : (d : ℕ) → count_of terms d ≤ WIDE
  pub sums : (d k : ℕ) → k + 1 < columns → nat_abs (numerator_of terms d (k + 1)) ≤ WIDE

-- What is taken away is there, and no numerator passes WIDE on the way: not of what the first changes, however many, take away,
-- nor of what is left without all that is taken away, nor of that with what the first changes put.
pub record CanChange (dims : List Dimension) (changes : List ViewChange) (old : TermList) (code : ℕ) : Type 0 where
  pub taken_within : (n : ℕ) → IsWithinWide old.columns (shares old.columns dims (facts_taken_away (take n changes)) code).terms
  pub there : HasDifference old (shares old.columns dims (facts_taken_away changes) code)
  pub left_within : FitsDifference old (shares old.columns dims (facts_taken_away changes) code)
  pub put_within : (rest : TermList) → AreTerms rest → IsDifference old (shares old.columns dims (facts_taken_away changes) code) rest
      → (n : ℕ) → IsWithinWide old.columns (together rest (shares old.columns dims (facts_put (take n changes)) code))

-- a change over columns: at least one fact, a denominator of at least 1, a value for each column but the count's, and cells of
-- the space, which are those of a region; the weights add up to the denominator
pub record IsChange (dims : List Dimension) (columns : ℕ) (change : ViewChange) : Type 0 where
  pub facts : 1 ≤ change.facts
  pub den : 1 ≤ change.den
  pub width : length change.cols + 1 ≡ columns
  pub cells : AreRows dims change.rows
  pub region : IsRegion dims change.region
  pub inside : All (λ row. is_among (cells_of dims change.region) row.0 ≡ true) change.rows
  pub whole : sum_by (λ row. row.1) change.rows ≡ change.den

-- each of the changes is one, and each entry of the view can be changed by them
pub record FitsView (dims : List Dimension) (changes : List ViewChange) (view : ViewMap) : Type 0 where
  pub changes_fit : All (IsChange dims view.columns) changes
  pub entries_fit : (code : ℕ) → is_in_view dims view.depths code ≡ true → CanChange dims changes (entry_at view code) code

abbrev pub FitsViews : List Dimension → List ViewChange → ViewMaps → Type 0
FitsViews dims changes content = All (FitsView dims changes) content.views

-- Of two maps of one view: each entry of the product of the cuts is made anew by the changes, and all others stay.
pub record IsAfter (dims : List Dimension) (changes : List ViewChange) (old new : ViewMap) : Type 0 where
  pub columns : new.columns ≡ old.columns
  pub depths : new.depths ≡ old.depths
  pub made : (code : ℕ) → is_in_view dims old.depths code ≡ true
      → IsMadeAnew (entry_at old code) (shares old.columns dims (facts_taken_away changes) code) (shares old.columns dims (facts_put changes) code) (entry_at new code)
  pub kept : (code : ℕ) → is_in_view dims old.depths code ≡ false → value_at new.entries code ≡ value_at old.entries code

-- so of all views
pub record AreAfter (dims : List Dimension) (changes : List ViewChange) (old new : ViewMaps) : Type 0 where
  pub columns : new.columns ≡ old.columns
  pub count : length new.views ≡ length old.views
  pub each : (v : ℕ) → IfSome (slice_get old.views v) (λ before. IfSome (slice_get new.views v) (IsAfter dims changes before))

-- the entry of a code once what is staged for a view is put
abbrev pub staged_at : ViewMap → Entries TermList → ℕ → TermList
staged_at view entries code = unwrap_or (unwrap_or (staged_entry entries code) (value_at view.entries code)) (no_terms view.columns)

-- each that shall be an entry has the columns and a term
abbrev pub AreWhole : ℕ → Entries TermList → Type 0
AreWhole columns entries = All (λ entry. IfSome entry.1 (IsEntry columns)) entries

-- what is staged for a view: entries of different codes, with places, each whole
pub record HasRoomFor (view : ViewMap) (entries : Entries TermList) : Type 0 where
  pub distinct : AreOfDifferentKeys entries
  pub placed : have_places view.entries entries ≡ true
  pub whole : AreWhole view.columns entries

-- and it is what the changes make of the entries in the product of the cuts
pub record IsMadeFor (dims : List Dimension) (changes : List ViewChange) (view : ViewMap) (entries : Entries TermList) : Type 0 where
  pub made : (code : ℕ) → is_in_view dims view.depths code ≡ true
      → IsMadeAnew (entry_at view code) (shares view.columns dims (facts_taken_away changes) code) (shares view.columns dims (facts_put changes) code) (staged_at view entries code)
  pub kept : (code : ℕ) → is_in_view dims view.depths code ≡ false → staged_entry entries code ≡ None

-- what is staged for all views: there is room for each
pub record HaveRooms (views : List ViewMap) (stage : List (Entries TermList)) : Type 0 where
  pub count : length stage ≡ length views
  pub each : (v : ℕ) → IfSome (slice_get views v) (λ view. IfSome (slice_get stage v) (HasRoomFor view))

abbrev pub HaveRoomFor : ViewMaps → List (Entries TermList) → Type 0
HaveRoomFor content stage = HaveRooms content.views stage

-- what is staged is set, and nothing else changes
pub record IsSet (old : ViewMap) (entries : Entries TermList) (new : ViewMap) : Type 0 where
  pub columns : new.columns ≡ old.columns
  pub depths : new.depths ≡ old.depths
  pub puts : PutsAll old.entries new.entries entries

pub record AreAllSet (old : List ViewMap) (stage : List (Entries TermList)) (new : List ViewMap) : Type 0 where
  pub count : length new ≡ length old
  pub each : (v : ℕ) → IfSome (slice_get old v) (λ before. IfSome (slice_get stage v) (λ entries. IfSome (slice_get new v) (IsSet before entries)))

pub record AreSet (old : ViewMaps) (stage : List (Entries TermList)) (new : ViewMaps) : Type 0 where
  pub columns : new.columns ≡ old.columns
  pub views : AreAllSet old.views stage new.views

-- there is room for what is staged, and it is what the changes make of the views, as they stand
pub record AreStaged (dims : List Dimension) (changes : List ViewChange) (views : List ViewMap) (stage : List (Entries TermList)) : Type 0 where
  pub room : HaveRooms views stage
  pub each : (v : ℕ) → IfSome (slice_get views v) (λ view. IfSome (slice_get stage v) (IsMadeFor dims changes view))

abbrev pub AreStagedFor : List Dimension → List ViewChange → ViewMaps → List (Entries TermList) → Type 0
AreStagedFor dims changes content stage = AreStaged dims changes content.views stage

-- two maps of one view with the same content; keys that had places have them
pub record IsSameView (old new : ViewMap) : Type 0 where
  pub columns : new.columns ≡ old.columns
  pub depths : new.depths ≡ old.depths
  pub values : (code : ℕ) → value_at new.entries code ≡ value_at old.entries code
  pub places : (code : ℕ) → has_place old.entries code ≡ true → has_place new.entries code ≡ true

-- the same of all
pub record AreSame (old new : List ViewMap) : Type 0 where
  pub count : length new ≡ length old
  pub each : (v : ℕ) → IfSome (slice_get old v) (λ before. IfSome (slice_get new v) (IsSameView before))

pub record HaveSameViews (old new : ViewMaps) : Type 0 where
  pub columns : new.columns ≡ old.columns
  pub views : AreSame old.views new.views
