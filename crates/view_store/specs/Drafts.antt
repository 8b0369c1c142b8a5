-- Drafts: terms by region code, made from entries by shares.
use Rattle.std.specs.Prelude.{◌≡◌, ℕ, ◌+◌, ◌*◌, ◌<◌, ◌≤◌, Bool, true, false, List, [], ◌∷◌, All, IfSome, length, filter, nat_abs, not, ◌||◌, ◌==◌, ◌+ℤ◌, is_some, unwrap_or, take, Option, Some, None, if◌then◌else◌}
use Rattle.std.specs.List.{flat_map, sum_by}
use Rattle.std.specs.Map.{keys_of}
use Rattle.std.specs.Option.{option_map}
use Rattle.cube_model.specs.Allocation.{ExtendedFact}
use Rattle.cube_model.specs.Answer.{count_at, count_of, numerator_of, sum_at, weight_inside}
use Rattle.cube_model.specs.Cells.{AreRows, cells_of}
use Rattle.cube_model.specs.Limits.{WIDE}
use Rattle.cube_model.specs.Tree.{Dimension}
use Rattle.group_sum.specs.Merge.{FitsDifference, HasDifference, IsDifference}
use Rattle.group_sum.specs.Terms.{AddsUnits, FitsUnits, TermList}
use Rattle.staged_map.specs.Staged.{Entries, Places, staged_entry, value_at}
use Rattle.view_store.specs.declared.change.Share.{Share}
use Rattle.view_store.specs.declared.change.ViewChange.{ViewChange}
use Rattle.view_store.specs.Changes.{IsMadeAnew, IsWithinWide, change_facts, facts_put, facts_taken_away, shares}
use Rattle.view_store.specs.Cuts.{HoldsCells}
use Rattle.view_store.specs.Views.{IsOver, ViewMap, entry_at, held_at, is_in_view, region_at}

-- the draft at a code: where there is none yet, it is the entry
abbrev pub draft_at : ℕ → Places TermList → Places TermList → ℕ → TermList
draft_at columns entries drafts code = unwrap_or (value_at drafts code) (held_at columns entries code)

-- all are over the columns
abbrev pub AreOver : ℕ → Places TermList → Type 0
AreOver columns places = (code : ℕ) → IfSome (value_at places code) (IsOver columns)

-- what a change's facts bring for each unit of weight
abbrev pub share_of : ViewChange → Share
share_of change = record { facts = change.facts; den = change.den; cols = change.cols }

-- a change that puts facts of the region of a code, which have these rows
abbrev pub put_at : List Dimension → ℕ → Share → List (ℕ × ℕ) → ViewChange
put_at dims code share rows = record { put = true; facts = share.facts; den = share.den; region = region_at dims code; rows = rows; cols = share.cols }

-- how much of each of the facts that have these rows lies in the region of a code
abbrev pub weight_in : List Dimension → Share → List (ℕ × ℕ) → ℕ → ℕ
weight_in dims share rows code = weight_inside (cells_of dims (region_at dims code)) (record { den = share.den; rows = rows })

-- of each fact of a change
abbrev pub weight_at : List Dimension → ViewChange → ℕ → ℕ
weight_at dims change code = weight_in dims (share_of change) change.rows code

-- facts over columns with their rows: at least one, a denominator of at least 1, a value for each column but the count's, and cells
-- of the space; the weights add up to the denominator
pub record IsSpread (dims : List Dimension) (columns : ℕ) (share : Share) (rows : List (ℕ × ℕ)) : Type 0 where
  pub facts : 1 ≤ share.facts
  pub den : 1 ≤ share.den
  pub width : length share.cols + 1 ≡ columns
  pub cells : AreRows dims rows
  pub whole : sum_by (λ row. row.1) rows ≡ share.den

-- the draft at a code is within the limit, and stays there with what such facts add
pub record FitsSpread (columns : ℕ) (dims : List Dimension) (unit : Share) (rows : List (ℕ × ℕ)) (code : ℕ) (draft : TermList) : Type 0 where
  pub held : IsWithinWide columns draft.terms
  pub share : FitsUnits draft.terms unit.den (weight_in dims unit rows code * unit.facts) (weight_in dims unit rows code) unit.cols

-- and with the share of a change
abbrev pub FitsChange : ℕ → List Dimension → ViewChange → ℕ → TermList → Type 0
FitsChange columns dims change code draft = FitsSpread columns dims (share_of change) change.rows code draft

-- what such facts have in the region of a code was added to its draft
abbrev pub AddsSpread : List Dimension → Share → List (ℕ × ℕ) → ℕ → TermList → TermList → Type 0
AddsSpread dims share rows code old new = AddsUnits old new share.den (weight_in dims share rows code * share.facts) (weight_in dims share rows code) share.cols

-- and the share of a change
abbrev pub AddsChange : List Dimension → ViewChange → ℕ → TermList → TermList → Type 0
AddsChange dims change code old new = AddsSpread dims (share_of change) change.rows code old new

-- the code of a region of the product of the cuts, and of all these regions it is the one that holds each cell of the changes' regions
pub record HoldsChanges (dims : List Dimension) (depths : List ℕ) (changes : List ViewChange) (code : ℕ) : Type 0 where
  pub in_view : is_in_view dims depths code ≡ true
  pub each : All (λ change. HoldsCells dims depths change.region code) changes

-- drafts of which there is one
abbrev pub one_draft : ℕ → TermList → Places TermList
one_draft code list = (code, Some list) ∷ []

-- a code has got a draft: these terms, with what a row of this weight brings
pub record BeginsDraft (columns : ℕ) (terms : TermList) (unit : Share) (code weight : ℕ) (old new : Places TermList) : Type 0 where
  pub share : AddsUnits terms (held_at columns new code) unit.den (weight * unit.facts) weight unit.cols
  pub there : IfSome (value_at new code) (IsOver columns)
  pub some : is_some (value_at new code) ≡ true
  pub others : (k : ℕ) → (code == k) ≡ false → value_at new k ≡ value_at old k

-- what a row of this weight brings was added to the draft of a code, and no other has changed
pub record AddsRow (columns : ℕ) (entries : Places TermList) (unit : Share) (code weight : ℕ) (old new : Places TermList) : Type 0 where
  pub share : AddsUnits (draft_at columns entries old code) (draft_at columns entries new code) unit.den (weight * unit.facts) weight unit.cols
  pub others : (k : ℕ) → (code == k) ≡ false → value_at new k ≡ value_at old k
  pub over : AreOver columns new

-- a change puts, or takes away
abbrev pub puts_as : Bool → ViewChange → Bool
puts_as put change = if put then change.put else not change.put

-- the facts of the changes that put, or of those that take away
abbrev pub facts_of_kind : Bool → List ViewChange → List ExtendedFact
facts_of_kind put changes = flat_map change_facts (filter (puts_as put) changes)

-- with what facts add up to in the region of a code, at every denominator
pub record HasShares (columns : ℕ) (dims : List Dimension) (facts : List ExtendedFact) (code : ℕ) (old new : TermList) : Type 0 where
  pub counts : (d : ℕ) → count_of new.terms d ≡ count_of old.terms d + count_at (cells_of dims (region_at dims code)) facts d
  pub sums : (d k : ℕ) → k + 1 < columns → numerator_of new.terms d (k + 1) ≡ numerator_of old.terms d (k + 1) +ℤ sum_at (cells_of dims (region_at dims code)) facts k d

-- with what the facts of the first changes, however many, of a kind add up to, no numerator passes WIDE
pub record FitsShares (columns : ℕ) (dims : List Dimension) (put : Bool) (changes : List ViewChange) (code : ℕ) (old : TermList) : Type 0 where
  pub counts : (n d : ℕ) → count_of old.terms d + count_at (cells_of dims (region_at dims code)) (facts_of_kind put (take n changes)) d ≤ WIDE
  pub sums : (n d k : ℕ) → k + 1 < columns → nat_abs (numerator_of old.terms d (k + 1) +ℤ sum_at (cells_of dims (region_at dims code)) (facts_of_kind put (take n changes)) k d) ≤ WIDE

-- only codes of the product of the cuts have got drafts
abbrev pub KeepsToView : List Dimension → List ℕ → Places TermList → Places TermList → Type 0
KeepsToView dims depths old new = (code : ℕ) → is_some (value_at new code) ≡ true → (is_some (value_at old code) || is_in_view dims depths code) ≡ true

-- these terms can be taken from the entry at a code
abbrev pub CanTakeAt : ℕ → Places TermList → ℕ → TermList → Type 0
CanTakeAt columns entries code part = HasDifference (held_at columns entries code) part × FitsDifference (held_at columns entries code) part

-- and so can what is held at each code
abbrev pub CanTake : ℕ → Places TermList → Places TermList → Type 0
CanTake columns entries taken = (code : ℕ) → IfSome (value_at taken code) (CanTakeAt columns entries code)

-- at a code, where something was to be taken away, the entry without it is left; all else stays
pub record LeavesAt (columns : ℕ) (entries : Places TermList) (code : ℕ) (old new : Places TermList) : Type 0 where
  pub keys : keys_of new ≡ keys_of old
  pub codes : (k : ℕ) → is_some (value_at new k) ≡ is_some (value_at old k)
  pub left : IfSome (value_at old code) (λ part. IsDifference (held_at columns entries code) part (held_at columns new code))
  pub others : (k : ℕ) → (code == k) ≡ false → value_at new k ≡ value_at old k
  pub over : AreOver columns new

-- where something is taken away, and there alone, the entry without it is left
pub record AreWithout (columns : ℕ) (entries taken rests : Places TermList) : Type 0 where
  pub codes : (code : ℕ) → is_some (value_at rests code) ≡ is_some (value_at taken code)
  pub left : (code : ℕ) → IfSome (value_at taken code) (λ part. IsDifference (held_at columns entries code) part (held_at columns rests code))
  pub over : AreOver columns rests

-- of the entries of a view, what is left without the shares taken away
pub record AreLeftOver (dims : List Dimension) (changes : List ViewChange) (view : ViewMap) (rests : Places TermList) : Type 0 where
  pub left : (code : ℕ) → is_in_view dims view.depths code ≡ true → IsDifference (entry_at view code) (shares view.columns dims (facts_taken_away changes) code) (draft_at view.columns view.entries rests code)
  pub keys : KeepsToView dims view.depths [] rests
  pub over : AreOver view.columns rests

-- and what the changes make of them
pub record AreRemade (dims : List Dimension) (changes : List ViewChange) (view : ViewMap) (drafts : Places TermList) : Type 0 where
  pub made : (code : ℕ) → is_in_view dims view.depths code ≡ true
      → IsMadeAnew (entry_at view code) (shares view.columns dims (facts_taken_away changes) code) (shares view.columns dims (facts_put changes) code) (draft_at view.columns view.entries drafts code)
  pub keys : KeepsToView dims view.depths [] drafts
  pub over : AreOver view.columns drafts

-- what is staged for a draft: no entry where it has no term
abbrev pub kept : Option TermList → Option TermList
kept None = None
kept (Some list) = if length list.terms == 0 then None else Some list

-- so for an entry
abbrev pub kept_entry : ℕ × Option TermList → ℕ × Option TermList
kept_entry entry = (entry.0, kept entry.1)

-- and for all drafts: what is staged is what is kept of them, and nothing where there is none
abbrev pub AreKept : Places TermList → Entries TermList → Type 0
AreKept drafts entries = (code : ℕ) → staged_entry entries code ≡ option_map (λ list. kept (Some list)) (value_at drafts code)
