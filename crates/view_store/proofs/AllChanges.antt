-- The shares of changes of a kind, added one after another.
use Rattle.std.proofs.Common.{◌≡◌, ℕ, ◌+◌, ◌<◌, Bool, true, false, List, [], ◌∷◌, ◌++◌, filter, length, get_or, refl, ap, sym, subst, ◌∙◌, arith, take, append-nil}
use mathlib.Core.Bool.{beq}
use Rattle.std.specs.Prelude.{All, if◌then◌else◌, not}
use Rattle.std.specs.List.{flat_map}
use Rattle.std.proofs.lemmas.Grind.{flat_map-append}
use Rattle.std.proofs.lemmas.List.{take_more}
use Rattle.std.proofs.lemmas.List.Concat.{flat_map-cons}
use Rattle.std.proofs.lemmas.List.Elements.{All-get_or, filter-append}
use Rattle.cube_model.specs.Allocation.{ExtendedFact}
use Rattle.cube_model.specs.Tree.{Dimension}
use Rattle.group_sum.specs.Terms.{TermList}
use Rattle.staged_map.specs.Staged.{Places}
use Rattle.view_store.specs.declared.change.ViewChange.{ViewChange}
use Rattle.view_store.specs.Changes.{IsChange, change_facts}
use Rattle.view_store.specs.Drafts.{AddsChange, AreOver, FitsChange, FitsShares, HasShares, KeepsToView, draft_at, facts_of_kind, puts_as}
use Rattle.view_store.specs.Views.{is_in_view}
use Rattle.view_store.proofs.Shares.{FitsShares-change, HasShares-next, HasShares-none}

-- whether a change is of a kind
pub kind-same : (a b : Bool) → beq a b ≡ true → (if b then a else not a) ≡ true
kind-same true true same = refl
kind-same false false same = refl
kind-same true false same = same
kind-same false true same = same

pub kind-other : (a b : Bool) → beq a b ≡ false → (if b then a else not a) ≡ false
kind-other true true differ = differ
kind-other false false differ = differ
kind-other true false differ = refl
kind-other false true differ = refl

module _ (put : Bool) where
  pub facts-append : (changes more : List ViewChange) → facts_of_kind put (changes ++ more) ≡ facts_of_kind put changes ++ facts_of_kind put more
  facts-append changes more = ap (flat_map change_facts) (filter-append (puts_as put) changes more) ∙ flat_map-append change_facts (filter (puts_as put) changes) (filter (puts_as put) more)

  pub facts-one : (change : ViewChange) → facts_of_kind put (change ∷ []) ≡ (if puts_as put change then change_facts change else [])
  facts-one change = by (puts_as put change)
    where
      by : (b : Bool) → flat_map change_facts (if b then change ∷ [] else []) ≡ (if b then change_facts change else [])
      by true = flat_map-cons change_facts change [] ∙ append-nil (change_facts change)
      by false = refl

  module _ (changes : List ViewChange) (i : ℕ) (change : ViewChange) (within : i < length changes) (is : change ≡ get_or changes i change) where
    facts-next : facts_of_kind put (take (i + 1) changes) ≡ facts_of_kind put (take i changes) ++ (if puts_as put change then change_facts change else [])
    facts-next =
        ap (facts_of_kind put) (take_more changes i change within ∙ ap (λ x. take i changes ++ x ∷ []) (sym is))
        ∙ facts-append (take i changes) (change ∷ []) ∙ ap (λ fs. facts_of_kind put (take i changes) ++ fs) (facts-one change)

    pub facts-next_of_kind : puts_as put change ≡ true → facts_of_kind put (take (i + 1) changes) ≡ facts_of_kind put (take i changes) ++ change_facts change
    facts-next_of_kind kind = rw kind at facts-next

    pub facts-next_other : puts_as put change ≡ false → facts_of_kind put (take (i + 1) changes) ≡ facts_of_kind put (take i changes)
    facts-next_other kind = rw kind at facts-next ∙ append-nil (facts_of_kind put (take i changes))

-- The shares of facts were added to the drafts.
pub record HasFacts (dims : List Dimension) (depths : List ℕ) (columns : ℕ) (entries : Places TermList) (facts : List ExtendedFact) (old now : Places TermList) : Type 0 where
  pub shares : (code : ℕ) → is_in_view dims depths code ≡ true → HasShares columns dims facts code (draft_at columns entries old code) (draft_at columns entries now code)
  pub keys : KeepsToView dims depths old now
  pub over : AreOver columns now

pub HasFacts-none : (dims : List Dimension) (depths : List ℕ) (columns : ℕ) (entries now : Places TermList) → AreOver columns now → HasFacts dims depths columns entries [] now now
HasFacts-none dims depths columns entries now over = record {
  shares = λ code in_view. HasShares-none columns dims code (draft_at columns entries now code);
  keys = λ code there. grind (arith, there);
  over = over;
}

module _ (dims : List Dimension) (depths : List ℕ) (columns : ℕ) (entries : Places TermList) (put : Bool) (changes : List ViewChange) (old now : Places TermList)
    (i : ℕ) (change : ViewChange) (within : i < length changes) (is : change ≡ get_or changes i change) (before : HasFacts dims depths columns entries (facts_of_kind put (take i changes)) old now) where
  -- a change of another kind adds nothing
  pub HasFacts-other : puts_as put change ≡ false → HasFacts dims depths columns entries (facts_of_kind put (take (i + 1) changes)) old now
  HasFacts-other kind = rw (facts-next_other put changes i change within is kind) before

  pub is_change : All (IsChange dims columns) changes → IsChange dims columns change
  is_change all = subst (IsChange dims columns) (sym is) (All-get_or (IsChange dims columns) changes i change within all)

  -- the share of a change of the kind fits
  pub change-fits : IsChange dims columns change → puts_as put change ≡ true
      → ((code : ℕ) → is_in_view dims depths code ≡ true → FitsShares columns dims put changes code (draft_at columns entries old code))
      → (code : ℕ) → is_in_view dims depths code ≡ true → FitsChange columns dims change code (draft_at columns entries now code)
  change-fits one kind fits code in_view =
      FitsShares-change columns dims put changes i change code (draft_at columns entries old code) (draft_at columns entries now code) one (facts-next_of_kind put changes i change within is kind) (fits code in_view) (before.shares code in_view)

  -- and once it was added, the shares of one more were
  pub HasFacts-next : (new : Places TermList) → IsChange dims columns change → puts_as put change ≡ true
      → ((code : ℕ) → is_in_view dims depths code ≡ true → AddsChange dims change code (draft_at columns entries now code) (draft_at columns entries new code))
      → KeepsToView dims depths now new → AreOver columns new → HasFacts dims depths columns entries (facts_of_kind put (take (i + 1) changes)) old new
  HasFacts-next new one kind adds keys over = record {
    shares = λ code in_view.
        rw (facts-next_of_kind put changes i change within is kind)
        (HasShares-next columns dims (facts_of_kind put (take i changes)) change code (draft_at columns entries old code) (draft_at columns entries now code) (draft_at columns entries new code) one (before.shares code in_view) (adds code in_view));
    keys = λ code there. grind (arith, before.keys code, keys code there);
    over = over;
  }
