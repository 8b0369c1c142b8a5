-- A change that puts facts, added to the entries of a view.
use Rattle.std.proofs.Common.{◌≡◌, ℕ, ◌+◌, ◌-◌, ◌<◌, Bool, true, false, List, [], ◌∷◌, ◌++◌, length, refl, ap, sym, subst, arith, Option, Some, None, is_some, unwrap_or}
use Rattle.std.specs.Prelude.{Err, IfSome, Ok, OnOk, Result}
use Rattle.std.proofs.lemmas.Bool.Decides.{nat_tests}
use Rattle.std.proofs.lemmas.Int.{ints}
use Rattle.std.proofs.lemmas.List.Elements.{All-head}
use Rattle.cube_base.specs.declared.fault.Memory.{Memory}
use Rattle.cube_model.specs.declared.term.Term.{Term}
use Rattle.cube_model.specs.Allocation.{ExtendedFact}
use Rattle.cube_model.specs.Answer.{answer, count_of, numerator_of}
use Rattle.cube_model.specs.Tree.{Dimension}
use Rattle.group_sum.specs.Terms.{TermList}
use Rattle.group_sum.proofs.MergeLaws.{merge_nothing}
use Rattle.region_algebra.specs.Space.{region_total}
use Rattle.staged_map.specs.Staged.{Places, value_at}
use Rattle.view_store.specs.declared.change.ViewChange.{ViewChange}
use Rattle.view_store.specs.Changes.{FitsView, IsChange, change_facts, facts_taken_away}
use Rattle.view_store.specs.Drafts.{AddsChange, AreLeftOver, AreOver, FitsChange, HasShares, KeepsToView, draft_at}
use Rattle.view_store.specs.Facts.{AddsFacts, IsViewOfFacts}
use Rattle.view_store.specs.Views.{AreEntries, IsEntry, IsOver, IsViewOf, ViewMap, held_at, is_in_view, no_terms, region_at}
use Rattle.view_store.proofs.AllChanges.{facts-next_of_kind}
use Rattle.view_store.proofs.Shares.{FitsShares-change, HasShares-answer, HasShares-next, HasShares-none, count_of-answer, numerator_of-answer}
use Rattle.view_store.proofs.Staging.{IsOver-none, AreOver-entries, facts_put-fits, held-over}

module _ (dims : List Dimension) (depths : List ℕ) (columns : ℕ) (entries : Places TermList) (change : ViewChange) (are : AreEntries columns entries)
    (fits : FitsView dims (change ∷ []) (record { columns = columns; depths = depths; entries = entries })) (puts : change.put ≡ true) where
  abbrev one : List ViewChange
  one = change ∷ []

  pub change-one : IsChange dims columns change
  change-one = All-head (IsChange dims columns) change [] fits.changes_fit

  none-over : IsOver columns (no_terms columns)
  none-over = IsOver-none columns entries are

  entry-over : (code : ℕ) → IsOver columns (held_at columns entries code)
  entry-over code = held-over columns entries code none-over (AreOver-entries columns entries are)

  -- nothing is taken away
  facts_taken_away-none : facts_taken_away one ≡ []
  facts_taken_away-none = rw puts refl

  left-none : AreLeftOver dims one (record { columns = columns; depths = depths; entries = entries }) []
  unfolding answer
  left-none = record {
    left = λ code in_view.
        let old = held_at columns entries code in
        let over = entry-over code in
        rw facts_taken_away-none (record { columns = refl; merges = merge_nothing old.columns over.are_terms.some old.terms over.are_terms.terms });
    keys = λ code there. grind (arith, there);
    over = λ code. tt;
  }

  -- so what is put fits the entries
  pub fits-one : (code : ℕ) → is_in_view dims depths code ≡ true → FitsChange columns dims change code (held_at columns entries code)
  fits-one code in_view =
      let within : 0 < length one = omega arith in
      FitsShares-change columns dims true one 0 change code (held_at columns entries code) (held_at columns entries code) change-one (facts-next_of_kind true one 0 change within refl puts)
      (facts_put-fits dims depths columns entries one are fits [] left-none code in_view) (HasShares-none columns dims code (held_at columns entries code))

  -- once its shares were added
  module _ (new : Places TermList) (adds : (code : ℕ) → is_in_view dims depths code ≡ true → AddsChange dims change code (held_at columns entries code) (held_at columns new code)) (keys : KeepsToView dims depths entries new) (over : AreOver columns new) where
    new-over : (code : ℕ) → IsOver columns (held_at columns new code)
    new-over code = held-over columns new code none-over over

    module _ (facts : List ExtendedFact) (was : IsViewOfFacts dims facts (record { columns = columns; depths = depths; entries = entries })) where
      has-facts : (code : ℕ) → is_in_view dims depths code ≡ true → HasShares columns dims facts code (no_terms columns) (held_at columns entries code)
      has-facts code in_view =
          let read = was.answers code in_view in
          record {
            counts = λ d. omega (arith, ap (λ (terms : List Term). count_of terms d) read, count_of-answer (columns - 1) dims facts (region_at dims code) d);
            sums = λ d k lt. omega (arith, ints, ap (λ (terms : List Term). numerator_of terms d (k + 1)) read, numerator_of-answer (columns - 1) dims facts (region_at dims code) d k (omega arith));
          }

      -- the entries are the answers with its facts
      answers-more : (code : ℕ) → is_in_view dims depths code ≡ true → (held_at columns new code).terms ≡ answer (columns - 1) dims (facts ++ change_facts change) (region_at dims code)
      answers-more code in_view =
          ap (λ (list : TermList). list.terms) (HasShares-answer columns dims (facts ++ change_facts change) code (held_at columns new code) (new-over code)
          (HasShares-next columns dims facts change code (no_terms columns) (held_at columns entries code) (held_at columns new code) change-one (has-facts code in_view) (adds code in_view)))

      -- and there are no others
      none-more : (code : ℕ) → is_in_view dims depths code ≡ false → (held_at columns new code).terms ≡ []
      none-more code outside = by (value_at new code) refl
        where
          was-none : (o : Option TermList) → IfSome o (IsEntry columns) → (unwrap_or o (no_terms columns)).terms ≡ [] → is_some o ≡ true → ⊥
          was-none None entry none some = cc
          was-none (Some list) entry none some = omega (arith, entry.some, ap length none)

          by : (o : Option TermList) → value_at new code ≡ o → (unwrap_or o (no_terms columns)).terms ≡ []
          by None is = refl
          by (Some list) is =
              let there : is_some (value_at entries code) ≡ true = grind (arith, keys code (ap is_some is), outside) in
              absurd (was-none (value_at entries code) (are.each code) (was.others code outside) there)

      facts-more : IsViewOfFacts dims (facts ++ change_facts change) (record { columns = columns; depths = depths; entries = new })
      facts-more = record {
        columns = λ code. (new-over code).columns_are;
        answers = answers-more;
        others = none-more;
      }

    pub adds-facts : IsViewOf dims (record { columns = columns; depths = depths; entries = entries }) → AddsFacts dims change (record { columns = columns; depths = depths; entries = entries }) (record { columns = columns; depths = depths; entries = new })
    adds-facts was = record {
      columns = refl;
      depths = refl;
      over = record { depths = was.depths; regions = λ code there. by code (is_in_view dims depths code) refl there };
      facts = facts-more;
    }
      where
        by : (code : ℕ) (b : Bool) → is_in_view dims depths code ≡ b → is_some (value_at new code) ≡ true → code < region_total dims
        by code true inside there = grind (arith, nat_tests, inside)
        by code false outside there = was.regions code (grind (arith, keys code there, outside))

  -- So where adding them ended well: the entries are the drafts over no entries.
  module _ (none : Places TermList) (cuts : List ℕ) (empty : none ≡ []) (same : cuts ≡ depths) where
    pub fits-drafts : (code : ℕ) → is_in_view dims cuts code ≡ true → FitsChange columns dims change code (draft_at columns none entries code)
    fits-drafts = rw (empty, same) fits-one

    pub adds-ok : (new : Places TermList) (result : Result (Unit {0}) Memory)
        → OnOk result ((code : ℕ) → is_in_view dims cuts code ≡ true → AddsChange dims change code (draft_at columns none entries code) (draft_at columns none new code)) → OnOk result (KeepsToView dims cuts entries new) → OnOk result (AreOver columns new)
        → (old : ViewMap) → record { columns = columns; depths = depths; entries = entries } ≡ old → IsViewOf dims old → OnOk result (AddsFacts dims change old (record { columns = columns; depths = depths; entries = new }))
    adds-ok new (Ok u) adds keys over old is was =
        subst (λ (view : ViewMap). AddsFacts dims change view (record { columns = columns; depths = depths; entries = new })) is
        (adds-facts new (rw (empty, same) at adds) (rw same at keys) over (subst (IsViewOf dims) (sym is) was))
    adds-ok new (Err e) adds keys over old is was = tt
