-- What is staged for the entries of a view, from the drafts of those that are made anew.
use Rattle.std.proofs.Common.{◌≡◌, ℕ, Bool, true, false, cond, List, [], ◌∷◌, get_or, length, refl, ap, sym, subst, ◌∙◌, arith, Option, Some, None, is_some, unwrap_or}
use Rattle.std.specs.Prelude.{IfSome, if◌then◌else◌, ◌==◌}
use Rattle.std.proofs.lemmas.Bool.Decides.{nat_tests}
use Rattle.cube_model.specs.declared.term.Term.{Term}
use Rattle.cube_model.specs.Tree.{Dimension}
use Rattle.group_sum.specs.Terms.{TermList}
use Rattle.staged_map.specs.Staged.{AreOfDifferentKeys, Entries, staged_entry, value_at}
use Rattle.staged_map.specs.Staged.{Places}
use Rattle.std.proofs.lemmas.Map.Entries.{lookup_from_place}
use Rattle.std.proofs.lemmas.Option.{slice_get-get_or}
use Rattle.std.specs.Cmp.{nat_eq_equiv}
use Rattle.std.specs.Option.{option_flatten, option_map}
use Rattle.view_store.specs.declared.change.ViewChange.{ViewChange}
use Rattle.view_store.specs.Changes.{AreWhole, IsMadeAnew, IsMadeFor, facts_put, facts_taken_away, shares, staged_at}
use Rattle.view_store.specs.Drafts.{AreKept, AreOver, AreRemade, draft_at, kept}
use Rattle.view_store.specs.Views.{held_at, is_in_view, IsEntry, IsOver, no_terms}

module _ (columns : ℕ) (drafts : Places TermList) (items : Entries TermList) (are : AreKept drafts items) where
  staged-of : (code : ℕ) → staged_entry items code ≡ cond (is_some (value_at drafts code)) (Some (kept (value_at drafts code))) None
  staged-of code = are code ∙ by (value_at drafts code)
    where
      by : (o : Option TermList) → option_map (λ list. kept (Some list)) o ≡ cond (is_some o) (Some (kept o)) None
      by None = refl
      by (Some list) = refl

  pub whole-made : AreOfDifferentKeys items → AreOver columns drafts → AreWhole columns items
  whole-made distinct over i d within =
      let entry = get_or items i d in
      let there : staged_entry items entry.0 ≡ Some entry.1 = lookup_from_place nat_eq_equiv items i entry.0 entry.1 distinct (slice_get-get_or items i d within) in
      by (value_at drafts entry.0) entry.1 (over entry.0) (sym (are entry.0) ∙ there)
    where
      whole : (list : TermList) (b : Bool) → (length list.terms == 0) ≡ b → IsOver columns list → IfSome (if b then None else Some list) (IsEntry columns)
      whole list true is over = tt
      whole list false is over = record { over = over; some = grind (arith, nat_tests, is) }

      by : (o staged : Option TermList) → IfSome o (IsOver columns) → option_map (λ list. kept (Some list)) o ≡ Some staged → IfSome staged (IsEntry columns)
      by None staged over is = absurd (grind (arith, is))
      by (Some list) staged over is = subst (λ (o : Option (Option TermList)). IfSome (option_flatten o) (IsEntry columns)) is (whole list (length list.terms == 0) refl over)

  module _ (dims : List Dimension) (depths : List ℕ) (entries : Places TermList) (changes : List ViewChange) (remade : AreRemade dims changes (record { columns = columns; depths = depths; entries = entries }) drafts) where
    staged-is : (code : ℕ) → staged_at (record { columns = columns; depths = depths; entries = entries }) items code ≡ draft_at columns entries drafts code
    staged-is code = by (value_at drafts code) (staged-of code) (remade.over code)
      where
        empty : (list : TermList) (b : Bool) → (length list.terms == 0) ≡ b → IsOver columns list → unwrap_or (if b then None else Some list) (no_terms columns) ≡ list
        empty list false is over = refl
        empty list true is over = none list.terms is refl over.columns_are
          where
            none : (terms : List Term) → (length terms == 0) ≡ true → list.terms ≡ terms → list.columns ≡ columns → no_terms columns ≡ list
            none [] nothing is cols = grind (arith, is, cols)
            none (t ∷ terms) nothing is cols = absurd (grind (arith, nat_tests, nothing))

        by : (o : Option TermList) → staged_entry items code ≡ cond (is_some o) (Some (kept o)) None → IfSome o (IsOver columns)
            → unwrap_or (unwrap_or (staged_entry items code) (value_at entries code)) (no_terms columns) ≡ unwrap_or o (held_at columns entries code)
        by None is over = rw is refl
        by (Some list) is over = rw is (empty list (length list.terms == 0) refl over)

    pub made-for : IsMadeFor dims changes (record { columns = columns; depths = depths; entries = entries }) items
    made-for = record {
      made = λ code in_view. subst (IsMadeAnew (held_at columns entries code) (shares columns dims (facts_taken_away changes) code) (shares columns dims (facts_put changes) code)) (sym (staged-is code)) (remade.made code in_view);
      kept = λ code outside. by code (value_at drafts code) refl outside (staged-of code);
    }
      where
        by : (code : ℕ) (o : Option TermList) → value_at drafts code ≡ o → is_in_view dims depths code ≡ false → staged_entry items code ≡ cond (is_some o) (Some (kept o)) None → staged_entry items code ≡ None
        by code None is outside at = at
        by code (Some list) is outside at = absurd (grind (arith, outside, remade.keys code (ap is_some is)))
