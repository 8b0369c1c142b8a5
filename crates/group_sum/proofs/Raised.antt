-- Terms with a share added to one of them in place.
use Rattle.std.proofs.Common.{◌≡◌, ℕ, ◌+◌, ◌-◌, ◌≤◌, List, length, set, ℤ, sym, ap, subst, ◌∙◌, arith}
use Rattle.std.specs.List.{insert}
use Rattle.std.proofs.lemmas.List.{get_or_default, length-take-le, set_at}
use Rattle.std.proofs.lemmas.List.Edits.{get_or-insert_at}
use Rattle.cube_model.specs.declared.term.Term.{Term}
use Rattle.group_sum.specs.Place.{IsAt, IsGapFor, no_term, term_at}
use Rattle.group_sum.specs.Share.{RaisesTerm, TermFits, bare_term}
use Rattle.group_sum.specs.Terms.{AddsUnits, AreTerms, FitsUnits, TermList}
use Rattle.group_sum.proofs.Adding.{bare_term_fits, grows_at, grows_in_gap, term_fits_at}

-- all are terms again, and have the share
pub record IsGrown (old new : TermList) (den units weight : ℕ) (values : List ℤ) : Type 0 where
  pub terms : AreTerms new
  pub adds : AddsUnits old new den units weight values

module _ (list : TermList) (ok : AreTerms list) (den units weight : ℕ) (values : List ℤ) (whole : length values + 1 ≡ list.columns) (fits : FitsUnits list.terms den units weight values) (at : ℕ) where
  -- the share fits the term of its denominator
  pub fits_there : IsAt list.terms den at → TermFits (term_at list.terms at) units weight values
  fits_there place = term_fits_at list ok den units weight values whole fits at place (term_at list.terms at) (get_or_default list.terms at no_term (term_at list.terms at) place.in_range)

  -- and where that is raised all have the share
  pub grown_there : IsAt list.terms den at → 1 ≤ units → (new : TermList) → new ≡ record { columns = list.columns; terms = set list.terms at (term_at new.terms at) }
      → RaisesTerm (term_at list.terms at) (term_at new.terms at) units weight values → IsGrown list new den units weight values
  grown_there place some new only raised =
      let grown = grows_at list ok den units weight values whole fits at place (term_at list.terms at) (get_or_default list.terms at no_term (term_at list.terms at) place.in_range) some (term_at new.terms at) raised in
      record { terms = subst (λ (l : TermList). AreTerms l) (sym only) grown.terms; adds = subst (λ (l : TermList). AddsUnits list l den units weight values) (sym only) grown.adds }

  module _ (gap : IsGapFor list.terms den at) (mid : TermList) (is_mid : mid ≡ record { columns = list.columns; terms = insert list.terms at (bare_term den (list.columns - 1)) }) where
    -- a bare term in the gap is the one of its denominator
    bare_is : bare_term den (list.columns - 1) ≡ bare_term den (length values)
    bare_is = ap (bare_term den) (omega (arith, whole))

    bare_there : term_at mid.terms at ≡ bare_term den (length values)
    bare_there = ap (λ (l : TermList). term_at l.terms at) is_mid ∙ get_or-insert_at list.terms at (bare_term den (list.columns - 1)) no_term gap.in_range ∙ bare_is

    -- the share fits it
    pub fits_bare : TermFits (term_at mid.terms at) units weight values
    fits_bare = rw bare_there (bare_term_fits list ok den units weight values whole fits at gap)

    -- and where that is raised all have the share
    pub grown_bare : 1 ≤ den → 1 ≤ units → (new : TermList) → new ≡ record { columns = mid.columns; terms = set mid.terms at (term_at new.terms at) }
        → RaisesTerm (term_at mid.terms at) (term_at new.terms at) units weight values → IsGrown list new den units weight values
    grown_bare from some new only raised =
        let own = subst (λ t. RaisesTerm t (term_at new.terms at) units weight values) bare_there raised in
        let grown = grows_in_gap list ok den units weight values whole fits at gap from some (term_at new.terms at) own in
        let over : set (insert list.terms at (bare_term den (list.columns - 1))) at (term_at new.terms at) ≡ insert list.terms at (term_at new.terms at) = set_at _ _ _ _ at (length-take-le at list.terms gap.in_range) in
        let put : new ≡ record { columns = list.columns; terms = insert list.terms at (term_at new.terms at) } =
        only ∙ ap (λ (l : TermList). let all : TermList = record { columns = l.columns; terms = set l.terms at (term_at new.terms at) } in all) is_mid
        ∙ ap (λ (ts : List Term). let all : TermList = record { columns = list.columns; terms = ts } in all) over in
        record { terms = subst (λ (l : TermList). AreTerms l) (sym put) grown.terms; adds = subst (λ (l : TermList). AddsUnits list l den units weight values) (sym put) grown.adds }
