-- Lists of terms, and what adding a share to them does.
use Rattle.std.specs.Prelude.{◌≡◌, ℕ, ◌+◌, ◌<◌, ◌≤◌, Bool, true, List, [], ◌∷◌, length, nat_le, ◌==◌, ◌&&◌, if◌then◌else◌, slice_index_or, ℤ, pos, ◌+ℤ◌, ◌*ℤ◌, nat_abs, None}
use Rattle.std.specs.List.{list_all}
use Rattle.cube_model.specs.declared.term.Term.{Term}
use Rattle.cube_model.specs.Answer.{count_of, numerator_of, term_of}
use Rattle.cube_model.specs.Limits.{MAX_COLS, WIDE}

-- terms over a number of columns, the count included
pub record TermList : Type 0 where
  pub columns : ℕ
  pub terms : List Term

-- a term of so many columns: the count is at least 1, and no numerator passes WIDE
abbrev pub is_term : ℕ → Term → Bool
is_term columns term =
    nat_le 1 term.count && nat_le term.count WIDE && length term.sums + 1 == columns && list_all (λ sum. nat_le (nat_abs sum) WIDE) term.sums

-- terms whose denominators ascend strictly, from at least this one on
abbrev pub are_terms_from : ℕ → ℕ → List Term → Bool
are_terms_from columns least [] = true
are_terms_from columns least (term ∷ terms) = nat_le least term.den && is_term columns term && are_terms_from columns (term.den + 1) terms

-- denominators are at least 1 and ascend strictly, and each term has the columns
pub record AreTerms (list : TermList) : Type 0 where
  pub some : 1 ≤ list.columns
  pub most : list.columns ≤ MAX_COLS + 1
  pub terms : are_terms_from list.columns 1 list.terms ≡ true

-- with units added to the count at a denominator, and the weight times each value to the other columns, no numerator passes WIDE
pub record FitsUnits (terms : List Term) (den units weight : ℕ) (values : List ℤ) : Type 0 where
  pub count : count_of terms den + units ≤ WIDE
  pub sums : (k : ℕ) → k < length values → nat_abs (numerator_of terms den (k + 1) +ℤ pos weight *ℤ slice_index_or values k (pos 0)) ≤ WIDE

-- so with a share, whose weight is its units
abbrev pub FitsShare : List Term → ℕ → ℕ → List ℤ → Type 0
FitsShare terms den weight values = FitsUnits terms den weight weight values

-- units make a term, since their denominator has none
pub record NeedsTerm (terms : List Term) (den units : ℕ) : Type 0 where
  pub some : 1 ≤ units
  pub absent : term_of terms den ≡ None

-- Units were added to the count at a denominator, and the weight times each value to the other columns. At every other
-- denominator all numerators stay.
pub record AddsUnits (old new : TermList) (den units weight : ℕ) (values : List ℤ) : Type 0 where
  pub columns : new.columns ≡ old.columns
  pub counts : (d : ℕ) → count_of new.terms d ≡ count_of old.terms d + (if d == den then units else 0)
  pub sums : (d k : ℕ) → k < length values →
      numerator_of new.terms d (k + 1) ≡ numerator_of old.terms d (k + 1) +ℤ (if d == den then pos weight *ℤ slice_index_or values k (pos 0) else pos 0)

-- a share was added, whose weight is its units
abbrev pub AddsShare : TermList → TermList → ℕ → ℕ → List ℤ → Type 0
AddsShare old new den weight values = AddsUnits old new den weight weight values
