-- What a share that is added to one term does to all of them.
use Rattle.std.proofs.Common.{◌≡◌, ℕ, zero, suc, ◌+◌, ◌<◌, ◌≤◌, Bool, true, List, [], ◌∷◌, length, get_or, set, replicate, ℤ, pos, nat_abs, Some, None, sym, ap, inl, inr, false, ◌==◌, le-leb, ◌∙◌, refl, arith, add-one}
use Rattle.std.specs.Prelude.{nat_le}
use Rattle.std.specs.List.{insert, list_all}
use Rattle.std.proofs.lemmas.Bool.{cases_eq}
use Rattle.std.proofs.lemmas.Bool.Decides.{nat_tests}
use Rattle.std.proofs.lemmas.List.{length-replicate, get_or_default}
use Rattle.std.specs.Option.{option_map_or}
use lib.IntN.{+ℤ_idr}
use Rattle.cube_model.specs.declared.term.Term.{Term}
use Rattle.cube_model.specs.Answer.{term_of, count_of, numerator_of}
use Rattle.cube_model.specs.Limits.{WIDE}
use Rattle.group_sum.specs.Terms.{TermList, are_terms_from, is_term, AreTerms, FitsUnits, AddsUnits}
use Rattle.group_sum.specs.Share.{TermFits, RaisesTerm, bare_term}
use Rattle.group_sum.specs.Place.{term_at, no_term, IsAt, IsGapFor}
use Rattle.group_sum.proofs.Ascending.{FindsAfter, term_of_at, term_of_gap, term_of-set, term_of-insert, are_terms-set, are_terms-insert, is_term_at}

-- the term has what the terms have at its denominator
pub record StandsFor (terms : List Term) (values : ℕ) (term : Term) : Type 0 where
  pub count : count_of terms term.den ≡ term.count
  pub columns : length term.sums ≡ values
  pub sums : (k : ℕ) → numerator_of terms term.den (k + 1) ≡ get_or term.sums k (pos 0)

-- each of some zeros is 0, and so is what is read past them
pub get_or-zeros : (n k : ℕ) → get_or (replicate n (pos 0)) k (pos 0) ≡ pos 0
get_or-zeros zero k = refl
get_or-zeros (suc n) zero = refl
get_or-zeros (suc n) (suc k) = get_or-zeros n k

-- a test that each element passes
pub list_all_passes : {X : Type 0} (p : X → Bool) (d : X) (xs : List X) → ((k : ℕ) → k < length xs → p (get_or xs k d) ≡ true) → list_all p xs ≡ true
list_all_passes p d [] each = refl
list_all_passes p d (x ∷ xs) each = grind (arith, each 0 (omega arith), list_all_passes p d xs (λ k lt. each (suc k) (omega arith)))

module _ (terms : List Term) (d k : ℕ) where
  -- a numerator where there is a term, and where there is none
  pub numerator_there : (term : Term) → term_of terms d ≡ Some term → numerator_of terms d (k + 1) ≡ get_or term.sums k (pos 0)
  numerator_there term found = ap (λ o. option_map_or (λ (t : Term). get_or (pos t.count ∷ t.sums) (k + 1) (pos 0)) o (pos 0)) found ∙ (rw add-one refl)

  pub numerator_absent : term_of terms d ≡ None → numerator_of terms d (k + 1) ≡ pos 0
  numerator_absent none = ap (λ o. option_map_or (λ (t : Term). get_or (pos t.count ∷ t.sums) (k + 1) (pos 0)) o (pos 0)) none

-- a share that fits, at a term that stands for its denominator
module _ (terms : List Term) (units weight : ℕ) (values : List ℤ) (term : Term) (fits : FitsUnits terms term.den units weight values) (stands : StandsFor terms (length values) term) where
  -- the share fits the term
  pub term_fits : TermFits term units weight values
  term_fits = record {
    count = rw (← stands.count) fits.count;
    sums = record { columns = sym stands.columns; each = λ k lt. rw (← stands.sums k) (fits.sums k lt) };
  }

  module _ (columns : ℕ) (whole : length values + 1 ≡ columns) (new : Term) (raises : RaisesTerm term new units weight values) where
    -- no sum of the raised term passes WIDE
    sum_within : (k : ℕ) → k < length new.sums → nat_le (nat_abs (get_or new.sums k (pos 0))) WIDE ≡ true
    sum_within k lt =
        let in_values : k < length values = omega (arith, raises.sums.columns, stands.columns) in
        let bound : nat_abs (get_or new.sums k (pos 0)) ≤ WIDE = rw (raises.sums.each k in_values) (term_fits.sums.each k in_values) in
        le-leb _ _ bound

    -- the raised term is one of these columns
    pub is_term_raised : 1 ≤ units → is_term columns new ≡ true
    is_term_raised some =
        let sums = list_all_passes (λ sum. nat_le (nat_abs sum) WIDE) (pos 0) new.sums sum_within in
        grind (arith, nat_tests, sums, raises.count, raises.sums.columns, term_fits.count)

    -- at the share's denominator the numerators grow, and at the others they stay
    pub adds_share : (all : List Term) → FindsAfter terms all new → AddsUnits (record { columns = columns; terms = terms }) (record { columns = columns; terms = all }) term.den units weight values
    adds_share all finds = record {
      columns = refl;
      counts = λ d. grind (arith, nat_tests, finds d, raises.count, raises.den, stands.count);
      sums = λ d k lt. elim (cases_eq d term.den) [
        | inl same ↦
            let test : (d == term.den) ≡ true = grind (arith, nat_tests) in
            let now : numerator_of all d (k + 1) ≡ get_or new.sums k (pos 0) = numerator_there all d k new (grind (arith, nat_tests, finds d, raises.den)) in
            let before : numerator_of terms d (k + 1) ≡ get_or term.sums k (pos 0) = rw same (stands.sums k) in
            rw (now, before, test) (raises.sums.each k lt)
        | inr other ↦
            let test : (d == term.den) ≡ false = grind (arith, nat_tests) in
            let same : term_of all d ≡ term_of terms d = grind (arith, nat_tests, finds d, raises.den) in
            rw (test, same) (sym (+ℤ_idr _))
      ];
    }

-- the term at a place stands for its denominator
pub stands_at : (columns : ℕ) (terms : List Term) → are_terms_from columns 1 terms ≡ true → (values at : ℕ) → values + 1 ≡ columns → (term : Term) → at < length terms → term ≡ get_or terms at term → StandsFor terms values term
stands_at columns terms ok values at whole term within is =
    let here : term_at terms at ≡ term = get_or_default terms at no_term term within ∙ sym is in
    let place : IsAt terms term.den at = record { in_range = within; has_key = ap (λ (t : Term). t.den) here } in
    let found : term_of terms term.den ≡ Some term = term_of_at columns 1 terms ok term.den at place ∙ ap (λ (t : Term). Some t) here in
    let is_whole : is_term columns term ≡ true = ap (λ (t : Term). is_term columns t) (sym here) ∙ is_term_at columns 1 terms ok at within in
    record { count = ap (λ o. option_map_or (λ (t : Term). t.count) o 0) found; columns = grind (arith, nat_tests); sums = λ k. numerator_there terms term.den k term found }

-- and so does a term that has no share, where the denominator has none
pub stands_bare : (terms : List Term) (den values : ℕ) → term_of terms den ≡ None → StandsFor terms values (bare_term den values)
stands_bare terms den values none = record {
  count = ap (λ o. option_map_or (λ (t : Term). t.count) o 0) none;
  columns = length-replicate values (pos 0);
  sums = λ k. numerator_absent terms den k none ∙ sym (get_or-zeros values k);
}

-- with a share added, all are terms again
pub record Grows (list : TermList) (all : List Term) (den units weight : ℕ) (values : List ℤ) : Type 0 where
  pub terms : AreTerms (record { columns = list.columns; terms = all })
  pub adds : AddsUnits list (record { columns = list.columns; terms = all }) den units weight values

module _ (list : TermList) (ok : AreTerms list) (den units weight : ℕ) (values : List ℤ) (whole : length values + 1 ≡ list.columns) (fits : FitsUnits list.terms den units weight values) (at : ℕ) where
  -- at a denominator that has a term
  module _ (place : IsAt list.terms den at) (term : Term) (is : term ≡ get_or list.terms at term) where
    -- the term that is read there has the denominator
    den_here : term.den ≡ den
    den_here = ap (λ (t : Term). t.den) (is ∙ get_or_default list.terms at term no_term place.in_range) ∙ place.has_key

    -- the share fits, and the term stands for its denominator
    fits_here : FitsUnits list.terms term.den units weight values
    fits_here = rw den_here fits

    stands_here : StandsFor list.terms (length values) term
    stands_here = stands_at list.columns list.terms ok.terms (length values) at whole term place.in_range is

    -- so the share fits the term, and the terms with the raised one have the share
    pub term_fits_at : TermFits term units weight values
    term_fits_at = term_fits list.terms units weight values term fits_here stands_here

    pub grows_at : 1 ≤ units → (new : Term) → RaisesTerm term new units weight values → Grows list (set list.terms at new) den units weight values
    grows_at some new raises =
        let new_place : IsAt list.terms new.den at = rw (raises.den ∙ den_here) place in
        let new_whole = is_term_raised list.terms units weight values term fits_here stands_here list.columns whole new raises some in
        let finds = term_of-set list.columns 1 list.terms ok.terms new at new_place in
        record {
          terms = record { some = ok.some; most = ok.most; terms = are_terms-set list.columns 1 list.terms ok.terms new at new_place new_whole };
          adds = rw (← den_here) (adds_share list.terms units weight values term fits_here stands_here list.columns whole new raises (set list.terms at new) finds);
        }

  -- at a denominator that has none
  module _ (gap : IsGapFor list.terms den at) where
    -- a bare term stands for it
    stands_in_gap : StandsFor list.terms (length values) (bare_term den (length values))
    stands_in_gap = stands_bare list.terms den (length values) (term_of_gap list.terms den at gap)

    -- so the share fits the bare term, and the terms with the raised one inserted have the share
    pub bare_term_fits : TermFits (bare_term den (length values)) units weight values
    bare_term_fits = term_fits list.terms units weight values (bare_term den (length values)) fits stands_in_gap

    pub grows_in_gap : 1 ≤ den → 1 ≤ units → (new : Term) → RaisesTerm (bare_term den (length values)) new units weight values → Grows list (insert list.terms at new) den units weight values
    grows_in_gap from some new raises =
        let new_gap : IsGapFor list.terms new.den at = rw raises.den gap in
        let new_whole = is_term_raised list.terms units weight values (bare_term den (length values)) fits stands_in_gap list.columns whole new raises some in
        record {
          terms = record { some = ok.some; most = ok.most; terms = are_terms-insert list.columns 1 list.terms ok.terms new at new_gap (omega (arith, raises.den)) new_whole };
          adds = adds_share list.terms units weight values (bare_term den (length values)) fits stands_in_gap list.columns whole new raises (insert list.terms at new) (term_of-insert list.terms new at new_gap);
        }
