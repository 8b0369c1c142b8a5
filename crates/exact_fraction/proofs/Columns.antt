-- The fractions of a column of moderate terms.
use Rattle.std.proofs.Common.{◌≡◌, ℕ, zero, suc, ◌+◌, ◌*◌, ◌/◌, ◌^◌, ◌<◌, ◌≤◌, true, false, List, [], ◌∷◌, length, Some, refl, sym, ap, ◌∙◌, arith, add-one, ℤ, pos, negsuc, map, drop}
use Rattle.std.specs.Prelude.{nat_abs, nat_lt, All, slice_get, slice_index_or}
use Rattle.std.specs.Option.{option_map}
use Rattle.std.specs.Int.{is_negative}
use Rattle.std.proofs.lemmas.Bool.Decides.{nat_tests}
use Rattle.std.proofs.lemmas.Option.{slice_get-get_or}
use Rattle.std.proofs.lemmas.List.{drop-map}
use Rattle.std.proofs.lemmas.List.Elements.{All-nil, All-cons, All-get_or, All-from_get_or}
use Rattle.std.proofs.Math.Seq.{drop-cons}
use Rattle.std.proofs.Math.Nat.{div-le_self}
use Rattle.cube_model.specs.declared.term.Term.{Term}
use Rattle.cube_model.specs.Limits.{MAX_VALUE}
use Rattle.group_sum.specs.Terms.{are_terms_from, is_term}
use Rattle.group_sum.specs.Place.{term_at, no_term}
use Rattle.group_sum.proofs.Ascending.{at_least, first_is, is_term_at}
use Rattle.exact_fraction.specs.Number.{gcd}
use Rattle.exact_fraction.specs.Fraction.{Fraction, reduced, term_fraction, column_fractions}
use Rattle.exact_fraction.specs.Moderate.{IsModerate, IsModerateTerm}
use Rattle.exact_fraction.specs.Signed.{signed, fraction_of, signed_lowest, signed_over, IsFractionAt, MOST_PART}
use Rattle.exact_fraction.proofs.Divisors.{cofactor_some, cofactor_le}
use Rattle.exact_fraction.proofs.Signs.{nat_abs-signed, reduced-signed}

-- a column of a term, the count being column 0
abbrev pub column_of : ℕ → Term → ℤ
column_of column t = slice_index_or (pos t.count ∷ t.sums) column (pos 0)

-- no column passes MAX_VALUE times the count
pub column_bound : (t : Term) → IsModerateTerm t → (column : ℕ) → column ≤ length t.sums → nat_abs (column_of column t) ≤ MAX_VALUE * t.count
column_bound t moderate zero within = omega arith
column_bound t moderate (suc k) within = All-get_or (λ sum. nat_abs sum ≤ MAX_VALUE * t.count) t.sums k (pos 0) (omega arith) moderate.sums

signed_parts : (z : ℤ) → signed (is_negative z) (nat_abs z) ≡ z
signed_parts (pos n) = let positive : nat_lt n 0 ≡ false = grind (arith, nat_tests) in rw positive
signed_parts (negsuc n) = refl

-- a fraction of the sign and size of its numerator
fraction_of-lowest : (num : ℤ) (den : ℕ) → fraction_of (signed_lowest (signed_over num den)) ≡ reduced num den
fraction_of-lowest num den =
    sym (reduced-signed (is_negative num) (nat_abs num) den) ∙ ap (λ z. reduced z den) (signed_parts num)

module _ (columns column i : ℕ) (terms : List Term) (ok : are_terms_from columns 1 terms ≡ true) (moderate : IsModerate terms) (within : i < length terms) (in_columns : column < columns) where
  -- the term that stands there is a whole and moderate one
  here_moderate : IsModerateTerm (term_at terms i)
  here_moderate = All-get_or IsModerateTerm terms i no_term within moderate.each

  here_within : column ≤ length (term_at terms i).sums
  here_within = let whole = is_term_at columns 1 terms ok i within in grind (arith, nat_tests, whole)

  -- so is its column
  here_bound : nat_abs (column_of column (term_at terms i)) ≤ MOST_PART * (term_at terms i).den
  here_bound = omega (arith, column_bound (term_at terms i) here_moderate column here_within, here_moderate.count)

  -- and the fraction follows those before it
  here_next : drop i (column_fractions column terms) ≡ term_fraction column (term_at terms i) ∷ drop (i + 1) (column_fractions column terms)
  here_next = drop-map (term_fraction column) i terms ∙ ap (map (term_fraction column)) (drop-cons terms i no_term within)
      ∙ rw (add-one, drop-map (term_fraction column) (suc i) terms) refl

  pub part_is : (num : ℤ) (den : ℕ) → option_map (column_of column) (slice_get terms i) ≡ Some num → option_map (λ (t : Term). t.den) (slice_get terms i) ≡ Some den → den < 2 ^ 64
      → (1 ≤ den) × IsFractionAt column terms i (signed_lowest (signed_over num den))
  part_is num den num_read den_read fits =
      let read : slice_get terms i ≡ Some (term_at terms i) = slice_get-get_or terms i no_term within in
      let num_is : column_of column (term_at terms i) ≡ num = cc (read, num_read) in
      let den_is : (term_at terms i).den ≡ den = cc (read, den_read) in
      let some : 1 ≤ den = rw (← den_is) (at_least columns 1 terms ok i within) in
      let bound : nat_abs num ≤ MOST_PART * den = rw (← num_is, ← den_is) here_bound in (
        some,
        record {
          next = here_next ∙ ap (λ f. f ∷ drop (i + 1) (column_fractions column terms)) (ap (λ z. reduced z (term_at terms i).den) num_is ∙ ap (reduced num) den_is ∙ sym (fraction_of-lowest num den));
          some = cofactor_some (nat_abs num) den some;
          narrow = omega (arith, div-le_self den (gcd (nat_abs num) den));
          size = cofactor_le MOST_PART (nat_abs num) den some bound;
        },
      )

pub reduced_size : (num : ℤ) (den : ℕ) → nat_abs (reduced num den).num ≡ nat_abs num / gcd (nat_abs num) den
reduced_size num den =
    ap (λ (f : Fraction). nat_abs f.num) (sym (fraction_of-lowest num den)) ∙ nat_abs-signed (is_negative num) (nat_abs num / gcd (nat_abs num) den)

-- a fraction in lowest terms is no larger than it was
pub reduced_small : (most : ℕ) (num : ℤ) (den : ℕ) → 1 ≤ den → nat_abs num ≤ most * den → nat_abs (reduced num den).num ≤ most * (reduced num den).den
reduced_small most num den some le = rw (reduced_size num den) (cofactor_le most (nat_abs num) den some le)

-- where no term's column is larger than some number, no fraction is
pub column_small : (most columns column least : ℕ) (terms : List Term) → 1 ≤ least → are_terms_from columns least terms ≡ true → All (λ t. nat_abs (column_of column t) ≤ most * t.den) terms → All (λ f. nat_abs f.num ≤ most * f.den) (column_fractions column terms)
column_small most columns column least [] from ok small = All-nil (λ f. nat_abs f.num ≤ most * f.den)
column_small most columns column least (t ∷ terms) from ok small =
    let is = first_is columns least t terms ok in
    All-cons (λ f. nat_abs f.num ≤ most * f.den) (term_fraction column t) (column_fractions column terms)
    (reduced_small most (column_of column t) t.den (omega (arith, is.from)) (small 0 t (omega arith)))
    (column_small most columns column (t.den + 1) terms (omega arith) is.others (λ k d lt. small (suc k) d (omega arith)))

-- no column of moderate terms is larger than MOST_PART
pub terms_small : (columns column least : ℕ) (terms : List Term) → are_terms_from columns least terms ≡ true → column < columns → All IsModerateTerm terms → All (λ t. nat_abs (column_of column t) ≤ MOST_PART * t.den) terms
terms_small columns column least terms ok in_columns moderate =
    All-from_get_or (λ t. nat_abs (column_of column t) ≤ MOST_PART * t.den) terms no_term (λ i lt.
    let this = moderate i no_term lt in
    let whole = is_term_at columns least terms ok i lt in
    omega (arith, column_bound (term_at terms i) this column (sums_within columns (term_at terms i) whole in_columns), this.count))
  where
    sums_within : (columns : ℕ) (t : Term) → is_term columns t ≡ true → column < columns → column ≤ length t.sums
    sums_within columns t whole lt = grind (arith, nat_tests)
