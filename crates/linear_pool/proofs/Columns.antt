-- The columns of terms over a multiple of their denominators, added up.
use Rattle.std.proofs.Common.{get_or, ◌≡◌, ℕ, ◌+◌, ◌*◌, ◌/◌, ◌≤◌, true, List, [], ◌∷◌, subst, sym, ap, ◌∙◌, arith, ℤ, pos, ◌+ℤ◌, ◌*ℤ◌}
use Rattle.std.specs.Prelude.{All, nat_abs}
use Rattle.std.specs.Int.{◌∣◌}
use Rattle.std.proofs.lemmas.Int.{ints}
use Rattle.std.proofs.lemmas.List.Elements.{All-nil, All-cons, All-head, All-map, All-tail, All-weaker}
use Rattle.std.proofs.lemmas.Nat.Gcd.{dvd_trans}
use Rattle.std.proofs.Math.Nat.{dvd-mul_left, dvd-mul_right, mul-div_cancel', mul-div_cancel_left, mul-pos}
use Rattle.cube_model.specs.declared.term.Term.{Term}
use Rattle.cube_model.specs.Answer.{total_by}
use Rattle.cube_model.proofs.Totals.{total_by-same, total_by-times, total_by-total_by}
use Rattle.group_sum.specs.Terms.{are_terms_from}
use Rattle.group_sum.proofs.Ascending.{first_is}
use Rattle.exact_fraction.specs.Number.{gcd}
use Rattle.exact_fraction.specs.Fraction.{Fraction, reduced, term_fraction, column_fractions, sum_over, abs_over}
use Rattle.exact_fraction.specs.Laws.{IsCommonMultiple}
use Rattle.exact_fraction.proofs.Bounding.{reduced_den, reduced_num}
use Rattle.exact_fraction.proofs.Divisors.{cofactor_some}
use Rattle.exact_fraction.proofs.Products.{times-times}
use Rattle.exact_fraction.proofs.Shares.{count_over}
use Rattle.fact_records.specs.Outcomes.{numerator_in}

-- a number that the denominator of each term divides
pub record IsWhole (multiple : ℕ) (terms : List Term) : Type 0 where
  pub some : 1 ≤ multiple
  pub dens : All (λ t. 1 ≤ t.den) terms
  pub divides : All (λ t. t.den ∣ multiple) terms

-- one is the product of them
abbrev pub den_product : List Term → ℕ
den_product [] = 1
den_product (t ∷ terms) = t.den * den_product terms

pub whole_product : (columns least : ℕ) (terms : List Term) → 1 ≤ least → are_terms_from columns least terms ≡ true → IsWhole (den_product terms) terms
whole_product columns least [] from are = record { some = omega arith; dens = All-nil (λ (t : Term). 1 ≤ t.den); divides = All-nil (λ (t : Term). t.den ∣ 1) }
whole_product columns least (t ∷ terms) from are =
    let first = first_is columns least t terms are in
    let some : 1 ≤ t.den = omega (arith, first.from) in
    let others = whole_product columns (t.den + 1) terms (omega arith) first.others in
    let product = t.den * den_product terms in
    record {
      some = mul-pos some others.some;
      dens = All-cons (λ (t : Term). 1 ≤ t.den) t terms some others.dens;
      divides = All-cons (λ (u : Term). u.den ∣ product) t terms (dvd-mul_right t.den (den_product terms))
          (All-weaker (λ (u : Term). u.den ∣ den_product terms) (λ (u : Term). u.den ∣ product) (λ u divides. dvd_trans u.den divides (dvd-mul_left (den_product terms) t.den)) terms others.divides);
    }

-- what is left of a number without one of three factors
quotient_is : (d g q den multiple : ℕ) → 1 ≤ d → d * g ≡ den → den * q ≡ multiple → multiple / d ≡ g * q
quotient_is d g q den multiple some den_is multiple_is =
    let whole : d * (g * q) ≡ multiple = rw (← multiple_is, ← den_is) (omega arith) in
    ap (λ n. n / d) (sym whole) ∙ mul-div_cancel_left (g * q) some

-- a fraction over it, in lowest terms or not
module _ (num : ℤ) (den multiple : ℕ) (some : 1 ≤ den) (divides : den ∣ multiple) where
  lowest_divides : (reduced num den).den ∣ multiple
  lowest_divides =
      let P : ℕ → Type 0 = λ n. (reduced num den).den ∣ n in
      dvd_trans (reduced num den).den (subst P (reduced_den num den some) (dvd-mul_right (reduced num den).den (gcd (nat_abs num) den))) divides

  share_is : (reduced num den).num *ℤ pos (multiple / (reduced num den).den) ≡ num *ℤ pos (multiple / den)
  share_is =
      let g = gcd (nat_abs num) den in
      let parts : multiple / (reduced num den).den ≡ g * (multiple / den) =
      quotient_is (reduced num den).den g (multiple / den) den multiple (cofactor_some (nat_abs num) den some) (reduced_den num den some) (mul-div_cancel' den divides) in
      ap (λ n. (reduced num den).num *ℤ pos n) parts ∙ sym (times-times (reduced num den).num g (multiple / den)) ∙ ap (λ z. z *ℤ pos (multiple / den)) (reduced_num num den some)

-- so is a column
module _ (multiple column : ℕ) where
  pub column_multiple : (terms : List Term) → IsWhole multiple terms → IsCommonMultiple multiple (column_fractions column terms)
  column_multiple terms whole = record { some = whole.some; each = All-map (λ (f : Fraction). f.den ∣ multiple) (term_fraction column) terms (λ k d lt. lowest_divides (numerator_in (get_or terms k d) column) (get_or terms k d).den multiple (whole.dens k d lt) (whole.divides k d lt)) }

  column_over : (terms : List Term) → All (λ t. 1 ≤ t.den) terms → All (λ t. t.den ∣ multiple) terms → sum_over multiple (column_fractions column terms) ≡ total_by (λ t. numerator_in t column *ℤ pos (multiple / t.den)) terms
  column_over [] dens divides = omega (arith, ints)
  column_over (t ∷ terms) dens divides =
      let some = All-head (λ (u : Term). 1 ≤ u.den) t terms dens in
      let here = All-head (λ (u : Term). u.den ∣ multiple) t terms divides in
      ap (λ z. z +ℤ sum_over multiple (column_fractions column terms)) (share_is (numerator_in t column) t.den multiple some here)
      ∙ ap (λ z. numerator_in t column *ℤ pos (multiple / t.den) +ℤ z) (column_over terms (All-tail (λ (u : Term). 1 ≤ u.den) t terms dens) (All-tail (λ (u : Term). u.den ∣ multiple) t terms divides))

module _ (multiple : ℕ) (terms : List Term) (whole : IsWhole multiple terms) where
  -- several columns together are their totals, term by term
  columns_over : (columns : List ℕ) → total_by (λ column. sum_over multiple (column_fractions column terms)) columns ≡ total_by (λ t. total_by (numerator_in t) columns *ℤ pos (multiple / t.den)) terms
  columns_over columns =
      let share : ℕ → Term → ℤ = λ column t. numerator_in t column *ℤ pos (multiple / t.den) in
      total_by-same (λ column. sum_over multiple (column_fractions column terms)) (λ column. total_by (share column) terms) columns
      (λ k d lt. column_over multiple (get_or columns k d) terms whole.dens whole.divides)
      ∙ total_by-total_by share columns terms
      ∙ total_by-same (λ t. total_by (λ column. share column t) columns) (λ t. total_by (numerator_in t) columns *ℤ pos (multiple / t.den)) terms
      (λ k d lt. let t = get_or terms k d in sym (total_by-times (numerator_in t) (multiple / t.den) columns))

  -- where each term's total is so many times its count, they are so many times the count
  pub columns_scaled : (scale : ℕ) (columns : List ℕ) → All (λ t. total_by (numerator_in t) columns ≡ pos (scale * t.count)) terms
      → total_by (λ column. sum_over multiple (column_fractions column terms)) columns ≡ pos (abs_over multiple (column_fractions 0 terms) * scale)
  columns_scaled scale columns each =
      let f : Term → ℤ = λ t. numerator_in t 0 *ℤ pos (multiple / t.den) in
      columns_over columns
      ∙ total_by-same (λ t. total_by (numerator_in t) columns *ℤ pos (multiple / t.den)) (λ t. f t *ℤ pos scale) terms
      (λ k d lt. let t = get_or terms k d in ap (λ z. z *ℤ pos (multiple / t.den)) (each k d lt) ∙ turned t.count (multiple / t.den))
      ∙ sym (total_by-times f scale terms) ∙ ap (λ z. z *ℤ pos scale) (sym (column_over multiple 0 terms whole.dens whole.divides) ∙ count_over multiple terms)
    where
      turned : (count n : ℕ) → pos (scale * count) *ℤ pos n ≡ pos count *ℤ pos n *ℤ pos scale
      turned count n = ap pos (let same : scale * count * n ≡ count * n * scale = omega arith in same)
