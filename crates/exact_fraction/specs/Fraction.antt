-- Fractions in lowest terms, what they add up to, and the whole numbers about them in units of 10^-9.
use Rattle.std.specs.Prelude.{ℕ, ◌*◌, ◌/◌, List, [], ◌∷◌, map, sum_by, ℤ, pos, neg_ℤ, ◌*ℤ◌, nat_abs, slice_index_or}
use Rattle.std.specs.Int.{int_div_euclid}
use Rattle.std.specs.Int.RustNames.{int_div}
use Rattle.cube_model.specs.declared.term.Term.{Term}
use Rattle.cube_model.specs.Answer.{total_by}
use Rattle.exact_fraction.specs.Number.{gcd, lcm}

-- bounds are in units of one over this
abbrev pub UNIT : ℕ
UNIT = 1_000_000_000

-- a whole number over one that is at least 1
pub record Fraction : Type 0 where
  pub num : ℤ
  pub den : ℕ

-- a fraction in lowest terms; 0 is 0 over 1
abbrev pub reduced : ℤ → ℕ → Fraction
reduced num den = record { num = int_div num (pos (gcd (nat_abs num) den)); den = den / gcd (nat_abs num) den }

-- a column of a term in lowest terms, the count being column 0
abbrev pub term_fraction : ℕ → Term → Fraction
term_fraction column t = reduced (slice_index_or (pos t.count ∷ t.sums) column (pos 0)) t.den

-- the same of each term
abbrev pub column_fractions : ℕ → List Term → List Fraction
column_fractions column terms = map (term_fraction column) terms

-- the least common multiple of the denominators, 1 for none
abbrev pub common_den : List Fraction → ℕ
common_den [] = 1
common_den (f ∷ fs) = lcm f.den (common_den fs)

-- the numerator of the sum over a multiple of all denominators
abbrev pub sum_over : ℕ → List Fraction → ℤ
sum_over multiple fs = total_by (λ f. f.num *ℤ pos (multiple / f.den)) fs

-- and that of the sum of the absolute values
abbrev pub abs_over : ℕ → List Fraction → ℕ
abs_over multiple fs = sum_by (λ f. nat_abs f.num * (multiple / f.den)) fs

-- the greatest whole number of units that is not above the fraction
abbrev pub floor_of : Fraction → ℤ
floor_of f = int_div_euclid (f.num *ℤ pos UNIT) (pos f.den)

-- the least that is not below it
abbrev pub ceiling_of : Fraction → ℤ
ceiling_of f = neg_ℤ (floor_of (record { num = neg_ℤ f.num; den = f.den }))
