-- Shares in any order, and the terms that they add up to.
use Rattle.std.specs.Prelude.{◌≡◌, ℕ, ◌+◌, ◌*◌, ◌<◌, ◌≤◌, List, length, filter, sum_by, ◌==◌, ℤ, pos, ◌*ℤ◌, nat_abs, slice_index_or}
use Rattle.cube_model.specs.Answer.{count_of, numerator_of, total_by}
use Rattle.cube_model.specs.Limits.{WIDE}
use Rattle.group_sum.specs.declared.shares.Share.{Share}
use Rattle.group_sum.specs.Terms.{TermList}

-- a share has a fact at least, a denominator, and a value for each of the columns but the count
pub record IsShare (columns : ℕ) (share : Share) : Type 0 where
  pub some : 1 ≤ share.facts
  pub den_is : 1 ≤ share.den
  pub columns_are : length share.cols + 1 ≡ columns

-- the shares of a denominator
abbrev pub shares_at : ℕ → List Share → List Share
shares_at den shares = filter (λ s. s.den == den) shares

-- what a share adds to the count: its weight, once for each of its facts
abbrev pub units_of : Share → ℕ
units_of share = share.weight * share.facts

-- these at a denominator added up
abbrev pub units_at : List Share → ℕ → ℕ
units_at shares den = sum_by units_of (shares_at den shares)

-- the weight of a share times what its facts add up to in a column
abbrev pub product_in : ℕ → Share → ℤ
product_in column share = pos share.weight *ℤ slice_index_or share.cols column (pos 0)

-- the products at a denominator added up, and their absolute values
abbrev pub product_at : List Share → ℕ → ℕ → ℤ
product_at shares den column = total_by (product_in column) (shares_at den shares)

abbrev pub size_at : List Share → ℕ → ℕ → ℕ
size_at shares den column = sum_by (λ s. nat_abs (product_in column s)) (shares_at den shares)

-- in whatever order they are added up, no numerator passes WIDE
pub record SharesFit (columns : ℕ) (shares : List Share) : Type 0 where
  pub counts : (d : ℕ) → units_at shares d ≤ WIDE
  pub sums : (d k : ℕ) → k + 1 < columns → size_at shares d k ≤ WIDE

-- the terms have the numerators of all shares
pub record AddUpTo (columns : ℕ) (shares : List Share) (list : TermList) : Type 0 where
  pub columns_are : list.columns ≡ columns
  pub counts : (d : ℕ) → count_of list.terms d ≡ units_at shares d
  pub sums : (d k : ℕ) → k + 1 < columns → numerator_of list.terms d (k + 1) ≡ product_at shares d k
