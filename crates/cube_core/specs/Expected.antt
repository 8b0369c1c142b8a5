-- What terms say of the worlds in which each fact stands in one cell of its rows.
use Rattle.std.specs.Prelude.{◌≡◌, ℕ, ◌≤◌, List, All, IfSome, pos, ◌*ℤ◌}
use Rattle.std.specs.Int.{◌∣◌}
use Rattle.cube_model.specs.declared.term.Term.{Term}
use Rattle.cube_model.specs.Allocation.{ExtendedFact}
use Rattle.cube_model.specs.Tree.{Dimension}
use Rattle.exact_fraction.specs.One.{one_of}
use Rattle.world_law.specs.Law.{cleared}
use Rattle.world_law.specs.Worlds.{mass, total}

-- Terms over a number of columns of values are the exact expectation of what stands in a region where all of this
-- holds. Each denominator divides the mass of all worlds. The terms stand for the total of each column over all worlds,
-- the count being column 0. Where a column's sum is given as one fraction, that is the total over the mass.
pub record AreExpected (columns : ℕ) (dims : List Dimension) (region : List ℕ) (facts : List ExtendedFact) (terms : List Term) : Type 0 where
  pub dens : All (λ t. t.den ∣ mass facts) terms
  pub totals : (column : ℕ) → column ≤ columns → total dims region column facts ≡ cleared (mass facts) column terms
  pub fractions : (column : ℕ) → column ≤ columns → IfSome (one_of column terms).exact (λ x. x.0 *ℤ pos (mass facts) ≡ total dims region column facts *ℤ pos x.1)
