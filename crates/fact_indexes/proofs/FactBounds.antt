-- What the facts that a cube may have add up to stays within limits.
use Rattle.std.proofs.Common.{◌≡◌, ℕ, ◌+◌, ◌*◌, ◌<◌, ◌≤◌, List, [], refl, arith, ℤ, pos, ◌+ℤ◌}
use Rattle.std.specs.Prelude.{All, nat_abs}
use Rattle.std.proofs.lemmas.Int.{ints}
use Rattle.cube_model.specs.declared.edit.Fact.{Fact}
use Rattle.cube_model.specs.declared.statistic.CellStat.{CellStat}
use Rattle.cube_model.specs.Allocation.{ExtendedFact, extended}
use Rattle.cube_model.specs.Answer.{count_at, sum_at}
use Rattle.cube_model.specs.Limits.{MAX_FACTS, MAX_VALUE, WIDE}
use Rattle.cube_model.specs.Tree.{Dimension, IsTree}
use Rattle.cell_weight.specs.Stats.{IsStat}
use Rattle.fact_groups.specs.Groups.{Group, count_in, groups_at, sum_in}
use Rattle.fact_records.specs.Shape.{IsShape, ShapeValue, policy_over, width_of_all}
use Rattle.fact_records.specs.Valid.{AreValid}
use Rattle.fact_indexes.proofs.ValidFacts.{valid-regions}
use Rattle.fact_indexes.proofs.Modest.{AreModest, members, modest-groups, product-within}
use Rattle.fact_indexes.proofs.SmallGroups.{groups-modest}
use Rattle.fact_indexes.proofs.SplitGroups.{counts-split, members-split, others_of, sums-split}

module _ (weigh : CellStat → ℕ) (bound : (s : CellStat) → IsStat s → weigh s ≤ 1 + s.count * MAX_VALUE) (shape : ShapeValue) (dims : List Dimension) (facts : List Fact)
    (is : IsShape shape) (trees : All IsTree dims) (valid : AreValid shape dims facts) where
  abbrev rows : List ExtendedFact
  rows = extended (policy_over weigh shape) dims facts

  abbrev all : List Group
  all = groups_at (policy_over weigh shape) (width_of_all shape.measures) dims facts (others_of dims [])

  module _ (cells : List ℕ) where
    modest : AreModest (members all) (count_in cells all) (sum_in cells all)
    modest = modest-groups (width_of_all shape.measures) cells all (groups-modest weigh bound shape dims facts is trees valid (others_of dims []))

    few : members all ≤ MAX_FACTS
    few = omega (arith, valid.few, members-split (policy_over weigh shape) (width_of_all shape.measures) dims [] trees refl facts (valid-regions shape dims facts valid))

    counts-are : (d : ℕ) → count_at cells rows d ≡ count_in cells all d
    counts-are d = omega (arith, counts-split (policy_over weigh shape) (width_of_all shape.measures) dims [] trees refl facts (valid-regions shape dims facts valid) cells d)

    -- no sum passes MAX_VALUE times its count
    pub rows-small : (d k : ℕ) → k < width_of_all shape.measures → nat_abs (sum_at cells rows k d) ≤ MAX_VALUE * count_at cells rows d
    rows-small d k within =
        let split = sums-split (policy_over weigh shape) (width_of_all shape.measures) dims [] trees refl facts (valid-regions shape dims facts valid) cells k d within in
        let most = modest.sums k d in
        added (sum_at cells rows k d) (sum_in cells all k d) (count_in cells all d) (count_at cells rows d) split most (counts-are d)
      where
        added : (a b : ℤ) (m n : ℕ) → a ≡ pos 0 +ℤ b → nat_abs b ≤ MAX_VALUE * m → n ≡ m → nat_abs a ≤ MAX_VALUE * n
        added a b m n same le is = omega (arith, ints, same, le, is)

    -- and MAX_VALUE times a count does not pass WIDE
    pub rows-within : (d : ℕ) → MAX_VALUE * count_at cells rows d ≤ WIDE
    rows-within d = omega (arith, counts-are d, product-within (members all) (count_in cells all) (sum_in cells all) modest few d)
