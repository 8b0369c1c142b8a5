-- Groups to which one fact after another is added.
use Rattle.std.specs.Prelude.{◌≡◌, ℕ, ◌+◌, ◌*◌, ◌≤◌, List, All, find, length, map, Option, Some, None, ℤ, pos, ◌+ℤ◌, nat_abs, slice_index_or}
use Rattle.std.specs.List.{range_with_len}
use Rattle.std.specs.Option.{option_map}
use Rattle.cube_model.specs.declared.edit.Fact.{Fact}
use Rattle.cube_model.specs.Allocation.{Allocation, Policy, allocation}
use Rattle.cube_model.specs.Limits.{MAX_COLS, MAX_FACTS, MAX_VALUE}
use Rattle.cube_model.specs.Tree.{Dimension}
use Rattle.fact_groups.specs.Groups.{Group, column_sums, facts_with, has_code}

-- sums of columns, with the values of a fact more
abbrev pub sum_with : List ℤ → List ℤ → ℕ → ℤ
sum_with sums values column = slice_index_or sums column (pos 0) +ℤ slice_index_or values column (pos 0)

abbrev pub sums_with : List ℤ → List ℤ → List ℤ
sums_with sums values = map (sum_with sums values) (range_with_len 0 (length sums))

-- such sums as few facts have, and values that can be added to them
pub record CanBeAdded (sums values : List ℤ) : Type 0 where
  pub width : length values ≡ length sums
  pub most : length sums ≤ MAX_COLS
  pub few : All (λ sum. nat_abs sum ≤ MAX_FACTS * MAX_VALUE) sums
  pub small : All (λ value. nat_abs value ≤ MAX_VALUE) values

-- a fact alone as a group, and a group with a fact of its region more, if there is one
abbrev pub group_alone : Allocation → Fact → Group
group_alone spread fact = record { spread = spread; count = 1; sums = fact.cols }

abbrev pub group_with : Group → Fact → Group
group_with group fact = record { spread = group.spread; count = group.count + 1; sums = sums_with group.sums fact.cols }

abbrev pub group_joined : Allocation → Option Group → Fact → Group
group_joined spread None fact = group_alone spread fact
group_joined spread (Some group) fact = group_with group fact

-- the group of a code among some of all facts, spread as all facts make it
abbrev pub group_among : Policy → ℕ → List Dimension → List Fact → List Fact → ℕ → Option Group
group_among policy columns dims all some code =
    option_map (λ f. record {
      spread = allocation policy dims all f;
      count = length (facts_with dims code some);
      sums = column_sums columns (facts_with dims code some);
    })
    (find (has_code dims code) some)
