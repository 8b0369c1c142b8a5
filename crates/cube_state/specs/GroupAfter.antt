-- What an edit makes of the group of one code.
use Rattle.std.specs.Prelude.{ℕ, ◌*◌, ◌≤◌, ◌≡◌, List, All, length, map, if◌then◌else◌, Option, Some, None, ℤ, pos, nat_abs, slice_index_or, ◌+ℤ◌, ◌-ℤ◌}
use Rattle.std.specs.List.{range_with_len}
use Rattle.std.specs.Option.{option_map_or}
use Rattle.cube_model.specs.declared.edit.Fact.{Fact}
use Rattle.cube_model.specs.Tree.{Dimension}
use Rattle.fact_groups.specs.Groups.{Group, has_code}

-- the fact, if it is there and its region has the code
abbrev pub fact_with_code : List Dimension → ℕ → Option Fact → Option Fact
fact_with_code dims code None = None
fact_with_code dims code (Some fact) = if has_code dims code fact then Some fact else None

-- how many facts that is
abbrev pub number_of : Option Fact → ℕ
number_of fact = option_map_or (λ f. 1) fact 0

-- how many facts a group has, and how many rows these have together
abbrev pub members_of : Option Group → ℕ
members_of group = option_map_or (λ g. g.count) group 0

abbrev pub group_row_count : Option Group → ℕ
group_row_count group = option_map_or (λ g. g.count * length g.spread.rows) group 0

-- the sum of a column of a group, and the value of a fact there
abbrev pub group_total : Option Group → ℕ → ℤ
group_total group column = option_map_or (λ g. slice_index_or g.sums column (pos 0)) group (pos 0)

abbrev pub fact_value : Option Fact → ℕ → ℤ
fact_value fact column = option_map_or (λ f. slice_index_or f.cols column (pos 0)) fact (pos 0)

-- the sum of a column with one fact more and one less
abbrev pub sum_after : Option Group → Option Fact → Option Fact → ℕ → ℤ
sum_after group taken given column = (group_total group column +ℤ fact_value given column) -ℤ fact_value taken column

-- the sums of so many columns
abbrev pub sums_after : ℕ → Option Group → Option Fact → Option Fact → List ℤ
sums_after columns group taken given = map (sum_after group taken given) (range_with_len 0 columns)

-- so many numbers, none further from 0 than a limit
pub record AreValuesWithin (columns limit : ℕ) (values : List ℤ) : Type 0 where
  pub count : length values ≡ columns
  pub small : All (λ value. nat_abs value ≤ limit) values
