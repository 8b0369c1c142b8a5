-- Facts in groups, one for each region that a fact has.
use Rattle.std.specs.Prelude.{◌≡◌, ℕ, suc, ◌*◌, ◌-◌, max, Bool, false, List, [], ◌∷◌, All, filter, length, map, replicate, ◌==◌, ℤ, pos, ◌*ℤ◌, slice_index_or, Option, find}
use Rattle.std.specs.Option.{option_map}
use Rattle.std.specs.List.{filter_map, range_with_len, sum_by}
use Rattle.cube_model.specs.declared.edit.Fact.{Fact}
use Rattle.cube_model.specs.declared.term.Term.{Term}
use Rattle.cube_model.specs.Allocation.{Allocation, ExtendedFact, Policy, allocation, spread, weight_of}
use Rattle.cube_model.specs.Answer.{terms_below, total_by, weight_inside}
use Rattle.cube_model.specs.Cells.{cells_of, is_among}
use Rattle.cube_model.specs.Tree.{Dimension, IsTree}
use Rattle.region_algebra.specs.Space.{IsRegion, code_of}
use Rattle.fact_groups.specs.Partition.{IsPartition}

-- how a region is spread over its cells
unfoldable pub spread_at : Policy → List Dimension → List Fact → List ℕ → Allocation
spread_at policy dims facts region = spread (weight_of policy dims facts) (cells_of dims region)

-- a fact's region has this code
abbrev pub has_code : List Dimension → ℕ → Fact → Bool
has_code dims code fact = code_of dims fact.region == code

-- the facts whose region has this code
abbrev pub facts_with : List Dimension → ℕ → List Fact → List Fact
facts_with dims code facts = filter (has_code dims code) facts

-- What is kept of the facts of one region: how they are spread, how many they are, and the sum of each column of their values.
pub record Group : Type 0 where
  pub spread : Allocation
  pub count : ℕ
  pub sums : List ℤ

-- the sums of so many columns of facts
abbrev pub column_sums : ℕ → List Fact → List ℤ
column_sums columns facts = map (λ column. total_by (λ f. slice_index_or f.cols column (pos 0)) facts) (range_with_len 0 columns)

-- the group of the facts whose region has a code, if there are any; they are spread as the first of them is
abbrev pub group_at : Policy → ℕ → List Dimension → List Fact → ℕ → Option Group
group_at policy columns dims facts code =
    option_map (λ f. record {
      spread = allocation policy dims facts f;
      count = length (facts_with dims code facts);
      sums = column_sums columns (facts_with dims code facts);
    })
    (find (has_code dims code) facts)

-- the groups of these codes
abbrev pub groups_at : Policy → ℕ → List Dimension → List Fact → List ℕ → List Group
groups_at policy columns dims facts codes = filter_map (group_at policy columns dims facts) codes

-- the groups of two lists of facts are the same at each code that is not one of these
abbrev pub HaveSameGroupsBut : List ℕ → Policy → ℕ → List Dimension → List Fact → List Fact → Type 0
HaveSameGroupsBut codes policy columns dims facts later =
    (code : ℕ) → is_among codes code ≡ false → group_at policy columns dims later code ≡ group_at policy columns dims facts code

-- the facts are grouped by these codes: their regions are regions of the space, and the code of each is exactly one of these
pub record AreGrouped (dims : List Dimension) (facts : List Fact) (codes : List ℕ) : Type 0 where
  pub trees : All IsTree dims
  pub regions : All (λ f. IsRegion dims f.region) facts
  pub held : IsPartition (has_code dims) codes facts

-- the rows of groups: as many times those of a group's spread as it has facts
abbrev pub group_rows : List Group → ℕ
group_rows groups = sum_by (λ g. g.count * length g.spread.rows) groups

-- the groups whose spread has a denominator
abbrev pub groups_over : ℕ → List Group → List Group
groups_over den groups = filter (λ g. g.spread.den == den) groups

-- the count's numerator at a denominator: of each group the weight inside, as many times as it has facts
abbrev pub count_in : List ℕ → List Group → ℕ → ℕ
count_in cells groups den = sum_by (λ g. g.count * weight_inside cells g.spread) (groups_over den groups)

-- a column's numerator at a denominator: of each group the column's sum times the weight inside
abbrev pub sum_in : List ℕ → List Group → ℕ → ℕ → ℤ
sum_in cells groups column den = total_by (λ g. pos (weight_inside cells g.spread) *ℤ slice_index_or g.sums column (pos 0)) (groups_over den groups)

-- one more than the largest denominator of groups
abbrev pub den_limit : List Group → ℕ
den_limit [] = 0
den_limit (g ∷ groups) = max (suc g.spread.den) (den_limit groups)

-- the answer that groups give inside cells, over a number of columns of values
unfoldable pub answer_in : ℕ → List ℕ → List Group → List Term
answer_in columns cells groups = terms_below (count_in cells groups) (λ den. map (λ column. sum_in cells groups column den) (range_with_len 0 columns)) (den_limit groups)

-- a fact of an extended database that is spread so and has these values; its id, of which answers take no notice, is 0
abbrev pub fact_over : Allocation → List ℤ → ExtendedFact
fact_over spread values = record { id = 0; values = values; allocation = spread }

-- A group as facts: as many as it has, each spread as the group is. The first has the sums as its values, and the
-- others have 0 in every column.
abbrev pub group_facts : Group → List ExtendedFact
group_facts group = fact_over group.spread group.sums ∷ replicate (group.count - 1) (fact_over group.spread (replicate (length group.sums) (pos 0)))
