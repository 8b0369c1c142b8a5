-- The shares that groups of facts have in a region.
use Rattle.std.specs.Prelude.{ℕ, List, filter, map, nat_lt}
use Rattle.std.specs.List.{filter_map}
use Rattle.std.specs.Map.{values_of}
use Rattle.cube_model.specs.Answer.{weight_inside}
use Rattle.fact_groups.specs.Groups.{Group}
use Rattle.group_sum.specs.declared.shares.Share.{Share}
use Rattle.staged_map.specs.Staged.{Places, held, value_at}

-- the groups that are kept, in the order of their places
abbrev pub groups_held : Places Group → List Group
groups_held places = values_of (held places)

-- the groups that are kept at these codes, in their order
abbrev pub groups_found : Places Group → List ℕ → List Group
groups_found places codes = filter_map (value_at places) codes

-- what a group has inside cells
abbrev pub group_share : List ℕ → Group → Share
group_share cells g = record { facts = g.count; den = g.spread.den; weight = weight_inside cells g.spread; cols = g.sums }

-- of the groups that have something there
abbrev pub shares_of : List ℕ → List Group → List Share
shares_of cells groups = filter (λ s. nat_lt 0 s.weight) (map (group_share cells) groups)
