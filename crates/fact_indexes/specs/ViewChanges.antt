-- What groups of facts change in views.
use Rattle.std.specs.Prelude.{◌≡◌, ℕ, ◌<◌, Bool, true, List, map, is_some, Option}
use Rattle.std.specs.List.{flat_map}
use Rattle.std.specs.Option.{option_to_list}
use Rattle.cube_model.specs.Tree.{Dimension}
use Rattle.fact_groups.specs.Groups.{Group}
use Rattle.region_algebra.specs.Space.{region_total}
use Rattle.staged_map.specs.Staged.{Places, value_at}
use Rattle.view_store.specs.declared.change.ViewChange.{ViewChange}
use Rattle.view_store.specs.Views.{region_at}

-- the group of a region is put or taken away
abbrev pub group_change : Bool → List ℕ → Group → ViewChange
group_change put region g = record { put = put; facts = g.count; den = g.spread.den; region = region; rows = g.spread.rows; cols = g.sums }

-- the group at a code is, where there is one
abbrev pub group_changes : Bool → List Dimension → ℕ → Option Group → List ViewChange
group_changes put dims code group = map (group_change put (region_at dims code)) (option_to_list group)

-- the groups that there are at these codes are put
abbrev pub puts_at : List Dimension → Places Group → List ℕ → List ViewChange
puts_at dims groups codes = flat_map (λ code. group_changes true dims code (value_at groups code)) codes

-- where there is a group, the code is that of a region
abbrev pub IsOfRegion : List Dimension → ℕ → Option Group → Type 0
IsOfRegion dims code group = is_some group ≡ true → code < region_total dims

-- so at every code
abbrev pub AreOfRegions : List Dimension → Places Group → Type 0
AreOfRegions dims groups = (code : ℕ) → IsOfRegion dims code (value_at groups code)
