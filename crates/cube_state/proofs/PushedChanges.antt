-- The changes at a code are those of its region.
use Rattle.std.proofs.Common.{◌≡◌, ℕ, List, ◌++◌, map, Some, ap, sym, ◌∙◌, append_assoc}
use Rattle.std.specs.Prelude.{Option, false, slice_get, true}
use Rattle.std.specs.Option.{option_to_list}
use Rattle.cube_model.specs.Tree.{Dimension}
use Rattle.region_algebra.specs.Space.{all_regions}
use Rattle.view_store.specs.declared.change.ViewChange.{ViewChange}
use Rattle.view_store.proofs.CutRegions.{region_at-is}
use Rattle.fact_groups.specs.Groups.{Group}
use Rattle.fact_indexes.specs.ViewChanges.{group_change}
use Rattle.cube_state.specs.ViewChanges.{changes_at}

-- what is put behind others for the group before and for the one after
pub pushed-both : (dims : List Dimension) (code : ℕ) (region : List ℕ) → slice_get (all_regions dims) code ≡ Some region → (old between new : List ViewChange) (before now : Option Group)
    → between ≡ old ++ map (group_change false region) (option_to_list before) → new ≡ between ++ map (group_change true region) (option_to_list now) → new ≡ old ++ changes_at dims code before now
pushed-both dims code region is old between new before now first second =
    second
    ∙ ap (λ l. l ++ map (group_change true region) (option_to_list now)) first
    ∙ append_assoc old (map (group_change false region) (option_to_list before)) (map (group_change true region) (option_to_list now))
    ∙ ap (λ r. old ++ (map (group_change false r) (option_to_list before) ++ map (group_change true r) (option_to_list now))) (sym (region_at-is dims code region is))
