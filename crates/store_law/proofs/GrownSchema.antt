-- The schema over the dimensions after a growth.
use Rattle.std.proofs.Common.{◌≡◌, Bool, true, false, List, length, refl, ap, sym, ◌∙◌, subst, Option, Some, None}
use Rattle.std.specs.Prelude.{All, if◌then◌else◌, nat_le, slice_get}
use Rattle.std.specs.Option.{option_and_then, option_map_or, option_or}
use Rattle.cube_base.specs.declared.code.Code.TheVariants as code
use Rattle.cube_model.specs.declared.edit.Fact.{Fact}
use Rattle.cube_model.specs.declared.tree.Grow.{Grow}
use Rattle.cube_model.specs.Allocation.{Policy}
use Rattle.cube_model.specs.Limits.{MAX_DEPTH, MAX_NODES}
use Rattle.cube_model.specs.Tree.{Dimension, IsTree, entry_of, node_named}
use Rattle.region_algebra.specs.declared.growth.GrowFault.{GrowFault}
use Rattle.region_algebra.specs.declared.growth.GrowFault.TheVariants as growth_fault
use Rattle.region_algebra.specs.Fault.{space_fault}
use Rattle.region_algebra.specs.Growth.{child_fault, grow_fault, own_fault, size_fault}
use Rattle.region_algebra.proofs.Growing.{grown-refused, none_left}
use Rattle.schema_text.specs.Growth.{dims_with}
use Rattle.schema_text.specs.Schema.{AreViews, IsSchema, SchemaValue, over_dims}
use Rattle.cube_core.specs.Growth.{growth_code, judge_growth, space_refusal}
use Rattle.cube_core.proofs.Widening.{keep-grown}
use Rattle.cube_cli.proofs.Growths.{IsLeafOf, trees-grown}
use Rattle.store_law.proofs.Grown.{allowed-space}

-- a dimension by itself does not refuse a growth that is accepted
own-none : (dims : List Dimension) (grow : Grow) → space_refusal dims grow ≡ None → own_fault dims grow.dim grow.parent grow.name ≡ None
own-none dims grow none = by_dim (slice_get dims grow.dim) none
  where
    sizes : Option GrowFault
    sizes = size_fault (dims_with grow dims)

    by_tests : (found deep full : Bool) → option_and_then growth_code (option_or (if found then Some growth_fault.Name else (if deep then Some growth_fault.Depth else (if full then Some growth_fault.Limit else None))) sizes) ≡ None
        → (if found then Some growth_fault.Name else (if deep then Some growth_fault.Depth else (if full then Some growth_fault.Limit else None))) ≡ None
    by_tests true deep full none = cc
    by_tests false true full none = cc
    by_tests false false true none = cc
    by_tests false false false none = refl

    by_dim : (dim : Option Dimension) → option_and_then growth_code (option_or (option_and_then (λ dim. child_fault dim grow.parent grow.name) dim) sizes) ≡ None → option_and_then (λ dim. child_fault dim grow.parent grow.name) dim ≡ None
    by_dim None none = refl
    by_dim (Some dim) none =
        by_tests (option_map_or (λ number. true) (node_named dim grow.name) false) (option_map_or (λ e. nat_le MAX_DEPTH e.depth) (entry_of dim grow.parent) false) (nat_le MAX_NODES (length dim)) none

-- a schema over the dimensions after an accepted growth is one
pub grown-schema : (policy : Policy) (schema : SchemaValue) (facts : List Fact) (grow : Grow) → IsSchema schema → IsLeafOf schema.dims grow → judge_growth policy schema.dims facts grow ≡ None
    → IsSchema (over_dims schema (dims_with grow schema.dims))
grown-schema policy schema facts grow is leaf accepted =
    let later = dims_with grow schema.dims in
    let space = allowed-space policy schema.dims facts grow accepted in
    let keep = keep-grown schema.dims grow.dim grow.parent grow.name is.trees leaf.grows.dim leaf.grows.parent in
    let trees : All IsTree later = trees-grown schema.dims grow is.trees leaf policy facts accepted in
    record {
      shape = is.shape;
      kinds = is.kinds;
      measure_names = is.measure_names;
      dim_names = is.dim_names;
      named = is.named ∙ sym keep.same;
      trees = trees;
      space = none_left (space_fault later) (λ fault refused.
          let nodes : grow_fault schema.dims grow.dim grow.parent grow.name ≡ Some growth_fault.Nodes =
          grown-refused schema.dims grow.dim grow.parent grow.name (own-none schema.dims grow space) later fault leaf.grows.dim leaf.grows.parent is.trees is.space refl trees refused in
          let no : Some code.Nodes ≡ None = sym (ap (option_and_then growth_code) nodes) ∙ space in
          cc);
      views = subst (λ n. AreViews n schema.views) (sym keep.same) is.views;
    }
