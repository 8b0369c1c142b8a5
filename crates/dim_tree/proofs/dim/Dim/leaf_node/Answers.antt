use Rattle.std.proofs.Common.{ap, sym, ◌∙◌, option_map, slice_get, arith}
use Rattle.cube_model.specs.Tree.{Entry}
use Rattle.dim_tree.proofs.Kept.{item_read, kept}
use Rattle.dim_tree.proofs.dim.Dim.leaf_node.Goals as goal

pub index-requires : goal.index-requires
index-requires c = grind (arith, (kept c.self.invariant c.self.view_is).leaves_count)

pub at-requires : goal.at-requires
at-requires c =
    let its = kept c.self.invariant c.self.view_is in
    rw (item_read _ _ _ its.leaves_count c.requires c.index.ensures) (its.leaf_kept c.args.i c.requires).1

pub returns-clause-leaf : goal.returns-clause-leaf
returns-clause-leaf c =
    let its = kept c.self.invariant c.self.view_is in
    (its.leaf_kept c.args.i c.requires).0 ∙ ap (λ j. option_map (λ (e : Entry). e.number) (slice_get c.args.self.now j)) (sym (item_read _ _ _ its.leaves_count c.requires c.index.ensures)) ∙ c.at.ensures.number
