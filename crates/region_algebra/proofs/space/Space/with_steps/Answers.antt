use Rattle.std.proofs.Common.{◌≡◌, length, map, take, sym, ap, ◌∙◌, arith, subst}
use Rattle.std.specs.Prelude.{All}
use Rattle.cube_model.specs.Tree.{Dimension, IsTree, leaves}
use Rattle.region_algebra.proofs.Spaces.{some_leaves, some_nodes, stepped_space}
use Rattle.region_algebra.proofs.space.Space.with_steps.Goals as goal

pub steps_of-requires-clause-some : goal.steps_of-requires-clause-some
steps_of-requires-clause-some c =
    let many : c.len-n.result ≡ length c.deref.result.now = omega (arith, c.len-n.ensures, c.deref.ensures.len) in
    let trees : All IsTree c.deref.result.now = subst (λ ds. All IsTree ds) (c.deref-2.ensures.value ∙ sym c.deref.ensures.value) c.node_counts-nodes.ensures.trees in
    some_leaves c.deref.result.now (take c.len-n.result c.leaf_counts-leaves.result) trees (ap (λ n. take n c.leaf_counts-leaves.result) many ∙ c.leaf_counts-leaves.ensures)

pub steps_of-requires-2-clause-some : goal.steps_of-requires-2-clause-some
steps_of-requires-2-clause-some c =
    let many : c.len-n.result ≡ length c.deref-2.result.now = omega (arith, c.len-n.ensures, c.deref-2.ensures.len) in
    some_nodes c.deref-2.result.now (take c.len-n.result c.node_counts-nodes.result) c.node_counts-nodes.ensures.trees (ap (λ n. take n c.node_counts-nodes.result) many ∙ c.node_counts-nodes.ensures.counts)

pub invariant_of-result : goal.invariant_of-result
invariant_of-result c =
    let many : c.len-n.result ≡ length c.deref.result.now = omega (arith, c.len-n.ensures, c.deref.ensures.len) in
    let many_too : c.len-n.result ≡ length c.deref-2.result.now = omega (arith, c.len-n.ensures, c.deref-2.ensures.len) in
    stepped_space c.args.dims.items (take c.len-n.result c.leaf_counts-leaves.result) (take c.len-n.result c.node_counts-nodes.result) c.in-Some.cell_steps c.in-Some-steps_of.region_steps
    c.requires.some c.requires.few
    (subst (λ ds. All IsTree ds) c.deref-2.ensures.value c.node_counts-nodes.ensures.trees)
    (ap (λ n. take n c.leaf_counts-leaves.result) many ∙ c.leaf_counts-leaves.ensures ∙ ap (λ ds. map (λ (dim : Dimension). length (leaves dim)) ds) c.deref.ensures.value)
    (ap (λ n. take n c.node_counts-nodes.result) many_too ∙ c.node_counts-nodes.ensures.counts ∙ ap (λ ds. map (λ (dim : Dimension). length dim) ds) c.deref-2.ensures.value)
    c.in-Some.ensures.steps c.in-Some-steps_of.ensures.steps
