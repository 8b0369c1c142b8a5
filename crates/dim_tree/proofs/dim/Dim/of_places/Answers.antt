use Rattle.dim_tree.proofs.Building.{IsIndexed_of, outline_few, outline_nodes-nodes_of, outline_shallow}
use Rattle.dim_tree.proofs.dim.Dim.of_places.Goals as goal

pub leaves_of-requires : goal.leaves_of-requires
leaves_of-requires c = outline_few _ _ _ c.requires.outline

pub kept_nodes-requires-clause-few : goal.kept_nodes-requires-clause-few
kept_nodes-requires-clause-few c = outline_few _ _ _ c.requires.outline

pub kept_nodes-requires-clause-shallow : goal.kept_nodes-requires-clause-shallow
kept_nodes-requires-clause-shallow c = outline_shallow _ _ _ c.requires.outline

pub invariant_of-result : goal.invariant_of-result
invariant_of-result c = IsIndexed_of _ _ _ c.requires.outline _ _ _ c.in_ok-nodes.ensures c.requires.places c.in_ok-leaves_before.ensures.leaves

pub returns : goal.returns
returns c = outline_nodes-nodes_of _ _ _ c.requires.outline _ c.in_ok-nodes.ensures
