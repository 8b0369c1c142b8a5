use Rattle.dim_tree.proofs.Building.{order_of_outline, outline_few, outline_shallow}
use Rattle.dim_tree.proofs.dim.Dim.of_tree.Goals as goal

pub ordered_places-requires-clause-few : goal.ordered_places-requires-clause-few
ordered_places-requires-clause-few c = outline_few _ _ _ c.requires

pub ordered_places-requires-clause-shallow : goal.ordered_places-requires-clause-shallow
ordered_places-requires-clause-shallow c = outline_shallow _ _ _ c.requires

pub ordered_places-requires-clause-same_length : goal.ordered_places-requires-clause-same_length
ordered_places-requires-clause-same_length c = c.requires.same_numbers

pub ordered_places-requires-clause-order : goal.ordered_places-requires-clause-order
ordered_places-requires-clause-order c = order_of_outline _ _ _ c.requires
