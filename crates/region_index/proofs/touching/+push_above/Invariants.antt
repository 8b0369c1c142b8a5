-- A parent's number is below its children's.
use Rattle.region_index.proofs.touching.+push_above.Given as goal

abbrev pub decreases-push_above : goal.decreases-push_above
decreases-push_above l = l.node
