-- A parent's number is below that of its child.
use Rattle.region_index.proofs.climb.+note_places.Given as goal

abbrev pub decreases-note_places : goal.decreases-note_places
decreases-note_places l = l.node
