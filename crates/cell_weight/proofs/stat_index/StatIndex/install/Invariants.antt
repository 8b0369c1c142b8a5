-- The changes before this one are installed, and the others have places.
use Rattle.cell_weight.proofs.Changes.{Installing}
use Rattle.cell_weight.proofs.stat_index.StatIndex.install.Given as goal

abbrev pub invariant-loop-cell : goal.invariant-loop-cell
invariant-loop-cell l = Installing l.initial.self-inside.stats l.self-inside.stats l.changes l.cell-index
