-- The cells so far have places.
use Rattle.iter_alloc.proofs.layout.add_cells.Given as goal
use Rattle.cube_model.specs.Cells.{cells_of}
use Rattle.iter_alloc.proofs.Numbering.{Numbering}

abbrev pub invariant-loop-cell : goal.invariant-loop-cell
invariant-loop-cell l = Numbering l.initial.cells.keys l.initial.flat.items (cells_of l.space l.fn.r) l.yielded l.cell-iterator l.cells.keys l.flat.items
