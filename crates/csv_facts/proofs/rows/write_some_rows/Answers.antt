-- A row's record more is written.
use Rattle.csv_facts.proofs.RowsWritten.{Writes-none}
use Rattle.csv_facts.proofs.rows.write_some_rows.Goals as goal

pub loop-placed-init : goal.loop-placed-init
loop-placed-init c = Writes-none c.args.out.now c.requires.writing

pub write_row-requires : goal.write_row-requires
write_row-requires c = c.loop-placed.invariant.writing
