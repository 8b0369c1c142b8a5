-- An allocation has rows.
use Rattle.alloc_rows.proofs.WeightedPart.{some_rows}
use Rattle.alloc_rows.proofs.stepping.rows_by_weight.Goals as goal

pub weigh_first-requires : goal.weigh_first-requires
weigh_first-requires g c = record { some = rw c.rows-rows.ensures.rows (some_rows c.args.old.now c.rows-rows.ensures.kept) }
