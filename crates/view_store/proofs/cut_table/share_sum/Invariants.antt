-- What the first digits add was added.
use Rattle.view_store.proofs.CutTables.{HasSum}
use Rattle.view_store.proofs.cut_table.share_sum.Given as goal

abbrev pub invariant-loop-digit : goal.invariant-loop-digit
invariant-loop-digit l = HasSum l.digits l.code l.digit-index l.rest l.sum
