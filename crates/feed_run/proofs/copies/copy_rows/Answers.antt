use Rattle.std.proofs.Common.{arith}
use Rattle.std.proofs.lemmas.List.{take_more}
use Rattle.feed_run.proofs.copies.copy_rows.Goals as goal

-- one more is copied
pub rows-preserved : goal.rows-preserved
rows-preserved c =
    let more = take_more c.as_slice-items.result.now c.rows.entry-index c.entry-item.result (omega arith) in
    cc (more, c.in_ok-push.ensures.items, c.in_ok-copy_entry.ensures, c.entry-item.is)
