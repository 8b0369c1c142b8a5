use Rattle.std.proofs.Common.{arith}
use Rattle.std.proofs.lemmas.List.{take_more}
use Rattle.fact_keeper.proofs.entry.copy_entries.Goals as goal

-- one more entry is copied
pub entries-preserved : goal.entries-preserved
entries-preserved g c =
    let more = take_more c.as_slice-items.result.now c.entries.entry-index c.entry-item.result (omega arith) in
    cc (c.in_ok-push.ensures.items, c.in_ok-copy.ensures, c.entry-item.is)
