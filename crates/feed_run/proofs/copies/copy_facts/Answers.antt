use Rattle.std.proofs.Common.{arith}
use Rattle.std.proofs.lemmas.List.{take_more}
use Rattle.feed_run.proofs.copies.copy_facts.Goals as goal

-- one more is copied
pub facts-preserved : goal.facts-preserved
facts-preserved c =
    let more = take_more c.as_slice-items.result.now c.facts.fact-index c.fact-item.result (omega arith) in
    cc (more, c.in_ok-push.ensures.items, c.in_ok-copy_fact.ensures, c.fact-item.is)
