-- What is left at the code is what the changes make.
use Rattle.region_index.proofs.Changing.{entry-made}
use Rattle.region_index.proofs.region_index.RegionIndex.entry.Goals as goal

pub returns : goal.returns
returns c =
    entry-made c.args.self.now c.args.put.now c.args.dropped.now c.args.code _ _ _ _ c.at_code.ensures c.at_code-2.ensures
    c.in_ok-ids.ensures.before c.in_ok-ids.ensures.ascending c.in_ok-ids.ensures.members c.some_ids.ensures
