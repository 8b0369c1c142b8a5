use Rattle.fact_records.proofs.Edits.{inserted}
use Rattle.fact_records.proofs.blocks.Blocks.insert.Goals as goal

pub returns : goal.returns
returns c =
    let done = inserted c.args.self.now c.make_room-place.new.self c.insert_within.new.self c.args.place.block c.args.place.at _ _ c.args.fact c.make_room-place.ensures c.insert_within.ensures.used c.insert_within.ensures.stock in
    record { facts = done.facts; filled = done.filled; spare = done.spare }
