use Rattle.std.proofs.Common.{take, drop}
use Rattle.fact_records.specs.declared.blocks.TheConstants.{HALF}
use Rattle.fact_records.specs.BlockList.{block_at}
use Rattle.fact_records.proofs.Rooms.{full-within, room_by_split, split-within}
use Rattle.fact_records.proofs.blocks.Blocks.split_for.Goals as goal

pub place_in_pair-requires : goal.place_in_pair-requires
place_in_pair-requires c =
    let block = block_at c.args.self.now.used c.args.place.block in
    split-within c.args.self.now.used c.split.new.self.used c.args.place.block (take HALF block) (drop HALF block) (full-within c.args.self.now.used c.args.place.block c.requires.full) c.split.ensures.used

pub returns : goal.returns
returns c =
    room_by_split c.args.self.now c.split.new.self c.args.place.block c.args.place.at c.place_in_pair.result.block c.place_in_pair.result.at c.requires.place c.requires.filled c.requires.full c.split.ensures.used c.split.ensures.stock c.place_in_pair.ensures
