use Rattle.std.proofs.Common.{length, ap, arith}
use Rattle.fact_records.proofs.Leveling.{length-leveled}
use Rattle.fact_records.proofs.Rooms.{room_by_level}
use Rattle.fact_records.proofs.blocks.Blocks.level_for.Goals as goal

pub place_in_pair-requires : goal.place_in_pair-requires
place_in_pair-requires c = omega (arith, c.requires.pair.there, ap length c.level.ensures.used, length-leveled c.args.self.now.used c.args.pair c.requires.pair.there)

pub returns : goal.returns
returns c =
    room_by_level c.args.self.now c.level.new.self c.args.place.block c.args.place.at c.args.pair c.at_in_pair-at.result c.place_in_pair.result.block c.place_in_pair.result.at c.requires.filled c.requires.pair c.level.ensures.used c.level.ensures.stock
    c.at_in_pair-at.ensures.place c.at_in_pair-at.ensures.within c.place_in_pair.ensures
