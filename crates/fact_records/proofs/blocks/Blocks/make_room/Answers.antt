use Rattle.std.proofs.Common.{◌≡◌, ◌<◌, length, [], ap, arith}
use Rattle.fact_records.specs.declared.block.TheConstants.{BLOCK}
use Rattle.fact_records.specs.BlockList.{block_at}
use Rattle.fact_records.proofs.Fronts.{some_from_test}
use Rattle.fact_records.proofs.Rooms.{room_there, room_behind}
use Rattle.fact_records.proofs.blocks.Blocks.make_room.Goals as goal

pub returns-then-len_of-lt-BLOCK : goal.returns-then-len_of-lt-BLOCK
returns-then-len_of-lt-BLOCK c =
    let some = some_from_test _ c.args.self.now.used _ c.is_empty.ensures c.if-is_empty.false c.used_blocks.ensures in
    room_there c.args.self.now c.args.place.block c.args.place.at c.requires.place c.requires.filled some (omega arith)

pub returns-then-place-used_blocks : goal.returns-then-place-used_blocks
returns-then-place-used_blocks c =
    let some = some_from_test _ c.args.self.now.used _ c.is_empty.ensures c.if-is_empty.false c.used_blocks.ensures in
    let in_use : c.args.place.block < length c.args.self.now.used = omega arith in
    let whole = c.requires.filled c.args.place.block [] in_use in
    let all : length (block_at c.args.self.now.used c.args.place.block) ≡ BLOCK = omega (arith, whole.most) in
    room_behind c.args.self.now c.add-then-place-used_blocks.new.self c.args.place.block c.args.place.at c.requires.place c.requires.filled all c.if-place-eq-BLOCK.true (omega (arith, ap length c.used_blocks-then-place-eq-BLOCK.ensures)) c.add-then-place-used_blocks.ensures.used c.add-then-place-used_blocks.ensures.stock
