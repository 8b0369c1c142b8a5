use Rattle.std.proofs.Common.{◌≡◌, ◌+◌, ◌<◌, [], ◌∷◌, ◌++◌, length, take, drop, get_or, set, sym, ap, ◌∙◌, arith, length-append}
use Rattle.std.specs.List.{insert}
use Rattle.std.specs.Vec.{vec_len}
use Rattle.std.proofs.lemmas.List.{append-nil, get_or_read, length-take-le, length-drop}
use Rattle.fact_records.specs.declared.block.TheConstants.{BLOCK}
use Rattle.fact_records.specs.declared.blocks.TheConstants.{HALF}
use Rattle.fact_records.specs.BlockList.{all_facts, block_at}
use Rattle.fact_records.specs.Starts.{starts_of}
use Rattle.fact_records.proofs.BlockStarts.{facts-halved, length-counted, starts-split, starts-within}
use Rattle.fact_records.proofs.Stocking.{empty-popped, stocked-popped}
use Rattle.fact_records.proofs.blocks.Blocks.split.Goals as goal

pub index-requires : goal.index-requires
index-requires c =
    let place : c.args.block < length c.self.inside.used.items = rw (← c.self.view_is) at c.requires.place in
    omega (arith, place, length-counted c.self.inside.used.items c.self.inside.starts.items c.self.invariant.counted, c.self.inside.starts.ok)

pub overflow_add-start : goal.overflow_add-start
overflow_add-start c =
    let place : c.args.block < length c.self.inside.used.items = rw (← c.self.view_is) at c.requires.place in
    let full : length (block_at c.self.inside.used.items c.args.block) ≡ BLOCK = rw (← c.self.view_is) at c.requires.full in
    let many = length-counted c.self.inside.used.items c.self.inside.starts.items c.self.invariant.counted in
    let start = get_or_read c.self.inside.starts.items c.args.block _ (omega (arith, place, many)) c.index.ensures 0 ∙ ap (λ l. get_or l c.args.block 0) c.self.invariant.counted in
    omega (arith, start, full, starts-within c.self.inside.used.items c.args.block place, c.self.invariant.few)

pub insert_in_room-requires-2-clause-place : goal.insert_in_room-requires-2-clause-place
insert_in_room-requires-2-clause-place c =
    let place : c.args.block < length c.self.inside.used.items = rw (← c.self.view_is) at c.requires.place in
    omega (arith, place, length-counted c.self.inside.used.items c.self.inside.starts.items c.self.invariant.counted, c.self.inside.starts.ok)

pub insert_in_room-requires-2-clause-room : goal.insert_in_room-requires-2-clause-room
insert_in_room-requires-2-clause-room c =
    let some : 0 < vec_len c.self.inside.stock = rw (← c.self.view_is) at c.requires.stock in
    omega (arith, some, c.self.invariant.fits_starts, length-counted c.self.inside.used.items c.self.inside.starts.items c.self.invariant.counted, c.self.inside.starts.ok, c.self.inside.used.ok, c.self.inside.stock.ok)

pub invariant_of-self : goal.invariant_of-self
invariant_of-self c =
    let used = c.self.inside.used.items in
    let place : c.args.block < length c.self.inside.used.items = rw (← c.self.view_is) at c.requires.place in
    let full : length (block_at c.self.inside.used.items c.args.block) ≡ BLOCK = rw (← c.self.view_is) at c.requires.full in
    let many = length-counted c.self.inside.used.items c.self.inside.starts.items c.self.invariant.counted in
    let start = get_or_read c.self.inside.starts.items c.args.block _ (omega (arith, place, many)) c.index.ensures 0 ∙ ap (λ l. get_or l c.args.block 0) c.self.invariant.counted in
    let here : c.index_mut.result.now ≡ block_at c.self.inside.used.items c.args.block = get_or_read used c.args.block _ place c.index_mut.ensures.value [] in
    let first : length c.give_end.new.self ≡ HALF = ap length c.give_end.ensures.front ∙ length-take-le HALF c.index_mut.result.now (omega (arith, ap length here, full)) in
    let popped : c.self.inside.stock.items ≡ c.pop.new.self.items ++ c.unwrap-end.result ∷ [] = rw c.unwrap-end.ensures at c.pop.ensures.items in
    let none = empty-popped c.self.inside.stock.items c.pop.new.self.items c.unwrap-end.result c.self.invariant.stocked.empty popped in
    let back : c.give_end.new.next ≡ drop HALF c.index_mut.result.now = c.give_end.ensures.back ∙ ap (λ l. drop HALF c.index_mut.result.now ++ l) none ∙ append-nil (drop HALF c.index_mut.result.now) in
    let second : length c.give_end.new.next ≡ HALF = omega (arith, ap length back, length-drop HALF c.index_mut.result.now, ap length here, full) in
    let parts : length c.give_end.new.self + length c.give_end.new.next ≡ length (block_at c.self.inside.used.items c.args.block) = omega (arith, first, second, full) in
    let stocked = stocked-popped c.self.inside.used.len c.insert_in_room.new.items.len c.self.inside.used.cap c.insert_in_room.new.items.cap c.self.inside.stock.cap c.pop.new.self.cap c.self.inside.stock.items c.pop.new.self.items c.unwrap-end.result c.self.invariant.stocked c.insert_in_room.ensures.capacity (omega (arith, c.pop.ensures.capacity)) popped c.insert_in_room.ensures.len in
    record {
      stocked = stocked;
      counted =
          c.insert_in_room-2.ensures.items ∙ ap (λ l. insert l (c.args.block + 1) (c.index.result.now + HALF)) c.self.invariant.counted
          ∙ sym (starts-split used c.args.block (c.index.result.now + HALF) c.give_end.new.self c.give_end.new.next place parts (omega (arith, start, first)))
          ∙ ap starts_of (sym c.insert_in_room.ensures.items);
      few = omega (arith, c.self.invariant.few, ap (λ l. length (all_facts l)) c.insert_in_room.ensures.items, facts-halved used c.args.block c.give_end.new.self c.give_end.new.next place parts);
      fits_starts = omega (arith, c.self.invariant.fits_starts, c.insert_in_room.ensures.len, c.insert_in_room-2.ensures.capacity, ap length popped, length-append c.pop.new.self.items (c.unwrap-end.result ∷ []));
    }

pub returns-clause-used : goal.returns-clause-used
returns-clause-used c =
    let used = c.self.inside.used.items in
    let place : c.args.block < length c.self.inside.used.items = rw (← c.self.view_is) at c.requires.place in
    let here : c.index_mut.result.now ≡ block_at c.self.inside.used.items c.args.block = get_or_read used c.args.block _ place c.index_mut.ensures.value [] in
    let popped : c.self.inside.stock.items ≡ c.pop.new.self.items ++ c.unwrap-end.result ∷ [] = rw c.unwrap-end.ensures at c.pop.ensures.items in
    let none = empty-popped c.self.inside.stock.items c.pop.new.self.items c.unwrap-end.result c.self.invariant.stocked.empty popped in
    let back = c.give_end.ensures.back ∙ ap (λ l. drop HALF c.index_mut.result.now ++ l) none ∙ append-nil (drop HALF c.index_mut.result.now) ∙ ap (drop HALF) here in
    rw (← c.self.view_is)
    (c.insert_in_room.ensures.items ∙ ap (λ l. insert (set used c.args.block l) (c.args.block + 1) c.give_end.new.next) (c.give_end.ensures.front ∙ ap (take HALF) here)
    ∙ ap (insert (set used c.args.block (take HALF (block_at used c.args.block))) (c.args.block + 1)) back)
