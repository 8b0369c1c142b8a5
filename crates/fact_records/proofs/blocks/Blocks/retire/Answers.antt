use Rattle.std.proofs.Common.{◌≡◌, ◌<◌, [], length, sym, ap, ◌∙◌, arith}
use Rattle.std.specs.List.{remove}
use Rattle.std.proofs.lemmas.List.{get_or_read}
use Rattle.fact_records.specs.BlockList.{all_facts, block_at}
use Rattle.fact_records.specs.Starts.{starts_of}
use Rattle.fact_records.proofs.BlockStarts.{length-counted, starts-retired}
use Rattle.fact_records.proofs.Edits.{all_facts-remove}
use Rattle.fact_records.proofs.Stocking.{stocked-pushed}
use Rattle.fact_records.proofs.blocks.Blocks.retire.Goals as goal

pub remove-requires : goal.remove-requires
remove-requires c =
    let place : c.args.block < length c.self.inside.used.items = rw (← c.self.view_is) at c.requires.place in
    omega (arith, place, length-counted c.self.inside.used.items c.self.inside.starts.items c.self.invariant.counted, c.self.inside.starts.ok)

pub invariant_of-self : goal.invariant_of-self
invariant_of-self c =
    let used = c.self.inside.used.items in
    let place : c.args.block < length c.self.inside.used.items = rw (← c.self.view_is) at c.requires.place in
    let empty : block_at c.self.inside.used.items c.args.block ≡ [] = rw (← c.self.view_is) at c.requires.empty in
    let none = get_or_read used c.args.block _ place c.remove-empty.ensures.value [] ∙ empty in
    record {
      stocked = stocked-pushed c.self.inside.used.len c.remove-empty.new.self.len c.self.inside.used.cap c.remove-empty.new.self.cap c.self.inside.stock.cap c.push_in_room.new.items.cap c.self.inside.stock.items c.push_in_room.new.items.items c.remove-empty.result c.self.invariant.stocked (omega (arith, c.remove-empty.ensures.capacity)) c.push_in_room.ensures.capacity c.push_in_room.ensures.items none c.remove-empty.ensures.len;
      counted = c.remove.ensures.items ∙ ap (λ l. remove l c.args.block) c.self.invariant.counted ∙ sym (starts-retired used c.args.block place empty) ∙ ap starts_of (sym c.remove-empty.ensures.items);
      few = omega (arith, c.self.invariant.few, ap (λ l. length (all_facts l)) c.remove-empty.ensures.items, ap length (all_facts-remove used c.args.block place empty));
      fits_starts = omega (arith, c.self.invariant.fits_starts, c.remove-empty.ensures.len, c.remove.ensures.capacity, c.push_in_room.ensures.len, c.push_in_room.new.items.ok, c.self.inside.stock.ok);
    }
