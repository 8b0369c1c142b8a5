use Rattle.std.proofs.Common.{◌≡◌, ◌+◌, true, length, set, sym, ap, ◌∙◌, arith}
use Rattle.std.specs.List.{remove}
use Rattle.fact_records.specs.BlockList.{all_facts}
use Rattle.fact_records.specs.Joining.{are_sparse, joined_blocks}
use Rattle.fact_records.specs.Starts.{starts_of}
use Rattle.fact_records.proofs.BlockStarts.{length-counted, starts-joined}
use Rattle.fact_records.proofs.Edits.{all_facts-joined, joined_by, sparse-within}
use Rattle.fact_records.proofs.Stocking.{stocked-pushed}
use Rattle.fact_records.proofs.blocks.Blocks.join.Goals as goal

pub remove-requires : goal.remove-requires
remove-requires c =
    let sparse : are_sparse c.self.inside.used.items c.args.block ≡ true = rw (← c.self.view_is) at c.requires in
    omega (arith, sparse-within c.self.inside.used.items c.args.block sparse, length-counted c.self.inside.used.items c.self.inside.starts.items c.self.invariant.counted, c.self.inside.starts.ok)

pub invariant_of-self : goal.invariant_of-self
invariant_of-self c =
    let used = c.self.inside.used.items in
    let sparse : are_sparse c.self.inside.used.items c.args.block ≡ true = rw (← c.self.view_is) at c.requires in
    let within = sparse-within used c.args.block sparse in
    let are : set c.remove-next.new.self.items c.args.block c.append.new.self ≡ joined_blocks c.self.inside.used.items c.args.block =
    joined_by used c.remove-next.new.self.items c.args.block c.remove-next.result c.index_mut.result.now c.append.new.self within c.remove-next.ensures.items c.remove-next.ensures.value c.index_mut.ensures.value c.append.ensures.facts in
    record {
      stocked = stocked-pushed c.self.inside.used.len c.remove-next.new.self.len c.self.inside.used.cap c.remove-next.new.self.cap c.self.inside.stock.cap c.push_in_room.new.items.cap c.self.inside.stock.items c.push_in_room.new.items.items c.append.new.other c.self.invariant.stocked (omega (arith, c.remove-next.ensures.capacity)) c.push_in_room.ensures.capacity c.push_in_room.ensures.items c.append.ensures.emptied c.remove-next.ensures.len;
      counted = c.remove.ensures.items ∙ ap (λ l. remove l (c.args.block + 1)) c.self.invariant.counted ∙ sym (starts-joined used c.args.block within) ∙ ap starts_of (sym are);
      few = omega (arith, c.self.invariant.few, ap (λ l. length (all_facts l)) are, ap length (all_facts-joined used c.args.block within));
      fits_starts = omega (arith, c.self.invariant.fits_starts, c.remove-next.ensures.len, c.remove.ensures.capacity, c.push_in_room.ensures.len, c.push_in_room.new.items.ok, c.self.inside.stock.ok);
    }

pub returns-clause-used : goal.returns-clause-used
returns-clause-used c =
    let used = c.self.inside.used.items in
    let sparse : are_sparse c.self.inside.used.items c.args.block ≡ true = rw (← c.self.view_is) at c.requires in
    rw (← c.self.view_is) (joined_by used c.remove-next.new.self.items c.args.block c.remove-next.result c.index_mut.result.now c.append.new.self (sparse-within used c.args.block sparse) c.remove-next.ensures.items c.remove-next.ensures.value c.index_mut.ensures.value c.append.ensures.facts)
