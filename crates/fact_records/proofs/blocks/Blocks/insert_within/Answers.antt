use Rattle.std.proofs.Common.{◌≡◌, ◌+◌, ◌<◌, ◌≤◌, ◌^◌, [], length, sym, ap, ◌∙◌, arith}
use Rattle.std.proofs.lemmas.List.{get_or_read}
use Rattle.std.proofs.lemmas.List.Edits.{length-insert}
use Rattle.fact_records.specs.BlockList.{all_facts, block_at}
use Rattle.fact_records.specs.Starts.{mapped_from}
use Rattle.fact_records.proofs.BlockStarts.{facts-set, mapped_from-within, starts-inserted, starts-room}
use Rattle.fact_records.proofs.blocks.Blocks.insert_within.Goals as goal

pub raise-requires : goal.raise-requires
raise-requires c =
    let few : length (all_facts c.self.inside.used.items) + 1 < 2 ^ 64 = rw (← c.self.view_is) at c.requires.few in
    rw (c.deref_mut.ensures.value, c.self.invariant.counted) (starts-room c.self.inside.used.items (2 ^ 64) few)

pub invariant_of-self : goal.invariant_of-self
invariant_of-self c =
    let used = c.self.inside.used.items in
    let few : length (all_facts c.self.inside.used.items) + 1 < 2 ^ 64 = rw (← c.self.view_is) at c.requires.few in
    let place : c.args.place.block < length c.self.inside.used.items = rw (← c.self.view_is) at c.requires.place in
    let within : c.args.place.at ≤ length (block_at c.self.inside.used.items c.args.place.block) = rw (← c.self.view_is) at c.requires.within in
    let here : c.index_mut.result.now ≡ block_at c.self.inside.used.items c.args.place.block = get_or_read used c.args.place.block _ place c.index_mut.ensures.value [] in
    let longer : length c.insert.new.self ≡ length (block_at c.self.inside.used.items c.args.place.block) + 1 = omega (arith, ap length c.insert.ensures, ap length here, length-insert c.index_mut.result.now c.args.place.at c.args.fact (omega (arith, ap length here))) in
    record {
      stocked = c.self.invariant.stocked;
      counted =
          mapped_from-within (λ start. start + 1) (c.args.place.block + 1) c.self.inside.starts.len c.self.inside.starts.items c.deref_mut.result.now c.raise.new.starts c.deref_mut.ensures.value (sym c.self.inside.starts.ok.0) c.raise.ensures
          ∙ ap (mapped_from (λ start. start + 1) (c.args.place.block + 1)) c.self.invariant.counted ∙ sym (starts-inserted used c.args.place.block c.insert.new.self place longer);
      few = omega (arith, few, longer, facts-set used c.args.place.block c.insert.new.self place);
      fits_starts = c.self.invariant.fits_starts;
    }
