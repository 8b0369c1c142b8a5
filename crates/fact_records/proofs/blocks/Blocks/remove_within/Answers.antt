use Rattle.std.proofs.Common.{◌≡◌, ◌+◌, ◌-◌, ◌<◌, [], length, sym, ap, ◌∙◌, arith}
use Rattle.std.proofs.lemmas.List.{get_or_read}
use Rattle.std.proofs.lemmas.List.Edits.{length-remove}
use Rattle.fact_records.specs.BlockList.{block_at}
use Rattle.fact_records.specs.Starts.{mapped_from}
use Rattle.fact_records.proofs.BlockStarts.{facts-set, mapped_from-within, starts-removed, starts-some}
use Rattle.fact_records.proofs.blocks.Blocks.remove_within.Goals as goal

pub lower-requires : goal.lower-requires
lower-requires c =
    let place : c.args.place.block < length c.self.inside.used.items = rw (← c.self.view_is) at c.requires.block in
    let within : c.args.place.at < length (block_at c.self.inside.used.items c.args.place.block) = rw (← c.self.view_is) at c.requires.at in
    rw (c.deref_mut.ensures.value, c.self.invariant.counted) (starts-some c.self.inside.used.items c.args.place.block place (omega (arith, within)))

pub invariant_of-self : goal.invariant_of-self
invariant_of-self c =
    let used = c.self.inside.used.items in
    let place : c.args.place.block < length c.self.inside.used.items = rw (← c.self.view_is) at c.requires.block in
    let within : c.args.place.at < length (block_at c.self.inside.used.items c.args.place.block) = rw (← c.self.view_is) at c.requires.at in
    let here : c.index_mut.result.now ≡ block_at c.self.inside.used.items c.args.place.block = get_or_read used c.args.place.block _ place c.index_mut.ensures.value [] in
    let shorter : length c.remove-fact.new.self + 1 ≡ length (block_at c.self.inside.used.items c.args.place.block) = omega (arith, ap length c.remove-fact.ensures.facts, ap length here, length-remove c.index_mut.result.now c.args.place.at (omega (arith, ap length here))) in
    record {
      stocked = c.self.invariant.stocked;
      counted =
          mapped_from-within (λ start. start - 1) (c.args.place.block + 1) c.self.inside.starts.len c.self.inside.starts.items c.deref_mut.result.now c.lower.new.starts c.deref_mut.ensures.value (sym c.self.inside.starts.ok.0) c.lower.ensures
          ∙ ap (mapped_from (λ start. start - 1) (c.args.place.block + 1)) c.self.invariant.counted ∙ sym (starts-removed used c.args.place.block c.remove-fact.new.self place shorter);
      few = omega (arith, c.self.invariant.few, shorter, facts-set used c.args.place.block c.remove-fact.new.self place);
      fits_starts = c.self.invariant.fits_starts;
    }
