use Rattle.std.proofs.Common.{◌≡◌, ◌<◌, [], length, sym, ap, ◌∙◌, arith, length-set}
use Rattle.std.proofs.lemmas.List.{get_or_read}
use Rattle.fact_records.specs.BlockList.{block_at}
use Rattle.fact_records.proofs.BlockStarts.{facts-set, starts-replaced}
use Rattle.fact_records.proofs.blocks.Blocks.replace_within.Goals as goal

pub invariant_of-self : goal.invariant_of-self
invariant_of-self c =
    let used = c.self.inside.used.items in
    let place : c.args.place.block < length c.self.inside.used.items = rw (← c.self.view_is) at c.requires.block in
    let here : c.index_mut.result.now ≡ block_at c.self.inside.used.items c.args.place.block = get_or_read used c.args.place.block _ place c.index_mut.ensures.value [] in
    let same : length c.replace.new.self ≡ length (block_at c.self.inside.used.items c.args.place.block) = ap length c.replace.ensures.facts ∙ length-set c.index_mut.result.now c.args.place.at c.args.fact ∙ ap length here in
    record {
      stocked = c.self.invariant.stocked;
      counted = c.self.invariant.counted ∙ sym (starts-replaced used c.args.place.block c.replace.new.self place same);
      few = omega (arith, c.self.invariant.few, same, facts-set used c.args.place.block c.replace.new.self place);
      fits_starts = c.self.invariant.fits_starts;
    }
