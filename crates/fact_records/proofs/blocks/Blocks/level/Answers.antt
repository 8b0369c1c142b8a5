use Rattle.std.proofs.Common.{◌+◌, ◌<◌, length, ap, sym, ◌∙◌, arith, get_or}
use Rattle.std.specs.List.{slice_set}
use Rattle.fact_records.specs.BlockList.{all_facts}
use Rattle.fact_records.specs.Leveling.{leveled}
use Rattle.fact_records.specs.Starts.{starts_of}
use Rattle.fact_records.proofs.BlockStarts.{length-counted}
use Rattle.fact_records.proofs.Leveling.{all_facts-leveled, leveled-read, leveled-within, starts-fit, starts-leveled}
use Rattle.fact_records.proofs.blocks.Blocks.level.Goals as goal

pub start_behind-requires-clause-place : goal.start_behind-requires-clause-place
start_behind-requires-clause-place c =
    let place : c.args.block + 1 < length c.self.inside.used.items = rw (← c.self.view_is) at c.requires.place in
    omega (arith, place, length-counted c.self.inside.used.items c.self.inside.starts.items c.self.invariant.counted, c.self.inside.starts.ok)

pub start_behind-requires-clause-few : goal.start_behind-requires-clause-few
start_behind-requires-clause-few c =
    let used = c.self.inside.used.items in
    let place : c.args.block + 1 < length c.self.inside.used.items = rw (← c.self.view_is) at c.requires.place in
    let is = c.level_at.ensures ∙ ap (λ l. leveled l c.args.block) c.deref_mut.ensures.value in
    let items = leveled-within used c.args.block place c.self.inside.used.len c.level_at.new.used is (sym c.self.inside.used.ok.0) in
    let read = leveled-read used c.args.block place _ _ items c.index.ensures in
    omega (arith, ap length read, starts-fit used c.args.block place, ap (λ l. get_or l c.args.block 0) c.self.invariant.counted, c.self.invariant.few)

pub invariant_of-self : goal.invariant_of-self
invariant_of-self c =
    let used = c.self.inside.used.items in
    let place : c.args.block + 1 < length c.self.inside.used.items = rw (← c.self.view_is) at c.requires.place in
    let is = c.level_at.ensures ∙ ap (λ l. leveled l c.args.block) c.deref_mut.ensures.value in
    let items = leveled-within used c.args.block place c.self.inside.used.len c.level_at.new.used is (sym c.self.inside.used.ok.0) in
    let read = leveled-read used c.args.block place _ _ items c.index.ensures in
    record {
      stocked = c.self.invariant.stocked;
      counted =
          c.start_behind.ensures.items ∙ ap (λ l. slice_set l (c.args.block + 1) (get_or l c.args.block 0 + c.len-len.result)) c.self.invariant.counted
          ∙ ap (λ n. slice_set (starts_of used) (c.args.block + 1) (get_or (starts_of used) c.args.block 0 + n)) (c.len-len.ensures.count ∙ ap length read) ∙ sym (starts-leveled used c.args.block place) ∙ ap starts_of (sym items);
      few = omega (arith, c.self.invariant.few, ap (λ l. length (all_facts l)) items, ap length (all_facts-leveled used c.args.block place));
      fits_starts = omega (arith, c.self.invariant.fits_starts, c.start_behind.ensures.capacity);
    }
