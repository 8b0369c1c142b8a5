use Rattle.std.proofs.Common.{sym, ap, ◌∙◌, arith, rules}
use Rattle.fact_records.specs.Starts.{starts_of}
use Rattle.fact_records.proofs.BlockStarts.{length-counted}
use Rattle.fact_records.proofs.blocks.Blocks.reserve.Goals as goal

pub invariant_of-self-2 : goal.invariant_of-self-2
invariant_of-self-2 c = record {
  stocked = search rules;
  counted = c.in_ok-reserve-2.ensures.items ∙ c.self.invariant.counted ∙ ap starts_of (sym c.in_ok-reserve.ensures.items);
  few = rw c.in_ok-reserve.ensures.items c.self.invariant.few;
  fits_starts = omega (arith, c.in_ok-reserve-2.ensures.ok, c.fill.ensures.most, c.fill.new.stock.ok, c.in_ok-reserve-2.ensures.len, c.in_ok-reserve.ensures.len, c.self.inside.used.ok, c.self.inside.starts.ok, length-counted c.self.inside.used.items c.self.inside.starts.items c.self.invariant.counted);
}
