use Rattle.std.proofs.Common.{map, ap, sym, ◌∙◌}
use Rattle.fact_records.proofs.FactColumns.{ids-facts_of}
use Rattle.fact_records.proofs.block.Block.ids.Goals as goal

pub returns : goal.returns
returns c = c.as_slice.ensures.value ∙ sym (ids-facts_of c.self.inside.ids.items c.self.inside.regions c.self.inside.values c.self.invariant.with_regions c.self.invariant.with_values) ∙ ap (λ l. map (λ f. f.id) l) c.self.view_is
