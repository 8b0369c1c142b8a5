use Rattle.std.proofs.Common.{ap, ◌∙◌, arith}
use Rattle.std.specs.List.{remove}
use Rattle.std.specs.Vec.{vec_capacity}
use Rattle.fact_records.specs.FactColumns.{facts_of}
use Rattle.fact_records.proofs.FactColumns.{facts-remove, length-columns}
use Rattle.fact_records.proofs.block.Block.remove.Goals as goal

pub remove-requires : goal.remove-requires
remove-requires c = omega (arith, length-columns c.self.inside.ids.items (vec_capacity c.self.inside.ids) c.self.inside.regions c.self.inside.values c.args.self.now c.self.invariant c.self.view_is, c.requires, c.self.inside.ids.ok)

pub returns-clause-facts : goal.returns-clause-facts
returns-clause-facts c =
    let count = length-columns c.self.inside.ids.items (vec_capacity c.self.inside.ids) c.self.inside.regions c.self.inside.values c.args.self.now c.self.invariant c.self.view_is in
    ap (λ l. facts_of l c.remove-2.new.self c.remove-3.new.self) c.remove.ensures.items
    ∙ ap (λ l. facts_of (remove c.self.inside.ids.items c.args.at) l c.remove-3.new.self) c.remove-2.ensures.lists
    ∙ ap (λ l. facts_of (remove c.self.inside.ids.items c.args.at) (remove c.self.inside.regions c.args.at) l) c.remove-3.ensures.lists
    ∙ facts-remove c.self.inside.ids.items c.self.inside.regions c.self.inside.values c.args.at c.self.invariant.with_regions c.self.invariant.with_values (omega (arith, count, c.requires))
    ∙ ap (λ l. remove l c.args.at) c.self.view_is
