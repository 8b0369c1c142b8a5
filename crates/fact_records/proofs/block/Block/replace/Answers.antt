use Rattle.std.proofs.Common.{◌≤◌, length, set, ap, ◌∙◌, arith}
use Rattle.std.specs.Vec.{vec_capacity}
use Rattle.fact_records.specs.FactColumns.{facts_of}
use Rattle.fact_records.proofs.FactColumns.{facts-set, length-columns}
use Rattle.fact_records.proofs.block.Block.replace.Goals as goal

pub index_mut-requires : goal.index_mut-requires
index_mut-requires c = omega (arith, length-columns c.self.inside.ids.items (vec_capacity c.self.inside.ids) c.self.inside.regions c.self.inside.values c.args.self.now c.self.invariant c.self.view_is, c.requires, c.self.inside.ids.ok)

pub replace-requires : goal.replace-requires
replace-requires c =
    let count = length-columns c.self.inside.ids.items (vec_capacity c.self.inside.ids) c.self.inside.regions c.self.inside.values c.args.self.now c.self.invariant c.self.view_is in
    let short : length c.nodes.result.now ≤ 6 = omega (arith, ap length c.nodes.ensures.nodes, c.nodes.ensures.few) in
    (omega arith, (omega (arith, count, c.requires, c.self.invariant.with_regions), short))

pub replace-requires-2 : goal.replace-requires-2
replace-requires-2 c =
    let count = length-columns c.self.inside.ids.items (vec_capacity c.self.inside.ids) c.self.inside.regions c.self.inside.values c.args.self.now c.self.invariant c.self.view_is in
    let short : length c.as_slice.result.now ≤ 7 = omega (arith, ap length c.as_slice.ensures.values, c.as_slice.ensures.few) in
    (omega arith, (omega (arith, count, c.requires, c.self.invariant.with_values), short))

pub returns-clause-facts : goal.returns-clause-facts
returns-clause-facts c =
    ap (λ l. facts_of (set c.self.inside.ids.items c.args.at c.args.fact.id) l c.replace-2.new.self) (c.replace.ensures ∙ ap (λ l. set c.self.inside.regions c.args.at l) c.nodes.ensures.nodes)
    ∙ ap (λ l. facts_of (set c.self.inside.ids.items c.args.at c.args.fact.id) (set c.self.inside.regions c.args.at c.args.fact.region) l) (c.replace-2.ensures ∙ ap (λ l. set c.self.inside.values c.args.at l) c.as_slice.ensures.values)
    ∙ facts-set c.self.inside.ids.items c.self.inside.regions c.self.inside.values c.args.at c.args.fact.id c.args.fact.region c.args.fact.cols
    ∙ ap (λ l. set l c.args.at c.args.fact) c.self.view_is
