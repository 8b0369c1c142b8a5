use Rattle.std.proofs.Common.{◌≡◌, ◌<◌, length, Some, ap, sym, ◌∙◌, arith}
use Rattle.std.specs.List.{slice_get}
use Rattle.std.specs.Vec.{vec_capacity}
use Rattle.std.proofs.lemmas.Option.{slice_get-get_or}
use Rattle.fact_records.proofs.FactColumns.{facts-get, length-columns}
use Rattle.fact_records.proofs.block.Block.get.Goals as goal

pub index-requires : goal.index-requires
index-requires c = omega (arith, length-columns c.self.inside.ids.items (vec_capacity c.self.inside.ids) c.self.inside.regions c.self.inside.values c.args.self.now c.self.invariant c.self.view_is, c.requires, c.self.inside.ids.ok)

pub get-requires : goal.get-requires
get-requires c = (omega arith, omega (arith, length-columns c.self.inside.ids.items (vec_capacity c.self.inside.ids) c.self.inside.regions c.self.inside.values c.args.self.now c.self.invariant c.self.view_is, c.requires, c.self.invariant.with_regions))

pub get-requires-2 : goal.get-requires-2
get-requires-2 c = (omega arith, omega (arith, length-columns c.self.inside.ids.items (vec_capacity c.self.inside.ids) c.self.inside.regions c.self.inside.values c.args.self.now c.self.invariant c.self.view_is, c.requires, c.self.invariant.with_values))

pub returns : goal.returns
returns c =
    let count = length-columns c.self.inside.ids.items (vec_capacity c.self.inside.ids) c.self.inside.regions c.self.inside.values c.args.self.now c.self.invariant c.self.view_is in
    let within : c.args.at < length c.self.inside.ids.items = omega (arith, count, c.requires) in
    let id = slice_get-get_or c.self.inside.ids.items c.args.at c.index.result.now within ∙ ap Some (sym c.index.ensures) in
    let nodes : c.unwrap.result ≡ c.get.result.now = rw c.unwrap.ensures at c.new.ensures.held in
    let values : c.unwrap-2.result ≡ c.get-2.result.now = rw c.unwrap-2.ensures at c.new-2.ensures.held in
    ap (λ l. slice_get l c.args.at) (sym c.self.view_is) ∙ facts-get c.self.inside.ids.items c.self.inside.regions c.self.inside.values c.args.at c.index.result.now c.unwrap.result c.unwrap-2.result id (c.get.ensures.list ∙ ap Some (sym nodes)) (c.get-2.ensures.list ∙ ap Some (sym values))
