use Rattle.std.proofs.Common.{◌≡◌, true, length, sym, ap, ◌∙◌, arith}
use Rattle.region_algebra.specs.Space.{is_region}
use Rattle.region_algebra.proofs.Spaces.{accepted-few, some_from_few}
use Rattle.region_algebra.proofs.Turns.{is_region-length}
use Rattle.region_algebra.proofs.space.Space.region.Goals as goal

pub returns-then-is_region-clause-regions : goal.returns-then-is_region-clause-regions
returns-then-is_region-clause-regions c =
    let named : is_region c.args.self.now c.args.nodes.now ≡ true = ap (λ ds. is_region ds c.args.nodes.now) (sym (c.deref.ensures.value ∙ c.self.view_is)) ∙ sym c.is_region.ensures ∙ c.if-is_region.true in
    let few = accepted-few c.self.inside.dims.items c.self.invariant.accepted in
    let made = some_from_few c.new.result (length c.args.nodes.now) c.new.ensures.refused (omega (arith, few.1, ap length c.self.view_is, is_region-length c.args.self.now c.args.nodes.now named)) in
    (λ _. named, λ _. made)
