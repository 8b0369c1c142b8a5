-- The codes over the dimensions from one on, dimension by dimension.
use Rattle.std.proofs.Common.{◌≡◌, ◌-◌, ◌*◌, ◌<◌, List, ℕ, length, subst, sym, ap, ◌∙◌, arith}
use Rattle.std.specs.Prelude.{All}
use Rattle.region_algebra.proofs.Spaces.{accepted-limits}
use Rattle.region_algebra.proofs.Turns.{is_region-length}
use Rattle.region_index.specs.Touching.{codes_behind_places, places_in_line}
use Rattle.region_index.proofs.NodesInLine.{matched-none, matched-some}
use Rattle.region_index.proofs.RegionsInLine.{AreFrom, from-below, from-first, from-last, from-many, from-next, from-small, from-some, here-at}
use Rattle.region_index.proofs.touching.codes_in_line.Goals as goal

pub loop-d-init : goal.loop-d-init
loop-d-init c =
    subst (λ (codes : List ℕ). AreFrom c.args.space.now c.args.r c.dims-d.result 1 codes) (sym c.in_ok-codes.ensures.items) (from-last c.args.space.now c.args.r c.dims-d.result c.requires c.dims-d.ensures.count)

pub node-requires : goal.node-requires
node-requires c = omega (arith, c.loop-d-test.true, c.loop-d.invariant.within, is_region-length c.args.space.now c.args.r c.requires)

pub codes_with-requires-clause-node : goal.codes_with-requires-clause-node
codes_with-requires-clause-node c =
    let here = here-at c.args.space.now c.args.r (c.loop-d.d - 1) c.loop-d.d c.dim-dim.result.now c.node.result c.requires (omega (arith, c.loop-d-test.true)) c.dim-dim.ensures c.node.ensures in
    here.within

pub codes_with-requires-clause-below : goal.codes_with-requires-clause-below
codes_with-requires-clause-below c =
    let here = here-at c.args.space.now c.args.r (c.loop-d.d - 1) c.loop-d.d c.dim-dim.result.now c.node.result c.requires (omega (arith, c.loop-d-test.true)) c.dim-dim.ensures c.node.ensures in
    subst (λ (codes : List ℕ). All (λ code. code < c.loop-d.step) codes) (sym c.deref.ensures.value)
    (from-below c.args.space.now c.args.r (c.loop-d.d - 1) c.loop-d.d c.loop-d.step c.loop-d.codes.items c.dims-d.ensures.trees c.requires (accepted-limits c.args.space.now c.dims-d.ensures.accepted).regions c.loop-d.invariant c.dim-dim.result.now
    c.node.result here (omega (arith, c.loop-d-test.true)))

pub codes_with-requires-clause-some : goal.codes_with-requires-clause-some
codes_with-requires-clause-some c = omega (arith, ap length c.deref.ensures.value, from-some c.args.space.now c.args.r c.loop-d.d c.loop-d.step c.loop-d.codes.items c.dims-d.ensures.trees c.requires c.loop-d.invariant)

pub codes_with-requires-clause-small : goal.codes_with-requires-clause-small
codes_with-requires-clause-small c =
    let here = here-at c.args.space.now c.args.r (c.loop-d.d - 1) c.loop-d.d c.dim-dim.result.now c.node.result c.requires (omega (arith, c.loop-d-test.true)) c.dim-dim.ensures c.node.ensures in
    from-small c.args.space.now c.args.r (c.loop-d.d - 1) c.loop-d.d c.loop-d.step c.loop-d.codes.items c.dims-d.ensures.trees c.requires (accepted-limits c.args.space.now c.dims-d.ensures.accepted).regions c.loop-d.invariant c.dim-dim.result.now
    c.node.result here (omega (arith, c.loop-d-test.true))

pub returns-in_default : goal.returns-in_default
returns-in_default c =
    let here = here-at c.args.space.now c.args.r (c.loop-d.d - 1) c.loop-d.d c.dim-dim.result.now c.node.result c.requires (omega (arith, c.loop-d-test.true)) c.dim-dim.ensures c.node.ensures in
    from-many c.args.space.now c.args.r (c.loop-d.d - 1) c.loop-d.d c.loop-d.step c.loop-d.codes.items c.dims-d.ensures.trees c.requires (accepted-limits c.args.space.now c.dims-d.ensures.accepted).regions c.loop-d.invariant c.dim-dim.result.now
    c.node.result here (omega (arith, c.loop-d-test.true)) c.args.most
    (subst (λ (codes : List ℕ). c.args.most < length (codes_behind_places (places_in_line c.dim-dim.result.now c.node.result) c.loop-d.step codes)) c.deref.ensures.value (matched-none _ _ _ c.in_default.is c.in_ok-next.ensures))

pub overflow_mul-step : goal.overflow_mul-step
overflow_mul-step c =
    let here = here-at c.args.space.now c.args.r (c.loop-d.d - 1) c.loop-d.d c.dim-dim.result.now c.node.result c.requires (omega (arith, c.loop-d-test.true)) c.dim-dim.ensures c.node.ensures in
    let small = from-small c.args.space.now c.args.r (c.loop-d.d - 1) c.loop-d.d c.loop-d.step c.loop-d.codes.items c.dims-d.ensures.trees c.requires (accepted-limits c.args.space.now c.dims-d.ensures.accepted).regions c.loop-d.invariant
    c.dim-dim.result.now c.node.result here (omega (arith, c.loop-d-test.true)) in
    omega (arith, small, ap (λ n. c.loop-d.step * n) (c.from-step.ensures ∙ c.len.ensures.count))

pub loop-d-preserved : goal.loop-d-preserved
loop-d-preserved c =
    let here = here-at c.args.space.now c.args.r (c.loop-d.d - 1) c.loop-d.d c.dim-dim.result.now c.node.result c.requires (omega (arith, c.loop-d-test.true)) c.dim-dim.ensures c.node.ensures in
    from-next c.args.space.now c.args.r (c.loop-d.d - 1) c.loop-d.d c.loop-d.step c.loop-d.codes.items c.dims-d.ensures.trees c.requires (accepted-limits c.args.space.now c.dims-d.ensures.accepted).regions c.loop-d.invariant c.dim-dim.result.now
    c.node.result here (omega (arith, c.loop-d-test.true)) (c.loop-d.step * c.from-step.result) c.in-Some.next.items (ap (λ n. c.loop-d.step * n) (c.from-step.ensures ∙ c.len.ensures.count))
    (matched-some _ _ _ _ c.in-Some.is c.in_ok-next.ensures ∙ ap (codes_behind_places (places_in_line c.dim-dim.result.now c.node.result) c.loop-d.step) c.deref.ensures.value)

pub returns : goal.returns
returns c =
    let start : c.loop-d.d ≡ 0 = omega (arith, c.loop-d-test.false) in
    from-first c.args.space.now c.args.r c.loop-d.step c.loop-d.codes.items (subst (λ (d : ℕ). AreFrom c.args.space.now c.args.r d c.loop-d.step c.loop-d.codes.items) start c.loop-d.invariant)
