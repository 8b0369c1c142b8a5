-- The walk through one dimension after the other, and in each through a node's parents before the node.
use Rattle.std.proofs.Common.{◌≡◌, ◌+◌, ◌<◌, length, sym, ◌∙◌, arith, rules}
use Rattle.std.specs.Prelude.{IfSome, slice_get}
use Rattle.std.proofs.lemmas.Result.{on_err_weaker, on_ok_weaker}
use Rattle.region_index.specs.Walk.{IsOnTheWay}
use Rattle.region_index.proofs.Walking.{Probes-both, Probes-none, Probes-of, code-small, codes_behind-end, codes_behind-leaf, codes_higher-parent, codes_higher-root, d-within, higher-within, leaf-there, leaf-within, on_err, steps-both, steps-of, way-coded}
use Rattle.region_index.proofs.walk.Walk.+walk.Goals as goal

pub over-node-requires : goal.over-node-requires
over-node-requires g t c = leaf-there _ _ _ _ c.requires (λ end. c.if-d-dims.false (end ∙ sym c.dims.ensures.count))

pub over-returns-then-d-dims-clause-ok : goal.over-returns-then-d-dims-clause-ok
over-returns-then-d-dims-clause-ok g t c =
    on_ok_weaker _ (Probes-of _ _ _ _ _ _ _ (sym (codes_behind-end _ _ c.requires.named _ _ (c.if-d-dims.true ∙ c.dims.ensures.count)))) c.probe.ensures.ok

pub over-returns-then-d-dims-clause-err : goal.over-returns-then-d-dims-clause-err
over-returns-then-d-dims-clause-err g t c =
    on_err _ (steps-of _ _ _ _ (sym (codes_behind-end _ _ c.requires.named _ _ (c.if-d-dims.true ∙ c.dims.ensures.count))) c.probe.ensures.most)

pub over-returns-else-d-dims-clause-ok : goal.over-returns-else-d-dims-clause-ok
over-returns-else-d-dims-clause-ok g t c =
    on_ok_weaker _ (Probes-of _ _ _ _ _ _ _ (codes_behind-leaf _ _ _ _ c.requires (λ end. c.if-d-dims.false (end ∙ sym c.dims.ensures.count)) _ c.node.ensures)) c.above.ensures.ok

pub over-returns-else-d-dims-clause-err : goal.over-returns-else-d-dims-clause-err
over-returns-else-d-dims-clause-err g t c =
    on_err_weaker _ (steps-of _ _ _ _ (codes_behind-leaf _ _ _ _ c.requires (λ end. c.if-d-dims.false (end ∙ sym c.dims.ensures.count)) _ c.node.ensures)) c.above.ensures.err

pub over-above-requires : goal.over-above-requires
over-above-requires g t c κs within =
    let differs = λ (end : c.args.d ≡ length c.args.self.now.space.now). c.if-d-dims.false (end ∙ sym c.dims.ensures.count) in
    let inside : c.args.d < length c.args.self.now.space.now = d-within _ _ _ _ c.requires differs in
    let leaf : IfSome (slice_get c.args.self.now.space.now c.args.d) (λ dim. c.node.result < length dim) = leaf-within _ _ _ _ c.requires differs _ c.node.ensures in
    search (rules, inside, leaf)

pub above-returns-in_err-higher-clause-err : goal.above-returns-in_err-higher-clause-err
above-returns-in_err-higher-clause-err g t c = on_err _ (higher-within _ _ _ _ c.requires.way c.requires.dim _ c.requires.node _ _ c.in_err-higher.ensures.err)

pub above-with_node-code-requires-clause-small : goal.above-with_node-code-requires-clause-small
above-with_node-code-requires-clause-small g t c = code-small _ _ _ _ c.requires.way _ c.dim.ensures _ c.requires.node

pub above-overflow_add-d : goal.above-overflow_add-d
above-overflow_add-d g t c = omega (arith, c.requires.dim, c.requires.way.few)

pub above-over-requires : goal.above-over-requires
above-over-requires g t c κs within =
    let next : IsOnTheWay c.args.self.now.space.now c.args.self.now.leaves (c.args.d + 1) c.with_node-code.result = way-coded _ _ _ _ c.requires.way _ c.dim.ensures _ c.requires.node _ c.with_node-code.ensures in
    search (rules, next, c.requires.dim)

pub above-returns-clause-ok : goal.above-returns-clause-ok
above-returns-clause-ok g t c =
    on_ok_weaker _ (Probes-both _ _ _ _ c.requires.way _ c.dim.ensures _ c.requires.node _ c.with_node-code.ensures _ _ _ _ _ _ _ c.in_ok-higher.ensures.ok) c.over.ensures.ok

pub above-returns-clause-err : goal.above-returns-clause-err
above-returns-clause-err g t c =
    on_err_weaker _ (steps-both _ _ _ _ c.requires.way _ c.dim.ensures _ c.requires.node _ c.with_node-code.ensures _ _ _ _ _ _ c.in_ok-higher.ensures.ok) c.over.ensures.err

pub higher-returns-in-Some-clause-ok : goal.higher-returns-in-Some-clause-ok
higher-returns-in-Some-clause-ok g t c =
    on_ok_weaker _ (Probes-of _ _ _ _ _ _ _ (codes_higher-parent _ _ _ _ c.requires.way _ c.dim.ensures _ c.requires.node _ c.in-Some.ensures.parent)) c.above.ensures.ok

pub higher-returns-in-Some-clause-err : goal.higher-returns-in-Some-clause-err
higher-returns-in-Some-clause-err g t c =
    on_err_weaker _ (steps-of _ _ _ _ (codes_higher-parent _ _ _ _ c.requires.way _ c.dim.ensures _ c.requires.node _ c.in-Some.ensures.parent)) c.above.ensures.err

pub higher-returns-in-None-clause-ok : goal.higher-returns-in-None-clause-ok
higher-returns-in-None-clause-ok g t c =
    Probes-none _ _ _ _ (codes_higher-root _ _ _ _ c.requires.way _ c.dim.ensures _ c.requires.node c.in-None.ensures.parent)
