use Rattle.std.proofs.Common.{◌≡◌, ℕ, true, false, get_or, refl, sym, ◌∙◌, arith}
use Rattle.std.specs.Prelude.{◌==◌}
use Rattle.std.proofs.lemmas.Bool.Decides.{nat_tests}
use Rattle.std.proofs.lemmas.Option.{get_or_from_slice_get}
use Rattle.region_algebra.proofs.Turns.{is_region-length}
use Rattle.feed_run.proofs.SameBase.{alike-all, alike-next, unlike-here, unlike-lengths}
use Rattle.feed_run.proofs.same_base.are_nodes.Goals as goal

pub returns-then-nodes-count : goal.returns-then-nodes-count
returns-then-nodes-count c =
    unlike-lengths (λ (m n : ℕ). m == n) c.args.nodes.now c.args.region (λ same. c.if-nodes-count.true (same ∙ is_region-length c.args.space.now c.args.region c.requires ∙ sym c.dims-count.ensures.count))

pub node-requires : goal.node-requires
node-requires c = omega (arith, c.loop-d-test.true, c.dims-count.ensures.count, is_region-length c.args.space.now c.args.region c.requires)

pub returns-then-nodes-d : goal.returns-then-nodes-d
returns-then-nodes-d c =
    let d = c.loop-d.d in
    let sizes = is_region-length c.args.space.now c.args.region c.requires in
    let other : (get_or c.args.nodes.now d 0 == c.node.result) ≡ false = grind (arith, nat_tests, c.if-nodes-d.true) in
    unlike-here (λ (m n : ℕ). m == n) c.args.nodes.now c.args.region d 0 (get_or c.args.nodes.now d 0) 0 c.node.result (omega (arith, c.loop-d-test.true, c.if-nodes-count.false)) (omega (arith, c.loop-d-test.true, c.dims-count.ensures.count, sizes)) refl
    (get_or_from_slice_get c.args.region d c.node.result 0 c.node.ensures) c.loop-d.invariant other

pub loop-d-preserved : goal.loop-d-preserved
loop-d-preserved c =
    let d = c.loop-d.d in
    let sizes = is_region-length c.args.space.now c.args.region c.requires in
    let same : (get_or c.args.nodes.now d 0 == c.node.result) ≡ true = grind (arith, nat_tests, c.if-nodes-d.false) in
    alike-next (λ (m n : ℕ). m == n) c.args.nodes.now c.args.region d 0 (get_or c.args.nodes.now d 0) 0 c.node.result (omega (arith, c.loop-d-test.true, c.if-nodes-count.false)) (omega (arith, c.loop-d-test.true, c.dims-count.ensures.count, sizes)) refl
    (get_or_from_slice_get c.args.region d c.node.result 0 c.node.ensures) c.loop-d.invariant same

pub returns : goal.returns
returns c =
    let d = c.loop-d.d in
    let sizes = is_region-length c.args.space.now c.args.region c.requires in
    alike-all (λ (m n : ℕ). m == n) c.args.nodes.now c.args.region d (omega (arith, c.loop-d-test.false, c.loop-d.auto.d-end, c.if-nodes-count.false))
    (omega (arith, c.loop-d-test.false, c.loop-d.auto.d-end, c.dims-count.ensures.count, sizes)) c.loop-d.invariant
