-- Each field says the depth of the next dimension.
use Rattle.std.proofs.Common.{◌≡◌, ◌<◌, ◌≤◌, arith, length, rules, subst, sym}
use Rattle.std.specs.Prelude.{All, take}
use Rattle.cube_model.specs.Limits.{MAX_DEPTH}
use Rattle.region_algebra.proofs.Spaces.{accepted-few}
use Rattle.script_text.proofs.DepthFields.{HasDepths-next, HasDepths-shallow}
use Rattle.script_text.proofs.question_reader.read_depths.Goals as goal

pub loop-d-preserved : goal.loop-d-preserved
loop-d-preserved c =
    let within : c.loop-d.d < length c.args.space.now = omega (arith, c.loop-d-test.true, c.dims-count.ensures.count) in
    HasDepths-next c.args.space.now c.args.fields.now c.loop-d.d c.loop-d.depths c.loop-d.fields c.loop-d.invariant c.next_field.result.now c.next_field.new.self c.next_field.ensures within
    c.in-Some.depth (accepted-few c.args.space.now c.dims-count.ensures.accepted).1 c.requires (sym c.in-Some.ensures)

pub returns-clause-shallow : goal.returns-clause-shallow
returns-clause-shallow c =
    let end : c.loop-d.d ≡ length c.args.space.now = omega (arith, c.loop-d-test.false, c.loop-d.auto.d-end, c.dims-count.ensures.count) in
    let is : c.unwrap.result ≡ take c.loop-d.d c.loop-d.depths = search rules in
    subst (All (λ depth. depth ≤ MAX_DEPTH)) (sym is) (HasDepths-shallow c.args.space.now c.args.fields.now c.loop-d.d c.loop-d.depths c.loop-d.fields c.loop-d.invariant end)
