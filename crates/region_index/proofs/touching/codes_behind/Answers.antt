-- The codes behind one place more are appended.
use Rattle.std.proofs.Common.{ap, ◌*◌, ◌∙◌}
use Rattle.std.proofs.lemmas.List.{take_all}
use Rattle.region_index.specs.Touching.{codes_behind_places}
use Rattle.region_index.proofs.NodesInLine.{behind-next}
use Rattle.region_index.proofs.touching.codes_behind.Goals as goal

pub loop-place-preserved : goal.loop-place-preserved
loop-place-preserved c =
    behind-next c.args.places.now c.loop-place.place-index 0 c.args.step _ c.args.codes.now _ _ c.loop-place-test.true (ap (λ n. n * c.args.step) c.from.ensures) c.loop-place.invariant c.in_ok-push_codes.ensures

pub returns : goal.returns
returns c =
    c.loop-place.invariant ∙ ap (λ places. codes_behind_places places c.args.step c.args.codes.now) (take_all c.loop-place.place-index c.args.places.now c.loop-place-test.false)
