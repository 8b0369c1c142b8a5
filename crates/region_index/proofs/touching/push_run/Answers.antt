-- A place more of the run.
use Rattle.std.proofs.Common.{◌++◌, ap, ◌∙◌, arith}
use Rattle.std.specs.List.{range_with_len}
use Rattle.region_index.proofs.NodesInLine.{run-next}
use Rattle.region_index.proofs.touching.push_run.Goals as goal

pub loop-place-preserved : goal.loop-place-preserved
loop-place-preserved c = record {
  from = omega (arith, c.loop-place.invariant.from);
  run = run-next c.args.first c.loop-place.place c.args.places.now.items c.loop-place.places.items c.push.new.self.items c.loop-place.invariant.from c.loop-place.invariant.run c.in_ok-push.ensures.items;
}

pub returns : goal.returns
returns c =
    c.loop-place.invariant.run
    ∙ ap (λ n. c.args.places.now.items ++ range_with_len c.args.first n) (omega (arith, c.loop-place-test.false, c.loop-place.invariant.from, c.requires, c.loop-place.auto.place))
