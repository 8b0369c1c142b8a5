-- The group of the next place is put.
use Rattle.std.proofs.Common.{arith, sym}
use Rattle.fact_records.specs.Shape.{width_of_all}
use Rattle.fact_indexes.proofs.OneView.{code-below, cut-all, cut-next, cut-none, cut-same, fits-next}
use Rattle.fact_indexes.proofs.viewing.view_of.Goals as goal
use Rattle.fact_indexes.proofs.viewing.view_of.Goals.{in-Some+in_ok-put_group, in_default}

pub loop-i-init : goal.loop-i-init
loop-i-init g c = rw (c.new-view.ensures, c.from.ensures, c.in_ok-own.ensures.items) (cut-none c.args.space.now c.args.depths.now c.columns.result (width_of_all c.args.shape.now.measures) c.args.groups.now c.columns.ensures.columns c.requires.cuts)

pub put_group-requires-clause-cuts : goal.put_group-requires-clause-cuts
put_group-requires-clause-cuts g c = rw c.in_ok-cuts.ensures (sym c.loop-i.invariant.cuts_are)

pub put_group-requires-clause-view : goal.put_group-requires-clause-view
put_group-requires-clause-view g c = rw c.in_ok-cuts.ensures c.loop-i.invariant.over

pub put_group-requires-clause-code : goal.put_group-requires-clause-code
put_group-requires-clause-code g c =
    rw c.in_ok-cuts.ensures (code-below (g.P.WeightPolicy.weigh c.args.policy.now) (g.met.P.WeightPolicy.bound c.args.policy.now) c.args.shape.now c.args.space.now c.args.facts.now.facts c.columns.ensures.shape c.dims.ensures.trees c.requires.valid
    c.args.groups.now c.requires.groups c.count-i-end.ensures.distinct c.count-i-end.ensures.once c.loop-i.i c.in-Some.code c.in-Some.group.now (sym c.in-Some.ensures.entry) c.in-Some.ensures.next)

pub put_group-requires-clause-fits : goal.put_group-requires-clause-fits
put_group-requires-clause-fits g c =
    rw c.in_ok-cuts.ensures (fits-next (g.P.WeightPolicy.weigh c.args.policy.now) (g.met.P.WeightPolicy.bound c.args.policy.now) c.args.shape.now c.args.space.now c.args.facts.now.facts c.columns.ensures.shape c.dims.ensures.trees c.requires.valid
    c.args.groups.now c.requires.groups c.count-i-end.ensures.distinct c.count-i-end.ensures.once c.loop-i.i c.in-Some.code c.in-Some.group.now (sym c.in-Some.ensures.entry) c.in-Some.ensures.next c.loop-i.view c.args.depths.now c.loop-i.invariant)

pub loop-i-preserved : goal.loop-i-preserved
loop-i-preserved g c =
    elim c.match-at.branch [
      | in-Some+in_ok-put_group w ↦
          rw w.view-is (cut-next (g.P.WeightPolicy.weigh c.args.policy.now) (g.met.P.WeightPolicy.bound c.args.policy.now) c.args.shape.now c.args.space.now c.args.facts.now.facts c.columns.ensures.shape c.dims.ensures.trees c.requires.valid c.args.groups.now c.requires.groups c.count-i-end.ensures.distinct c.count-i-end.ensures.once c.loop-i.i w.in-Some.code w.in-Some.group.now (sym w.in-Some.ensures.entry) w.in-Some.ensures.next c.loop-i.view w.put_group.new.view c.args.depths.now c.loop-i.invariant (rw c.in_ok-cuts.ensures at w.in_ok-put_group.ensures))
      | in_default w ↦
          rw w.view-is (cut-same (g.P.WeightPolicy.weigh c.args.policy.now) (g.met.P.WeightPolicy.bound c.args.policy.now) c.args.shape.now c.args.space.now c.args.facts.now.facts c.columns.ensures.shape c.dims.ensures.trees c.requires.valid c.args.groups.now c.requires.groups c.count-i-end.ensures.distinct c.count-i-end.ensures.once c.loop-i.i c.loop-i.view c.args.depths.now w.in_default.ensures.next c.loop-i.invariant)
    ]

pub returns : goal.returns
returns g c =
    cut-all (g.P.WeightPolicy.weigh c.args.policy.now) (g.met.P.WeightPolicy.bound c.args.policy.now) c.args.shape.now c.args.space.now c.args.facts.now.facts c.columns.ensures.shape c.dims.ensures.trees c.requires.valid
    c.args.groups.now c.requires.groups c.count-i-end.ensures.distinct c.count-i-end.ensures.once c.loop-i.i (omega (arith, c.loop-i-test.false, c.count-i-end.ensures.count)) c.loop-i.view c.args.depths.now c.loop-i.invariant
