-- One cell more is weighed.
use Rattle.std.proofs.Common.{ap, ◌∙◌, refl, arith}
use Rattle.cube_model.specs.declared.statistic.CellStat.{CellStat}
use Rattle.alloc_rows.proofs.Weighed.{weighed-more, weighed-nothing}
use Rattle.alloc_rows.proofs.spread.weigh_cells.Goals as goal

pub loop-cell-preserved : goal.loop-cell-preserved
loop-cell-preserved g c =
    weighed-nothing _ _ _ _ _ _ _ _ _ _ c.loop-cell.invariant c.in-Some.ensures.steps (c.weight-weight.ensures ∙ ap (g.P.WeightPolicy.weigh c.args.policy.now) c.stat.ensures.stat) c.if-weight-gt0.false

pub loop-cell-preserved-in-Continue-1 : goal.loop-cell-preserved-in-Continue-1
loop-cell-preserved-in-Continue-1 g c =
    weighed-more _ _ _ _ _ _ _ _ _ _ c.loop-cell.invariant c.in-Some.ensures.steps (c.weight-weight.ensures ∙ ap (g.P.WeightPolicy.weigh c.args.policy.now) c.stat.ensures.stat) _ _ c.if-weight-gt0.true
    (omega (arith, c.weight-weight.ensures, g.met.P.WeightPolicy.bound c.args.policy.now c.stat.result c.stat.ensures.possible, ap (λ (s : CellStat). s.count) c.stat.ensures.stat))
    refl c.in_ok-push.ensures.items
