-- All ids are added, but for the one.
use Rattle.std.proofs.Common.{◌++◌, ◌∙◌, ap}
use Rattle.std.proofs.lemmas.List.{take_all}
use Rattle.edit_plan.specs.Refreshing.{others_with}
use Rattle.edit_plan.proofs.refreshing.add_others.Goals as goal

pub returns : goal.returns
returns c =
    c.loop-other.invariant ∙ ap (λ ids. c.args.pairs.now.items ++ others_with c.args.id c.args.code ids) (take_all c.loop-other.other-index c.args.ids.now c.loop-other-test.false)
