-- A fact is new where none of its id is found.
use Rattle.std.proofs.Common.{◌∙◌, sym}
use Rattle.edit_plan.proofs.AllStored.{kept-more, passed-over}
use Rattle.edit_plan.proofs.whole.keep_new.Goals as goal

pub returns-then-is_some : goal.returns-then-is_some
returns-then-is_some g c = passed-over c.args.state.now c.args.fact.now _ c.fact.ensures _ (sym c.is_some.ensures ∙ c.if-is_some.true)

pub returns : goal.returns
returns g c = kept-more c.args.state.now c.args.fact.now _ c.fact.ensures _ _ _ (sym c.is_some.ensures ∙ c.if-is_some.false) c.in_ok-kept_fact.ensures c.in_ok-push.ensures.ok
