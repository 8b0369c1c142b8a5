-- The id goes where no fact is found.
use Rattle.std.proofs.Common.{sym, ◌∙◌}
use Rattle.std.proofs.lemmas.Result.{on_ok_weaker}
use Rattle.store_audit.proofs.Walking.{is-gone, not-gone}
use Rattle.store_audit.proofs.mending.put_gone.Goals as goal

pub returns-then-is_some : goal.returns-then-is_some
returns-then-is_some g c = not-gone c.args.state.now.facts c.args.rows.now c.fact.result c.fact.ensures c.args.gone.now (sym c.is_some.ensures ∙ c.if-is_some.true)

pub returns : goal.returns
returns g c = on_ok_weaker c.push.result (is-gone c.args.state.now.facts c.args.rows.now c.fact.result c.fact.ensures c.args.gone.now c.push.new.self (sym c.is_some.ensures ∙ c.if-is_some.false)) c.push.ensures.ok
