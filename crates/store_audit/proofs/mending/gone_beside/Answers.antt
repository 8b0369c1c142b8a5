-- One entry more.
use Rattle.std.proofs.Common.{length, refl}
use Rattle.std.proofs.lemmas.Option.{slice_get_read}
use Rattle.store_audit.proofs.Walking.{gone-all, gone-next}
use Rattle.store_audit.proofs.mending.gone_beside.Goals as goal

pub loop-rows-preserved : goal.loop-rows-preserved
loop-rows-preserved g c =
    let kept = c.args.kept.now in
    let at = slice_get_read kept (length kept) c.loop-rows.rows-index c.rows-item.result refl c.loop-rows-test.true c.rows-item.is in
    gone-next c.args.state.now.facts kept c.loop-rows.rows-index c.rows-item.result _ _ at c.loop-rows.invariant c.in_ok-put_gone.ensures

pub returns : goal.returns
returns g c = gone-all c.args.state.now.facts c.args.kept.now c.loop-rows.rows-index _ c.loop-rows-test.false c.loop-rows.invariant
