-- Each refreshed fact has its rows.
use Rattle.std.proofs.Common.{ap}
use Rattle.std.specs.Option.{option_copied}
use Rattle.edit_plan.proofs.GroupsNow.{by-code}
use Rattle.edit_plan.proofs.RowsKept.{rows-next, rows-seen, spread-there}
use Rattle.edit_plan.proofs.storing.kept_rows.Goals as goal

pub spread_now-requires : goal.spread_now-requires
spread_now-requires g c = by-code _ _ _ _ _ c.args.regrouped.now c.requires.regrouped

pub unreachable-requires : goal.unreachable-requires
unreachable-requires g c =
    spread-there g.P.WeightPolicy.weigh c.args.state.now c.facts.ensures.valid c.args.moves.now c.requires.moves c.args.regrouped.now c.requires.regrouped c.facts.ensures.trees c.args.pairs.now c.requires.refreshed
    c.loop-id.id-index _ c.loop-id-test.true _ c.spread_now.ensures (ap option_copied c.in_default.is)

pub loop-id-preserved : goal.loop-id-preserved
loop-id-preserved g c =
    rows-next g.P.WeightPolicy.weigh c.args.state.now c.facts.ensures.valid c.args.moves.now c.requires.moves c.args.regrouped.now c.requires.regrouped c.facts.ensures.trees c.args.pairs.now c.requires.refreshed
    c.loop-id.id-index _ c.loop-id-test.true _ c.spread_now.ensures c.in-Some.spread.now c.den.result c.in_ok-shared_rows.field-0 c.loop-id.rows c.push.new.self (ap option_copied c.in-Some.is) c.den.ensures.den c.in_ok-shared_rows.ensures.rows c.loop-id.invariant c.in_ok-push.ensures.ok

pub returns : goal.returns
returns g c =
    rows-seen g.P.WeightPolicy.weigh c.args.state.now c.facts.ensures.valid c.args.moves.now c.requires.moves c.args.regrouped.now c.requires.regrouped c.facts.ensures.trees c.args.pairs.now c.requires.refreshed
    c.loop-id.rows c.loop-id.id-index c.loop-id-test.false c.loop-id.invariant
