use Rattle.std.proofs.Common.{Option, Some, Err, refl, sym, subst}
use Rattle.script_run.specs.Seen.{keeper_seen}
use Rattle.feed_run.specs.BeginTurn.{Begins}
use Rattle.feed_run.specs.Following.{Base}
use Rattle.feed_run.proofs.BaseBegins.{begin-stops, begun-over}
use Rattle.feed_run.proofs.begin.begin_with.Goals as goal

pub returns-in-Ok-clause-begins : goal.returns-in-Ok-clause-begins
returns-in-Ok-clause-begins g c = rw c.in-Some.is (begun-over c.args.number c.args.schema c.args.seq.now.facts _ (record { told = refl; keep = refl }) c.in-Some.base c.in-Ok.cube c.in-Ok.ensures)

pub returns-in-Err-clause-begins : goal.returns-in-Err-clause-begins
returns-in-Err-clause-begins g c =
    let keeper = keeper_seen g.Q.Keeper.tells c.args.keeper.now c.args.keeper.now in
    let told : Begins (Some c.in-Some.base) c.args.number c.args.schema c.args.seq.now.facts keeper (Err c.at.result) = rw c.at.ensures (begin-stops c.args.number c.args.schema c.args.seq.now.facts keeper (record { told = refl; keep = refl }) (Some c.in-Some.base) c.in-Err.stop c.in-Err.ensures) in
    subst (λ (b : Option Base). Begins b c.args.number c.args.schema c.args.seq.now.facts keeper (Err c.at.result)) (sym c.in-Some.is) told

pub returns-in_default-clause-begins : goal.returns-in_default-clause-begins
returns-in_default-clause-begins g c = rw c.in_default.is c.begin_new.ensures.begins
