use Rattle.std.proofs.Common.{ℕ, Err, subst}
use Rattle.std.proofs.lemmas.Result.{err_from_is_err_and}
use Rattle.feed_run.specs.FollowTurn.{all_told, keeper_between}
use Rattle.feed_run.specs.BeginTurn.{Begins, Begun}
use Rattle.feed_run.proofs.Beginning.{base-stops, begun-ends, begun-work, fresh-few, fresh-followed}
use Rattle.fact_keeper.proofs.Staying.{stays-trans}
use Rattle.feed_run.proofs.PullsOn.{few-on}
use Rattle.feed_run.proofs.follow.follow_feed.Goals as goal

pub follow_base-requires : goal.follow_base-requires
follow_base-requires g c = record { few = fresh-few c.args.feed.now c.requires.fresh c.requires.none }

pub returns-in-Err-clause-ends : goal.returns-in-Err-clause-ends
returns-in-Err-clause-ends g c =
    let base = c.args.base in
    let start = all_told g.S.Source.tells g.K.Sink.tells g.Q.Keeper.tells c.args.source.now c.args.out.now c.args.keeper.now in
    let source = g.S.Source.tells c.follow_base.new.source in
    let feed = c.follow_base.new.feed in
    let fresh = fresh-followed base start.source c.args.feed.now c.requires.fresh c.requires.none in
    rw c.at.ensures (base-stops base start source feed c.in-Err.stop (c.in-Err.ensures.follows base start.source fresh))

pub begin-requires-clause-facts : goal.begin-requires-clause-facts
begin-requires-clause-facts g c =
    let base = c.args.base in
    let start = all_told g.S.Source.tells g.K.Sink.tells g.Q.Keeper.tells c.args.source.now c.args.out.now c.args.keeper.now in
    let source = g.S.Source.tells c.follow_base.new.source in
    let feed = c.follow_base.new.feed in
    let fresh = fresh-followed base start.source c.args.feed.now c.requires.fresh c.requires.none in
    (c.in-Ok.ensures.follows base start.source fresh).valid

pub returns-in_err-cube-clause-ends : goal.returns-in_err-cube-clause-ends
returns-in_err-cube-clause-ends g c =
    let exit = err_from_is_err_and c.from_residual.result c.from_residual.ensures.1 in
    let base = c.args.base in
    let start = all_told g.S.Source.tells g.K.Sink.tells g.Q.Keeper.tells c.args.source.now c.args.out.now c.args.keeper.now in
    let source = g.S.Source.tells c.follow_base.new.source in
    let feed = c.follow_base.new.feed in
    let fresh = fresh-followed base start.source c.args.feed.now c.requires.fresh c.requires.none in
    let gives = c.in-Ok.ensures.follows base start.source fresh in
    let told = subst (λ (n : ℕ). Begins base n c.in-Ok.given.0 c.in-Ok.given.1 (keeper_between start.keeper (g.Q.Keeper.tells c.begin.new.keeper)) (Err c.in_err-cube.field-0.0)) c.count.ensures c.in_err-cube.ensures.begins in
    rw (exit.1, exit.2) (begun-ends base start source feed c.in-Ok.given.0 c.in-Ok.given.1 gives (g.Q.Keeper.tells c.begin.new.keeper) c.in_err-cube.field-0.0 told)

pub follow_batches-followed-requires-clause-few : goal.follow_batches-followed-requires-clause-few
follow_batches-followed-requires-clause-few g c = few-on c.args.feed.now c.follow_base.new.feed (fresh-few c.args.feed.now c.requires.fresh c.requires.none) c.in-Ok.ensures.few

pub returns-clause-ends : goal.returns-clause-ends
returns-clause-ends g c =
    let base = c.args.base in
    let start = all_told g.S.Source.tells g.K.Sink.tells g.Q.Keeper.tells c.args.source.now c.args.out.now c.args.keeper.now in
    let source = g.S.Source.tells c.follow_base.new.source in
    let feed = c.follow_base.new.feed in
    let fresh = fresh-followed base start.source c.args.feed.now c.requires.fresh c.requires.none in
    let gives = c.in-Ok.ensures.follows base start.source fresh in
    let told = subst (λ (n : ℕ). Begun base n c.in-Ok.given.0 c.in-Ok.given.1 (keeper_between start.keeper (g.Q.Keeper.tells c.begin.new.keeper)) c.in_ok-cube.cube) c.count.ensures c.in_ok-cube.ensures.begins in
    c.follow_batches-followed.ensures.ends base start (begun-work base start source feed c.in-Ok.given.0 c.in-Ok.given.1 gives (g.Q.Keeper.tells c.begin.new.keeper) c.in_ok-cube.cube told)

pub returns-clause-stays_open : goal.returns-clause-stays_open
returns-clause-stays_open g c = stays-trans _ _ _ c.begin.ensures.stays_open c.follow_batches-followed.ensures.stays_open
