use Rattle.std.proofs.Common.{[], refl, ◌∙◌}
use Rattle.std.proofs.lemmas.Result.{err_from_is_err_and}
use Rattle.feed_run.specs.Following.{AtStart, InSchema}
use Rattle.feed_run.proofs.PullsOn.{fewer-on, fewer-same}
use Rattle.feed_run.proofs.StepsAt.{step-start}
use Rattle.feed_run.proofs.Turns.{cuts-at, moves-to, stops-at, unpulled-at}
use Rattle.feed_run.proofs.follow_head.follow_version.Goals as goal

pub returns-in_err-next-clause-follows : goal.returns-in_err-next-clause-follows
returns-in_err-next-clause-follows g c = λ base start before.
    let exit = err_from_is_err_and c.from_residual.result c.from_residual.ensures.1 in
    rw (exit.1, exit.2) (unpulled-at base start (g.S.Source.tells c.next.new.source) c.next.new.self AtStart [] c.in_err-next.field-0.0 (c.in_err-next.ensures.pulls base start AtStart [] before))

pub returns-then-not-branch-clause-follows : goal.returns-then-not-branch-clause-follows
returns-then-not-branch-clause-follows g c = λ base start before.
    let pulled = rw c.if-not-branch.true at (c.in_ok-next.ensures.pulls base start AtStart [] before) in
    cuts-at base start (g.S.Source.tells c.next.new.source) c.next.new.self AtStart [] c.cut.result pulled (rw c.cut.ensures refl)

pub returns-in-Ok-clause-follows : goal.returns-in-Ok-clause-follows
returns-in-Ok-clause-follows g c = λ base start before.
    let pulled = rw c.if-not-branch.false at (c.in_ok-next.ensures.pulls base start AtStart [] before) in
    let told = rw (c.count.ensures, c.line.ensures) at c.in-Ok.ensures in
    moves-to base start (g.S.Source.tells c.next.new.source) c.next.new.self AtStart [] (InSchema []) pulled (step-start base c.next.new.self.count c.next.new.self.line ∙ told)

pub returns-in-Ok-clause-few : goal.returns-in-Ok-clause-few
returns-in-Ok-clause-few g c = fewer-on c.args.feed.now c.args.feed.now c.next.new.self c.in_ok-next.field-0 c.if-not-branch.false (fewer-same c.args.feed.now) c.in_ok-next.ensures.counted c.in_ok-next.ensures.fewer

pub returns-in-Err-clause-follows : goal.returns-in-Err-clause-follows
returns-in-Err-clause-follows g c = λ base start before.
    let pulled = rw c.if-not-branch.false at (c.in_ok-next.ensures.pulls base start AtStart [] before) in
    let told = rw (c.count.ensures, c.line.ensures) at c.in-Err.ensures in
    stops-at base start (g.S.Source.tells c.next.new.source) c.next.new.self AtStart [] c.in-Err.stop pulled (step-start base c.next.new.self.count c.next.new.self.line ∙ told)
