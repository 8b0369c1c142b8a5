use Rattle.std.proofs.Common.{[], sym, ◌∙◌}
use Rattle.std.proofs.lemmas.Result.{err_from_is_err_and}
use Rattle.feed_run.specs.Following.{InSchema}
use Rattle.feed_run.proofs.HeadSteps.{lines-cut, lines-end, lines-more, lines-none}
use Rattle.feed_run.proofs.PullsOn.{few-on, fewer-on, fewer-same}
use Rattle.feed_run.proofs.Turns.{lacks-before, unpulled-at}
use Rattle.feed_run.proofs.follow_head.follow_schema.Goals as goal

pub lines-init : goal.lines-init
lines-init g c = record {
  followed = λ base start before. rw c.new-text.ensures.items (lines-none base start (g.S.Source.tells c.args.source.now) c.args.feed.now before);
  few = c.requires.few;
  fewer = fewer-same c.args.feed.now;
}

pub returns-in_err-next-clause-follows : goal.returns-in_err-next-clause-follows
returns-in_err-next-clause-follows g c = λ base start before.
    let exit = err_from_is_err_and c.from_residual.result c.from_residual.ensures.1 in
    let lines = c.lines.invariant.followed base start before in
    rw (exit.1, exit.2) (unpulled-at base start (g.S.Source.tells c.next.new.source) c.next.new.self (InSchema lines.before) [] c.in_err-next.field-0.0 (c.in_err-next.ensures.pulls base start (InSchema lines.before) [] lines.followed))

pub returns-in_err-push_line-clause-follows : goal.returns-in_err-push_line-clause-follows
returns-in_err-push_line-clause-follows g c = λ base start before.
    let exit = err_from_is_err_and c.from_residual-in_err-push_line.result c.from_residual-in_err-push_line.ensures.1 in
    let lines = c.lines.invariant.followed base start before in
    let pulled = rw c.if-branch.true at (c.in_ok-next.ensures.pulls base start (InSchema lines.before) [] lines.followed) in
    rw (exit.1, exit.2) (lacks-before base start (g.S.Source.tells c.next.new.source) c.next.new.self (InSchema lines.before) [] pulled)

pub returns-then-is_end-clause-follows : goal.returns-then-is_end-clause-follows
returns-then-is_end-clause-follows g c = λ base start before.
    let lines = c.lines.invariant.followed base start before in
    let pulled = rw c.if-branch.true at (c.in_ok-next.ensures.pulls base start (InSchema lines.before) [] lines.followed) in
    let text = rw (c.line.ensures, lines.text_is) at c.in_ok-push_line.ensures in
    let ends = rw (c.line-in-lines.ensures) at (sym c.is_end.ensures ∙ c.if-is_end.true) in
    lines-end base start (g.S.Source.tells c.next.new.source) c.next.new.self lines.before c.push_line.new.text.items text pulled c.judge_schema.result ends (rw c.deref.ensures.value at c.judge_schema.ensures)

pub lines-preserved : goal.lines-preserved
lines-preserved g c =
    let fewer = fewer-on c.args.feed.now c.lines.feed c.next.new.self c.in_ok-next.field-0 c.if-branch.true c.lines.invariant.fewer c.in_ok-next.ensures.counted c.in_ok-next.ensures.fewer in
    record {
      followed = λ base start before.
          let lines = c.lines.invariant.followed base start before in
          let pulled = rw c.if-branch.true at (c.in_ok-next.ensures.pulls base start (InSchema lines.before) [] lines.followed) in
          let text = rw (c.line.ensures, lines.text_is) at c.in_ok-push_line.ensures in
          let goes_on = rw (c.line-in-lines.ensures) at (sym c.is_end.ensures ∙ c.if-is_end.false) in
          lines-more base start (g.S.Source.tells c.next.new.source) c.next.new.self lines.before c.push_line.new.text.items text pulled goes_on;
      few = few-on c.args.feed.now c.next.new.self c.requires.few fewer;
      fewer = fewer;
    }

pub returns-clause-follows : goal.returns-clause-follows
returns-clause-follows g c = λ base start before.
    let lines = c.lines.invariant.followed base start before in
    let whole = rw c.if-branch.false at (c.in_ok-next.ensures.pulls base start (InSchema lines.before) [] lines.followed) in
    lines-cut base start (g.S.Source.tells c.next.new.source) c.next.new.self lines.before c.lines.text.items c.cut_schema.result lines.text_is whole (rw c.deref-2.ensures.value at c.cut_schema.ensures)
