use Rattle.std.proofs.Common.{◌≡◌, ◌∷◌, length, ap, subst, arith}
use Rattle.std.specs.Prelude.{codes}
use Rattle.std.specs.List.{flat_map}
use Rattle.std.proofs.lemmas.Result.{err_from_is_err_and}
use Rattle.row_feed.specs.FeedText.{rows_lines}
use Rattle.feed_run.specs.BatchTurn.{AreLeft}
use Rattle.feed_run.specs.Following.{Within}
use Rattle.feed_run.proofs.LineSteps.{left-all, left-cut, left-differs, left-lacks, left-matched, left-none, left-some, left-unpulled, line-is, line-other}
use Rattle.feed_run.proofs.PullsOn.{few-on, fewer-on, fewer-same}
use Rattle.feed_run.proofs.follow_batches.follow_lines.Goals as goal

pub lines-init : goal.lines-init
lines-init g c = record {
  followed = λ base start work batches number before.
      rw c.new-expected.ensures (left-all base start (g.S.Source.tells c.args.source.now) c.args.feed.now work c.args.batch.now batches (flat_map (rows_lines c.args.schema.now.dims) c.args.batch.now.rows) (codes "done") before);
  few = c.requires.few;
  fewer = fewer-same c.args.feed.now;
}

pub returns-in_err-next-clause-follows : goal.returns-in_err-next-clause-follows
returns-in_err-next-clause-follows g c = λ base start work batches number before.
    let exit = err_from_is_err_and c.from_residual.result c.from_residual.ensures.1 in
    rw (exit.1, exit.2) (left-lacks base start (g.S.Source.tells c.lines.source) c.lines.feed work c.args.batch.now batches c.lines.expected (c.lines.invariant.followed base start work batches number before))

pub returns-in_err-next-2-clause-follows : goal.returns-in_err-next-2-clause-follows
returns-in_err-next-2-clause-follows g c = λ base start work batches number before.
    let exit = err_from_is_err_and c.from_residual-in_err-next-2.result c.from_residual-in_err-next-2.ensures.1 in
    let work_at = c.lines.invariant.followed base start work batches number before in
    let line = c.next.new.line.items in
    let left = c.next.new.self in
    let expects : c.lines.expected ≡ line ∷ left = rw c.if-branch.true at c.in_ok-next.ensures.next in
    let was = g.S.Source.tells c.lines.source in
    let some = left-some base start was c.lines.feed work c.args.batch.now batches line left (subst (AreLeft base start was c.lines.feed work c.args.batch.now batches) expects work_at) in
    let now = g.S.Source.tells c.next-in-lines.new.source in
    let feed = c.next-in-lines.new.self in
    rw (exit.1, exit.2) (left-unpulled base start now feed work c.args.batch.now batches line left c.in_err-next-2.field-0.0 (c.in_err-next-2.ensures.pulls base start (Within work c.args.batch.now (line ∷ left)) batches some))

pub returns-then-not-branch-clause-follows : goal.returns-then-not-branch-clause-follows
returns-then-not-branch-clause-follows g c = λ base start work batches number before.
    let work_at = c.lines.invariant.followed base start work batches number before in
    let line = c.next.new.line.items in
    let left = c.next.new.self in
    let expects : c.lines.expected ≡ line ∷ left = rw c.if-branch.true at c.in_ok-next.ensures.next in
    let was = g.S.Source.tells c.lines.source in
    let some = left-some base start was c.lines.feed work c.args.batch.now batches line left (subst (AreLeft base start was c.lines.feed work c.args.batch.now batches) expects work_at) in
    let now = g.S.Source.tells c.next-in-lines.new.source in
    let feed = c.next-in-lines.new.self in
    let pulled = rw c.if-not-branch.true at (c.in_ok-next-2.ensures.pulls base start (Within work c.args.batch.now (line ∷ left)) batches some) in
    rw c.cut.ensures (left-cut base start now feed work c.args.batch.now batches line left pulled)

pub returns-then-ne-clause-follows : goal.returns-then-ne-clause-follows
returns-then-ne-clause-follows g c = λ base start work batches number before.
    let work_at = c.lines.invariant.followed base start work batches number before in
    let line = c.next.new.line.items in
    let left = c.next.new.self in
    let expects : c.lines.expected ≡ line ∷ left = rw c.if-branch.true at c.in_ok-next.ensures.next in
    let was = g.S.Source.tells c.lines.source in
    let some = left-some base start was c.lines.feed work c.args.batch.now batches line left (subst (AreLeft base start was c.lines.feed work c.args.batch.now batches) expects work_at) in
    let now = g.S.Source.tells c.next-in-lines.new.source in
    let feed = c.next-in-lines.new.self in
    let pulled = rw c.if-not-branch.false at (c.in_ok-next-2.ensures.pulls base start (Within work c.args.batch.now (line ∷ left)) batches some) in
    let other = line-other line feed.line (rw (c.as_slice.ensures.value, c.line.ensures) at c.if-ne.ensures) in
    rw (c.differs.ensures work number, c.count.ensures, c.line-then-ne.ensures) (left-differs base start now feed work c.args.batch.now batches line left other pulled)

pub lines-smaller : goal.lines-smaller
lines-smaller g c =
    let expects : c.lines.expected ≡ c.next.new.line.items ∷ c.next.new.self = rw c.if-branch.true at c.in_ok-next.ensures.next in
    omega (arith, ap length expects)

pub lines-preserved : goal.lines-preserved
lines-preserved g c =
    let fewer = fewer-on c.args.feed.now c.lines.feed c.next-in-lines.new.self c.in_ok-next-2.field-0 c.if-not-branch.false c.lines.invariant.fewer c.in_ok-next-2.ensures.counted c.in_ok-next-2.ensures.fewer in
    record {
      followed = λ base start work batches number before.
          let work_at = c.lines.invariant.followed base start work batches number before in
          let line = c.next.new.line.items in
          let left = c.next.new.self in
          let expects : c.lines.expected ≡ line ∷ left = rw c.if-branch.true at c.in_ok-next.ensures.next in
          let was = g.S.Source.tells c.lines.source in
          let some = left-some base start was c.lines.feed work c.args.batch.now batches line left (subst (AreLeft base start was c.lines.feed work c.args.batch.now batches) expects work_at) in
          let now = g.S.Source.tells c.next-in-lines.new.source in
          let feed = c.next-in-lines.new.self in
          let pulled = rw c.if-not-branch.false at (c.in_ok-next-2.ensures.pulls base start (Within work c.args.batch.now (line ∷ left)) batches some) in
          let same = line-is line feed.line (rw (c.as_slice.ensures.value, c.line.ensures) at c.if-ne.ensures) in
          left-matched base start now feed work c.args.batch.now batches line left same pulled;
      few = few-on c.args.feed.now c.next-in-lines.new.self c.requires.few fewer;
      fewer = fewer;
    }

pub returns-clause-follows : goal.returns-clause-follows
returns-clause-follows g c = λ base start work batches number before.
    let end = rw c.if-branch.false at c.in_ok-next.ensures.next in
    let was = g.S.Source.tells c.lines.source in
    left-none base start was c.lines.feed work c.args.batch.now batches (subst (AreLeft base start was c.lines.feed work c.args.batch.now batches) end.none (c.lines.invariant.followed base start work batches number before))
