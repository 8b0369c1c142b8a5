use Rattle.std.proofs.Common.{◌+◌, refl, ap, ◌∙◌, subst}
use Rattle.row_feed.specs.FeedText.{behind_lines}
use Rattle.schema_text.specs.Schema.{SchemaValue}
use Rattle.feed_run.specs.Following.{Within}
use Rattle.feed_run.specs.FollowTurn.{FollowedTo, all_told}
use Rattle.feed_run.proofs.BatchSteps.{applied-all, applied-ends, lines-begin, lines-stop}
use Rattle.feed_run.proofs.follow_batches.finish_batch.Goals as goal

pub returns-in-Err-clause-follows : goal.returns-in-Err-clause-follows
returns-in-Err-clause-follows g c = λ base start before after at same taken.
    let was = all_told g.S.Source.tells g.K.Sink.tells g.Q.Keeper.tells c.args.source.now c.args.out.now c.args.keeper.now in
    let read = all_told g.S.Source.tells g.K.Sink.tells g.Q.Keeper.tells c.follow_lines.new.source c.args.out.now c.args.keeper.now in
    let feed = c.args.feed.now in
    let later = c.follow_lines.new.feed in
    let batch = c.args.batch.now in
    let number = ap (λ n. n + 1) (taken.count ∙ at.count) in
    let begun = subst (λ (s : SchemaValue). FollowedTo base start.source was.source feed (Within taken.later batch (behind_lines s.dims batch)) at.batches) same (lines-begin base start was feed before c.args.applied at batch after taken) in
    rw c.at.ensures (lines-stop base start was feed before c.args.applied at batch after taken read later c.in-Err.stop refl refl (c.in-Err.ensures.follows base start.source taken.later at.batches number begun))

pub returns-in-Ok-apply-clause-follows : goal.returns-in-Ok-apply-clause-follows
returns-in-Ok-apply-clause-follows g c = λ base start before after at same taken.
    let was = all_told g.S.Source.tells g.K.Sink.tells g.Q.Keeper.tells c.args.source.now c.args.out.now c.args.keeper.now in
    let read = all_told g.S.Source.tells g.K.Sink.tells g.Q.Keeper.tells c.follow_lines.new.source c.args.out.now c.args.keeper.now in
    let feed = c.args.feed.now in
    let later = c.follow_lines.new.feed in
    let batch = c.args.batch.now in
    let number = ap (λ n. n + 1) (taken.count ∙ at.count) in
    let begun = subst (λ (s : SchemaValue). FollowedTo base start.source was.source feed (Within taken.later batch (behind_lines s.dims batch)) at.batches) same (lines-begin base start was feed before c.args.applied at batch after taken) in
    let now = all_told g.S.Source.tells g.K.Sink.tells g.Q.Keeper.tells c.follow_lines.new.source c.apply.new.out c.apply.new.keeper in
    let last = c.in-Ok.ensures.follows base start.source taken.later at.batches number begun in
    applied-all base start was feed before c.args.applied at batch after taken read later refl refl last now refl c.in-Ok-apply.ensures.applies

pub returns-in-Err-apply-clause-follows : goal.returns-in-Err-apply-clause-follows
returns-in-Err-apply-clause-follows g c = λ base start before after at same taken.
    let was = all_told g.S.Source.tells g.K.Sink.tells g.Q.Keeper.tells c.args.source.now c.args.out.now c.args.keeper.now in
    let read = all_told g.S.Source.tells g.K.Sink.tells g.Q.Keeper.tells c.follow_lines.new.source c.args.out.now c.args.keeper.now in
    let feed = c.args.feed.now in
    let later = c.follow_lines.new.feed in
    let batch = c.args.batch.now in
    let number = ap (λ n. n + 1) (taken.count ∙ at.count) in
    let begun = subst (λ (s : SchemaValue). FollowedTo base start.source was.source feed (Within taken.later batch (behind_lines s.dims batch)) at.batches) same (lines-begin base start was feed before c.args.applied at batch after taken) in
    let now = all_told g.S.Source.tells g.K.Sink.tells g.Q.Keeper.tells c.follow_lines.new.source c.apply.new.out c.apply.new.keeper in
    let last = c.in-Ok.ensures.follows base start.source taken.later at.batches number begun in
    applied-ends base start was feed before c.args.applied at batch after taken read later refl refl last now c.in-Err-apply.off refl c.in-Err-apply.ensures.applies
