use Rattle.std.proofs.Common.{◌≡◌, Ok, refl, sym, subst}
use Rattle.std.proofs.lemmas.Result.{err_from_is_err_and}
use Rattle.row_feed.specs.FeedLine.{feed_line_of}
use Rattle.script_run.specs.Run.{schema_at}
use Rattle.feed_run.specs.declared.feed_stop.FeedStop.TheVariants.{Bad}
use Rattle.feed_run.specs.declared.part_stop.PartStop.TheVariants.{Feed}
use Rattle.feed_run.specs.BatchTurn.{TakesBatch}
use Rattle.feed_run.specs.Following.{batch_line_judged}
use Rattle.feed_run.proofs.BatchCubes.{line-refused, line-takes}
use Rattle.feed_run.proofs.follow_batches.take_batch.Goals as goal

pub returns-in_err-judge_place-clause-takes : goal.returns-in_err-judge_place-clause-takes
returns-in_err-judge_place-clause-takes c = λ work at applied.
    let exit = err_from_is_err_and c.from_residual.result c.from_residual.ensures.1 in
    rw (exit.1, exit.2) (rw c.is_batch_line.ensures at (c.in_err-judge_place.ensures (batch_line_judged c.args.number work (feed_line_of (schema_at work.schema work.state) c.args.line.now))))

pub take_told-requires-clause-within : goal.take_told-requires-clause-within
take_told-requires-clause-within c = rw c.schema.ensures at c.in-Ok.ensures.within

pub returns-in-Ok-clause-takes : goal.returns-in-Ok-clause-takes
returns-in-Ok-clause-takes c = λ work at applied.
    let may = rw c.is_batch_line.ensures at (c.in_ok-judge_place.ensures (batch_line_judged c.args.number work (feed_line_of (schema_at work.schema work.state) c.args.line.now))) in
    let takes = line-takes work c.args.cube.now at c.args.number c.args.line.now (Ok c.in-Ok.told) may (rw c.schema.ensures at c.in-Ok.ensures.line) in
    subst (λ next. TakesBatch work next c.take_told.new.cube c.take_told.result) (sym takes) (c.take_told.ensures.takes work at applied)

pub returns-in-Err-Code-clause-takes : goal.returns-in-Err-Code-clause-takes
returns-in-Err-Code-clause-takes c = λ work at applied.
    let may = rw c.is_batch_line.ensures at (c.in_ok-judge_place.ensures (batch_line_judged c.args.number work (feed_line_of (schema_at work.schema work.state) c.args.line.now))) in
    let refused = rw c.schema.ensures at c.in-Err-Code.ensures.refused in
    let stops : c.refuse_line.result ≡ Feed (Bad c.args.number c.in-Err-Code.code) = rw c.in-Err-Code.field-0-is at c.refuse_line.ensures in
    line-refused work c.args.cube.now at c.args.number c.args.line.now c.in-Err-Code.field-0 refused may c.in-Err-Code.code c.in-Err-Code.field-0-is c.refuse_line.result stops

pub returns-in-Err-Memory-clause-takes : goal.returns-in-Err-Memory-clause-takes
returns-in-Err-Memory-clause-takes c = λ work at applied. refl
