use Rattle.std.proofs.Common.{Ok, ap, ◌∙◌}
use Rattle.std.proofs.lemmas.Result.{err_from_is_err_and}
use Rattle.row_feed.specs.FeedLine.{feed_line_of}
use Rattle.feed_run.specs.Following.{base_line_judged, in_base}
use Rattle.feed_run.proofs.FactSteps.{judges-same}
use Rattle.feed_run.proofs.follow_base.judge_base_line.Goals as goal

pub returns-in_err-judge_place : goal.returns-in_err-judge_place
returns-in_err-judge_place c =
    let exit = err_from_is_err_and c.from_residual.result c.from_residual.ensures.1 in
    rw (exit.1, exit.2) (λ base. rw c.is_base_line.ensures at (c.in_err-judge_place.ensures (base_line_judged base c.args.number c.args.schema.now c.args.facts.now (feed_line_of c.args.schema.now c.args.line.now))))

pub returns-in-Ok : goal.returns-in-Ok
returns-in-Ok c =
    judges-same (λ base. in_base base c.args.number c.args.schema.now c.args.facts.now c.args.line.now) (λ base. base_line_judged base c.args.number c.args.schema.now c.args.facts.now (Ok c.in-Ok.told)) c.args.schema.now c.args.facts.now c.args.number c.judge_told.result
    (λ base. (rw c.is_base_line.ensures at (c.in_ok-judge_place.ensures (base_line_judged base c.args.number c.args.schema.now c.args.facts.now (feed_line_of c.args.schema.now c.args.line.now))))
    ∙ ap (base_line_judged base c.args.number c.args.schema.now c.args.facts.now) c.in-Ok.ensures.line)
    c.judge_told.ensures

pub returns-in-Err-Code : goal.returns-in-Err-Code
returns-in-Err-Code c =
    rw c.refuse_line.ensures (λ base.
    (rw c.is_base_line.ensures at (c.in_ok-judge_place.ensures (base_line_judged base c.args.number c.args.schema.now c.args.facts.now (feed_line_of c.args.schema.now c.args.line.now))))
    ∙ ap (base_line_judged base c.args.number c.args.schema.now c.args.facts.now) (rw c.in-Err-Code.field-0-is at c.in-Err-Code.ensures.refused))
