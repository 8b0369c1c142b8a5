-- The first condition that holds decides over the line.
use Rattle.std.proofs.Common.{◌∙◌, subst, sym}
use Rattle.row_feed.specs.ReadSteps.{IsFeedRead}
use Rattle.row_feed.proofs.FeedLines.{feed_line_of-clean, feed_line_of-long, feed_line_of-not_clean}
use Rattle.row_feed.proofs.reader.read_over.Goals as goal

pub returns-then-is_long-clause-line : goal.returns-then-is_long-clause-line
returns-then-is_long-clause-line c = feed_line_of-long c.args.schema.now c.args.line.now (sym c.is_long.ensures ∙ c.if-is_long.true)

pub returns-in-Some-clause-line : goal.returns-in-Some-clause-line
returns-in-Some-clause-line c =
    subst (λ said. IsFeedRead said c.read_text.result)
    (feed_line_of-clean c.args.schema.now c.args.line.now c.in-Some.text.now (sym c.is_long.ensures ∙ c.if-is_long.false) c.in-Some.ensures.clean c.in-Some.ensures.text) c.read_text.ensures.line

pub returns-in-None-clause-line : goal.returns-in-None-clause-line
returns-in-None-clause-line c = feed_line_of-not_clean c.args.schema.now c.args.line.now (sym c.is_long.ensures ∙ c.if-is_long.false) c.in-None.ensures.clean
