-- The line is cut at two TABs, and its number is read.
use Rattle.std.proofs.Common.{◌∙◌, sym, ap, Ok}
use Rattle.row_feed.specs.declared.feed_line.FeedLine.TheVariants.{Batch}
use Rattle.row_feed.proofs.FeedLines.{read-growth}
use Rattle.row_feed.proofs.CutLines.{batch-no_number, batch-no_tab, batch-numbered, batch-one_tab, behind-clean}
use Rattle.row_feed.proofs.reader.read_batch.Goals as goal

pub returns-in_default-clause-line : goal.returns-in_default-clause-line
returns-in_default-clause-line c = batch-no_tab c.args.schema.now c.args.line.now c.in_default.ensures.none

pub returns-in_default-cut-clause-line : goal.returns-in_default-cut-clause-line
returns-in_default-cut-clause-line c =
    batch-one_tab c.args.schema.now c.args.line.now c.in-Some.field-0-0.now c.in-Some.behind.now c.in-Some.ensures.parts c.in-Some.ensures.first c.in_default-cut.ensures.none

pub returns-in_default-number_in-clause-line : goal.returns-in_default-number_in-clause-line
returns-in_default-number_in-clause-line c =
    batch-no_number c.args.schema.now c.args.line.now c.in-Some.field-0-0.now c.in-Some.behind.now c.in-Some-cut.number.now c.in-Some-cut.rest.now c.in-Some.ensures.parts c.in-Some.ensures.first c.in-Some-cut.ensures.parts c.in-Some-cut.ensures.first
    (sym c.in_default-number_in.ensures)

pub read_rest-requires-clause-clean : goal.read_rest-requires-clause-clean
read_rest-requires-clause-clean c =
    behind-clean c.in-Some.behind.now c.in-Some-cut.number.now c.in-Some-cut.rest.now c.in-Some-cut.ensures.parts
    (behind-clean c.args.line.now c.in-Some.field-0-0.now c.in-Some.behind.now c.in-Some.ensures.parts c.requires.clean)

pub returns-in_err-line-clause-line : goal.returns-in_err-line-clause-line
returns-in_err-line-clause-line c =
    let given = batch-numbered c.args.schema.now c.args.line.now c.in-Some.field-0-0.now c.in-Some.behind.now c.in-Some-cut.number.now c.in-Some-cut.rest.now c.in-Some.ensures.parts c.in-Some.ensures.first c.in-Some-cut.ensures.parts c.in-Some-cut.ensures.first
    c.in-Some-number_in.number (sym c.in-Some-number_in.ensures) in
    read-growth c.in-Some-number_in.number _ _ c.from_residual.result given c.in_err-line.ensures.memory c.from_residual.ensures.1

pub returns-clause-line : goal.returns-clause-line
returns-clause-line c =
    batch-numbered c.args.schema.now c.args.line.now c.in-Some.field-0-0.now c.in-Some.behind.now c.in-Some-cut.number.now c.in-Some-cut.rest.now c.in-Some.ensures.parts c.in-Some.ensures.first c.in-Some-cut.ensures.parts c.in-Some-cut.ensures.first
    c.in-Some-number_in.number (sym c.in-Some-number_in.ensures) ∙ ap (λ said. Ok (Batch c.in-Some-number_in.number said)) c.in_ok-line.ensures.line
