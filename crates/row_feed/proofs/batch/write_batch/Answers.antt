-- The word, the number, what was said and the lines behind are the batch.
use Rattle.std.proofs.Common.{◌∙◌}
use Rattle.std.specs.Prelude.{codes}
use Rattle.row_feed.specs.FeedText.{behind_lines, said_fields}
use Rattle.row_feed.proofs.Appended.{batch-appended}
use Rattle.row_feed.proofs.batch.write_batch.Goals as goal

pub returns : goal.returns
returns c =
    let schema = c.args.schema.now in
    c.from.ensures
    ∙ batch-appended (codes "batch") c.args.number (said_fields schema c.args.line.now) (behind_lines schema.dims c.args.batch.now) c.new-text.result.items _ _ _ _ _ c.new-text.ensures.items c.in_ok-extend_from_slice.ensures.items
    c.in_ok-append_number.ensures.ok c.in_ok-append_said.ensures c.in_ok-push.ensures.items c.in_ok-append_behind.ensures
