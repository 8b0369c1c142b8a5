use Rattle.std.proofs.Common.{◌≡◌, ◌++◌, length}
use Rattle.row_feed.specs.FeedText.{behind_lines, feed_bytes}
use Rattle.row_feed.proofs.batch.append_behind.Given as goal

-- the lines that are left would make the text whole
abbrev pub invariant-loop-text : goal.invariant-loop-text
invariant-loop-text l = l.text.items ++ feed_bytes l.lines ≡ l.fn.text.items ++ feed_bytes (behind_lines l.schema.dims l.batch)

-- a line less is left
abbrev pub decreases-loop-text : goal.decreases-loop-text
decreases-loop-text l = length l.lines
