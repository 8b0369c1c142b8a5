-- What the steps of reading a line of a feed result in.
use Rattle.std.specs.Prelude.{◌≡◌, Result, Ok, Err, IsOkAnd, ⊤}
use Rattle.cube_base.specs.declared.code.Code.{Code}
use Rattle.schema_text.specs.Schema.{SchemaValue}
use Rattle.script_text.specs.declared.line.Line.{Line}
use Rattle.script_text.specs.declared.line.LineFault.{LineFault}
use Rattle.script_text.specs.declared.line.LineFault.TheVariants as fault
use Rattle.row_feed.specs.declared.feed_line.FeedLine.{FeedLine}
use Rattle.row_feed.specs.FeedLine.{IsChangeOf, IsGrowthBatch}

-- what is read where this is said: the same, but that it may be out of memory for a batch whose line lets a dimension
-- grow
abbrev pub IsFeedRead : Result FeedLine Code → Result FeedLine LineFault → Type 0
IsFeedRead said (Ok read) = said ≡ Ok read
IsFeedRead said (Err (fault.Code refusal)) = said ≡ Err refusal
IsFeedRead said (Err fault.Memory) = IsOkAnd said IsGrowthBatch

-- what was read after the number of a batch changes the cube, or was refused
abbrev pub IsChangeRead : SchemaValue → Result Line Code → Type 0
IsChangeRead schema (Ok said) = IsChangeOf schema said
IsChangeRead schema (Err refusal) = ⊤
