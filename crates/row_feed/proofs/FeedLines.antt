-- What a line of a feed says, by the first of its conditions that holds.
use Rattle.std.proofs.Common.{◌≡◌, ℕ, true, false, List, refl, Result, Ok, Err}
use Rattle.std.specs.Prelude.{IsErrAnd, IsOkAnd}
use Rattle.cube_base.specs.declared.code.Code.{Code}
use Rattle.cube_base.specs.declared.code.Code.TheVariants as code
use Rattle.text_lines.specs.LineText.{is_clean, is_long}
use Rattle.text_lines.specs.Text.{fields_of}
use Rattle.schema_text.specs.Schema.{SchemaValue}
use Rattle.script_text.specs.declared.line.Line.{Line}
use Rattle.script_text.specs.declared.line.LineFault.{LineFault}
use Rattle.script_text.specs.declared.line.LineFault.TheVariants as fault
use Rattle.script_text.specs.LineOf.{IsGrowth}
use Rattle.row_feed.specs.declared.feed_line.FeedLine.{FeedLine}
use Rattle.row_feed.specs.declared.feed_line.FeedLine.TheVariants.{Batch}
use Rattle.row_feed.specs.FeedLine.{IsGrowthBatch, feed_fields_given, feed_line_of}
use Rattle.row_feed.specs.ReadSteps.{IsFeedRead}

pub feed_line_of-long : (schema : SchemaValue) (bytes : List ℕ) → is_long bytes ≡ true → feed_line_of schema bytes ≡ Err code.Long
unfolding feed_line_of
feed_line_of-long schema bytes long = rw long refl

pub feed_line_of-not_clean : (schema : SchemaValue) (bytes : List ℕ) → is_long bytes ≡ false → false ≡ is_clean bytes → feed_line_of schema bytes ≡ Err code.Text
unfolding feed_line_of
feed_line_of-not_clean schema bytes short clean = rw (short, ← clean) refl

pub feed_line_of-clean : (schema : SchemaValue) (bytes text : List ℕ) → is_long bytes ≡ false → true ≡ is_clean bytes → text ≡ bytes → feed_fields_given schema (fields_of text) ≡ feed_line_of schema bytes
unfolding feed_line_of
feed_line_of-clean schema bytes text short clean same = rw (same, short, ← clean) refl

-- where memory is wanting for the name of a growth, it is for that of the batch
of_growth : (number : ℕ) (said : Result Line Code) → IsOkAnd said IsGrowth → IsGrowthBatch (Batch number said)
of_growth number (Ok line) growth = growth
of_growth number (Err refusal) growth = growth

pub read-growth : (number : ℕ) (said : Result Line Code) (given : Result FeedLine Code) (read : Result FeedLine LineFault) → given ≡ Ok (Batch number said) → IsOkAnd said IsGrowth → IsErrAnd read (λ why. why ≡ fault.Memory) → IsFeedRead given read
read-growth number said given (Ok line) same growth wanting = absurd wanting
read-growth number said given (Err why) same growth wanting = rw (wanting, same) (of_growth number said growth)
