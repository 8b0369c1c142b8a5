-- What is judged of the lines of a schema.
use Rattle.std.specs.Prelude.{◌≡◌, ℕ, ◌+◌, ◌-◌, ◌<◌, ◌^◌, List, [], ⊤, Option, Result, Ok, Err}
use Rattle.cube_base.specs.Outside.{SourceTold}
use Rattle.text_lines.specs.declared.input.InputStop.TheVariants.{Memory}
use Rattle.schema_text.specs.Schema.{SchemaValue}
use Rattle.schema_text.specs.SchemaText.{BadLine, ReadSchema}
use Rattle.schema_text.specs.declared.schema.SchemaFault.{SchemaFault}
use Rattle.schema_text.specs.declared.schema.SchemaFault.TheVariants as schema_fault
use Rattle.feed_run.specs.declared.feed_stop.FeedStop.{FeedStop}
use Rattle.feed_run.specs.declared.feed_stop.FeedStop.TheVariants.{Bad}
use Rattle.feed_run.specs.declared.part_stop.PartStop.{PartStop}
use Rattle.feed_run.specs.declared.part_stop.PartStop.TheVariants.{Feed, Input}
use Rattle.row_feed.specs.FeedText.{feed_bytes}
use Rattle.feed_run.specs.Following.{Base, InBase, InSchema, moved_to, schema_judged}
use Rattle.feed_run.specs.FollowTurn.{FeedPull, FollowedTo}

-- A part stops for a reason of its own, or because it is out of memory.
abbrev pub StopsBy : (FeedStop → Type 0) → PartStop → Type 0
StopsBy Why (Feed stop) = Why stop
StopsBy Why (Input stop) = stop ≡ Memory

-- Why a part stops whose schema is refused, of which the first line is the second of the feed; such a line can be counted.
abbrev pub schema_stop : SchemaFault → PartStop
schema_stop (schema_fault.Bad line why) = Feed (Bad (line + 1) why)
schema_stop schema_fault.Memory = Input Memory

abbrev pub IsEarly : SchemaFault → Type 0
IsEarly (schema_fault.Bad line why) = line < 2 ^ 64 - 1
IsEarly schema_fault.Memory = ⊤

-- What the lines of a schema say that was read so.
abbrev pub JudgesSchema : Result ReadSchema BadLine → Result SchemaValue PartStop → Type 0
JudgesSchema read (Ok schema) = schema_judged read ≡ moved_to (InBase schema [])
JudgesSchema read (Err stop) = StopsBy (λ why. schema_judged read ≡ Err why) stop

-- Some lines of a schema were pulled, and gathered into a text.
pub record InLines (base : Option Base) (start now : SourceTold) (feed : FeedPull) (text : List ℕ) : Type 0 where
  pub before : List (List ℕ)
  pub text_is : text ≡ feed_bytes before
  pub followed : FollowedTo base start now feed (InSchema before) []
