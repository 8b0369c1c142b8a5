-- The runs of a leader and of a follower.
use Rattle.std.specs.Prelude.{◌≡◌, ℕ, ◌<◌, ◌^◌, List, [], ◌∷◌, Some, length}
use Rattle.std.specs.Io.KnownBytes.{Appends}
use Rattle.fact_keeper.specs.declared.content.Stored.{Stored}
use Rattle.schema_text.specs.Schema.{SchemaValue}
use Rattle.script_run.specs.Seen.{SeenAll}
use Rattle.cube_cli.specs.declared.command.Command.{Command}
use Rattle.cube_cli.specs.declared.command.Command.TheVariants as command
use Rattle.cube_cli.specs.declared.command.StoreCommand.TheVariants as store_command
use Rattle.cube_cli.specs.declared.store.InputTask.TheVariants as task
use Rattle.cube_cli.specs.declared.end.End.{End}
use Rattle.cube_cli.specs.declared.end.End.TheVariants as ends
use Rattle.cube_cli.specs.End.{IsDone}
use Rattle.cube_cli.specs.Kinds.{EndKind, Finished, KeepFault, Memory, ReadFault, TooLong, WriteFault, IsAmong}
use Rattle.store_law.specs.Holds.{content_after}
use Rattle.feed_law.specs.Feeds.{Tells, feed_of}

-- what `lead` and `follow` do
abbrev pub LEADS : Command
LEADS = command.Store (store_command.Input task.Lead)

abbrev pub FOLLOWS : Command
FOLLOWS = command.Store store_command.Follow

-- A leader did all lines over a content of a schema: it wrote their feed, and its store has their batches.
pub record HasLed (schema : SchemaValue) (content : Stored) (lines : List (List ℕ)) (seen : SeenAll) : Type 0 where
  pub tells : Tells schema content
  pub few : length lines < 2 ^ 64
  pub wrote : Appends seen.sink.taken seen.sink.taken_after (feed_of schema content lines (length lines))
  pub kept : seen.keeper.told_after.content ≡ Some (content_after content lines)

-- the ends at which a follower has refused nothing of its feed
abbrev pub ACCEPTING : List EndKind
ACCEPTING = Finished ∷ ReadFault ∷ TooLong ∷ WriteFault ∷ KeepFault ∷ Memory ∷ []

-- A follower has refused nothing of its feed. Where a run is done to its end, it is finished or ran out of memory; and once it is finished,
-- no line is refused and its store holds this.
pub record HasFollowed (store : Stored) (seen : SeenAll) (end : End) : Type 0 where
  pub accepts : IsAmong ACCEPTING end
  pub done : IsDone end → IsAmong (Finished ∷ Memory ∷ []) end
  pub reaches : (refused : ℕ) → end ≡ ends.Finished refused → (refused ≡ 0) × (seen.keeper.told_after.content ≡ Some store)
