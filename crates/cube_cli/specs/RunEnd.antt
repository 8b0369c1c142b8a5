-- The end of a run of the program by that of its script, by whether a text was written, or by why an input or its head is not taken, a
-- store not opened or a file not imported; and the ends of a run that has no words.
use Rattle.std.specs.Prelude.{◌≡◌, ℕ, Result, Ok, Err, ⊤}
use Rattle.cube_base.specs.declared.fault.SinkError.{SinkError}
use Rattle.cube_base.specs.declared.fault.SinkError.TheVariants as sink_error
use Rattle.cube_core.specs.declared.fault.ImportFault.{ImportFault}
use Rattle.cube_core.specs.declared.fault.ImportFault.TheVariants as import_fault
use Rattle.feed_run.specs.declared.feed_stop.FeedStop.{FeedStop}
use Rattle.feed_run.specs.declared.feed_stop.FeedStop.TheVariants as feed_stop
use Rattle.feed_run.specs.declared.follow.FollowStop.{FollowStop}
use Rattle.feed_run.specs.declared.follow.FollowStop.TheVariants as follow_stop
use Rattle.fact_keeper.specs.declared.keeper.KeepError.{KeepError}
use Rattle.fact_keeper.specs.declared.keeper.KeepError.TheVariants as keep_error
use Rattle.schema_text.specs.declared.schema.SchemaFault.{SchemaFault}
use Rattle.schema_text.specs.declared.schema.SchemaFault.TheVariants as schema_fault
use Rattle.script_run.specs.declared.break_off.BreakOff.{BreakOff}
use Rattle.script_run.specs.declared.break_off.BreakOff.TheVariants as break_off
use Rattle.script_run.specs.declared.streaming.StreamStop.{StreamStop}
use Rattle.script_run.specs.declared.streaming.StreamStop.TheVariants as stream_stop
use Rattle.cube_cli.specs.declared.end.End.{End}
use Rattle.cube_cli.specs.declared.schema_lines.HeadStop.{HeadStop}
use Rattle.cube_cli.specs.declared.schema_lines.HeadStop.TheVariants as head_stop
use Rattle.cube_cli.specs.declared.store.OpenStop.{OpenStop}
use Rattle.cube_cli.specs.declared.store.OpenStop.TheVariants as open_stop
use Rattle.text_lines.specs.declared.input.InputStop.{InputStop}
use Rattle.text_lines.specs.declared.input.InputStop.TheVariants as input_stop
use Rattle.store_audit.specs.declared.finding.Finding.TheVariants as finding
use Rattle.store_audit.specs.declared.finding.LoadFault.{LoadFault}
use Rattle.store_audit.specs.declared.finding.LoadFault.TheVariants as load_fault
use Rattle.cube_cli.specs.declared.end.End.TheVariants.{BadFeed, BadRecord, BadStore, Base, Differs, Finished, ImportRows, Order, ReadFault, TooLong, WriteFault, KeepFault, Memory, NoCube, Schema, Usage}

-- the end where a script broke off
abbrev pub end_of_break_off : BreakOff → End
end_of_break_off (break_off.Write line) = WriteFault line
end_of_break_off (break_off.SinkMemory line) = Memory line
end_of_break_off (break_off.Memory done) = Memory done
end_of_break_off (break_off.Keep done) = KeepFault done

-- the end of a line that was done alone, which was refused or not, or broke off
abbrev pub end_of_line : Result ℕ BreakOff → End
end_of_line (Ok refused) = Finished refused
end_of_line (Err off) = end_of_break_off off

-- the end of a script's run, which refused so many lines or stopped
abbrev pub end_of_run : Result ℕ StreamStop → End
end_of_run (Ok refused) = Finished refused
end_of_run (Err (stream_stop.Broke off)) = end_of_break_off off
end_of_run (Err (stream_stop.Read done)) = ReadFault done
end_of_run (Err (stream_stop.TooLong done)) = TooLong done

-- the end where a feed is not followed further
abbrev pub end_of_feed : FeedStop → End
end_of_feed (feed_stop.Bad line why) = BadFeed line why
end_of_feed (feed_stop.Order want got) = Order want got
end_of_feed (feed_stop.Base place) = Base place
end_of_feed (feed_stop.Differs number line) = Differs number line

-- the end of a follower's run
abbrev pub end_of_follow : {T : Type 0} → Result T FollowStop → End
end_of_follow (Ok _) = Finished 0
end_of_follow (Err (follow_stop.Feed stop)) = end_of_feed stop
end_of_follow (Err (follow_stop.Stream stop)) = end_of_run (Err stop)

-- the end where an input is not taken
abbrev pub end_of_stop : InputStop → End
end_of_stop input_stop.Fault = ReadFault 0
end_of_stop input_stop.TooLong = TooLong 0
end_of_stop input_stop.Memory = Memory 0

-- the end where it is not a schema alone
abbrev pub end_of_schema : SchemaFault → End
end_of_schema (schema_fault.Bad line why) = Schema line why
end_of_schema schema_fault.Memory = Memory 0

-- the end where its head is not taken
abbrev pub end_of_head : HeadStop → End
end_of_head (head_stop.Input stop) = end_of_stop stop
end_of_head (head_stop.Bad line why) = Schema line why

-- the end where a text was written or not, of a command that refused so many lines and committed so many batches
abbrev pub end_of_write : {T : Type 0} → Result T SinkError → ℕ → ℕ → End
end_of_write (Ok _) refused commits = Finished refused
end_of_write (Err sink_error.Failed) refused commits = WriteFault commits
end_of_write (Err sink_error.Memory) refused commits = Memory commits

-- the end where a keeper gave or kept nothing
abbrev pub end_of_keep : KeepError → End
end_of_keep keep_error.Failed = KeepFault 0
end_of_keep keep_error.Memory = Memory 0

-- why a content is not loaded whose text is not read as a schema alone
abbrev pub load_fault_of : SchemaFault → LoadFault
load_fault_of (schema_fault.Bad line why) = load_fault.Bad (finding.Schema line why)
load_fault_of schema_fault.Memory = load_fault.Memory

-- the end where a content is not loaded
abbrev pub end_of_load : LoadFault → End
end_of_load (load_fault.Bad found) = BadStore found
end_of_load load_fault.Memory = Memory 0

-- the end where a store is not opened
abbrev pub end_of_open : OpenStop → End
end_of_open open_stop.NoCube = NoCube
end_of_open open_stop.Fault = KeepFault 0
end_of_open (open_stop.Load fault) = end_of_load fault

-- the end where a file is not imported
abbrev pub end_of_import : ImportFault → End
end_of_import (import_fault.BadRecord bad) = BadRecord bad
end_of_import (import_fault.Rows would) = ImportRows would
end_of_import import_fault.KeepFault = KeepFault 0
end_of_import import_fault.Memory = Memory 0

-- an end of a run for which the words of the command line were not to be had
abbrev pub EndsWithoutWords : End → Type 0
EndsWithoutWords Usage = ⊤
EndsWithoutWords (Memory done) = done ≡ 0
EndsWithoutWords end = ⊥
