-- What a write of a text says.
use Rattle.std.proofs.Common.{List, ℕ, inr, Result, Ok, Err}
use Rattle.std.specs.Prelude.{OnErr, OnOk}
use Rattle.std.specs.Io.KnownBytes.{Appends}
use Rattle.cube_base.specs.Outside.{CountsSinkFault, TakesPart}
use Rattle.cube_base.specs.declared.fault.SinkError.{SinkError}
use Rattle.cube_base.specs.declared.fault.SinkError.TheVariants as sink_error
use Rattle.script_run.specs.Seen.{SinkSeen}
use Rattle.cube_cli.specs.Steps.{WritesText}

pub wrote_line : {T : Type 0} (text : List ℕ) (sink : SinkSeen) (result : Result T SinkError) → OnOk result (Appends sink.taken sink.taken_after text) → OnErr result (TakesPart sink.taken sink.taken_after text)
    → CountsSinkFault sink.faults sink.faults_after result → WritesText text sink result
wrote_line text sink (Ok whole) ok err count = (count, ok)
wrote_line text sink (Err sink_error.Failed) ok err count = (count, err)
wrote_line text sink (Err sink_error.Memory) ok err count = (count, inr err)
