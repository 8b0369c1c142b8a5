use Rattle.std.proofs.Common.{◌-◌, List}
use Rattle.cube_base.specs.Outside.{SinkTold}
use Rattle.cube_core.specs.Cube.{cube_rows}
use Rattle.cube_model.specs.Allocation.{ExtendedFact}
use Rattle.csv_facts.specs.ExtendedRow.{extended_text, text_before}
use Rattle.schema_text.specs.Schema.{weigh_of}
use Rattle.cube_cli.specs.Rows.{IsRowsOf, OnItsWay, since}
use Rattle.cube_cli.proofs.row_file.gather_fact.Given as goal

-- the rows before this one were made
abbrev pub invariant-loop-from : goal.invariant-loop-from
invariant-loop-from g l = (start : SinkTold) (before : List ExtendedFact) (whole : ExtendedFact) → IsRowsOf (cube_rows weigh_of l.cube) l.fact whole
    → OnItsWay (extended_text l.cube.schema before) l.initial.text.items (since start (g.K.Sink.tells l.initial.out)) →
    OnItsWay (text_before l.cube.schema before whole l.from) l.text.items (since start (g.K.Sink.tells l.out))

abbrev pub decreases-loop-from : goal.decreases-loop-from
decreases-loop-from g l = l.count - l.from
