use Rattle.std.proofs.Common.{[]}
use Rattle.cube_base.specs.Outside.{SinkTold}
use Rattle.csv_facts.specs.ExtendedRow.{extended_text}
use Rattle.schema_text.specs.Schema.{schema_policy, weigh_of}
use Rattle.cube_cli.specs.Rows.{OnItsWay, since}
use Rattle.cube_cli.proofs.RowFile.{AreGathered, AreLeft}
use Rattle.cube_cli.proofs.row_file.gather_all.Given as goal

-- the rows of some facts were made, and those of the others are to be
abbrev pub invariant-loop-fact : goal.invariant-loop-fact
invariant-loop-fact g l = AreLeft (schema_policy (weigh_of l.cube.policy) l.cube.schema) l.cube.schema l.cube.facts l.fact-iterator
    × ((start : SinkTold) → OnItsWay (extended_text l.cube.schema []) l.initial.text.items (since start (g.K.Sink.tells l.initial.out)) →
    AreGathered (schema_policy (weigh_of l.cube.policy) l.cube.schema) l.cube.schema l.cube.facts l.fact-iterator l.text.items (since start (g.K.Sink.tells l.out)))
