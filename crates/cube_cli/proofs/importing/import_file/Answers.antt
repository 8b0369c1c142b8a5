use Rattle.std.proofs.Common.{◌≡◌, ap, refl, ◌∙◌}
use Rattle.std.proofs.KnownBytes.{Keeps-refl}
use Rattle.fact_records.specs.declared.fact_seq.FactSeq.{FactSeq}
use Rattle.csv_facts.specs.FactFile.{facts_in}
use Rattle.csv_facts.specs.RecordList.{records_of}
use Rattle.script_run.specs.Seen.{SeenAll, Told, keeper_seen, sink_seen, told_of}
use Rattle.cube_cli.specs.Files.{seq_of}
use Rattle.cube_cli.proofs.Keepers.{same_told}
use Rattle.cube_cli.proofs.Putting.{import_kept, import_refused, import_wants}
use Rattle.cube_cli.proofs.importing.import_file.Goals as goal

pub returns-in-Ok-import-clause-says : goal.returns-in-Ok-import-clause-says
returns-in-Ok-import-clause-says g c = λ source content taken read given is.
    let cube = c.args.cube in
    let file = c.args.file.now in
    let seen : SeenAll = record { source = source; sink = sink_seen g.K.Sink.tells c.args.out.now c.write_text.new.out; keeper = keeper_seen g.Q.Keeper.tells c.args.keeper.now c.import.new.keeper } in
    let seq : FactSeq = c.in-Ok.seq in
    let seq_is : seq ≡ seq_of cube.schema file = c.in-Ok.ensures.facts ∙ ap (λ schema. facts_in schema (records_of file)) c.schema.ensures in
    rw c.end_of_write.ensures
    (import_kept cube content is seen given file taken read seq seq_is c.write_text.result c.in-Ok-import.receipt.refreshed c.in-Ok-import.ensures.accepted c.in-Ok-import.ensures.few
    c.in-Ok-import.ensures.refreshed (record { content = c.in-Ok-import.ensures.content; journal = c.in-Ok-import.ensures.journal }) c.in-Ok-import.ensures.count (c.write_text.ensures _ c.imported_line-text.ensures))

pub returns-in-Err-clause-says : goal.returns-in-Err-clause-says
returns-in-Err-clause-says g c = λ source content taken read given is.
    let cube = c.args.cube in
    let file = c.args.file.now in
    let seen : SeenAll = record { source = source; sink = sink_seen g.K.Sink.tells c.args.out.now c.args.out.now; keeper = keeper_seen g.Q.Keeper.tells c.args.keeper.now c.import.new.keeper } in
    let before : Told = told_of g.Q.Keeper.tells c.args.keeper.now in
    let after : Told = told_of g.Q.Keeper.tells c.import.new.keeper in
    let seq : FactSeq = c.in-Ok.seq in
    let seq_is : seq ≡ seq_of cube.schema file = c.in-Ok.ensures.facts ∙ ap (λ schema. facts_in schema (records_of file)) c.schema.ensures in
    rw c.end_of_import.ensures
    (import_refused cube content is seen given file taken read seq seq_is c.in-Err.fault c.in-Err.ensures.fault refl
    (record { wrote = Keeps-refl _; kept = same_told before after c.in-Err.ensures.same_content c.in-Err.ensures.same_journal }) c.in-Err.ensures.count)

-- there was no memory for the records
pub returns-in_default-clause-says : goal.returns-in_default-clause-says
returns-in_default-clause-says g c = λ source content taken read given is.
    let seen : SeenAll = record { source = source; sink = sink_seen g.K.Sink.tells c.args.out.now c.args.out.now; keeper = keeper_seen g.Q.Keeper.tells c.args.keeper.now c.args.keeper.now } in
    import_wants c.args.cube content is seen given c.args.file.now taken read refl refl (record { wrote = Keeps-refl _; kept = refl })
