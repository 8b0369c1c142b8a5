use Rattle.feed_run.specs.BeginTurn.{import_stop}
use Rattle.feed_run.proofs.BaseBegins.{compared-over, differs-over, have-regions, import-refused, lacks-refusal, refused-over}
use Rattle.feed_run.proofs.begin.begin_over.Goals as goal

pub stop_of_import-requires : goal.stop_of_import-requires
stop_of_import-requires c = lacks-refusal c.args.schema c.args.seq.now.facts c.in-Err.fault c.in-Err.ensures

pub returns-in-Err : goal.returns-in-Err
returns-in-Err c =
    let refusal = lacks-refusal c.args.schema c.args.seq.now.facts c.in-Err.fault c.in-Err.ensures in
    rw c.stop_of_import.ensures
    (refused-over c.args.number c.args.schema c.args.seq.now.facts c.args.base.now (import_stop c.args.number c.in-Err.fault) (import-refused c.args.number c.args.schema c.args.seq.now.facts 0 0 c.in-Err.fault c.in-Err.ensures refusal))

pub compare_base-requires : goal.compare_base-requires
compare_base-requires c = rw (c.schema.ensures, c.as_slice.ensures, c.in-Ok.ensures.is.is_cube.schema) (have-regions c.args.schema c.args.seq.now.facts c.requires.facts)

pub returns-in-Ok-compare_base : goal.returns-in-Ok-compare_base
returns-in-Ok-compare_base c =
    compared-over c.args.number c.args.schema c.args.seq.now.facts c.args.base.now c.in-Ok.cube c.in-Ok.ensures.is (rw (c.schema.ensures, c.as_slice.ensures, c.in-Ok.ensures.is.is_cube.schema) at c.in-Ok-compare_base.ensures)

pub returns-in-Err-compare_base : goal.returns-in-Err-compare_base
returns-in-Err-compare_base c =
    differs-over c.args.number c.args.schema c.args.seq.now.facts c.args.base.now c.in-Ok.cube c.in-Err-compare_base.stop c.in-Ok.ensures.is (rw (c.schema.ensures, c.as_slice.ensures, c.in-Ok.ensures.is.is_cube.schema) at c.in-Err-compare_base.ensures)
