use Rattle.std.proofs.Common.{◌≡◌, ◌∷◌, [], sym, subst}
use Rattle.std.specs.Prelude.{IfOk, OnErr, OnOk}
use Rattle.std.specs.Io.KnownBytes.{Appends}
use Rattle.cube_base.specs.Outside.{TakesPart}
use Rattle.cube_core.specs.Cube.{cube_rows}
use Rattle.csv_facts.specs.ExtendedRow.{extended_text, rows_header}
use Rattle.csv_facts.specs.RecordList.{records_text}
use Rattle.schema_text.specs.Schema.{weigh_of}
use Rattle.cube_cli.specs.Rows.{OnItsWay, since}
use Rattle.cube_cli.proofs.Parts.{ends, starts}
use Rattle.cube_cli.proofs.RowFile.{header_alone, header_text, some_header}
use Rattle.cube_cli.proofs.row_file.write_all_rows.Goals as goal

pub returns-in-Err : goal.returns-in-Err
returns-in-Err g c =
    let schema = c.args.cube.now.schema in
    let start = g.K.Sink.tells c.args.out.now in
    let header = records_text (rows_header schema ∷ []) in
    let part : IfOk c.write_rows_header-header.result (λ bytes. bytes ≡ header) = rw c.schema.ensures at c.write_rows_header-header.ensures in
    let none : OnItsWay [] c.new-text.result.items (since start start) = subst (λ l. OnItsWay [] l (since start start)) (sym c.new-text.ensures.items) (starts start) in
    header_alone schema (cube_rows weigh_of c.args.cube.now) (since start (g.K.Sink.tells c.gather.new.out)) c.in-Err.error
    (rw c.in-Err.is at (c.gather.ensures start [] header part (some_header schema) none))

pub returns-in-Ok : goal.returns-in-Ok
returns-in-Ok g c =
    let schema = c.args.cube.now.schema in
    let start = g.K.Sink.tells c.args.out.now in
    let header = records_text (rows_header schema ∷ []) in
    let part : IfOk c.write_rows_header-header.result (λ bytes. bytes ≡ header) = rw c.schema.ensures at c.write_rows_header-header.ensures in
    let none : OnItsWay [] c.new-text.result.items (since start start) = subst (λ l. OnItsWay [] l (since start start)) (sym c.new-text.ensures.items) (starts start) in
    let on = subst (λ text. OnItsWay text c.gather.new.text.items (since start (g.K.Sink.tells c.gather.new.out))) (header_text schema) (rw c.in_default.is at (c.gather.ensures start [] header part (some_header schema) none)) in
    ends start (g.K.Sink.tells c.gather_all.new.out) (g.K.Sink.tells c.write_whole.new.out) (extended_text schema (cube_rows weigh_of c.args.cube.now)) c.gather_all.new.text.items c.write_whole.result
    (rw c.in-Ok.is at (c.gather_all.ensures start on)) (subst (λ text. OnOk c.write_whole.result (Appends (g.K.Sink.tells c.gather_all.new.out).taken (g.K.Sink.tells c.write_whole.new.out).taken text)) c.deref.ensures.value c.write_whole.ensures.ok)
    (subst (λ text. OnErr c.write_whole.result (TakesPart (g.K.Sink.tells c.gather_all.new.out).taken (g.K.Sink.tells c.write_whole.new.out).taken text)) c.deref.ensures.value c.write_whole.ensures.err) c.write_whole.ensures.count

pub returns : goal.returns
returns g c =
    let schema = c.args.cube.now.schema in
    let start = g.K.Sink.tells c.args.out.now in
    let header = records_text (rows_header schema ∷ []) in
    let part : IfOk c.write_rows_header-header.result (λ bytes. bytes ≡ header) = rw c.schema.ensures at c.write_rows_header-header.ensures in
    let none : OnItsWay [] c.new-text.result.items (since start start) = subst (λ l. OnItsWay [] l (since start start)) (sym c.new-text.ensures.items) (starts start) in
    let on = subst (λ text. OnItsWay text c.gather.new.text.items (since start (g.K.Sink.tells c.gather.new.out))) (header_text schema) (rw c.in_default.is at (c.gather.ensures start [] header part (some_header schema) none)) in
    rw c.in-Err-gather_all.is at (c.gather_all.ensures start on)
