use Rattle.std.proofs.Common.{◌≡◌, ◌+◌, ◌++◌, ℕ, length, ap, sym, subst, arith, ◌∙◌, Err}
use Rattle.std.specs.Bool.{⊤}
use Rattle.std.specs.Prelude.{IfOk}
use Rattle.cube_core.specs.Cube.{cube_rows}
use Rattle.csv_facts.specs.ExtendedRow.{part_text, text_before}
use Rattle.csv_facts.proofs.ExtendedRows.{part-behind, rows-through}
use Rattle.schema_text.specs.Schema.{weigh_of}
use Rattle.cube_cli.specs.Rows.{OnItsWay, since}
use Rattle.cube_cli.specs.Steps.{WritesText}
use Rattle.cube_cli.proofs.Parts.{longer}
use Rattle.cube_cli.proofs.RowFile.{all_behind, some_rows, whole_is}
use Rattle.cube_cli.proofs.row_file.gather_fact.Goals as goal

pub returns-in-Err : goal.returns-in-Err
returns-in-Err g c = λ start before whole is on.
    let schema = c.args.cube.now.schema in
    let from = c.loop-from.from in
    let same = whole_is (cube_rows weigh_of c.args.cube.now) c.args.fact.now whole c.in-Some.spread.now is c.in-Some.ensures.rows in
    let count : length whole.allocation.rows ≡ length c.rows-count.result.now = ap (λ w. length w.allocation.rows) (sym same) ∙ sym (ap length c.rows-count.ensures.rows) in
    let made = text_before schema before whole from in
    let next = part_text schema whole from 1024 in
    let part : IfOk c.write_rows-part.result (λ bytes. bytes ≡ next) = subst (λ w. IfOk c.write_rows-part.result (λ bytes. bytes ≡ part_text schema w from 1024)) same (rw c.schema.ensures at c.write_rows-part.ensures) in
    let some = some_rows schema whole from 1024 (omega (arith, count, c.loop-from-test.true)) (omega arith) in
    let sink = since start (g.K.Sink.tells c.gather.new.out) in
    subst (λ text. WritesText {T = ⊤} text sink (Err c.in-Err.error)) (all_behind schema before whole from 1024)
    (longer ⊤ (made ++ next) (part_text schema whole (from + 1024) (length whole.allocation.rows)) sink c.in-Err.error
    (rw c.in-Err.is at (c.gather.ensures start made next part some (c.loop-from.invariant start before whole is on))))

pub loop-from-preserved : goal.loop-from-preserved
loop-from-preserved g c = λ start before whole is on.
    let schema = c.args.cube.now.schema in
    let from = c.loop-from.from in
    let same = whole_is (cube_rows weigh_of c.args.cube.now) c.args.fact.now whole c.in-Some.spread.now is c.in-Some.ensures.rows in
    let count : length whole.allocation.rows ≡ length c.rows-count.result.now = ap (λ w. length w.allocation.rows) (sym same) ∙ sym (ap length c.rows-count.ensures.rows) in
    let made = text_before schema before whole from in
    let next = part_text schema whole from 1024 in
    let part : IfOk c.write_rows-part.result (λ bytes. bytes ≡ next) = subst (λ w. IfOk c.write_rows-part.result (λ bytes. bytes ≡ part_text schema w from 1024)) same (rw c.schema.ensures at c.write_rows-part.ensures) in
    let some = some_rows schema whole from 1024 (omega (arith, count, c.loop-from-test.true)) (omega arith) in
    subst (λ text. OnItsWay text c.gather.new.text.items (since start (g.K.Sink.tells c.gather.new.out))) (part-behind schema before whole from 1024)
    (rw c.in-Ok.is at (c.gather.ensures start made next part some (c.loop-from.invariant start before whole is on)))

pub returns : goal.returns
returns g c = λ start before whole is on.
    let same = whole_is (cube_rows weigh_of c.args.cube.now) c.args.fact.now whole c.in-Some.spread.now is c.in-Some.ensures.rows in
    let count : length whole.allocation.rows ≡ length c.rows-count.result.now = ap (λ w. length w.allocation.rows) (sym same) ∙ sym (ap length c.rows-count.ensures.rows) in
    subst (λ text. OnItsWay text c.loop-from.text.items (since start (g.K.Sink.tells c.loop-from.out))) (rows-through c.args.cube.now.schema before whole c.loop-from.from (omega (arith, count, c.loop-from-test.false)))
    (c.loop-from.invariant start before whole is on)
