-- What is written is the part's records.
use Rattle.std.proofs.Common.{ℕ, ◌∙◌, ◌<◌, List, [], ap, drop, length, map, take}
use Rattle.std.proofs.lemmas.List.Elements.{All-drop, All-take}
use Rattle.std.proofs.lemmas.Result.{IfOk-weaker}
use Rattle.cube_model.specs.Cells.{all_cells}
use Rattle.csv_facts.specs.ExtendedRow.{row_record, with_rows}
use Rattle.csv_facts.specs.RecordList.{records_text}
use Rattle.csv_facts.proofs.RowsWritten.{all-written}
use Rattle.csv_facts.proofs.rows.write_rows.Goals as goal

pub write_some_rows-requires-clause-cells : goal.write_some_rows-requires-clause-cells
write_some_rows-requires-clause-cells c =
    let P = λ (row : ℕ × ℕ). row.0 < length (all_cells c.args.s.now.dims) in
    rw (c.part_of-rows.ensures, c.rows.ensures.rows) (All-take P c.args.most _ (All-drop P c.args.from _ c.requires.cells))

pub returns : goal.returns
returns c =
    let records = λ (den : ℕ) (rows : List (ℕ × ℕ)). map (row_record c.args.s.now (with_rows c.args.fact.now (record { den = den; rows = [] }))) rows in
    let part = c.part_of-rows.ensures ∙ ap (λ (rows : List (ℕ × ℕ)). take c.args.most (drop c.args.from rows)) c.rows.ensures.rows in
    let written = all-written c.new_writer-out.result c.write_some_rows.new.out _ c.new_writer-out.ensures.empty c.in_ok-write_some_rows.ensures in
    let same = ap (λ (den : ℕ). records_text (records den c.part_of-rows.result.now)) c.den.ensures.den ∙ ap (λ (rows : List (ℕ × ℕ)). records_text (records c.args.spread.now.den rows)) part in
    IfOk-weaker c.written_text.result _ _ (λ text is. is ∙ written ∙ same) c.written_text.ensures
