-- The front, the two numbers and the values are the record of the row.
use Rattle.std.proofs.Common.{[]}
use Rattle.std.proofs.lemmas.Result.{on_ok_weaker}
use Rattle.fact_records.proofs.SmallValues.{count-accepted}
use Rattle.schema_text.specs.Schema.{shape_of}
use Rattle.csv_facts.specs.ExtendedRow.{with_rows}
use Rattle.csv_facts.proofs.ExtendedRows.{row_record-is}
use Rattle.csv_facts.proofs.extended_row.fill_extended_row.Goals as goal

pub cell_at-requires : goal.cell_at-requires
cell_at-requires c = rw c.space-space.ensures.dims c.requires.cell

pub push_values-requires-clause-columns : goal.push_values-requires-clause-columns
push_values-requires-clause-columns c = rw c.shape.ensures.shape (count-accepted (shape_of c.args.s.now) c.args.fact.now.cols c.requires.fact.values)

pub returns : goal.returns
returns c =
    on_ok_weaker c.push_values.result
    (λ longer.
    row_record-is c.args.s.now (with_rows c.args.fact.now (record { den = c.args.den; rows = [] })) c.args.placed.0 c.args.placed.1 _ _ _ _ _ (rw c.space-space.ensures.dims at c.cell_at.ensures.cell)
    (rw c.space-space.ensures.dims at c.in_ok-start_row.ensures) c.in_ok-push_number.ensures c.in_ok-push_number-2.ensures (rw c.shape.ensures.shape at longer))
    c.push_values.ensures
