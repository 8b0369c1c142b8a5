-- What is written is the header's record.
use Rattle.std.proofs.Common.{◌∙◌}
use Rattle.std.proofs.lemmas.Result.{IfOk-weaker}
use Rattle.csv_facts.proofs.RowsWritten.{one-written}
use Rattle.csv_facts.proofs.rows.write_rows_header.Goals as goal

pub returns : goal.returns
returns c =
    IfOk-weaker c.written_text.result _ _ (λ text is. is ∙ one-written c.new_writer-out.result c.write_row.new.out _ _ c.new_writer-out.ensures.empty c.in_ok-header.ensures c.in_ok-write_row.ensures) c.written_text.ensures
