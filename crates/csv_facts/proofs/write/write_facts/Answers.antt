-- What is written is the file's text, and is read again.
use Rattle.std.proofs.Common.{◌≡◌, ◌∙◌, None, sym, subst}
use Rattle.std.proofs.lemmas.Result.{IfOk-weaker}
use Rattle.csv_facts.specs.FactFile.{facts_in}
use Rattle.csv_facts.specs.RecordList.{records_of}
use Rattle.csv_facts.proofs.FileAgain.{file-again}
use Rattle.csv_facts.proofs.RowsWritten.{file-written}
use Rattle.csv_facts.proofs.write.write_facts.Goals as goal

pub write_fact_rows-requires-clause-writing : goal.write_fact_rows-requires-clause-writing
write_fact_rows-requires-clause-writing c = c.in_ok-write_row.ensures.writing

pub returns-clause-text : goal.returns-clause-text
returns-clause-text c =
    IfOk-weaker c.written_text.result _ _
    (λ text is. is ∙ file-written c.args.s.now c.args.facts.now.facts c.new_writer-out.result c.write_row.new.out c.write_fact_rows.new.out _ c.new_writer-out.ensures.empty c.in_ok-header.ensures.header
    c.in_ok-write_row.ensures c.in_ok-write_fact_rows.ensures)
    c.written_text.ensures

pub returns-clause-reads : goal.returns-clause-reads
returns-clause-reads c =
    let file =
    file-written c.args.s.now c.args.facts.now.facts c.new_writer-out.result c.write_row.new.out c.write_fact_rows.new.out _ c.new_writer-out.ensures.empty c.in_ok-header.ensures.header
    c.in_ok-write_row.ensures c.in_ok-write_fact_rows.ensures in
    let again = file-again c.args.s.now c.args.facts.now.facts c.header_row.ensures.schema c.requires in
    IfOk-weaker c.written_text.result _ _ (λ text is. subst (λ t. facts_in c.args.s.now (records_of t) ≡ record { facts = c.args.facts.now.facts; bad = None }) (sym (is ∙ file)) again) c.written_text.ensures
