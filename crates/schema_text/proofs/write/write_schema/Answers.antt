-- The text that is appended is read as the schema.
use Rattle.schema_text.proofs.ReadsAgain.{reads_again}
use Rattle.schema_text.proofs.write.write_schema.Goals as goal

pub returns-clause-reads : goal.returns-clause-reads
returns-clause-reads c = λ rest. rw (c.from.ensures, c.in_ok-append_schema.ensures.text, c.new-out.ensures.items) (reads_again c.args.s.now c.append_schema.ensures.schema rest)
