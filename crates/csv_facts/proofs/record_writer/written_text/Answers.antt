use Rattle.std.proofs.Common.{◌∙◌}
use Rattle.csv_facts.proofs.record_writer.written_text.Goals as goal

pub returns-in-Ok : goal.returns-in-Ok
returns-in-Ok c = c.from.ensures ∙ c.in-Ok.ensures.ok
