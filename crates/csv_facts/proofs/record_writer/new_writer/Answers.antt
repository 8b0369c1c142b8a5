use Rattle.std.proofs.Common.{◌∙◌, refl}
use Rattle.csv_facts.proofs.record_writer.new_writer.Goals as goal

pub returns-clause-writing : goal.returns-clause-writing
returns-clause-writing c = record { setup = c.from_writer.ensures.cfg ∙ c.new.ensures; fields = c.from_writer.ensures.fields; wrote = c.from_writer.ensures.wrote }

pub returns-clause-empty : goal.returns-clause-empty
returns-clause-empty c = rw (c.from_writer.ensures.wtr, c.from_writer.ensures.empty, c.new-2.ensures.items) refl
