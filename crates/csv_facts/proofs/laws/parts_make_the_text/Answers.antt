use Rattle.std.proofs.Common.{refl, sym}
use Rattle.std.proofs.lemmas.List.{append-nil}
use Rattle.csv_facts.specs.ExtendedRow.{extended_text}
use Rattle.csv_facts.proofs.ExtendedRows.{part-behind, rows-through}
use Rattle.csv_facts.proofs.laws.parts_make_the_text.Goals as goal

pub returns-clause-header : goal.returns-clause-header
unfolding extended_text
returns-clause-header c = λ schema. refl

pub returns-clause-fact : goal.returns-clause-fact
returns-clause-fact c = λ schema facts fact. sym (append-nil (extended_text schema facts))

pub returns-clause-part : goal.returns-clause-part
returns-clause-part c = part-behind

pub returns-clause-through : goal.returns-clause-through
returns-clause-through c = rows-through
