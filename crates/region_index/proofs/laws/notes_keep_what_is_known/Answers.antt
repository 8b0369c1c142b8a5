use Rattle.region_index.proofs.Noting.{known-kept, known-noted}
use Rattle.region_index.proofs.laws.notes_keep_what_is_known.Goals as goal

pub returns-clause-noted : goal.returns-clause-noted
returns-clause-noted c = λ patterns pattern. known-noted patterns pattern

pub returns-clause-kept : goal.returns-clause-kept
returns-clause-kept c = λ patterns pattern other known. known-kept patterns pattern other known
