-- Files of facts, for which the record that is refused was worked out by hand.
use Rattle.std.specs.Prelude.{◌∷◌, [], List, Option}
use Rattle.cube_base.specs.declared.code.Code.TheVariants as code
use Rattle.cube_model.specs.declared.edit.Fact.{Fact}
use Rattle.fact_records.specs.Examples.{fact_at, four_facts, one_number}
use Rattle.region_algebra.specs.Examples.{small_space}
use Rattle.fact_records.specs.declared.fact_seq.BadRecord.{BadRecord}
use Rattle.fact_records.specs.RefusedRecord.{refused_in}

-- facts that are new to the four, in no order
abbrev pub new_facts : List Fact
new_facts = fact_at 9 (0 ∷ 0 ∷ []) 7 ∷ fact_at 5 (2 ∷ 1 ∷ []) 8 ∷ fact_at 7 (1 ∷ 1 ∷ []) 9 ∷ []

-- facts of which the second and the fourth have one id, with a value that is too large after them
abbrev pub repeated_facts : List Fact
repeated_facts = fact_at 9 (0 ∷ 0 ∷ []) 7 ∷ fact_at 5 (2 ∷ 1 ∷ []) 8 ∷ fact_at 7 (1 ∷ 1 ∷ []) 9 ∷ fact_at 5 (0 ∷ 0 ∷ []) 8 ∷ fact_at 6 (0 ∷ 0 ∷ []) 1000000000001 ∷ []

-- a record that cannot be read
abbrev pub unreadable : BadRecord
unreadable = record { index = 12; code = code.Fields }

-- what is refused of a file over the four facts
abbrev pub refused_over_four : List Fact → Option BadRecord → Option BadRecord
refused_over_four facts bad = refused_in one_number small_space four_facts (record { facts = facts; bad = bad })
