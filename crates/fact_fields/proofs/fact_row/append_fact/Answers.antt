-- The id, the names and the values are the record of the fact.
use Rattle.std.proofs.lemmas.Result.{on_ok_weaker}
use Rattle.fact_records.proofs.SmallValues.{count-accepted}
use Rattle.schema_text.specs.Schema.{shape_of}
use Rattle.fact_fields.proofs.ValuesWritten.{fact-appended}
use Rattle.fact_fields.proofs.fact_row.append_fact.Goals as goal

pub append_names-requires : goal.append_names-requires
append_names-requires c = rw c.space.ensures.dims c.requires.placed.region

pub append_measures-requires : goal.append_measures-requires
append_measures-requires c = rw c.shape.ensures.shape (count-accepted (shape_of c.args.schema.now) c.args.fact.now.cols c.requires.values)

pub returns : goal.returns
returns c =
    on_ok_weaker c.append_measures.result
    (λ values.
    fact-appended c.args.schema.now c.args.fact.now _ _ _ _ c.in_ok-append_number.ensures.ok (rw c.space.ensures.dims at c.in_ok-append_names.ensures.ok) (rw c.shape.ensures.shape at values))
    c.append_measures.ensures
