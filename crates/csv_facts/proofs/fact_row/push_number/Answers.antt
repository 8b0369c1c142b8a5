use Rattle.std.proofs.Common.{◌∙◌}
use Rattle.csv_facts.proofs.FieldsLeft.{IsLonger-one}
use Rattle.csv_facts.proofs.fact_row.push_number.Goals as goal

pub returns : goal.returns
returns c =
    let e = c.in_ok-push_field.ensures in
    IsLonger-one _ _ _ _ c.requires e.fields e.partial (c.as_bytes.ensures.value ∙ c.format.ensures.text)
