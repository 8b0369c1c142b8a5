-- The id and the names of the nodes are the front.
use Rattle.std.proofs.Common.{[]}
use Rattle.std.proofs.lemmas.Result.{on_ok_weaker}
use Rattle.csv_facts.proofs.FieldsLeft.{IsRecordRow-longer, IsRecordRow-none}
use Rattle.csv_facts.proofs.fact_row.start_row.Goals as goal

pub returns : goal.returns
returns c =
    let none = IsRecordRow-none _ c.clear.ensures.fields c.clear.ensures.partial in
    on_ok_weaker c.push_nodes.result (λ longer. IsRecordRow-longer _ _ _ _ (IsRecordRow-longer _ _ [] _ none c.in_ok-push_number.ensures) longer) c.push_nodes.ensures
