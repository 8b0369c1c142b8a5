-- Cells may weigh by the measure that is found.
use Rattle.std.proofs.Common.{arith, sym}
use Rattle.fact_records.proofs.Columns.{length-width_of_all}
use Rattle.schema_text.proofs.Policies.{IsWeighable-named}
use Rattle.schema_text.proofs.policy.policy_among.Goals as goal

pub returns-in_ok-place-in-Weight-clause-weighable : goal.returns-in_ok-place-in-Weight-clause-weighable
returns-in_ok-place-in-Weight-clause-weighable c = IsWeighable-named c.args.measures.now _ c.in_ok-place-in-Weight.place (sym c.in_ok-place-in-Weight.ensures.named)

pub overflow_cast-result : goal.overflow_cast-result
overflow_cast-result c = omega (arith, c.in_ok-place-in-Weight.ensures.within, length-width_of_all c.args.measures.now c.requires.some, c.requires.most)
