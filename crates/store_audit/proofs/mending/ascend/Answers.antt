-- The closure tells which of two entries has the smaller id.
use Rattle.std.proofs.Common.{rules}
use Rattle.std.proofs.lemmas.List.Sorted.{answers_always}
use Rattle.std.specs.Prelude.{nat_lt}
use Rattle.fact_keeper.specs.Batch.{rows_id}
use Rattle.store_audit.proofs.Kept.{told-order}
use Rattle.store_audit.proofs.mending.ascend.Goals as goal

pub returns : goal.returns
returns c = told-order c.is_sorted_by.result c.args.kept.now (c.is_sorted_by.ensures.cases (λ a b. nat_lt (rows_id a) (rows_id b)) (answers_always _ _ _ (λ f a r g called. search rules)))
