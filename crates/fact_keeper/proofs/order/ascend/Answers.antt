-- The closure tells which of two entries has the smaller id.
use Rattle.std.proofs.Common.{rules}
use Rattle.std.proofs.lemmas.List.Sorted.{answers_always}
use Rattle.std.specs.Prelude.{nat_lt}
use Rattle.fact_keeper.proofs.Puts.{ascending_from_adjacent}
use Rattle.fact_keeper.proofs.order.ascend.Goals as goal

pub returns : goal.returns
returns g c =
    let id_of = g.T.Entry.id_of in
    let answer = c.is_sorted_by.ensures.cases (λ a b. nat_lt (id_of a) (id_of b)) (answers_always _ _ _ (λ f a r g called. search rules)) in
    λ is. ascending_from_adjacent id_of c.args.entries.now (rw is at answer)
