use Rattle.std.proofs.Common.{false, ◌≡◌}
use Rattle.std.proofs.lemmas.Result.{err_from_is_err_and}
use Rattle.dim_tree.specs.Nodes.{are_in_order}
use Rattle.dim_tree.proofs.Building.{order_fault, order_of_numbers, order_refused, parents_counted, parents_small}
use Rattle.dim_tree.proofs.Judging.{IsCause_of}
use Rattle.dim_tree.proofs.numbering.judged_places.Goals as goal

pub returns-in_err-places-clause-refused : goal.returns-in_err-places-clause-refused
returns-in_err-places-clause-refused c =
    let given = err_from_is_err_and c.from_residual.result c.from_residual.ensures.1 in
    rw (given.1, given.2) (IsCause_of _ _ (λ fault is. order_refused c.args.numbers.now c.args.depths.now fault is) _ c.in_err-places.ensures.refused)

pub are_above-requires-clause-same_length : goal.are_above-requires-clause-same_length
are_above-requires-clause-same_length c = rw (c.deref.ensures.value, c.in_ok-parents.ensures) (parents_counted c.args.depths.now c.args.numbers.now c.requires.same_length)

pub are_above-requires-clause-within : goal.are_above-requires-clause-within
are_above-requires-clause-within c = rw (c.deref.ensures.value, c.in_ok-parents.ensures) (parents_small c.args.depths.now c.args.numbers.now c.requires.same_length)

pub returns-then-are_above-clause-accepted : goal.returns-then-are_above-clause-accepted
returns-then-are_above-clause-accepted c = order_of_numbers c.args.numbers.now c.args.depths.now c.in_ok-parents.parents.items _ c.in_ok-places.ensures.accepted c.in_ok-parents.ensures (rw (← c.deref.ensures.value) c.if-are_above.ensures)

pub returns-else-are_above-clause-refused : goal.returns-else-are_above-clause-refused
returns-else-are_above-clause-refused c known =
    let told : are_in_order c.args.numbers.now c.args.depths.now ≡ false = order_of_numbers c.args.numbers.now c.args.depths.now c.in_ok-parents.parents.items _ c.in_ok-places.ensures.accepted c.in_ok-parents.ensures (rw (← c.deref.ensures.value) c.if-are_above.ensures) in
    order_fault c.args.numbers.now c.args.depths.now told
