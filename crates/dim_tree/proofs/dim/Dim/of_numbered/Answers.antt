use Rattle.std.proofs.Common.{None, Some, if◌then◌else◌, ap, ◌∙◌, arith}
use Rattle.std.proofs.lemmas.Result.{err_from_is_err_and}
use Rattle.cube_model.specs.declared.tree.DimFault.TheVariants.{Number}
use Rattle.dim_tree.proofs.Building.{IsOutline_entries, dim_fault_first, entries_of_entries, entries_shallow, lines_accepted, numbers_fault, numbers_judged}
use Rattle.dim_tree.proofs.Judging.{IsCause_of}
use Rattle.dim_tree.proofs.dim.Dim.of_numbered.Goals as goal

pub returns-in_err-names-clause-refused : goal.returns-in_err-names-clause-refused
returns-in_err-names-clause-refused c =
    let given = err_from_is_err_and c.from_residual.result c.from_residual.ensures.1 in
    rw (given.1, given.2) (IsCause_of _ _ (λ fault is. dim_fault_first c.args.lines.now fault (omega arith) c.requires.few is) _ c.in_err-names.ensures.refused)

pub judged_places-requires-clause-shallow : goal.judged_places-requires-clause-shallow
judged_places-requires-clause-shallow c = rw (c.deref.ensures.value, c.in_ok-depths.ensures) (entries_shallow c.args.lines.now c.in_ok-names.ensures.accepted)

pub returns-in_err-places-clause-refused : goal.returns-in_err-places-clause-refused
returns-in_err-places-clause-refused c =
    let given = err_from_is_err_and c.from_residual-in_err-places.result c.from_residual-in_err-places.ensures.1 in
    rw (given.1, given.2) (IsCause_of _ _ (λ fault is. numbers_fault c.args.lines.now c.deref.result.now c.deref-2.result.now (c.deref.ensures.value ∙ c.in_ok-depths.ensures) (c.deref-2.ensures.value ∙ c.in_ok-numbers.ensures) (omega arith) c.requires.few c.in_ok-names.ensures.accepted ∙ is) _ c.in_err-places.ensures.refused)

pub of_places-requires-clause-outline : goal.of_places-requires-clause-outline
of_places-requires-clause-outline c =
    let ordered = numbers_judged c.args.lines.now c.deref.result.now c.deref-2.result.now (c.deref.ensures.value ∙ c.in_ok-depths.ensures) (c.deref-2.ensures.value ∙ c.in_ok-numbers.ensures) c.in_ok-names.ensures.accepted ∙ c.in_ok-places.ensures.accepted in
    IsOutline_entries c.args.lines.now c.deref-3.result.now _ c.deref-4.result.now (c.deref-3.ensures.value ∙ c.in_ok-depths.ensures) c.in_ok-names.ensures.names (c.deref-4.ensures.value ∙ c.in_ok-numbers.ensures) (lines_accepted c.args.lines.now (omega arith) c.requires.few c.in_ok-names.ensures.accepted) c.in_ok-names.ensures.are_names ordered

pub returns-clause-built : goal.returns-clause-built
returns-clause-built c =
    rw c.in_ok-dim.ensures (entries_of_entries c.args.lines.now c.deref-3.result.now _ c.deref-4.result.now (c.deref-3.ensures.value ∙ c.in_ok-depths.ensures) c.in_ok-names.ensures.names (c.deref-4.ensures.value ∙ c.in_ok-numbers.ensures))

pub returns-clause-accepted : goal.returns-clause-accepted
returns-clause-accepted c =
    numbers_fault c.args.lines.now c.deref.result.now c.deref-2.result.now (c.deref.ensures.value ∙ c.in_ok-depths.ensures) (c.deref-2.ensures.value ∙ c.in_ok-numbers.ensures) (omega arith) c.requires.few c.in_ok-names.ensures.accepted ∙ ap (λ b. if b then None else Some Number) c.in_ok-places.ensures.accepted
