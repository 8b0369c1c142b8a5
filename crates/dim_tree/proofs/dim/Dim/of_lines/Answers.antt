use Rattle.std.proofs.Common.{◌∙◌, [], length, map, sym, ap, subst, arith}
use Rattle.std.specs.List.{list_all}
use Rattle.std.proofs.lemmas.List.{map-id}
use Rattle.std.proofs.lemmas.Result.{err_from_is_err_and}
use Rattle.cube_base.specs.Name.{is_name}
use Rattle.cube_model.specs.Tree.{first_fault}
use Rattle.dim_tree.specs.Fault.{IsDimCause}
use Rattle.dim_tree.proofs.Building.{IsOutline_lines, entries_of_lines}
use Rattle.dim_tree.proofs.Outlines.{tree_fault_first}
use Rattle.dim_tree.proofs.Placing.{ArePlaces_range}
use Rattle.dim_tree.proofs.dim.Dim.of_lines.Goals as goal

pub returns-in_err-names-clause-refused : goal.returns-in_err-names-clause-refused
returns-in_err-names-clause-refused c =
    let given = err_from_is_err_and c.from_residual.result c.from_residual.ensures.1 in
    rw (given.1, given.2, tree_fault_first c.args.lines.now (omega arith) c.requires.few) (subst (λ ls. IsDimCause (first_fault [] 0 ls) c.in_err-names.field-0.0) (map-id c.args.lines.now) c.in_err-names.ensures.refused)

pub of_places-requires-clause-outline : goal.of_places-requires-clause-outline
of_places-requires-clause-outline c =
    rw (c.deref.ensures.value, c.deref-2.ensures.value, c.in_ok-numbers.ensures) (IsOutline_lines c.args.lines.now _ _ c.in_ok-depths.ensures (c.in_ok-names.ensures.names ∙ ap (map (λ line. line.name)) (map-id c.args.lines.now)) (tree_fault_first c.args.lines.now (omega arith) c.requires.few ∙ ap (first_fault [] 0) (sym (map-id c.args.lines.now)) ∙ c.in_ok-names.ensures.accepted) (ap (list_all (λ line. is_name line.name)) (sym (map-id c.args.lines.now)) ∙ c.in_ok-names.ensures.are_names))

pub of_places-requires-clause-places : goal.of_places-requires-clause-places
of_places-requires-clause-places c = rw (c.deref-2.ensures.value, c.in_ok-numbers.ensures, c.in_ok-places.ensures) (ArePlaces_range (length c.args.lines.now))

pub returns-clause-built : goal.returns-clause-built
returns-clause-built c = rw (c.in_ok-dim.ensures, c.deref.ensures.value, c.deref-2.ensures.value, c.in_ok-numbers.ensures) (entries_of_lines c.args.lines.now _ _ c.in_ok-depths.ensures (c.in_ok-names.ensures.names ∙ ap (map (λ line. line.name)) (map-id c.args.lines.now)))

pub returns-clause-accepted : goal.returns-clause-accepted
returns-clause-accepted c = tree_fault_first c.args.lines.now (omega arith) c.requires.few ∙ ap (first_fault [] 0) (sym (map-id c.args.lines.now)) ∙ c.in_ok-names.ensures.accepted
