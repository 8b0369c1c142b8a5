use Rattle.std.proofs.Common.{string_bytes, sym, ◌∙◌, arith}
use Rattle.std.proofs.lemmas.List.{length-map}
use Rattle.dim_tree.proofs.Kept.{kept}
use Rattle.dim_tree.proofs.Outlines.{node_named-at, node_named-none}
use Rattle.dim_tree.proofs.dim.Dim.find.Goals as goal

pub returns-in_err-place-clause-found : goal.returns-in_err-place-clause-found
returns-in_err-place-clause-found c =
    c.from_residual.ensures ∙ sym (node_named-none c.args.self.now c.self.inside.names.keys c.args.name.now (kept c.self.invariant c.self.view_is).names_are (sym c.in_err-place.ensures.index))

pub overflow_cast-place : goal.overflow_cast-place
overflow_cast-place c =
    let its = kept c.self.invariant c.self.view_is in
    grind (arith, length-map c.self.inside.names.keys string_bytes, its.room_names, its.few, c.in_ok-place.ensures.within)

pub at-requires : goal.at-requires
at-requires c =
    let its = kept c.self.invariant c.self.view_is in
    grind (arith, length-map c.self.inside.names.keys string_bytes, its.room_names, c.in_ok-place.ensures.within)

pub returns-clause-found : goal.returns-clause-found
returns-clause-found c =
    sym c.at.ensures.number ∙ sym (node_named-at c.args.self.now c.self.inside.names.keys c.args.name.now _ (kept c.self.invariant c.self.view_is).names_are (sym c.in_ok-place.ensures.index))
