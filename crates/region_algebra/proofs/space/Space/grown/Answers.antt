use Rattle.std.proofs.Common.{◌≡◌, None, ap, sym, ◌∙◌, subst}
use Rattle.std.specs.Prelude.{All}
use Rattle.cube_model.specs.Tree.{IsTree}
use Rattle.region_algebra.specs.Fault.{space_fault}
use Rattle.region_algebra.specs.Growth.{grown_dims, own_fault}
use Rattle.region_algebra.proofs.Growing.{grown-refused, none_left}
use Rattle.region_algebra.proofs.space.Space.grown.Goals as goal

-- what is left is refused for its nodes alone
pub returns-clause-refused : goal.returns-clause-refused
returns-clause-refused c =
    let same : c.deref.result.now ≡ c.args.self.now = c.deref.ensures.value ∙ c.self.view_is in
    let same_too : c.deref-2.result.now ≡ c.args.self.now = c.deref-2.ensures.value ∙ c.self.view_is in
    let own : own_fault c.args.self.now c.args.d c.args.parent c.args.name ≡ None =
    ap (λ dims. own_fault dims c.args.d c.args.parent c.args.name) (sym same) ∙ sym c.own_fault.ensures ∙ none_left c.own_fault.result c.in_default.not-Some in
    let are : c.in_ok-dims.dims.items ≡ grown_dims c.args.self.now c.args.d c.args.parent c.args.name = c.in_ok-dims.ensures ∙ ap (λ dims. grown_dims dims c.args.d c.args.parent c.args.name) same_too in
    let trees : All IsTree c.args.self.now = subst (λ dims. All IsTree dims) c.self.view_is c.self.invariant.cells.trees in
    let accepted : space_fault c.args.self.now ≡ None = subst (λ dims. space_fault dims ≡ None) c.self.view_is c.self.invariant.accepted in
    λ _. grown-refused c.args.self.now c.args.d c.args.parent c.args.name own c.in_ok-dims.dims.items c.in-Err.field-0 c.requires.dim c.requires.parent trees accepted are c.with_steps.ensures.trees c.in-Err.ensures.refused
