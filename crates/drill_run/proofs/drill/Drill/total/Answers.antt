-- What the cube answers of everything.
use Rattle.std.proofs.Common.{◌≡◌, ◌+◌, ◌∙◌, IfOk, ap, refl, subst}
use Rattle.cube_model.specs.Allocation.{weigh_count}
use Rattle.fact_records.specs.Shape.{width_of_all}
use Rattle.drill_run.specs.Summary.{terms_of}
use Rattle.drill_run.proofs.Cubes.{terms-are}
use Rattle.drill_run.proofs.Lying.{everything-named, one-column}
use Rattle.drill_run.proofs.drill.Drill.total.Goals as goal

pub answer-requires : goal.answer-requires
answer-requires c = rw (c.self.invariant, c.in-Some.ensures.held) everything-named

pub returns-clause-terms : goal.returns-clause-terms
returns-clause-terms c =
    let same = terms-are (λ _. weigh_count) c.self.inside.cube c.self.invariant refl c.in-Some.everything c.in-Some.ensures.held ∙ ap (λ v. terms_of v.facts) c.self.view_is in
    subst (λ x. IfOk c.answer.result (λ terms. terms.terms ≡ x)) same c.answer.ensures.terms

pub returns-clause-columns : goal.returns-clause-columns
returns-clause-columns c =
    let same = ap (λ s. width_of_all s.measures + 1) c.self.invariant ∙ ap (λ w. w + 1) one-column in
    subst (λ x. IfOk c.answer.result (λ terms. terms.columns ≡ x)) same c.answer.ensures.columns
