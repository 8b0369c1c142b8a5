use Rattle.std.proofs.Common.{get_or, List, ℤ, pos, sym, ap, ◌∙◌, rules}
use Rattle.std.specs.Int.{w128}
use Rattle.std.specs.Option.{option_map_or}
use mir.Val.{SFits}
use Rattle.std.proofs.lemmas.Int.{to_z-of_z}
use Rattle.cube_model.specs.declared.term.Term.{Term}
use Rattle.group_sum.proofs.Ascending.{term_of_at, term_of_gap}
use Rattle.group_sum.proofs.terms.Terms.count_num.Goals as goal

-- the term of the denominator is at its place
pub returns-in-Ok : goal.returns-in-Ok
returns-in-Ok c =
    let fits : SFits w128 (get_or c.row.result.now 0 (pos 0)) = search rules in
    let place = rw (← c.self.view_is) at c.in-Ok.ensures.found in
    let found = term_of_at _ 1 _ c.self.invariant.terms _ _ place in
    let count = ap (λ o. pos (option_map_or (λ (t : Term). t.count) o 0)) found in
    rw (← c.self.view_is) (to_z-of_z _ _ fits ∙ ap (λ (r : List ℤ). get_or r 0 (pos 0)) c.row.ensures.row ∙ sym count)

-- the denominator is not there
pub returns-in-Err : goal.returns-in-Err
returns-in-Err c =
    let none = term_of_gap _ _ _ c.in-Err.ensures.absent in
    sym (ap (λ o. pos (option_map_or (λ (t : Term). t.count) o 0)) none)
