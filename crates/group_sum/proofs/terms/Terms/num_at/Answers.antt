use Rattle.std.proofs.Common.{◌∷◌, get_or, List, ℤ, pos, Some, sym, ap, ◌∙◌, rules}
use Rattle.std.specs.Int.{w128}
use Rattle.std.specs.Option.{option_map}
use mir.Val.{SFits}
use Rattle.std.proofs.lemmas.Int.{to_z-of_z}
use Rattle.std.proofs.lemmas.Option.{slice_get-get_or}
use Rattle.cube_model.specs.declared.term.Term.{Term}
use Rattle.group_sum.specs.Place.{no_term}
use Rattle.group_sum.proofs.terms.Terms.num_at.Goals as goal

-- the term is at its place
pub returns : goal.returns
returns c =
    let fits : SFits w128 (get_or c.row.result.now c.args.col (pos 0)) = search rules in
    let there = slice_get-get_or c.self.inside.rows.terms c.args.i no_term (rw (← c.self.view_is) at c.requires.place) in
    rw (← c.self.view_is) (ap (option_map (λ (t : Term). get_or (pos t.count ∷ t.sums) c.args.col (pos 0))) there ∙ ap Some (sym (to_z-of_z _ _ fits ∙ ap (λ (r : List ℤ). get_or r c.args.col (pos 0)) c.row.ensures.row)))
