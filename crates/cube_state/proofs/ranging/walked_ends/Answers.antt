-- A fact less is left: the one with the next of the ids, or another.
use Rattle.std.proofs.Common.{rules, ap, sym, ◌∙◌}
use Rattle.std.specs.Int.{w64}
use Rattle.std.specs.Int.Signed.{nat_abs-le}
use mir.Val.{SFits}
use Rattle.std.proofs.lemmas.Int.{to_z-of_z}
use Rattle.cube_model.specs.Answer.{total_by}
use Rattle.world_range.specs.declared.extreme.Extreme.TheVariants.{Greatest, Least}
use Rattle.cube_state.specs.Ranging.{id_part}
use Rattle.cube_state.proofs.EitherEnds.{found-wide}
use Rattle.cube_state.proofs.Walking.{walked-all, walked-id, walked-none, walked-other, walked-there}
use Rattle.cube_state.proofs.ranging.walked_ends.Goals as goal

pub loop-fact-init : goal.loop-fact-init
loop-fact-init c = walked-none _ _ _ _ (c.into_iter-fact-iterator.ensures.into_iter_gives ∙ c.iter-fact-items.ensures) c.len.ensures.ascending c.requires.ids

pub column_of-requires : goal.column_of-requires
column_of-requires c = found-wide _ _ _ _ c.requires.wide (walked-there _ _ _ c.loop-fact.invariant c.in-Some.ensures.steps)

pub returns-clause-least : goal.returns-clause-least
returns-clause-least c = c.loop-fact.invariant.before.least ∙ ap (total_by (id_part Least c.args.column c.args.facts.now.facts)) (walked-all _ _ _ _ _ _ c.loop-fact.invariant c.in-None.ensures.steps.0)

pub returns-clause-greatest : goal.returns-clause-greatest
returns-clause-greatest c = c.loop-fact.invariant.before.greatest ∙ ap (total_by (id_part Greatest c.args.column c.args.facts.now.facts)) (walked-all _ _ _ _ _ _ c.loop-fact.invariant c.in-None.ensures.steps.0)

pub loop-fact-preserved-then-is_next : goal.loop-fact-preserved-then-is_next
loop-fact-preserved-then-is_next c =
    let fits : SFits w64 c.column_of.result = search rules in
    walked-id _ _ _ c.loop-fact.invariant c.in-Some.ensures.steps (sym c.is_next.ensures ∙ c.if-is_next.true) _ c.column_of.ensures (nat_abs-le c.column_of.result (search rules)) _
    (simp to_z-of_z at c.with_either-ends.ensures.least) (simp to_z-of_z at c.with_either-ends.ensures.greatest)

pub loop-fact-preserved : goal.loop-fact-preserved
loop-fact-preserved c = walked-other _ _ _ c.loop-fact.invariant c.in-Some.ensures.steps (sym c.is_next.ensures ∙ c.if-is_next.false)
