-- One fact more is drawn and put.
use Rattle.std.proofs.Common.{◌+◌, ◌∙◌, ap, arith, refl, sym}
use Rattle.cube_model.specs.declared.edit.Edit.TheVariants.{Put}
use Rattle.drill_run.specs.Doing.{blank_tally, edit_once}
use Rattle.drill_run.specs.Edits.{fact_after}
use Rattle.drill_run.specs.Numbers.{drawn_number, next_state}
use Rattle.drill_run.specs.Space.{drill_schema}
use Rattle.drill_run.proofs.Folding.{fact-next, put-more, state-more}
use Rattle.drill_run.proofs.Lying.{drawn-placed}
use Rattle.drill_run.proofs.drill.Drill.put_all.Goals as goal

pub edit-requires-clause-over : goal.edit-requires-clause-over
edit-requires-clause-over c =
    let state = c.loop-earlier.draws in
    drawn-placed (c.loop-earlier.earlier + 1) (drawn_number (next_state state)) (drawn_number (next_state (next_state state))) (drawn_number (next_state (next_state (next_state state)))) (drawn_number c.fact.new.self)
    c.fact.result c.fact.ensures.fact (omega arith) (omega arith)

pub loop-earlier-preserved : goal.loop-earlier-preserved
loop-earlier-preserved c =
    let n = c.args.n in
    let earlier = c.loop-earlier.earlier in
    let before = c.loop-earlier.invariant in
    let fact = fact-next n earlier (earlier + 1) c.loop-earlier.draws c.fact.new.self c.fact.result before.draws refl c.fact.ensures.state c.fact.ensures.fact in
    record {
      draws = state-more n earlier c.loop-earlier.draws c.fact.new.self before.draws c.fact.ensures.state;
      done = c.in_ok-edit.ensures.done ∙ ap (λ f. edit_once drill_schema (Put f) c.loop-earlier.self) fact ∙ ap (edit_once drill_schema (Put (fact_after n earlier))) before.done ∙ sym (put-more drill_schema n earlier blank_tally);
      few = omega (arith, c.in_ok-edit.ensures.grows, before.few);
      few_refused = omega (arith, c.in_ok-edit.ensures.refuses, before.few_refused);
    }
