-- No line was done before.
use Rattle.std.proofs.Common.{◌∷◌, [], refl, subst, arith, true, ap}
use Rattle.schema_text.specs.Schema.{weigh_of}
use Rattle.schema_text.specs.declared.word.PolicyWord.{PolicyWord}
use Rattle.script_run.specs.Kept.{HasKept}
use Rattle.script_run.specs.Progress.{HasDone, Working}
use Rattle.script_run.specs.Run.{state_of}
use Rattle.script_run.specs.Seen.{KeeperSeen, SinkSeen, keeper_seen, sink_seen}
use Rattle.script_run.specs.StreamTurn.{EndsLines}
use Rattle.script_run.proofs.Doing.{none_done}
use Rattle.script_run.proofs.Keeping.{none_kept}
use Rattle.script_run.proofs.one_line.run_line.Given.{Over}
use Rattle.script_run.proofs.one_line.run_line.Goals as goal

-- the cube at work at the start, and what is seen of the line
abbrev begun : (g : Over) (c : goal.After-drop g) → Working PolicyWord
begun g c = record { cube = c.args.cube; keeps = true; gathered = []; done = 0; refused = 0 }

abbrev sink : (g : Over) (c : goal.After-drop g) → SinkSeen
sink g c = sink_seen g.K.Sink.tells c.args.out.now c.end_line-ended.new.out

abbrev keeper : (g : Over) (c : goal.After-drop g) → KeeperSeen
keeper g c = keeper_seen g.Q.Keeper.tells c.args.keeper.now c.end_line-ended.new.keeper

ends : (g : Over) (c : goal.After-drop g) → EndsLines weigh_of (c.args.line.now ∷ []) (begun g c) (sink g c) (keeper g c) c.end_line-ended.result
ends g c = subst (λ (working : Working PolicyWord). EndsLines weigh_of (c.args.line.now ∷ []) working (sink g c) (keeper g c) c.end_line-ended.result) c.new-run.ensures c.end_line-ended.ensures.ends

none : (g : Over) (c : goal.After-drop g) → HasDone (weigh_of c.args.cube.policy) c.args.cube.schema (state_of c.args.cube) [] (sink g c).taken (sink g c).taken (begun g c)
none g c = none_done {P = PolicyWord} (weigh_of c.args.cube.policy) (sink g c).taken c.args.cube true

nothing : (g : Over) (c : goal.After-drop g) → HasKept (weigh_of c.args.cube.policy) c.args.cube.schema (state_of c.args.cube) [] (keeper g c).told (keeper g c).told []
nothing g c = none_kept (weigh_of c.args.cube.policy) c.args.cube.schema (state_of c.args.cube) (keeper g c).told

pub end_line-ended-requires-clause-few : goal.end_line-ended-requires-clause-few
end_line-ended-requires-clause-few g c = omega (arith, ap (λ w. w.done) c.new-run.ensures)

pub returns-clause-done : goal.returns-clause-done
returns-clause-done g c = (ends g c).done c.args.cube.schema (state_of c.args.cube) [] (sink g c).taken (none g c)

pub returns-clause-broken : goal.returns-clause-broken
returns-clause-broken g c = (ends g c).broken c.args.cube.schema (state_of c.args.cube) [] (sink g c).taken (none g c)

pub returns-clause-kept : goal.returns-clause-kept
returns-clause-kept g c = (ends g c).kept c.args.cube.schema (state_of c.args.cube) [] (sink g c).taken (keeper g c).told refl (none g c) (nothing g c)

pub returns-clause-stopped : goal.returns-clause-stopped
returns-clause-stopped g c = (ends g c).stopped c.args.cube.schema (state_of c.args.cube) [] (sink g c).taken (keeper g c).told refl (none g c) (nothing g c)

pub returns-clause-other_cause : goal.returns-clause-other_cause
returns-clause-other_cause g c = (ends g c).other_cause refl
