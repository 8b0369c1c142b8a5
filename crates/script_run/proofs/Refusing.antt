-- What is answered where a cube does not do an edit or a growth.
use Rattle.std.proofs.Common.{◌≡◌, ℕ, List, [], ◌∷◌, Option, Some, None, Result, Err, refl}
use Rattle.std.specs.Option.{option_map_or}
use Rattle.std.specs.Prelude.{if◌then◌else◌, is_none, IfErr, IfOk, IfSome, OnErr, OnOk, ⊤}
use Rattle.cube_base.specs.declared.code.Code.{Code}
use Rattle.cube_base.specs.declared.code.Code.TheVariants as code
use Rattle.cube_model.specs.declared.edit.Edit.{Edit}
use Rattle.cube_model.specs.declared.statistic.CellStat.{CellStat}
use Rattle.cube_model.specs.declared.tree.Grow.{Grow}
use Rattle.cube_core.specs.declared.cube.Receipt.{Receipt}
use Rattle.cube_core.specs.declared.fault.EditFault.{EditFault}
use Rattle.cube_core.specs.declared.fault.EditFault.TheVariants as edit_fault
use Rattle.cube_core.specs.Cube.{CountsEditFault, CubeValue, IsFaultOf, cube_judgement}
use Rattle.cube_core.specs.Growth.{IsGrowthFaultOf, judge_growth_in}
use Rattle.fact_keeper.specs.declared.content.Batch.{Batch}
use Rattle.fact_keeper.specs.Keeper.{KeeperTold}
use Rattle.script_text.specs.declared.reply.Reply.{Reply}
use Rattle.script_text.specs.declared.reply.Reply.TheVariants as reply
use Rattle.script_text.specs.Reply.{NamesCells}
use Rattle.script_run.specs.declared.script.LineStop.{LineStop}
use Rattle.script_run.specs.Kept.{Commits}
use Rattle.script_run.specs.Run.{Step, cube_at, replied, state_of}
use Rattle.script_run.specs.Seen.{Told, told_of}
use Rattle.script_run.specs.Stop.{IsStopOf, refusal_reply}
use Rattle.script_run.proofs.Batches.{commits_none}

-- a fault is one of what is judged so
abbrev pub IsJudged : Option Code → EditFault → Type 0
IsJudged judged (edit_fault.Code refusal) = judged ≡ Some refusal
IsJudged judged (edit_fault.Rows would) = judged ≡ Some code.Rows
IsJudged judged edit_fault.KeepFault = judged ≡ None
IsJudged judged edit_fault.Memory = ⊤

pub edit_judged : {P : Type 0} (weigh : P → CellStat → ℕ) (cube : CubeValue P) (edit : Edit) (fault : EditFault) → IsFaultOf weigh cube edit fault → IsJudged (cube_judgement weigh cube edit) fault
edit_judged weigh cube edit (edit_fault.Code refusal) told = told.0
edit_judged weigh cube edit (edit_fault.Rows would) told = told.0
edit_judged weigh cube edit edit_fault.KeepFault told = told
edit_judged weigh cube edit edit_fault.Memory told = tt

pub growth_judged : {P : Type 0} (weigh : P → CellStat → ℕ) (cube : CubeValue P) (grow : Grow) (fault : EditFault) → IsGrowthFaultOf weigh cube grow fault → IsJudged (judge_growth_in weigh cube grow) fault
growth_judged weigh cube grow (edit_fault.Code refusal) told = told.0
growth_judged weigh cube grow (edit_fault.Rows would) told = told.0
growth_judged weigh cube grow edit_fault.KeepFault told = told
growth_judged weigh cube grow edit_fault.Memory told = tt

-- a keeper tells what it told before
pub told_same : {Q : Type 0} (tells : Q → KeeperTold) (old new : Q) → (tells new).content ≡ (tells old).content → (tells new).journal ≡ (tells old).journal → told_of tells new ≡ told_of tells old
told_same tells old new same_content same_journal = rw (same_content, same_journal) refl

-- What a line is answered that does this step and commits these batches, or why it is not done, where a cube and a keeper stand so
-- before it and after it.
pub record IsAnswered {P : Type 0} (cube cube_after : CubeValue P) (before after : Told) (faults faults_after : ℕ) (step : Step) (committed : List Batch) (result : Result (Option Reply) LineStop) : Type 0 where
  pub reply : IfOk result (λ said. said ≡ step.reply)
  pub state : OnOk result (cube_after ≡ cube_at cube step.state)
  pub cells : IfOk result (λ said. IfSome said (NamesCells cube_after.schema.dims))
  pub same : OnErr result (cube_after ≡ cube)
  pub kept : OnOk result (Commits committed before after)
  pub same_kept : OnErr result (after ≡ before)
  pub count : OnOk result (faults_after ≡ faults)
  pub stop : IfErr result (IsStopOf committed faults faults_after)

-- What is judged so is refused, or a keeper failed, or it ran out of memory: the cube and the keeper stand as before.
pub not_done : {P : Type 0} (cube cube_after : CubeValue P) (before after : Told) (faults faults_after : ℕ) (judged : Option Code) (accepted : Step) (batch : Batch) (fault : EditFault)
    → IsJudged judged fault → cube_after ≡ cube → after ≡ before → CountsEditFault {R = Receipt} faults faults_after (Err fault)
    → IsAnswered cube cube_after before after faults faults_after (option_map_or (λ refusal. replied (state_of cube) (reply.Refused refusal)) judged accepted) (if is_none judged then batch ∷ [] else []) (refusal_reply fault)
not_done cube cube_after before after faults faults_after judged accepted batch (edit_fault.Code refusal) told same same_kept counts = record {
  reply = rw told refl;
  state = rw told same;
  cells = tt;
  same = tt;
  kept = rw told (commits_none before after same_kept);
  same_kept = tt;
  count = counts;
  stop = tt;
}
not_done cube cube_after before after faults faults_after judged accepted batch (edit_fault.Rows would) told same same_kept counts = record {
  reply = rw told refl;
  state = rw told same;
  cells = tt;
  same = tt;
  kept = rw told (commits_none before after same_kept);
  same_kept = tt;
  count = counts;
  stop = tt;
}
not_done cube cube_after before after faults faults_after judged accepted batch edit_fault.KeepFault told same same_kept counts = record {
  reply = tt;
  state = tt;
  cells = tt;
  same = same;
  kept = tt;
  same_kept = same_kept;
  count = tt;
  stop = (counts, rw told refl);
}
not_done cube cube_after before after faults faults_after judged accepted batch edit_fault.Memory told same same_kept counts = record {
  reply = tt;
  state = tt;
  cells = tt;
  same = same;
  kept = tt;
  same_kept = same_kept;
  count = tt;
  stop = counts;
}
