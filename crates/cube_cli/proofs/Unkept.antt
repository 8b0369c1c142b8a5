-- A script over a cube without facts, where nothing is kept.
use Rattle.std.proofs.Common.{◌≡◌, ℕ, true, false, List, [], ◌++◌, refl, inl, ap, subst, ◌∙◌, arith, Option, Result, Ok, Err}
use Rattle.std.specs.Prelude.{IfErr}
use Rattle.std.proofs.KnownBytes.{Consumes-nil}
use Rattle.cube_base.specs.Outside.{Rose}
use Rattle.cube_core.specs.Cube.{CubeValue}
use Rattle.cube_model.specs.declared.statistic.CellStat.{CellStat}
use Rattle.text_lines.specs.Pieces.{ended_lines}
use Rattle.schema_text.specs.Schema.{SchemaValue}
use Rattle.script_run.specs.declared.break_off.BreakOff.TheVariants as break_off
use Rattle.script_run.specs.declared.streaming.StreamStop.{StreamStop}
use Rattle.script_run.specs.declared.streaming.StreamStop.TheVariants as stop
use Rattle.script_run.specs.Run.{empty_state, run, state_of}
use Rattle.script_run.specs.Seen.{KeeperSeen, SinkSeen, SourceSeen}
use Rattle.script_run.specs.Stream.{AnsweredTaken, CommitsOn, EndsStream, Ground, is_keep_stop}
use Rattle.script_run.proofs.Writing.{wrote_nothing}
use Rattle.cube_cli.specs.Trying.{EndsUnkept}

-- what is done over a new cube, and nothing is kept
abbrev pub new_ground : (CellStat → ℕ) → SchemaValue → Ground
new_ground weigh schema = record { weigh = weigh; schema = schema; first = empty_state schema; keeps = false }

abbrev pub cube_ground : {P : Type 0} → (P → CellStat → ℕ) → CubeValue P → Ground
cube_ground weigh cube = record { weigh = weigh cube.policy; schema = cube.schema; first = state_of cube; keeps = false }

pub ground_new : {P : Type 0} (weigh : P → CellStat → ℕ) (cube : CubeValue P) (policy : P) (schema : SchemaValue) → cube.policy ≡ policy → cube.schema ≡ schema → cube.facts ≡ []
    → cube_ground weigh cube ≡ new_ground (weigh policy) schema
ground_new weigh cube policy schema policy_is schema_is none =
    ap (λ p. record { weigh = weigh p; schema = cube.schema; first = state_of cube; keeps = false }) policy_is
    ∙ ap (λ fs. record { weigh = weigh policy; schema = cube.schema; first = record { dims = cube.schema.dims; facts = fs }; keeps = false }) none
    ∙ ap (λ s. new_ground (weigh policy) s) schema_is

-- then nothing is said of the keeper
module _ (ground : Ground) (keeps : ground.keeps ≡ false) (text : List ℕ) (room : ℕ) (source : SourceSeen) (sink : SinkSeen) (keeper other : KeeperSeen) where
  no_commits : (lines : List (List ℕ)) → CommitsOn ground lines other
  no_commits lines = record { commits = λ kept. absurd (cc (kept, keeps)) }

  answered : (taken : List ℕ) (done : ℕ) → AnsweredTaken ground text taken (record { source = source; sink = sink; keeper = keeper }) done → AnsweredTaken ground text taken (record { source = source; sink = sink; keeper = other }) done
  answered taken done is = record { count = is.count; write = is.write; answered = is.answered; kept = no_commits (ended_lines (text ++ taken)) }

  pub any_keeper : (result : Result ℕ StreamStop) → EndsStream ground text room (record { source = source; sink = sink; keeper = keeper }) result → EndsStream ground text room (record { source = source; sink = sink; keeper = other }) result
  any_keeper (Ok refused) ends =
      let all = ends.1 in
      (ends.0, record { taken = all.taken; bytes = all.bytes; few = all.few; end = all.end; done = all.done; kept = no_commits _ })
  any_keeper (Err (stop.Broke off)) ends =
      let broke = ends.1 in
      (ends.0, record { taken = broke.taken; bytes = broke.bytes; few = broke.few; lines = broke.lines; lines_are = broke.lines_are; broke = broke.broke; near = broke.near; kept = λ kept. absurd (cc (kept, keeps)) })
  any_keeper (Err (stop.Read done)) ends =
      let failed = ends.1 in
      (ends.0, record { taken = failed.taken; bytes = failed.bytes; few = failed.few; answered = answered failed.taken done failed.answered })
  any_keeper (Err (stop.TooLong done)) ends =
      let long = ends.1 in
      (ends.0, record { taken = long.taken; byte = long.byte; bytes = long.bytes; all = long.all; answered = answered long.taken done long.answered })

pub ends_unkept : (ground : Ground) (weigh : CellStat → ℕ) (schema : SchemaValue) (text : List ℕ) (room : ℕ) (source : SourceSeen) (sink : SinkSeen) (keeper : KeeperSeen) (result : Result ℕ StreamStop) → ground ≡ new_ground weigh schema
    → EndsStream ground text room (record { source = source; sink = sink; keeper = keeper }) result → EndsUnkept weigh schema text room source sink result
ends_unkept ground weigh schema text room source sink keeper result is ends = λ other.
    any_keeper (new_ground weigh schema) refl text room source sink keeper other result
    (subst (λ g. EndsStream g text room (record { source = source; sink = sink; keeper = keeper }) result) is ends)

-- a count that stands at 0 does not rise, so that the keeper is no cause
pub no_cause : (result : Result ℕ StreamStop) → IfErr result (λ stop. is_keep_stop stop ≡ true → Rose 0 0) → IfErr result (λ stop. is_keep_stop stop ≡ false)
no_cause (Ok refused) cause = tt
no_cause (Err (stop.Broke (break_off.Write line))) cause = refl
no_cause (Err (stop.Broke (break_off.SinkMemory line))) cause = refl
no_cause (Err (stop.Broke (break_off.Memory done))) cause = refl
no_cause (Err (stop.Broke (break_off.Keep done))) cause = absurd (omega (arith, (cause refl).risen))
no_cause (Err (stop.Read done)) cause = refl
no_cause (Err (stop.TooLong done)) cause = refl

-- no cube was made, and no line was done
pub none_done : (weigh : CellStat → ℕ) (schema : SchemaValue) (text : List ℕ) (room : ℕ) (left : Option (List ℕ)) (read_faults : ℕ) (taken : Option (List ℕ)) (faults : ℕ)
    → EndsUnkept weigh schema text room (record { left = left; left_after = left; faults = read_faults; faults_after = read_faults }) (record { taken = taken; taken_after = taken; faults = faults; faults_after = faults }) (Err (stop.Broke (break_off.Memory 0)))
none_done weigh schema text room left read_faults taken faults = λ keeper. (
  refl,
  record {
    taken = [];
    bytes = Consumes-nil left;
    few = omega arith;
    lines = ended_lines (text ++ []);
    lines_are = inl refl;
    broke = (refl, wrote_nothing (run weigh schema (empty_state schema) (ended_lines (text ++ []))).replies taken);
    near = tt;
    kept = λ kept. cc;
  },
)
