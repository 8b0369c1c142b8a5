-- What a leader does at a line, and that it can be told.
use Rattle.std.proofs.Common.{◌≡◌, ℕ, zero, suc, ◌<◌, ◌≤◌, Bool, true, false, List, [], ◌∷◌, filter, get_or, length, map, Result, Ok, Err, Option, Some, None, refl, sym, ap, subst, arith}
use Rattle.std.specs.Prelude.{All, IfOk, IfSome, if◌then◌else◌, is_none, slice_get, slice_set}
use Rattle.std.specs.Option.{option_map_or, option_to_list}
use Rattle.std.specs.List.{list_any}
use Rattle.std.proofs.lemmas.List.Edits.{length-insert}
use Rattle.std.proofs.lemmas.List.Elements.{All-filter, All-map}
use Rattle.std.proofs.lemmas.Option.{slice_get-get_or}
use Rattle.cube_base.specs.declared.code.Code.{Code}
use Rattle.cube_model.specs.declared.edit.Edit.{Edit}
use Rattle.cube_model.specs.declared.edit.Edit.TheVariants.{Put, Change, Withdraw}
use Rattle.cube_model.specs.declared.edit.Fact.{Fact}
use Rattle.cube_model.specs.declared.statistic.CellStat.{CellStat}
use Rattle.cube_model.specs.declared.tree.Grow.{Grow}
use Rattle.cube_model.specs.Allocation.{ExtendedFact, Policy, extended}
use Rattle.cube_model.specs.Cells.{AreRows}
use Rattle.cube_model.specs.Facts.{after}
use Rattle.cube_model.specs.Growing.{grown, new_child, up_to_last}
use Rattle.cube_model.specs.Tree.{Dimension, Entry, is_under}
use Rattle.cube_core.specs.Cube.{CubeValue}
use Rattle.cube_core.specs.Growth.{growth_difference, judge_growth}
use Rattle.cube_core.proofs.Rows.{AreRows-allocation, extended-among, rows_among}
use Rattle.edit_plan.specs.Plan.{difference, kept_rows}
use Rattle.fact_keeper.specs.declared.content.Batch.{Batch}
use Rattle.fact_keeper.specs.declared.content.KeptRows.{KeptRows}
use Rattle.fact_records.specs.Judge.{judge}
use Rattle.fact_records.specs.Valid.{IsEditOf}
use Rattle.region_algebra.proofs.Growing.{grown_dims-at}
use Rattle.schema_text.specs.Growth.{IsGrowOf, dims_with}
use Rattle.schema_text.specs.Schema.{SchemaValue, schema_policy, shape_of, weigh_of}
use Rattle.schema_text.specs.declared.word.PolicyWord.{PolicyWord}
use Rattle.script_text.specs.declared.line.Line.{Line}
use Rattle.script_text.specs.declared.line.Line.TheVariants as line
use Rattle.script_text.specs.declared.reply.Reply.{Reply}
use Rattle.script_text.specs.declared.reply.Reply.TheVariants.{Done, Refused, Told}
use Rattle.script_text.specs.LineOf.{IsLineOf}
use Rattle.script_text.specs.ScriptLine.{line_of}
use Rattle.script_run.specs.declared.break_off.BreakOff.{BreakOff}
use Rattle.script_run.specs.Kept.{batches_at, batches_from}
use Rattle.script_run.specs.Run.{State, accepted, cube_at, growth_step, refusals_in, replied, schema_at, state_of, step_from}
use Rattle.script_run.specs.Seen.{KeeperSeen, SinkSeen}
use Rattle.script_run.proofs.Batches.{batches-read}
use Rattle.script_run.proofs.Steps.{step-read}
use Rattle.row_feed.specs.FeedText.{AreRowsOf, HasParent, IsSaid, IsSaidEdit}
use Rattle.feed_run.specs.declared.lead.LeadRun.{LeadRun}
use Rattle.feed_run.specs.Leading.{text_at}
use Rattle.feed_run.specs.LeadTurn.{IsTellable, LeadsLine, LeadsOn, LeadsRead, state_in, weigh_in}
use Rattle.feed_run.proofs.LeadTexts.{text-read}

-- a line commits one batch, or none
one_or_none : (b : Bool) (batch : Batch) → length (if b then batch ∷ [] else []) ≤ 1
one_or_none true batch = omega arith
one_or_none false batch = omega arith

pub few_batches : (weigh : CellStat → ℕ) (schema : SchemaValue) (state : State) (read : Result Line Code) → length (batches_from weigh schema state read) ≤ 1
few_batches weigh schema state (Err refusal) = omega arith
few_batches weigh schema state (Ok line.Nothing) = omega arith
few_batches weigh schema state (Ok (line.Edit change)) = one_or_none (is_none (judge (schema_policy weigh schema) (shape_of schema) state.dims change state.facts)) _
few_batches weigh schema state (Ok (line.Grow grow)) = one_or_none (is_none (judge_growth (schema_policy weigh schema) state.dims state.facts grow)) _
few_batches weigh schema state (Ok (line.Ask asked)) = omega arith

pub few_batches_at : (weigh : CellStat → ℕ) (schema : SchemaValue) (state : State) (bytes : List ℕ) → length (batches_at weigh schema state bytes) ≤ 1
unfolding batches_at
few_batches_at weigh schema state bytes = few_batches weigh schema state (line_of (schema_at schema state) bytes)

-- and is refused once at most
pub few_refusals : (reply : Option Reply) → refusals_in reply ≤ 1
few_refusals None = omega arith
few_refusals (Some (Done refreshed)) = omega arith
few_refusals (Some (Refused refusal)) = omega arith
few_refusals (Some (Told asked answer)) = omega arith

-- what is done at a line that was read is done at its bytes
pub leads_line : {T : Type 0} (bytes : List ℕ) (read : Result Line Code) (old new : LeadRun) (sink : SinkSeen) (keeper : KeeperSeen) (result : Result T BreakOff) → line_of old.cube.schema bytes ≡ read
    → LeadsRead read old new sink keeper result → LeadsLine bytes old new sink keeper result
leads_line bytes read old new sink keeper result is_read leads =
    let weigh = weigh_in old in
    let schema = old.cube.schema in
    let state = state_in old in
    let committed = batches_from weigh schema state read in
    subst (λ now. LeadsOn now (batches_at weigh schema state bytes) (text_at weigh schema state old.told bytes) old new sink keeper result) (sym (step-read weigh schema state bytes read is_read))
    (subst (λ l. LeadsOn (step_from weigh schema state read) l (text_at weigh schema state old.told bytes) old new sink keeper result) (sym (batches-read weigh schema state bytes read is_read))
    (subst (λ t. LeadsOn (step_from weigh schema state read) committed t old new sink keeper result) (sym (text-read weigh schema state old.told bytes read is_read)) leads))

-- the rows that a batch has are those of allocations
rows_kept : (policy : Policy) (dims : List Dimension) (facts : List Fact) (p : ExtendedFact → Bool) → AreRowsOf dims (map kept_rows (filter p (extended policy dims facts)))
rows_kept policy dims facts p =
    let rows = rows_among policy dims facts facts in
    let of_each : All (λ (e : ExtendedFact). AreRows dims e.allocation.rows) rows =
    All-map (λ (e : ExtendedFact). AreRows dims e.allocation.rows) _ facts (λ k d within. AreRows-allocation policy dims facts _) in
    subst (λ all. AreRowsOf dims (map kept_rows (filter p all))) (sym (extended-among policy dims facts))
    (All-map (λ (kept : KeptRows). AreRows dims kept.rows) kept_rows (filter p rows) (All-filter p (λ (e : ExtendedFact). AreRows dims e.allocation.rows) rows of_each))

-- a dimension with a leaf more has no fewer nodes
up_to_last-le : {X : Type 0} (p : X → Bool) (xs : List X) → up_to_last p xs ≤ length xs
up_to_last-le p [] = omega arith
up_to_last-le p (x ∷ xs) = by_any (list_any p (x ∷ xs)) (up_to_last-le p xs)
  where
    by_any : (some : Bool) → up_to_last p xs ≤ length xs → (if some then suc (up_to_last p xs) else 0) ≤ suc (length xs)
    by_any true le = omega (arith, le)
    by_any false le = omega arith

grown-wider : (dim : Dimension) (parent : ℕ) (name : List ℕ) → length dim ≤ length (grown dim parent name)
unfolding grown
grown-wider dim parent name =
    let within = up_to_last-le (λ (e : Entry). is_under dim e.number parent) dim in
    omega (arith, length-insert dim (up_to_last (λ (e : Entry). is_under dim e.number parent) dim) (new_child dim parent name) within)

put-length : (dims : List Dimension) (d : ℕ) (other : Dimension) → length (slice_set dims d other) ≡ length dims
put-length [] d other = refl
put-length (e ∷ dims) zero other = refl
put-length (e ∷ dims) (suc d) other = ap suc (put-length dims d other)

put_there : (dims : List Dimension) (d : ℕ) (other : Dimension) (n : ℕ) → d < length dims → n < length other → IfSome (slice_get (slice_set dims d other) d) (λ tree. n < length tree)
put_there [] d other n within under = absurd (omega (arith, within))
put_there (e ∷ dims) zero other n within under = under
put_there (e ∷ dims) (suc d) other n within under = put_there dims d other n (omega arith) under

-- so that a growth names what is there behind it
parent_there : (dims : List Dimension) (grow : Grow) → IsGrowOf dims grow → HasParent (dims_with grow dims) grow
parent_there dims grow is =
    let tree = get_or dims grow.dim [] in
    let found : slice_get dims grow.dim ≡ Some tree = slice_get-get_or dims grow.dim [] is.dim in
    let under : grow.parent < length tree = subst (λ there. IfSome there (λ dim. grow.parent < length dim)) found is.parent in
    let wide = grown tree grow.parent grow.name in
    let at = grown_dims-at dims grow.dim tree grow.parent grow.name found in
    record {
      dim = rw (at, put-length dims grow.dim wide) is.dim;
      parent = rw at (put_there dims grow.dim wide grow.parent is.dim (omega (arith, under, grown-wider tree grow.parent grow.name)));
    }

edit_there : (schema : SchemaValue) (change : Edit) → IsEditOf (shape_of schema) schema.dims change → IsSaidEdit schema change
edit_there schema (Put fact) is = is
edit_there schema (Change fact) is = is
edit_there schema (Withdraw id) is = tt

-- the rows of the first of some batches
abbrev head_rows : List Batch → List KeptRows
head_rows [] = []
head_rows (batch ∷ more) = batch.rows

-- A line that was read, and commits a batch, can be told over the schema behind it.
pub tellable : (weigh : CellStat → ℕ) (schema : SchemaValue) (facts : List Fact) (read : Result Line Code) (found : Option Batch) → IfOk read (IsLineOf schema)
    → option_to_list found ≡ batches_from weigh schema (record { dims = schema.dims; facts = facts }) read
    → IsTellable (schema_at schema (step_from weigh schema (record { dims = schema.dims; facts = facts }) read).state) read found
tellable weigh schema facts (Err refusal) None is are = refl
tellable weigh schema facts (Err refusal) (Some batch) is are = cc are
tellable weigh schema facts (Ok said) None is are = tt
tellable weigh schema facts (Ok line.Nothing) (Some batch) is are = cc are
tellable weigh schema facts (Ok (line.Ask asked)) (Some batch) is are = cc are
tellable weigh schema facts (Ok (line.Edit change)) (Some batch) is are = by_judge (judge policy (shape_of schema) schema.dims change facts) are
  where
    policy : Policy
    policy = schema_policy weigh schema

    state : State
    state = record { dims = schema.dims; facts = facts }

    by_judge : (refused : Option Code) → batch ∷ [] ≡ (if is_none refused then difference policy schema.dims change facts ∷ [] else [])
        → IsSaid (schema_at schema (option_map_or (λ refusal. replied state (Refused refusal)) refused (accepted weigh schema state (after change facts))).state) (line.Edit change)
        × AreRowsOf (option_map_or (λ refusal. replied state (Refused refusal)) refused (accepted weigh schema state (after change facts))).state.dims batch.rows
    by_judge None same = (edit_there schema change is, subst (λ l. AreRowsOf schema.dims (head_rows l)) (sym same) (rows_kept policy schema.dims (after change facts) _))
    by_judge (Some refusal) same = cc same
tellable weigh schema facts (Ok (line.Grow grow)) (Some batch) is are = by_judge (judge_growth policy schema.dims facts grow) are
  where
    policy : Policy
    policy = schema_policy weigh schema

    state : State
    state = record { dims = schema.dims; facts = facts }

    by_judge : (refused : Option Code) → batch ∷ [] ≡ (if is_none refused then growth_difference policy (schema_at schema state) (dims_with grow schema.dims) facts ∷ [] else [])
        → IsSaid (schema_at schema (option_map_or (λ refusal. replied state (Refused refusal)) refused (growth_step weigh schema state grow)).state) (line.Grow grow)
        × AreRowsOf (option_map_or (λ refusal. replied state (Refused refusal)) refused (growth_step weigh schema state grow)).state.dims batch.rows
    by_judge None same = (parent_there schema.dims grow is, subst (λ l. AreRowsOf (dims_with grow schema.dims) (head_rows l)) (sym same) (rows_kept policy (dims_with grow schema.dims) facts _))
    by_judge (Some refusal) same = cc same

-- the same over the cube behind it
pub tellable_behind : (before after : CubeValue PolicyWord) (read : Result Line Code) (found : Option Batch) → IfOk read (IsLineOf before.schema) → option_to_list found ≡ batches_from (weigh_of before.policy) before.schema (state_of before) read
    → after ≡ cube_at before (step_from (weigh_of before.policy) before.schema (state_of before) read).state → IsTellable after.schema read found
tellable_behind before after read found is are stands =
    subst (λ (cube : CubeValue PolicyWord). IsTellable cube.schema read found) (sym stands) (tellable (weigh_of before.policy) before.schema before.facts read found is are)
