-- Lines of a script lead a follower of their texts from one state to the next.
use Rattle.std.proofs.Common.{◌≡◌, ℕ, zero, suc, ◌+◌, ◌<◌, ◌≤◌, ◌^◌, Bool, true, false, List, [], ◌∷◌, ◌++◌, length, refl, sym, ap, ◌∙◌, subst, arith, length-append, Option, Some, None, Result, Ok, Err}
use Rattle.std.specs.Prelude.{All, codes, if◌then◌else◌, is_none, take}
use Rattle.std.specs.Fmt.{decimal}
use Rattle.std.specs.List.{concat}
use Rattle.std.specs.Option.{option_map_or}
use Rattle.std.proofs.lemmas.List.Elements.{All-append, All-cons, All-nil}
use Rattle.cube_base.specs.declared.code.Code.{Code}
use Rattle.cube_model.specs.declared.edit.Edit.{Edit}
use Rattle.cube_model.specs.declared.statistic.CellStat.{CellStat}
use Rattle.cube_model.specs.declared.tree.Grow.{Grow}
use Rattle.cube_model.specs.Allocation.{Policy}
use Rattle.cube_model.specs.Facts.{IsId, after}
use Rattle.cube_core.specs.Growth.{growth_difference, judge_growth}
use Rattle.edit_plan.specs.Plan.{difference}
use Rattle.fact_groups.specs.Edits.{edited_id}
use Rattle.fact_keeper.specs.declared.content.Batch.{Batch}
use Rattle.fact_keeper.specs.declared.content.Stored.{Stored}
use Rattle.fact_records.specs.Judge.{judge}
use Rattle.region_algebra.specs.Space.{IsRegion}
use Rattle.schema_text.specs.Growth.{dims_with}
use Rattle.schema_text.specs.Schema.{IsSchema, SchemaValue, schema_policy, shape_of, weigh_of}
use Rattle.script_text.specs.declared.line.Line.{Line}
use Rattle.script_text.specs.declared.line.Line.TheVariants as line
use Rattle.script_text.specs.declared.reply.Reply.TheVariants as reply
use Rattle.script_text.specs.ScriptLine.{line_of}
use Rattle.script_text.proofs.NamedRegions.{OnFact, line_of-lies}
use Rattle.script_run.specs.Kept.{apply_all, batches, batches_at, batches_from, batches_of}
use Rattle.script_run.specs.Run.{State, accepted, growth_step, replied, run, schema_at, step, step_from, step_of}
use Rattle.row_feed.specs.declared.feed_line.FeedLine.TheVariants as feed
use Rattle.row_feed.specs.FeedLine.{feed_line_of}
use Rattle.row_feed.specs.FeedText.{batch_lines, behind_lines, feed_bytes, fields_line, said_fields}
use Rattle.row_feed.specs.PlainText.{IsPlainText}
use Rattle.row_feed.proofs.FeedBytes.{feed_bytes-append}
use Rattle.row_feed.proofs.ReadAgain.{edit-read, growth-read}
use Rattle.feed_run.specs.Following.{Base, Between, Work}
use Rattle.feed_run.specs.Leading.{feed_from, read_text, text_at}
use Rattle.cube_cli.proofs.Growths.{IsLeafOf, line_of-leaf}
use Rattle.store_law.proofs.GrownSchema.{grown-schema}
use Rattle.store_law.proofs.ReadIds.{line_of-id}
use Rattle.store_law.proofs.Scripted.{IsKeptAt, edit-of, run-kept}
use Rattle.feed_law.proofs.Leads.{Leads, leads-append}
use Rattle.feed_law.proofs.Rows.{behind-plain}
use Rattle.feed_law.proofs.Within.{batch-leads}
use Rattle.feed_law.proofs.Words.{plain-batch}

module _ (base : Option Base) (schema : SchemaValue) where
  abbrev weigh : CellStat → ℕ
  weigh = weigh_of schema.policy

  abbrev policy : Policy
  policy = schema_policy weigh schema

  -- a follower of a base over this schema, which has a state and so many batches
  abbrev pub work_at : State → ℕ → Work
  work_at state applied = record { schema = schema; state = state; applied = applied }

  -- The lines of a text lead from one state to another.
  pub record IsLed (state : State) (applied : ℕ) (text : List ℕ) (next : State) (committed : List Batch) : Type 0 where
    pub lines : List (List ℕ)
    pub text_is : text ≡ feed_bytes lines
    pub plain : All IsPlainText lines
    pub leads : Leads base (Between (work_at state applied)) lines (Between (work_at next (applied + length committed))) committed

  led-none : (state : State) (applied : ℕ) → IsLed state applied [] state []
  led-none state applied =
      let none : applied ≡ applied + 0 = omega arith in
      record { lines = []; text_is = refl; plain = All-nil IsPlainText; leads = (ap (λ (k : ℕ). Between (work_at state k)) none, refl) }

  led-append : (state : State) (applied : ℕ) (text : List ℕ) (middle : State) (first : List Batch) (more : List ℕ) (next : State) (later : List Batch) → IsLed state applied text middle first
      → IsLed middle (applied + length first) more next later → IsLed state applied (text ++ more) next (first ++ later)
  led-append state applied text middle first more next later here there =
      let all : applied + length first + length later ≡ applied + length (first ++ later) = omega (arith, length-append first later) in
      record {
        lines = here.lines ++ there.lines;
        text_is = ap (λ t. t ++ more) here.text_is ∙ ap (λ t. feed_bytes here.lines ++ t) there.text_is ∙ sym (feed_bytes-append here.lines there.lines);
        plain = All-append IsPlainText here.lines there.lines here.plain there.plain;
        leads =
            subst (λ (k : ℕ). Leads base (Between (work_at state applied)) (here.lines ++ there.lines) (Between (work_at next k)) (first ++ later)) all
            (leads-append base (Between (work_at state applied)) here.lines (Between (work_at middle (applied + length first))) first there.lines (Between (work_at next (applied + length first + length later))) later here.leads there.leads);
      }

  -- what a line that was read does, and its text
  abbrev IsLedBy : State → ℕ → Result Line Code → Type 0
  IsLedBy state applied read =
      IsLed state applied (read_text (schema_at schema (step_from weigh schema state read).state) (applied + 1) read (batches_from weigh schema state read)) (step_from weigh schema state read).state (batches_from weigh schema state read)

  module _ (state : State) (known : IsSchema (schema_at schema state)) (applied : ℕ) (room : applied + 1 < 2 ^ 64) where
    -- a line that commits a batch, once it is read back
    abbrev batch_line : State → Line → List ℕ
    batch_line next said = fields_line (codes "batch") (decimal (applied + 1) ∷ said_fields (schema_at schema next) said)

    led-batch : (said : Line) (next : State) (batch : Batch) → (step_of weigh schema state said).state ≡ next → batches_of weigh schema state said ≡ batch ∷ []
        → feed_line_of (schema_at schema state) (batch_line next said) ≡ Ok (feed.Batch (applied + 1) (Ok said)) → IsSchema (schema_at schema next)
        → IsLed state applied (read_text (schema_at schema next) (applied + 1) (Ok said) (batch ∷ [])) next (batch ∷ [])
    led-batch said next batch reaches one read after = record {
      lines = batch_lines (schema_at schema next) (applied + 1) said batch;
      text_is = refl;
      plain = All-cons IsPlainText (batch_line next said) (behind_lines next.dims batch) (plain-batch (schema_at schema state) (applied + 1) (said_fields (schema_at schema next) said) (Ok said) read) (behind-plain (schema_at schema next) after batch);
      leads =
          subst (λ (s : State). Leads base (Between (work_at state applied)) (batch_lines (schema_at schema s) (applied + 1) said batch) (Between (work_at s (applied + 1))) (batch ∷ [])) reaches
          (batch-leads base (work_at state applied) said batch (batch_line (step_of weigh schema state said).state said)
          (subst (λ (s : State). feed_line_of (schema_at schema state) (batch_line s said) ≡ Ok (feed.Batch (applied + 1) (Ok said))) (sym reaches) read) one);
    }

    edit-led : (change : Edit) → IsId (edited_id change) → OnFact (λ fact. IsRegion state.dims fact.region) (line.Edit change) → IsLedBy state applied (Ok (line.Edit change))
    edit-led change id region = by_judge (judge policy (shape_of schema) state.dims change state.facts) refl
      where
        reached : Option Code → State
        reached refusal = (option_map_or (λ refusal. replied state (reply.Refused refusal)) refusal (accepted weigh schema state (after change state.facts))).state

        made : Option Code → List Batch
        made refusal = if is_none refusal then difference policy state.dims change state.facts ∷ [] else []

        by_judge : (refusal : Option Code) → judge policy (shape_of schema) state.dims change state.facts ≡ refusal
            → IsLed state applied (read_text (schema_at schema (reached refusal)) (applied + 1) (Ok (line.Edit change)) (made refusal)) (reached refusal) (made refusal)
        by_judge (Some refusal) is = led-none state applied
        by_judge None is =
            led-batch (line.Edit change) (reached None) (difference policy state.dims change state.facts) (ap reached is) (ap made is)
            (edit-read (schema_at schema state) (applied + 1) change known room (edit-of policy (shape_of schema) state.dims change state.facts id region is)) known

    growth-led : (grow : Grow) → IsLeafOf state.dims grow → IsLedBy state applied (Ok (line.Grow grow))
    growth-led grow leaf = by_judge (judge_growth policy state.dims state.facts grow) refl
      where
        reached : Option Code → State
        reached refusal = (option_map_or (λ refusal. replied state (reply.Refused refusal)) refusal (growth_step weigh schema state grow)).state

        made : Option Code → List Batch
        made refusal = if is_none refusal then growth_difference policy (schema_at schema state) (dims_with grow state.dims) state.facts ∷ [] else []

        by_judge : (refusal : Option Code) → judge_growth policy state.dims state.facts grow ≡ refusal
            → IsLed state applied (read_text (schema_at schema (reached refusal)) (applied + 1) (Ok (line.Grow grow)) (made refusal)) (reached refusal) (made refusal)
        by_judge (Some refusal) is = led-none state applied
        by_judge None is =
            led-batch (line.Grow grow) (reached None) (growth_difference policy (schema_at schema state) (dims_with grow state.dims) state.facts) (ap reached is) (ap made is)
            (growth-read (schema_at schema state) (applied + 1) grow known room leaf.grows leaf.named)
            (grown-schema policy (schema_at schema state) state.facts grow known leaf is)

    said-led : (said : Line) → OnFact (λ fact. IsRegion state.dims fact.region) said → ((change : Edit) → said ≡ line.Edit change → IsId (edited_id change)) → ((grow : Grow) → said ≡ line.Grow grow → IsLeafOf state.dims grow)
        → IsLedBy state applied (Ok said)
    said-led (line.Edit change) region id leaf = edit-led change (id change refl) region
    said-led (line.Grow grow) region id leaf = growth-led grow (leaf grow refl)
    said-led line.Nothing region id leaf = led-none state applied
    said-led (line.Ask asked) region id leaf = led-none state applied

    line-led : (bytes : List ℕ) → IsLed state applied (text_at weigh schema state applied bytes) (step weigh schema state bytes).state (batches_at weigh schema state bytes)
    unfolding step batches_at text_at
    line-led bytes = by_line (line_of (schema_at schema state) bytes) refl
      where
        by_line : (read : Result Line Code) → line_of (schema_at schema state) bytes ≡ read → IsLedBy state applied read
        by_line (Err refusal) is = led-none state applied
        by_line (Ok said) is =
            said-led said (line_of-lies (schema_at schema state) known.trees bytes said is) (λ change same. line_of-id (schema_at schema state) change bytes (is ∙ ap Ok same))
            (λ grow same. line_of-leaf (schema_at schema state) known.trees grow bytes (is ∙ ap Ok same))

  -- a line commits one batch at most
  few-of : (state : State) (said : Line) → length (batches_of weigh schema state said) ≤ 1
  few-of state (line.Edit change) = either (is_none (judge policy (shape_of schema) state.dims change state.facts)) (difference policy state.dims change state.facts)
    where
      either : (b : Bool) (batch : Batch) → length (if b then batch ∷ [] else []) ≤ 1
      either true batch = omega arith
      either false batch = omega arith
  few-of state (line.Grow grow) = either (is_none (judge_growth policy state.dims state.facts grow)) (growth_difference policy (schema_at schema state) (dims_with grow state.dims) state.facts)
    where
      either : (b : Bool) (batch : Batch) → length (if b then batch ∷ [] else []) ≤ 1
      either true batch = omega arith
      either false batch = omega arith
  few-of state line.Nothing = omega arith
  few-of state (line.Ask asked) = omega arith

  few-at : (state : State) (bytes : List ℕ) → length (batches_at weigh schema state bytes) ≤ 1
  unfolding batches_at
  few-at state bytes = by_line (line_of (schema_at schema state) bytes)
    where
      by_line : (read : Result Line Code) → length (batches_from weigh schema state read) ≤ 1
      by_line (Err refusal) = omega arith
      by_line (Ok said) = few-of state said

  -- the first so many lines
  pub lines-led : (n : ℕ) (state : State) (applied : ℕ) (content : Stored) (lines : List (List ℕ)) → IsKeptAt schema state content → applied + n < 2 ^ 64
      → IsLed state applied (concat (take n (feed_from weigh schema state applied lines))) (run weigh schema state (take n lines)).state (batches weigh schema state (take n lines))
  lines-led zero state applied content lines kept room = led-none state applied
  lines-led (suc n) state applied content [] kept room = led-none state applied
  lines-led (suc n) state applied content (line ∷ lines) kept room =
      let now = (step weigh schema state line).state in
      let first = batches_at weigh schema state line in
      led-append state applied (text_at weigh schema state applied line) now first (concat (take n (feed_from weigh schema now (applied + length first) lines)))
      (run weigh schema now (take n lines)).state (batches weigh schema now (take n lines))
      (line-led state kept.known applied (omega arith) line)
      (lines-led n now (applied + length first) (apply_all (batches weigh schema state (line ∷ [])) content) lines (run-kept schema state content (line ∷ []) kept) (omega (arith, few-at state line)))
