-- What lines commit: one after the other, and behind others.
use Rattle.std.proofs.Common.{◌≡◌, ℕ, Bool, true, false, List, [], ◌∷◌, ◌++◌, length, Option, Some, None, Result, Ok, Err, refl, sym, ap, ◌∙◌, subst, append-nil, append_assoc, inl, inr, arith}
use Rattle.std.specs.Prelude.{◌⊎◌, option_map}
use Rattle.std.proofs.lemmas.List.Sums.{fold-append}
use Rattle.cube_base.specs.declared.code.Code.{Code}
use Rattle.cube_model.specs.declared.edit.Fact.{Fact}
use Rattle.cube_model.specs.declared.statistic.CellStat.{CellStat}
use Rattle.fact_keeper.specs.declared.content.Batch.{Batch}
use Rattle.fact_keeper.specs.declared.content.Stored.{Stored}
use Rattle.fact_keeper.specs.Batch.{apply_batch}
use Rattle.schema_text.specs.Schema.{SchemaValue}
use Rattle.script_text.specs.declared.line.Line.{Line}
use Rattle.script_text.specs.declared.line.Line.TheVariants as line
use Rattle.script_text.specs.ScriptLine.{line_of}
use Rattle.script_run.specs.Kept.{Commits, apply_all, batches, batches_at, batches_from}
use Rattle.script_run.specs.Run.{State, run, schema_at, step}
use Rattle.script_run.specs.Seen.{Told}
use Rattle.script_run.specs.Stop.{IsReadyFor, is_edit}

-- lines behind others
batches-append : (weigh : CellStat → ℕ) (schema : SchemaValue) (first : State) (lines more : List (List ℕ))
    → batches weigh schema first (lines ++ more) ≡ batches weigh schema first lines ++ batches weigh schema (run weigh schema first lines).state more
batches-append weigh schema first [] more = refl
batches-append weigh schema first (line ∷ lines) more =
    let now = (step weigh schema first line).state in
    ap (λ l. batches_at weigh schema first line ++ l) (batches-append weigh schema now lines more)
    ∙ sym (append_assoc (batches_at weigh schema first line) (batches weigh schema now lines) (batches weigh schema (run weigh schema now lines).state more))

-- one line more
pub batches-push : (weigh : CellStat → ℕ) (schema : SchemaValue) (first : State) (lines : List (List ℕ)) (line : List ℕ)
    → batches weigh schema first (lines ++ line ∷ []) ≡ batches weigh schema first lines ++ batches_at weigh schema (run weigh schema first lines).state line
batches-push weigh schema first lines line =
    batches-append weigh schema first lines (line ∷ []) ∙ ap (λ l. batches weigh schema first lines ++ l) (append-nil (batches_at weigh schema (run weigh schema first lines).state line))

-- nothing is committed
pub commits_none : (before after : Told) → after ≡ before → Commits [] before after
commits_none before after same = subst (λ told. Commits [] before told) (sym same) (record { content = none_applied before.content; journal = none_appended before.journal })
  where
    none_applied : (content : Option Stored) → content ≡ option_map (apply_all []) content
    none_applied None = refl
    none_applied (Some stored) = refl

    none_appended : (journal : Option (List Batch)) → journal ≡ option_map (λ earlier. earlier ++ []) journal
    none_appended None = refl
    none_appended (Some earlier) = ap Some (sym (append-nil earlier))

-- batches behind others
pub commits-append : (first more : List Batch) (before between after : Told) → Commits first before between → Commits more between after → Commits (first ++ more) before after
commits-append first more before between after was then = record {
  content = then.content ∙ ap (option_map (apply_all more)) was.content ∙ twice_applied before.content;
  journal = then.journal ∙ ap (option_map (λ earlier. earlier ++ more)) was.journal ∙ twice_appended before.journal;
}
  where
    twice_applied : (content : Option Stored) → option_map (apply_all more) (option_map (apply_all first) content) ≡ option_map (apply_all (first ++ more)) content
    twice_applied None = refl
    twice_applied (Some stored) = ap Some (sym (fold-append (λ now batch. apply_batch batch now) stored first more))

    twice_appended : (journal : Option (List Batch)) → option_map (λ earlier. earlier ++ more) (option_map (λ earlier. earlier ++ first) journal) ≡ option_map (λ earlier. earlier ++ (first ++ more)) journal
    twice_appended None = refl
    twice_appended (Some earlier) = ap Some (append_assoc earlier first more)

-- a line commits what is said by how it is read
pub batches-read : (weigh : CellStat → ℕ) (schema : SchemaValue) (state : State) (bytes : List ℕ) (read : Result Line Code) → line_of (schema_at schema state) bytes ≡ read → batches_at weigh schema state bytes ≡ batches_from weigh schema state read
unfolding batches_at
batches-read weigh schema state bytes read is_read = ap (batches_from weigh schema state) is_read

-- a line commits at a schema with the dimensions of the state what it commits at the schema
pub batches-here : (weigh : CellStat → ℕ) (schema here : SchemaValue) (facts : List Fact) (state : State) (bytes : List ℕ) → here ≡ schema_at schema state → facts ≡ state.facts
    → batches_at weigh here (record { dims = here.dims; facts = facts }) bytes ≡ batches_at weigh schema state bytes
unfolding batches_at
batches-here weigh schema here facts state bytes is_here are_facts = rw (is_here, are_facts) refl

-- a line that does not edit commits nothing
pub batches-no_edit : (weigh : CellStat → ℕ) (schema : SchemaValue) (state : State) (read : Result Line Code) → is_edit read ≡ false → batches_from weigh schema state read ≡ []
batches-no_edit weigh schema state (Err refusal) asks = refl
batches-no_edit weigh schema state (Ok line.Nothing) asks = refl
batches-no_edit weigh schema state (Ok (line.Edit edit)) asks = cc
batches-no_edit weigh schema state (Ok (line.Grow grow)) asks = cc
batches-no_edit weigh schema state (Ok (line.Ask asked)) asks = refl

-- so that of a line, before which nothing is gathered where it edits, one of these holds
pub none_or_nothing : (weigh : CellStat → ℕ) (schema : SchemaValue) (state : State) (read : Result Line Code) (gathered : List (List ℕ)) → IsReadyFor gathered read → (gathered ≡ []) ⊎ (batches_from weigh schema state read ≡ [])
none_or_nothing weigh schema state read gathered ready = by_kind (is_edit read) refl
  where
    by_kind : (b : Bool) → is_edit read ≡ b → (gathered ≡ []) ⊎ (batches_from weigh schema state read ≡ [])
    by_kind true edits = inl (ready.none edits)
    by_kind false asks = inr (batches-no_edit weigh schema state read asks)

-- nothing is gathered before a line that commits
pub none_before : (weigh : CellStat → ℕ) (schema : SchemaValue) (state : State) (read : Result Line Code) (gathered : List (List ℕ)) → IsReadyFor gathered read → length (batches_from weigh schema state read) ≡ 1 → gathered ≡ []
none_before weigh schema state read gathered ready one =
    elim (none_or_nothing weigh schema state read gathered ready) [
      | inl none ↦ none
      | inr nothing ↦ absurd (omega (arith, one, ap length nothing))
    ]
