-- What the ends of `try` say where a schema was taken, and a script is done behind it.
use Rattle.std.proofs.Common.{◌≡◌, ℕ, ◌+◌, ◌≤◌, List, [], ◌++◌, length, drop, refl, ap, sym, subst, ◌∙◌, append-nil, append_assoc, inl, inr, Option, Some, None, Ok}
use Rattle.std.specs.Prelude.{IfSome, IsSome}
use Rattle.std.specs.Option.{option_map, option_map_or}
use Rattle.std.specs.Result.{result_ok}
use Rattle.std.specs.Io.KnownBytes.{Consumes, IsAtEnd}
use Rattle.std.proofs.lemmas.List.{drop-append-le}
use Rattle.text_lines.specs.Text.{lines_of}
use Rattle.text_lines.specs.Pieces.{lf_count, line_end}
use Rattle.schema_text.specs.Schema.{SchemaValue}
use Rattle.schema_text.specs.SchemaText.{ReadSchema, schema_of}
use Rattle.script_run.specs.Run.{Outcome, run_of}
use Rattle.script_run.specs.Seen.{SourceSeen}
use Rattle.cube_cli.specs.Trying.{outcome_of, replies_of, schema_in, script_line_end, script_lines_in, script_of}
use Rattle.cube_cli.specs.SchemaLines.{BeginsWith}

-- An input begins with a schema, of which all is in what was taken first; then more was taken.
pub record IsInParts (schema : SchemaValue) (size : ℕ) (first second rest input : List ℕ) : Type 0 where
  pub parts : input ≡ (first ++ second) ++ rest
  pub schema_is : schema_of input ≡ Ok (record { schema = schema; size = size })
  pub within : size ≤ length first

module _ (schema : SchemaValue) (size : ℕ) (first second rest input : List ℕ) (is : IsInParts schema size first second rest input) where
  abbrev held : List ℕ
  held = drop size first

  script : drop size input ≡ (drop size first ++ second) ++ rest
  script =
      ap (drop size) (is.parts ∙ append_assoc first second rest)
      ∙ drop-append-le size first (second ++ rest) is.within
      ∙ sym (append_assoc (drop size first) second rest)

  schema-read : schema_in input ≡ Some (record { schema = schema; size = size })
  schema-read = ap result_ok is.schema_is

  pub outcome-read : outcome_of input ≡ Some (run_of schema (lines_of ((drop size first ++ second) ++ rest)))
  outcome-read =
      ap (option_map (λ (read : ReadSchema). run_of read.schema (script_of input read))) schema-read
      ∙ ap (λ l. Some (run_of schema (lines_of l))) script

  pub replies-read : replies_of input ≡ (run_of schema (lines_of ((drop size first ++ second) ++ rest))).replies
  replies-read = ap (λ outcome. option_map_or (λ (outcome : Outcome). outcome.replies) outcome []) outcome-read

  pub lines-read : script_lines_in input (first ++ second) ≡ lf_count (drop size first ++ second)
  lines-read =
      ap (λ read. option_map_or (λ (read : ReadSchema). lf_count (drop read.size (first ++ second))) read 0) schema-read
      ∙ ap lf_count (drop-append-le size first second is.within)

  pub end-read : (n : ℕ) → script_line_end input n ≡ size + line_end ((drop size first ++ second) ++ rest) n
  end-read n =
      ap (λ read. option_map_or (λ (read : ReadSchema). read.size + line_end (drop read.size input) n) read 0) schema-read
      ∙ ap (λ l. size + line_end l n) script

  pub some-read : IsSome (schema_in input)
  some-read = subst IsSome (sym schema-read) refl

-- it is what the source had, where that is told
by_schema : (source : SourceSeen) (first : List ℕ) (size : ℕ) (schema : SchemaValue) (rest : List ℕ) → BeginsWith source first size schema → (IsAtEnd source.left_after → rest ≡ []) → schema_of (first ++ rest) ≡ Ok (record { schema = schema; size = size })
by_schema source first size schema rest begins none =
    elim begins.begins [
      | inl each ↦ each rest
      | inr whole ↦ ap (λ l. schema_of (first ++ l)) (none whole.0) ∙ ap schema_of (append-nil first) ∙ whole.1
    ]

pub in_parts : (source : SourceSeen) (after : Option (List ℕ)) (schema : SchemaValue) (size : ℕ) (first second : List ℕ) (P : List ℕ → Type 0) → BeginsWith source first size schema → size ≤ length first
    → Consumes source.left source.left_after first → Consumes source.left_after after second
    → ((rest input : List ℕ) → after ≡ Some rest → IsInParts schema size first second rest input → P input) → IfSome source.left P
in_parts source after schema size first second P begins within one two says = by source.left source.left_after after refl one two refl
  where
    by : (left mid later : Option (List ℕ)) → source.left_after ≡ mid → Consumes left mid first → Consumes mid later second → after ≡ later → IfSome left P
    by None mid later mid_is one two later_is = tt
    by (Some input) None later mid_is one two later_is = absurd one
    by (Some input) (Some behind) None mid_is one two later_is = absurd two
    by (Some input) (Some behind) (Some rest) mid_is one two later_is =
        let schema_is : schema_of (first ++ behind) ≡ Ok (record { schema = schema; size = size }) = by_schema source first size schema behind begins (λ end. rw mid_is at end) in
        says rest input later_is (record {
          parts = one ∙ ap (λ l. first ++ l) two ∙ sym (append_assoc first second rest);
          schema_is = ap schema_of one ∙ schema_is;
          within = within;
        })
