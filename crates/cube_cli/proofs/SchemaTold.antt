-- What the lines that were taken tell of the input.
use Rattle.std.proofs.Common.{◌≡◌, ℕ, ◌⊎◌, List, ◌++◌, length, ap, sym, subst, ◌∙◌, append-nil, arith, inl, inr, length-append, Option, Some, None, Ok, Err}
use Rattle.std.specs.Prelude.{IfSome}
use Rattle.std.specs.Io.KnownBytes.{Consumes, IsAtEnd}
use Rattle.text_lines.specs.Input.{INPUT_LIMIT, TakesAtMost}
use Rattle.schema_text.specs.SchemaText.{BadLine, ReadSchema, schema_of}
use Rattle.script_run.specs.Seen.{SourceSeen}
use Rattle.cube_cli.specs.SchemaLines.{BeginsWith, HasSchemaLines, HoldsSchemaLines, TookLines, TookSchema, TookToEnd}
use Rattle.cube_cli.proofs.SchemaTexts.{schema_of-bad_lines, schema_of-lines}

-- its schema
begins : (source : SourceSeen) (taken : List ℕ) (size : ℕ) (text : List ℕ) (read : ReadSchema) → HoldsSchemaLines source taken size text → schema_of text ≡ Ok read → BeginsWith source taken size read.schema
begins source taken size text read lines is = record {
  begins = elim lines.holds [
    | inl each ↦ inl (λ more. schema_of-lines (taken ++ more) size text read (each more) is)
    | inr whole ↦ inr (whole.0, schema_of-lines taken size text read whole.1 is)
  ];
}

pub takes_schema : (source : SourceSeen) (room : ℕ) (held : List (List ℕ)) (text : List ℕ) (read : ReadSchema) → TookLines source room held text → schema_of text ≡ Ok read → TookSchema source room held read.schema
takes_schema source room held text read took is = record {
  taken = took.taken;
  bytes = took.bytes;
  room = took.room;
  size = took.size;
  within = took.within;
  held = took.held;
  is = begins source took.taken took.size text read took.holds is;
  last = took.last;
}

-- or the line of it that is at fault
pub takes_few : (source : SourceSeen) (room : ℕ) (held : List (List ℕ)) (text : List ℕ) → TookLines source room held text → TakesAtMost INPUT_LIMIT source.left source.left_after
takes_few source room held text took = record { input = took.taken; bytes = took.bytes; few = omega (arith, took.room) }

pub of_input : (left left_after : Option (List ℕ)) (taken : List ℕ) (P : List ℕ → Type 0) → Consumes left left_after taken → ((more : List ℕ) → P (taken ++ more)) ⊎ (IsAtEnd left_after × P taken) → IfSome left P
of_input None left_after taken P bytes says = tt
of_input (Some input) None taken P bytes says = absurd bytes
of_input (Some input) (Some rest) taken P bytes (inl each) = subst P (sym bytes) (each rest)
of_input (Some input) (Some rest) taken P bytes (inr whole) = subst P (sym (bytes ∙ ap (λ l. taken ++ l) whole.0 ∙ append-nil taken)) whole.1

pub refuses_schema : (source : SourceSeen) (room : ℕ) (held : List (List ℕ)) (text : List ℕ) (bad : BadLine) → TookLines source room held text → schema_of text ≡ Err bad
    → IfSome source.left (λ input. (schema_of input ≡ Err bad) × TookToEnd source input)
refuses_schema source room held text bad took is =
    of_input source.left source.left_after took.taken (λ input. (schema_of input ≡ Err bad) × TookToEnd source input) took.bytes
    (elim took.holds.holds [
      | inl each ↦ inl (λ more. refuses (took.taken ++ more) (each more))
      | inr whole ↦ inr (whole.0, refuses took.taken whole.1)
    ])
  where
    refuses : (input : List ℕ) → HasSchemaLines input took.size text → (schema_of input ≡ Err bad) × TookToEnd source input
    refuses input lines = (
      schema_of-bad_lines input took.size text bad lines is,
      record { input = took.taken; bytes = took.bytes; few = omega (arith, ap length took.last.split, length-append took.last.before took.last.last, took.last.piece, took.last.behind, lines.size_is) },
    )
