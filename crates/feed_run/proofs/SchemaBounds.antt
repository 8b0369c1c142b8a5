-- The line at which a text is refused as a schema is one of it, or the one behind.
use Rattle.std.proofs.Common.{◌≡◌, ℕ, ◌+◌, ◌≤◌, Bool, true, false, List, [], ◌∷◌, length, Option, Some, None, Result, Ok, Err, sym, ap, arith}
use Rattle.std.specs.Prelude.{◌==◌, if◌then◌else◌}
use Rattle.std.specs.List.{onto_first}
use Rattle.std.specs.Option.{option_map_or}
use Rattle.cube_base.specs.declared.code.Code.{Code}
use Rattle.schema_text.specs.SchemaText.{BadLine, Draft, ReadLines, ReadSchema, blank_draft, draft_line_fault, is_end, read_from, schema_of, schema_of_draft, sized, with_line}
use Rattle.text_lines.specs.LineText.{is_skipped}
use Rattle.text_lines.specs.Text.{lines_of}

abbrev line_of_bad : Result ReadLines BadLine → ℕ
line_of_bad (Ok read) = 0
line_of_bad (Err bad) = bad.line

bad-within : (draft : Draft) (k : ℕ) (lines : List (List ℕ)) → line_of_bad (read_from draft k lines) ≤ k + length lines + 1
bad-within draft k [] = omega arith
bad-within draft k (line ∷ lines) =
    either (is_skipped line) (draft_line_fault draft line) (is_end line) (bad-within draft (k + 1) lines) (bad-within (with_line draft line) (k + 1) lines)
  where
    either : (skipped : Bool) (fault : Option Code) (ends : Bool) → line_of_bad (read_from draft (k + 1) lines) ≤ k + 1 + length lines + 1 → line_of_bad (read_from (with_line draft line) (k + 1) lines) ≤ k + 1 + length lines + 1
        → line_of_bad (if skipped then read_from draft (k + 1) lines
        else option_map_or (λ f. Err (record { line = k + 1; reason = f })) fault (if ends then Ok (record { schema = schema_of_draft draft; lines = k + 1 }) else read_from (with_line draft line) (k + 1) lines))
        ≤ k + length (line ∷ lines) + 1
    either true fault ends same later = omega (arith, same)
    either false (Some why) ends same later = omega arith
    either false None true same later = omega arith
    either false None false same later = omega (arith, later)

-- each line has a byte
onto-few : (b : ℕ) (lines : List (List ℕ)) → length (onto_first b lines) ≤ length lines + 1
onto-few b [] = omega arith
onto-few b (line ∷ lines) = omega arith

pub lines-few : (bytes : List ℕ) → length (lines_of bytes) ≤ length bytes
lines-few [] = omega arith
lines-few (b ∷ bytes) = either (b == 10) (lines-few bytes)
  where
    either : (ends : Bool) → length (lines_of bytes) ≤ length bytes → length (if ends then [] ∷ lines_of bytes else onto_first b (lines_of bytes)) ≤ length (b ∷ bytes)
    either true few = omega (arith, few)
    either false few = omega (arith, few, onto-few b (lines_of bytes))

pub bad-line : (bytes : List ℕ) (bad : BadLine) → schema_of bytes ≡ Err bad → bad.line ≤ length bytes + 1
unfolding schema_of
bad-line bytes bad is =
    let here : line_of_bad (read_from blank_draft 0 (lines_of bytes)) ≡ bad.line = sized-bad (read_from blank_draft 0 (lines_of bytes)) is in
    omega (arith, sym here, bad-within blank_draft 0 (lines_of bytes), lines-few bytes)
  where
    sized-bad : (read : Result ReadLines BadLine) → sized bytes read ≡ Err bad → line_of_bad read ≡ bad.line
    sized-bad (Ok read) told = cc
    sized-bad (Err why) told = ap (λ (r : Result ReadSchema BadLine). elim r [ Ok read ↦ 0 | Err b ↦ b.line ]) told
