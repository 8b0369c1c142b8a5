-- The lines of the text of a schema: the last of them is `end`, and none before it.
use Rattle.std.proofs.Common.{◌≡◌, ℕ, suc, ◌+◌, ◌-◌, ◌<◌, ◌≤◌, Bool, true, false, List, [], ◌∷◌, ◌++◌, length, drop, refl, sym, ap, ◌∙◌, arith, append-nil, length-append, length-drop}
use Rattle.std.specs.Prelude.{Ok, codes, if◌then◌else◌, ◌||◌}
use Rattle.std.specs.List.{flat_map, list_any}
use Rattle.std.proofs.lemmas.List.{nil_from_length}
use Rattle.text_lines.specs.Text.{after_lines, line_text, lines_of}
use Rattle.text_lines.proofs.Ended.{lines_of-after}
use Rattle.schema_text.specs.Schema.{IsSchema, SchemaValue}
use Rattle.schema_text.specs.SchemaText.{ReadSchema, blank_draft, dims_text, is_end, measure_line, policy_line, read_from, schema_of, schema_text, version_of, version_text, view_line}
use Rattle.schema_text.proofs.ReadsAgain.{reads_again}
use Rattle.cube_cli.proofs.SchemaTexts.{accepted_at, sized-Ok, to_end}

-- lines of which the last, and no other, is `end`
pub record EndsLast (lines : List (List ℕ)) : Type 0 where
  pub front : List (List ℕ)
  pub last : List ℕ
  pub lines_are : lines ≡ front ++ last ∷ []
  pub others : list_any is_end front ≡ false
  pub ends : is_end last ≡ true

-- they are so many lines up to and with the first `end`, and no more
ends-cons : (line : List ℕ) (lines : List (List ℕ)) → is_end line ≡ false → EndsLast lines → EndsLast (line ∷ lines)
ends-cons line lines other rest = record { front = line ∷ rest.front; last = rest.last; lines_are = ap (λ l. line ∷ l) rest.lines_are; others = rw other rest.others; ends = rest.ends }

ends-step : (line : List ℕ) (lines : List (List ℕ)) (ends : Bool) → is_end line ≡ ends → (if ends then 1 else suc (to_end lines)) ≡ suc (length lines) → (if ends then true else list_any is_end lines) ≡ true
    → (to_end lines ≡ length lines → list_any is_end lines ≡ true → EndsLast lines) → EndsLast (line ∷ lines)
ends-step line [] true is all some later = record { front = []; last = line; lines_are = refl; others = refl; ends = is }
ends-step line (next ∷ lines) true is all some later = absurd (omega (arith, all))
ends-step line lines false is all some later = ends-cons line lines is (later (omega (arith, all)) some)

ends-last : (lines : List (List ℕ)) → to_end lines ≡ length lines → list_any is_end lines ≡ true → EndsLast lines
ends-last [] all some = cc
ends-last (line ∷ lines) all some =
    ends-step line lines (is_end line) refl all (any (is_end line) (list_any is_end lines) some) (λ all some. ends-last lines all some)
  where
    any : (first rest : Bool) → (first || rest) ≡ true → (if first then true else rest) ≡ true
    any true rest some = refl
    any false true some = refl
    any false false some = cc

-- Where nothing of a text is behind so many lines, these are all.
all-taken : (k : ℕ) (text : List ℕ) → after_lines k text ≡ [] → length (lines_of text) ≤ k
all-taken k text none =
    let left : drop k (lines_of text) ≡ [] = sym (lines_of-after k text) ∙ ap lines_of none in
    omega (arith, length-drop k (lines_of text), ap length left)

to_end-within : (lines : List (List ℕ)) → to_end lines ≤ length lines
to_end-within [] = omega arith
to_end-within (line ∷ lines) = either (is_end line) (to_end-within lines)
  where
    either : (ends : Bool) → to_end lines ≤ length lines → (if ends then 1 else suc (to_end lines)) ≤ suc (length lines)
    either true later = omega arith
    either false later = omega (arith, later)

-- a text of its own size
read-ends : (text : List ℕ) (schema : SchemaValue) → 0 < length text → schema_of text ≡ Ok (record { schema = schema; size = length text }) → EndsLast (lines_of text)
unfolding schema_of
read-ends text schema some read =
    let told = sized-Ok text (read_from blank_draft 0 (lines_of text)) (record { schema = schema; size = length text }) read in
    let at = accepted_at (lines_of text) told.0 told.1 in
    let size : length text ≡ length text - length (after_lines told.0.lines text) = ap (λ (r : ReadSchema). r.size) told.2 in
    let none : after_lines told.0.lines text ≡ [] = nil_from_length (after_lines told.0.lines text) (omega (arith, size, some)) in
    let all : to_end (lines_of text) ≡ length (lines_of text) = omega (arith, at.count_is, all-taken told.0.lines text none, to_end-within (lines_of text)) in
    ends-last (lines_of text) all at.some

some-bytes : (schema : SchemaValue) → 0 < length (schema_text schema)
unfolding schema_text
some-bytes s =
    let front = line_text (codes "cube") (version_text (version_of s.dims) ∷ []) ++ policy_line s.measures s.policy ++ flat_map measure_line s.measures ++ dims_text (version_of s.dims) s.names s.dims ++ flat_map view_line s.views in
    omega (arith, length-append front (line_text (codes "end") []))

pub schema-ends : (schema : SchemaValue) → IsSchema schema → EndsLast (lines_of (schema_text schema))
schema-ends schema is =
    let text = schema_text schema in
    read-ends text schema (some-bytes schema) (ap schema_of (sym (append-nil text)) ∙ reads_again schema is [])
