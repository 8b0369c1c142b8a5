-- Which lines of an input hold its schema, and that these alone tell it.
use Rattle.std.proofs.Common.{◌≡◌, ℕ, suc, ◌+◌, ◌-◌, ◌<◌, ◌≤◌, Bool, true, false, List, [], ◌∷◌, ◌++◌, length, take, drop, map, refl, ap, sym, subst, ◌∙◌, arith, Option, Some, None, length-take-le, take_all, cond, ◌⊎◌, inl, inr, Result}
use Rattle.std.specs.Prelude.{Ok, Err, IfOk, if◌then◌else◌, codes, nat_lt, position}
use Rattle.std.specs.Option.{option_map_or}
use Rattle.std.specs.List.{list_any}
use Rattle.std.proofs.lemmas.Bool.{cases_lt, false_from_ne_true}
use Rattle.std.proofs.lemmas.Bool.Decides.{nat_tests}
use Rattle.std.proofs.lemmas.List.{drop_all}
use Rattle.std.proofs.lemmas.Slice.Eq.{bytes_eq-Decides}
use Rattle.cube_base.specs.declared.code.Code.{Code}
use Rattle.text_lines.specs.LineText.{LINE_FRONT, is_skipped, without_cr}
use Rattle.text_lines.specs.Text.{after_lines, lines_of}
use Rattle.text_lines.proofs.LineTexts.{IsAsItsFront-long}
use Rattle.text_lines.specs.Pieces.{ended_lines, front, lf_count, line_end}
use Rattle.text_lines.proofs.Ended.{ended_lines-length, line_end-behind, lines_of-ended}
use Rattle.schema_text.specs.SchemaText.{BadLine, Draft, ReadLines, ReadSchema, blank_draft, draft_line_fault, is_end, read_from, schema_of, sized, with_line}
use Rattle.schema_text.proofs.Ends.{length-without_cr}
use Rattle.cube_cli.specs.SchemaLines.{HasSchemaLines, has_end, schema_bytes, schema_lines}

-- so many lines come up to and with the first line `end`, or are all
abbrev pub to_end : List (List ℕ) → ℕ
to_end [] = 0
to_end (line ∷ lines) = if is_end line then 1 else suc (to_end lines)

to_end-first : (line : List ℕ) (lines : List (List ℕ)) → is_end line ≡ true → to_end (line ∷ lines) ≡ 1
to_end-first line lines ends = rw ends refl

to_end-later : (line : List ℕ) (lines : List (List ℕ)) → is_end line ≡ false → to_end (line ∷ lines) ≡ suc (to_end lines)
to_end-later line lines goes = rw goes refl

position-step : (m n : ℕ) → option_map_or (λ k. k + 1) (cond (nat_lt (1 + m) (suc n)) (Some (1 + m)) None) (suc n) ≡ suc (option_map_or (λ k. k + 1) (cond (nat_lt m n) (Some m) None) n)
position-step m n = grind (arith, nat_tests)

position-first : (n : ℕ) → option_map_or (λ k. k + 1) (cond (nat_lt 0 (suc n)) (Some 0) None) (suc n) ≡ 1
position-first n = grind (arith, nat_tests)

to_end-step : (line : List ℕ) (lines : List (List ℕ)) (ends : Bool) → is_end line ≡ ends → option_map_or (λ k. k + 1) (position is_end lines) (length lines) ≡ to_end lines
    → option_map_or (λ k. k + 1) (position is_end (line ∷ lines)) (length (line ∷ lines)) ≡ to_end (line ∷ lines)
to_end-step line lines true ends later = rw ends (position-first (length lines))
to_end-step line lines false ends later = rw ends (position-step _ (length lines) ∙ ap suc later)

pub to_end-is : (lines : List (List ℕ)) → option_map_or (λ k. k + 1) (position is_end lines) (length lines) ≡ to_end lines
to_end-is [] = refl
to_end-is (line ∷ lines) = to_end-step line lines (is_end line) refl (to_end-is lines)

pub schema_lines-is : (input : List ℕ) → schema_lines input ≡ to_end (lines_of input)
schema_lines-is input = to_end-is (lines_of input)

-- the line `end` is short, and not passed over
end_is : (line : List ℕ) → is_end line ≡ true → without_cr line ≡ codes "end"
end_is line is = (bytes_eq-Decides (without_cr line) (codes "end")).0 is

stays : (line : List ℕ) → is_end line ≡ true → is_skipped line ≡ false
stays line is = rw (end_is line is) refl

short : (line : List ℕ) → is_end line ≡ true → length line ≤ 4
short line is =
    let three : length (without_cr line) ≡ 3 = ap length (end_is line is) in
    omega (arith, length-without_cr line)

-- a line is told by its front
front-short : (line : List ℕ) → length line ≤ LINE_FRONT → front line ≡ line
front-short line few = take_all LINE_FRONT line few

not_long : (line : List ℕ) → LINE_FRONT < length line → is_end line ≡ false
not_long line more = false_from_ne_true (is_end line) (λ e. absurd (omega (arith, short line e)))

pub is_end-front : (line : List ℕ) → is_end (front line) ≡ is_end line
is_end-front line = or_else (cases_lt LINE_FRONT (length line))
  where
    or_else : (LINE_FRONT < length line) ⊎ (length line ≤ LINE_FRONT) → is_end (front line) ≡ is_end line
    or_else (inl more) =
        let long : length (front line) ≡ LINE_FRONT = length-take-le LINE_FRONT line (omega arith) in
        false_from_ne_true (is_end (front line)) (λ e. absurd (omega (arith, short (front line) e))) ∙ sym (not_long line more)
    or_else (inr few) = ap is_end (front-short line few)

read_from-front_line : (draft : Draft) (k : ℕ) (line : List ℕ) (lines : List (List ℕ)) → read_from draft k (front line ∷ lines) ≡ read_from draft k (line ∷ lines)
read_from-front_line draft k line lines = or_else (cases_lt LINE_FRONT (length line))
  where
    or_else : (LINE_FRONT < length line) ⊎ (length line ≤ LINE_FRONT) → read_from draft k (front line ∷ lines) ≡ read_from draft k (line ∷ lines)
    or_else (inl more) =
        let is = IsAsItsFront-long line more in
        rw (is.skipped, is.long, is.front_long) refl
    or_else (inr few) = ap (λ l. read_from draft k (l ∷ lines)) (front-short line few)

read_from-front : (draft : Draft) (k : ℕ) (lines : List (List ℕ)) → read_from draft k (map front lines) ≡ read_from draft k lines
read_from-front draft k [] = refl
read_from-front draft k (line ∷ lines) =
    read_from-front_line draft k line (map front lines)
    ∙ simp (read_from-front (with_line draft line) (k + 1) lines, read_from-front draft (k + 1) lines)

-- the lines behind the first line `end` are not read
read_from-end : (draft : Draft) (k : ℕ) (line : List ℕ) (lines more : List (List ℕ)) → is_end line ≡ true → read_from draft k (line ∷ lines) ≡ read_from draft k (line ∷ more)
read_from-end draft k line lines more ends = rw (stays line ends, ends) refl

read_from-step : (draft : Draft) (k : ℕ) (line : List ℕ) (lines : List (List ℕ)) (ends : Bool) → is_end line ≡ ends
    → ((draft : Draft) (k : ℕ) → read_from draft k (take (to_end lines) lines) ≡ read_from draft k lines)
    → read_from draft k (take (to_end (line ∷ lines)) (line ∷ lines)) ≡ read_from draft k (line ∷ lines)
read_from-step draft k line lines true ends later =
    ap (λ n. read_from draft k (take n (line ∷ lines))) (to_end-first line lines ends) ∙ read_from-end draft k line [] lines ends
read_from-step draft k line lines false ends later =
    ap (λ n. read_from draft k (take n (line ∷ lines))) (to_end-later line lines ends) ∙ simp (later (with_line draft line) (k + 1), later draft (k + 1))

read_from-to_end : (draft : Draft) (k : ℕ) (lines : List (List ℕ)) → read_from draft k (take (to_end lines) lines) ≡ read_from draft k lines
read_from-to_end draft k [] = refl
read_from-to_end draft k (line ∷ lines) = read_from-step draft k line lines (is_end line) refl (λ draft k. read_from-to_end draft k lines)

-- a schema that is accepted takes the lines up to and with the line `end`
pub record EndsAt (start : ℕ) (lines : List (List ℕ)) (count : ℕ) : Type 0 where
  pub count_is : count ≡ start + to_end lines
  pub some : list_any is_end lines ≡ true

EndsAt-first : (k : ℕ) (line : List ℕ) (lines : List (List ℕ)) → is_end line ≡ true → EndsAt k (line ∷ lines) (k + 1)
EndsAt-first k line lines ends = record { count_is = rw ends refl; some = rw ends refl }

EndsAt-later : (k : ℕ) (line : List ℕ) (lines : List (List ℕ)) → is_end line ≡ false → (result : Result ReadLines BadLine)
    → IfOk result (λ (read : ReadLines). EndsAt (k + 1) lines read.lines) → IfOk result (λ (read : ReadLines). EndsAt k (line ∷ lines) read.lines)
EndsAt-later k line lines goes (Ok read) at = record { count_is = rw goes (omega (arith, at.count_is)); some = rw goes at.some }
EndsAt-later k line lines goes (Err bad) at = tt

accepted-step : (draft : Draft) (k : ℕ) (line : List ℕ) (lines : List (List ℕ)) (skips ends : Bool) (fault : Option Code) → is_skipped line ≡ skips → is_end line ≡ ends → draft_line_fault draft line ≡ fault
    → ((draft : Draft) → IfOk (read_from draft (k + 1) lines) (λ (read : ReadLines). EndsAt (k + 1) lines read.lines))
    → IfOk (read_from draft k (line ∷ lines)) (λ (read : ReadLines). EndsAt k (line ∷ lines) read.lines)
accepted-step draft k line lines true true fault skips ends is_fault later = cc (stays line ends)
accepted-step draft k line lines true false fault skips goes is_fault later = rw skips (EndsAt-later k line lines goes (read_from draft (k + 1) lines) (later draft))
accepted-step draft k line lines false ends (Some why) stands is_ends is_fault later = rw (stands, is_fault) tt
accepted-step draft k line lines false true None stands ends is_fault later = rw (stands, is_fault, ends) (EndsAt-first k line lines ends)
accepted-step draft k line lines false false None stands goes is_fault later =
    rw (stands, is_fault, goes) (EndsAt-later k line lines goes (read_from (with_line draft line) (k + 1) lines) (later (with_line draft line)))

accepted : (draft : Draft) (k : ℕ) (lines : List (List ℕ)) → IfOk (read_from draft k lines) (λ (read : ReadLines). EndsAt k lines read.lines)
accepted draft k [] = tt
accepted draft k (line ∷ lines) = accepted-step draft k line lines (is_skipped line) (is_end line) (draft_line_fault draft line) refl refl refl (λ draft. accepted draft (k + 1) lines)

pub accepted_at : (lines : List (List ℕ)) (read : ReadLines) → read_from blank_draft 0 lines ≡ Ok read → EndsAt 0 lines read.lines
accepted_at lines read is = subst (λ result. IfOk result (λ (read : ReadLines). EndsAt 0 lines read.lines)) is (accepted blank_draft 0 lines)

-- so the lines that hold a schema tell it
read_same : (input : List ℕ) (size : ℕ) (text : List ℕ) → HasSchemaLines input size text → read_from blank_draft 0 (lines_of text) ≡ read_from blank_draft 0 (lines_of input)
read_same input size text holds =
    let count = to_end (lines_of input) in
    ap (read_from blank_draft 0) (holds.lines ∙ ap (λ n. map front (take n (lines_of input))) (schema_lines-is input))
    ∙ read_from-front blank_draft 0 (take count (lines_of input))
    ∙ read_from-to_end blank_draft 0 (lines_of input)

pub sized-Ok : (bytes : List ℕ) (result : Result ReadLines BadLine) (read : ReadSchema) → sized bytes result ≡ Ok read
    → (told : ReadLines) × (result ≡ Ok told) × (read ≡ record { schema = told.schema; size = length bytes - length (after_lines told.lines bytes) })
sized-Ok bytes (Ok told) read is = (told, refl, cc)
sized-Ok bytes (Err bad) read is = cc

size_is : (input : List ℕ) (read : ReadLines) → read_from blank_draft 0 (lines_of input) ≡ Ok read → line_end input read.lines ≡ schema_bytes input
size_is input read is =
    let at = accepted_at (lines_of input) read is in
    let same : read.lines ≡ schema_lines input = omega (arith, at.count_is, schema_lines-is input) in
    ap (line_end input) same

pub schema_of-lines : (input : List ℕ) (size : ℕ) (text : List ℕ) (read : ReadSchema) → HasSchemaLines input size text → schema_of text ≡ Ok read → schema_of input ≡ Ok (record { schema = read.schema; size = size })
unfolding schema_of
schema_of-lines input size text read holds is =
    let here = sized-Ok text (read_from blank_draft 0 (lines_of text)) read is in
    let there : read_from blank_draft 0 (lines_of input) ≡ Ok here.0 = sym (read_same input size text holds) ∙ here.1 in
    let ends : line_end input here.0.lines ≡ size = size_is input here.0 there ∙ sym holds.size_is in
    ap (sized input) there
    ∙ ap (λ n. Ok (record { schema = here.0.schema; size = n })) ends
    ∙ ap (λ s. Ok (record { schema = s; size = size })) (ap (λ (r : ReadSchema). r.schema) (sym here.2))

sized-Err : (bytes : List ℕ) (result : Result ReadLines BadLine) (bad : BadLine) → sized bytes result ≡ Err bad → result ≡ Err bad
sized-Err bytes (Ok read) bad is = cc
sized-Err bytes (Err why) bad is = cc

pub schema_of-bad_lines : (input : List ℕ) (size : ℕ) (text : List ℕ) (bad : BadLine) → HasSchemaLines input size text → schema_of text ≡ Err bad → schema_of input ≡ Err bad
unfolding schema_of
schema_of-bad_lines input size text bad holds is =
    ap (sized input) (sym (read_same input size text holds) ∙ sized-Err text (read_from blank_draft 0 (lines_of text)) bad is)

-- where the line `end` is not among the lines that end in a text, a schema that goes on behind it reaches to the end of it at least
to_end-some : (line : List ℕ) (lines : List (List ℕ)) → 0 < to_end (line ∷ lines)
to_end-some line lines = some (is_end line) (to_end lines)
  where
    some : (ends : Bool) (n : ℕ) → 0 < (if ends then 1 else suc n)
    some true n = omega arith
    some false n = omega arith

behind-step : (line : List ℕ) (lines later : List (List ℕ)) (ends : Bool) → is_end line ≡ ends → list_any is_end (line ∷ lines) ≡ false → list_any is_end (line ∷ (lines ++ later)) ≡ true
    → (list_any is_end lines ≡ false → list_any is_end (lines ++ later) ≡ true → length lines < to_end (lines ++ later)) → length (line ∷ lines) < to_end (line ∷ (lines ++ later))
behind-step line lines later true ends none some rest = cc (rw ends at none)
behind-step line lines later false goes none some rest = rw goes (omega (arith, rest (rw goes at none) (rw goes at some)))

pub to_end-behind : (lines later : List (List ℕ)) → list_any is_end lines ≡ false → list_any is_end (lines ++ later) ≡ true → length lines < to_end (lines ++ later)
to_end-behind [] [] none some = cc
to_end-behind [] (line ∷ later) none some = to_end-some line later
to_end-behind (line ∷ lines) later none some = behind-step line lines later (is_end line) refl none some (λ none some. to_end-behind lines later none some)

pub has_end-no : (input taken more : List ℕ) (read : ReadSchema) → schema_of input ≡ Ok read → input ≡ taken ++ more → has_end taken ≡ false → length taken ≤ read.size
unfolding schema_of
has_end-no input taken more read is split none =
    let told = sized-Ok input (read_from blank_draft 0 (lines_of input)) read is in
    let at = accepted_at (lines_of input) told.0 told.1 in
    let later = drop (lf_count taken) (lines_of (taken ++ more)) in
    let lines : lines_of input ≡ ended_lines taken ++ later = ap lines_of split ∙ lines_of-ended taken more in
    let behind : length (ended_lines taken) < to_end (ended_lines taken ++ later) = to_end-behind (ended_lines taken) later none (ap (list_any is_end) (sym lines) ∙ at.some) in
    let few : lf_count taken < told.0.lines = omega (arith, behind, ended_lines-length taken, ap to_end lines, at.count_is) in
    let reach : length taken ≤ line_end (taken ++ more) told.0.lines = line_end-behind taken more told.0.lines few in
    let size : read.size ≡ line_end input told.0.lines = ap (λ (r : ReadSchema). r.size) told.2 in
    omega (arith, reach, size, ap (λ l. line_end l told.0.lines) split)

pub has_end-nothing : (input taken more : List ℕ) (read : ReadSchema) → schema_of input ≡ Ok read → input ≡ taken ++ more → has_end taken ≡ false → drop read.size taken ≡ []
has_end-nothing input taken more read is split none = drop_all read.size taken (has_end-no input taken more read is split none)
