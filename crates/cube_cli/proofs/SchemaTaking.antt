-- Taking the lines that hold a schema.
use Rattle.std.proofs.Common.{◌≡◌, ℕ, suc, ◌+◌, ◌≤◌, Bool, true, false, List, [], ◌∷◌, ◌++◌, length, take, drop, map, refl, ap, sym, subst, ◌∙◌, arith, length-append, take_all, Option, Some, None}
use Rattle.std.specs.Prelude.{◌==◌, IsSomeAnd, if◌then◌else◌, position}
use Rattle.std.specs.Option.{option_map_or}
use Rattle.std.specs.List.{list_any, onto_first}
use Rattle.std.proofs.lemmas.List.{drop-append-le, drop_all, length-map, take-append-le, take-map}
use Rattle.std.proofs.lemmas.List.Folds.{list_any_at}
use Rattle.std.proofs.lemmas.List.Quantifiers.{position-Some}
use Rattle.text_lines.specs.Text.{after_lines, lines_of}
use Rattle.text_lines.specs.Pieces.{ended_lines, front, last_line, lf_count, line_end, pieces_of, rest_of, whole_lines}
use Rattle.text_lines.proofs.Ended.{ended_lines-length, lines_of-after, lines_of-ended, lines_of-last, whole_lines-ended}
use Rattle.text_lines.proofs.Fronts.{pieces_of-some}
use Rattle.schema_text.specs.SchemaText.{is_end}
use Rattle.cube_cli.specs.SchemaLines.{HasSchemaLines, has_end, schema_lines, text_of_lines}
use Rattle.cube_cli.proofs.SchemaTexts.{is_end-front, schema_lines-is, to_end, to_end-is}
use Rattle.cube_cli.proofs.TakenLines.{HaveNoLf-append, HaveNoLf-last, HaveNoLf-pieces, HaveNoLf-take, HaveNoLf-whole, drop-line_end, line_end-append, lines_of-text, pieces_of-after}

-- where the line `end` is among lines, none of those behind them is looked at
more-step : (line : List ℕ) (lines more : List (List ℕ)) (ends : Bool) → is_end line ≡ ends → list_any is_end (line ∷ lines) ≡ true → (list_any is_end lines ≡ true → to_end (lines ++ more) ≡ to_end lines)
    → to_end (line ∷ (lines ++ more)) ≡ to_end (line ∷ lines)
more-step line lines more true ends some later = rw ends refl
more-step line lines more false goes some later = rw goes (ap suc (later (rw goes at some)))

to_end-more : (lines more : List (List ℕ)) → list_any is_end lines ≡ true → to_end (lines ++ more) ≡ to_end lines
to_end-more [] more some = cc
to_end-more (line ∷ lines) more some = more-step line lines more (is_end line) refl some (λ some. to_end-more lines more some)

-- and where it is not, all are passed over
none-step : (line : List ℕ) (lines more : List (List ℕ)) (ends : Bool) → is_end line ≡ ends → list_any is_end (line ∷ lines) ≡ false → (list_any is_end lines ≡ false → to_end (lines ++ more) ≡ length lines + to_end more)
    → to_end (line ∷ (lines ++ more)) ≡ length (line ∷ lines) + to_end more
none-step line lines more true ends none later = cc (rw ends at none)
none-step line lines more false goes none later = rw goes (omega (arith, later (rw goes at none)))

pub to_end-none : (lines more : List (List ℕ)) → list_any is_end lines ≡ false → to_end (lines ++ more) ≡ length lines + to_end more
to_end-none [] more none = omega arith
to_end-none (line ∷ lines) more none = none-step line lines more (is_end line) refl none (λ none. to_end-none lines more none)

le-step : (ends : Bool) (n m : ℕ) → n ≤ m → (if ends then 1 else suc n) ≤ suc m
le-step true n m few = omega arith
le-step false n m few = omega arith

pub to_end-le : (lines : List (List ℕ)) → to_end lines ≤ length lines
to_end-le [] = omega arith
to_end-le (line ∷ lines) = le-step (is_end line) (to_end lines) (length lines) (to_end-le lines)

to_end-last : (rest : List ℕ) → to_end (last_line rest) ≡ length (last_line rest)
to_end-last [] = refl
to_end-last (b ∷ rest) = one (is_end (b ∷ rest)) 1
  where
    one : (ends : Bool) (n : ℕ) → (if ends then n else n) ≡ n
    one true n = refl
    one false n = refl

-- of each its front
pub to_end-front : (lines : List (List ℕ)) → to_end (map front lines) ≡ to_end lines
to_end-front [] = refl
to_end-front (line ∷ lines) = rw (is_end-front line) (ap (λ n. if is_end line then 1 else suc n) (to_end-front lines))

list_any-front : (lines : List (List ℕ)) → list_any is_end (map front lines) ≡ list_any is_end lines
list_any-front [] = refl
list_any-front (line ∷ lines) = rw (is_end-front line, list_any-front lines) refl

pub has_end-whole : (text : List ℕ) → has_end text ≡ list_any is_end (whole_lines (pieces_of text))
has_end-whole text = sym (list_any-front (ended_lines text)) ∙ ap (list_any is_end) (sym (whole_lines-ended text))

-- the place of the line `end`, where there is one
at_end : (lines : List (List ℕ)) (place : Option ℕ) (P : ℕ → Type 0) → position is_end lines ≡ place → IsSomeAnd place (λ k. P (k + 1)) → (list_any is_end lines ≡ true) × P (to_end lines)
at_end lines None P is at = absurd at
at_end lines (Some k) P is at =
    let here = position-Some is_end lines k [] is in
    let count : k + 1 ≡ to_end lines = ap (λ p. option_map_or (λ k. k + 1) p (length lines)) (sym is) ∙ to_end-is lines in
    (list_any_at is_end lines k [] here.0 here.1, subst P count at)

pub position-to_end : (lines : List (List ℕ)) (P : ℕ → Type 0) → IsSomeAnd (position is_end lines) (λ k. P (k + 1)) → (list_any is_end lines ≡ true) × P (to_end lines)
position-to_end lines P at = at_end lines (position is_end lines) P refl at

-- what was taken holds the line `end`: then its first lines hold the schema, whatever follows
module _ (taken : List ℕ) (some : has_end taken ≡ true) where
  abbrev ended : List (List ℕ)
  ended = ended_lines taken

  abbrev count : ℕ
  count = to_end (ended_lines taken)

  among : count ≤ lf_count taken
  among = omega (arith, to_end-le ended, ended_lines-length taken)

  lines_then : (more : List ℕ) → schema_lines (taken ++ more) ≡ count
  lines_then more =
      schema_lines-is (taken ++ more) ∙ ap to_end (lines_of-ended taken more)
      ∙ to_end-more ended (drop (lf_count taken) (lines_of (taken ++ more))) some

  first_lines : (more : List ℕ) → take count (lines_of (taken ++ more)) ≡ take count ended
  first_lines more =
      ap (take count) (lines_of-ended taken more)
      ∙ take-append-le count ended (drop (lf_count taken) (lines_of (taken ++ more))) (to_end-le ended)

  pub holds_some : (more : List ℕ) → HasSchemaLines (taken ++ more) (line_end taken (to_end (ended_lines taken))) (text_of_lines (take (to_end (ended_lines taken)) (whole_lines (pieces_of taken))))
  holds_some more = record {
    size_is = sym (ap (line_end (taken ++ more)) (lines_then more) ∙ line_end-append taken count more among);
    lines = lines_of-text (take count (whole_lines (pieces_of taken))) (HaveNoLf-take count (whole_lines (pieces_of taken)) (HaveNoLf-whole (pieces_of taken) (HaveNoLf-pieces taken)))
        ∙ ap (take count) (whole_lines-ended taken)
        ∙ take-map front count ended
        ∙ ap (map front) (sym (first_lines more) ∙ ap (λ n. take n (lines_of (taken ++ more))) (sym (lines_then more)));
  }

-- or the input ended before
lines_of-nil : (text : List ℕ) → lines_of text ≡ [] → text ≡ []
lines_of-nil [] none = refl
lines_of-nil (b ∷ text) none = absurd (some (b == 10) (lines_of text) none)
  where
    some : (lf : Bool) (lines : List (List ℕ)) → (if lf then [] ∷ lines else onto_first b lines) ≡ [] → ⊥
    some true lines none = cc
    some false [] none = cc
    some false (line ∷ lines) none = cc

pub line_end-all : (text : List ℕ) → line_end text (length (lines_of text)) ≡ length text
line_end-all text =
    let none : after_lines (length (lines_of text)) text ≡ [] = lines_of-nil (after_lines (length (lines_of text)) text) (lines_of-after (length (lines_of text)) text ∙ drop_all (length (lines_of text)) (lines_of text) (omega arith)) in
    omega (arith, ap length none)

module _ (taken : List ℕ) (none : has_end taken ≡ false) where
  abbrev all : List (List ℕ)
  all = whole_lines (pieces_of taken) ++ last_line (rest_of (pieces_of taken))

  lines_all : schema_lines taken ≡ length (lines_of taken)
  lines_all =
      schema_lines-is taken ∙ sym (to_end-front (lines_of taken)) ∙ ap to_end (lines_of-last taken)
      ∙ to_end-none (whole_lines (pieces_of taken)) (last_line (rest_of (pieces_of taken))) (sym (has_end-whole taken) ∙ none)
      ∙ ap (λ n. length (whole_lines (pieces_of taken)) + n) (to_end-last (rest_of (pieces_of taken)))
      ∙ sym (length-append (whole_lines (pieces_of taken)) (last_line (rest_of (pieces_of taken))))
      ∙ ap length (sym (lines_of-last taken)) ∙ length-map (lines_of taken) front

  pub holds_all : HasSchemaLines taken (length taken) (text_of_lines (whole_lines (pieces_of taken) ++ last_line (rest_of (pieces_of taken))))
  holds_all = record {
    size_is = sym (ap (line_end taken) lines_all ∙ line_end-all taken);
    lines = lines_of-text all (HaveNoLf-append (whole_lines (pieces_of taken)) (last_line (rest_of (pieces_of taken))) (HaveNoLf-whole (pieces_of taken) (HaveNoLf-pieces taken)) (HaveNoLf-last (pieces_of taken) (HaveNoLf-pieces taken)))
        ∙ sym (lines_of-last taken)
        ∙ ap (map front) (sym (take_all (schema_lines taken) (lines_of taken) (omega (arith, lines_all))));
  }

-- what is held behind lines that were handed out
pub pieces-are : (parts : List (List ℕ)) → 1 ≤ length parts → parts ≡ whole_lines parts ++ rest_of parts ∷ []
pieces-are [] some = absurd (omega arith)
pieces-are (part ∷ []) some = refl
pieces-are (part ∷ next ∷ parts) some = ap (λ l. part ∷ l) (pieces-are (next ∷ parts) (omega arith))

pub held-behind : (taken : List ℕ) (count : ℕ) → count ≤ lf_count taken → drop count (whole_lines (pieces_of taken)) ++ rest_of (pieces_of taken) ∷ [] ≡ pieces_of (drop (line_end taken count) taken)
held-behind taken count few =
    let whole = whole_lines (pieces_of taken) in
    let size : length whole ≡ lf_count taken = ap length (whole_lines-ended taken) ∙ length-map (ended_lines taken) front ∙ ended_lines-length taken in
    sym (drop-append-le count whole (rest_of (pieces_of taken) ∷ []) (omega arith))
    ∙ ap (drop count) (sym (pieces-are (pieces_of taken) (pieces_of-some taken)))
    ∙ sym (pieces_of-after taken count few)
    ∙ ap pieces_of (sym (drop-line_end count taken))
