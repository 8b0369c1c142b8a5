-- Reading a schema line by line.
use Rattle.std.proofs.Common.{◌≡◌, ℕ, zero, suc, ◌+◌, ◌-◌, ◌<◌, ◌≤◌, true, false, List, [], ◌∷◌, length, refl, sym, ap, ◌∙◌, arith, Option, Some, None, add-one}
use Rattle.std.specs.Prelude.{Ok, Err}
use Rattle.std.specs.Option.{option_map_or}
use Rattle.cube_base.specs.declared.code.Code.{Code}
use Rattle.cube_base.specs.declared.code.Code.TheVariants.{Cut}
use Rattle.text_lines.specs.Text.{after_line, lines_of, after_lines}
use Rattle.schema_text.specs.declared.fault.LineFault.{LineFault}
use Rattle.schema_text.specs.declared.fault.LineFault.TheVariants.{Refused, Memory}
use Rattle.schema_text.specs.Draft.{end_fault, read_with}
use Rattle.schema_text.specs.Fault.{HasCause, IsCause, at_line}
use Rattle.text_lines.specs.LineText.{is_skipped}
use Rattle.schema_text.specs.SchemaText.{Draft, blank_draft, draft_line_fault, is_end, read_from, schema_of, schema_of_draft, sized, with_line}
use Rattle.schema_text.proofs.Ends.{draft_line_fault-end}

-- so many lines are read, which leave this draft and this rest
pub record IsRead (text : List ℕ) (draft : Draft) (lines : ℕ) (rest : List ℕ) : Type 0 where
  pub read : read_from blank_draft 0 (lines_of text) ≡ read_from draft lines (lines_of rest)
  pub behind : rest ≡ after_lines lines text
  pub fits : lines + length rest ≤ length text

-- one line more is behind
after_lines-more : (n : ℕ) (text : List ℕ) → after_lines (n + 1) text ≡ after_line (after_lines n text)
after_lines-more n text = rw (add-one n) (behind n text)
  where
    behind : (n : ℕ) (text : List ℕ) → after_lines (suc n) text ≡ after_line (after_lines n text)
    behind zero text = refl
    behind (suc n) text = behind n (after_line text)

-- a line is cut from the rest
pub record IsCut (rest line behind : List ℕ) : Type 0 where
  pub cut : lines_of rest ≡ line ∷ lines_of behind
  pub after : behind ≡ after_line rest
  pub shorter : length behind < length rest

behind-more : (text : List ℕ) (lines : ℕ) (rest behind : List ℕ) → rest ≡ after_lines lines text → behind ≡ after_line rest → behind ≡ after_lines (lines + 1) text
behind-more text lines rest behind is after = after ∙ ap after_line is ∙ sym (after_lines-more lines text)

-- before the first line
pub IsRead-none : (text : List ℕ) → IsRead text blank_draft 0 text
IsRead-none text = record { read = refl; behind = refl; fits = omega arith }

-- a line is passed over
pub IsRead-skip : (text : List ℕ) (draft : Draft) (lines : ℕ) (rest line behind : List ℕ) → IsRead text draft lines rest → IsCut rest line behind → is_skipped line ≡ true
    → IsRead text draft (lines + 1) behind
IsRead-skip text draft lines rest line behind is cut skipped = record {
  read = is.read ∙ ap (read_from draft lines) cut.cut ∙ rw skipped refl;
  behind = behind-more text lines rest behind is.behind cut.after;
  fits = omega (arith, is.fits, cut.shorter);
}

-- a line is accepted
pub IsRead-more : (text : List ℕ) (draft next : Draft) (lines : ℕ) (rest line behind : List ℕ) → IsRead text draft lines rest → IsCut rest line behind → is_skipped line ≡ false
    → draft_line_fault draft line ≡ None → is_end line ≡ false → next ≡ with_line draft line → IsRead text next (lines + 1) behind
IsRead-more text draft next lines rest line behind is cut stays accepted goes_on added = record {
  read = is.read ∙ ap (read_from draft lines) cut.cut ∙ rw (stays, accepted, goes_on, added) refl;
  behind = behind-more text lines rest behind is.behind cut.after;
  fits = omega (arith, is.fits, cut.shorter);
}

-- a line is refused
pub schema_of-bad : (text : List ℕ) (draft : Draft) (lines : ℕ) (rest line behind : List ℕ) (reason : Code) → IsRead text draft lines rest → IsCut rest line behind → is_skipped line ≡ false
    → draft_line_fault draft line ≡ Some reason → schema_of text ≡ Err (record { line = lines + 1; reason = reason })
unfolding schema_of
schema_of-bad text draft lines rest line behind reason is cut stays refused =
    let here : read_from draft lines (line ∷ lines_of behind) ≡ Err (record { line = lines + 1; reason = reason }) = rw (stays, refused) refl in
    ap (sized text) (is.read ∙ ap (read_from draft lines) cut.cut ∙ here)

-- a line is refused, or it is out of memory
pub HasCause-line : (text : List ℕ) (draft : Draft) (lines : ℕ) (rest line behind : List ℕ) (fault : LineFault) → IsRead text draft lines rest → IsCut rest line behind → is_skipped line ≡ false
    → IsCause (draft_line_fault draft line) fault → HasCause text (at_line (lines + 1) fault)
HasCause-line text draft lines rest line behind (Refused reason) is cut stays cause = schema_of-bad text draft lines rest line behind reason is cut stays cause
HasCause-line text draft lines rest line behind Memory is cut stays cause = tt

-- the line `end` is reached
pub schema_of-end : (text : List ℕ) (draft : Draft) (lines : ℕ) (rest line behind : List ℕ) → IsRead text draft lines rest → IsCut rest line behind → is_skipped line ≡ false
    → is_end line ≡ true → schema_of text ≡ read_with draft (lines + 1) (length text - length behind)
unfolding schema_of
schema_of-end text draft lines rest line behind is cut stays ends =
    let here : read_from draft lines (line ∷ lines_of behind) ≡ option_map_or (λ reason. Err (record { line = lines + 1; reason = reason })) (end_fault draft) (Ok (record { schema = schema_of_draft draft; lines = lines + 1 })) =
    rw (stays, draft_line_fault-end draft line ends, ends) refl in
    ap (sized text) (is.read ∙ ap (read_from draft lines) cut.cut ∙ here) ∙ size_of (end_fault draft)
    ∙ ap (λ l. read_with draft (lines + 1) (length text - length l)) (sym (behind-more text lines rest behind is.behind cut.after))
  where
    size_of : (fault : Option Code)
        → sized text (option_map_or (λ reason. Err (record { line = lines + 1; reason = reason })) fault (Ok (record { schema = schema_of_draft draft; lines = lines + 1 })))
        ≡ option_map_or (λ reason. Err (record { line = lines + 1; reason = reason })) fault (Ok (record { schema = schema_of_draft draft; size = length text - length (after_lines (lines + 1) text) }))
    size_of None = refl
    size_of (Some reason) = refl

-- it is accepted
pub schema_of-accepted : (text : List ℕ) (draft : Draft) (lines size : ℕ) → schema_of text ≡ read_with draft lines size → end_fault draft ≡ None → schema_of text ≡ Ok (record { schema = schema_of_draft draft; size = size })
schema_of-accepted text draft lines size read accepted = read ∙ rw accepted refl

-- it is refused, or it is out of memory
pub HasCause-end : (text : List ℕ) (draft : Draft) (lines size : ℕ) (fault : LineFault) → schema_of text ≡ read_with draft lines size → IsCause (end_fault draft) fault → HasCause text (at_line lines fault)
HasCause-end text draft lines size (Refused reason) read cause = read ∙ rw cause refl
HasCause-end text draft lines size Memory read cause = tt

-- the text ends before
pub schema_of-cut : (text : List ℕ) (draft : Draft) (lines : ℕ) (rest : List ℕ) → IsRead text draft lines rest → rest ≡ [] → schema_of text ≡ Err (record { line = lines + 1; reason = Cut })
unfolding schema_of
schema_of-cut text draft lines rest is none = ap (sized text) (is.read ∙ ap (λ l. read_from draft lines (lines_of l)) none)
