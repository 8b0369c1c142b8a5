-- That each line that is pulled leaves fewer to be pulled.
use Rattle.std.proofs.Common.{◌≡◌, ℕ, ◌+◌, ◌<◌, ◌≤◌, Bool, true, false, List, [], ◌∷◌, length, Result, Ok, Err, Option, refl, ap, ◌∙◌, arith, length-append}
use Rattle.std.specs.Prelude.{IfOk}
use Rattle.text_lines.specs.declared.input.InputStop.{InputStop}
use Rattle.text_lines.specs.declared.piece_reader.LineInput.{LineInput}
use Rattle.text_lines.specs.Pieces.{Held, last_line, rest_of, whole_lines}
use Rattle.text_lines.specs.Reading.{Feeds, Reading}
use Rattle.script_run.proofs.HeldLines.{length-whole_lines}
use Rattle.feed_run.specs.Pulling.{CopiesHeld, CopiesWhole, held_lines, pulls_left}

-- how many are left before the end of the input, and then
pub left-more : (input : LineInput) → input.pieces.is_ended ≡ false → pulls_left input ≡ input.pieces.room + length input.lines.lines
left-more input more = rw more refl

left-ended : (input : LineInput) → input.pieces.is_ended ≡ true → pulls_left input ≡ input.pieces.room + length (held_lines input.lines.lines)
left-ended input ended = rw ended refl

-- a line of those that are held whole is pulled before the end
pub left-whole : (input after : LineInput) (line : List ℕ) → input.pieces.is_ended ≡ false → after.pieces ≡ input.pieces → CopiesWhole input.lines.lines after.lines.lines line (Ok true) → pulls_left after < pulls_left input
left-whole input after line more same copies =
    let room : after.pieces.room ≡ input.pieces.room = ap (λ (r : Reading). r.room) same in
    let whole : length (whole_lines input.lines.lines) ≡ length (whole_lines after.lines.lines) + 1 = omega (arith, ap length copies.0) in
    omega (arith, left-more input more, left-more after (ap (λ (r : Reading). r.is_ended) same ∙ more), room, whole, length-whole_lines input.lines.lines, length-whole_lines after.lines.lines)

-- a piece is taken, of which no more lines are held than bytes came
one-last : (rest : List ℕ) → length (last_line rest) ≤ 1
one-last [] = omega arith
one-last (b ∷ rest) = omega arith

few-held : (held : List (List ℕ)) → 1 ≤ length held → length (held_lines held) ≤ length held
few-held held some = omega (arith, length-append (whole_lines held) (last_line (rest_of held)), one-last (rest_of held), length-whole_lines held)

few-none : (held : List (List ℕ)) → length held ≤ 1 → length (held_lines held) ≤ 1
few-none held few = omega (arith, length-append (whole_lines held) (last_line (rest_of held)), one-last (rest_of held), length-whole_lines held)

pub left-fed : (input after : LineInput) (left later : Option (List ℕ)) → input.pieces.is_ended ≡ false → length input.lines.lines ≡ 1 → Feeds left later input.pieces after.pieces input.lines.lines after.lines.lines → pulls_left after ≤ pulls_left input
left-fed input after left later more one feeds = by_end after.pieces.is_ended refl
  where
    by_end : (ended : Bool) → after.pieces.is_ended ≡ ended → pulls_left after ≤ pulls_left input
    by_end false goes_on = omega (arith, left-more input more, left-more after goes_on, one, feeds.room, feeds.few_lines)
    by_end true ended =
        let none : length feeds.piece ≡ 0 = ap length (feeds.end ended).0 in
        let few : length after.lines.lines ≤ 1 = omega (arith, feeds.few_lines, none) in
        omega (arith, left-more input more, left-ended after ended, one, feeds.room, none, few-none after.lines.lines few)

-- at the end one that is held is pulled
held-one : (input : LineInput) (held_after : Held) (line : List ℕ) → input.pieces.is_ended ≡ true → CopiesHeld input.lines.lines held_after.lines line (Ok true) → pulls_left (record { pieces = input.pieces; lines = held_after }) < pulls_left input
held-one input held_after line ended copies =
    let count : length (held_lines input.lines.lines) ≡ length (held_lines held_after.lines) + 1 = omega (arith, ap length copies) in
    omega (arith, left-ended input ended, left-ended (record { pieces = input.pieces; lines = held_after }) ended, count)

pub left-held : (input : LineInput) (held_after : Held) (line : List ℕ) (most : ℕ) (result : Result Bool InputStop) → input.pieces.is_ended ≡ true → pulls_left input ≤ most → CopiesHeld input.lines.lines held_after.lines line result
    → IfOk result (λ more. more ≡ true → pulls_left (record { pieces = input.pieces; lines = held_after }) < most)
left-held input held_after line most (Ok true) ended le copies = let less = held-one input held_after line ended copies in λ yes. omega (arith, less, le)
left-held input held_after line most (Ok false) ended le copies = λ yes. cc
left-held input held_after line most (Err stop) ended le copies = tt
