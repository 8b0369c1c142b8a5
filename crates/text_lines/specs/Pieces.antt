-- The lines of an input that comes in pieces.
use Rattle.std.specs.Prelude.{ℕ, ◌-◌, Bool, List, [], ◌∷◌, ◌++◌, ◌==◌, count_by, length, map, take}
use Rattle.std.specs.List.{slice_split}
use Rattle.text_lines.specs.LineText.{LINE_FRONT}
use Rattle.text_lines.specs.Text.{after_lines, lines_of}

-- as much of a line as tells what it means
abbrev pub front : List ℕ → List ℕ
front line = take LINE_FRONT line

abbrev pub is_lf : ℕ → Bool
is_lf b = b == 10

-- how many lines end in a text, and which: those of which it has the LF
abbrev pub lf_count : List ℕ → ℕ
lf_count text = count_by is_lf text

abbrev pub ended_lines : List ℕ → List (List ℕ)
ended_lines text = take (lf_count text) (lines_of text)

-- how many bytes a text has up to and with the LF of its n-th line, or in all where that line has none
abbrev pub line_end : List ℕ → ℕ → ℕ
line_end text n = length text - length (after_lines n text)

-- what stands between the LFs of a text, and last what stands after the last of them, which may be empty: of each its
-- front
abbrev pub pieces_of : List ℕ → List (List ℕ)
pieces_of text = map front (slice_split is_lf text)

-- what is held of an input: the lines that are whole, in order, and last the rest; and how many bytes the cutter has
pub record Held : Type 0 where
  pub lines : List (List ℕ)
  pub bytes : ℕ

-- the lines that are whole: all but the last
abbrev pub whole_lines : List (List ℕ) → List (List ℕ)
whole_lines [] = []
whole_lines (rest ∷ []) = []
whole_lines (line ∷ next ∷ lines) = line ∷ whole_lines (next ∷ lines)

-- the last, which is not whole
abbrev pub rest_of : List (List ℕ) → List ℕ
rest_of [] = []
rest_of (rest ∷ []) = rest
rest_of (line ∷ next ∷ lines) = rest_of (next ∷ lines)

-- what is left after the first line that is whole, or all where none is
abbrev pub behind_line : List (List ℕ) → List (List ℕ)
behind_line [] = []
behind_line (rest ∷ []) = rest ∷ []
behind_line (line ∷ next ∷ lines) = next ∷ lines

-- a rest is a line unless it is empty
abbrev pub last_line : List ℕ → List (List ℕ)
last_line [] = []
last_line (b ∷ rest) = (b ∷ rest) ∷ []

-- the lines that are still handed out where these are held and this text is to come
abbrev pub lines_ahead : List (List ℕ) → List ℕ → List (List ℕ)
lines_ahead held text = whole_lines held ++ map front (lines_of (rest_of held ++ text))

-- the lines that are handed out while pieces come after a rest: after each piece those that are whole then, and at the
-- end the rest
abbrev pub lines_given : List ℕ → List (List ℕ) → List (List ℕ)
lines_given rest [] = last_line rest
lines_given rest (piece ∷ pieces) = whole_lines (pieces_of (rest ++ piece)) ++ lines_given (rest_of (pieces_of (rest ++ piece))) pieces
