-- The fields that a walk through a line has before it, and the marks of the TABs between them.
use Rattle.std.specs.Prelude.{◌≡◌, ℕ, ◌==◌, List, [], Option, None, Some, drop, map, take}
use Rattle.std.specs.Simd.Lanes.{mask_l}
use Rattle.std.specs.Str.{IsCharBoundary}
use Rattle.text_lines.specs.Text.{fields_of}

-- the fields from a place on, if there is one
abbrev pub fields_from : Option ℕ → List ℕ → List (List ℕ)
fields_from None line = []
fields_from (Some i) line = fields_of (drop i line)

-- the most bytes that are marked
abbrev pub MARKED : ℕ
MARKED = 64

-- the marks of the first bytes of a line, from a place on: a bit for each, the first lowest, set where it is a TAB
abbrev pub marks_from : List ℕ → ℕ → ℕ
marks_from line i = mask_l (map (λ b. b == 9) (drop i (take MARKED line)))

-- a place where a field begins, and the marks from there on
pub record IsMarkedFrom (line : List ℕ) (marks i : ℕ) : Type 0 where
  pub boundary : IsCharBoundary line i
  pub marked : marks ≡ marks_from line i
