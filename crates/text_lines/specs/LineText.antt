-- A line of a text that users write, as it stands before its LF.
use Rattle.std.specs.Prelude.{◌≡◌, ℕ, ◌+◌, Bool, true, List, [], ◌∷◌, length, take, nat_le, nat_lt, ◌==◌, ◌&&◌, ◌||◌, if◌then◌else◌}
use Rattle.std.specs.List.{list_all}
use Rattle.std.specs.Str.{is_utf8}
use Rattle.std.specs.Prelude.{slice_index_or}
use Rattle.cube_base.specs.Name.{is_name_byte}

-- the most bytes of a line, its final CR included
abbrev pub MAX_LINE : ℕ
MAX_LINE = 4096

-- the line without a final CR
abbrev pub without_cr : List ℕ → List ℕ
without_cr [] = []
without_cr (b ∷ []) = if b == 13 then [] else b ∷ []
without_cr (b ∷ c ∷ line) = b ∷ without_cr (c ∷ line)

-- no byte is left, or the first is `#`
abbrev pub is_blank : List ℕ → Bool
is_blank [] = true
is_blank (b ∷ line) = b == 35

-- the line is skipped, whatever its length and its bytes
abbrev pub is_skipped : List ℕ → Bool
is_skipped line = is_blank (without_cr line)

abbrev pub is_long : List ℕ → Bool
is_long line = nat_lt MAX_LINE (length line)

-- the bytes of a line that tell that it is long, and as much as a longer one's
abbrev pub LINE_FRONT : ℕ
LINE_FRONT = MAX_LINE + 1

-- the line is skipped exactly where its first bytes are, and both are long
pub record IsAsItsFront (line : List ℕ) : Type 0 where
  pub skipped : is_skipped line ≡ is_skipped (take LINE_FRONT line)
  pub long : is_long line ≡ true
  pub front_long : is_long (take LINE_FRONT line) ≡ true

-- a byte below 128 that may stand in a line
abbrev pub is_plain : ℕ → Bool
is_plain b = b == 9 || nat_le 32 b && nat_lt b 127

-- UTF-8 with no byte below 32 but TAB, and no 127
abbrev pub is_clean : List ℕ → Bool
is_clean line = is_utf8 line && list_all (λ b. b == 9 || is_name_byte b) line

-- the field at a place, empty where there is none
abbrev pub field_at : List (List ℕ) → ℕ → List ℕ
field_at fields i = slice_index_or fields i []
