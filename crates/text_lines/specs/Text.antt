-- Lines, fields and numbers of a text.
use Rattle.std.specs.Prelude.{ℕ, Bool, List, [], ◌∷◌, ◌++◌, zero, suc, length, nat_le, ◌==◌, ◌&&◌, ◌||◌, not, if◌then◌else◌, Option, Some, None, slice_index}
use Rattle.std.specs.List.{list_all, slice_split, onto_first, flat_map}
use Rattle.std.specs.Str.Parse.{digits_value}

-- each LF ends a line, and a rest that is not empty is a line
abbrev pub lines_of : List ℕ → List (List ℕ)
lines_of [] = []
lines_of (b ∷ bytes) = if b == 10 then [] ∷ lines_of bytes else onto_first b (lines_of bytes)

-- the bytes after the first line
abbrev pub after_line : List ℕ → List ℕ
after_line [] = []
after_line (b ∷ bytes) = if b == 10 then bytes else after_line bytes

-- the bytes after some lines
abbrev pub after_lines : ℕ → List ℕ → List ℕ
after_lines zero bytes = bytes
after_lines (suc n) bytes = after_lines n (after_line bytes)

-- what stands between the TABs of a line
abbrev pub fields_of : List ℕ → List (List ℕ)
fields_of line = slice_split (λ b. b == 9) line

abbrev pub is_digit : ℕ → Bool
is_digit b = nat_le 48 b && nat_le b 57

-- one digit, or several of which the first is not 0
abbrev pub is_number : List ℕ → Bool
is_number bytes = list_all is_digit bytes && nat_le 1 (length bytes) && (length bytes == 1 || not (slice_index bytes 0 == 48))

-- the number from least to most that the bytes spell
abbrev pub number_in : ℕ → ℕ → List ℕ → Option ℕ
number_in least most bytes =
    if is_number bytes && nat_le least (digits_value 10 bytes) && nat_le (digits_value 10 bytes) most then Some (digits_value 10 bytes) else None

-- a line of fields: the first, then a TAB and a field each, then LF
abbrev pub line_text : List ℕ → List (List ℕ) → List ℕ
line_text first fields = first ++ flat_map (λ field. 9 ∷ field) fields ++ 10 ∷ []
