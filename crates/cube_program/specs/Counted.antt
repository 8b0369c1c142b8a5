-- How the lines of what is read are counted.
use Rattle.std.specs.Prelude.{ℕ, ◌+◌, ◌-◌, Bool, List, length, min, not, slice_get, if◌then◌else◌}
use Rattle.std.specs.Option.{option_map_or}
use Rattle.cube_base.specs.Outside.{LAST_COUNT, next_count}
use Rattle.text_lines.specs.Pieces.{is_lf, lf_count}

-- how many LFs there were, with those of some bytes more; the count stands at its last value
abbrev pub ended_with : ℕ → List ℕ → ℕ
ended_with ended bytes = min (ended + lf_count bytes) LAST_COUNT

-- whether something stands after the last of them then
abbrev pub is_within_with : Bool → List ℕ → Bool
is_within_with is_within bytes = option_map_or (λ last. not (is_lf last)) (slice_get bytes (length bytes - 1)) is_within

-- how many lines that makes
abbrev pub lines_in : ℕ → Bool → ℕ
lines_in ended is_within = if is_within then next_count ended else ended
