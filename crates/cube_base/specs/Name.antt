-- What bytes are a name.
use Rattle.std.specs.Prelude.{ℕ, Bool, List, length, nat_le, ◌==◌, ◌&&◌, not}
use Rattle.std.specs.List.{list_all}
use Rattle.std.specs.Str.{is_utf8}

-- the most bytes that a name has
abbrev pub MAX_NAME_LEN : ℕ
MAX_NAME_LEN = 128

-- a byte that may stand in a name: none below 32, and not 127
abbrev pub is_name_byte : ℕ → Bool
is_name_byte b = nat_le 32 b && not (b == 127)

-- one to 128 such bytes
abbrev pub has_name_bytes : List ℕ → Bool
has_name_bytes bytes = nat_le 1 (length bytes) && nat_le (length bytes) MAX_NAME_LEN && list_all is_name_byte bytes

-- a name is such bytes that are UTF-8
abbrev pub is_name : List ℕ → Bool
is_name bytes = has_name_bytes bytes && is_utf8 bytes
