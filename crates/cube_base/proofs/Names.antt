-- What a text's bytes say of it as a name.
use Rattle.std.proofs.Common.{◌≡◌, ℕ, List}
use Rattle.std.proofs.Math.Bool.{and-true}
use Rattle.std.proofs.lemmas.Str.{is_utf8-from_IsUtf8}
use Rattle.std.specs.Str.{IsUtf8}
use Rattle.cube_base.specs.Name.{has_name_bytes, is_name}

-- a text is a name where its bytes are those of one
pub is_name-text : (bytes : List ℕ) → IsUtf8 bytes → is_name bytes ≡ has_name_bytes bytes
is_name-text bytes text = rw (is_utf8-from_IsUtf8 bytes text) (and-true (has_name_bytes bytes))
