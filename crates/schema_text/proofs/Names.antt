-- What bytes say of names: those that are no UTF-8 are none.
use Rattle.std.proofs.Common.{◌≡◌, ◌∙◌, ℕ, false, List, ap}
use Rattle.std.specs.Prelude.{◌&&◌}
use Rattle.std.specs.Str.{IsUtf8}
use Rattle.std.proofs.Math.Bool.{and-false}
use Rattle.cube_base.specs.Name.{has_name_bytes, is_name}
use Rattle.text_lines.proofs.LineTexts.{is_utf8-not}

-- bytes that are not UTF-8 are no name
pub is_name-not_utf8 : (bytes : List ℕ) → ¬ IsUtf8 bytes → is_name bytes ≡ false
is_name-not_utf8 bytes other = ap (λ b. has_name_bytes bytes && b) (is_utf8-not bytes other) ∙ and-false (has_name_bytes bytes)
