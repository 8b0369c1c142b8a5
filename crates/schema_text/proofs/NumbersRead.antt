-- A number that a field spells is in its range.
use Rattle.std.proofs.Common.{◌≡◌, ℕ, ◌≤◌, Bool, true, false, List, refl, arith, Some, None}
use Rattle.std.specs.Prelude.{◌&&◌, if◌then◌else◌, is_none, nat_le, unwrap_or}
use Rattle.std.specs.Str.Parse.{digits_value}
use Rattle.std.proofs.lemmas.Bool.Decides.{nat_tests}
use Rattle.text_lines.specs.Text.{is_number, number_in}

-- where there is a number, it is in its range
in_range : (number low high : Bool) (least most value : ℕ) → nat_le least value ≡ low → nat_le value most ≡ high → is_none (if number && low && high then Some value else None) ≡ false
    → (least ≤ unwrap_or (if number && low && high then Some value else None) 0) × (unwrap_or (if number && low && high then Some value else None) 0 ≤ most)
in_range true true true least most value low high e = (grind (arith, nat_tests), grind (arith, nat_tests))
in_range true true false least most value low high e = cc
in_range true false high least most value low_is high_is e = cc
in_range false low high least most value low_is high_is e = cc

pub number_in-range : (least most : ℕ) (bytes : List ℕ) → is_none (number_in least most bytes) ≡ false → (least ≤ unwrap_or (number_in least most bytes) 0) × (unwrap_or (number_in least most bytes) 0 ≤ most)
number_in-range least most bytes some = in_range (is_number bytes) (nat_le least (digits_value 10 bytes)) (nat_le (digits_value 10 bytes) most) least most (digits_value 10 bytes) refl refl some
