-- What a cut at the first LF says of lines, and one at the first TAB of fields.
use Rattle.std.proofs.Common.{◌≡◌, ◌≢◌, ◌≤◌, ℕ, arith, length, List, [], ◌∷◌, ◌++◌, eqb, refl, false, ap, ◌∙◌}
use Rattle.std.specs.List.{All}
use Rattle.std.proofs.lemmas.Bool.{ne_eqb}
use Rattle.std.proofs.lemmas.List.Elements.{All-head, All-tail}
use Rattle.std.proofs.lemmas.List.Splits.{length-slice_split, slice_split_none, slice_split_at}
use Rattle.text_lines.specs.Text.{lines_of, after_line, fields_of}

-- a text with no LF is one line
pub lines_of-none : (text : List ℕ) → text ≢ [] → All (λ c. c ≢ 10) text → lines_of text ≡ text ∷ []
lines_of-none [] some none = absurd (some refl)
lines_of-none (b ∷ []) some none = rw (ne_eqb b 10 (All-head (λ c. c ≢ 10) b [] none)) refl
lines_of-none (b ∷ c ∷ text) some none =
    let rest = lines_of-none (c ∷ text) (λ e. cc) (All-tail (λ c. c ≢ 10) b (c ∷ text) none) in
    rw (ne_eqb b 10 (All-head (λ c. c ≢ 10) b (c ∷ text) none), rest) refl

-- and nothing is behind it
pub after_line-none : (text : List ℕ) → All (λ c. c ≢ 10) text → after_line text ≡ []
after_line-none [] none = refl
after_line-none (b ∷ text) none =
    rw (ne_eqb b 10 (All-head (λ c. c ≢ 10) b text none)) (after_line-none text (All-tail (λ c. c ≢ 10) b text none))

-- what is before the first LF is the first line
before_lf : (line rest : List ℕ) → All (λ c. c ≢ 10) line → lines_of (line ++ 10 ∷ rest) ≡ line ∷ lines_of rest
before_lf [] rest none = refl
before_lf (b ∷ line) rest none =
    rw (ne_eqb b 10 (All-head (λ c. c ≢ 10) b line none), before_lf line rest (All-tail (λ c. c ≢ 10) b line none)) refl

pub lines_of-cut : (text line rest : List ℕ) → text ≡ line ++ 10 ∷ rest → All (λ c. c ≢ 10) line → lines_of text ≡ line ∷ lines_of rest
lines_of-cut text line rest parts none = ap lines_of parts ∙ before_lf line rest none

-- and what is behind it is the rest
behind_lf : (line rest : List ℕ) → All (λ c. c ≢ 10) line → after_line (line ++ 10 ∷ rest) ≡ rest
behind_lf [] rest none = refl
behind_lf (b ∷ line) rest none =
    rw (ne_eqb b 10 (All-head (λ c. c ≢ 10) b line none)) (behind_lf line rest (All-tail (λ c. c ≢ 10) b line none))

pub after_line-cut : (text line rest : List ℕ) → text ≡ line ++ 10 ∷ rest → All (λ c. c ≢ 10) line → after_line text ≡ rest
after_line-cut text line rest parts none = ap after_line parts ∙ behind_lf line rest none

-- no byte of these is a TAB
no_tab : (line : List ℕ) → All (λ c. c ≢ 9) line → All (λ c. eqb c 9 ≡ false) line
no_tab line none = λ k d within. ne_eqb _ 9 (none k d within)

-- a line with no TAB is one field
pub fields_of-none : (line : List ℕ) → All (λ c. c ≢ 9) line → fields_of line ≡ line ∷ []
fields_of-none line none = slice_split_none (λ c. eqb c 9) line (no_tab line none)

-- what is before the first TAB is the first field
pub fields_of-cut : (line field rest : List ℕ) → line ≡ field ++ 9 ∷ rest → All (λ c. c ≢ 9) field → fields_of line ≡ field ∷ fields_of rest
fields_of-cut line field rest parts none = ap fields_of parts ∙ slice_split_at (λ c. eqb c 9) field 9 rest (no_tab field none) refl

-- a line has a field
pub fields_of-some : (line : List ℕ) → 1 ≤ length (fields_of line)
fields_of-some line = omega (arith, length-slice_split (λ c. eqb c 9) line)
