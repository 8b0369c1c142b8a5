-- The word of a line, and how the line is judged and read by it.
use Rattle.std.proofs.Common.{◌≡◌, ℕ, Bool, true, false, List, refl, ap, sym, ◌∙◌, Option, Some, None}
use Rattle.std.specs.Prelude.{if◌then◌else◌, Ok, Err}
use Rattle.cube_base.specs.declared.code.Code.{Code}
use Rattle.cube_base.specs.declared.code.Code.TheVariants as code
use Rattle.text_lines.specs.LineText.{field_at, is_clean, is_long, without_cr}
use Rattle.text_lines.specs.Text.{fields_of}
use Rattle.schema_text.specs.declared.word.SchemaWord.{SchemaWord}
use Rattle.schema_text.specs.Draft.{may_stand, word_in}
use Rattle.schema_text.specs.SchemaText.{Draft, draft_line_fault, fields_fault, may_follow, with_line, with_word, word_fault, word_named}

-- a line has this word, and it may stand there
pub record HasWord (last : Option SchemaWord) (line : List ℕ) (word : SchemaWord) : Type 0 where
  pub short : is_long line ≡ false
  pub clean : is_clean (without_cr line) ≡ true
  pub named : word_named (field_at (fields_of (without_cr line)) 0) ≡ Some word
  pub follows : may_follow last word ≡ true

stands : (last found : Option SchemaWord) (word : SchemaWord) → may_stand last found ≡ Ok word → (found ≡ Some word) × (may_follow last word ≡ true)
stands last None word e = cc
stands last (Some other) word e = follows (may_follow last other) refl e
  where
    follows : (may : Bool) → may_follow last other ≡ may → (if may then Ok other else Err code.Order) ≡ Ok word → (Some other ≡ Some word) × (may_follow last word ≡ true)
    follows true is e =
        let same : other ≡ word = cc in
        (ap (λ w. Some w) same, ap (may_follow last) (sym same) ∙ is)
    follows false is e = cc

pub HasWord-in : (last : Option SchemaWord) (line : List ℕ) (word : SchemaWord) → word_in last line ≡ Ok word → HasWord last line word
HasWord-in last line word e = read (is_long line) (is_clean (without_cr line)) refl refl e
  where
    read : (long clean : Bool) → is_long line ≡ long → is_clean (without_cr line) ≡ clean
        → (if long then Err code.Long else (if clean then may_stand last (word_named (field_at (fields_of (without_cr line)) 0)) else Err code.Text)) ≡ Ok word → HasWord last line word
    read true clean long_is clean_is e = cc
    read false false long_is clean_is e = cc
    read false true long_is clean_is e =
        let parts = stands last (word_named (field_at (fields_of (without_cr line)) 0)) word e in
        record { short = long_is; clean = clean_is; named = parts.0; follows = parts.1 }

-- it is judged by that word
pub draft_line_fault-word : (draft : Draft) (line : List ℕ) (word : SchemaWord) → HasWord draft.last line word → draft_line_fault draft line ≡ word_fault draft (fields_of (without_cr line)) word
draft_line_fault-word draft line word has = rw (has.short, has.clean, has.named, has.follows) refl

-- and read by it
pub with_line-word : (draft : Draft) (line : List ℕ) (word : SchemaWord) → HasWord draft.last line word → with_line draft line ≡ with_word draft (fields_of (without_cr line)) word
with_line-word draft line word has = rw has.named refl

-- a line without such a word is refused
pub draft_line_fault-none : (draft : Draft) (line : List ℕ) (reason : Code) → word_in draft.last line ≡ Err reason → draft_line_fault draft line ≡ Some reason
draft_line_fault-none draft line reason e = read (is_long line) (is_clean (without_cr line)) (word_named (field_at (fields_of (without_cr line)) 0)) e
  where
    read : (long clean : Bool) (found : Option SchemaWord)
        → (if long then Err code.Long else (if clean then may_stand draft.last found else Err code.Text)) ≡ Err reason
        → (if long then Some code.Long else (if clean then fields_fault draft (fields_of (without_cr line)) found else Some code.Text)) ≡ Some reason
    read true clean found e = cc
    read false false found e = cc
    read false true None e = cc
    read false true (Some word) e = stand (may_follow draft.last word) e
      where
        stand : (may : Bool) → (if may then Ok word else Err code.Order) ≡ Err reason → (if may then word_fault draft (fields_of (without_cr line)) word else Some code.Order) ≡ Some reason
        stand true e = cc
        stand false e = cc
