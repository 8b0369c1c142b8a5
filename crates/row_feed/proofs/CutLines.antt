-- A line that is cut at its TABs: its fields, and what stands behind the number of a batch.
use Rattle.std.proofs.Common.{◌≡◌, ◌≢◌, ℕ, suc, ◌+◌, Bool, true, false, List, [], ◌∷◌, ◌++◌, length, get_or, drop, refl, sym, ap, subst, ◌∙◌, arith, append_assoc, length-append, Some, None, Ok, Err}
use Rattle.std.specs.Prelude.{All, nat_le, ◌==◌, ◌&&◌, ◌||◌}
use Rattle.std.specs.List.{list_all, onto_first}
use Rattle.std.specs.Str.{IsUtf8, is_utf8}
use Rattle.std.proofs.Math.Seq.{get_or-append_seam}
use Rattle.std.proofs.lemmas.Bool.{and_parts, eqb-true}
use Rattle.std.proofs.lemmas.Bool.Decides.{nat_tests}
use Rattle.std.proofs.lemmas.List.{drop_at}
use Rattle.std.proofs.lemmas.List.Folds.{list_all-append}
use Rattle.std.proofs.lemmas.Str.{IsCharBoundary-after_ascii, IsUtf8-drop, IsUtf8-from_is_utf8, is_utf8-from_IsUtf8}
use Rattle.cube_base.specs.Name.{is_name_byte}
use Rattle.cube_base.specs.declared.code.Code.TheVariants as code
use Rattle.text_lines.specs.LineText.{field_at, is_blank, is_clean, is_long, is_skipped, without_cr}
use Rattle.text_lines.specs.Text.{fields_of, number_in}
use Rattle.text_lines.proofs.Cuts.{fields_of-cut, fields_of-none, fields_of-some}
use Rattle.schema_text.specs.Schema.{SchemaValue}
use Rattle.script_text.specs.ScriptLine.{line_of}
use Rattle.script_text.proofs.LineSteps.{line_of-clean}
use Rattle.row_feed.specs.declared.feed_line.FeedLine.TheVariants.{Batch}
use Rattle.row_feed.specs.FeedLine.{MAX_NUMBER, batch_given, is_said_word, rest_given}

-- the line of a batch without a TAB, or with one alone
pub batch-no_tab : (schema : SchemaValue) (line : List ℕ) → All (λ b. b ≢ 9) line → batch_given schema (fields_of line) ≡ Err code.Fields
batch-no_tab schema line none = rw (fields_of-none line none) refl

pub batch-one_tab : (schema : SchemaValue) (line first behind : List ℕ) → line ≡ first ++ 9 ∷ behind → All (λ b. b ≢ 9) first → All (λ b. b ≢ 9) behind → batch_given schema (fields_of line) ≡ Err code.Fields
batch-one_tab schema line first behind parts none others = rw (fields_of-cut line first behind parts none, fields_of-none behind others) refl

-- and with two
module _ (schema : SchemaValue) (line first behind number rest : List ℕ) (parts : line ≡ first ++ 9 ∷ behind) (none : All (λ b. b ≢ 9) first) (more : behind ≡ number ++ 9 ∷ rest) (others : All (λ b. b ≢ 9) number) where
  fields : fields_of line ≡ first ∷ number ∷ fields_of rest
  fields = fields_of-cut line first behind parts none ∙ ap (λ l. first ∷ l) (fields_of-cut behind number rest more others)

  three : nat_le 3 (length (first ∷ number ∷ fields_of rest)) ≡ true
  three = let some = fields_of-some rest in grind (arith, nat_tests)

  pub batch-no_number : number_in 0 MAX_NUMBER number ≡ None → batch_given schema (fields_of line) ≡ Err code.Number
  batch-no_number wrong = rw (fields, three, wrong) refl

  pub batch-numbered : (n : ℕ) → number_in 0 MAX_NUMBER number ≡ Some n → batch_given schema (fields_of line) ≡ Ok (Batch n (rest_given schema (fields_of rest)))
  batch-numbered n right = rw (fields, three, right) refl

-- what stands behind a TAB is not longer, and clean
pub behind-short : (line first behind : List ℕ) → line ≡ first ++ 9 ∷ behind → is_long line ≡ false → is_long behind ≡ false
behind-short line first behind parts short = let count : length line ≡ length first + suc (length behind) = ap length parts ∙ length-append first (9 ∷ behind) in grind (arith, nat_tests)

is_utf8-behind : (line first behind : List ℕ) → line ≡ first ++ 9 ∷ behind → is_utf8 line ≡ true → is_utf8 behind ≡ true
is_utf8-behind line first behind parts utf8 =
    let text : IsUtf8 (first ++ 9 ∷ behind) = subst IsUtf8 parts (IsUtf8-from_is_utf8 line utf8) in
    let at = length first in
    let tab : get_or (first ++ 9 ∷ behind) at 0 ≡ 9 = get_or-append_seam first 9 behind 0 in
    let boundary = IsCharBoundary-after_ascii (first ++ 9 ∷ behind) at text (omega (arith, length-append first (9 ∷ behind))) (omega (arith, tab)) in
    let rest : drop (at + 1) (first ++ 9 ∷ behind) ≡ behind =
    ap (drop (at + 1)) (sym (append_assoc first (9 ∷ []) behind)) ∙ drop_at (first ++ 9 ∷ []) behind (at + 1) (length-append first (9 ∷ [])) in
    is_utf8-from_IsUtf8 behind (subst IsUtf8 rest (IsUtf8-drop (first ++ 9 ∷ behind) (at + 1) text boundary))

pub behind-clean : (line first behind : List ℕ) → line ≡ first ++ 9 ∷ behind → is_clean line ≡ true → is_clean behind ≡ true
behind-clean line first behind parts clean =
    let both = and_parts (is_utf8 line) (list_all (λ b. b == 9 || is_name_byte b) line) clean in
    let bytes = ap (list_all (λ b. b == 9 || is_name_byte b)) (sym parts) ∙ both.1 in
    let split : list_all (λ b. b == 9 || is_name_byte b) first && list_all (λ b. b == 9 || is_name_byte b) behind ≡ true = sym (list_all-append (λ b. b == 9 || is_name_byte b) first (9 ∷ behind)) ∙ bytes in
    let each = and_parts (list_all (λ b. b == 9 || is_name_byte b) first) (list_all (λ b. b == 9 || is_name_byte b) behind) split in
    rw (is_utf8-behind line first behind parts both.0, each.1) refl

-- a clean line has no CR
pub without_cr-clean : (line : List ℕ) → list_all (λ b. b == 9 || is_name_byte b) line ≡ true → without_cr line ≡ line
without_cr-clean [] clean = refl
without_cr-clean (b ∷ []) clean =
    let other : (b == 13) ≡ false = grind (arith, nat_tests) in
    rw other refl
without_cr-clean (b ∷ c ∷ line) clean =
    let parts = and_parts (b == 9 || is_name_byte b) (list_all (λ d. d == 9 || is_name_byte d) (c ∷ line)) clean in
    ap (λ l. b ∷ l) (without_cr-clean (c ∷ line) parts.1)

-- a line that begins with the word of an edit or a growth is not blank
said-no_hash : (parts : List (List ℕ)) → is_said_word (field_at (onto_first 35 parts) 0) ≡ false
said-no_hash [] = refl
said-no_hash (field ∷ others) = refl

said-not_blank : (line : List ℕ) → is_said_word (field_at (fields_of line) 0) ≡ true → is_blank line ≡ false
said-not_blank [] said = cc said
said-not_blank (b ∷ line) said = either (b == 35) refl
  where
    either : (hash : Bool) → (b == 35) ≡ hash → hash ≡ false
    either true is =
        let found : is_said_word (field_at (fields_of (35 ∷ line)) 0) ≡ true = ap (λ c. is_said_word (field_at (fields_of (c ∷ line)) 0)) (sym (eqb-true b 35 is)) ∙ said in
        cc (found, said-no_hash (fields_of line))
    either false is = refl

-- so what stands behind the number of a batch says what a line of a script says
pub rest_given-said : (schema : SchemaValue) (rest : List ℕ) → is_said_word (field_at (fields_of rest) 0) ≡ true → is_long rest ≡ false → is_clean rest ≡ true → rest_given schema (fields_of rest) ≡ line_of schema rest
rest_given-said schema rest said short clean =
    let both = and_parts (is_utf8 rest) (list_all (λ b. b == 9 || is_name_byte b) rest) clean in
    let bare = without_cr-clean rest both.1 in
    let stays : is_skipped rest ≡ false = ap is_blank bare ∙ said-not_blank rest said in
    rw said (line_of-clean schema rest rest (sym stays) (sym short) (sym (ap is_clean bare ∙ clean)) (sym bare))
