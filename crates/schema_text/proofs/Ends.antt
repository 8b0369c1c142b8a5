-- The line `end`.
use Rattle.std.proofs.Common.{◌≡◌, ℕ, ◌+◌, ◌≤◌, Bool, true, false, List, [], ◌∷◌, length, refl, ap, ◌∙◌, arith, Option, Some, None}
use Rattle.std.specs.Prelude.{if◌then◌else◌, codes, is_none, nat_le, not}
use Rattle.std.specs.List.{list_all}
use Rattle.std.specs.Option.{option_or}
use Rattle.cube_model.specs.Accepted.{first_that_holds}
use Rattle.cube_model.specs.Limits.{SPACE_LIMIT}
use Rattle.cube_model.specs.Tree.{is_numbered}
use Rattle.region_algebra.specs.Space.{cell_total, region_total}
use Rattle.schema_text.specs.declared.word.SchemaWord.TheVariants.{End}
use Rattle.std.specs.Str.{is_utf8, chars}
use lib.Utf8
use Rattle.std.proofs.lemmas.Bool.Decides.{nat_tests}
use Rattle.std.proofs.lemmas.Slice.Eq.{bytes_eq-Decides}
use Rattle.cube_base.specs.declared.code.Code.{Code}
use Rattle.cube_base.specs.declared.code.Code.TheVariants as code
use Rattle.text_lines.specs.Text.{fields_of}
use Rattle.schema_text.specs.declared.fault.LineFault.{LineFault}
use Rattle.schema_text.specs.declared.fault.LineFault.TheVariants.{Refused, Memory}
use Rattle.schema_text.specs.Draft.{end_fault, ended_fault, front_fault}
use Rattle.schema_text.specs.Fault.{IsCause}
use Rattle.text_lines.specs.LineText.{field_at, is_clean, is_long, without_cr}
use Rattle.schema_text.specs.SchemaText.{Draft, dims_of, draft_line_fault, ended, fields_fault, is_end, may_follow, policy_among, word_named}

-- without its CR a line is at most a byte shorter
pub length-without_cr : (line : List ℕ) → length line ≤ length (without_cr line) + 1
length-without_cr [] = omega arith
length-without_cr (b ∷ []) = omega arith
length-without_cr (b ∷ c ∷ line) = omega (arith, length-without_cr (c ∷ line))

-- how a line is judged, by whether it is long and by its bytes without a CR
abbrev pub judged : Draft → Bool → List ℕ → Option Code
judged draft long bytes =
    if long then Some code.Long else (if is_clean bytes then fields_fault draft (fields_of bytes) (word_named (field_at (fields_of bytes) 0)) else Some code.Text)

utf8-end : is_utf8 (codes "end") ≡ true
unfolding is_utf8 chars lib.Utf8.encode
utf8-end = refl

-- the conditions of the line `end`, in their order
joined : (follows wrong lacks cells regions : Bool)
    → (if follows then first_that_holds ((false, code.Fields) ∷ (false, code.Name) ∷ (false, code.Policy) ∷ (wrong, code.Number) ∷ (false, code.Depth) ∷ (false, code.Limit) ∷ (lacks, code.Policy) ∷ (cells, code.Cells) ∷ (regions, code.Nodes) ∷ []) else Some code.Order)
    ≡ option_or (if follows then first_that_holds ((wrong, code.Number) ∷ (lacks, code.Policy) ∷ []) else Some code.Order) (first_that_holds ((cells, code.Cells) ∷ (regions, code.Nodes) ∷ []))
joined false wrong lacks cells regions = refl
joined true true lacks cells regions = refl
joined true false true cells regions = refl
joined true false false cells regions = refl

judged-end : (draft : Draft) → judged draft false (codes "end") ≡ end_fault draft
judged-end draft =
    rw utf8-end
    (joined (may_follow draft.last End) (not (list_all is_numbered (ended draft.nodes))) (is_none (policy_among draft.measures draft.policy)) (nat_le SPACE_LIMIT (cell_total (dims_of draft))) (nat_le SPACE_LIMIT (region_total (dims_of draft))))

short : (line : List ℕ) → without_cr line ≡ codes "end" → is_long line ≡ false
short line same =
    let few = length-without_cr line in
    let three : length (without_cr line) ≡ 3 = ap length same in
    grind (arith, nat_tests)

-- how it is judged
pub draft_line_fault-end : (draft : Draft) (line : List ℕ) → is_end line ≡ true → draft_line_fault draft line ≡ end_fault draft
draft_line_fault-end draft line is =
    let same : without_cr line ≡ codes "end" = (bytes_eq-Decides (without_cr line) (codes "end")).0 is in
    ap (λ l. judged draft l (without_cr line)) (short line same) ∙ ap (judged draft false) same ∙ judged-end draft

-- where it may stand, the dimension that ends is judged first
pub IsCause-ends : (draft : Draft) (fault : LineFault) → may_follow draft.last End ≡ true → IsCause (ended_fault draft.nodes) fault → IsCause (front_fault draft) fault
IsCause-ends draft Memory follows cause = tt
IsCause-ends draft (Refused reason) follows cause = first (may_follow draft.last End) (list_all is_numbered (ended draft.nodes)) (is_none (policy_among draft.measures draft.policy)) follows cause
  where
    first : (f k l : Bool) → f ≡ true → (if k then None else Some code.Number) ≡ Some reason
        → (if f then (if not k then Some code.Number else (if l then Some code.Policy else None)) else Some code.Order) ≡ Some reason
    first false k l follows e = cc
    first true true l follows e = cc
    first true false l follows e = e
