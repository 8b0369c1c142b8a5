-- What the marks of a line's first bytes say of its fields.
use Rattle.std.proofs.Common.{◌≡◌, ◌≢◌, ℕ, ◌+◌, ◌-◌, ◌/◌, ◌^◌, ◌≤◌, Bool, not, eqb, List, length, map, take, drop, inl, inr, sym, ap, ◌∙◌, arith}
use Rattle.std.specs.List.{count_by}
use Rattle.std.specs.Int.RustNames.{count_ones}
use Rattle.std.proofs.lemmas.Bool.{cases_lt, cond-false, cond-true, eq-eqb, ne_eqb}
use Rattle.std.proofs.lemmas.List.{drop-drop, drop-map, drop-take, drop_all, length-drop, length-take, take-append-drop, take_all}
use Rattle.std.proofs.lemmas.List.Folds.{prefix_len-append}
use Rattle.std.proofs.lemmas.List.Splits.{length-slice_split}
use Rattle.std.proofs.lemmas.List.Sums.{prefix_len-le-length}
use Rattle.std.proofs.lemmas.Nat.{shr-shr}
use Rattle.std.proofs.lemmas.Simd.{leading_from_mask_l, ones-mask_l, trailing_mask_l}
use lib.Count.{count_trailing_zeros}
use lib.Lanes.{mask_l}
use Rattle.text_lines.specs.FieldsLeft.{MARKED, marks_from}
use Rattle.text_lines.specs.Text.{fields_of}
use Rattle.text_lines.proofs.FieldWalks.{field_len}
use Rattle.text_lines.proofs.Marks.{mask_l-drop, no_marks}

-- the byte is a TAB
abbrev pub tab : ℕ → Bool
tab b = eqb b 9

-- the bytes that are marked from a place on
abbrev pub marked : List ℕ → ℕ → List ℕ
marked line i = drop i (take MARKED line)

few : (line : List ℕ) (i : ℕ) → length (marked line i) ≤ 64
few line i = omega (arith, length-drop i (take MARKED line), length-take MARKED line)

pub len_le : (line : List ℕ) (i : ℕ) → i ≤ length line → i + field_len (drop i line) ≤ length line
len_le line i within = omega (arith, prefix_len-le-length (λ b. not (tab b)) (drop i line), length-drop i line)

-- where a TAB is among the first bytes, it ends the field
len-within : (n : ℕ) (line : List ℕ) → field_len (take n line) ≢ length (take n line) → field_len line ≡ field_len (take n line)
len-within n line some =
    ap field_len (sym (take-append-drop n line)) ∙ prefix_len-append (λ b. not (tab b)) (take n line) (drop n line)
    ∙ cond-false _ _ _ (ne_eqb _ _ some)

-- where none is, the field has them all
len-beyond : (n : ℕ) (line : List ℕ) → field_len (take n line) ≡ length (take n line) → length (take n line) ≤ field_len line
len-beyond n line all =
    omega (
      arith,
      ap field_len (sym (take-append-drop n line)) ∙ prefix_len-append (λ b. not (tab b)) (take n line) (drop n line)
          ∙ cond-true _ _ _ (eq-eqb _ _ all),
    )

-- the bytes that are marked from a place on are the first of those from there on
marked-front : (line : List ℕ) (i : ℕ) → i ≤ 64 → marked line i ≡ take (64 - i) (drop i line)
marked-front line i within =
    let whole : MARKED ≡ i + (64 - i) = omega arith in
    ap (λ n. drop i (take n line)) whole ∙ drop-take i (64 - i) line

-- there is none from a later place on
none-marked : (line : List ℕ) (i : ℕ) → length (take MARKED line) ≤ i → marks_from line i ≡ 0
none-marked line i beyond = ap (λ l. mask_l (map tab l)) (drop_all i (take MARKED line) beyond)

-- the first mark is that of the TAB that ends the field
pub field_len-marked : (line : List ℕ) (i : ℕ) → marks_from line i ≢ 0 → count_trailing_zeros 64 (marks_from line i) ≡ field_len (drop i line)
field_len-marked line i some =
    elim (cases_lt 64 i) [
      | inl beyond ↦ absurd (some (none-marked line i (omega (arith, length-take MARKED line))))
      | inr within ↦
          let front = marked-front line i within in
          trailing_mask_l tab 64 (marked line i) (few line i) (omega (arith, some)) ∙ ap field_len front
          ∙ sym (len-within (64 - i) (drop i line) (λ all. some (no_marks tab (marked line i) (ap field_len front ∙ all ∙ ap length (sym front)))))
    ]

-- the marks behind it are those from there on
pub marks-behind : (line : List ℕ) (i n : ℕ) → marks_from line i / 2 ^ n / 2 ^ 1 ≡ marks_from line (i + n + 1)
marks-behind line i n = shr-shr (marks_from line i) n 1 ∙ marks-later line i (n + 1) ∙ ap (marks_from line) (omega arith)
  where
    marks-later : (line : List ℕ) (i k : ℕ) → marks_from line i / 2 ^ k ≡ marks_from line (i + k)
    marks-later line i k =
        mask_l-drop (map tab (marked line i)) k ∙ ap mask_l (drop-map tab k (marked line i)) ∙ ap (λ l. mask_l (map tab l)) (drop-drop k i (take MARKED line))

-- where there is no mark, none is behind the field either
pub unmarked-behind : (line : List ℕ) (i : ℕ) → marks_from line i ≡ 0 → marks_from line (i + field_len (drop i line) + 1) ≡ 0
unmarked-behind line i none =
    none-marked line (i + field_len (drop i line) + 1)
    (elim (cases_lt 64 i) [
      | inl beyond ↦ omega (arith, length-take MARKED line)
      | inr within ↦
          let front = marked-front line i within in
          let all = leading_from_mask_l tab (marked line i) none in
          omega (arith, len-beyond (64 - i) (drop i line) (ap field_len (sym front) ∙ all ∙ ap length front), ap length front, length-drop i (take MARKED line))
    ])

-- where a line is marked whole and has no mark, the field ends with it
pub field_len-unmarked : (line : List ℕ) (i : ℕ) → length line ≤ 64 → i ≤ length line → marks_from line i ≡ 0 → length line ≡ i + field_len (drop i line)
field_len-unmarked line i whole within none =
    let all = ap (drop i) (take_all MARKED line whole) in
    omega (arith, leading_from_mask_l tab (drop i line) (ap (λ l. mask_l (map tab l)) (sym all) ∙ none), length-drop i line)

-- each mark is a TAB
pub count-marked : (line : List ℕ) (i : ℕ) → length line ≤ 64 → count_ones (marks_from line i) + 1 ≡ length (fields_of (drop i line))
count-marked line i whole =
    omega (arith, ones-mask_l tab (marked line i), ap (count_by tab) (ap (drop i) (take_all MARKED line whole)), length-slice_split tab (drop i line))
