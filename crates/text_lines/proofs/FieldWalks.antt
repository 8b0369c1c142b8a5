-- The first field of a line ends at the first TAB, or with the line, and the others stand behind that TAB.
use Rattle.std.proofs.Common.{◌≡◌, ℕ, suc, ◌+◌, ◌<◌, ◌≤◌, ◌==◌, Bool, true, false, not, cond, ltb, List, [], ◌∷◌, length, take, drop, get_or, slice_range, Some, None, IfSome, inl, inr, refl, sym, subst, ap, ap₂, ◌∙◌, arith}
use Rattle.std.specs.Str.{IsCharBoundary, IsUtf8}
use Rattle.std.proofs.lemmas.Bool.{cases_lt, cond-true, cond-false}
use Rattle.std.proofs.lemmas.Bool.Decides.{nat_tests}
use Rattle.std.proofs.lemmas.List.{drop-drop, get_or-drop, length-drop}
use Rattle.std.proofs.lemmas.List.Sums.{prefix_len_stops}
use Rattle.std.proofs.lemmas.Str.{IsCharBoundary-after_ascii, IsCharBoundary-before_ascii, IsCharBoundary-end}
use Rattle.text_lines.specs.FieldsLeft.{IsMarkedFrom, fields_from, marks_from}
use Rattle.std.specs.List.{onto_first, prefix_len}
use Rattle.text_lines.specs.Text.{fields_of}

-- how many bytes stand before the first TAB
abbrev pub field_len : List ℕ → ℕ
field_len line = prefix_len (λ b. not (b == 9)) line

-- the fields behind the first
abbrev pub fields_behind : List ℕ → List (List ℕ)
fields_behind line = cond (ltb (field_len line) (length line)) (fields_of (drop (suc (field_len line)) line)) []

first_of : (tab : Bool) (b : ℕ) (line : List ℕ) → fields_of line ≡ take (field_len line) line ∷ fields_behind line
    → let n = cond (not tab) (1 + field_len line) 0 in
    cond tab ([] ∷ fields_of line) (onto_first b (fields_of line)) ≡ take n (b ∷ line) ∷ cond (ltb n (suc (length line))) (fields_of (drop (suc n) (b ∷ line))) []
first_of true b line is = ap (λ rest. [] ∷ rest) (sym (cond-true (ltb 0 (suc (length line))) (fields_of line) [] (grind (arith, nat_tests))))
first_of false b line is =
    let one : 1 + field_len line ≡ suc (field_len line) = omega arith in
    let fewer : ltb (1 + field_len line) (suc (length line)) ≡ ltb (field_len line) (length line) = grind (arith, nat_tests) in
    ap (onto_first b) is ∙ sym (ap₂ (λ field rest. field ∷ rest) (ap (λ n. take n (b ∷ line)) one) (ap₂ (λ more n. cond more (fields_of (drop n line)) []) fewer one))

fields_of-first : (line : List ℕ) → fields_of line ≡ take (field_len line) line ∷ fields_behind line
fields_of-first [] = refl
fields_of-first (b ∷ line) = first_of (b == 9) b line (fields_of-first line)

-- a byte that is no other than a TAB
is_tab : (b : ℕ) → not (b == 9) ≡ false → b ≡ 9
is_tab b is = grind (arith, nat_tests)

-- a field from the place i to the place end, in the whole line
module _ (line bytes : List ℕ) (i end : ℕ) (start : IsCharBoundary line i) (same : bytes ≡ line)
    (place : end ≡ i + field_len (drop i bytes)) (inside : end ≤ length bytes) where
  ends : end ≡ i + field_len (drop i line)
  ends = subst (λ line. end ≡ i + field_len (drop i line)) same place

  within : end ≤ length line
  within = subst (λ line. end ≤ length line) same inside

  tab : end < length line → get_or line end 0 ≡ 9
  tab more =
      ap (λ k. get_or line k 0) ends ∙ sym (get_or-drop i line (field_len (drop i line)) 0)
      ∙ is_tab _ (prefix_len_stops (λ b. not (b == 9)) (drop i line) 0 (omega (arith, length-drop i line, ends)))

  pub field_end-boundary : IsCharBoundary line end
  field_end-boundary =
      elim (cases_lt end (length line)) [
        | inr done ↦ subst (IsCharBoundary line) (omega (arith, within)) (IsCharBoundary-end line)
        | inl more ↦ IsCharBoundary-before_ascii line end more (omega (arith, tab more))
      ]

  pub next-marked : IsUtf8 line → (marks : ℕ) → marks ≡ marks_from line (i + field_len (drop i line) + 1) → IfSome (cond (ltb end (length line)) (Some (end + 1)) None) (IsMarkedFrom line marks)
  next-marked utf8 marks are = by (ltb end (length line)) refl
    where
      by : (more : Bool) → ltb end (length line) ≡ more → IfSome (cond more (Some (end + 1)) None) (IsMarkedFrom line marks)
      by true is =
          let more : end < length line = grind (arith, nat_tests) in
          record { boundary = IsCharBoundary-after_ascii line end utf8 more (omega (arith, tab more)); marked = are ∙ ap (λ k. marks_from line (k + 1)) (sym ends) }
      by false is = tt

  pub fields_from-first : fields_of (drop i line) ≡ slice_range line i end ∷ fields_from (cond (ltb end (length line)) (Some (end + 1)) None) line
  fields_from-first =
      let n = field_len (drop i line) in
      fields_of-first (drop i line)
      ∙ ap₂ (λ field rest. field ∷ rest) (ap (λ k. take k (drop i line)) (omega (arith, ends)))
      (by (ltb end (length line)) (ltb-same) (drop-drop (suc n) i line ∙ ap (λ k. drop k line) (omega (arith, ends))))
    where
      ltb-same : ltb (field_len (drop i line)) (length (drop i line)) ≡ ltb end (length line)
      ltb-same = grind (arith, nat_tests, ends, length-drop i line, start.0)

      by : (more : Bool) → ltb (field_len (drop i line)) (length (drop i line)) ≡ more → drop (suc (field_len (drop i line))) (drop i line) ≡ drop (end + 1) line
          → fields_behind (drop i line) ≡ fields_from (cond more (Some (end + 1)) None) line
      by true is rest = cond-true _ _ _ is ∙ ap fields_of rest
      by false is rest = cond-false _ _ _ is
