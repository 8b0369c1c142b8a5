-- Lines of an input whose end was not taken yet, as a cutter holds them.
use Rattle.std.proofs.Common.{◌≡◌, ◌≢◌, ℕ, zero, suc, ◌+◌, ◌≤◌, Bool, true, false, List, [], ◌∷◌, ◌++◌, length, take, drop, map, refl, ap, sym, subst, ◌∙◌, arith, append-nil, append_assoc, length-append}
use Rattle.std.specs.Prelude.{if◌then◌else◌}
use Rattle.std.specs.List.{onto_first, slice_split}
use Rattle.std.proofs.lemmas.List.{drop_at}
use Rattle.std.proofs.lemmas.List.Concat.{flat_map-append}
use Rattle.std.proofs.lemmas.List.Sums.{sum_by-cons}
use Rattle.text_lines.specs.Text.{after_line, after_lines, lines_of}
use Rattle.text_lines.specs.Pieces.{front, is_lf, last_line, lf_count, line_end, pieces_of, rest_of, whole_lines}
use Rattle.text_lines.proofs.Fronts.{NoLf, NoLf-front, some_piece}
use Rattle.cube_cli.specs.SchemaLines.{text_of_lines}

-- none of these lines has an LF
abbrev pub HaveNoLf : List (List ℕ) → Type 0
HaveNoLf [] = Unit {0}
HaveNoLf (line ∷ lines) = NoLf line × HaveNoLf lines

HaveNoLf-byte : (b : ℕ) (parts : List (List ℕ)) → is_lf b ≡ false → HaveNoLf parts → HaveNoLf (onto_first b parts)
HaveNoLf-byte b [] other none = ((other, tt), tt)
HaveNoLf-byte b (part ∷ parts) other none = ((other, none.0), none.1)

HaveNoLf-step : (b : ℕ) (text : List ℕ) (lf : Bool) → is_lf b ≡ lf → HaveNoLf (slice_split is_lf text) → HaveNoLf (slice_split is_lf (b ∷ text))
HaveNoLf-step b text true lf none = rw lf (tt, none)
HaveNoLf-step b text false other none = rw other (HaveNoLf-byte b (slice_split is_lf text) other none)

HaveNoLf-split : (text : List ℕ) → HaveNoLf (slice_split is_lf text)
HaveNoLf-split [] = (tt, tt)
HaveNoLf-split (b ∷ text) = HaveNoLf-step b text (is_lf b) refl (HaveNoLf-split text)

HaveNoLf-fronts : (lines : List (List ℕ)) → HaveNoLf lines → HaveNoLf (map front lines)
HaveNoLf-fronts [] none = tt
HaveNoLf-fronts (line ∷ lines) none = (NoLf-front line none.0, HaveNoLf-fronts lines none.1)

pub HaveNoLf-pieces : (text : List ℕ) → HaveNoLf (pieces_of text)
HaveNoLf-pieces text = HaveNoLf-fronts (slice_split is_lf text) (HaveNoLf-split text)

pub HaveNoLf-whole : (parts : List (List ℕ)) → HaveNoLf parts → HaveNoLf (whole_lines parts)
HaveNoLf-whole [] none = tt
HaveNoLf-whole (part ∷ []) none = tt
HaveNoLf-whole (part ∷ next ∷ parts) none = (none.0, HaveNoLf-whole (next ∷ parts) none.1)

NoLf-last : (parts : List (List ℕ)) → HaveNoLf parts → NoLf (rest_of parts)
NoLf-last [] none = tt
NoLf-last (part ∷ []) none = none.0
NoLf-last (part ∷ next ∷ parts) none = NoLf-last (next ∷ parts) none.1

last_line-no : (rest : List ℕ) → NoLf rest → HaveNoLf (last_line rest)
last_line-no [] none = tt
last_line-no (b ∷ rest) none = (none, tt)

pub HaveNoLf-last : (parts : List (List ℕ)) → HaveNoLf parts → HaveNoLf (last_line (rest_of parts))
HaveNoLf-last parts none = last_line-no (rest_of parts) (NoLf-last parts none)

pub HaveNoLf-append : (lines more : List (List ℕ)) → HaveNoLf lines → HaveNoLf more → HaveNoLf (lines ++ more)
HaveNoLf-append [] more none later = later
HaveNoLf-append (line ∷ lines) more none later = (none.0, HaveNoLf-append lines more none.1 later)

pub HaveNoLf-take : (n : ℕ) (lines : List (List ℕ)) → HaveNoLf lines → HaveNoLf (take n lines)
HaveNoLf-take zero lines none = tt
HaveNoLf-take (suc n) [] none = tt
HaveNoLf-take (suc n) (line ∷ lines) none = (none.0, HaveNoLf-take n lines none.1)

-- then they are the lines of their text
lines_of-line : (line rest : List ℕ) → NoLf line → lines_of (line ++ 10 ∷ rest) ≡ line ∷ lines_of rest
lines_of-line [] rest none = refl
lines_of-line (b ∷ line) rest none = rw none.0 (ap (onto_first b) (lines_of-line line rest none.1))

pub lines_of-text : (lines : List (List ℕ)) → HaveNoLf lines → lines_of (text_of_lines lines) ≡ lines
lines_of-text [] none = refl
lines_of-text (line ∷ lines) none =
    ap lines_of (append_assoc line (10 ∷ []) (text_of_lines lines))
    ∙ lines_of-line line (text_of_lines lines) none.0
    ∙ ap (λ l. line ∷ l) (lines_of-text lines none.1)

pub text_of_lines-append : (lines more : List (List ℕ)) → text_of_lines (lines ++ more) ≡ text_of_lines lines ++ text_of_lines more
text_of_lines-append lines more = flat_map-append (λ (line : List ℕ). line ++ 10 ∷ []) lines more

-- a line behind lines
pub text_of_lines-push : (lines : List (List ℕ)) (line : List ℕ) → text_of_lines (lines ++ line ∷ []) ≡ text_of_lines lines ++ (line ++ 10 ∷ [])
text_of_lines-push lines line =
    text_of_lines-append lines (line ∷ []) ∙ ap (λ l. text_of_lines lines ++ l) (append-nil (line ++ 10 ∷ []))

lf_count-cons : (b : ℕ) (text : List ℕ) → lf_count (b ∷ text) ≡ (if is_lf b then 1 else 0) + lf_count text
lf_count-cons b text = sum_by-cons (λ c. if is_lf c then 1 else 0) b text

-- what is behind lines that ended in a text goes on as the text does
after-step : (b : ℕ) (text : List ℕ) (n : ℕ) (more : List ℕ) (lf : Bool) → is_lf b ≡ lf → suc n ≤ (if lf then 1 else 0) + lf_count text
    → ((m : ℕ) → m ≤ lf_count text → after_lines m (text ++ more) ≡ after_lines m text ++ more)
    → after_lines n (after_line (b ∷ (text ++ more))) ≡ after_lines n (after_line (b ∷ text)) ++ more
after-step b text n more true lf few later = rw lf (later n (omega arith))
after-step b text n more false other few later = rw other (later (suc n) (omega arith))

pub after_lines-append : (text : List ℕ) (n : ℕ) (more : List ℕ) → n ≤ lf_count text → after_lines n (text ++ more) ≡ after_lines n text ++ more
after_lines-append text zero more few = refl
after_lines-append [] (suc n) more few = absurd (omega arith)
after_lines-append (b ∷ text) (suc n) more few =
    after-step b text n more (is_lf b) refl (subst (λ k. suc n ≤ k) (lf_count-cons b text) few) (λ m less. after_lines-append text m more less)

pub line_end-append : (text : List ℕ) (n : ℕ) (more : List ℕ) → n ≤ lf_count text → line_end (text ++ more) n ≡ line_end text n
line_end-append text n more few =
    let behind : length (after_lines n (text ++ more)) ≡ length (after_lines n text) + length more = ap length (after_lines-append text n more few) ∙ length-append (after_lines n text) more in
    omega (arith, behind, length-append text more)

-- and is cut as the pieces behind them
drop-onto : (n b : ℕ) (parts : List (List ℕ)) → parts ≢ [] → drop (suc n) (onto_first b parts) ≡ drop (suc n) parts
drop-onto n b [] some = absurd (some refl)
drop-onto n b (part ∷ parts) some = refl

split-step : (b : ℕ) (text : List ℕ) (n : ℕ) (lf : Bool) → is_lf b ≡ lf → suc n ≤ (if lf then 1 else 0) + lf_count text
    → ((m : ℕ) → m ≤ lf_count text → slice_split is_lf (after_lines m text) ≡ drop m (slice_split is_lf text))
    → slice_split is_lf (after_lines n (after_line (b ∷ text))) ≡ drop (suc n) (slice_split is_lf (b ∷ text))
split-step b text n true lf few later = rw lf (later n (omega arith))
split-step b text n false other few later = rw other (later (suc n) (omega arith) ∙ sym (drop-onto n b (slice_split is_lf text) (some_piece text)))

split-after : (text : List ℕ) (n : ℕ) → n ≤ lf_count text → slice_split is_lf (after_lines n text) ≡ drop n (slice_split is_lf text)
split-after text zero few = refl
split-after [] (suc n) few = absurd (omega arith)
split-after (b ∷ text) (suc n) few =
    split-step b text n (is_lf b) refl (subst (λ k. suc n ≤ k) (lf_count-cons b text) few) (λ m less. split-after text m less)

pub pieces_of-after : (text : List ℕ) (n : ℕ) → n ≤ lf_count text → pieces_of (after_lines n text) ≡ drop n (pieces_of text)
pieces_of-after text n few = ap (map front) (split-after text n few) ∙ sym (drop-map front n (slice_split is_lf text))
  where
    drop-map : (f : List ℕ → List ℕ) (n : ℕ) (xs : List (List ℕ)) → drop n (map f xs) ≡ map f (drop n xs)
    drop-map f zero xs = refl
    drop-map f (suc n) [] = refl
    drop-map f (suc n) (x ∷ xs) = drop-map f n xs

-- it is what stands behind their bytes
record IsBehind (text rest : List ℕ) : Type 0 where
  before : List ℕ
  split : text ≡ before ++ rest

behind_line : (text : List ℕ) → IsBehind text (after_line text)
behind_line [] = record { before = []; split = refl }
behind_line (b ∷ text) = either (is_lf b) refl (behind_line text)
  where
    either : (lf : Bool) → is_lf b ≡ lf → IsBehind text (after_line text) → IsBehind (b ∷ text) (after_line (b ∷ text))
    either true lf is = rw lf (record { before = b ∷ []; split = refl })
    either false other is = rw other (record { before = b ∷ is.before; split = ap (λ l. b ∷ l) is.split })

behind_lines : (n : ℕ) (text : List ℕ) → IsBehind text (after_lines n text)
behind_lines zero text = record { before = []; split = refl }
behind_lines (suc n) text =
    let one = behind_line text in
    let others = behind_lines n (after_line text) in
    record {
      before = one.before ++ others.before;
      split = one.split ∙ ap (λ l. one.before ++ l) others.split ∙ sym (append_assoc one.before others.before (after_lines n (after_line text)));
    }

pub drop-line_end : (n : ℕ) (text : List ℕ) → drop (line_end text n) text ≡ after_lines n text
drop-line_end n text =
    let is = behind_lines n text in
    let size : length is.before ≡ line_end text n = omega (arith, ap length is.split, length-append is.before (after_lines n text)) in
    ap (drop (line_end text n)) is.split ∙ drop_at is.before (after_lines n text) (line_end text n) size
