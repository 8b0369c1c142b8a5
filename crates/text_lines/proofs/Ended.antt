-- The lines that end in a text, while it goes on.
use Rattle.std.proofs.Common.{◌≡◌, ◌≢◌, ℕ, zero, suc, ◌+◌, ◌<◌, ◌≤◌, Bool, true, false, if◌then◌else◌, List, [], ◌∷◌, ◌++◌, length, take, drop, map, refl, ap, sym, subst, ◌∙◌, append-nil, length-append, arith}
use Rattle.std.proofs.lemmas.List.{drop_at, length-map, map-append, take_at}
use Rattle.std.proofs.lemmas.List.Sums.{sum_by-append, sum_by-cons}
use Rattle.std.proofs.lemmas.List.Splits.{length-slice_split}
use Rattle.std.specs.List.{onto_first, slice_split}
use Rattle.text_lines.specs.Text.{after_line, after_lines, lines_of}
use Rattle.text_lines.specs.Pieces.{ended_lines, front, is_lf, last_line, lf_count, line_end, pieces_of, rest_of, whole_lines}
use Rattle.text_lines.proofs.Cuttings.{NoLf-rest, last_line-front, lines_ahead-pieces, lines_of-more, lines_of-one, rest_of-map, slice_split-more, whole_lines-map}
use Rattle.text_lines.proofs.Fronts.{NoLf, NoLf-front, front-front, pieces_of-same, pieces_of-some, some_piece}

pub lf_count-append : (text more : List ℕ) → lf_count (text ++ more) ≡ lf_count text + lf_count more
lf_count-append text more = sum_by-append (λ b. if is_lf b then 1 else 0) text more

-- all but the last, and the last, of lists one behind the other
length-whole_lines : (parts : List (List ℕ)) → parts ≢ [] → length (whole_lines parts) + 1 ≡ length parts
length-whole_lines [] some = absurd (some refl)
length-whole_lines (part ∷ []) some = refl
length-whole_lines (part ∷ next ∷ parts) some = omega (arith, length-whole_lines (next ∷ parts) (λ e. cc))

pub whole_lines-append : (lines parts : List (List ℕ)) → parts ≢ [] → whole_lines (lines ++ parts) ≡ lines ++ whole_lines parts
whole_lines-append [] parts some = refl
whole_lines-append (line ∷ []) [] some = absurd (some refl)
whole_lines-append (line ∷ []) (part ∷ parts) some = refl
whole_lines-append (line ∷ next ∷ lines) parts some = ap (λ l. line ∷ l) (whole_lines-append (next ∷ lines) parts some)

pub rest_of-append : (lines parts : List (List ℕ)) → parts ≢ [] → rest_of (lines ++ parts) ≡ rest_of parts
rest_of-append [] parts some = refl
rest_of-append (line ∷ []) [] some = absurd (some refl)
rest_of-append (line ∷ []) (part ∷ parts) some = refl
rest_of-append (line ∷ next ∷ lines) parts some = rest_of-append (next ∷ lines) parts some

-- the lines that end in a text are its pieces but the last
length-whole : (text : List ℕ) → length (whole_lines (slice_split is_lf text)) ≡ lf_count text
length-whole text = omega (arith, length-whole_lines (slice_split is_lf text) (some_piece text), length-slice_split is_lf text)

pub ended_lines-whole : (text : List ℕ) → ended_lines text ≡ whole_lines (slice_split is_lf text)
ended_lines-whole text =
    let parts = slice_split is_lf text in
    ap (λ l. take (lf_count text) (lines_of l)) (sym (append-nil text))
    ∙ ap (take (lf_count text)) (lines_of-more text [])
    ∙ take_at (whole_lines parts) (lines_of (rest_of parts ++ [])) (lf_count text) (length-whole text)

pub ended_lines-length : (text : List ℕ) → length (ended_lines text) ≡ lf_count text
ended_lines-length text = ap length (ended_lines-whole text) ∙ length-whole text

-- of each its front is what a cutter holds as whole
pub whole_lines-ended : (text : List ℕ) → whole_lines (pieces_of text) ≡ map front (ended_lines text)
whole_lines-ended text = whole_lines-map (slice_split is_lf text) ∙ ap (map front) (sym (ended_lines-whole text))

pub whole_lines-length : (text : List ℕ) → length (whole_lines (pieces_of text)) ≡ lf_count text
whole_lines-length text = ap length (whole_lines-ended text) ∙ length-map (ended_lines text) front ∙ ended_lines-length text

-- the lines that end in a text are the first of it, whatever comes behind
later_lines : (lines ended later : List (List ℕ)) (count : ℕ) → lines ≡ ended ++ later → length ended ≡ count → lines ≡ ended ++ drop count lines
later_lines lines ended later count are long =
    are ∙ ap (λ l. ended ++ l) (sym (drop_at ended later count long) ∙ ap (drop count) (sym are))

pub lines_of-ended : (text more : List ℕ) → lines_of (text ++ more) ≡ ended_lines text ++ drop (lf_count text) (lines_of (text ++ more))
lines_of-ended text more =
    let parts = slice_split is_lf text in
    later_lines (lines_of (text ++ more)) (ended_lines text) (lines_of (rest_of parts ++ more)) (lf_count text)
    (lines_of-more text more ∙ ap (λ l. l ++ lines_of (rest_of parts ++ more)) (sym (ended_lines-whole text)))
    (ended_lines-length text)

pub ended_lines-more : (text more : List ℕ) → ended_lines (text ++ more) ≡ ended_lines text ++ drop (lf_count text) (ended_lines (text ++ more))
ended_lines-more text more =
    let parts = slice_split is_lf text in
    let behind = rest_of parts ++ more in
    later_lines (ended_lines (text ++ more)) (ended_lines text) (whole_lines (slice_split is_lf behind)) (lf_count text)
    (
    ended_lines-whole (text ++ more)
    ∙ ap whole_lines (slice_split-more text more)
    ∙ whole_lines-append (whole_lines parts) (slice_split is_lf behind) (some_piece behind)
    ∙ ap (λ l. l ++ whole_lines (slice_split is_lf behind)) (sym (ended_lines-whole text))
    )
    (ended_lines-length text)

-- a piece that is taken: what was whole stays, and the rest goes on
pub pieces_of-more : (text piece : List ℕ) → pieces_of (text ++ piece) ≡ whole_lines (pieces_of text) ++ pieces_of (rest_of (pieces_of text) ++ piece)
pieces_of-more text piece =
    let parts = slice_split is_lf text in
    let rest = rest_of parts in
    ap (map front) (slice_split-more text piece)
    ∙ map-append front (whole_lines parts) (slice_split is_lf (rest ++ piece))
    ∙ ap (λ l. l ++ pieces_of (rest ++ piece)) (sym (whole_lines-map parts))
    ∙ ap (λ l. whole_lines (pieces_of text) ++ l)
    (
    pieces_of-same rest (front rest) piece (NoLf-rest text) (NoLf-front rest (NoLf-rest text)) (sym (front-front rest))
    ∙ ap (λ l. pieces_of (l ++ piece)) (sym (rest_of-map parts))
    )

some_piece_of : (text : List ℕ) → pieces_of text ≢ []
some_piece_of text none = absurd (omega (arith, pieces_of-some text, ap length none))

pub whole_lines-more : (text piece : List ℕ) → whole_lines (pieces_of (text ++ piece)) ≡ whole_lines (pieces_of text) ++ whole_lines (pieces_of (rest_of (pieces_of text) ++ piece))
whole_lines-more text piece =
    let behind = rest_of (pieces_of text) ++ piece in
    ap whole_lines (pieces_of-more text piece) ∙ whole_lines-append (whole_lines (pieces_of text)) (pieces_of behind) (some_piece_of behind)

pub rest_of-more : (text piece : List ℕ) → rest_of (pieces_of (text ++ piece)) ≡ rest_of (pieces_of (rest_of (pieces_of text) ++ piece))
rest_of-more text piece =
    let behind = rest_of (pieces_of text) ++ piece in
    ap rest_of (pieces_of-more text piece) ∙ rest_of-append (whole_lines (pieces_of text)) (pieces_of behind) (some_piece_of behind)

-- at the end of the input the rest is a line, unless it is empty
lines_of-rest : (text : List ℕ) → NoLf text → map front (lines_of (front text ++ [])) ≡ last_line (front text)
lines_of-rest text none =
    ap (λ l. map front (lines_of l)) (append-nil (front text))
    ∙ ap (map front) (lines_of-one (front text) (NoLf-front text none))
    ∙ sym (last_line-front (front text))
    ∙ ap last_line (front-front text)

pub lines_of-last : (text : List ℕ) → map front (lines_of text) ≡ whole_lines (pieces_of text) ++ last_line (rest_of (pieces_of text))
lines_of-last text =
    let parts = slice_split is_lf text in
    ap (λ l. map front (lines_of l)) (sym (append-nil text))
    ∙ sym (lines_ahead-pieces text [])
    ∙ ap (λ l. whole_lines (pieces_of text) ++ map front (lines_of (l ++ []))) (rest_of-map parts)
    ∙ ap (λ l. whole_lines (pieces_of text) ++ l) (lines_of-rest (rest_of parts) (NoLf-rest text))
    ∙ ap (λ l. whole_lines (pieces_of text) ++ last_line l) (sym (rest_of-map parts))

-- what is behind some lines of a text
after_line-shorter : (text : List ℕ) → length (after_line text) ≤ length text
after_line-shorter [] = omega arith
after_line-shorter (b ∷ text) = either (is_lf b) text (after_line-shorter text)
  where
    either : (lf : Bool) (text : List ℕ) → length (after_line text) ≤ length text → length (if lf then text else after_line text) ≤ suc (length text)
    either true text shorter = omega arith
    either false text shorter = omega arith

pub after_lines-shorter : (n : ℕ) (text : List ℕ) → length (after_lines n text) ≤ length text
after_lines-shorter zero text = omega arith
after_lines-shorter (suc n) text = omega (arith, after_lines-shorter n (after_line text), after_line-shorter text)

-- where fewer than n lines end in a text, nothing of it is behind its n-th line
lf_count-cons : (b : ℕ) (text : List ℕ) → lf_count (b ∷ text) ≡ (if is_lf b then 1 else 0) + lf_count text
lf_count-cons b text = sum_by-cons (λ c. if is_lf c then 1 else 0) b text

after_lines-step : (b : ℕ) (text : List ℕ) (n : ℕ) (more : List ℕ) (lf : Bool) → is_lf b ≡ lf → (if lf then 1 else 0) + lf_count text < suc n
    → ((m : ℕ) → lf_count text < m → length (after_lines m (text ++ more)) ≤ length more)
    → length (after_lines n (after_line (b ∷ (text ++ more)))) ≤ length more
after_lines-step b text n more true lf few later = rw lf (later n (omega arith))
after_lines-step b text n more false lf few later = rw lf (later (suc n) (omega arith))

after_lines-more : (text : List ℕ) (n : ℕ) (more : List ℕ) → lf_count text < n → length (after_lines n (text ++ more)) ≤ length more
after_lines-more [] n more few = after_lines-shorter n more
after_lines-more (b ∷ text) zero more few = absurd (omega arith)
after_lines-more (b ∷ text) (suc n) more few = after_lines-step b text n more (is_lf b) refl (subst (λ k. k < suc n) (lf_count-cons b text) few) (λ m less. after_lines-more text m more less)

pub line_end-behind : (text more : List ℕ) (n : ℕ) → lf_count text < n → length text ≤ line_end (text ++ more) n
line_end-behind text more n few = omega (arith, length-append text more, after_lines-more text n more few)

-- the lines behind some lines
drop-onto_first : (b : ℕ) (lines : List (List ℕ)) → drop 1 (onto_first b lines) ≡ drop 1 lines
drop-onto_first b [] = refl
drop-onto_first b (line ∷ lines) = refl

after_line-step : (b : ℕ) (text : List ℕ) (lf : Bool) → is_lf b ≡ lf → lines_of (after_line text) ≡ drop 1 (lines_of text)
    → lines_of (after_line (b ∷ text)) ≡ drop 1 (lines_of (b ∷ text))
after_line-step b text true lf later = rw lf refl
after_line-step b text false lf later = rw lf (later ∙ sym (drop-onto_first b (lines_of text)))

lines_of-after_line : (text : List ℕ) → lines_of (after_line text) ≡ drop 1 (lines_of text)
lines_of-after_line [] = refl
lines_of-after_line (b ∷ text) = after_line-step b text (is_lf b) refl (lines_of-after_line text)

drop-suc : (n : ℕ) (lines : List (List ℕ)) → drop n (drop 1 lines) ≡ drop (suc n) lines
drop-suc zero [] = refl
drop-suc (suc n) [] = refl
drop-suc n (line ∷ lines) = refl

pub lines_of-after : (n : ℕ) (text : List ℕ) → lines_of (after_lines n text) ≡ drop n (lines_of text)
lines_of-after zero text = refl
lines_of-after (suc n) text =
    lines_of-after n (after_line text) ∙ ap (drop n) (lines_of-after_line text) ∙ drop-suc n (lines_of text)
