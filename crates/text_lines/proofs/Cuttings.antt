-- However a text is cut, the lines that are handed out are those of the whole text.
use Rattle.std.proofs.Common.{◌≡◌, ◌≢◌, ℕ, Bool, true, false, if◌then◌else◌, List, [], ◌∷◌, ◌++◌, map, refl, ap, sym, subst, ◌∙◌, append-nil, append_assoc, arith, length}
use Rattle.std.proofs.lemmas.List.{map-append}
use Rattle.std.specs.List.{concat, onto_first, slice_split}
use Rattle.text_lines.specs.Text.{lines_of}
use Rattle.text_lines.specs.Pieces.{front, is_lf, last_line, lines_ahead, lines_given, pieces_of, rest_of, whole_lines}
use Rattle.text_lines.proofs.Fronts.{NoLf, NoLf-front, NoLf-one, front-front, one_piece-is, pieces_of-same, some_piece}

-- What cuts a text at each LF cuts one that goes on into the pieces but the last, and what it cuts the last one into that goes on.
module _ (cut : List ℕ → List (List ℕ)) (step : (b : ℕ) (text : List ℕ) → cut (b ∷ text) ≡ (if is_lf b then [] ∷ cut text else onto_first b (cut text))) where
  behind_lf : (parts : List (List ℕ)) (more : List ℕ) (lines : List (List ℕ)) → parts ≢ [] → lines ≡ whole_lines parts ++ cut (rest_of parts ++ more)
      → [] ∷ lines ≡ whole_lines ([] ∷ parts) ++ cut (rest_of ([] ∷ parts) ++ more)
  behind_lf [] more lines some are = absurd (some refl)
  behind_lf (part ∷ parts) more lines some are = ap (λ l. [] ∷ l) are

  behind_byte : (b : ℕ) (parts : List (List ℕ)) (more : List ℕ) (lines : List (List ℕ)) → is_lf b ≡ false → parts ≢ [] → lines ≡ whole_lines parts ++ cut (rest_of parts ++ more)
      → onto_first b lines ≡ whole_lines (onto_first b parts) ++ cut (rest_of (onto_first b parts) ++ more)
  behind_byte b [] more lines other some are = absurd (some refl)
  behind_byte b (part ∷ []) more lines other some are = ap (onto_first b) are ∙ sym (step b (part ++ more) ∙ rw other refl)
  behind_byte b (part ∷ next ∷ parts) more lines other some are = ap (onto_first b) are

  cut-step : (b : ℕ) (text more : List ℕ) (lf : Bool) → is_lf b ≡ lf
      → cut (text ++ more) ≡ whole_lines (slice_split is_lf text) ++ cut (rest_of (slice_split is_lf text) ++ more)
      → (if is_lf b then [] ∷ cut (text ++ more) else onto_first b (cut (text ++ more))) ≡ whole_lines (slice_split is_lf (b ∷ text)) ++ cut (rest_of (slice_split is_lf (b ∷ text)) ++ more)
  cut-step b text more true lf are = rw lf (behind_lf (slice_split is_lf text) more (cut (text ++ more)) (some_piece text) are)
  cut-step b text more false lf are = rw lf (behind_byte b (slice_split is_lf text) more (cut (text ++ more)) lf (some_piece text) are)

  cut-more : (text more : List ℕ) → cut (text ++ more) ≡ whole_lines (slice_split is_lf text) ++ cut (rest_of (slice_split is_lf text) ++ more)
  cut-more [] more = refl
  cut-more (b ∷ text) more = step b (text ++ more) ∙ cut-step b text more (is_lf b) refl (cut-more text more)

pub lines_of-more : (text more : List ℕ) → lines_of (text ++ more) ≡ whole_lines (slice_split is_lf text) ++ lines_of (rest_of (slice_split is_lf text) ++ more)
lines_of-more = cut-more lines_of (λ b text. refl)

pub slice_split-more : (text more : List ℕ) → slice_split is_lf (text ++ more) ≡ whole_lines (slice_split is_lf text) ++ slice_split is_lf (rest_of (slice_split is_lf text) ++ more)
slice_split-more = cut-more (slice_split is_lf) (λ b text. refl)

-- the last piece has no LF
rest-lf : (parts : List (List ℕ)) → NoLf (rest_of parts) → NoLf (rest_of ([] ∷ parts))
rest-lf [] none = tt
rest-lf (part ∷ parts) none = none

rest-byte : (b : ℕ) (parts : List (List ℕ)) → is_lf b ≡ false → NoLf (rest_of parts) → NoLf (rest_of (onto_first b parts))
rest-byte b [] other none = (other, tt)
rest-byte b (part ∷ []) other none = (other, none)
rest-byte b (part ∷ next ∷ parts) other none = none

rest-step : (b : ℕ) (text : List ℕ) (lf : Bool) → is_lf b ≡ lf → NoLf (rest_of (slice_split is_lf text)) → NoLf (rest_of (slice_split is_lf (b ∷ text)))
rest-step b text true lf none = rw lf (rest-lf (slice_split is_lf text) none)
rest-step b text false lf none = rw lf (rest-byte b (slice_split is_lf text) lf none)

pub NoLf-rest : (text : List ℕ) → NoLf (rest_of (slice_split is_lf text))
NoLf-rest [] = tt
NoLf-rest (b ∷ text) = rest-step b text (is_lf b) refl (NoLf-rest text)

-- of each its front
pub whole_lines-map : (parts : List (List ℕ)) → whole_lines (map front parts) ≡ map front (whole_lines parts)
whole_lines-map [] = refl
whole_lines-map (part ∷ []) = refl
whole_lines-map (part ∷ next ∷ parts) = ap (λ l. front part ∷ l) (whole_lines-map (next ∷ parts))

pub rest_of-map : (parts : List (List ℕ)) → rest_of (map front parts) ≡ front (rest_of parts)
rest_of-map [] = refl
rest_of-map (part ∷ []) = refl
rest_of-map (part ∷ next ∷ parts) = rest_of-map (next ∷ parts)

-- a text with no LF is one line, or none
pub lines_of-one : (text : List ℕ) → NoLf text → lines_of text ≡ last_line text
lines_of-one [] none = refl
lines_of-one (b ∷ []) none = rw none.0 refl
lines_of-one (b ∷ c ∷ text) none = rw (none.0, lines_of-one (c ∷ text) none.1) refl

pub last_line-front : (text : List ℕ) → last_line (front text) ≡ map front (last_line text)
last_line-front [] = refl
last_line-front (b ∷ text) = refl

pub lines_given-front : (pieces : List (List ℕ)) (text rest : List ℕ) → NoLf text → rest ≡ front text → lines_given rest pieces ≡ map front (lines_of (text ++ concat pieces))
lines_given-front [] text rest none is =
    ap last_line is ∙ last_line-front text ∙ ap (map front) (sym (lines_of-one text none) ∙ ap lines_of (sym (append-nil text)))
lines_given-front (piece ∷ pieces) text rest none is =
    let same : pieces_of (rest ++ piece) ≡ pieces_of (text ++ piece) =
    pieces_of-same rest text piece (subst NoLf (sym is) (NoLf-front text none)) none (ap front is ∙ front-front text) in
    let whole : whole_lines (pieces_of (rest ++ piece)) ≡ map front (whole_lines (slice_split is_lf (text ++ piece))) =
    ap whole_lines same ∙ whole_lines-map (slice_split is_lf (text ++ piece)) in
    let left : rest_of (pieces_of (rest ++ piece)) ≡ front (rest_of (slice_split is_lf (text ++ piece))) =
    ap rest_of same ∙ rest_of-map (slice_split is_lf (text ++ piece)) in
    let later = lines_given-front pieces (rest_of (slice_split is_lf (text ++ piece))) (rest_of (pieces_of (rest ++ piece))) (NoLf-rest (text ++ piece)) left in
    rw (whole, later)
    (
    sym (map-append front (whole_lines (slice_split is_lf (text ++ piece))) (lines_of (rest_of (slice_split is_lf (text ++ piece)) ++ concat pieces)))
    ∙ ap (map front) (sym (lines_of-more (text ++ piece) (concat pieces)) ∙ ap lines_of (append_assoc text piece (concat pieces)))
    )

-- the lines ahead are the same behind a text as behind its front
lines_of-front : (text more : List ℕ) → NoLf text → map front (lines_of (front text ++ more)) ≡ map front (lines_of (text ++ more))
lines_of-front text more none =
    ap (λ l. map front (lines_of (front text ++ l))) (sym (append-nil more))
    ∙ sym (lines_given-front (more ∷ []) (front text) (front text) (NoLf-front text none) (sym (front-front text)))
    ∙ lines_given-front (more ∷ []) text (front text) none refl
    ∙ ap (λ l. map front (lines_of (text ++ l))) (append-nil more)

-- what is held of a text, and what is ahead, are its lines
pub lines_ahead-pieces : (text more : List ℕ) → lines_ahead (pieces_of text) more ≡ map front (lines_of (text ++ more))
lines_ahead-pieces text more =
    let parts = slice_split is_lf text in
    ap (λ l. l ++ map front (lines_of (rest_of (map front parts) ++ more))) (whole_lines-map parts)
    ∙ ap (λ l. map front (whole_lines parts) ++ map front (lines_of (l ++ more))) (rest_of-map parts)
    ∙ ap (λ l. map front (whole_lines parts) ++ l) (lines_of-front (rest_of parts) more (NoLf-rest text))
    ∙ sym (map-append front (whole_lines parts) (lines_of (rest_of parts ++ more)))
    ∙ ap (map front) (sym (lines_of-more text more))

-- a rest with nothing behind it is the last line
pub lines_ahead-last : (text : List ℕ) (lines : List (List ℕ)) → pieces_of text ≡ lines → length lines ≡ 1 → lines_ahead lines [] ≡ last_line (rest_of lines)
lines_ahead-last text lines are one =
    let none : NoLf (front text) = NoLf-front text (NoLf-one text (ap length are ∙ one)) in
    rw (one_piece-is text lines are one)
    (
    ap (λ l. map front (lines_of l)) (append-nil (front text))
    ∙ ap (map front) (lines_of-one (front text) none)
    ∙ sym (last_line-front (front text))
    ∙ ap last_line (front-front text)
    )

-- a piece that is taken was ahead and is held
pub lines_ahead-piece : (held : List (List ℕ)) (piece more : List ℕ) → length held ≡ 1 → lines_ahead held (piece ++ more) ≡ lines_ahead (pieces_of (rest_of held ++ piece)) more
lines_ahead-piece [] piece more one = cc
lines_ahead-piece (rest ∷ []) piece more one =
    ap (λ l. map front (lines_of l)) (sym (append_assoc rest piece more)) ∙ sym (lines_ahead-pieces (rest ++ piece) more)
lines_ahead-piece (line ∷ next ∷ held) piece more one = absurd (omega (arith, one))
