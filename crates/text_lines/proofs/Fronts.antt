-- Behind a text with no LF, one more piece is cut as behind the text's front.
use Rattle.std.proofs.Common.{◌≡◌, ◌≢◌, ℕ, zero, suc, ◌+◌, ◌≤◌, Bool, true, false, List, [], ◌∷◌, ◌++◌, length, take, drop, map, eqb, refl, ap, sym, subst, ◌∙◌, arith, append-nil, length-drop, length-take, take-take, lit≤}
use Rattle.std.proofs.lemmas.List.{length-map}
use Rattle.std.specs.List.{All, onto_first, slice_split}
use Rattle.std.proofs.lemmas.Bool.{ne_eqb}
use Rattle.std.proofs.lemmas.List.Sums.{count_by-le-length}
use Rattle.std.proofs.lemmas.List.Splits.{length-slice_split, slice_split_none, slice_split_at}
use Rattle.text_lines.specs.LineText.{LINE_FRONT}
use Rattle.text_lines.specs.Pieces.{Held, behind_line, front, is_lf, pieces_of, rest_of}

-- a text that has no LF
abbrev pub NoLf : List ℕ → Type 0
NoLf [] = Unit {0}
NoLf (b ∷ text) = (is_lf b ≡ false) × NoLf text

-- a text has a piece
pub some_piece : (text : List ℕ) → slice_split is_lf text ≢ []
some_piece text none = absurd (omega (arith, length-slice_split is_lf text, ap length none))

-- a byte in front of the first piece makes no piece more
length-onto_first : (b : ℕ) (parts : List (List ℕ)) → parts ≢ [] → length (onto_first b parts) ≡ length parts
length-onto_first b [] some = absurd (some refl)
length-onto_first b (part ∷ parts) some = refl

-- a text that is one piece has no LF
NoLf-step : (b : ℕ) (text : List ℕ) (lf : Bool) → is_lf b ≡ lf → length (slice_split is_lf (b ∷ text)) ≡ 1
    → (length (slice_split is_lf text) ≡ 1 → NoLf text) → NoLf (b ∷ text)
NoLf-step b text true lf one later = absurd (omega (arith, length-slice_split is_lf text, rw lf at one))
NoLf-step b text false lf one later =
    (lf, later (sym (length-onto_first b (slice_split is_lf text) (some_piece text)) ∙ rw lf at one))

NoLf-split : (text : List ℕ) → length (slice_split is_lf text) ≡ 1 → NoLf text
NoLf-split [] one = tt
NoLf-split (b ∷ text) one = NoLf-step b text (is_lf b) refl one (NoLf-split text)

pub NoLf-one : (text : List ℕ) → length (pieces_of text) ≡ 1 → NoLf text
NoLf-one text one = NoLf-split text (sym (length-map (slice_split is_lf text) front) ∙ one)

NoLf-take : (n : ℕ) (text : List ℕ) → NoLf text → NoLf (take n text)
NoLf-take zero text none = tt
NoLf-take (suc n) [] none = tt
NoLf-take (suc n) (b ∷ text) none = (none.0, NoLf-take n text none.1)

pub NoLf-front : (text : List ℕ) → NoLf text → NoLf (front text)
NoLf-front text none = NoLf-take LINE_FRONT text none

-- a text in front of the first of some pieces
abbrev onto : List ℕ → List (List ℕ) → List (List ℕ)
onto text [] = text ∷ []
onto text (part ∷ parts) = (text ++ part) ∷ parts

onto-nil : (parts : List (List ℕ)) → parts ≢ [] → parts ≡ onto [] parts
onto-nil [] some = absurd (some refl)
onto-nil (part ∷ parts) some = refl

onto-cons : (b : ℕ) (text : List ℕ) (parts : List (List ℕ)) → onto_first b (onto text parts) ≡ onto (b ∷ text) parts
onto-cons b text [] = refl
onto-cons b text (part ∷ parts) = refl

slice_split-onto : (text piece : List ℕ) → NoLf text → slice_split is_lf (text ++ piece) ≡ onto text (slice_split is_lf piece)
slice_split-onto [] piece none = onto-nil (slice_split is_lf piece) (some_piece piece)
slice_split-onto (b ∷ text) piece none =
    rw none.0 (ap (onto_first b) (slice_split-onto text piece none.1) ∙ onto-cons b text (slice_split is_lf piece))

length-onto : (text : List ℕ) (parts : List (List ℕ)) → parts ≢ [] → length (onto text parts) ≡ length parts
length-onto text [] some = absurd (some refl)
length-onto text (part ∷ parts) some = refl

-- one more piece makes no more pieces than it has bytes, and one
pub pieces_of-few : (text piece : List ℕ) → NoLf text → length (pieces_of (text ++ piece)) ≤ length piece + 1
pieces_of-few text piece none =
    let parts : length (slice_split is_lf (text ++ piece)) ≡ length (slice_split is_lf piece) =
    ap length (slice_split-onto text piece none) ∙ length-onto text (slice_split is_lf piece) (some_piece piece) in
    omega (arith, parts, length-map (slice_split is_lf (text ++ piece)) front, length-slice_split is_lf piece, count_by-le-length is_lf piece)

-- a front goes on as the whole does
take-more : (n : ℕ) (text more : List ℕ) → take n (take n text ++ more) ≡ take n (text ++ more)
take-more zero text more = refl
take-more (suc n) [] more = refl
take-more (suc n) (b ∷ text) more = ap (λ l. b ∷ l) (take-more n text more)

front-same : (one other more : List ℕ) → front one ≡ front other → front (one ++ more) ≡ front (other ++ more)
front-same one other more same =
    sym (take-more LINE_FRONT one more) ∙ ap (λ l. take LINE_FRONT (l ++ more)) same ∙ take-more LINE_FRONT other more

onto-same : (one other : List ℕ) (parts : List (List ℕ)) → front one ≡ front other → map front (onto one parts) ≡ map front (onto other parts)
onto-same one other [] same = ap (λ l. l ∷ []) same
onto-same one other (part ∷ parts) same = ap (λ l. l ∷ map front parts) (front-same one other part same)

-- of two texts with no LF and the same front, one more piece makes the same pieces
pub pieces_of-same : (one other piece : List ℕ) → NoLf one → NoLf other → front one ≡ front other → pieces_of (one ++ piece) ≡ pieces_of (other ++ piece)
pieces_of-same one other piece none none' same =
    ap (map front) (slice_split-onto one piece none)
    ∙ onto-same one other (slice_split is_lf piece) same
    ∙ ap (map front) (sym (slice_split-onto other piece none'))

pub front-front : (text : List ℕ) → front (front text) ≡ front text
front-front text = take-take LINE_FRONT LINE_FRONT text (lit≤ tt)

-- a text with no LF is one piece
pub pieces_of-one : (text : List ℕ) → NoLf text → pieces_of text ≡ front text ∷ []
pieces_of-one text none = rw (append-nil text) at (ap (map front) (slice_split-onto text [] none))

-- no byte of these is an LF
no_lf : (line : List ℕ) → All (λ b. b ≢ 10) line → All (λ b. eqb b 10 ≡ false) line
no_lf line none = λ k d within. ne_eqb _ 10 (none k d within)

pub pieces_of-none : (text : List ℕ) → All (λ b. b ≢ 10) text → pieces_of text ≡ front text ∷ []
pieces_of-none text none = ap (map front) (slice_split_none is_lf text (no_lf text none))

-- what is before the first LF is the first piece
pub pieces_of-cut : (text line rest : List ℕ) → text ≡ line ++ 10 ∷ rest → All (λ b. b ≢ 10) line → pieces_of text ≡ front line ∷ pieces_of rest
pieces_of-cut text line rest parts none =
    ap pieces_of parts ∙ ap (map front) (slice_split_at is_lf line 10 rest (no_lf line none) refl)

-- so a text of one piece is its front
pub one_piece-is : (text : List ℕ) (lines : List (List ℕ)) → pieces_of text ≡ lines → length lines ≡ 1 → lines ≡ front text ∷ []
one_piece-is text lines are one = sym are ∙ pieces_of-one text (NoLf-one text (ap length are ∙ one))

pub pieces_of-some : (text : List ℕ) → 1 ≤ length (pieces_of text)
pieces_of-some text = omega (arith, length-slice_split is_lf text, length-map (slice_split is_lf text) front)

-- what is held when a piece was taken, and when it was not
module _ (text taken piece : List ℕ) (lines : List (List ℕ)) (are : pieces_of text ≡ lines) (one : length lines ≡ 1) where
  pub taken-rest : taken ≡ front text ++ piece → pieces_of taken ≡ pieces_of (rest_of lines ++ piece)
  taken-rest is = ap pieces_of (is ∙ ap (λ l. rest_of l ++ piece) (sym (one_piece-is text lines are one)))

  pub taken-text : taken ≡ front text ++ piece → (whole : List ℕ) → lines ≡ pieces_of whole → pieces_of taken ≡ pieces_of (whole ++ piece)
  taken-text is whole same =
      let none : NoLf whole = NoLf-one whole (ap length (sym same) ∙ one) in
      let fronts : front text ≡ front whole =
      ap rest_of (sym (one_piece-is text lines are one) ∙ one_piece-is whole lines (sym same) one) in
      ap pieces_of is
      ∙ pieces_of-same (front text) whole piece (NoLf-front text (NoLf-one text (ap length are ∙ one))) none (front-front text ∙ fronts)

  pub taken-few : taken ≡ front text ++ piece → length (pieces_of taken) ≤ length piece + 1
  taken-few is =
      let none : NoLf text = NoLf-one text (ap length are ∙ one) in
      subst (λ l. length (pieces_of l) ≤ length piece + 1) (sym is) (pieces_of-few (front text) piece (NoLf-front text none))

  pub kept-same : taken ≡ front text → pieces_of taken ≡ lines
  kept-same is =
      let none : NoLf text = NoLf-one text (ap length are ∙ one) in
      ap pieces_of is ∙ pieces_of-one (front text) (NoLf-front text none)
      ∙ ap (λ l. l ∷ []) (front-front text) ∙ sym (one_piece-is text lines are one)

-- a front is not long, and not longer than what it is the front of
pub length-front : (text : List ℕ) → length (front text) ≤ LINE_FRONT
length-front text = omega (arith, length-take LINE_FRONT text)

pub length-front-drop : (start : ℕ) (bytes : List ℕ) → length (front (drop start bytes)) ≤ length bytes
length-front-drop start bytes = omega (arith, length-take LINE_FRONT (drop start bytes), length-drop start bytes)

-- the lines behind the first, where there is one and where there is none
pub behind_line-some : (line : List ℕ) (lines : List (List ℕ)) → 1 ≤ length lines → behind_line (line ∷ lines) ≡ lines
behind_line-some line [] some = absurd (omega arith)
behind_line-some line (next ∷ lines) some = refl

pub behind_line-none : (rest : List ℕ) (lines : List (List ℕ)) → lines ≡ rest ∷ [] → behind_line lines ≡ lines
behind_line-none rest lines are = rw are refl

-- the same lines in as many bytes
pub same_held : (lines lines' : List (List ℕ)) (bytes bytes' : ℕ) → lines ≡ lines' → bytes ≡ bytes'
    → ◌≡◌ {A = Held} (record { lines = lines; bytes = bytes }) (record { lines = lines'; bytes = bytes' })
same_held lines lines' bytes bytes' same same' = rw (same, same') refl
