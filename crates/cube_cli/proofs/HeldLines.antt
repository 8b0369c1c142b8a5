-- The lines that a cutter holds whole, while they are taken up to the line `end`.
use Rattle.std.proofs.Common.{◌≡◌, ℕ, suc, ◌+◌, ◌<◌, ◌≤◌, Bool, true, false, List, [], ◌∷◌, ◌++◌, length, take, drop, refl, ap, sym, subst, ◌∙◌, arith, append-nil, append_assoc, length-append, Some, None, cond}
use Rattle.std.specs.Prelude.{IsSomeAnd, nat_lt, position}
use Rattle.std.specs.List.{list_any, position_or_len}
use Rattle.std.proofs.lemmas.Bool.{lt-ltb}
use Rattle.std.proofs.lemmas.List.{drop_at, take_at}
use Rattle.std.proofs.lemmas.List.Folds.{list_any-append}
use Rattle.text_lines.specs.Pieces.{behind_line, rest_of, whole_lines}
use Rattle.schema_text.specs.SchemaText.{is_end}
use Rattle.cube_cli.specs.SchemaLines.{TookHeld, text_of_lines}
use Rattle.cube_cli.proofs.SchemaTaking.{pieces-are}
use Rattle.cube_cli.proofs.TakenLines.{text_of_lines-push}

-- so many lines were handed out, and appended; none of them is the line `end`
pub record AreAppended (old now : List (List ℕ)) (before after : List ℕ) : Type 0 where
  pub done : List (List ℕ)
  pub no_end : list_any is_end done ≡ false
  pub lines : whole_lines old ≡ done ++ whole_lines now
  pub rest : rest_of now ≡ rest_of old
  pub text : after ≡ before ++ text_of_lines done

pub appended-none : (old : List (List ℕ)) (before : List ℕ) → AreAppended old old before before
appended-none old before = record { done = []; no_end = refl; lines = refl; rest = refl; text = sym (append-nil before) }

-- the first of the lines that are held
record IsFirst (now : List (List ℕ)) (line : List ℕ) : Type 0 where
  whole : whole_lines now ≡ line ∷ whole_lines (behind_line now)
  rest : rest_of (behind_line now) ≡ rest_of now
  some : 1 ≤ length (behind_line now)

is_first : (now : List (List ℕ)) (line : List ℕ) → now ≡ line ∷ behind_line now → IsFirst now line
is_first [] line is = cc
is_first (rest ∷ []) line is = cc
is_first (first ∷ next ∷ lines) line is = let same : first ≡ line = cc in record { whole = ap (λ l. l ∷ whole_lines (next ∷ lines)) same; rest = refl; some = omega arith }

pushed : (before after text line : List ℕ) (done : List (List ℕ)) → text ≡ before ++ text_of_lines done → after ≡ text ++ line ++ 10 ∷ [] → after ≡ before ++ text_of_lines (done ++ line ∷ [])
pushed before after text line done is more =
    more ∙ append_assoc text line (10 ∷ []) ∙ ap (λ l. l ++ (line ++ 10 ∷ [])) is ∙ append_assoc before (text_of_lines done) (line ++ 10 ∷ [])
    ∙ ap (λ l. before ++ l) (sym (text_of_lines-push done line))

-- it is passed over
pub appended-more : (old now : List (List ℕ)) (before text after line : List ℕ) → AreAppended old now before text → now ≡ line ∷ behind_line now → after ≡ text ++ line ++ 10 ∷ [] → is_end line ≡ false
    → AreAppended old (behind_line now) before after
appended-more old now before text after line are is more goes =
    let first = is_first now line is in
    record {
      done = are.done ++ line ∷ [];
      no_end = list_any-append is_end are.done (line ∷ []) ∙ rw (are.no_end, goes) refl;
      lines = are.lines ∙ ap (λ l. are.done ++ l) first.whole ∙ sym (append_assoc are.done (line ∷ []) (whole_lines (behind_line now)));
      rest = first.rest ∙ are.rest;
      text = pushed before after text line are.done are.text more;
    }

-- or is the line `end`
place_is : (done : List (List ℕ)) (line : List ℕ) (later : List (List ℕ)) → list_any is_end done ≡ false → is_end line ≡ true → position_or_len is_end (done ++ line ∷ later) ≡ length done
place_is [] line later none ends = rw ends refl
place_is (first ∷ done) line later none ends = step (is_end first) refl (λ none. place_is done line later none ends)
  where
    step : (is : Bool) → is_end first ≡ is → (list_any is_end done ≡ false → position_or_len is_end (done ++ line ∷ later) ≡ length done) → position_or_len is_end (first ∷ (done ++ line ∷ later)) ≡ suc (length done)
    step true is place = cc (rw is at none)
    step false goes place = rw goes (omega (arith, place (rw goes at none)))

position-done : (done : List (List ℕ)) (line : List ℕ) (later : List (List ℕ)) → list_any is_end done ≡ false → is_end line ≡ true → position is_end (done ++ line ∷ later) ≡ Some (length done)
position-done done line later none ends =
    let all = done ++ line ∷ later in
    let less : length done < length all = omega (arith, length-append done (line ∷ later)) in
    ap (λ k. cond (nat_lt k (length all)) (Some k) None) (place_is done line later none ends) ∙ rw (lt-ltb (length done) (length all) less) refl

pub appended-end : (old now : List (List ℕ)) (before text after line : List ℕ) → AreAppended old now before text → now ≡ line ∷ behind_line now → after ≡ text ++ line ++ 10 ∷ [] → is_end line ≡ true
    → TookHeld (whole_lines old) (rest_of old) before after (behind_line now) true
appended-end old now before text after line are is more ends =
    let first = is_first now line is in
    let behind = behind_line now in
    let later = whole_lines behind in
    let whole : whole_lines old ≡ are.done ++ line ∷ later = are.lines ∙ ap (λ l. are.done ++ l) first.whole in
    let parts : whole_lines old ≡ (are.done ++ line ∷ []) ++ later = whole ∙ sym (append_assoc are.done (line ∷ []) later) in
    let size : length (are.done ++ line ∷ []) ≡ length are.done + 1 = length-append are.done (line ∷ []) in
    let text_is : after ≡ before ++ text_of_lines (take (length are.done + 1) (whole_lines old)) =
    pushed before after text line are.done are.text more
    ∙ ap (λ l. before ++ text_of_lines l) (sym (ap (take (length are.done + 1)) parts ∙ take_at (are.done ++ line ∷ []) later (length are.done + 1) size)) in
    let left_is : behind ≡ drop (length are.done + 1) (whole_lines old) ++ rest_of old ∷ [] =
    pieces-are behind first.some
    ∙ ap (λ l. later ++ l ∷ []) (first.rest ∙ are.rest)
    ∙ ap (λ l. l ++ rest_of old ∷ []) (sym (ap (drop (length are.done + 1)) parts ∙ drop_at (are.done ++ line ∷ []) later (length are.done + 1) size)) in
    subst (λ place. IsSomeAnd place (λ k. (after ≡ before ++ text_of_lines (take (k + 1) (whole_lines old))) × (behind ≡ drop (k + 1) (whole_lines old) ++ rest_of old ∷ [])))
    (sym (ap (position is_end) whole ∙ position-done are.done line later are.no_end ends)) (text_is, left_is)
