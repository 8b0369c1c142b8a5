-- What stands before the first LF is the first piece, and with no LF there is one piece.
use Rattle.std.proofs.Common.{◌≡◌, ◌∙◌, ◌+◌, ◌-◌, [], ◌∷◌, ap, arith, drop, length, refl, sym, take}
use Rattle.std.proofs.lemmas.List.{drop-drop, take_rest}
use Rattle.text_lines.specs.Pieces.{behind_line, front, pieces_of}
use Rattle.text_lines.proofs.Fronts.{behind_line-none, behind_line-some, pieces_of-cut, pieces_of-none, pieces_of-some, same_held}
use Rattle.text_lines.proofs.line_cutter.LineCutter.next_line.Goals as goal

pub returns-in_err-length : goal.returns-in_err-length
returns-in_err-length c =
    let start = c.self.inside.start in
    let items = c.self.inside.bytes.items in
    let seen = c.deref.result.now in
    let is : take (length seen - start) (drop start seen) ≡ drop start items = take_rest seen start ∙ ap (drop start) c.deref.ensures.value in
    let held : pieces_of (drop start items) ≡ c.args.self.now.lines = ap (λ h. h.lines) c.self.view_is in
    let one : c.args.self.now.lines ≡ front (take (length seen - start) (drop start seen)) ∷ [] =
    sym held ∙ ap pieces_of (sym is) ∙ pieces_of-none (take (length seen - start) (drop start seen)) c.in_err-length.ensures.none in
    rw c.from_residual.ensures (
      (refl, (λ _. tt), same_held (pieces_of (drop start items)) (behind_line c.args.self.now.lines) (length items) c.args.self.now.bytes (held ∙ sym (behind_line-none _ c.args.self.now.lines one)) (ap (λ h. h.bytes) c.self.view_is)),
      record {
        left = tt;
        none = ((λ e. ap length one), (λ e. refl));
        line = tt;
      },
    )

pub returns : goal.returns
returns c =
    let start = c.self.inside.start in
    let items = c.self.inside.bytes.items in
    let seen = c.deref.result.now in
    let n = c.in_ok-length.length in
    let text = take (length seen - start) (drop start seen) in
    let is : take (length seen - start) (drop start seen) ≡ drop start items = take_rest seen start ∙ ap (drop start) c.deref.ensures.value in
    let held : pieces_of (drop start items) ≡ c.args.self.now.lines = ap (λ h. h.lines) c.self.view_is in
    let cut : c.args.self.now.lines ≡ front (take n text) ∷ pieces_of (drop (n + 1) text) =
    sym held ∙ ap pieces_of (sym is) ∙ pieces_of-cut text (take n text) (drop (n + 1) text) c.in_ok-length.ensures.lf c.in_ok-length.ensures.line in
    let behind : behind_line c.args.self.now.lines ≡ pieces_of (drop (n + 1) text) =
    ap behind_line cut ∙ behind_line-some (front (take n text)) (pieces_of (drop (n + 1) text)) (pieces_of-some (drop (n + 1) text)) in
    let left : drop (start + (n + 1)) items ≡ drop (n + 1) text = sym (drop-drop (n + 1) start items) ∙ ap (drop (n + 1)) (sym is) in
    let same : n ≡ start + n - start = omega arith in
    let line : c.front.result.now ≡ front (take n text) =
    c.front.ensures ∙ ap (λ k. front (take k (drop start c.deref-2.result.now))) (sym same) ∙ ap (λ l. front (take n l)) (ap (drop start) c.deref-2.ensures.value ∙ sym is) in (
      (refl, (λ _. tt), same_held (pieces_of (drop (start + (n + 1)) items)) (behind_line c.args.self.now.lines) (length items) c.args.self.now.bytes (ap pieces_of left ∙ sym behind) (ap (λ h. h.bytes) c.self.view_is)),
      record {
        left = tt;
        none = ((λ e. cc), (λ e. absurd (omega (arith, sym e ∙ ap length cut, pieces_of-some (drop (n + 1) text)))));
        line = cut ∙ ap (λ l. l ∷ pieces_of (drop (n + 1) text)) (sym line) ∙ ap (λ l. c.front.result.now ∷ l) (sym behind);
      },
    )
