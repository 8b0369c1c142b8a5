-- All that is held is one piece, and behind it there is nothing.
use Rattle.std.proofs.Common.{◌≡◌, ◌∙◌, ◌-◌, ◌≤◌, [], ◌∷◌, ap, arith, drop, length, length-drop, length-take, refl, sym, take}
use Rattle.std.proofs.lemmas.List.{drop_all, take_rest}
use Rattle.text_lines.specs.LineText.{LINE_FRONT}
use Rattle.text_lines.specs.Pieces.{front, pieces_of, rest_of}
use Rattle.text_lines.proofs.Cuttings.{lines_ahead-last}
use Rattle.text_lines.proofs.Fronts.{one_piece-is, same_held}
use Rattle.text_lines.proofs.line_cutter.LineCutter.finish.Goals as goal

pub returns : goal.returns
returns c =
    let start = c.self.inside.start in
    let items = c.self.inside.bytes.items in
    let seen = c.deref.result.now in
    let is : take (length seen - start) (drop start seen) ≡ drop start items = take_rest seen start ∙ ap (drop start) c.deref.ensures.value in
    let one : c.args.self.now.lines ≡ front (drop start items) ∷ [] = one_piece-is (drop start items) c.args.self.now.lines (ap (λ h. h.lines) c.self.view_is) c.requires in
    let ended : length items ≤ c.len-end.result = omega (arith, c.len-end.ensures, c.deref.ensures.len, ap length c.deref.ensures.value) in (
      (refl, (λ _. tt), same_held (pieces_of (drop c.len-end.result items)) ([] ∷ []) (length items) c.args.self.now.bytes (ap pieces_of (drop_all c.len-end.result items ended)) (ap (λ h. h.bytes) c.self.view_is)),
      record {
        left = tt;
        none = (
          (λ e. cc),
          (λ e. absurd (omega (arith, length-take LINE_FRONT (drop start items), length-drop start items, ap (λ l. length (rest_of l)) (sym one ∙ e), c.if-start-end.false, c.self.invariant, c.len-end.ensures, c.deref.ensures.len, ap length c.deref.ensures.value))),
        );
        last = lines_ahead-last (drop start items) c.args.self.now.lines (ap (λ h. h.lines) c.self.view_is) c.requires;
        line = one ∙ ap (λ l. l ∷ []) (sym (c.front.ensures ∙ ap front is));
      },
    )
