-- What was held is let go but for the front of the rest, behind which the piece is cut as behind the rest itself.
use Rattle.std.proofs.Common.{◌++◌, ◌∙◌, ap, arith, drop, length-append}
use Rattle.std.proofs.lemmas.Result.{err_from_is_err_and}
use Rattle.text_lines.specs.Pieces.{front}
use Rattle.text_lines.proofs.Fronts.{kept-same, length-front, length-front-drop, taken-few, taken-rest, taken-text}
use Rattle.text_lines.proofs.line_cutter.LineCutter.feed.Goals as goal

pub returns-in_err-extend_from_slice-clause-same :
    goal.returns-in_err-extend_from_slice-clause-same
returns-in_err-extend_from_slice-clause-same c =
    let fault = err_from_is_err_and c.from_residual.result c.from_residual.ensures.1 in
    rw fault.1
    (kept-same (drop c.self.inside.start c.self.inside.bytes.items) _ c.args.piece.now _ (ap (λ h. h.lines) c.self.view_is) c.requires (c.in_err-extend_from_slice.ensures.items ∙ c.keep_front.ensures))

pub returns-in_err-extend_from_slice-clause-room_kept :
    goal.returns-in_err-extend_from_slice-clause-room_kept
returns-in_err-extend_from_slice-clause-room_kept c =
    let fault = err_from_is_err_and c.from_residual.result c.from_residual.ensures.1 in
    rw (fault.1, c.in_err-extend_from_slice.ensures.items, c.keep_front.ensures, ← c.self.view_is) (length-front-drop c.self.inside.start c.self.inside.bytes.items)

pub returns-clause-rest : goal.returns-clause-rest
returns-clause-rest c =
    taken-rest (drop c.self.inside.start c.self.inside.bytes.items) _ c.args.piece.now _ (ap (λ h. h.lines) c.self.view_is) c.requires
    (c.in_ok-extend_from_slice.ensures.items ∙ ap (λ l. l ++ c.args.piece.now) c.keep_front.ensures)

pub returns-clause-text : goal.returns-clause-text
returns-clause-text c =
    taken-text (drop c.self.inside.start c.self.inside.bytes.items) _ c.args.piece.now _ (ap (λ h. h.lines) c.self.view_is) c.requires
    (c.in_ok-extend_from_slice.ensures.items ∙ ap (λ l. l ++ c.args.piece.now) c.keep_front.ensures)

pub returns-clause-few : goal.returns-clause-few
returns-clause-few c =
    taken-few (drop c.self.inside.start c.self.inside.bytes.items) _ c.args.piece.now _ (ap (λ h. h.lines) c.self.view_is) c.requires
    (c.in_ok-extend_from_slice.ensures.items ∙ ap (λ l. l ++ c.args.piece.now) c.keep_front.ensures)

pub returns-clause-room : goal.returns-clause-room
returns-clause-room c =
    rw (c.in_ok-extend_from_slice.ensures.items, c.keep_front.ensures)
    (omega (arith, length-append (front (drop c.self.inside.start c.self.inside.bytes.items)) c.args.piece.now, length-front (drop c.self.inside.start c.self.inside.bytes.items)))
