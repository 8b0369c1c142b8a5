-- The whole part, the point and the places, one behind the other.
use Rattle.std.proofs.Common.{◌++◌, ◌∷◌, [], ◌/◌, ◌∙◌, ap, arith}
use Rattle.std.specs.Fmt.{decimal}
use Rattle.std.proofs.lemmas.Result.{on_err_weaker, on_ok_weaker}
use Rattle.exact_fraction.specs.Fraction.{UNIT}
use Rattle.script_text.proofs.Appending.{Keeps-front, appended-three}
use Rattle.script_text.proofs.Digits.{decimal-whole_text}
use Rattle.script_text.proofs.reply_numbers.append_size.Goals as goal

pub returns-clause-ok : goal.returns-clause-ok
returns-clause-ok c =
    let whole = c.as_bytes.ensures.value ∙ c.format.ensures.text ∙ ap decimal c.quotient.ensures ∙ decimal-whole_text (c.args.size / UNIT) (omega arith) in
    on_ok_weaker c.append_places.result
    (λ places. appended-three _ _ (46 ∷ []) _ _ _ _ (c.in_ok-extend_from_slice.ensures.items ∙ ap (λ l. c.args.text.now.items ++ l) whole) c.in_ok-push.ensures.items (rw c.remainder.ensures at places))
    c.append_places.ensures.ok

pub returns-clause-err : goal.returns-clause-err
returns-clause-err c =
    on_err_weaker c.append_places.result (λ keeps. Keeps-front _ _ _ _ c.in_ok-extend_from_slice.ensures.items (Keeps-front _ _ _ _ c.in_ok-push.ensures.items keeps)) c.append_places.ensures.err
