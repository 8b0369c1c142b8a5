-- The digits behind the 1 are the places.
use Rattle.std.proofs.Common.{◌++◌, ◌∙◌, ap, arith, length}
use Rattle.script_text.proofs.Digits.{behind_first, printed-places}
use Rattle.script_text.proofs.reply_numbers.append_places.Goals as goal

pub slice_bounds-extend_from_slice-count : goal.slice_bounds-extend_from_slice-count
slice_bounds-extend_from_slice-count c =
    omega (arith, ap length (printed-places c.args.rest c.as_bytes-digits.result.now c.requires (c.as_bytes-digits.ensures.value ∙ c.format.ensures.text)))

pub slice_bounds-extend_from_slice-start : goal.slice_bounds-extend_from_slice-start
slice_bounds-extend_from_slice-start c =
    omega (arith, ap length (printed-places c.args.rest c.as_bytes-digits.result.now c.requires (c.as_bytes-digits.ensures.value ∙ c.format.ensures.text)))

pub returns-clause-ok : goal.returns-clause-ok
returns-clause-ok c =
    let printed = printed-places c.args.rest c.as_bytes-digits.result.now c.requires (c.as_bytes-digits.ensures.value ∙ c.format.ensures.text) in
    c.in_ok-extend_from_slice.ensures.items ∙ ap (λ l. c.args.text.now.items ++ l) (behind_first _ _ _ printed)
