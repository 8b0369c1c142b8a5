use Rattle.std.proofs.Common.{◌≡◌, ◌∷◌, ◌++◌, map, take}
use Rattle.std.specs.Fmt.{decimal, signed_decimal}
use Rattle.group_sum.specs.Place.{term_at}
use Rattle.script_text.specs.ReplySteps.{fields_text, numerators_of}
use Rattle.script_text.proofs.reply_terms.append_term.Given as goal

-- the denominator and the numerators of the columns before this one are appended
abbrev pub invariant-loop-column : goal.invariant-loop-column
invariant-loop-column l =
    l.text.items ≡ l.fn.text.items ++ fields_text (decimal l.den ∷ map signed_decimal (take l.column (numerators_of (term_at l.terms.terms l.i))))
