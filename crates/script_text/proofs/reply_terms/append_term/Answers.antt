-- Each column appends its numerator of the term.
use Rattle.std.proofs.Common.{◌<◌, ◌≤◌, ◌∷◌, ◌++◌, ◌∙◌, ap, arith, get_or, length, pos, rules, sym}
use Rattle.std.specs.Fmt.{signed_decimal}
use Rattle.std.specs.Int.{w128}
use Rattle.std.proofs.lemmas.Int.{to_z-of_z}
use Rattle.group_sum.specs.Place.{term_at}
use Rattle.script_text.specs.ReplySteps.{numerators_of}
use Rattle.script_text.proofs.Appending.{Keeps-front, always, numerators-all, numerators-more}
use Rattle.script_text.proofs.TermsAt.{length-numerators, term_at-read}
use Rattle.script_text.proofs.reply_terms.append_term.Goals as goal

pub returns-in_err-append_signed-clause-err : goal.returns-in_err-append_signed-clause-err
returns-in_err-append_signed-clause-err c = always _ (Keeps-front _ _ _ _ c.loop-column.invariant c.in_err-append_signed.ensures.err)

pub loop-column-preserved : goal.loop-column-preserved
loop-column-preserved c =
    let terms = c.args.terms.now.terms in
    let term = term_at terms c.args.i in
    let columns = length-numerators c.args.terms.now c.args.i c.columns-column-end.ensures.terms c.requires in
    let within : c.loop-column.column < length (numerators_of term) = omega (arith, columns) in
    let number = term_at-read (λ t. get_or (numerators_of t) c.loop-column.column (pos 0)) terms c.args.i c.num_at.result c.requires c.num_at.ensures in
    let held = to_z-of_z w128 c.num_at.result (search rules) in
    numerators-more _ _ (numerators_of term) _ _ _ within c.loop-column.invariant
    (c.in_ok-append_signed.ensures.ok ∙ ap (λ z. c.loop-column.text.items ++ 9 ∷ signed_decimal z) (held ∙ sym number))

pub returns-clause-ok : goal.returns-clause-ok
returns-clause-ok c =
    let terms = c.args.terms.now.terms in
    let columns = length-numerators c.args.terms.now c.args.i c.columns-column-end.ensures.terms c.requires in
    let end : length (numerators_of (term_at terms c.args.i)) ≤ c.loop-column.column = omega (arith, columns) in
    numerators-all (term_at terms c.args.i) _ _ _ _ (term_at-read (λ t. t.den) terms c.args.i _ c.requires c.den_at-den.ensures) end c.loop-column.invariant
