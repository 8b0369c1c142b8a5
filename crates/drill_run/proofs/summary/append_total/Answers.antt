-- Two fields, one after the other.
use Rattle.std.proofs.Common.{[], ◌∷◌}
use Rattle.script_text.specs.Decimals.{exact_text}
use Rattle.drill_run.proofs.Texting.{field-first, field-more}
use Rattle.drill_run.proofs.summary.append_total.Goals as goal

pub returns : goal.returns
returns c =
    let start = c.args.text.now.items in
    let count = exact_text c.one.result.exact in
    let sum = exact_text c.one-2.result.exact in
    let first = field-first start count c.append_exact.new.text.items c.in_ok-append_exact.ensures.ok in
    let both = field-more start (count ∷ []) sum c.append_exact.new.text.items c.append_exact-2.new.text.items first c.in_ok-append_exact-2.ensures.ok in
    rw (c.one.ensures.value, c.one-2.ensures.value) at both
