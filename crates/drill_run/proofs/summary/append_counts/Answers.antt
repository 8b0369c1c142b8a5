-- Four fields, one after the other.
use Rattle.std.proofs.Common.{[], ◌∷◌}
use Rattle.std.specs.Fmt.{decimal}
use Rattle.drill_run.proofs.Texting.{field-first, field-more}
use Rattle.drill_run.proofs.summary.append_counts.Goals as goal

pub returns : goal.returns
returns c =
    let start = c.args.text.now.items in
    let number = decimal c.args.n in
    let facts = decimal c.fact_count.result in
    let rows = decimal c.row_count.result in
    let refreshed = decimal c.refreshed_count.result in
    let one = field-first start number c.append_number.new.text.items c.in_ok-append_number.ensures.ok in
    let two = field-more start (number ∷ []) facts c.append_number.new.text.items c.append_number-2.new.text.items one c.in_ok-append_number-2.ensures.ok in
    let three = field-more start (number ∷ facts ∷ []) rows c.append_number-2.new.text.items c.append_number-3.new.text.items two c.in_ok-append_number-3.ensures.ok in
    let four = field-more start (number ∷ facts ∷ rows ∷ []) refreshed c.append_number-3.new.text.items c.append_number-4.new.text.items three c.in_ok-append_number-4.ensures.ok in
    rw (c.fact_count.ensures, c.row_count.ensures, c.refreshed_count.ensures) at four
