-- The rows are compared part by part.
use Rattle.std.proofs.Common.{ap, sym, ◌∙◌}
use Rattle.std.specs.Option.{option_copied}
use Rattle.store_audit.proofs.Comparing.{rows-same, same-rows}
use Rattle.store_audit.proofs.rows.is_kept.Goals as goal

pub returns-in-Some : goal.returns-in-Some
returns-in-Some c = (
  λ so. ap option_copied c.in-Some.is ∙ rows-same c.in-Some.kept.now c.args.id c.args.spread.now (sym c.are_rows_of.ensures ∙ so),
  λ is. c.are_rows_of.ensures ∙ same-rows c.in-Some.kept.now c.args.id c.args.spread.now (sym (ap option_copied c.in-Some.is) ∙ is),
)
