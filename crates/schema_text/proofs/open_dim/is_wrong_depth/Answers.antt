-- The depth of the last node decides.
use Rattle.std.proofs.Common.{◌≡◌, ◌-◌, arith, sym, ap, ◌∙◌, length, Some}
use Rattle.std.specs.Prelude.{slice_get, option_copied}
use Rattle.std.proofs.lemmas.Bool.Decides.{nat_tests}
use Rattle.schema_text.proofs.Drafts.{is_wrong_depth-last}
use Rattle.schema_text.proofs.open_dim.is_wrong_depth.Goals as goal

pub returns-then-depth-eq0 : goal.returns-then-depth-eq0
returns-then-depth-eq0 c =
    let nodes = c.args.nodes.now in
    let last : slice_get nodes (length nodes - 1) ≡ Some c.in-Some.before.now = sym c.last.ensures.value ∙ ap option_copied c.in-Some.is in
    grind (arith, nat_tests, is_wrong_depth-last nodes c.args.depth, last)

pub returns-else-depth-eq0 : goal.returns-else-depth-eq0
returns-else-depth-eq0 c =
    let nodes = c.args.nodes.now in
    let last : slice_get nodes (length nodes - 1) ≡ Some c.in-Some.before.now = sym c.last.ensures.value ∙ ap option_copied c.in-Some.is in
    grind (arith, nat_tests, is_wrong_depth-last nodes c.args.depth, last)
