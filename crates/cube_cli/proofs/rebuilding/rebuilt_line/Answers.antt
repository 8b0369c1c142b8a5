-- The fields of the line, one after the other.
use Rattle.std.proofs.Common.{◌++◌, ap, ◌∙◌}
use Rattle.std.specs.Prelude.{codes}
use Rattle.std.specs.Fmt.{decimal}
use Rattle.cube_cli.proofs.Auditing.{three_fields}
use Rattle.cube_cli.proofs.rebuilding.rebuilt_line.Goals as goal

pub returns : goal.returns
returns c =
    three_fields (codes "rebuilt") (decimal c.args.facts) (decimal c.args.rows) (decimal c.args.changed) _ _ _ _ _
    (c.in_ok-extend_from_slice.ensures.items ∙ ap (λ text. text ++ codes "rebuilt") c.new-text.ensures.items)
    c.in_ok-append_number.ensures.ok c.in_ok-append_number-2.ensures.ok c.in_ok-append_number-3.ensures.ok (c.from.ensures ∙ c.in_ok-push.ensures.items)
