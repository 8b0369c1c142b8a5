-- The fields of the line, one after the other.
use Rattle.std.proofs.Common.{◌++◌, ap, ◌∙◌}
use Rattle.std.specs.Fmt.{decimal}
use Rattle.cube_cli.proofs.Auditing.{two_fields}
use Rattle.cube_cli.proofs.saying.count_line.Goals as goal

pub returns : goal.returns
returns c =
    two_fields c.args.word.now (decimal c.args.first) (decimal c.args.second) _ _ _ _
    (c.in_ok-extend_from_slice.ensures.items ∙ ap (λ text. text ++ c.args.word.now) c.new-text.ensures.items)
    c.in_ok-append_number.ensures.ok c.in_ok-append_number-2.ensures.ok (c.from.ensures ∙ c.in_ok-push.ensures.items)
