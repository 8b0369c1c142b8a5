use Rattle.std.proofs.Common.{ap, ◌∙◌}
use Rattle.std.proofs.lemmas.Str.{IsCharBoundary-start}
use Rattle.text_lines.specs.FieldsLeft.{marks_from}
use Rattle.text_lines.proofs.fields.FieldWalk.new.Goals as goal

pub invariant_of-result : goal.invariant_of-result
invariant_of-result c = record { boundary = IsCharBoundary-start c.args.line.now c.utf8.line; marked = c.tabs_in_front.ensures ∙ ap (λ line. marks_from line 0) c.as_bytes.ensures.value }
