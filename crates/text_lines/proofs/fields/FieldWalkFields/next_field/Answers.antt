-- The field ends at the first TAB from its place on, or with the line.
use Rattle.std.proofs.Common.{ap, ap₂, subst, sym, ◌∙◌, ◌∷◌, IfSome}
use Rattle.std.specs.Str.{IsUtf8}
use Rattle.text_lines.specs.FieldsLeft.{IsMarkedFrom, fields_from}
use Rattle.text_lines.proofs.FieldWalks.{field_end-boundary, fields_from-first, next-marked}
use Rattle.text_lines.proofs.fields.FieldWalkFields.next_field.Goals as goal

pub range-requires-clause-end_boundary : goal.range-requires-clause-end_boundary
range-requires-clause-end_boundary c =
    let here : IsMarkedFrom c.self.inside.line.now c.self.inside.marks c.unwrap-first.result =
    subst (λ next. IfSome next (IsMarkedFrom c.self.inside.line.now c.self.inside.marks)) c.unwrap-first.ensures c.self.invariant in
    field_end-boundary c.self.inside.line.now c.as_bytes.result.now c.unwrap-first.result c.end_from-end.result here.boundary c.as_bytes.ensures.value c.end_from-end.ensures.place c.end_from-end.ensures.within

pub invariant_of-self : goal.invariant_of-self
invariant_of-self c =
    let line = c.self.inside.line.now in
    let here : IsMarkedFrom c.self.inside.line.now c.self.inside.marks c.unwrap-first.result =
    subst (λ next. IfSome next (IsMarkedFrom c.self.inside.line.now c.self.inside.marks)) c.unwrap-first.ensures c.self.invariant in
    subst (λ next. IfSome next (IsMarkedFrom line c.marks_after-self-inside.result)) (sym c.next_behind-self-inside.ensures)
    (next-marked line c.as_bytes.result.now c.unwrap-first.result c.end_from-end.result here.boundary c.as_bytes.ensures.value c.end_from-end.ensures.place c.end_from-end.ensures.within
    (subst IsUtf8 c.as_bytes.ensures.value c.as_bytes.ensures.utf8) c.marks_after-self-inside.result (c.marks_after-self-inside.ensures line c.unwrap-first.result here.marked))

pub returns : goal.returns
returns c =
    let line = c.self.inside.line.now in
    let here : IsMarkedFrom c.self.inside.line.now c.self.inside.marks c.unwrap-first.result =
    subst (λ next. IfSome next (IsMarkedFrom c.self.inside.line.now c.self.inside.marks)) c.unwrap-first.ensures c.self.invariant in
    sym c.self.view_is ∙ ap (λ next. fields_from next line) c.unwrap-first.ensures
    ∙ fields_from-first line c.as_bytes.result.now c.unwrap-first.result c.end_from-end.result here.boundary c.as_bytes.ensures.value c.end_from-end.ensures.place c.end_from-end.ensures.within
    ∙ ap₂ (λ field next. field ∷ fields_from next line) (sym c.range.ensures.value) (sym c.next_behind-self-inside.ensures)
