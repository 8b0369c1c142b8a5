-- The first condition that holds decides over the line, and the fields of one that is accepted say what it says.
use Rattle.std.proofs.Common.{◌≡◌, ◌∷◌, ◌∙◌, ap, ap₂, length, subst, sym, Ok, Err, Some, None}
use Rattle.fact_records.specs.Fields.{fact_given}
use Rattle.script_text.specs.LineSteps.{IsReadOf}
use Rattle.script_text.specs.ScriptLine.{command_line, line_of}
use Rattle.script_text.proofs.LineSteps.{IsReadOf-err, IsReadOf-ok, command_line-right, command_line-wrong, line_given-fact, line_of-command, line_of-long, line_of-not_clean, line_of-skipped}
use Rattle.script_text.proofs.line_reader.read_line.Goals as goal

pub returns-then-is_skipped-clause-line : goal.returns-then-is_skipped-clause-line
returns-then-is_skipped-clause-line c = line_of-skipped c.args.schema.now c.args.line.now (sym c.if-is_skipped.true ∙ c.is_skipped.ensures)

pub returns-then-is_long-clause-refused : goal.returns-then-is_long-clause-refused
returns-then-is_long-clause-refused c =
    line_of-long c.args.schema.now c.args.line.now (sym c.if-is_skipped.false ∙ c.is_skipped.ensures) (sym c.if-is_long.true ∙ c.is_long.ensures)

pub returns-in_default-clause-refused : goal.returns-in_default-clause-refused
returns-in_default-clause-refused c =
    line_of-not_clean c.args.schema.now c.args.line.now (sym c.if-is_skipped.false ∙ c.is_skipped.ensures) (sym c.if-is_long.false ∙ c.is_long.ensures) (rw c.without_cr.ensures at c.in_default.ensures.clean)

pub returns-in_default-word_spelled-clause-refused : goal.returns-in_default-word_spelled-clause-refused
returns-in_default-word_spelled-clause-refused c =
    line_of-command c.args.schema.now c.args.line.now c.in-Some.text.now c.next_field.result.now c.next_field.new.self None
    (sym c.if-is_skipped.false ∙ c.is_skipped.ensures) (sym c.if-is_long.false ∙ c.is_long.ensures) (rw c.without_cr.ensures at c.in-Some.ensures.clean)
    (c.in-Some.ensures.text ∙ c.without_cr.ensures) (sym c.new-fields.ensures ∙ c.next_field.ensures) c.in_default-word_spelled.ensures

pub returns-then-count-count_of-clause-refused : goal.returns-then-count-count_of-clause-refused
returns-then-count-count_of-clause-refused c =
    let said : line_of c.args.schema.now c.args.line.now ≡ command_line c.args.schema.now (c.next_field.result.now ∷ c.next_field.new.self) (Some c.in-Some-word_spelled.word) =
    line_of-command c.args.schema.now c.args.line.now c.in-Some.text.now c.next_field.result.now c.next_field.new.self (Some c.in-Some-word_spelled.word)
    (sym c.if-is_skipped.false ∙ c.is_skipped.ensures) (sym c.if-is_long.false ∙ c.is_long.ensures) (rw c.without_cr.ensures at c.in-Some.ensures.clean)
    (c.in-Some.ensures.text ∙ c.without_cr.ensures) (sym c.new-fields.ensures ∙ c.next_field.ensures) c.in-Some-word_spelled.ensures in
    said ∙ command_line-wrong c.args.schema.now c.in-Some-word_spelled.word c.next_field.result.now c.next_field.new.self
    (λ same. c.if-count-count_of.true (c.len-count.ensures ∙ ap length c.next_field.ensures ∙ same ∙ sym c.count_of.ensures))

pub returns-in-Ok-clause-line : goal.returns-in-Ok-clause-line
returns-in-Ok-clause-line c =
    let said : line_of c.args.schema.now c.args.line.now ≡ command_line c.args.schema.now (c.next_field.result.now ∷ c.next_field.new.self) (Some c.in-Some-word_spelled.word) =
    line_of-command c.args.schema.now c.args.line.now c.in-Some.text.now c.next_field.result.now c.next_field.new.self (Some c.in-Some-word_spelled.word)
    (sym c.if-is_skipped.false ∙ c.is_skipped.ensures) (sym c.if-is_long.false ∙ c.is_long.ensures) (rw c.without_cr.ensures at c.in-Some.ensures.clean)
    (c.in-Some.ensures.text ∙ c.without_cr.ensures) (sym c.new-fields.ensures ∙ c.next_field.ensures) c.in-Some-word_spelled.ensures in
    let right = command_line-right c.args.schema.now c.in-Some-word_spelled.word c.next_field.result.now c.next_field.new.self
    (ap length (sym c.next_field.ensures) ∙ sym c.len-count.ensures ∙ c.if-count-count_of.false ∙ c.count_of.ensures) in
    let fact = c.in-Ok.ensures.fact ∙ ap₂ (λ dims shape. fact_given dims shape c.next_field.new.self) c.space.ensures.dims c.shape.ensures.shape in
    said ∙ right ∙ line_given-fact c.args.schema.now c.in-Some-word_spelled.word c.in-OfFact.word c.next_field.new.self (Ok c.in-Ok.fact) c.in-OfFact.is fact ∙ ap Ok (sym c.line.ensures)

pub returns-in-Err-clause-refused : goal.returns-in-Err-clause-refused
returns-in-Err-clause-refused c =
    let said : line_of c.args.schema.now c.args.line.now ≡ command_line c.args.schema.now (c.next_field.result.now ∷ c.next_field.new.self) (Some c.in-Some-word_spelled.word) =
    line_of-command c.args.schema.now c.args.line.now c.in-Some.text.now c.next_field.result.now c.next_field.new.self (Some c.in-Some-word_spelled.word)
    (sym c.if-is_skipped.false ∙ c.is_skipped.ensures) (sym c.if-is_long.false ∙ c.is_long.ensures) (rw c.without_cr.ensures at c.in-Some.ensures.clean)
    (c.in-Some.ensures.text ∙ c.without_cr.ensures) (sym c.new-fields.ensures ∙ c.next_field.ensures) c.in-Some-word_spelled.ensures in
    let right = command_line-right c.args.schema.now c.in-Some-word_spelled.word c.next_field.result.now c.next_field.new.self
    (ap length (sym c.next_field.ensures) ∙ sym c.len-count.ensures ∙ c.if-count-count_of.false ∙ c.count_of.ensures) in
    let fact = c.in-Err.ensures.fact ∙ ap₂ (λ dims shape. fact_given dims shape c.next_field.new.self) c.space.ensures.dims c.shape.ensures.shape in
    said ∙ right ∙ line_given-fact c.args.schema.now c.in-Some-word_spelled.word c.in-OfFact.word c.next_field.new.self (Err c.in-Err.code) c.in-OfFact.is fact

pub returns : goal.returns
returns c =
    let said : line_of c.args.schema.now c.args.line.now ≡ command_line c.args.schema.now (c.next_field.result.now ∷ c.next_field.new.self) (Some c.in-Some-word_spelled.word) =
    line_of-command c.args.schema.now c.args.line.now c.in-Some.text.now c.next_field.result.now c.next_field.new.self (Some c.in-Some-word_spelled.word)
    (sym c.if-is_skipped.false ∙ c.is_skipped.ensures) (sym c.if-is_long.false ∙ c.is_long.ensures) (rw c.without_cr.ensures at c.in-Some.ensures.clean)
    (c.in-Some.ensures.text ∙ c.without_cr.ensures) (sym c.new-fields.ensures ∙ c.next_field.ensures) c.in-Some-word_spelled.ensures in
    let right = command_line-right c.args.schema.now c.in-Some-word_spelled.word c.next_field.result.now c.next_field.new.self
    (ap length (sym c.next_field.ensures) ∙ sym c.len-count.ensures ∙ c.if-count-count_of.false ∙ c.count_of.ensures) in
    let read = subst (λ given. IsReadOf given c.read_fields.result) (sym (said ∙ right)) c.read_fields.ensures.line in
    record { line = IsReadOf-ok _ _ read; refused = IsReadOf-err _ _ _ read; within = c.read_fields.ensures.within }
