-- What stands behind the number says what a line of a script says.
use Rattle.std.proofs.Common.{◌≡◌, ◌∙◌, subst, sym, true}
use Rattle.std.specs.Prelude.{IsOkAnd}
use Rattle.text_lines.specs.LineText.{field_at}
use Rattle.text_lines.specs.Text.{fields_of}
use Rattle.script_text.specs.LineOf.{IsGrowth}
use Rattle.row_feed.specs.FeedLine.{is_said_word}
use Rattle.row_feed.proofs.SaidChanges.{rest_given-change}
use Rattle.row_feed.proofs.CutLines.{rest_given-said}
use Rattle.row_feed.proofs.reader.read_rest.Goals as goal
use Rattle.row_feed.proofs.reader.read_rest.Goals.{After-read_line}

-- the first field is a word of an edit or a growth
said : (c : After-read_line) → is_said_word (field_at (fields_of c.args.rest.now) 0) ≡ true
said c = let is : c.is_said_word.result ≡ true = c.if-not-is_said_word.false in rw c.field_at.ensures at (sym c.is_said_word.ensures ∙ is)

pub returns-in-Ok-clause-line : goal.returns-in-Ok-clause-line
returns-in-Ok-clause-line c =
    rest_given-said c.args.schema.now c.args.rest.now (said (goal.at.returns-in-Ok-clause-line c).After-read_line) c.requires.short c.requires.clean ∙ c.in-Ok.ensures.line

pub returns-in-Ok-clause-within : goal.returns-in-Ok-clause-within
returns-in-Ok-clause-within c =
    let word = said (goal.at.returns-in-Ok-clause-within c).After-read_line in
    let given = rest_given-said c.args.schema.now c.args.rest.now word c.requires.short c.requires.clean ∙ c.in-Ok.ensures.line in
    record { there = c.in-Ok.ensures.within; change = rest_given-change c.args.schema.now (fields_of c.args.rest.now) c.in-Ok.line word given }

pub returns-in-Err-Code-clause-line : goal.returns-in-Err-Code-clause-line
returns-in-Err-Code-clause-line c =
    rest_given-said c.args.schema.now c.args.rest.now (said (goal.at.returns-in-Err-Code-clause-line c).After-read_line) c.requires.short c.requires.clean ∙ rw c.in-Err-Code.field-0-is at c.in-Err-Code.ensures.refused

pub returns-in-Err-Memory-clause-memory : goal.returns-in-Err-Memory-clause-memory
returns-in-Err-Memory-clause-memory c =
    let same = rest_given-said c.args.schema.now c.args.rest.now (said (goal.at.returns-in-Err-Memory-clause-memory c).After-read_line) c.requires.short c.requires.clean in
    subst (λ given. IsOkAnd given IsGrowth) (sym same) (rw c.in-Err-Memory.field-0-is at c.in-Err-Memory.ensures.refused)
