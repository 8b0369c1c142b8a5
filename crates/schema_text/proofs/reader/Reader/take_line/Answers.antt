-- A line is judged by its word, where it has one that may stand there.
use Rattle.std.proofs.Common.{sym, ap, ◌∙◌, Some}
use Rattle.schema_text.proofs.LineFaults.{end-one_field}
use Rattle.schema_text.proofs.LineWords.{HasWord, HasWord-in, draft_line_fault-none, draft_line_fault-word, with_line-word}
use Rattle.schema_text.specs.Kept.{draft_of}
use Rattle.schema_text.proofs.reader.Reader.take_line.Goals as goal

pub take_word-requires-clause-follows : goal.take_word-requires-clause-follows
take_word-requires-clause-follows c = (HasWord-in c.args.self.now.last c.args.line.now c.in-Ok.word (sym c.word_in.ensures ∙ c.in-Ok.is)).follows

pub take_word-requires-clause-goes_on : goal.take_word-requires-clause-goes_on
take_word-requires-clause-goes_on c =
    λ is one.
    let has = HasWord-in c.args.self.now.last c.args.line.now c.in-Ok.word (sym c.word_in.ensures ∙ c.in-Ok.is) in
    end-one_field c.args.line.now c.requires.goes_on (has.named ∙ ap (λ w. Some w) is) (rw c.without_cr.ensures at one)

pub returns-in-Ok-clause-made : goal.returns-in-Ok-clause-made
returns-in-Ok-clause-made c =
    let has : HasWord c.args.self.now.last c.args.line.now c.in-Ok.word = HasWord-in c.args.self.now.last c.args.line.now c.in-Ok.word (sym c.word_in.ensures ∙ c.in-Ok.is) in
    rw (with_line-word (draft_of c.args.self.now) c.args.line.now c.in-Ok.word has) (rw c.without_cr.ensures at c.take_word.ensures.made)

pub returns-in-Ok-clause-accepted : goal.returns-in-Ok-clause-accepted
returns-in-Ok-clause-accepted c =
    let has : HasWord c.args.self.now.last c.args.line.now c.in-Ok.word = HasWord-in c.args.self.now.last c.args.line.now c.in-Ok.word (sym c.word_in.ensures ∙ c.in-Ok.is) in
    rw (draft_line_fault-word (draft_of c.args.self.now) c.args.line.now c.in-Ok.word has) (rw c.without_cr.ensures at c.take_word.ensures.accepted)

pub returns-in-Ok-clause-refused : goal.returns-in-Ok-clause-refused
returns-in-Ok-clause-refused c =
    let has : HasWord c.args.self.now.last c.args.line.now c.in-Ok.word = HasWord-in c.args.self.now.last c.args.line.now c.in-Ok.word (sym c.word_in.ensures ∙ c.in-Ok.is) in
    rw (draft_line_fault-word (draft_of c.args.self.now) c.args.line.now c.in-Ok.word has) (rw c.without_cr.ensures at c.take_word.ensures.refused)

pub returns-in-Err-clause-refused : goal.returns-in-Err-clause-refused
returns-in-Err-clause-refused c = draft_line_fault-none (draft_of c.args.self.now) c.args.line.now c.in-Err.code (sym c.word_in.ensures ∙ c.in-Err.is)
