-- An accepted line keeps what is known.
use Rattle.std.proofs.Common.{sym, ◌∙◌}
use Rattle.schema_text.specs.Kept.{draft_of}
use Rattle.schema_text.proofs.DraftSteps.{IsDraft-word}
use Rattle.schema_text.proofs.LineFaults.{other_word}
use Rattle.schema_text.proofs.reader.Reader.take_word.Goals as goal

pub returns-clause-reader : goal.returns-clause-reader
returns-clause-reader c =
    record {
      draft = rw c.in_ok-take_fields.ensures.made (IsDraft-word (draft_of c.args.self.now) _ c.args.word c.requires.reader.draft c.requires.follows (other_word _ _ _ c.args.word (sym c.has_wrong_count.ensures ∙ c.if-has_wrong_count.false) c.requires.goes_on) c.in_ok-take_fields.ensures.accepted);
      width = c.in_ok-take_fields.ensures.width;
      kept = c.in_ok-take_fields.ensures.kept;
    }

pub take_fields-requires-clause-goes_on : goal.take_fields-requires-clause-goes_on
take_fields-requires-clause-goes_on c = other_word _ _ _ c.args.word (sym c.has_wrong_count.ensures ∙ c.if-has_wrong_count.false) c.requires.goes_on
