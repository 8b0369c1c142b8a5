-- Each line is judged behind those before it.
use Rattle.std.proofs.Common.{sym, ◌∙◌, rules}
use Rattle.schema_text.specs.Kept.{draft_of}
use Rattle.schema_text.proofs.Reading.{HasCause-line, IsRead-more, IsRead-none, IsRead-skip, schema_of-cut, schema_of-end}
use Rattle.schema_text.proofs.read.read_lines.Goals as goal

pub loop-line-init : goal.loop-line-init
loop-line-init c = record { read = rw c.requires.blank (IsRead-none c.args.text.now); reader = c.requires.reader }

pub loop-line-preserved-then-is_skipped : goal.loop-line-preserved-then-is_skipped
loop-line-preserved-then-is_skipped c = record {
  read = IsRead-skip _ _ _ _ c.in-Some.line.now _ c.loop-line.invariant.read (record { cut = c.in-Some.ensures.line; after = c.in-Some.ensures.rest; shorter = c.in-Some.ensures.shorter }) (sym c.is_skipped.ensures ∙ c.if-is_skipped.true);
  reader = c.loop-line.invariant.reader;
}

pub returns-then-is_end-clause-read : goal.returns-then-is_end-clause-read
returns-then-is_end-clause-read c =
    schema_of-end _ (draft_of c.loop-line.reader) c.loop-line.lines _ c.in-Some.line.now _ c.loop-line.invariant.read (record { cut = c.in-Some.ensures.line; after = c.in-Some.ensures.rest; shorter = c.in-Some.ensures.shorter })
    (sym c.is_skipped.ensures ∙ c.if-is_skipped.false) (sym c.is_end.ensures ∙ c.if-is_end.true)

pub returns-in-Err-clause-refused : goal.returns-in-Err-clause-refused
returns-in-Err-clause-refused c =
    rw c.at.ensures
    (HasCause-line _ (draft_of c.loop-line.reader) c.loop-line.lines c.loop-line.rest.now c.in-Some.line.now c.in-Some.behind.now _ c.loop-line.invariant.read (record { cut = c.in-Some.ensures.line; after = c.in-Some.ensures.rest; shorter = c.in-Some.ensures.shorter })
    (sym c.is_skipped.ensures ∙ c.if-is_skipped.false) c.in-Err.ensures.refused)

pub loop-line-preserved : goal.loop-line-preserved
loop-line-preserved c = record {
  read = IsRead-more _ (draft_of c.loop-line.reader) _ _ _ c.in-Some.line.now _ c.loop-line.invariant.read (record { cut = c.in-Some.ensures.line; after = c.in-Some.ensures.rest; shorter = c.in-Some.ensures.shorter })
      (sym c.is_skipped.ensures ∙ c.if-is_skipped.false) c.in_default-take_line.ensures.accepted (sym c.is_end.ensures ∙ c.if-is_end.false) c.in_default-take_line.ensures.made;
  reader = c.in_default-take_line.ensures.reader;
}

pub returns-clause-refused : goal.returns-clause-refused
returns-clause-refused c = schema_of-cut _ (draft_of c.loop-line.reader) c.loop-line.lines c.loop-line.rest.now c.loop-line.invariant.read (c.first_line_of.ensures.empty.0 (search rules))
