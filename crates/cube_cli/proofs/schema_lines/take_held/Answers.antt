-- A line is appended, and is the line `end` or not.
use Rattle.std.proofs.Common.{List, ℕ, true, ap, subst, sym, ◌∙◌}
use Rattle.text_lines.specs.Pieces.{Held, rest_of, whole_lines}
use Rattle.cube_cli.specs.SchemaLines.{TookHeld}
use Rattle.cube_cli.proofs.HeldLines.{AreAppended, appended-end, appended-more}
use Rattle.cube_cli.proofs.schema_lines.take_held.Goals as goal

pub returns-then-is_end : goal.returns-then-is_end
returns-then-is_end c =
    let old = c.args.lines.now.lines in
    record {
      took = subst (λ (left : List (List ℕ)). TookHeld (whole_lines old) (rest_of old) c.args.text.now.items c.push_line.new.text.items left true)
          (sym (ap (λ (h : Held). h.lines) c.next_line.follows.holds-at-none))
          (appended-end old c.lines.lines.lines c.args.text.now.items c.lines.text.items c.push_line.new.text.items c.in-Some.line.now
          c.lines.invariant c.in-Some.ensures.line c.in_ok-push_line.ensures (sym c.is_end.ensures ∙ c.if-is_end.true));
    }

pub lines-preserved : goal.lines-preserved
lines-preserved c =
    subst (λ (left : List (List ℕ)). AreAppended c.args.lines.now.lines left c.args.text.now.items c.push_line.new.text.items)
    (sym (ap (λ (h : Held). h.lines) c.next_line.follows.holds-at-none))
    (appended-more c.args.lines.now.lines c.lines.lines.lines c.args.text.now.items c.lines.text.items c.push_line.new.text.items c.in-Some.line.now
    c.lines.invariant c.in-Some.ensures.line c.in_ok-push_line.ensures (sym c.is_end.ensures ∙ c.if-is_end.false))
