-- A piece is taken behind the input so far.
use Rattle.std.proofs.Common.{◌≡◌, ℕ, Bool, true, false, ◌++◌, length, drop, ap, sym, ◌∙◌, subst, arith, length-append}
use Rattle.std.specs.Io.KnownBytes.{Consumes}
use Rattle.std.proofs.KnownBytes.{Consumes-trans}
use Rattle.std.proofs.lemmas.List.{length-take, take-append-drop}
use Rattle.text_lines.specs.Input.{ends_if}
use Rattle.text_lines.proofs.input.take_input.Goals as goal

-- an input that had not ended gave bytes until now
ends_on : (was is : Bool) (start here later : ℕ) → was ≡ false → here ≡ ends_if was start → later ≡ ends_if is here → later ≡ ends_if is start
ends_on false is start here later more here_is later_is = later_is ∙ ap (ends_if is) here_is
ends_on true is start here later more here_is later_is = absurd (cc)

pub pieces-preserved : goal.pieces-preserved
pieces-preserved g c =
    let reads = c.in_ok-take_piece.ensures.bytes in
    let start = (g.S.Source.tells c.args.source.now).left in
    let here = (g.S.Source.tells c.pieces.source).left in
    let later = (g.S.Source.tells c.take_piece.new.source).left in
    let before = c.pieces.input.bytes.items in
    let after = c.take_piece.new.self.bytes.items in
    let whole : before ++ drop (length before) after ≡ after = ap (λ l. l ++ drop (length before) after) (sym reads.front) ∙ take-append-drop (length before) after in
    let filled = c.take_piece.new.buffer in
    let left = drop (length filled) c.pieces.buffer.items in
    let count : length c.deref_mut.result.now ≡ c.pieces.buffer.len = c.deref_mut.ensures.len in
    record {
      bytes = subst (Consumes start later) whole (Consumes-trans start here later before (drop (length before) after) c.pieces.invariant.bytes reads.bytes);
      count = c.in_ok-take_piece.ensures.count ∙ c.pieces.invariant.count;
      room = omega (arith, length-take c.pieces.buffer.len (filled ++ left), length-append filled left, c.in_ok-take_piece.ensures.buffer, count, ap length c.deref_mut.ensures.value, c.pieces.invariant.room);
      within = reads.within;
      ends = ends_on c.pieces.input.is_ended c.take_piece.new.self.is_ended _ _ _ c.pieces-test.true c.pieces.invariant.ends c.in_ok-take_piece.ensures.ends;
      end = reads.end;
    }
