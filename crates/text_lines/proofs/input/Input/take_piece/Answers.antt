use Rattle.std.proofs.Common.{◌≡◌, ◌++◌, length, take, arith, length-append}
use Rattle.std.proofs.KnownBytes.{Consumes-trans}
use Rattle.std.proofs.lemmas.List.{length-take, length-take-le}
use Rattle.text_lines.proofs.input.Input.take_piece.Goals as goal

pub returns-then-len-left-clause-stopped : goal.returns-then-len-left-clause-stopped
returns-then-len-left-clause-stopped g c = λ start before.
    let piece = take c.in-Ok.len c.read.new.into in
    let len : length piece ≡ c.in-Ok.len = length-take-le c.in-Ok.len c.read.new.into c.in-Ok.ensures.within in (
      record {
        input = c.args.self.now.bytes.items ++ piece;
        bytes = Consumes-trans start (g.S.Source.tells c.args.source.now).left (g.S.Source.tells c.read.new.self).left c.args.self.now.bytes.items piece before c.in-Ok.ensures.bytes.0;
        above = omega (arith, len, length-append c.args.self.now.bytes.items piece, c.in-Ok.ensures.within, length-take c.min-room.result c.args.buffer.now);
      },
      c.in-Ok.ensures.count,
    )

pub returns-then-is_err-clause-stopped : goal.returns-then-is_err-clause-stopped
returns-then-is_err-clause-stopped g c = λ start before.
    let piece = take c.in-Ok.len c.read.new.into in
    let len : length piece ≡ c.in-Ok.len = length-take-le c.in-Ok.len c.read.new.into c.in-Ok.ensures.within in (
      record {
        input = c.args.self.now.bytes.items ++ piece;
        bytes = Consumes-trans start (g.S.Source.tells c.args.source.now).left (g.S.Source.tells c.read.new.self).left c.args.self.now.bytes.items piece before c.in-Ok.ensures.bytes.0;
        few = omega (arith, len, length-append c.args.self.now.bytes.items piece);
      },
      c.in-Ok.ensures.count,
    )
