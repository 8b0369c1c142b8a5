-- What a line cutter holds once the borrow of a line has ended.
use Rattle.std.specs.Prelude.{◌≡◌}
use Rattle.std.specs.Borrow.{Fml, MutBor}
use Rattle.std.specs.Io.BufRead.{Rests}
use Rattle.text_lines.specs.Pieces.{Held}
use Rattle.text_lines.specs.contracts.line_cutter.LineCutter.{the_row}

-- the cutter holds this in the end
abbrev pub EndsAs : MutBor Held → Held → Fml
EndsAs cutter held = Rests the_row cutter (λ last. last ≡ held)
