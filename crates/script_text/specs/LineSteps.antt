-- What the steps of reading a line result in.
use Rattle.std.specs.Prelude.{◌≡◌, Result, Ok, Err, IsOkAnd}
use Rattle.cube_base.specs.declared.code.Code.{Code}
use Rattle.script_text.specs.declared.line.Line.{Line}
use Rattle.script_text.specs.declared.line.LineFault.{LineFault}
use Rattle.script_text.specs.declared.line.LineFault.TheVariants as fault
use Rattle.script_text.specs.LineOf.{IsGrowth}

-- what is read where this is said: the same, but that it may be out of memory for a line that lets a dimension grow
abbrev pub IsReadOf : Result Line Code → Result Line LineFault → Type 0
IsReadOf said (Ok read) = said ≡ Ok read
IsReadOf said (Err (fault.Code refusal)) = said ≡ Err refusal
IsReadOf said (Err fault.Memory) = IsOkAnd said IsGrowth
