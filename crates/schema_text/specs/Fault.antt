-- Why reading a schema fails.
use Rattle.std.specs.Prelude.{◌≡◌, ℕ, List, Option, Some, Err, ⊤}
use Rattle.cube_base.specs.declared.code.Code.{Code}
use Rattle.cube_base.specs.declared.code.Code.TheVariants as code
use Rattle.cube_model.specs.declared.tree.DimFault.{DimFault}
use Rattle.cube_model.specs.declared.tree.DimFault.TheVariants as dim_fault
use Rattle.schema_text.specs.declared.fault.LineFault.{LineFault}
use Rattle.schema_text.specs.declared.fault.LineFault.TheVariants as line_fault
use Rattle.schema_text.specs.declared.schema.SchemaFault.{SchemaFault}
use Rattle.schema_text.specs.declared.schema.SchemaFault.TheVariants.{Bad, Memory}
use Rattle.schema_text.specs.SchemaText.{schema_of}

-- a fault other than out of memory is that of the text
abbrev pub HasCause : List ℕ → SchemaFault → Type 0
HasCause text (Bad line code) = schema_of text ≡ Err (record { line = line; reason = code })
HasCause text Memory = ⊤

-- a fault of a line other than out of memory is this one
abbrev pub IsCause : Option Code → LineFault → Type 0
IsCause cause (line_fault.Refused code) = cause ≡ Some code
IsCause cause line_fault.Memory = ⊤

-- why nodes that may be refused for their numbers alone are no dimension
abbrev pub of_numbers : DimFault → LineFault
of_numbers dim_fault.Memory = line_fault.Memory
of_numbers fault = line_fault.Refused code.Number

-- the fault, at a line of this number
abbrev pub at_line : ℕ → LineFault → SchemaFault
at_line line (line_fault.Refused code) = Bad line code
at_line line line_fault.Memory = Memory
