-- When building a dimension fails.
use Rattle.std.specs.Prelude.{◌≡◌, ◌≢◌, Option, Some}
use Rattle.cube_model.specs.declared.tree.DimFault.{DimFault}
use Rattle.cube_model.specs.declared.tree.DimFault.TheVariants.{Memory}

-- a fault other than out of memory is this one
abbrev pub IsDimCause : Option DimFault → DimFault → Type 0
IsDimCause cause fault = fault ≢ Memory → cause ≡ Some fault
