-- Where the items of a list of two at most are.
use Rattle.std.specs.Prelude.{List, []}
use Rattle.touched_cells.specs.declared.few.Kept.{Kept}
use Rattle.touched_cells.specs.declared.few.Kept.TheVariants.{None, One, Two}

abbrev pub items_of : {A : Type 0} → Kept A → List A
items_of None = []
items_of (One items) = items
items_of (Two items) = items
