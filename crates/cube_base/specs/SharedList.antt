-- Where the items of a list are.
use Rattle.std.specs.Prelude.{◌<◌, List, [], ◌∷◌, length, vec_items}
use Rattle.std.specs.Rc.{rc_value}
use Rattle.cube_base.specs.declared.shared_list.Kept.{Kept}
use Rattle.cube_base.specs.declared.shared_list.Kept.TheVariants.{Nowhere, Here, There}

-- the items, wherever they are
abbrev pub items_of : {A : Type 0} → Kept A → List A
items_of Nowhere = []
items_of (Here items) = items
items_of (There items) = vec_items (rc_value items)

-- only several items are on storage
abbrev pub IsKeptList : {A : Type 0} → Kept A → Type 0
IsKeptList Nowhere = Unit {0}
IsKeptList (Here item) = Unit {0}
IsKeptList (There items) = 1 < length (vec_items (rc_value items))
