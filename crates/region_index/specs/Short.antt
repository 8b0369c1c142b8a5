-- Where the items of a list are that may be short.
use Rattle.std.specs.Prelude.{List, vec_items}
use Rattle.std.specs.Option.{option_to_list}
use Rattle.region_index.specs.declared.short.Short.{Short}
use Rattle.region_index.specs.declared.short.Short.TheVariants.{One, Many}

abbrev pub items_of : {A : Type 0} → Short A → List A
items_of (One item) = option_to_list item
items_of (Many items) = vec_items items
