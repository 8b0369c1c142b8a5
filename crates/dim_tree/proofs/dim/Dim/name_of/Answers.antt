use Rattle.std.proofs.Common.{string_bytes, Some, sym, ap, ◌∙◌, option_map, arith}
use Rattle.std.proofs.lemmas.Option.{slice_get-map}
use Rattle.std.proofs.lemmas.List.{length-map}
use Rattle.dim_tree.proofs.Kept.{kept}
use Rattle.dim_tree.proofs.dim.Dim.name_of.Goals as goal

pub index-requires : goal.index-requires
index-requires c = grind (arith, length-map c.self.inside.names.keys string_bytes, (kept c.self.invariant c.self.view_is).room_names)

pub returns : goal.returns
returns c =
    let its = kept c.self.invariant c.self.view_is in
    (its.name_kept c.args.n c.place.result c.place.ensures.place).0 ∙ slice_get-map string_bytes c.self.inside.names.keys c.place.result ∙ ap (option_map string_bytes) c.index.ensures ∙ ap Some (sym c.as_str.ensures.value)
