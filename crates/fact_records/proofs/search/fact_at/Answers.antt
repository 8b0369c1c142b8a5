use Rattle.std.proofs.Common.{refl, sym}
use Rattle.std.proofs.lemmas.Option.{get_or_from_slice_get}
use Rattle.fact_records.proofs.BlockPlaces.{read_at}
use Rattle.fact_records.proofs.search.fact_at.Goals as goal

pub returns : goal.returns
returns c = read_at c.args.used.now c.args.place.block c.args.place.at _ _ _ c.requires c.index-used-place.is refl (sym (get_or_from_slice_get c.index-used-place.result c.args.place.at _ c.get.result c.get.ensures))
