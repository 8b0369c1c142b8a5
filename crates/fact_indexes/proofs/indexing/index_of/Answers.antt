-- What the places of the facts make of an index in which nothing is held is an index of the facts.
use Rattle.std.proofs.Common.{◌∙◌}
use Rattle.fact_indexes.proofs.Placed.{Indexes-placed}
use Rattle.fact_indexes.proofs.indexing.index_of.Goals as goal

pub returns : goal.returns
returns c =
    let placed = c.in_ok-stage.ensures.changes.0 ∙ c.deref.ensures.value ∙ c.in_ok-places.ensures in
    Indexes-placed c.args.space.now c.args.facts.now.facts c.requires.ascending _ _ _ _ _ c.new-index.ensures c.stage.ensures.content placed c.install.ensures.applies
