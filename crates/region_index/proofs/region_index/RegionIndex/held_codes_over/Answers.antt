-- The walk begins before the first dimension, with nothing found.
use Rattle.std.proofs.Common.{◌∙◌, sym, subst}
use Rattle.region_index.specs.Content.{AreAscending}
use Rattle.region_index.proofs.Walking.{AreAscending-held, Probes-over, on_err, steps-over, way-start}
use Rattle.region_index.proofs.region_index.RegionIndex.held_codes_over.Goals as goal

pub over-requires : goal.over-requires
over-requires g c = way-start _ _ c.cell_at.ensures.region c.dims.ensures.trees c.dims.ensures.accepted

pub returns-in_err-over-clause-err : goal.returns-in_err-over-clause-err
returns-in_err-over-clause-err g c = on_err _ (steps-over _ _ _ _ _ c.cell_at.ensures.cell c.in_err-over.ensures.err)

pub returns-clause-codes : goal.returns-clause-codes
returns-clause-codes g c =
    c.from.ensures ∙ (Probes-over _ _ _ _ _ _ _ _ _ c.self.view_is c.cell_at.ensures.cell c.new-found.ensures.items c.in_ok-over.ensures.ok).found

pub returns-clause-ascending : goal.returns-clause-ascending
returns-clause-ascending g c =
    subst AreAscending (sym (returns-clause-codes g c)) (AreAscending-held c.args.self.now c.args.space.now c.args.cell)

pub returns-clause-steps : goal.returns-clause-steps
returns-clause-steps g c = (Probes-over _ _ _ _ _ _ _ _ _ c.self.view_is c.cell_at.ensures.cell c.new-found.ensures.items c.in_ok-over.ensures.ok).steps
