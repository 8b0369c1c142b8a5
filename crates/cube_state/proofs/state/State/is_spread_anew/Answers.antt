-- A code that has a group is that of a region, and where this is spread as before, so is the group.
use Rattle.std.proofs.Common.{ap, sym, ◌∙◌}
use Rattle.std.specs.Prelude.{slice_get}
use Rattle.std.specs.Option.{option_copied}
use Rattle.region_algebra.specs.Space.{all_regions}
use Rattle.cube_state.proofs.RegroupSeen.{grouped-seen, kept-seen, named-seen}
use Rattle.cube_state.proofs.state.State.is_spread_anew.Goals as goal

pub unreachable-requires : goal.unreachable-requires
unreachable-requires g c =
    grouped-seen g.P.WeightPolicy.weigh _ _ c.self.view_is c.self.invariant.state c.self.invariant.state.trees c.args.moves.now c.requires.moves c.args.code _ _ c.requires.before c.requires.now _ (c.requires.region ∙ ap (λ s. slice_get (all_regions s.dims) c.args.code) (sym c.self.view_is)) _ c.in-Some-Some.is-1 (ap option_copied c.in_default-region.is)

pub is_kept-requires-clause-region : goal.is_kept-requires-clause-region
is_kept-requires-clause-region g c =
    named-seen g.P.WeightPolicy.weigh _ _ c.self.view_is c.self.invariant.state c.self.invariant.state.trees c.args.moves.now c.requires.moves c.args.code _ _ c.requires.before c.requires.now _ (c.requires.region ∙ ap (λ s. slice_get (all_regions s.dims) c.args.code) (sym c.self.view_is)) _ c.in-Some-Some.is-1 c.in-Some.region.now (ap option_copied c.in-Some.is)

pub returns-then-is_kept : goal.returns-then-is_kept
returns-then-is_kept g c =
    sym (kept-seen g.P.WeightPolicy.weigh _ _ c.self.view_is c.self.invariant.state c.self.invariant.state.trees c.args.moves.now c.requires.moves c.args.code _ _ c.requires.before c.requires.now _ (c.requires.region ∙ ap (λ s. slice_get (all_regions s.dims) c.args.code) (sym c.self.view_is)) _ c.in-Some-Some.is-1
    c.in-Some.region.now (ap option_copied c.in-Some.is) _ c.in-Some-Some.is-0 (c.is_kept.ensures.kept c.if-is_kept.true))
