-- The codes over the cells that are reweighed, and those of the facts that are taken and given.
use Rattle.std.proofs.Common.{◌∙◌, ◌<◌, List, ap, length, subst, sym, false}
use Rattle.std.specs.Prelude.{All, ◌||◌}
use Rattle.std.specs.Option.{option_map_or}
use Rattle.cube_model.specs.Cells.{all_cells, is_among}
use Rattle.alloc_rows.specs.Changed.{Change}
use Rattle.fact_groups.specs.Groups.{has_code}
use Rattle.region_index.specs.Content.{AreAscending}
use Rattle.cube_state.specs.Covering.{is_over_one}
use Rattle.cube_state.specs.State.{policy_in}
use Rattle.cube_state.proofs.Covering.{cells-within, hold-changed, is-coded}
use Rattle.cube_state.proofs.state.State.codes.Goals as goal

pub codes_over-requires : goal.codes_over-requires
codes_over-requires g c =
    subst (λ (cs : List Change). All (λ change. change.0 < length (all_cells c.args.self.now.dims)) cs) (sym c.as_slice.ensures.items)
    (cells-within (policy_in g.P.WeightPolicy.weigh c.args.self.now) c.args.self.now.shape c.args.self.now.dims c.args.self.now.facts c.args.moves.now c.requires c.facts.ensures.valid)

pub returns-clause-codes : goal.returns-clause-codes
returns-clause-codes g c =
    hold-changed (policy_in g.P.WeightPolicy.weigh c.args.self.now) c.args.self.now.shape c.args.self.now.dims c.args.self.now.facts c.args.moves.now c.requires c.facts.ensures.valid _ _
    (subst AreAscending (sym c.from.ensures) c.sort_distinct.ensures.ascending)
    (λ code.
    ap (λ cs. is_among cs code) c.from.ensures ∙ c.sort_distinct.ensures.same code ∙ c.in_ok-all.ensures code
    ∙ ap (λ b. is_among c.in_ok-taken.taken.items code || b) (is-coded c.args.self.now.dims code c.args.moves.now.given c.args.moves.now.given_code c.requires.given_at)
    ∙ ap (λ b. b || option_map_or (has_code c.args.self.now.dims code) c.args.moves.now.given false)
    (c.in_ok-taken.ensures code
    ∙ ap (λ b. is_among c.in_ok-over.over.items code || b) (is-coded c.args.self.now.dims code c.args.moves.now.taken c.args.moves.now.taken_code c.requires.taken_at)
    ∙ ap (λ b. b || option_map_or (has_code c.args.self.now.dims code) c.args.moves.now.taken false) (c.in_ok-over.ensures.codes code ∙ ap (λ (cs : List Change). is_over_one c.args.self.now.dims cs c.args.self.now.facts code) c.as_slice.ensures.items)))
