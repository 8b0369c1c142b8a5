-- The entries are the drafts, over no entries.
use Rattle.std.proofs.Common.{[], ◌∷◌, ap, refl, subst, sym, ◌∙◌}
use Rattle.view_store.specs.Changes.{FitsView}
use Rattle.view_store.specs.Drafts.{put_at}
use Rattle.view_store.specs.Views.{ViewMap}
use Rattle.view_store.proofs.Drafting.{rows-held, spread-of}
use Rattle.view_store.proofs.Putting.{adds-ok, change-one, fits-drafts}
use Rattle.view_store.proofs.view.View.put.Goals as goal

pub add_spread-requires-clause-over : goal.add_spread-requires-clause-over
add_spread-requires-clause-over c =
    let dims = c.args.cuts.now.dims in
    let change = put_at dims c.args.code c.args.share.now c.args.rows.now in
    let fits = subst (FitsView dims (change ∷ [])) (sym c.self.view_is) c.requires.fits in
    let one = change-one dims c.self.inside.depths c.self.inside.columns c.self.inside.entries change c.self.invariant fits refl in
    rows-held dims c.args.cuts.now.depths c.self.inside.columns change c.over_code.result one c.over_code.ensures.over

pub add_spread-requires-clause-spread : goal.add_spread-requires-clause-spread
add_spread-requires-clause-spread c =
    let dims = c.args.cuts.now.dims in
    let change = put_at dims c.args.code c.args.share.now c.args.rows.now in
    let fits = subst (FitsView dims (change ∷ [])) (sym c.self.view_is) c.requires.fits in
    spread-of dims c.self.inside.columns change (change-one dims c.self.inside.depths c.self.inside.columns c.self.inside.entries change c.self.invariant fits refl)

pub add_spread-requires-clause-within : goal.add_spread-requires-clause-within
add_spread-requires-clause-within c =
    let dims = c.args.cuts.now.dims in
    let change = put_at dims c.args.code c.args.share.now c.args.rows.now in
    let fits = subst (FitsView dims (change ∷ [])) (sym c.self.view_is) c.requires.fits in
    fits-drafts dims c.self.inside.depths c.self.inside.columns c.self.inside.entries change c.self.invariant fits refl c.no_entries.result.now c.args.cuts.now.depths c.no_entries.ensures (c.requires.cuts ∙ sym (ap (λ (view : ViewMap). view.depths) c.self.view_is))

pub returns : goal.returns
returns c =
    let dims = c.args.cuts.now.dims in
    let change = put_at dims c.args.code c.args.share.now c.args.rows.now in
    let fits = subst (FitsView dims (change ∷ [])) (sym c.self.view_is) c.requires.fits in
    adds-ok dims c.self.inside.depths c.self.inside.columns c.self.inside.entries change c.self.invariant fits refl c.no_entries.result.now c.args.cuts.now.depths c.no_entries.ensures (c.requires.cuts ∙ sym (ap (λ (view : ViewMap). view.depths) c.self.view_is))
    c.add_spread.new.drafts c.add_spread.result c.add_spread.ensures.shares c.add_spread.ensures.keys c.add_spread.ensures.over c.args.self.now c.self.view_is c.requires.view
