-- The keys are the codes of the entries.
use Rattle.std.proofs.Common.{◌≡◌, sym, subst}
use Rattle.std.specs.Prelude.{IfOk}
use Rattle.staged_map.specs.Staged.{AreKeys}
use Rattle.view_store.specs.Rolling.{AreCodes, FitsBelow}
use Rattle.view_store.specs.Views.{ViewMap}
use Rattle.view_store.proofs.Listing.{keys-are}
use Rattle.view_store.proofs.RollingUp.{keys-codes, merged, rolled-from}
use Rattle.view_store.proofs.view.View.roll_up.Goals as goal

pub merge_below-requires-clause-codes : goal.merge_below-requires-clause-codes
merge_below-requires-clause-codes c =
    let keys = subst (λ (v : ViewMap). AreKeys v.entries c.as_slice.result.now) c.self.view_is (subst (AreKeys c.self.inside.entries) (sym c.as_slice.ensures) c.in_ok-codes.ensures) in
    let codes = keys-codes c.args.space.now c.args.self.now c.as_slice.result.now c.requires.view keys in
    subst (λ (v : ViewMap). AreCodes c.args.space.now v.entries c.as_slice.result.now) (sym c.self.view_is) codes

pub merge_below-requires-clause-within : goal.merge_below-requires-clause-within
merge_below-requires-clause-within c =
    let keys = subst (λ (v : ViewMap). AreKeys v.entries c.as_slice.result.now) c.self.view_is (subst (AreKeys c.self.inside.entries) (sym c.as_slice.ensures) c.in_ok-codes.ensures) in
    let same = keys-are c.args.space.now c.args.self.now c.as_slice.result.now c.requires.view keys in
    let fits = subst (FitsBelow c.args.self.now.columns c.args.space.now c.args.r c.args.self.now.entries) (sym same) c.requires.within in
    subst (λ (v : ViewMap). FitsBelow v.columns c.args.space.now c.args.r v.entries c.as_slice.result.now) (sym c.self.view_is) fits

pub returns : goal.returns
returns c =
    let keys = subst (λ (v : ViewMap). AreKeys v.entries c.as_slice.result.now) c.self.view_is (subst (AreKeys c.self.inside.entries) (sym c.as_slice.ensures) c.in_ok-codes.ensures) in
    let same = keys-are c.args.space.now c.args.self.now c.as_slice.result.now c.requires.view keys in
    rolled-from c.args.space.now c.args.self.now c.args.r c.as_slice.result.now c.merge_below.result same (subst (λ (v : ViewMap). IfOk c.merge_below.result (λ terms. terms ≡ merged v.columns c.args.space.now c.args.r v.entries c.as_slice.result.now)) c.self.view_is c.merge_below.ensures)
