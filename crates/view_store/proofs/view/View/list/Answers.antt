-- The entry of the next code is listed.
use Rattle.std.proofs.Common.{◌≡◌, ◌∙◌, ap, get_or, Some, sym, subst}
use Rattle.std.proofs.lemmas.List.{take_all}
use Rattle.staged_map.specs.Staged.{AreKeys, value_at}
use Rattle.std.specs.Option.{option_copied}
use Rattle.std.specs.Prelude.{All}
use Rattle.view_store.specs.Views.{AreEntries, ViewMap}
use Rattle.view_store.proofs.CutListing.{HasTerms, listed-whole}
use Rattle.view_store.proofs.CutRegions.{region_at-is}
use Rattle.view_store.proofs.Listing.{key-below, keys-are, listed-next, listed_first}
use Rattle.view_store.proofs.view.View.list.Goals as goal

pub unwrap-region-requires : goal.unwrap-region-requires
unwrap-region-requires c =
    let keys = subst (λ (v : ViewMap). AreKeys v.entries c.as_slice-code-items.result.now) c.self.view_is (subst (AreKeys c.self.inside.entries) (sym c.as_slice-code-items.ensures) c.in_ok-codes.ensures) in
    c.uncode.ensures.none.1 (key-below c.args.space.now c.args.self.now c.as_slice-code-items.result.now c.loop-code.code-index c.requires keys c.loop-code-test.true).0

pub loop-code-preserved : goal.loop-code-preserved
loop-code-preserved c =
    let code = get_or c.as_slice-code-items.result.now c.loop-code.code-index 0 in
    let region = region_at-is c.args.space.now code c.unwrap-region.result (sym c.uncode.ensures.region ∙ c.unwrap-region.ensures) in
    let held : value_at c.self.inside.entries code ≡ Some c.in_ok-terms.terms = sym c.get.ensures ∙ ap option_copied c.unwrap.ensures ∙ ap Some (sym c.in_ok-terms.ensures.copy) in
    let has : value_at c.args.self.now.entries code ≡ Some c.in_ok-terms.terms = subst (λ (v : ViewMap). value_at v.entries code ≡ Some c.in_ok-terms.terms) c.self.view_is held in
    listed-next c.args.space.now c.args.self.now c.as_slice-code-items.result.now c.loop-code.code-index c.loop-code.list.items c.push.new.self.items c.unwrap-region.result c.in_ok-terms.terms c.loop-code-test.true
    c.loop-code.invariant (sym region) has c.in_ok-push.ensures.items

pub returns-clause-entries : goal.returns-clause-entries
returns-clause-entries c =
    let keys = subst (λ (v : ViewMap). AreKeys v.entries c.as_slice-code-items.result.now) c.self.view_is (subst (AreKeys c.self.inside.entries) (sym c.as_slice-code-items.ensures) c.in_ok-codes.ensures) in
    c.from.ensures ∙ c.loop-code.invariant ∙ ap (listed_first c.args.space.now c.args.self.now) (take_all c.loop-code.code-index c.as_slice-code-items.result.now c.loop-code-test.false ∙ keys-are c.args.space.now c.args.self.now c.as_slice-code-items.result.now c.requires keys)

-- each entry that is kept has a term
pub returns-clause-whole : goal.returns-clause-whole
returns-clause-whole c =
    let whole = subst (λ (v : ViewMap). AreEntries v.columns v.entries) c.self.view_is c.self.invariant in
    subst (All HasTerms) (sym (returns-clause-entries c)) (listed-whole c.args.space.now c.args.self.now whole)
