-- The entry of the next code is listed where its region lies below.
use Rattle.std.proofs.Common.{◌≡◌, ◌∙◌, ap, get_or, Some, sym, subst, true, false}
use Rattle.std.proofs.lemmas.List.{take_all}
use Rattle.staged_map.specs.Staged.{AreKeys, value_at}
use Rattle.std.specs.Option.{option_copied}
use Rattle.view_store.specs.Rolling.{is_below}
use Rattle.view_store.specs.Views.{AreEntries, ViewMap}
use Rattle.view_store.proofs.CutListing.{listed-whole}
use Rattle.view_store.proofs.CutRegions.{region_at-is}
use Rattle.view_store.proofs.Listing.{below-next, below-same, key-below, keys-are, listed_below}
use Rattle.view_store.proofs.view.View.list_under.Goals as goal
use Rattle.view_store.proofs.view.View.list_under.Goals.{then-is_below+in_ok-terms+in_ok-push, else-is_below}

pub is_below-requires-clause-code : goal.is_below-requires-clause-code
is_below-requires-clause-code c =
    let keys = subst (λ (v : ViewMap). AreKeys v.entries c.as_slice-code-items.result.now) c.self.view_is (subst (AreKeys c.self.inside.entries) (sym c.as_slice-code-items.ensures) c.in_ok-codes.ensures) in
    (key-below c.args.space.now c.args.self.now c.as_slice-code-items.result.now c.loop-code.code-index c.requires.view keys c.loop-code-test.true).0

pub unwrap-region-requires : goal.unwrap-region-requires
unwrap-region-requires c =
    let keys = subst (λ (v : ViewMap). AreKeys v.entries c.as_slice-code-items.result.now) c.self.view_is (subst (AreKeys c.self.inside.entries) (sym c.as_slice-code-items.ensures) c.in_ok-codes.ensures) in
    c.uncode.ensures.none.1 (key-below c.args.space.now c.args.self.now c.as_slice-code-items.result.now c.loop-code.code-index c.requires.view keys c.loop-code-test.true).0

pub loop-code-preserved : goal.loop-code-preserved
loop-code-preserved c =
    let keys = c.as_slice-code-items.result.now in
    let i = c.loop-code.code-index in
    let code = get_or keys i 0 in
    elim c.if-is_below.branch [
      | then-is_below+in_ok-terms+in_ok-push w ↦
          let inside : is_below c.args.space.now c.args.r code ≡ true = sym c.is_below.ensures ∙ w.if-is_below.true in
          let region = region_at-is c.args.space.now code w.unwrap-region.result (sym w.uncode.ensures.region ∙ w.unwrap-region.ensures) in
          let held : value_at c.self.inside.entries code ≡ Some w.in_ok-terms.terms = sym w.get.ensures ∙ ap option_copied w.unwrap.ensures ∙ ap Some (sym w.in_ok-terms.ensures.copy) in
          let has : value_at c.args.self.now.entries code ≡ Some w.in_ok-terms.terms = subst (λ (v : ViewMap). value_at v.entries code ≡ Some w.in_ok-terms.terms) c.self.view_is held in
          ap (λ list. list.items) w.list-is ∙ below-next c.args.space.now c.args.self.now c.args.r keys i c.loop-code.list.items c.loop-code-test.true c.loop-code.invariant inside w.push.new.self.items w.unwrap-region.result w.in_ok-terms.terms (sym region) has w.in_ok-push.ensures.items
      | else-is_below w ↦
          let outside : is_below c.args.space.now c.args.r code ≡ false = sym c.is_below.ensures ∙ w.if-is_below.false in
          ap (λ list. list.items) w.list-is ∙ below-same c.args.space.now c.args.self.now c.args.r keys i c.loop-code.list.items c.loop-code-test.true c.loop-code.invariant outside
    ]

pub returns-clause-entries : goal.returns-clause-entries
returns-clause-entries c =
    let keys = subst (λ (v : ViewMap). AreKeys v.entries c.as_slice-code-items.result.now) c.self.view_is (subst (AreKeys c.self.inside.entries) (sym c.as_slice-code-items.ensures) c.in_ok-codes.ensures) in
    c.from.ensures ∙ c.loop-code.invariant
    ∙ ap (listed_below c.args.space.now c.args.self.now c.args.r) (take_all c.loop-code.code-index c.as_slice-code-items.result.now c.loop-code-test.false ∙ keys-are c.args.space.now c.args.self.now c.as_slice-code-items.result.now c.requires.view keys)

-- each entry that is kept has a term
pub returns-clause-whole : goal.returns-clause-whole
returns-clause-whole c = listed-whole c.args.space.now c.args.self.now (subst (λ (v : ViewMap). AreEntries v.columns v.entries) c.self.view_is c.self.invariant)
