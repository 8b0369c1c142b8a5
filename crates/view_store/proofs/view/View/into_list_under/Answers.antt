-- The entry of the next code is taken out and listed where its region lies below.
use Rattle.std.proofs.Common.{◌≡◌, ◌∙◌, ap, get_or, Some, sym, subst, true, false, is_some, arith}
use Rattle.std.proofs.lemmas.List.{take_all}
use Rattle.staged_map.specs.Staged.{value_at}
use Rattle.view_store.specs.Rolling.{is_below}
use Rattle.view_store.specs.Views.{AreEntries, ViewMap}
use Rattle.view_store.proofs.CutListing.{listed-whole}
use Rattle.view_store.proofs.CutRegions.{region_at-is}
use Rattle.view_store.proofs.Keeping.{ahead-here, ahead-next, ahead-same}
use Rattle.view_store.proofs.Listing.{below-next, below-same, key-below, keys-are, listed_below}
use Rattle.view_store.proofs.view.View.into_list_under.Goals as goal
use Rattle.view_store.proofs.view.View.into_list_under.Goals.{then-is_below+in_ok-push, else-is_below}

pub is_below-requires-clause-code : goal.is_below-requires-clause-code
is_below-requires-clause-code c =
    (key-below c.args.space.now c.args.self c.as_slice-code-items.result.now c.loop-code.code-index c.requires.view c.loop-code.invariant.ahead.keys c.loop-code-test.true).0

pub unwrap-region-requires : goal.unwrap-region-requires
unwrap-region-requires c =
    c.uncode.ensures.none.1 (key-below c.args.space.now c.args.self c.as_slice-code-items.result.now c.loop-code.code-index c.requires.view c.loop-code.invariant.ahead.keys c.loop-code-test.true).0

-- nothing was taken out there yet
pub unwrap-terms-requires : goal.unwrap-terms-requires
unwrap-terms-requires c =
    let keys = c.as_slice-code-items.result.now in
    let i = c.loop-code.code-index in
    let here = ahead-here c.args.self.entries keys i c.loop-code-test.true c.loop-code.entries c.loop-code.invariant.ahead in
    let there : is_some c.remove.result ≡ true = ap is_some (c.remove.ensures.had ∙ here) ∙ (key-below c.args.space.now c.args.self keys i c.requires.view c.loop-code.invariant.ahead.keys c.loop-code-test.true).1 in
    grind (arith, there)

pub loop-code-preserved : goal.loop-code-preserved
loop-code-preserved c =
    let keys = c.as_slice-code-items.result.now in
    let i = c.loop-code.code-index in
    let code = get_or keys i 0 in
    let before = c.loop-code.invariant in
    elim c.if-is_below.branch [
      | then-is_below+in_ok-push w ↦
          let inside : is_below c.args.space.now c.args.r code ≡ true = sym c.is_below.ensures ∙ w.if-is_below.true in
          let region = region_at-is c.args.space.now code w.unwrap-region.result (sym w.uncode.ensures.region ∙ w.unwrap-region.ensures) in
          let has : value_at c.args.self.entries code ≡ Some w.unwrap-terms.result =
          sym (ahead-here c.args.self.entries keys i c.loop-code-test.true c.loop-code.entries before.ahead) ∙ sym w.remove.ensures.had ∙ w.unwrap-terms.ensures in
          record {
            listed = ap (λ list. list.items) w.list-is
                ∙ below-next c.args.space.now c.args.self c.args.r keys i c.loop-code.list.items c.loop-code-test.true before.listed inside w.push.new.self.items w.unwrap-region.result w.unwrap-terms.result (sym region) has w.in_ok-push.ensures.items;
            ahead = rw w.entries-is (ahead-next c.args.self.entries keys i c.loop-code-test.true c.loop-code.entries w.remove.new.self before.ahead w.remove.ensures.removes);
          }
      | else-is_below w ↦
          let outside : is_below c.args.space.now c.args.r code ≡ false = sym c.is_below.ensures ∙ w.if-is_below.false in
          record {
            listed = ap (λ list. list.items) w.list-is ∙ below-same c.args.space.now c.args.self c.args.r keys i c.loop-code.list.items c.loop-code-test.true before.listed outside;
            ahead = rw w.entries-is (ahead-same c.args.self.entries keys i c.loop-code-test.true c.loop-code.entries before.ahead);
          }
    ]

pub returns-clause-entries : goal.returns-clause-entries
returns-clause-entries c =
    c.from.ensures ∙ c.loop-code.invariant.listed
    ∙ ap (listed_below c.args.space.now c.args.self c.args.r)
    (take_all c.loop-code.code-index c.as_slice-code-items.result.now c.loop-code-test.false ∙ keys-are c.args.space.now c.args.self c.as_slice-code-items.result.now c.requires.view c.loop-code.invariant.ahead.keys)

-- each entry that is kept has a term
pub returns-clause-whole : goal.returns-clause-whole
returns-clause-whole c = listed-whole c.args.space.now c.args.self (subst (λ (v : ViewMap). AreEntries v.columns v.entries) c.self.view_is c.self.invariant)
