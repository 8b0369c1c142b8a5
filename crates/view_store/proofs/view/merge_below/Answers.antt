-- The next entry is merged where its region lies below.
use Rattle.std.proofs.Common.{◌≡◌, ◌∙◌, ap, get_or, Some, sym, true, false}
use Rattle.std.specs.Option.{option_copied}
use Rattle.staged_map.specs.Staged.{value_at}
use Rattle.view_store.specs.Rolling.{is_below}
use Rattle.view_store.proofs.RollingUp.{entry-fits, merged-with, merged-without}
use Rattle.view_store.proofs.view.merge_below.Goals as goal
use Rattle.view_store.proofs.view.merge_below.Goals.{then-is_below+in_ok-add, else-is_below}

pub add-requires-clause-within : goal.add-requires-clause-within
add-requires-clause-within c =
    let inside : is_below c.args.space.now c.args.r (get_or c.args.codes.now c.loop-code.code-index 0) ≡ true = sym c.is_below.ensures ∙ c.if-is_below.true in
    let has : value_at c.args.entries.now (get_or c.args.codes.now c.loop-code.code-index 0) ≡ Some c.unwrap.result.now = sym c.get.ensures ∙ ap option_copied c.unwrap.ensures in
    rw c.loop-code.invariant (entry-fits c.args.columns c.args.space.now c.args.r c.args.entries.now c.requires.entries c.args.codes.now c.loop-code.code-index c.loop-code-test.true c.requires.within inside c.unwrap.result.now has)

pub loop-code-preserved : goal.loop-code-preserved
loop-code-preserved c =
    elim c.if-is_below.branch [
      | then-is_below+in_ok-add w ↦
          let inside : is_below c.args.space.now c.args.r (get_or c.args.codes.now c.loop-code.code-index 0) ≡ true = sym c.is_below.ensures ∙ w.if-is_below.true in
          let has : value_at c.args.entries.now (get_or c.args.codes.now c.loop-code.code-index 0) ≡ Some w.unwrap.result.now = sym w.get.ensures ∙ ap option_copied w.unwrap.ensures in
          w.all-is ∙ merged-with c.args.columns c.args.space.now c.args.r c.args.entries.now c.requires.entries c.args.codes.now c.loop-code.code-index c.loop-code-test.true inside c.loop-code.all w.unwrap.result.now w.add.new.self c.loop-code.invariant has w.in_ok-add.ensures.ok
      | else-is_below w ↦
          let outside : is_below c.args.space.now c.args.r (get_or c.args.codes.now c.loop-code.code-index 0) ≡ false = sym c.is_below.ensures ∙ w.if-is_below.false in
          w.all-is ∙ merged-without c.args.columns c.args.space.now c.args.r c.args.entries.now c.requires.entries c.args.codes.now c.loop-code.code-index c.loop-code-test.true outside c.loop-code.all c.loop-code.invariant
    ]
