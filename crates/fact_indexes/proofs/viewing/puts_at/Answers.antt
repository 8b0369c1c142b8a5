-- The group of the next code is put.
use Rattle.std.proofs.Common.{◌∙◌, ◌++◌, List, ap, get_or, subst, sym, take, true}
use Rattle.std.specs.Option.{option_copied}
use Rattle.std.proofs.lemmas.List.{take_more}
use Rattle.view_store.specs.declared.change.ViewChange.{ViewChange}
use Rattle.fact_indexes.specs.ViewChanges.{IsOfRegion, group_changes, puts_at}
use Rattle.fact_indexes.proofs.PutGroups.{puts-more}
use Rattle.fact_indexes.proofs.viewing.puts_at.Goals as goal

pub push_change-requires : goal.push_change-requires
push_change-requires c =
    let code = get_or c.args.codes.now c.loop-code.code-index 0 in
    subst (IsOfRegion c.args.space.now code) (sym c.get.ensures) (c.requires code)

pub loop-code-preserved : goal.loop-code-preserved
loop-code-preserved c =
    let dims = c.args.space.now in
    let groups = c.args.groups.now in
    let done = take c.loop-code.code-index c.args.codes.now in
    let code = get_or c.args.codes.now c.loop-code.code-index 0 in
    c.in_ok-push_change.ensures
    ∙ ap (λ (changes : List ViewChange). changes ++ group_changes true dims code (option_copied c.get.result)) c.loop-code.invariant
    ∙ ap (λ o. puts_at dims groups done ++ group_changes true dims code o) c.get.ensures
    ∙ sym (puts-more dims groups done code)
    ∙ ap (puts_at dims groups) (sym (take_more c.args.codes.now c.loop-code.code-index 0 c.loop-code-test.true))
