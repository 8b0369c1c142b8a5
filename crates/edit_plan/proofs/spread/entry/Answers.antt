-- The closure gives an entry's code.
use Rattle.std.proofs.Common.{Err, Ok, rules}
use Rattle.std.proofs.lemmas.List.Sorted.{answers_always}
use Rattle.cube_base.proofs.Search.{searched}
use Rattle.edit_plan.proofs.GroupsNow.{Entry, entry-absent, entry-found, no_entry, rises}
use Rattle.edit_plan.proofs.spread.entry.Goals as goal

pub returns-in-Ok : goal.returns-in-Ok
returns-in-Ok c =
    let shown = c.as_slice-groups.result.now in
    let by_code = c.in-Ok.ensures.position (λ (e : Entry). e.0) (answers_always _ _ _ (λ f a r g called. search rules)) in
    let found = searched (λ (e : Entry). e.0) no_entry shown (rises shown c.args.regrouped.now.groups c.as_slice-groups.ensures c.requires) c.args.code (Ok c.in-Ok.at) c.in-Ok.ensures.bound by_code in
    entry-found shown c.args.regrouped.now.groups c.as_slice-groups.ensures c.args.code c.in-Ok.at c.requires c.index-groups-at.result found.found

pub returns-in-Err : goal.returns-in-Err
returns-in-Err c =
    let shown = c.as_slice-groups.result.now in
    let by_code = c.in-Err.ensures.position (λ (e : Entry). e.0) (answers_always _ _ _ (λ f a r g called. search rules)) in
    let found = searched (λ (e : Entry). e.0) no_entry shown (rises shown c.args.regrouped.now.groups c.as_slice-groups.ensures c.requires) c.args.code (Err c.in-Err.field-0) c.in-Err.ensures.bound by_code in
    entry-absent shown c.args.regrouped.now.groups c.as_slice-groups.ensures c.args.code c.in-Err.field-0 found.absent
