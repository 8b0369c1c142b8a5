-- What is moved out is kept.
use Rattle.std.proofs.Common.{◌≡◌, ◌++◌, ◌∙◌, ap, arith, drop, length, map, subst, sym, take}
use Rattle.std.proofs.lemmas.List.{length-map, take-append-le, take_all}
use Rattle.staged_map.specs.Staged.{AreOfDifferentKeys, staged_entry}
use Rattle.view_store.specs.Drafts.{kept_entry}
use Rattle.view_store.proofs.Keeping.{AreKept-moved, distinct-kept}
use Rattle.view_store.proofs.drafts.entries_of.Goals as goal

pub returns-clause-each : goal.returns-clause-each
returns-clause-each c =
    let new = c.keep_each.new.entries in
    let items = c.in_ok-entries.entries.items in
    let len = c.in_ok-entries.entries.len in
    let long : length new ≡ len = ap length c.keep_each.ensures ∙ length-map c.as_mut_slice.result.now kept_entry ∙ c.as_mut_slice.ensures.len in
    let all : take len (new ++ drop (length new) items) ≡ new = take-append-le len new (drop (length new) items) (omega (arith, long)) ∙ take_all len new (omega (arith, long)) in
    let is : take len (new ++ drop (length new) items) ≡ map kept_entry items = all ∙ c.keep_each.ensures ∙ ap (map kept_entry) c.as_mut_slice.ensures.value in
    λ code. ap (λ entries. staged_entry entries code) is ∙ AreKept-moved c.args.drafts.now items c.in_ok-entries.ensures.each code

pub returns-clause-distinct : goal.returns-clause-distinct
returns-clause-distinct c =
    let new = c.keep_each.new.entries in
    let items = c.in_ok-entries.entries.items in
    let len = c.in_ok-entries.entries.len in
    let long : length new ≡ len = ap length c.keep_each.ensures ∙ length-map c.as_mut_slice.result.now kept_entry ∙ c.as_mut_slice.ensures.len in
    let all : take len (new ++ drop (length new) items) ≡ new = take-append-le len new (drop (length new) items) (omega (arith, long)) ∙ take_all len new (omega (arith, long)) in
    let is : take len (new ++ drop (length new) items) ≡ map kept_entry items = all ∙ c.keep_each.ensures ∙ ap (map kept_entry) c.as_mut_slice.ensures.value in
    subst AreOfDifferentKeys (sym is) (distinct-kept items c.in_ok-entries.ensures.distinct)
