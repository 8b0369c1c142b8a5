use Rattle.std.proofs.Common.{◌≡◌, [], ◌∙◌, ap, sym, arith, rules}
use Rattle.std.proofs.lemmas.Bool.Decides.{nat_tests}
use Rattle.std.proofs.lemmas.Fn.{filter_same}
use Rattle.std.proofs.lemmas.List.{nil_from_length}
use Rattle.fact_keeper.specs.Batch.{without}
use Rattle.fact_keeper.proofs.Puts.{without-none}
use Rattle.fact_keeper.proofs.update.drop_gone.Goals as goal

-- no id is gone
pub returns-then-is_empty-clause-items : goal.returns-then-is_empty-clause-items
returns-then-is_empty-clause-items g c =
    let test = c.is_empty.ensures in
    let taken = c.if-is_empty.true in
    let none : c.args.gone.now ≡ [] = nil_from_length c.args.gone.now (grind (arith, nat_tests)) in
    let entries = c.args.entries.now.items in
    sym (without-none g.T.Entry.id_of entries) ∙ ap (λ gone. without g.T.Entry.id_of gone entries) (sym none)

-- the closure tells the entries of gone ids
pub returns-clause-items : goal.returns-clause-items
returns-clause-items g c = filter_same _ _ _ (λ x b f' k. search rules) _ _ c.retain.ensures.filtered
