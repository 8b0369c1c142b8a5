use Rattle.std.proofs.Common.{length, ap, ◌∙◌, arith}
use Rattle.std.specs.List.{insert}
use Rattle.std.proofs.lemmas.List.Edits.{length-remove}
use Rattle.fact_records.proofs.ShortLists.{insert-remove}
use Rattle.fact_records.proofs.short_lists.ShortLists.replace.Goals as goal

pub insert-requires : goal.insert-requires
insert-requires g c =
    let place = length-remove c.args.self.now c.args.at c.requires.place in
    (omega arith, (omega (arith, ap length c.remove.ensures.lists, place), (c.remove.ensures.room, c.requires.short)))

pub returns-else-get-list : goal.returns-else-get-list
returns-else-get-list g c = c.insert.ensures ∙ ap (λ l. insert l c.args.at c.args.list.now) c.remove.ensures.lists ∙ insert-remove c.args.self.now c.args.at c.args.list.now c.requires.place
