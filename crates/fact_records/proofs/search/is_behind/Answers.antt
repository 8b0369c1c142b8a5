-- the last id is the greatest
use Rattle.std.proofs.Common.{◌≡◌, ◌<◌, ◌-◌, ℕ, Bool, true, false, length, get_or, refl, arith}
use Rattle.std.specs.Prelude.{nat_lt}
use Rattle.std.specs.Bool.{OnTrue}
use Rattle.std.proofs.lemmas.Bool.Decides.{nat_tests}
use Rattle.fact_records.specs.Cut.{id_at}
use Rattle.fact_records.proofs.Ascending.{id_at-below}
use Rattle.fact_records.proofs.IdSearch.{id-read, length-ids}
use Rattle.fact_records.proofs.search.is_behind.Goals as goal

pub returns : goal.returns
returns c =
    by (nat_lt (get_or c.ids-ids.result.now (length c.ids-ids.result.now - 1) 0) c.args.id) refl
  where
    last : get_or c.ids-ids.result.now (length c.ids-ids.result.now - 1) 0 ≡ id_at c.args.block.now (length c.ids-ids.result.now - 1)
    last = id-read c.args.block.now c.ids-ids.result.now c.ids-ids.ensures (length c.ids-ids.result.now - 1)

    by : (b : Bool) → nat_lt (get_or c.ids-ids.result.now (length c.ids-ids.result.now - 1) 0) c.args.id ≡ b → OnTrue b ((k : ℕ) → k < length c.args.block.now → id_at c.args.block.now k < c.args.id)
    by true is =
        let less : id_at c.args.block.now (length c.ids-ids.result.now - 1) < c.args.id = grind (arith, nat_tests, is, last) in
        id_at-below c.args.block.now c.requires c.args.id (length c.ids-ids.result.now - 1) (omega (arith, length-ids c.args.block.now c.ids-ids.result.now c.ids-ids.ensures)) less
    by false is = tt
