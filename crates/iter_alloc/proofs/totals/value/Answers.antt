-- A column behind the count is a value of the fact.
use Rattle.cube_model.specs.declared.edit.Fact.{Fact}
use Rattle.iter_alloc.proofs.totals.value.Goals as goal
use Rattle.iter_alloc.specs.Iterated.{value_of}
use Rattle.std.proofs.Common.{◌≡◌, ℕ, zero, suc, ◌-◌, ◌≤◌, get_or, ap, sym, ◌∙◌, arith, ℤ, pos, to_z-of_z}
use Rattle.std.proofs.lemmas.Option.{get_or_from_slice_get}
use Rattle.std.specs.Int.{w64}

value-behind : (column : ℕ) (f : Fact) (v : ℤ) → 1 ≤ column → v ≡ get_or f.cols (column - 1) (pos 0) → v ≡ value_of column f
value-behind zero f v some is = absurd (omega (arith, some))
value-behind (suc k) f v some is = is ∙ ap (λ j. get_or f.cols j (pos 0)) (omega arith)

pub returns : goal.returns
returns c =
    to_z-of_z {w = w64} (record { sfits = c.get.type_inv })
    ∙ value-behind c.args.column c.args.fact c.get.result (omega (arith, c.if-column-eq0.false)) (sym (get_or_from_slice_get c.args.fact.cols (c.args.column - 1) c.get.result (pos 0) c.get.ensures))
