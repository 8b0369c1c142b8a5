-- The bytes stand in the place of the last spaces.
use Rattle.std.proofs.Common.{ℕ, ◌-◌, ◌++◌, length, replicate, ap₂, ◌∙◌, arith}
use Rattle.std.proofs.lemmas.List.{append-nil, drop_all, length-drop, take-replicate}
use Rattle.text_lines.proofs.blocks.fill_block.Goals as goal

pub returns : goal.returns
returns c =
    let bytes = c.args.bytes.now in
    ap₂ (λ front back. front ++ back) (take-replicate {X = ℕ} (16 - length bytes) 16 32 (omega arith))
    (ap₂ (λ front back. front ++ back) c.copy_from_slice.ensures.after (drop_all (16 - (16 - length bytes)) _ (omega (arith, length-drop {A = ℕ} (16 - length bytes) (replicate 16 32)))) ∙ append-nil bytes)
