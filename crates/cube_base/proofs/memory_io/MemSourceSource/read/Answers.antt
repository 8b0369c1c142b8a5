use Rattle.std.proofs.Common.{◌≡◌, ◌-◌, min, length, take, drop, arith, ap, sym, ◌∙◌}
use Rattle.std.proofs.lemmas.List.{take_rest}
use Rattle.cube_base.proofs.Transfers.{left-copied, left-nothing_given}
use Rattle.cube_base.proofs.memory_io.MemSourceSource.read.Goals as goal

pub returns-clause-bytes : goal.returns-clause-bytes
returns-clause-bytes c =
    let bytes = c.self.inside.bytes in
    let given = c.self.inside.given in
    let n = c.min-count.result in
    let rest : take (length c.as_slice.result.now - given) (drop given c.as_slice.result.now) ≡ drop given bytes =
    take_rest c.as_slice.result.now given ∙ ap (drop given) c.as_slice.ensures in
    let is_least : n ≡ min c.min.result (length (drop given bytes)) = c.min-count.ensures ∙ ap (λ xs. min c.min.result (length xs)) rest in
    let is_front : c.copy_from_slice.new.self ≡ take n (drop given bytes) = c.copy_from_slice.ensures.after ∙ ap (take n) rest in (
      ap (λ v. v.left) (sym c.self.view_is) ∙ left-copied bytes c.copy_from_slice.new.self c.args.into.now given n (omega arith) is_front,
      λ none room. left-nothing_given bytes given c.min.result n (omega arith) is_least none,
    )
