-- How the bytes of one read or write follow those of the reads or writes before it.
use Rattle.std.proofs.Common.{◌≡◌, ℕ, ◌+◌, ◌-◌, ◌<◌, ◌≤◌, min, List, [], ◌++◌, length, take, drop, Option, arith, sym, ap, ◌∙◌, subst, take-append-drop, length-drop, length-take-le}
use Rattle.std.proofs.Math.Seq.{take-add}
use Rattle.std.proofs.lemmas.List.{drop-append-le, drop-drop, drop_all, take-append-le, take_all, take_rest}
use Rattle.std.proofs.KnownBytes.{Appends-trans}
use Rattle.std.specs.Io.KnownBytes.{Appends}
use Rattle.cube_base.specs.Outside.{between}

-- the bytes up to a later place are those up to this place, and then the next ones
pub between-add : (text : List ℕ) (i j n : ℕ) → i ≤ j → j ≤ length text → between text i (j + n) ≡ between text i j ++ take n (drop j text)
between-add text i j n forward within =
    let fits : i ≤ length (take j text) = rw (length-take-le j text within) forward in
    ap (drop i) (take-add j n text) ∙ drop-append-le i (take j text) (take n (drop j text)) fits

-- a sink that took the text up to a place and then a piece of what is left took the text up to the piece's end
pub Appends-between : (old mid new : Option (List ℕ)) (text : List ℕ) (i j n : ℕ) → i ≤ j → j ≤ length text → Appends old mid (between text i j)
    → Appends mid new (take n (take (length text - j) (drop j text))) → Appends old new (between text i (j + n))
Appends-between old mid new text i j n forward within before piece =
    let next : Appends mid new (take n (drop j text)) = subst (λ rest. Appends mid new (take n rest)) (take_rest text j) piece in
    subst (Appends old new) (sym (between-add text i j n forward within)) (Appends-trans old mid new _ _ before next)

-- the bytes left are those that a read copied to the buffer's front and those behind them
pub left-copied : (bytes copied buffer : List ℕ) (given n : ℕ) → n ≤ length (drop given bytes) → copied ≡ take n (drop given bytes)
    → drop given bytes ≡ take n (copied ++ drop n buffer) ++ drop (given + n) bytes
left-copied bytes copied buffer given n fits is_front =
    let left = drop given bytes in
    let count : length copied ≡ n = ap length is_front ∙ length-take-le n left fits in
    let front : take n (copied ++ drop n buffer) ≡ take n left =
    take-append-le n copied (drop n buffer) (omega arith) ∙ take_all n copied (omega arith) ∙ is_front in
    sym (ap (λ xs. xs ++ drop (given + n) bytes) front ∙ ap (λ xs. take n left ++ xs) (sym (drop-drop n given bytes)) ∙ take-append-drop n left)

-- a read that gives nothing although there is room is at the end
pub left-nothing_given : (bytes : List ℕ) (given room n : ℕ) → 0 < room → n ≡ min room (length (drop given bytes)) → n ≡ 0 → drop (given + n) bytes ≡ []
left-nothing_given bytes given room n some is_least none =
    drop_all (given + n) bytes (omega (arith, length-drop given bytes))
