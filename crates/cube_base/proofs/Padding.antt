-- Items written over the front of places that hold a filler.
use Rattle.std.proofs.Common.{◌≡◌, ℕ, ◌-◌, ◌≤◌, List, ◌++◌, length, drop, replicate, arith, sym, ap, ◌∙◌, length-append}
use Rattle.std.proofs.lemmas.List.{drop-replicate, length-replicate}
use Rattle.std.proofs.Math.Seq.{take-append_seam}
use Rattle.cube_base.specs.InPlace.{IsPadded, padded}

-- the items and the fillers that are left are the items padded
pub IsPadded-written : {X : Type 0} (filler : X) (size : ℕ) (items places : List X) → length items ≤ size → places ≡ replicate size filler
    → IsPadded filler size (length items) (items ++ drop (length items) places)
IsPadded-written filler size items places few is_filler =
    let count = length items in
    let behind : drop count places ≡ replicate (size - count) filler = ap (drop count) is_filler ∙ drop-replicate count size filler in
    record {
      few = few;
      whole = rw (behind, length-append, length-replicate) (omega arith);
      rest = ap (λ xs. items ++ xs) behind ∙ sym (ap (padded filler size) (take-append_seam items (drop count places)));
    }
