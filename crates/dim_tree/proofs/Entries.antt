-- The entries of a dimension: as many as its lines, and each found by its number, which is its place.
use Rattle.std.proofs.Common.{◌≡◌, ℕ, ◌+◌, List, [], ◌∷◌, length, slice_get, zero, suc, refl, arith}
use Rattle.std.proofs.lemmas.Bool.Decides.{nat_tests}
use Rattle.std.proofs.lemmas.List.{length-map}
use Rattle.cube_model.specs.declared.tree.NodeLine.{NodeLine}
use Rattle.cube_model.specs.Tree.{Dimension, entry_of, node_lines, numbered, numbered_from}

pub length-node_lines : (dim : Dimension) → length (node_lines dim) ≡ length dim
length-node_lines dim = length-map dim _

-- where numbers are counted from k
entry_of-numbered_from : (lines : List NodeLine) (k i number : ℕ) → number ≡ k + i → entry_of (numbered_from k lines) number ≡ slice_get (numbered_from k lines) i
entry_of-numbered_from [] k i number at = refl
entry_of-numbered_from (line ∷ lines) k zero number at = grind (arith, nat_tests)
entry_of-numbered_from (line ∷ lines) k (suc i) number at = grind (arith, nat_tests, entry_of-numbered_from lines (k + 1) i number (omega arith))

pub entry_of-numbered : (lines : List NodeLine) (n : ℕ) → entry_of (numbered lines) n ≡ slice_get (numbered lines) n
entry_of-numbered lines n = entry_of-numbered_from lines 0 n n (omega arith)
