-- What is kept for each node beside its depth and its name, from the depths in preorder.
use Rattle.std.specs.Prelude.{ℕ, suc, ◌+◌, Bool, List, [], ◌∷◌, length, nat_lt, ◌==◌, if◌then◌else◌}

-- how many nodes at the front lie deeper than f: those under a node of depth f that stands just before
abbrev pub count_deeper : ℕ → List ℕ → ℕ
count_deeper f [] = 0
count_deeper f (depth ∷ depths) = if nat_lt f depth then suc (count_deeper f depths) else 0

-- for each node the place after the last node under it, where the first node has place k
abbrev pub ends_from : ℕ → List ℕ → List ℕ
ends_from k [] = []
ends_from k (depth ∷ depths) = (k + 1 + count_deeper depth depths) ∷ ends_from (k + 1) depths

-- the place of the nearest node that a node of this depth may be a child of, the nodes before it given from the nearest on; 0 where there is none
abbrev pub nearest_parent : ℕ → List ℕ → ℕ
nearest_parent depth [] = 0
nearest_parent depth (before ∷ earlier) = if before + 1 == depth then length earlier else nearest_parent depth earlier

-- for each node the place of its parent, and 0 for the root, where `earlier` stand before, the nearest first
abbrev pub parents_from : List ℕ → List ℕ → List ℕ
parents_from earlier [] = []
parents_from earlier (depth ∷ depths) = nearest_parent depth earlier ∷ parents_from (depth ∷ earlier) depths

-- whether a node of this depth that stands just before these has none of them under it
abbrev pub is_childless : ℕ → List ℕ → Bool
is_childless depth depths = count_deeper depth depths == 0

-- the places of the leaves, where the first node has place k
abbrev pub leaves_from : ℕ → List ℕ → List ℕ
leaves_from k [] = []
leaves_from k (depth ∷ depths) = if is_childless depth depths then k ∷ leaves_from (k + 1) depths else leaves_from (k + 1) depths

-- for each node, and after the last, how many leaves stand before it, where c stand before the first
abbrev pub leaf_counts_from : ℕ → List ℕ → List ℕ
leaf_counts_from c [] = c ∷ []
leaf_counts_from c (depth ∷ depths) = c ∷ leaf_counts_from (if is_childless depth depths then c + 1 else c) depths
