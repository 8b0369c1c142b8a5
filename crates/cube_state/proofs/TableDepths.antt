-- The depths of the cuts of a table, dimension by dimension.
use Rattle.std.proofs.Common.{◌≡◌, ℕ, ◌+◌, ◌<◌, ◌≤◌, List, [], ◌∷◌, ◌++◌, ap, drop, get_or, length, refl, sym, ◌∙◌}
use Rattle.std.specs.Prelude.{slice_get, Some}
use Rattle.std.proofs.lemmas.List.{append_assoc, drop_all}
use Rattle.std.proofs.lemmas.Option.{slice_get-get_or}
use Rattle.cube_model.specs.Tree.{Dimension}
use Rattle.region_algebra.proofs.Turns.{drop-at}
use Rattle.cube_state.specs.Tables.{depth_under, depths_under}

module _ (dims : List Dimension) (depths nodes : List ℕ) (d : ℕ) (dim : Dimension) (node : ℕ) (is : slice_get dims d ≡ Some dim) (within : d < length depths) (at : slice_get nodes d ≡ Some node) where
  abbrev behind : List ℕ
  behind = depths_under (drop (d + 1) dims) (drop (d + 1) depths) (drop (d + 1) nodes)

  depths-here : depths_under (drop d dims) (drop d depths) (drop d nodes) ≡ depth_under dim (get_or depths d 0) node ∷ behind
  depths-here = rw (drop-at dims d dim is, drop-at depths d (get_or depths d 0) (slice_get-get_or depths d 0 within), drop-at nodes d node at) refl

  pub depths-next : (whole before now : List ℕ) (cut : ℕ) → whole ≡ before ++ depths_under (drop d dims) (drop d depths) (drop d nodes) → cut ≡ depth_under dim (get_or depths d 0) node → now ≡ before ++ cut ∷ []
      → whole ≡ now ++ behind
  depths-next whole before now cut told cuts added =
      told ∙ ap (λ rest. before ++ rest) (depths-here ∙ ap (λ c. c ∷ behind) (sym cuts)) ∙ sym (append_assoc before (cut ∷ []) behind) ∙ ap (λ xs. xs ++ behind) (sym added)

-- past the last there are no more
pub depths-end : (dims : List Dimension) (depths nodes : List ℕ) (d : ℕ) → length dims ≤ d → depths_under (drop d dims) (drop d depths) (drop d nodes) ≡ []
depths-end dims depths nodes d past = rw (drop_all d dims past) refl
