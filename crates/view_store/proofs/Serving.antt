-- Whether a region is served, or lies under another, dimension by dimension.
use Rattle.std.proofs.Common.{◌≡◌, ℕ, ◌+◌, ◌<◌, ◌≤◌, Bool, true, false, List, arith, ap, drop, get_or, length, refl, sym, ◌∙◌, Option, Some, None}
use Rattle.std.specs.Prelude.{nat_le, slice_get, ◌&&◌}
use Rattle.std.specs.Option.{option_map, option_map_or}
use Rattle.std.proofs.lemmas.Bool.Decides.{nat_tests}
use Rattle.std.proofs.lemmas.List.{drop_all}
use Rattle.std.proofs.lemmas.Option.{slice_get-get_or}
use Rattle.cube_model.specs.Cells.{is_inside}
use Rattle.cube_model.specs.Tree.{Dimension, Entry, entry_of, is_under}
use Rattle.region_algebra.specs.Space.{is_region}
use Rattle.region_algebra.proofs.Turns.{drop-at, is_region-length}
use Rattle.view_store.specs.Rolling.{serves}

depth-test : (found : Option Entry) (deep depth : ℕ) → option_map (λ e. e.depth) found ≡ Some deep → option_map_or (λ e. nat_le e.depth depth) found false ≡ nat_le deep depth
depth-test None deep depth is = absurd (grind arith)
depth-test (Some e) deep depth is =
    let same : e.depth ≡ deep = grind arith in
    ap (λ n. nat_le n depth) same

module _ (dims : List Dimension) (depths nodes : List ℕ) (d : ℕ) (dim : Dimension) (node deep : ℕ) (is : slice_get dims d ≡ Some dim) (within : d < length depths) (at : slice_get nodes d ≡ Some node) (depth_is : option_map (λ e. e.depth) (entry_of dim node) ≡ Some deep) where
  serves-here : serves (drop d dims) (drop d depths) (drop d nodes) ≡ (nat_le deep (get_or depths d 0) && serves (drop (d + 1) dims) (drop (d + 1) depths) (drop (d + 1) nodes))
  serves-here =
      rw (drop-at dims d dim is, drop-at depths d (get_or depths d 0) (slice_get-get_or depths d 0 within), drop-at nodes d node at)
      (ap (λ b. b && serves (drop (d + 1) dims) (drop (d + 1) depths) (drop (d + 1) nodes)) (depth-test (entry_of dim node) deep (get_or depths d 0) depth_is))

  pub serves-not : (whole : Bool) → whole ≡ serves (drop d dims) (drop d depths) (drop d nodes) → get_or depths d 0 < deep → false ≡ whole
  serves-not whole before deeper =
      let test : nat_le deep (get_or depths d 0) ≡ false = grind (arith, nat_tests) in
      sym (before ∙ serves-here ∙ ap (λ b. b && serves (drop (d + 1) dims) (drop (d + 1) depths) (drop (d + 1) nodes)) test)

  pub serves-next : (whole : Bool) → whole ≡ serves (drop d dims) (drop d depths) (drop d nodes) → deep ≤ get_or depths d 0 → whole ≡ serves (drop (d + 1) dims) (drop (d + 1) depths) (drop (d + 1) nodes)
  serves-next whole before least =
      let test : nat_le deep (get_or depths d 0) ≡ true = grind (arith, nat_tests) in
      before ∙ serves-here ∙ ap (λ b. b && serves (drop (d + 1) dims) (drop (d + 1) depths) (drop (d + 1) nodes)) test

pub serves-end : (dims : List Dimension) (depths nodes : List ℕ) (d : ℕ) → length depths ≡ length dims → is_region dims nodes ≡ true → length dims ≤ d → serves (drop d dims) (drop d depths) (drop d nodes) ≡ true
serves-end dims depths nodes d deep names past =
    rw (drop_all d dims past, drop_all d depths (omega (arith, deep, past)), drop_all d nodes (omega (arith, is_region-length dims nodes names, past))) refl

module _ (dims : List Dimension) (nodes lower : List ℕ) (d : ℕ) (dim : Dimension) (node leaf : ℕ) (is : slice_get dims d ≡ Some dim) (at : slice_get nodes d ≡ Some node) (low : slice_get lower d ≡ Some leaf) where
  inside-here : is_inside (drop d dims) (drop d nodes) (drop d lower) ≡ (is_under dim leaf node && is_inside (drop (d + 1) dims) (drop (d + 1) nodes) (drop (d + 1) lower))
  unfolding is_inside
  inside-here = rw (drop-at dims d dim is, drop-at nodes d node at, drop-at lower d leaf low) refl

  pub inside-not : (whole : Bool) → whole ≡ is_inside (drop d dims) (drop d nodes) (drop d lower) → is_under dim leaf node ≡ false → false ≡ whole
  inside-not whole before not = sym (before ∙ inside-here ∙ ap (λ b. b && is_inside (drop (d + 1) dims) (drop (d + 1) nodes) (drop (d + 1) lower)) not)

  pub inside-next : (whole : Bool) → whole ≡ is_inside (drop d dims) (drop d nodes) (drop d lower) → is_under dim leaf node ≡ true → whole ≡ is_inside (drop (d + 1) dims) (drop (d + 1) nodes) (drop (d + 1) lower)
  inside-next whole before under = before ∙ inside-here ∙ ap (λ b. b && is_inside (drop (d + 1) dims) (drop (d + 1) nodes) (drop (d + 1) lower)) under

pub inside-end : (dims : List Dimension) (nodes lower : List ℕ) (d : ℕ) → is_region dims nodes ≡ true → is_region dims lower ≡ true → length dims ≤ d → is_inside (drop d dims) (drop d nodes) (drop d lower) ≡ true
unfolding is_inside
inside-end dims nodes lower d names low past =
    rw (drop_all d dims past, drop_all d nodes (omega (arith, is_region-length dims nodes names, past)), drop_all d lower (omega (arith, is_region-length dims lower low, past))) refl
