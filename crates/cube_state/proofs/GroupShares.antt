-- What the shares of groups in a region add up to.
use Rattle.std.proofs.Common.{◌≡◌, ℕ, ◌+◌, ◌*◌, ◌<◌, ◌≤◌, Bool, true, false, List, [], ◌∷◌, ◌++◌, get_or, length, map, take, refl, ap, sym, ◌∙◌, arith, ℤ, pos, ◌+ℤ◌, ◌*ℤ◌}
use Rattle.std.specs.Prelude.{All, filter, nat_abs, nat_lt, option_to_list, slice_index_or, ◌==◌, if◌then◌else◌, Option, Some, None}
use Rattle.std.specs.List.{cons_option, filter_map, sum_by}
use Rattle.std.specs.Map.{values_of}
use Rattle.std.proofs.lemmas.Bool.Decides.{nat_tests}
use Rattle.std.proofs.lemmas.Int.{ints}
use Rattle.std.proofs.lemmas.List.{append-nil, map-append, take_more}
use Rattle.std.proofs.lemmas.List.Elements.{All-cons, All-filter, All-head, All-nil, All-tail, filter-append, filter_map-append}
use Rattle.std.proofs.lemmas.List.Sums.{sum_by-cons}
use Rattle.std.proofs.Math.IntN.{*ℤ-zero, *ℤ_comm}
use Rattle.cube_model.specs.Answer.{total_by, weight_inside}
use Rattle.cube_model.specs.Limits.{MAX_FACTS}
use Rattle.group_sum.specs.declared.shares.Share.{Share}
use Rattle.group_sum.specs.Shares.{IsShare, SharesFit, product_at, product_in, shares_at, size_at, units_at, units_of}
use Rattle.fact_groups.specs.Groups.{Group, count_in, sum_in}
use Rattle.fact_groups.proofs.Groups.{count_in-sum, count_over, sum_in-total, sum_over}
use Rattle.fact_groups.proofs.Partition.{sum_by-alike}
use Rattle.staged_map.specs.Staged.{Places, held, value_at}
use Rattle.cube_state.specs.Answering.{group_share, groups_held, shares_of}
use Rattle.cube_state.specs.State.{StateValue}
use Rattle.fact_indexes.proofs.Modest.{AreModest, IsModest, count-within, members, modest-groups, product-within, sizes-of}

-- a group more
pub shares-push : (cells : List ℕ) (groups : List Group) (g : Group) → shares_of cells (groups ++ g ∷ []) ≡ shares_of cells groups ++ (if nat_lt 0 (weight_inside cells g.spread) then group_share cells g ∷ [] else [])
shares-push cells groups g =
    ap (filter (λ (s : Share). nat_lt 0 s.weight)) (map-append (group_share cells) groups (g ∷ [])) ∙ filter-append (λ (s : Share). nat_lt 0 s.weight) (map (group_share cells) groups) (group_share cells g ∷ [])

-- a group more of those that have been gone through
module _ (cells : List ℕ) (groups more : List Group) (g : Group) (old : List Share) (is : old ≡ shares_of cells groups) (next : more ≡ groups ++ g ∷ []) where
  whole : shares_of cells more ≡ old ++ (if nat_lt 0 (weight_inside cells g.spread) then group_share cells g ∷ [] else [])
  whole = ap (shares_of cells) next ∙ shares-push cells groups g ∙ ap (λ (shares : List Share). shares ++ (if nat_lt 0 (weight_inside cells g.spread) then group_share cells g ∷ [] else [])) (sym is)

  pub shares-some : (new : List Share) (share : Share) → share ≡ group_share cells g → 0 < share.weight → new ≡ old ++ share ∷ [] → new ≡ shares_of cells more
  shares-some new share its some added =
      let test : nat_lt 0 (weight_inside cells g.spread) ≡ true = grind (arith, nat_tests, some, ap (λ (s : Share). s.weight) its) in
      added ∙ ap (λ (s : Share). old ++ s ∷ []) its ∙ sym (whole ∙ ap (λ (b : Bool). old ++ (if b then group_share cells g ∷ [] else [])) test)

  pub shares-nothing : (share : Share) → share ≡ group_share cells g → share.weight ≤ 0 → old ≡ shares_of cells more
  shares-nothing share its none =
      let test : nat_lt 0 (weight_inside cells g.spread) ≡ false = grind (arith, nat_tests, none, ap (λ (s : Share). s.weight) its) in
      sym (append-nil old) ∙ sym (whole ∙ ap (λ (b : Bool). old ++ (if b then group_share cells g ∷ [] else [])) test)

-- where no group comes, the shares stay
pub shares-none : (cells : List ℕ) (groups more : List Group) (old : List Share) → old ≡ shares_of cells groups → more ≡ groups ++ [] → old ≡ shares_of cells more
shares-none cells groups more old is next = is ∙ ap (shares_of cells) (sym (next ∙ append-nil groups))

-- the groups before a place and at it
pub groups-next : (places : Places Group) (i code : ℕ) (g : Group) → held (take (i + 1) places) ≡ held (take i places) ++ (code, g) ∷ [] → groups_held (take (i + 1) places) ≡ groups_held (take i places) ++ g ∷ []
groups-next places i code g next = ap (λ (entries : List (ℕ × Group)). values_of entries) next ∙ map-append (λ (e : ℕ × Group). e.1) (held (take i places)) ((code, g) ∷ [])

pub groups-none : (places : Places Group) (i : ℕ) → held (take (i + 1) places) ≡ held (take i places) ++ [] → groups_held (take (i + 1) places) ≡ groups_held (take i places) ++ []
groups-none places i next = ap (λ (entries : List (ℕ × Group)). values_of entries) next ∙ map-append (λ (e : ℕ × Group). e.1) (held (take i places)) []

-- the groups at the codes before one and at it
pub groups-code : (places : Places Group) (codes : List ℕ) (i d : ℕ) (found : Option Group) → i < length codes → found ≡ value_at places (get_or codes i d)
    → filter_map (value_at places) (take (i + 1) codes) ≡ filter_map (value_at places) (take i codes) ++ option_to_list found
groups-code places codes i d found within is =
    ap (filter_map (value_at places)) (take_more codes i d within)
    ∙ filter_map-append (value_at places) (take i codes) (get_or codes i d ∷ [])
    ∙ ap (λ (gs : List Group). filter_map (value_at places) (take i codes) ++ gs) (ap (λ (o : Option Group). cons_option o []) (sym is) ∙ one found)
  where
    one : (o : Option Group) → cons_option o [] ≡ option_to_list o
    one None = refl
    one (Some g) = refl

-- the shares as a state is seen
pub shares-seen : {P : Type 0} (state seen : StateValue P) → seen ≡ state → (cells : List ℕ) → shares_of cells (groups_held seen.kept.groups) ≡ shares_of cells (groups_held state.kept.groups)
shares-seen {P} state seen same cells = ap (λ (s : StateValue P). shares_of cells (groups_held s.kept.groups)) same

module _ (cells : List ℕ) (d : ℕ) where
  -- a number that a share without weight does not raise
  module _ (f : Share → ℕ) (none : (s : Share) → s.weight ≡ 0 → f s ≡ 0) where
    one-share : (g : Group) (shares : List Share) → sum_by f (shares_at d (if nat_lt 0 (weight_inside cells g.spread) then group_share cells g ∷ shares else shares)) ≡ (if g.spread.den == d then f (group_share cells g) else 0) + sum_by f (shares_at d shares)
    one-share g shares = by (nat_lt 0 (weight_inside cells g.spread)) (g.spread.den == d) refl refl
      where
        by : (some same : Bool) → nat_lt 0 (weight_inside cells g.spread) ≡ some → (g.spread.den == d) ≡ same
            → sum_by f (shares_at d (if some then group_share cells g ∷ shares else shares)) ≡ (if same then f (group_share cells g) else 0) + sum_by f (shares_at d shares)
        by true true some same = rw same (sum_by-cons f (group_share cells g) (shares_at d shares))
        by true false some same = rw same (omega arith)
        by false true some same = omega (arith, none (group_share cells g) (grind (arith, nat_tests, some)))
        by false false some same = omega arith

    pub sum-shares : (groups : List Group) → sum_by f (shares_at d (shares_of cells groups)) ≡ sum_by (λ g. if g.spread.den == d then f (group_share cells g) else 0) groups
    sum-shares [] = refl
    sum-shares (g ∷ groups) = omega (arith, one-share g (shares_of cells groups), sum-shares groups, sum_by-cons (λ g. if g.spread.den == d then f (group_share cells g) else 0) g groups)

  -- the same of whole numbers
  module _ (f : Share → ℤ) (none : (s : Share) → s.weight ≡ 0 → f s ≡ pos 0) where
    one-total : (g : Group) (shares : List Share) → total_by f (shares_at d (if nat_lt 0 (weight_inside cells g.spread) then group_share cells g ∷ shares else shares)) ≡ (if g.spread.den == d then f (group_share cells g) else pos 0) +ℤ total_by f (shares_at d shares)
    one-total g shares = by (nat_lt 0 (weight_inside cells g.spread)) (g.spread.den == d) refl refl
      where
        by : (some same : Bool) → nat_lt 0 (weight_inside cells g.spread) ≡ some → (g.spread.den == d) ≡ same
            → total_by f (shares_at d (if some then group_share cells g ∷ shares else shares)) ≡ (if same then f (group_share cells g) else pos 0) +ℤ total_by f (shares_at d shares)
        by true true some same = rw same refl
        by true false some same = rw same (omega (arith, ints))
        by false true some same = let nothing = none (group_share cells g) (grind (arith, nat_tests, some)) in omega (arith, ints, nothing)
        by false false some same = omega (arith, ints)

    total-shares : (groups : List Group) → total_by f (shares_at d (shares_of cells groups)) ≡ total_by (λ g. if g.spread.den == d then f (group_share cells g) else pos 0) groups
    total-shares [] = refl
    total-shares (g ∷ groups) = one-total g (shares_of cells groups) ∙ ap (λ z. (if g.spread.den == d then f (group_share cells g) else pos 0) +ℤ z) (total-shares groups)

  turned : (b : Bool) (m n : ℕ) → (if b then m * n else 0) ≡ (if b then n * m else 0)
  turned true m n = omega arith
  turned false m n = refl

  -- the units and products are the numerators of the groups
  pub units-are : (groups : List Group) → units_at (shares_of cells groups) d ≡ count_in cells groups d
  units-are groups =
      sum-shares units_of (λ s none. omega (arith, ap (λ n. n * s.facts) none)) groups
      ∙ sum_by-alike (λ g. if g.spread.den == d then units_of (group_share cells g) else 0) (count_over cells d) groups (λ g. turned (g.spread.den == d) (weight_inside cells g.spread) g.count)
      ∙ sym (count_in-sum cells d groups)

  no-product : (k : ℕ) (s : Share) → s.weight ≡ 0 → product_in k s ≡ pos 0
  no-product k s none = ap (λ n. pos n *ℤ slice_index_or s.cols k (pos 0)) none ∙ *ℤ_comm (pos 0) (slice_index_or s.cols k (pos 0)) ∙ *ℤ-zero (slice_index_or s.cols k (pos 0))

  pub products-are : (k : ℕ) (groups : List Group) → product_at (shares_of cells groups) d k ≡ sum_in cells groups k d
  products-are k groups = total-shares (product_in k) (no-product k) groups ∙ sym (sum_in-total cells k d groups)

  sized : (b : Bool) (z : ℤ) → (if b then nat_abs z else 0) ≡ nat_abs (if b then z else pos 0)
  sized true z = refl
  sized false z = omega (arith, ints)

  sizes-are : (k : ℕ) (groups : List Group) → size_at (shares_of cells groups) d k ≡ sum_by (λ g. nat_abs (sum_over cells k d g)) groups
  sizes-are k groups =
      sum-shares (λ s. nat_abs (product_in k s)) (λ s none. omega (arith, ints, ap nat_abs (no-product k s none))) groups
      ∙ sum_by-alike (λ g. if g.spread.den == d then nat_abs (product_in k (group_share cells g)) else 0) (λ g. nat_abs (sum_over cells k d g)) groups (λ g. sized (g.spread.den == d) (product_in k (group_share cells g)))

-- shares of modest groups of few facts are such as are added up
module _ (columns : ℕ) (cells : List ℕ) (groups : List Group) (each : All (IsModest columns) groups) (few : members groups ≤ MAX_FACTS) where
  modest : AreModest (members groups) (count_in cells groups) (sum_in cells groups)
  modest = modest-groups columns cells groups each

  pub shares-fit : SharesFit (columns + 1) (shares_of cells groups)
  shares-fit = record {
    counts = λ d. omega (arith, units-are cells d groups, count-within (members groups) (count_in cells groups) (sum_in cells groups) modest few d);
    sums = λ d k lt.
        omega (
          arith,
          sizes-are cells d k groups,
          sizes-of columns cells d k groups each,
          count_in-sum cells d groups,
          product-within (members groups) (count_in cells groups) (sum_in cells groups) modest few d,
        );
  }

  shares-each : (some : List Group) → All (IsModest columns) some → All (IsShare (columns + 1)) (map (group_share cells) some)
  shares-each [] modest = All-nil (IsShare (columns + 1))
  shares-each (g ∷ some) modest =
      let one = All-head (IsModest columns) g some modest in
      All-cons (IsShare (columns + 1)) (group_share cells g) (map (group_share cells) some)
      (record { some = one.some; den_is = one.spread_is.some; columns_are = omega (arith, one.width) }) (shares-each some (All-tail (IsModest columns) g some modest))

  pub shares-are : All (IsShare (columns + 1)) (shares_of cells groups)
  shares-are = All-filter (λ (s : Share). nat_lt 0 s.weight) (IsShare (columns + 1)) (map (group_share cells) groups) (shares-each groups each)
