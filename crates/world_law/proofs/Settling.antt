-- The facts of one row stand where they are, and the choices of the others are left.
use Rattle.std.proofs.Common.{◌≡◌, ℕ, zero, suc, ◌+◌, ◌*◌, ◌<◌, ◌≤◌, List, [], ◌∷◌, ◌++◌, length, drop, refl, ap, sym, subst, ◌∙◌, arith, ℤ, pos, ◌+ℤ◌, ◌*ℤ◌}
use Rattle.std.specs.Prelude.{All, nat_abs}
use Rattle.std.proofs.lemmas.Int.{ints}
use Rattle.std.proofs.lemmas.List.{append-nil, append_assoc, drop_all, length_push}
use Rattle.std.proofs.lemmas.List.Elements.{All-append, All-cons, All-nil}
use Rattle.std.proofs.Math.Nat.{mul-le-mul_right, mul_comm}
use Rattle.cube_model.specs.Limits.{MAX_FACTS, MAX_VALUE}
use Rattle.world_law.specs.Choices.{AreSmall, Choice, HasRoom, IsLight, Settles, gain, heft, ways, whole, yield}
use Rattle.world_law.specs.Limits.{MAX_MASS, MAX_WORLDS}
use Rattle.world_law.proofs.Products.{scaled-none, scaled-one, scaled-twice, sum-scaled}

-- a choice may as well be the first

ways-moved : (xs ys : List Choice) (c : Choice) → ways (xs ++ c ∷ ys) ≡ length c * ways (xs ++ ys)
ways-moved [] ys c = refl
ways-moved (x ∷ xs) ys c = omega (arith, ap (λ n. length x * n) (ways-moved xs ys c))

whole-moved : (xs ys : List Choice) (c : Choice) → whole (xs ++ c ∷ ys) ≡ heft c * whole (xs ++ ys)
whole-moved [] ys c = refl
whole-moved (x ∷ xs) ys c = omega (arith, ap (λ n. heft x * n) (whole-moved xs ys c))

crossed : (gx gc y : ℤ) (hx hc m : ℕ) → gx *ℤ pos (hc * m) +ℤ (gc *ℤ pos m +ℤ y *ℤ pos hc) *ℤ pos hx ≡ gc *ℤ pos (hx * m) +ℤ (gx *ℤ pos m +ℤ y *ℤ pos hx) *ℤ pos hc
crossed gx gc y hx hc m =
    let first : gc *ℤ pos m *ℤ pos hx ≡ gc *ℤ pos (hx * m) = scaled-twice gc m hx ∙ ap (λ k. gc *ℤ pos k) (mul_comm m hx) in
    let second : gx *ℤ pos m *ℤ pos hc ≡ gx *ℤ pos (hc * m) = scaled-twice gx m hc ∙ ap (λ k. gx *ℤ pos k) (mul_comm m hc) in
    let third : y *ℤ pos hc *ℤ pos hx ≡ y *ℤ pos hx *ℤ pos hc = scaled-twice y hc hx ∙ ap (λ k. y *ℤ pos k) (mul_comm hc hx) ∙ sym (scaled-twice y hx hc) in
    omega (arith, ints, first, second, third, sum-scaled (gc *ℤ pos m) (y *ℤ pos hc) hx, sum-scaled (gx *ℤ pos m) (y *ℤ pos hx) hc)

yield-moved : (xs ys : List Choice) (c : Choice) → yield (xs ++ c ∷ ys) ≡ gain c *ℤ pos (whole (xs ++ ys)) +ℤ yield (xs ++ ys) *ℤ pos (heft c)
yield-moved [] ys c = refl
yield-moved (x ∷ xs) ys c =
    ap (λ n. gain x *ℤ pos n +ℤ yield (xs ++ c ∷ ys) *ℤ pos (heft x)) (whole-moved xs ys c)
    ∙ ap (λ z. gain x *ℤ pos (heft c * whole (xs ++ ys)) +ℤ z *ℤ pos (heft x)) (yield-moved xs ys c)
    ∙ crossed (gain x) (gain c) (yield (xs ++ ys)) (heft x) (heft c) (whole (xs ++ ys))

some_middle : (n m w : ℕ) → 1 ≤ n * m * w → 1 ≤ m
some_middle n zero w some = absurd (omega arith)
some_middle n (suc m) w some = omega arith

-- A choice of one row alone adds to the weight and to the sum.

single_total : (s v y : ℤ) (n m w : ℕ) → (s *ℤ pos (n * m) +ℤ (v *ℤ pos n *ℤ pos m +ℤ y *ℤ pos n)) *ℤ pos w ≡ ((s +ℤ v) *ℤ pos m +ℤ y) *ℤ pos (w * n)
single_total s v y n m w =
    let row = (s +ℤ v) *ℤ pos m +ℤ y in
    let turned : row *ℤ pos (w * n) ≡ row *ℤ pos n *ℤ pos w = ap (λ k. row *ℤ pos k) (mul_comm w n) ∙ sym (scaled-twice row n w) in
    let sums : s *ℤ pos (n * m) ≡ s *ℤ pos (m * n) = ap (λ k. s *ℤ pos k) (mul_comm n m) in
    let gains : v *ℤ pos n *ℤ pos m ≡ v *ℤ pos (m * n) = scaled-twice v n m ∙ ap (λ k. v *ℤ pos k) (mul_comm n m) in
    ap (λ z. z *ℤ pos w) (omega (arith, ints, sums, gains, sum-scaled ((s +ℤ v) *ℤ pos m) y n, scaled-twice (s +ℤ v) m n, sum-scaled s v (m * n))) ∙ sym turned

settles_none : (all : List Choice) → Settles all 1 (pos 0) all
settles_none all = record {
  worlds = refl;
  mass = omega arith;
  total = sym (scaled-one (pos 0 *ℤ pos (whole all) +ℤ yield all) ∙ omega (arith, ints, scaled-none (whole all)));
}

module _ (all several rest : List Choice) (w : ℕ) (s : ℤ) where
  module _ (n : ℕ) (v : ℤ) (before : Settles all w s (several ++ ((n, v) ∷ []) ∷ rest)) where
    one_heft : heft ((n, v) ∷ []) ≡ n
    one_heft = omega arith

    all_mass : whole all ≡ n * whole (several ++ rest) * w
    all_mass = before.mass ∙ ap (λ k. k * w) (whole-moved several rest ((n, v) ∷ []) ∙ ap (λ k. k * whole (several ++ rest)) one_heft)

    settles_single : Settles all (w * n) (s +ℤ v) (several ++ rest)
    settles_single =
        let c : Choice = (n, v) ∷ [] in
        let m = whole (several ++ rest) in
        let y = yield (several ++ rest) in
        let value : gain c ≡ v *ℤ pos n = omega (arith, ints) in
        record {
          worlds = before.worlds ∙ ways-moved several rest c ∙ omega arith;
          mass = omega (arith, all_mass);
          total =
              before.total ∙ ap (λ k. (s *ℤ pos k +ℤ yield (several ++ c ∷ rest)) *ℤ pos w) (whole-moved several rest c) ∙ ap (λ k. (s *ℤ pos (k * m) +ℤ yield (several ++ c ∷ rest)) *ℤ pos w) one_heft ∙ ap (λ z. (s *ℤ pos (n * m) +ℤ z) *ℤ pos w) (yield-moved several rest c)
              ∙ ap (λ k. (s *ℤ pos (n * m) +ℤ (gain c *ℤ pos m +ℤ y *ℤ pos k)) *ℤ pos w) one_heft ∙ ap (λ z. (s *ℤ pos (n * m) +ℤ (z *ℤ pos m +ℤ y *ℤ pos n)) *ℤ pos w) value ∙ single_total s v y n m w;
        }

    -- the weight with the row's has room where the mass of all has
    single_fits : (limit : ℕ) → 1 ≤ whole all → whole all ≤ limit → w * n ≤ limit
    single_fits limit some most =
        let others : 1 ≤ whole (several ++ rest) = some_middle n (whole (several ++ rest)) w (rw all_mass at some) in
        omega (arith, all_mass, most, mul-le-mul_right (w * n) others)

  settles_several : (c : Choice) → Settles all w s (several ++ c ∷ rest) → Settles all w s ((several ++ c ∷ []) ++ rest)
  settles_several c before = subst (Settles all w s) (sym (append_assoc several (c ∷ []) rest)) before

-- The facts before place i are settled: those of one row stand, with this weight and this sum, and of the others the choices are known.
pub record Settling (all : List Choice) (i weight : ℕ) (sum : ℤ) (several : List Choice) : Type 0 where
  pub settles : Settles all weight sum (several ++ drop i all)
  pub small : nat_abs sum + length several * MAX_VALUE ≤ i * MAX_VALUE
  pub values : All AreSmall several

pub settling_none : (all : List Choice) → Settling all 0 1 (pos 0) []
settling_none all = record { settles = settles_none all; small = omega arith; values = All-nil AreSmall }

module _ (all several : List Choice) (i w : ℕ) (s : ℤ) (before : Settling all i w s several) where
  -- the next fact has one row
  module _ (n : ℕ) (v : ℤ) (next : drop i all ≡ ((n, v) ∷ []) ∷ drop (i + 1) all) (value : nat_abs v ≤ MAX_VALUE) where
    settles_next : Settles all w s (several ++ ((n, v) ∷ []) ∷ drop (i + 1) all)
    settles_next = rw (← next) before.settles

    pub settling_single : Settling all (i + 1) (w * n) (s +ℤ v) several
    settling_single =
        let both : nat_abs (s +ℤ v) ≤ nat_abs s + nat_abs v = omega (arith, ints) in
        record {
          settles = settles_single all several (drop (i + 1) all) w s n v settles_next;
          small = omega (arith, before.small, both, value);
          values = before.values;
        }

    pub weight_fits : IsLight all → w * n ≤ MAX_MASS
    weight_fits light = single_fits all several (drop (i + 1) all) w s n v settles_next MAX_MASS light.some light.most

    pub sum_fits : i < MAX_FACTS → nat_abs (s +ℤ v) ≤ MAX_MASS
    sum_fits few = let both : nat_abs (s +ℤ v) ≤ nat_abs s + nat_abs v = omega (arith, ints) in omega (arith, before.small, both, value, few)

  -- or any number of rows
  pub settling_several : (c : Choice) (new : List Choice) → drop i all ≡ c ∷ drop (i + 1) all → AreSmall c → new ≡ several ++ c ∷ [] → Settling all (i + 1) w s new
  settling_several c new next small is =
      rw is (record {
        settles = settles_several all several (drop (i + 1) all) w s c (rw (← next) before.settles);
        small = omega (arith, before.small, length_push several c);
        values = All-append AreSmall several (c ∷ []) before.values (All-cons AreSmall c [] small (All-nil AreSmall));
      })

  -- at the end all are settled
  pub settled_all : length all ≤ i → Settles all w s several
  settled_all end = rw (append-nil several) at (rw (drop_all i all end) at before.settles)

-- room for the worlds of the choices that are left
pub room_left : (all several : List Choice) (w : ℕ) (s : ℤ) → Settles all w s several → IsLight all → ways all ≤ MAX_WORLDS → nat_abs s + length several * MAX_VALUE ≤ MAX_MASS → All AreSmall several
    → HasRoom several w s (record { worlds = 0; mass = 0; total = pos 0 })
room_left all several w s settled light few small values = record {
  worlds = omega (arith, settled.worlds, few);
  mass = omega (arith, settled.mass, light.most);
  some = some_middle 1 (whole several) w (omega (arith, settled.mass, light.some));
  values = values;
  small = small;
  within = omega arith;
}
