-- The worlds of choices are added row by row.
use Rattle.std.proofs.Common.{◌≡◌, ℕ, zero, suc, ◌+◌, ◌*◌, ◌<◌, ◌≤◌, List, [], ◌∷◌, ◌++◌, length, get_or, take, ap, sym, ◌∙◌, arith, ℤ, pos, ◌+ℤ◌, ◌*ℤ◌}
use Rattle.std.specs.Prelude.{nat_abs}
use Rattle.std.proofs.lemmas.Int.{ints, unsigned_abs-mul}
use Rattle.std.proofs.lemmas.List.{length-take-le, length_push, take_all, take_more}
use Rattle.std.proofs.lemmas.List.Elements.{All-head, All-tail}
use Rattle.std.proofs.lemmas.List.Sums.{sum_by-append, sum_by_more_le}
use Rattle.std.proofs.Math.Nat.{mul-le-mul_right, mul_comm}
use Rattle.cube_model.specs.Limits.{MAX_VALUE}
use Rattle.cube_model.proofs.Totals.{total_by-append}
use Rattle.world_law.specs.declared.walk.Found.{Found}
use Rattle.world_law.specs.Limits.{MAX_MASS}
use Rattle.world_law.specs.Choices.{AddsWorlds, AreSmall, Choice, HasRoom, IsBoundedByMass, gain, heft, ways, whole, yield}
use Rattle.world_law.proofs.Products.{scaled-by_none, scaled-none, scaled-sum, scaled-twice, sum-scaled}

-- one world more
pub within_more : (t s : ℤ) (m w limit : ℕ) → nat_abs t ≤ m * limit → nat_abs s ≤ limit → nat_abs (t +ℤ s *ℤ pos w) ≤ (m + w) * limit
within_more t s m w limit within small =
    let size = unsigned_abs-mul s (pos w) in
    let both : nat_abs (t +ℤ s *ℤ pos w) ≤ nat_abs t + nat_abs (s *ℤ pos w) = omega (arith, ints) in
    omega (arith, size, both, mul-le-mul_right w small)

-- a row more

heft-push : (front : Choice) (row : ℕ × ℤ) → heft (front ++ row ∷ []) ≡ heft front + row.0
heft-push front row = omega (arith, sum_by-append (λ (row : ℕ × ℤ). row.0) front (row ∷ []))

gain-push : (front : Choice) (row : ℕ × ℤ) → gain (front ++ row ∷ []) ≡ gain front +ℤ row.1 *ℤ pos row.0
gain-push front row = omega (arith, ints, total_by-append (λ (row : ℕ × ℤ). row.1 *ℤ pos row.0) front (row ∷ []))

row_total : (s v g y : ℤ) (h n m w : ℕ)
    → (s *ℤ pos (h * m) +ℤ (g *ℤ pos m +ℤ y *ℤ pos h)) *ℤ pos w +ℤ ((s +ℤ v) *ℤ pos m +ℤ y) *ℤ pos (w * n) ≡ (s *ℤ pos ((h + n) * m) +ℤ ((g +ℤ v *ℤ pos n) *ℤ pos m +ℤ y *ℤ pos (h + n))) *ℤ pos w
row_total s v g y h n m w =
    let front = s *ℤ pos (h * m) +ℤ (g *ℤ pos m +ℤ y *ℤ pos h) in
    let row = (s +ℤ v) *ℤ pos m +ℤ y in
    let turned : row *ℤ pos (w * n) ≡ row *ℤ pos n *ℤ pos w = ap (λ k. row *ℤ pos k) (mul_comm w n) ∙ sym (scaled-twice row n w) in
    let sums : s *ℤ pos ((h + n) * m) ≡ s *ℤ pos (h * m) +ℤ s *ℤ pos (m * n) = ap (λ k. s *ℤ pos k) (omega arith) ∙ scaled-sum s (h * m) (m * n) in
    let gains : v *ℤ pos n *ℤ pos m ≡ v *ℤ pos (m * n) = scaled-twice v n m ∙ ap (λ k. v *ℤ pos k) (mul_comm n m) in
    ap (λ z. front *ℤ pos w +ℤ z) turned ∙ sym (sum-scaled front (row *ℤ pos n) w)
    ∙ ap (λ z. z *ℤ pos w)
    (omega (arith, ints, sums, gains, sum-scaled ((s +ℤ v) *ℤ pos m) y n, scaled-twice (s +ℤ v) m n, sum-scaled s v (m * n), sum-scaled g (v *ℤ pos n) m, scaled-sum y h n))

pub adds_more : (front : Choice) (row : ℕ × ℤ) (cs : List Choice) (w : ℕ) (s : ℤ) (old mid new : Found)
    → AddsWorlds (front ∷ cs) w s old mid → AddsWorlds cs (w * row.0) (s +ℤ row.1) mid new → AddsWorlds ((front ++ row ∷ []) ∷ cs) w s old new
adds_more front row cs w s old mid new before more = record {
  worlds = omega (arith, before.worlds, more.worlds, ap (λ n. n * ways cs) (length_push front row));
  mass = omega (arith, before.mass, more.mass, ap (λ n. n * whole cs * w) (heft-push front row));
  total =
      let m = whole cs in
      let y = yield cs in
      let h = heft front + row.0 in
      let pushed : s *ℤ pos (whole ((front ++ row ∷ []) ∷ cs)) +ℤ yield ((front ++ row ∷ []) ∷ cs) ≡ s *ℤ pos (h * m) +ℤ ((gain front +ℤ row.1 *ℤ pos row.0) *ℤ pos m +ℤ y *ℤ pos h) =
      ap (λ k. s *ℤ pos (k * m) +ℤ (gain (front ++ row ∷ []) *ℤ pos m +ℤ y *ℤ pos k)) (heft-push front row) ∙ ap (λ z. s *ℤ pos (h * m) +ℤ (z *ℤ pos m +ℤ y *ℤ pos h)) (gain-push front row) in
      omega (arith, ints, before.total, more.total, row_total s row.1 (gain front) y (heft front) row.0 m w, ap (λ z. z *ℤ pos w) pushed);
}

none_total : (s y : ℤ) (m w : ℕ) → (s *ℤ pos (0 * m) +ℤ (pos 0 *ℤ pos m +ℤ y *ℤ pos 0)) *ℤ pos w ≡ pos 0
none_total s y m w =
    let zero : 0 * m ≡ 0 = omega arith in
    let inner : s *ℤ pos (0 * m) +ℤ (pos 0 *ℤ pos m +ℤ y *ℤ pos 0) ≡ pos 0 =
    ap (λ k. s *ℤ pos k +ℤ (pos 0 *ℤ pos m +ℤ y *ℤ pos 0)) zero ∙ omega (arith, ints, scaled-by_none s, scaled-none m, scaled-by_none y) in
    ap (λ z. z *ℤ pos w) inner ∙ scaled-none w

-- before the first row
pub adds_none : (cs : List Choice) (w : ℕ) (s : ℤ) (found : Found) → AddsWorlds ([] ∷ cs) w s found found
adds_none cs w s found = record { worlds = omega arith; mass = omega arith; total = omega (arith, ints, none_total s (yield cs) (whole cs) w) }

some_right : (h m : ℕ) → 1 ≤ h * m → 1 ≤ m
some_right h zero some = absurd (omega arith)
some_right h (suc m) some = omega arith

-- room for the worlds of the others once a row is chosen
pub room_next : (c : Choice) (cs : List Choice) (j w : ℕ) (s : ℤ) (old found : Found) (d : ℕ × ℤ) → HasRoom (c ∷ cs) w s old → AddsWorlds (take j c ∷ cs) w s old found → IsBoundedByMass found → j < length c
    → HasRoom cs (w * (get_or c j d).0) (s +ℤ (get_or c j d).1) found
room_next c cs j w s old found d room adds within inside = record {
  worlds = omega (arith, room.worlds, adds.worlds, ap (λ n. n * ways cs) (length-take-le j c (omega arith)), mul-le-mul_right (ways cs) inside);
  mass = omega (arith, room.mass, adds.mass, mul-le-mul_right (whole cs * w) (sum_by_more_le (λ (row : ℕ × ℤ). row.0) c j d inside));
  some = some_right (heft c) (whole cs) room.some;
  values = All-tail AreSmall c cs room.values;
  small =
      let value : nat_abs (get_or c j d).1 ≤ MAX_VALUE = All-head AreSmall c cs room.values j d inside in
      let both : nat_abs (s +ℤ (get_or c j d).1) ≤ nat_abs s + nat_abs (get_or c j d).1 = omega (arith, ints) in
      omega (arith, room.small, value, both);
  within = within;
}

module _ (c : Choice) (cs : List Choice) (j w : ℕ) (s : ℤ) (old : Found) (d : ℕ × ℤ) (room : HasRoom (c ∷ cs) w s old) (inside : j < length c) where
  -- the weight with that of a row, and the sum with its value
  pub weight_next : w * (get_or c j d).0 ≤ MAX_MASS
  weight_next =
      let others = some_right (heft c) (whole cs) room.some in
      let row : (get_or c j d).0 ≤ heft c = omega (arith, sum_by_more_le (λ (row : ℕ × ℤ). row.0) c j d inside) in
      omega (arith, room.mass, mul-le-mul_right w row, mul-le-mul_right (heft c * w) others)

  pub sum_next : nat_abs (s +ℤ (get_or c j d).1) ≤ MAX_MASS
  sum_next =
      let value : nat_abs (get_or c j d).1 ≤ MAX_VALUE = All-head AreSmall c cs room.values j d inside in
      let both : nat_abs (s +ℤ (get_or c j d).1) ≤ nat_abs s + nat_abs (get_or c j d).1 = omega (arith, ints) in
      omega (arith, room.small, value, both)

-- the same where the choices are a first and the others
pub room_first : (choices : List Choice) (rows first : Choice) (rest : List Choice) (w : ℕ) (s : ℤ) (found : Found) → choices ≡ first ∷ rest → rows ≡ first → HasRoom choices w s found → HasRoom (rows ∷ rest) w s found
room_first choices rows first rest w s found cases same room = rw (same, ← cases) room

-- after the last row
pub adds_all : (choices : List Choice) (rows first : Choice) (rest : List Choice) (j w : ℕ) (s : ℤ) (old new : Found) → choices ≡ first ∷ rest → rows ≡ first → length rows ≤ j → AddsWorlds (take j rows ∷ rest) w s old new → AddsWorlds choices w s old new
adds_all choices rows first rest j w s old new cases same end adds =
    let all : take j rows ≡ first = take_all j rows end ∙ same in
    rw (cases, ← all) adds

-- after one row more
pub adds_next : (rows : Choice) (rest : List Choice) (j w : ℕ) (s : ℤ) (old mid new : Found) (d : ℕ × ℤ) → j < length rows
    → AddsWorlds (take j rows ∷ rest) w s old mid → AddsWorlds rest (w * (get_or rows j d).0) (s +ℤ (get_or rows j d).1) mid new → AddsWorlds (take (j + 1) rows ∷ rest) w s old new
adds_next rows rest j w s old mid new d inside before more = rw (take_more rows j d inside) (adds_more (take j rows) (get_or rows j d) rest w s old mid new before more)
