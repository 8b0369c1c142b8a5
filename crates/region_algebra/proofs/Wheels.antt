-- Wheels that are turned on, and wheels that stand at a region's first cell.
use Rattle.std.proofs.Common.{◌≡◌, ℕ, inl, inr, zero, suc, ◌+◌, ◌-◌, ◌*◌, ◌<◌, ◌≤◌, Bool, true, false, List, [], ◌∷◌, ◌++◌, length, map, take, drop, get_or, set, refl, sym, ap, ◌∙◌, arith, length-append, length-set, length-take}
use Rattle.std.specs.Prelude.{All, Some, slice_get}
use Rattle.std.specs.List.{flat_map, range_with_len}
use Rattle.std.proofs.Math.Seq.{take-set-lt}
use Rattle.std.proofs.lemmas.Bool.{cases_eq}
use Rattle.std.proofs.lemmas.List.{drop_all, drop_more, drop-set, get_or-take, get_or_append_left, get_or_default, length-map, take-append-drop, take-set, take-take}
use Rattle.std.proofs.lemmas.List.Elements.{All-cons, All-head, All-nil, All-set, All-tail}
use Rattle.cube_model.specs.Cells.{cells_of, leaf_places}
use Rattle.cube_model.specs.Limits.{MAX_DIMS, SPACE_LIMIT}
use Rattle.cube_model.specs.Tree.{Dimension}
use Rattle.region_algebra.specs.declared.wheel.Wheel.{Wheel}
use Rattle.region_algebra.specs.Space.{cell_total, is_region}
use Rattle.region_algebra.specs.Stepped.{IsStepped}
use Rattle.region_algebra.specs.Wheels.{AreWheels, IsOnLeaf, IsTurned, IsWalk, cells_at, cells_from, cells_over, code_at}
use Rattle.region_algebra.proofs.Turns.{Here, cells-at_end, cells-below, cells-here, step-before}

-- the wheel at another leaf
abbrev pub wheel_at : Wheel → ℕ → Wheel
wheel_at wheel leaf = record { first = wheel.first; end = wheel.end; leaf = leaf; step = wheel.step }

-- what is read past the end
abbrev pub no_wheel : Wheel
no_wheel = record { first = 0; end = 0; leaf = 0; step = 0 }

-- a wheel at another leaf changes the code by its steps
code_at-set : (wheels : List Wheel) (d leaf : ℕ) (wheel : Wheel) → d < length wheels → wheel ≡ get_or wheels d wheel → code_at (set wheels d (wheel_at wheel leaf)) + wheel.leaf * wheel.step ≡ code_at wheels + leaf * wheel.step
code_at-set [] d leaf wheel within is = absurd (omega arith)
code_at-set (w ∷ wheels) zero leaf wheel within is =
    let same : w.leaf * w.step ≡ wheel.leaf * wheel.step = ap (λ (v : Wheel). v.leaf * v.step) (sym is) in
    omega (arith, same)
code_at-set (w ∷ wheels) (suc d) leaf wheel within is = omega (arith, code_at-set wheels d leaf wheel (omega arith) is)

-- turned to the next leaf, it is one step more
code_at-next : (wheels : List Wheel) (d : ℕ) (wheel : Wheel) → d < length wheels → wheel ≡ get_or wheels d wheel → code_at wheels + wheel.step ≡ code_at (set wheels d (wheel_at wheel (wheel.leaf + 1)))
code_at-next wheels d wheel within is =
    let more : (wheel.leaf + 1) * wheel.step ≡ wheel.leaf * wheel.step + wheel.step = grind arith in
    omega (arith, code_at-set wheels d (wheel.leaf + 1) wheel within is, more)

-- turned back to its first leaf, it is fewer by all steps since then
code_at-first : (wheels : List Wheel) (d : ℕ) (wheel : Wheel) → d < length wheels → wheel ≡ get_or wheels d wheel → wheel.first ≤ wheel.leaf
    → ((wheel.leaf - wheel.first) * wheel.step ≤ code_at wheels) × (code_at wheels - (wheel.leaf - wheel.first) * wheel.step ≡ code_at (set wheels d (wheel_at wheel wheel.first)))
code_at-first wheels d wheel within is low =
    let whole : wheel.leaf ≡ (wheel.leaf - wheel.first) + wheel.first = omega arith in
    let parts : wheel.leaf * wheel.step ≡ (wheel.leaf - wheel.first) * wheel.step + wheel.first * wheel.step = ap (λ n. n * wheel.step) whole ∙ grind arith in
    let moved = code_at-set wheels d wheel.first wheel within is in
    (omega (arith, moved, parts), omega (arith, moved, parts))

-- what holds of all cells holds of those at one leaf
All-front : (P : ℕ → Type 0) (xs ys : List ℕ) → All P (xs ++ ys) → All P xs
All-front P xs ys all k d within =
    rw (← get_or_append_left xs ys d k within) (all k d (omega (arith, length-append xs ys)))

All-back : (P : ℕ → Type 0) (xs ys : List ℕ) → All P (xs ++ ys) → All P ys
All-back P [] ys all = all
All-back P (x ∷ xs) ys all = All-back P xs ys (All-tail P x (xs ++ ys) all)

All-at_leaf : (P : ℕ → Type 0) (block : ℕ → List ℕ) (first n leaf : ℕ) → first ≤ leaf → leaf < first + n → All P (flat_map block (range_with_len first n)) → All P (block leaf)
All-at_leaf P block first zero leaf low high all = absurd (omega arith)
All-at_leaf P block first (suc n) leaf low high all = elim (cases_eq leaf first) [
  | inl same ↦ rw same (All-front P (block first) (flat_map block (range_with_len (first + 1) n)) all)
  | inr other ↦ All-at_leaf P block (first + 1) n leaf (omega arith) (omega arith) (All-back P (block first) (flat_map block (range_with_len (first + 1) n)) all)
]

-- the cell where wheels stand is one of all
code_at-below : (wheels : List Wheel) (before n : ℕ) → All IsOnLeaf wheels → All (λ c. before + c < n) (cells_over wheels) → before + code_at wheels < n
code_at-below [] before n stand all = all 0 0 (omega arith)
code_at-below (w ∷ wheels) before n stand all =
    let on = All-head IsOnLeaf w wheels stand in
    let here = All-at_leaf (λ c. before + c < n) (cells_at w (cells_over wheels)) w.first (w.end - w.first) w.leaf on.low (omega (arith, on.low, on.high)) all in
    let rest : All (λ c. (before + w.leaf * w.step) + c < n) (cells_over wheels) = λ k d within.
    omega (arith, here k (w.leaf * w.step + d) (omega (arith, length-map (cells_over wheels) (λ (c : ℕ). w.leaf * w.step + c))), get_or-map-here (cells_over wheels) (w.leaf * w.step) k d) in
    omega (arith, code_at-below wheels (before + w.leaf * w.step) n (All-tail IsOnLeaf w wheels stand) rest)
  where
    get_or-map-here : (cells : List ℕ) (more k d : ℕ) → get_or (map (λ c. more + c) cells) k (more + d) ≡ more + get_or cells k d
    get_or-map-here [] more k d = refl
    get_or-map-here (c ∷ cells) more zero d = refl
    get_or-map-here (c ∷ cells) more (suc k) d = get_or-map-here cells more k d

code_at-small : (wheels : List Wheel) → All IsOnLeaf wheels → All (λ c. c < SPACE_LIMIT) (cells_over wheels) → code_at wheels < SPACE_LIMIT
code_at-small wheels stand limit = omega (arith, code_at-below wheels 0 SPACE_LIMIT stand (λ k d within. omega (arith, limit k d within)))

-- a wheel before others that stand at their last cell

over-turn : (w : Wheel) (leaf : ℕ) (old now : List Wheel) → cells_over now ≡ cells_over old → cells_over (wheel_at w leaf ∷ now) ≡ cells_over (w ∷ old)
over-turn w leaf old now over = rw over refl

-- at its last leaf there is only that cell
from-last : (w : Wheel) (wheels : List Wheel) → w.end ≤ w.leaf + 1 → cells_from wheels ≡ code_at wheels ∷ [] → cells_from (w ∷ wheels) ≡ code_at (w ∷ wheels) ∷ []
from-last w wheels last from =
    let none : w.end - (w.leaf + 1) ≡ 0 = omega arith in
    rw (none, from) refl

-- at its first leaf, before wheels that stand at their first cell, it has all cells before it
pub from-first : (w : Wheel) (old now : List Wheel) → w.first < w.end → cells_from now ≡ cells_over old → cells_over now ≡ cells_over old → cells_from (wheel_at w w.first ∷ now) ≡ cells_over (w ∷ old)
from-first w old now some from over =
    let more : w.end - w.first ≡ suc (w.end - (w.first + 1)) = omega arith in
    rw (from, over, more) refl

-- at another leaf, it is turned to the next one
from-next : (w : Wheel) (old now : List Wheel) → w.leaf + 1 < w.end → cells_from old ≡ code_at old ∷ [] → cells_from now ≡ cells_over old → cells_over now ≡ cells_over old
    → cells_from (w ∷ old) ≡ code_at (w ∷ old) ∷ cells_from (wheel_at w (w.leaf + 1) ∷ now)
from-next w old now some last from over =
    let more : w.end - (w.leaf + 1) ≡ suc (w.end - (w.leaf + 1 + 1)) = omega arith in
    rw (last, from, over, more) refl

-- the same behind other wheels
over-behind : (front old new : List Wheel) → cells_over new ≡ cells_over old → cells_over (front ++ new) ≡ cells_over (front ++ old)
over-behind [] old new over = over
over-behind (w ∷ front) old new over = over-turn w w.leaf (front ++ old) (front ++ new) (over-behind front old new over)

from-behind : (front old new : List Wheel) → cells_over new ≡ cells_over old → cells_from old ≡ code_at old ∷ cells_from new → cells_from (front ++ old) ≡ code_at (front ++ old) ∷ cells_from (front ++ new)
from-behind [] old new over from = from
from-behind (w ∷ front) old new over from = rw (from-behind front old new over from, over-behind front old new over) refl

-- Wheels from one on stood at their last cell and were turned back to the first.
pub record IsCarried (old : List Wheel) (d : ℕ) (now : List Wheel) : Type 0 where
  pub length : length now ≡ length old
  pub front : take d now ≡ take d old
  pub last : cells_from (drop d old) ≡ code_at (drop d old) ∷ []
  pub again : cells_from (drop d now) ≡ cells_over (drop d old)
  pub over : cells_over (drop d now) ≡ cells_over (drop d old)

carry_start : (old : List Wheel) (d : ℕ) → d ≡ length old → IsCarried old d old
carry_start old d all =
    let none : drop d old ≡ [] = drop_all d old (omega (arith, all)) in
    record { length = refl; front = refl; last = rw none refl; again = rw none refl; over = refl }

carried-over : (old now : List Wheel) (d : ℕ) → IsCarried old d now → cells_over now ≡ cells_over old
carried-over old now d carried =
    ap cells_over (sym (take-append-drop d now) ∙ ap (λ l. l ++ drop d now) carried.front)
    ∙ over-behind (take d old) (drop d old) (drop d now) carried.over
    ∙ ap cells_over (take-append-drop d old)

-- what is read at a place of the wheels that count
read_there : (wheels : List Wheel) (n d : ℕ) (default : Wheel) → d < n → n ≤ length wheels → get_or wheels d default ≡ get_or (take n wheels) d (get_or wheels d default)
read_there wheels n d default within few = get_or_default wheels d default (get_or wheels d default) (omega arith) ∙ sym (get_or-take n wheels d (get_or wheels d default) within)

-- the wheel before them, among the wheels as they were and as they are
module _ (old now : List Wheel) (d e : ℕ) (w : Wheel) (carried : IsCarried old e now) (within : e ≤ length now) (some : 0 < e) (next : d ≡ e - 1) (read : w ≡ get_or now d w) where
  before-here : take d now ≡ take d old
  before-here = sym (take-take d e now (omega arith)) ∙ ap (take d) carried.front ∙ take-take d e old (omega arith)

  read_old : w ≡ get_or old d w
  read_old = read ∙ sym (get_or-take e now d w (omega arith)) ∙ ap (λ l. get_or l d w) carried.front ∙ get_or-take e old d w (omega arith)

  old-here : drop d old ≡ w ∷ drop e old
  old-here =
      let behind : d + 1 ≡ e = omega arith in
      drop_more old d w (omega (arith, carried.length)) ∙ ap (λ v. v ∷ drop (d + 1) old) (sym read_old) ∙ ap (λ n. w ∷ drop n old) behind

  now-here : (leaf : ℕ) → drop d (set now d (wheel_at w leaf)) ≡ wheel_at w leaf ∷ drop e now
  now-here leaf =
      let behind : d + 1 ≡ e = omega arith in
      drop-set now d (wheel_at w leaf) (omega arith) ∙ ap (λ n. wheel_at w leaf ∷ drop n now) behind

  old-parts : old ≡ take d old ++ w ∷ drop e old
  old-parts = sym (take-append-drop d old) ∙ ap (λ l. take d old ++ l) old-here

  now-parts : (leaf : ℕ) → set now d (wheel_at w leaf) ≡ take d old ++ wheel_at w leaf ∷ drop e now
  now-parts leaf =
      sym (take-append-drop d (set now d (wheel_at w leaf))) ∙ ap (λ l. take d (set now d (wheel_at w leaf)) ++ l) (now-here leaf)
      ∙ ap (λ l. l ++ wheel_at w leaf ∷ drop e now) (take-set now d (wheel_at w leaf) ∙ before-here)

  over-parts : (leaf : ℕ) → cells_over (set now d (wheel_at w leaf)) ≡ cells_over old
  over-parts leaf = ap cells_over (now-parts leaf) ∙ over-behind (take d old) (w ∷ drop e old) (wheel_at w leaf ∷ drop e now) (over-turn w leaf (drop e old) (drop e now) carried.over) ∙ ap cells_over (sym old-parts)

  -- it goes on to its next leaf
  turned_on : (cell_old cell_now cell_new : ℕ) → All IsOnLeaf now → w.leaf + 1 < w.end → cell_old ≡ code_at old → cell_now ≡ code_at now → cell_new ≡ cell_now + w.step → IsTurned old (set now d (wheel_at w (w.leaf + 1))) cell_old cell_new true
  turned_on cell_old cell_now cell_new stand more first here is =
      let on : IsOnLeaf w = rw read (stand d w (omega arith)) in
      record {
        stand = All-set IsOnLeaf now d (wheel_at w (w.leaf + 1)) (record { low = omega (arith, on.low); high = more }) stand;
        over = over-parts (w.leaf + 1);
        here = omega (arith, is, here, code_at-next now d w (omega arith) read);
        from =
            ap cells_from old-parts
            ∙ from-behind (take d old) (w ∷ drop e old) (wheel_at w (w.leaf + 1) ∷ drop e now) (over-turn w (w.leaf + 1) (drop e old) (drop e now) carried.over)
            (from-next w (drop e old) (drop e now) more carried.last carried.again carried.over)
            ∙ ap (λ c. c ∷ cells_from (take d old ++ wheel_at w (w.leaf + 1) ∷ drop e now)) (ap code_at (sym old-parts) ∙ sym first)
            ∙ ap (λ l. cell_old ∷ cells_from l) (sym (now-parts (w.leaf + 1)));
      }

  -- or, at its last leaf, back to its first
  carry_next : All IsOnLeaf now → w.end ≤ w.leaf + 1 → IsCarried old d (set now d (wheel_at w w.first)) × All IsOnLeaf (set now d (wheel_at w w.first))
  carry_next stand last =
      let on : IsOnLeaf w = rw read (stand d w (omega arith)) in (
        record {
          length = length-set now d (wheel_at w w.first) ∙ carried.length;
          front = take-set now d (wheel_at w w.first) ∙ before-here;
          last = rw old-here (from-last w (drop e old) last carried.last);
          again = rw (old-here, now-here w.first) (from-first w (drop e old) (drop e now) (omega (arith, on.low, on.high)) carried.again carried.over);
          over = rw (old-here, now-here w.first) (over-turn w w.first (drop e old) (drop e now) carried.over);
        },
        All-set IsOnLeaf now d (wheel_at w w.first) (record { low = omega arith; high = omega (arith, on.low, on.high) }) stand,
      )

  -- the code after either
  code_on : All IsOnLeaf now → All (λ c. c < SPACE_LIMIT) (cells_over old) → w.leaf + 1 < w.end → code_at now + w.step < SPACE_LIMIT
  code_on stand limit more =
      let on : IsOnLeaf w = rw read (stand d w (omega arith)) in
      let stands : All IsOnLeaf (set now d (wheel_at w (w.leaf + 1))) = All-set IsOnLeaf now d (wheel_at w (w.leaf + 1)) (record { low = omega (arith, on.low); high = more }) stand in
      omega (arith, code_at-next now d w (omega arith) read, code_at-small (set now d (wheel_at w (w.leaf + 1))) stands (rw (over-parts (w.leaf + 1)) limit))

-- What holds of the first n wheels of an array while they are turned on: those from e on are back at their first leaf.
pub record IsTurning (old wheels : List Wheel) (n e code : ℕ) : Type 0 where
  pub few : n ≤ length wheels
  pub within : e ≤ n
  pub carried : IsCarried (take n old) e (take n wheels)
  pub stand : All IsOnLeaf (take n wheels)
  pub here : code ≡ code_at (take n wheels)
  pub limit : All (λ c. c < SPACE_LIMIT) (cells_over (take n old))

pub turning_start : (wheels : List Wheel) (n cell : ℕ) → n ≤ length wheels → All IsOnLeaf (take n wheels) → cell ≡ code_at (take n wheels) → All (λ c. c < SPACE_LIMIT) (cells_over (take n wheels)) → IsTurning wheels wheels n n cell
turning_start wheels n cell few stand here limit = record {
  few = few;
  within = omega arith;
  carried = carry_start (take n wheels) n (omega (arith, length-take n wheels));
  stand = stand;
  here = here;
  limit = limit;
}

-- the wheel before those that are back
module _ (old wheels : List Wheel) (n d e code : ℕ) (turning : IsTurning old wheels n e code) (some : 0 < e) (next : d ≡ e - 1) where
  many : e ≤ length (take n wheels)
  many = omega (arith, turning.few, turning.within, length-take n wheels)

  read : get_or wheels d no_wheel ≡ get_or (take n wheels) d (get_or wheels d no_wheel)
  read = read_there wheels n d no_wheel (omega (arith, turning.within)) turning.few

  on : IsOnLeaf (get_or wheels d no_wheel)
  on = rw read (turning.stand d (get_or wheels d no_wheel) (omega (arith, many)))

  written : (leaf : ℕ) → take n (set wheels d (wheel_at (get_or wheels d no_wheel) leaf)) ≡ set (take n wheels) d (wheel_at (get_or wheels d no_wheel) leaf)
  written leaf = take-set-lt n wheels d (wheel_at (get_or wheels d no_wheel) leaf) (omega (arith, turning.within))

  -- it goes on to its next leaf
  pub turning-fits : (get_or wheels d no_wheel).leaf + 1 < (get_or wheels d no_wheel).end → code + (get_or wheels d no_wheel).step < SPACE_LIMIT
  turning-fits more =
      omega (arith, turning.here, code_on (take n old) (take n wheels) d e (get_or wheels d no_wheel) turning.carried many some next read turning.stand turning.limit more)

  pub turning-on : (cell : ℕ) → cell ≡ code_at (take n old) → (get_or wheels d no_wheel).leaf + 1 < (get_or wheels d no_wheel).end
      → IsTurned (take n old) (take n (set wheels d (wheel_at (get_or wheels d no_wheel) ((get_or wheels d no_wheel).leaf + 1)))) cell (code + (get_or wheels d no_wheel).step) true
  turning-on cell first more =
      rw (written ((get_or wheels d no_wheel).leaf + 1))
      (turned_on (take n old) (take n wheels) d e (get_or wheels d no_wheel) turning.carried many some next read cell code (code + (get_or wheels d no_wheel).step) turning.stand more first turning.here refl)

  -- or back to its first, which takes so much from the code
  module _ (steps : ℕ) (is_steps : steps ≡ (get_or wheels d no_wheel).leaf - (get_or wheels d no_wheel).first) where
    back : (steps * (get_or wheels d no_wheel).step ≤ code_at (take n wheels)) × (code_at (take n wheels) - steps * (get_or wheels d no_wheel).step ≡ code_at (set (take n wheels) d (wheel_at (get_or wheels d no_wheel) (get_or wheels d no_wheel).first)))
    back = rw is_steps (code_at-first (take n wheels) d (get_or wheels d no_wheel) (omega (arith, many)) read on.low)

    pub turning-back : (steps * (get_or wheels d no_wheel).step ≤ code) × (code < SPACE_LIMIT)
    turning-back =
        let limit : All (λ c. c < SPACE_LIMIT) (cells_over (take n wheels)) = rw (carried-over (take n old) (take n wheels) e turning.carried) turning.limit in
        (omega (arith, back.0, turning.here), omega (arith, turning.here, code_at-small (take n wheels) turning.stand limit))

    pub turning_next : (get_or wheels d no_wheel).end ≤ (get_or wheels d no_wheel).leaf + 1
        → IsTurning old (set wheels d (wheel_at (get_or wheels d no_wheel) (get_or wheels d no_wheel).first)) n d (code - steps * (get_or wheels d no_wheel).step)
    turning_next last =
        let turned = carry_next (take n old) (take n wheels) d e (get_or wheels d no_wheel) turning.carried many some next read turning.stand last in
        let same = written (get_or wheels d no_wheel).first in
        record {
          few = omega (arith, turning.few, length-set wheels d (wheel_at (get_or wheels d no_wheel) (get_or wheels d no_wheel).first));
          within = omega (arith, turning.within);
          carried = rw same turned.0;
          stand = rw same turned.1;
          here = rw same (omega (arith, back.1, turning.here));
          limit = turning.limit;
        }

-- behind all cells they stand at the first again
pub turning_end : (old wheels : List Wheel) (n e cell code : ℕ) → e ≡ 0 → cell ≡ code_at (take n old) → IsTurning old wheels n e code → IsTurned (take n old) (take n wheels) cell code false
turning_end old wheels n e cell code none first turning =
    let start : IsCarried (take n old) 0 (take n wheels) = rw (← none) turning.carried in
    record { stand = turning.stand; over = start.over; here = turning.here; from = start.last ∙ ap (λ c. c ∷ []) (sym first) }

-- the wheels of a region

-- a wheel written before others, of which only so many count
drop-take-set : {X : Type 0} (xs : List X) (d e n : ℕ) (x : X) → e ≡ d + 1 → e ≤ n → n ≤ length xs → drop d (take n (set xs d x)) ≡ x ∷ drop e (take n xs)
drop-take-set [] d e n x next within few = absurd (omega arith)
drop-take-set (y ∷ xs) zero (suc zero) (suc n) x next within few = refl
drop-take-set (y ∷ xs) zero (suc (suc e)) n x next within few = absurd (omega arith)
drop-take-set (y ∷ xs) d zero n x next within few = absurd (omega arith)
drop-take-set (y ∷ xs) d (suc e) zero x next within few = absurd (omega arith)
drop-take-set (y ∷ xs) (suc d) (suc e) (suc n) x next within few = drop-take-set xs d e n x (omega arith) (omega arith) (omega arith)

pub wheels_start : (dims : List Dimension) (nodes : List ℕ) (wheels : List Wheel) (n : ℕ) → is_region dims nodes ≡ true → n ≡ length dims → n ≤ length wheels → AreWheels (drop n dims) (drop n nodes) (drop n (take n wheels))
wheels_start dims nodes wheels n names all few =
    let none : drop n (take n wheels) ≡ [] = drop_all n (take n wheels) (omega (arith, length-take n wheels)) in
    let one = cells-at_end dims nodes n names (omega (arith, all)) in
    record { stand = rw none (All-nil IsOnLeaf); over = rw (none, one) refl; from = rw (none, one) refl }

pub wheels_next : (dims : List Dimension) (steps nodes : List ℕ) (wheels : List Wheel) (n d e first end : ℕ) (dim : Dimension) (node : ℕ) (wheel : Wheel) → IsStepped cell_total dims steps → Here dims nodes d e dim node → n ≡ length dims → n ≤ length wheels → e ≤ n → 0 < e → d ≡ e - 1
    → leaf_places dim node ≡ range_with_len first (end - first) → first < end → wheel ≡ record { first = first; end = end; leaf = first; step = get_or steps d 0 } → AreWheels (drop e dims) (drop e nodes) (drop e (take n wheels))
    → AreWheels (drop d dims) (drop d nodes) (drop d (take n (set wheels d wheel)))
wheels_next dims steps nodes wheels n d e first end dim node wheel stepped at all few within behind next range some is has =
    let step = step-before cell_total dims steps d e stepped (omega (arith, all)) behind next in
    let more : drop d (take n (set wheels d wheel)) ≡ wheel ∷ drop e (take n wheels) = drop-take-set wheels d e n wheel (omega arith) within few in
    let cells = cells-here dims nodes d e first end (get_or steps d 0) dim node at range step in
    record {
      stand = rw (more, is) (All-cons IsOnLeaf (record { first = first; end = end; leaf = first; step = get_or steps d 0 }) (drop e (take n wheels)) (record { low = omega arith; high = some }) has.stand);
      over = rw (more, is, cells, has.over) refl;
      from = rw (more, is, cells) (from-first (record { first = first; end = end; leaf = first; step = get_or steps d 0 }) (drop e (take n wheels)) (drop e (take n wheels)) some (has.from ∙ sym has.over) refl ∙ rw has.over refl);
    }

-- a walk at the first cell

head-from : (wheels : List Wheel) → (rest : List ℕ) × (cells_from wheels ≡ code_at wheels ∷ rest)
head-from [] = ([], refl)
head-from (w ∷ wheels) =
    let tail = head-from wheels in
    (map (λ (c : ℕ). w.leaf * w.step + c) tail.0 ++ flat_map (cells_at w (cells_over wheels)) (range_with_len (w.leaf + 1) (w.end - (w.leaf + 1))), rw tail.1 refl)

pub walk_start : (dims : List Dimension) (nodes : List ℕ) (wheels : List Wheel) (n cell : ℕ) → n ≡ length dims → n ≤ MAX_DIMS → cell_total dims < SPACE_LIMIT → AreWheels dims nodes (take (length dims) wheels) → slice_get (cells_of dims nodes) 0 ≡ Some cell → IsWalk wheels n cell
walk_start dims nodes wheels n cell all few limit are is =
    let tail = head-from (take (length dims) wheels) in
    let found : slice_get (cells_from (take (length dims) wheels)) 0 ≡ Some cell = ap (λ l. slice_get l 0) are.from ∙ is in
    let head : Some (code_at (take (length dims) wheels)) ≡ Some cell = ap (λ l. slice_get l 0) (sym tail.1) ∙ found in
    let here : cell ≡ code_at (take (length dims) wheels) = cc in
    rw all (record {
      few = omega (arith, all);
      stand = are.stand;
      here = here;
      limit = rw are.over (λ k d within. omega (arith, cells-below dims nodes k d within));
    })

-- a walk turned on
pub walk_on : (old new : List Wheel) (dims cell_old cell_new : ℕ) (has_more : Bool) → IsWalk old dims cell_old → IsTurned (take dims old) (take dims new) cell_old cell_new has_more → IsWalk new dims cell_new
walk_on old new dims cell_old cell_new has_more walk turned = record { few = walk.few; stand = turned.stand; here = turned.here; limit = rw turned.over walk.limit }
