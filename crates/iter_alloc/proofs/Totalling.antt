-- A column is added up fact by fact.
use Rattle.cube_model.specs.declared.edit.Fact.{Fact}
use Rattle.cube_model.specs.Answer.{total_by}
use Rattle.cube_model.specs.Limits.{MAX_FACTS, MAX_VALUE}
use Rattle.iter_alloc.specs.Iterated.{value_of}
use Rattle.iter_alloc.specs.Portions.{PORTION_LIMIT, AreValued, column_total}
use Rattle.std.proofs.Common.{◌≡◌, ℕ, zero, suc, ◌+◌, ◌*◌, ◌^◌, ◌<◌, ◌≤◌, List, [], ◌∷◌, get_or, drop, length, map, refl, ap, sym, ◌∙◌, subst, arith, ℤ, pos, ◌+ℤ◌, ◌*ℤ◌, nat_abs}
use Rattle.std.proofs.Math.IntN.{+ℤ_assoc}
use Rattle.std.proofs.Math.Nat.{mul-le-mul}
use Rattle.std.proofs.lemmas.Int.{ints, unsigned_abs-mul}
use Rattle.std.proofs.lemmas.List.{drop_more}
use Rattle.std.proofs.lemmas.List.Elements.{All-head, All-tail}
use Rattle.std.specs.Prelude.{All}

-- what is added, and what is left to add, are all
pub record Totalling (column columns : ℕ) (facts : List Fact) (portions : List ℕ) (left : List Fact) (i : ℕ) (total : ℤ) : Type 0 where
  pub all : total +ℤ column_total column left (drop i portions) ≡ column_total column facts portions
  pub long : length left + i ≡ length portions
  pub values : AreValued columns left
  pub size : nat_abs total ≤ i * (MAX_VALUE * PORTION_LIMIT)

pub value-small : (column columns : ℕ) (f : Fact) → column < columns → length f.cols + 1 ≡ columns → All (λ value. nat_abs value ≤ MAX_VALUE) f.cols → nat_abs (value_of column f) ≤ MAX_VALUE
value-small zero columns f within width small = omega arith
value-small (suc column) columns f within width small = small column (pos 0) (omega (arith, within, width))

times-small : (v : ℤ) (p : ℕ) → nat_abs v ≤ MAX_VALUE → p ≤ PORTION_LIMIT → nat_abs (v *ℤ pos p) ≤ MAX_VALUE * PORTION_LIMIT
times-small v p small low = omega (arith, unsigned_abs-mul v (pos p), mul-le-mul small low)

sum-small : (x y : ℤ) (m n : ℕ) → nat_abs x ≤ m → nat_abs y ≤ n → nat_abs (x +ℤ y) ≤ m + n
sum-small x y m n le_x le_y = omega (arith, ints)

module _ (column columns : ℕ) (facts : List Fact) (portions : List ℕ) (within : column < columns) (few : length facts ≤ MAX_FACTS) (as_many : length portions ≡ length facts) (low : All (λ portion. portion ≤ PORTION_LIMIT) portions) where
  pub total-start : (left : List Fact) → left ≡ facts → AreValued columns facts → Totalling column columns facts portions left 0 (pos 0)
  total-start left is values =
      subst (λ (fs : List Fact). Totalling column columns facts portions fs 0 (pos 0)) (sym is) (record { all = omega (arith, ints); long = omega (arith, as_many); values = values; size = omega arith })

  module _ (left : List Fact) (i : ℕ) (total : ℤ) (totalling : Totalling column columns facts portions left i total) (f : Fact) (others : List Fact) (first : left ≡ f ∷ others) where
    pub total-within : i < length portions
    total-within = omega (arith, totalling.long, ap (λ (fs : List Fact). length fs) first)

    valued : AreValued columns (f ∷ others)
    valued = subst (λ (fs : List Fact). AreValued columns fs) first totalling.values

    pub total-width : length f.cols + 1 ≡ columns
    total-width = All-head (λ (g : Fact). length g.cols + 1 ≡ columns) f others valued.width

    abbrev portion : ℕ
    portion = get_or portions i 0

    small : nat_abs (value_of column f *ℤ pos portion) ≤ MAX_VALUE * PORTION_LIMIT
    small = times-small (value_of column f) portion (value-small column columns f within total-width (All-head (λ (g : Fact). All (λ value. nat_abs value ≤ MAX_VALUE) g.cols) f others valued.small)) (low i 0 total-within)

    next-size : nat_abs (total +ℤ value_of column f *ℤ pos portion) ≤ i * (MAX_VALUE * PORTION_LIMIT) + MAX_VALUE * PORTION_LIMIT
    next-size = sum-small total (value_of column f *ℤ pos portion) (i * (MAX_VALUE * PORTION_LIMIT)) (MAX_VALUE * PORTION_LIMIT) totalling.size small

    pub total-fits : nat_abs (total +ℤ value_of column f *ℤ pos portion) ≤ 2 ^ 126
    total-fits = omega (arith, next-size, total-within, as_many, few)

    pub total-next : Totalling column columns facts portions others (i + 1) (total +ℤ value_of column f *ℤ pos portion)
    total-next = record {
      all =
          +ℤ_assoc total (value_of column f *ℤ pos portion) (column_total column others (drop (i + 1) portions))
          ∙ ap (λ (ps : List ℕ). total +ℤ column_total column (f ∷ others) ps) (sym (drop_more portions i 0 total-within))
          ∙ ap (λ (fs : List Fact). total +ℤ column_total column fs (drop i portions)) (sym first)
          ∙ totalling.all;
      long = omega (arith, totalling.long, ap (λ (fs : List Fact). length fs) first);
      values = record { width = All-tail (λ (g : Fact). length g.cols + 1 ≡ columns) f others valued.width; small = All-tail (λ (g : Fact). All (λ value. nat_abs value ≤ MAX_VALUE) g.cols) f others valued.small };
      size = omega (arith, next-size);
    }

pub total-all : (column columns : ℕ) (facts : List Fact) (portions : List ℕ) (left : List Fact) (i : ℕ) (total : ℤ) → left ≡ [] → Totalling column columns facts portions left i total → total ≡ column_total column facts portions
total-all column columns facts portions left i total none totalling =
    zero-right total ∙ ap (λ (fs : List Fact). total +ℤ column_total column fs (drop i portions)) (sym none) ∙ totalling.all
  where
    zero-right : (z : ℤ) → z ≡ z +ℤ pos 0
    zero-right z = omega (arith, ints)

-- where the portions are those of the facts, the total is that of the facts
pub total-by_facts : (column : ℕ) (p : Fact → ℕ) (facts : List Fact) → column_total column facts (map p facts) ≡ total_by (λ f. value_of column f *ℤ pos (p f)) facts
total-by_facts column p [] = refl
total-by_facts column p (f ∷ facts) = ap (λ z. value_of column f *ℤ pos (p f) +ℤ z) (total-by_facts column p facts)
