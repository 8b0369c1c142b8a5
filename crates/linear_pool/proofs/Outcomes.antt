-- What pooled outcomes tell, one by one and together.
use Rattle.std.proofs.Common.{get_or, ◌≡◌, ◌≢◌, ℕ, ◌+◌, ◌*◌, ◌/◌, ◌<◌, ◌≤◌, List, [], ◌∷◌, length, map, Option, Some, None, slice_get, subst, refl, sym, ap, ◌∙◌, arith, ℤ, pos, ◌+ℤ◌, ◌*ℤ◌}
use Rattle.std.specs.Prelude.{All, IfSome, IsSomeAnd}
use Rattle.std.specs.Int.{◌∣◌}
use Rattle.std.specs.List.{range_with_len}
use Rattle.std.proofs.lemmas.List.{length-map}
use Rattle.std.proofs.lemmas.List.Elements.{All-head, All-map, All-tail, All-weaker}
use Rattle.std.proofs.lemmas.List.FromFn.{get_or-range_with_len, length-map-range_with_len, length-range_with_len, get_or-map-range_with_len}
use Rattle.std.proofs.lemmas.Option.{slice_get-get_or}
use Rattle.std.proofs.Math.Nat.{mul-div_cancel', mul-pos, mul_comm}
use Rattle.cube_model.specs.declared.term.Term.{Term}
use Rattle.cube_model.specs.Answer.{total_by}
use Rattle.cube_model.proofs.Products.{times-sum}
use Rattle.group_sum.specs.Terms.{AreTerms, TermList}
use Rattle.exact_fraction.specs.declared.quotients.Quotient.{Quotient}
use Rattle.exact_fraction.specs.declared.quotients.Quotient.TheVariants.{Undefined, Is}
use Rattle.exact_fraction.specs.Fraction.{Fraction, column_fractions, sum_over, abs_over, term_fraction}
use Rattle.exact_fraction.specs.Laws.{EqualsQuotient, IsCommonMultiple, TellsQuotient}
use Rattle.exact_fraction.specs.Moderate.{IsModerate}
use Rattle.exact_fraction.specs.Ratio.{ratio_of}
use Rattle.exact_fraction.proofs.Products.{eq_of_times-eq-times, times-times, times_swapped}
use Rattle.exact_fraction.proofs.Quoted.{ratio_tells}
use Rattle.exact_fraction.proofs.Shares.{count_some}
use Rattle.fact_records.specs.declared.shape.Kind.{Kind}
use Rattle.fact_records.specs.declared.shape.Kind.TheVariants.{Number, Parts}
use Rattle.fact_records.specs.declared.shape.Measure.{Measure}
use Rattle.fact_records.specs.Outcomes.{AddsUpAtEach, IsScaled, columns_of, numerator_in}
use Rattle.fact_records.specs.Shape.{width_of}
use Rattle.linear_pool.specs.Pool.{AddUpToOne, AreOfOneTotal, HasScaleTo, TellsOutcomes, fraction_in, pool_of, scale_of}
use Rattle.linear_pool.proofs.Columns.{IsWhole, column_multiple, columns_scaled, den_product, whole_product}

-- a quotient that was told as a fraction is it
told_equal : (scale : ℕ) (fs cs : List Fraction) (q : Quotient) (f : Fraction) → TellsQuotient scale fs cs q → fraction_in q ≡ Some f → EqualsQuotient scale fs cs f.num f.den
told_equal scale fs cs Undefined f tells told = cc
told_equal scale fs cs (Is lo hi None) f tells told = cc
told_equal scale fs cs (Is lo hi (Some x)) f tells told =
    let same : record { num = x.0; den = x.1 } ≡ f = cc in
    let P : Fraction → Type 0 = λ f. EqualsQuotient scale fs cs f.num f.den in
    subst P same tells.equal

-- a share of a fraction, by what the fraction is
share_times : (num sum : ℤ) (den count multiple : ℕ) → den ∣ multiple → num *ℤ pos count ≡ sum *ℤ pos den → num *ℤ pos (multiple / den) *ℤ pos count ≡ sum *ℤ pos multiple
share_times num sum den count multiple divides equal =
    times_swapped num (multiple / den) count ∙ ap (λ z. z *ℤ pos (multiple / den)) equal ∙ times-times sum den (multiple / den) ∙ ap (λ n. sum *ℤ pos n) (mul-div_cancel' den divides)

module _ (list : TermList) (scale : ℕ) (are : AreTerms list) (moderate : IsModerate list.terms) (some : 1 ≤ length list.terms) (some_scale : 1 ≤ scale) (small : scale ≤ 1_000_000) where
  -- the quotient of a column is told
  tells : (column : ℕ) → column < list.columns → TellsQuotient scale (column_fractions column list.terms) (column_fractions 0 list.terms) (ratio_of column scale list.terms)
  tells column within = ratio_tells list column scale are moderate within some some_scale small

  -- and it is defined, since there is a term
  defined : (column : ℕ) → column < list.columns → ratio_of column scale list.terms ≢ Undefined
  defined column within undefined =
      let none : column_fractions column list.terms ≡ [] = subst (TellsQuotient scale (column_fractions column list.terms) (column_fractions 0 list.terms)) undefined (tells column within) in
      omega (arith, length-map list.terms (term_fraction column), ap (λ (fs : List Fraction). length fs) none)

  -- the fractions of several columns add up to the columns together
  fractions_over : (multiple m : ℕ) (columns : List ℕ) (fs : List Fraction) → IsWhole multiple list.terms → All (λ column. column < list.columns) columns
      → map (λ q. fraction_in q) (map (λ column. ratio_of column scale list.terms) columns) ≡ map (λ f. Some f) fs → IsCommonMultiple m fs
      → sum_over m fs *ℤ pos (abs_over multiple (column_fractions 0 list.terms) * scale) ≡ total_by (λ column. sum_over multiple (column_fractions column list.terms)) columns *ℤ pos m
  fractions_over multiple m [] [] whole within told is = ap pos (omega arith)
  fractions_over multiple m [] (f ∷ fs) whole within told is = cc
  fractions_over multiple m (column ∷ columns) [] whole within told is = cc
  fractions_over multiple m (column ∷ columns) (f ∷ fs) whole within told is =
      let cs = column_fractions 0 list.terms in
      let count = abs_over multiple cs * scale in
      let sum = sum_over multiple (column_fractions column list.terms) in
      let divides = All-head (λ (g : Fraction). g.den ∣ m) f fs is.each in
      let others : IsCommonMultiple m fs = record { some = is.some; each = All-tail (λ (g : Fraction). g.den ∣ m) f fs is.each } in
      let told_here : fraction_in (ratio_of column scale list.terms) ≡ Some f = cc in
      let told_others : map (λ q. fraction_in q) (map (λ column. ratio_of column scale list.terms) columns) ≡ map (λ f. Some f) fs = cc in
      let equals = told_equal scale (column_fractions column list.terms) cs (ratio_of column scale list.terms) f (tells column (All-head (λ c. c < list.columns) column columns within)) told_here in
      let equal = equals multiple (column_multiple multiple column list.terms whole) (column_multiple multiple 0 list.terms whole) in
      let here = share_times f.num sum f.den count m divides equal in
      let rest = fractions_over multiple m columns fs whole (All-tail (λ c. c < list.columns) column columns within) told_others others in
      times-sum (f.num *ℤ pos (m / f.den)) (sum_over m fs) count ∙ ap (λ z. z +ℤ sum_over m fs *ℤ pos count) here ∙ ap (λ z. sum *ℤ pos m +ℤ z) rest
      ∙ sym (times-sum sum (total_by (λ column. sum_over multiple (column_fractions column list.terms)) columns) m)

  -- so where these are the scale times the count, the fractions add up to 1
  one_of : (columns : List ℕ) → All (λ column. column < list.columns) columns → All (λ t. total_by (numerator_in t) columns ≡ pos (scale * t.count)) list.terms
      → AddUpToOne (map (λ column. ratio_of column scale list.terms) columns)
  one_of columns within each fs told m is =
      let multiple = den_product list.terms in
      let cs = column_fractions 0 list.terms in
      let whole = whole_product list.columns 1 list.terms (omega arith) are.terms in
      let count = abs_over multiple cs * scale in
      let some_count : 1 ≤ count = mul-pos (count_some list.columns multiple list.terms some are.terms (column_multiple multiple 0 list.terms whole)) some_scale in
      eq_of_times-eq-times (sum_over m fs) (pos m) count some_count
      (fractions_over multiple m columns fs whole within told is ∙ ap (λ z. z *ℤ pos m) (columns_scaled multiple list.terms whole scale columns each) ∙ ap pos (mul_comm count m))

-- the scale of a distribution
scale_within : (most : ℕ) (kind : Kind) → HasScaleTo most kind → (1 ≤ scale_of kind) × (scale_of kind ≤ most)
scale_within most Number has = absurd has
scale_within most (Parts scale outcomes) has = has

scaled_is : (most : ℕ) (kind : Kind) (count : ℕ) (sum : ℤ) → HasScaleTo most kind → IsScaled kind count sum → sum ≡ pos (scale_of kind * count)
scaled_is most Number count sum has is = absurd has
scaled_is most (Parts scale outcomes) count sum has is = is

-- the quotients of the columns of a measure
pool_is : (m : Measure) (terms : List Term) (columns scale : ℕ) (pooled : List Quotient) → columns ≡ width_of m.kind → scale ≡ scale_of m.kind → pooled ≡ map (λ column. ratio_of column scale terms) (range_with_len m.first_col columns)
    → pooled ≡ pool_of (Some m) terms
pool_is m terms columns scale pooled columns_are scale_is told =
    told ∙ ap (λ n. map (λ column. ratio_of column scale terms) (range_with_len m.first_col n)) columns_are ∙ ap (λ s. map (λ column. ratio_of column s terms) (columns_of m)) scale_is

-- what they tell
pub record PoolTells (m : Option Measure) (terms : List Term) (pooled : List Quotient) : Type 0 where
  pub each : TellsOutcomes m terms pooled
  pub some : All (λ q. q ≢ Undefined) pooled
  pub one : AreOfOneTotal m terms → AddUpToOne pooled

module _ (list : TermList) (m : Measure) (are : AreTerms list) (moderate : IsModerate list.terms) (some : 1 ≤ length list.terms) (has : HasScaleTo 1_000_000 m.kind) (inside : m.first_col + width_of m.kind ≤ list.columns)
    (pooled : List Quotient) (is : pooled ≡ pool_of (Some m) list.terms) where
  abbrev quotient_at : ℕ → Quotient
  quotient_at column = ratio_of column (scale_of m.kind) list.terms

  columns_within : All (λ column. column < list.columns) (columns_of m)
  columns_within = λ k d lt.
      let lower : k < width_of m.kind = omega (arith, length-range_with_len m.first_col (width_of m.kind)) in
      rw (get_or-range_with_len m.first_col (width_of m.kind) k d lower) (omega arith)

  each_tells : TellsOutcomes (Some m) list.terms pooled
  each_tells k lt =
      let lower : k < width_of m.kind = omega (arith, ap (λ (qs : List Quotient). length qs) is, length-map-range_with_len quotient_at m.first_col (width_of m.kind)) in
      let at : slice_get pooled k ≡ Some (quotient_at (m.first_col + k)) =
      slice_get-get_or pooled k Undefined lt ∙ ap (λ (qs : List Quotient). Some (get_or qs k Undefined)) is ∙ ap (λ q. Some q) (get_or-map-range_with_len quotient_at m.first_col (width_of m.kind) k (m.first_col + k) Undefined lower refl) in
      rw at (tells list (scale_of m.kind) are moderate some (scale_within _ m.kind has).0 (scale_within _ m.kind has).1 (m.first_col + k) (omega arith))

  each_defined : All (λ q. q ≢ Undefined) pooled
  each_defined =
      rw is (All-map (λ q. q ≢ Undefined) quotient_at (columns_of m)
      (All-weaker (λ column. column < list.columns) (λ column. quotient_at column ≢ Undefined) (λ column within. defined list (scale_of m.kind) are moderate some (scale_within _ m.kind has).0 (scale_within _ m.kind has).1 column within) (columns_of m) columns_within))

  all_one : AddsUpAtEach list.terms m → AddUpToOne pooled
  all_one each =
      rw is (one_of list (scale_of m.kind) are moderate some (scale_within _ m.kind has).0 (scale_within _ m.kind has).1 (columns_of m) columns_within
      (λ k d lt. scaled_is 1_000_000 m.kind (get_or list.terms k d).count _ has (each k d lt)))

-- the same of the measure at a place
pub pool_tells : {list : TermList} {found : Option Measure} {m : Measure} {columns scale : ℕ} {pooled : List Quotient} → AreTerms list → IsModerate list.terms → 1 ≤ length list.terms
    → found ≡ Some m → IsSomeAnd found (λ m. HasScaleTo 1_000_000 m.kind) → IfSome found (λ m. m.first_col + width_of m.kind ≤ list.columns)
    → columns ≡ width_of m.kind → scale ≡ scale_of m.kind → pooled ≡ map (λ column. ratio_of column scale list.terms) (range_with_len m.first_col columns) → PoolTells found list.terms pooled
pool_tells {list} {found} {m} {columns} {scale} {pooled} are moderate some there has inside columns_are scale_is told =
    let has_scale : HasScaleTo 1_000_000 m.kind = rw there at has in
    let is_inside : m.first_col + width_of m.kind ≤ list.columns = rw there at inside in
    let is = pool_is m list.terms columns scale pooled columns_are scale_is told in
    rw there (record {
      each = each_tells list m are moderate some has_scale is_inside pooled is;
      some = each_defined list m are moderate some has_scale is_inside pooled is;
      one = all_one list m are moderate some has_scale is_inside pooled is;
    })
