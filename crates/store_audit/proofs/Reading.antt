-- Facts that are read one after another.
use Rattle.std.proofs.Common.{◌≡◌, ℕ, zero, suc, ◌+◌, ◌<◌, ◌≤◌, Bool, true, false, List, [], ◌∷◌, ◌++◌, get_or, length, map, take, refl, ap, sym, ◌∙◌, subst, arith, add-one, below_more}
use Rattle.std.specs.Prelude.{All, Some, None, filter, nat_lt, slice_get, min}
use Rattle.std.specs.Option.{option_and_then, option_map, option_map_or}
use Rattle.std.proofs.lemmas.Bool.Decides.{nat_tests}
use Rattle.std.proofs.lemmas.List.{length-map, map-append, take_all}
use Rattle.std.proofs.lemmas.List.Elements.{All-append, All-cons, All-head, All-map, All-nil, All-tail, All-weaker}
use Rattle.std.proofs.lemmas.Option.{slice_get-get_or, slice_get_past}
use Rattle.cube_base.specs.declared.code.Code.{Code}
use Rattle.cube_model.specs.declared.edit.Fact.{Fact}
use Rattle.cube_model.specs.Facts.{put}
use Rattle.cube_model.specs.Limits.{MAX_FACTS}
use Rattle.cube_model.specs.Tree.{Dimension}
use Rattle.fact_keeper.specs.Batch.{fact_id}
use Rattle.fact_keeper.specs.declared.content.KeptFact.{KeptFact}
use Rattle.fact_records.specs.FactList.{IsAscending}
use Rattle.fact_records.specs.Shape.{ShapeValue}
use Rattle.fact_records.specs.Valid.{AreValid, IsValid}
use Rattle.edit_plan.proofs.Copying.{take-read}
use Rattle.store_audit.specs.Sound.{AreGood, AreGoodBefore, IsBadFact, fact_fault, fact_told, fault_at, id_before}
use Rattle.store_audit.proofs.Judging.{IsGood, good-fact}

-- a fact above all ids is put behind the others
below-stay : (id : ℕ) (facts : List Fact) → All (λ f. f.id < id) facts → filter (λ f. nat_lt f.id id) facts ≡ facts
below-stay id [] below = refl
below-stay id (fact ∷ facts) below =
    let here : fact.id < id = All-head (λ f. f.id < id) fact facts below in
    let so : nat_lt fact.id id ≡ true = grind (arith, nat_tests) in
    rw so (ap (λ fs. fact ∷ fs) (below-stay id facts (All-tail (λ f. f.id < id) fact facts below)))

none-above : (id : ℕ) (facts : List Fact) → All (λ f. f.id < id) facts → filter (λ f. nat_lt id f.id) facts ≡ []
none-above id [] below = refl
none-above id (fact ∷ facts) below =
    let here : fact.id < id = All-head (λ f. f.id < id) fact facts below in
    let so : nat_lt id fact.id ≡ false = grind (arith, nat_tests) in
    rw so (none-above id facts (All-tail (λ f. f.id < id) fact facts below))

pub put-last : (fact : Fact) (before : ℕ) (facts : List Fact) → All (λ f. f.id ≤ before) facts → before < fact.id → put fact facts ≡ facts ++ fact ∷ []
put-last fact before facts below above =
    let under = All-weaker (λ (f : Fact). f.id ≤ before) (λ f. f.id < fact.id) (λ f low. omega (arith, low, above)) facts below in
    ap (λ fs. fs ++ fact ∷ filter (λ f. nat_lt fact.id f.id) facts) (below-stay fact.id facts under) ∙ ap (λ fs. facts ++ fact ∷ fs) (none-above fact.id facts under)

-- and none is above it then
pub order-next : (fact : Fact) (before : ℕ) (facts now : List Fact) → All (λ f. f.id ≤ before) facts → before < fact.id → now ≡ facts ++ fact ∷ [] → All (λ f. f.id ≤ fact.id) now
order-next fact before facts now below above is =
    let P : Fact → Type 0 = λ f. f.id ≤ fact.id in
    subst (All P) (sym is)
    (All-append P facts (fact ∷ []) (All-weaker (λ (f : Fact). f.id ≤ before) P (λ f low. omega (arith, low, above)) facts below) (All-cons P fact [] (omega arith) (All-nil P)))

module _ (shape : ShapeValue) (dims : List Dimension) (kept : List KeptFact) where
  -- the kept facts before a place are read, none of them is refused, and there is room for the others
  pub record AreRead (place before spare : ℕ) (facts : List Fact) : Type 0 where
    pub told : facts ≡ map fact_told (take place kept)
    pub before_is : before ≡ id_before kept place
    pub good : AreGoodBefore shape dims kept place
    pub below : All (λ f. f.id ≤ before) facts
    pub room : min (length kept) MAX_FACTS ≤ spare + place

  pub none-read : (spare : ℕ) (facts : List Fact) → facts ≡ [] → min (length kept) MAX_FACTS ≤ spare → AreRead 0 0 spare facts
  none-read spare facts none room = record {
    told = none;
    before_is = refl;
    good = λ earlier below. absurd (omega (arith, below));
    below = subst (All (λ f. f.id ≤ 0)) (sym none) (All-nil (λ f. f.id ≤ 0));
    room = omega (arith, room);
  }

  -- what is refused at a place, once the id before is known
  fault-here : (place before : ℕ) (fact : KeptFact) → slice_get kept place ≡ Some fact → before ≡ id_before kept place → fault_at shape dims kept place ≡ fact_fault shape dims place before fact
  fault-here place before fact at is = ap (option_and_then (fact_fault shape dims place (id_before kept place))) at ∙ ap (λ b. fact_fault shape dims place b fact) (sym is)

  module _ (place before spare : ℕ) (facts : List Fact) (are : AreRead place before spare facts) (fact : KeptFact) (at : slice_get kept place ≡ Some fact) where
    -- one more
    pub read-next : (now : List Fact) (left : ℕ) → None ≡ fact_fault shape dims place before fact → now ≡ facts ++ fact_told fact ∷ [] → All (λ f. f.id ≤ fact.id) now → spare ≤ left + 1 → AreRead (place + 1) fact.id left now
    read-next now left accepted put order less = record {
      told = put ∙ ap (λ fs. fs ++ fact_told fact ∷ []) are.told ∙ sym (map-append fact_told (take place kept) (fact ∷ [])) ∙ ap (map fact_told) (sym (take-read kept place fact at));
      before_is = sym (rw add-one (ap (λ o. option_map_or fact_id o 0) at));
      good = below_more (λ earlier. fault_at shape dims kept earlier ≡ None) place are.good (fault-here place before fact at are.before_is ∙ sym accepted);
      below = order;
      room = omega (arith, are.room, less);
    }

    -- or the first that is refused
    pub read-bad : (why : Code) → Some why ≡ fact_fault shape dims place before fact → IsBadFact shape dims kept place fact.id why
    read-bad why refused = record {
      there = ap (option_map fact_id) at;
      refused = fault-here place before fact at are.before_is ∙ sym refused;
      first = are.good;
    }

  -- all of them
  pub read-all : (place before spare : ℕ) (facts : List Fact) → AreRead place before spare facts → length kept ≤ place → facts ≡ map fact_told kept
  read-all place before spare facts are past = are.told ∙ ap (map fact_told) (take_all place kept past)

  pub all-good : (place before spare : ℕ) (facts : List Fact) → AreRead place before spare facts → length kept ≤ place → AreGood shape dims kept
  all-good place before spare facts are past other = either (nat_lt other place) refl
    where
      either : (b : Bool) → nat_lt other place ≡ b → fault_at shape dims kept other ≡ None
      either true is = are.good other (grind (arith, nat_tests, is))
      either false is =
          let beyond : length kept ≤ other = grind (arith, nat_tests, is, past) in
          ap (option_and_then (fact_fault shape dims other (id_before kept other))) (slice_get_past kept other beyond)

  -- facts of which none is refused are such as a cube may have
  module _ (good : AreGood shape dims kept) where
    pub each-good : (place : ℕ) (d : KeptFact) → place < length kept → IsGood shape dims place (id_before kept place) (get_or kept place d)
    each-good place d within =
        let at = slice_get-get_or kept place d within in
        good-fact shape dims place (id_before kept place) (get_or kept place d) (sym (fault-here place (id_before kept place) (get_or kept place d) at refl) ∙ good place)

    few-good : (d : KeptFact) → length kept ≤ MAX_FACTS
    few-good d = either (length kept) refl
      where
        either : (n : ℕ) → length kept ≡ n → length kept ≤ MAX_FACTS
        either zero is = omega (arith, is)
        either (suc n) is = omega (arith, (each-good n d (omega (arith, is))).room, is)

    few-all : (xs : List KeptFact) → xs ≡ kept → length kept ≤ MAX_FACTS
    few-all [] is = omega (arith, ap length is)
    few-all (x ∷ xs) is = few-good x

    pub valid-good : (facts : List Fact) → facts ≡ map fact_told kept → IsAscending facts → AreValid shape dims facts
    valid-good facts are up = record {
      ascending = up;
      few = omega (arith, ap length are, length-map kept fact_told, few-all kept refl);
      each = subst (All (IsValid shape dims)) (sym are) (All-map (IsValid shape dims) fact_told kept (λ place d within. (each-good place d within).valid));
    }
