-- The facts of some ids, walked through beside all facts.
use Rattle.std.proofs.Common.{◌≡◌, ℕ, zero, suc, ◌+◌, ◌<◌, ◌≤◌, ◌^◌, Bool, true, false, List, [], ◌∷◌, ◌++◌, get_or, length, map, take, drop, refl, ap, sym, ◌∙◌, subst, arith, ℤ, pos, ◌+ℤ◌, Some}
use Rattle.std.specs.Prelude.{All, filter, find, nat_abs, ◌==◌, if◌then◌else◌}
use Rattle.std.proofs.lemmas.Bool.Decides.{nat_tests}
use Rattle.std.proofs.lemmas.List.{append-nil, drop_more, take-append-drop}
use Rattle.std.proofs.lemmas.List.Elements.{All-filter, All-head, All-tail}
use Rattle.cube_model.specs.declared.edit.Fact.{Fact}
use Rattle.fact_groups.proofs.Ascending.{pairs-first, pairs-rest}
use Rattle.fact_records.specs.FactList.{IsAscending}
use Rattle.world_range.specs.declared.extreme.Extreme.TheVariants.{Greatest, Least}
use Rattle.cube_state.specs.declared.ranging.Ends.{Ends}
use Rattle.cube_state.specs.Ranging.{AreIdsOfSome, column_in, either_part, is_next}
use Rattle.cube_state.proofs.EitherEnds.{AreOfIds, of-id-some}
use Rattle.cube_state.proofs.Looking.{find-itself}

-- the first of the ids of facts that are all above a number is above it
first-above : (least : ℕ) (facts : List Fact) → All (λ f. least < f.id) facts → (id : ℕ) (ids : List ℕ) → id ∷ ids ≡ map (λ f. f.id) facts → least < id
first-above least [] above id ids are = cc
first-above least (f ∷ facts) above id ids are =
    let here : least < f.id = All-head (λ f. least < f.id) f facts above in
    let same : id ≡ f.id = cc in
    omega (arith, here, same)

module _ (f : Fact) (facts : List Fact) (ids : List ℕ) (are : AreIdsOfSome (f ∷ facts) ids) where
  told : (b : Bool) → are.holds f ≡ b → ids ≡ map (λ f. f.id) (if b then f ∷ filter are.holds facts else filter are.holds facts)
  told b is = are.are ∙ ap (λ (b : Bool). map (λ (f : Fact). f.id) (if b then f ∷ filter are.holds facts else filter are.holds facts)) is

  -- where the first fact has the first of the ids, the other ids are those of facts behind it
  pub ids-behind : IsAscending (f ∷ facts) → (others : List ℕ) → ids ≡ f.id ∷ others → AreIdsOfSome facts others
  ids-behind up others first = by (are.holds f) refl
    where
      by : (b : Bool) → are.holds f ≡ b → AreIdsOfSome facts others
      by true is = let all = sym first ∙ told true is in record { holds = are.holds; are = cc }
      by false is =
          let above = All-filter are.holds (λ g. f.id < g.id) facts (pairs-first (λ f g. f.id < g.id) f facts up) in
          let wrong : f.id < f.id = first-above f.id (filter are.holds facts) above f.id others (sym first ∙ told false is) in
          absurd (omega (arith, wrong))

  -- where it has not, all ids are
  pub ids-same : ((others : List ℕ) → ids ≡ f.id ∷ others → ⊥) → AreIdsOfSome facts ids
  ids-same never = by (are.holds f) refl
    where
      by : (b : Bool) → are.holds f ≡ b → AreIdsOfSome facts ids
      by true is = absurd (never _ (told true is))
      by false is = record { holds = are.holds; are = told false is }

-- where an id is the next of some, and where it is not
record IsNext (ids : List ℕ) (place id : ℕ) : Type 0 where
  within : place < length ids
  same : get_or ids place 0 ≡ id

next-there : (ids : List ℕ) (place id : ℕ) → is_next ids place id ≡ true → IsNext ids place id
next-there [] place id next = cc
next-there (i ∷ ids) zero id next = record { within = omega arith; same = grind (arith, nat_tests, next) }
next-there (i ∷ ids) (suc place) id next = let rest = next-there ids place id next in record { within = omega (arith, rest.within); same = rest.same }

next-not : (ids : List ℕ) (place id : ℕ) (others : List ℕ) → is_next ids place id ≡ false → drop place ids ≡ id ∷ others → ⊥
next-not [] zero id others next first = cc
next-not [] (suc place) id others next first = cc
next-not (i ∷ ids) zero id others next first = let same : i ≡ id = cc in absurd (grind (arith, nat_tests, next, same))
next-not (i ∷ ids) (suc place) id others next first = next-not ids place id others next first

module _ (column : ℕ) (facts : List Fact) (ids : List ℕ) where
  -- the facts of the ids before a place are walked past, and those of the others are left
  pub record AreWalked (place : ℕ) (ends : Ends) (left : List Fact) : Type 0 where
    pub before : AreOfIds column facts (take place ids) place ends
    pub others : AreIdsOfSome left (drop place ids)
    pub there : All (λ f. find (λ g. g.id == f.id) facts ≡ Some f) left
    pub up : IsAscending left

  -- at first all are left
  pub walked-none : (walk : List Fact) → walk ≡ facts → IsAscending facts → AreIdsOfSome facts ids → AreWalked 0 (record { least = pos 0; greatest = pos 0 }) walk
  walked-none walk is up are = record {
    before = record { least = refl; greatest = refl; small = record { least = omega arith; greatest = omega arith } };
    others = subst (λ fs. AreIdsOfSome fs ids) (sym is) are;
    there = subst (All (λ f. find (λ g. g.id == f.id) facts ≡ Some f)) (sym is) (find-itself facts up);
    up = subst IsAscending (sym is) up;
  }

  module _ {place : ℕ} {ends : Ends} {ahead left : List Fact} {f : Fact} (walked : AreWalked place ends ahead) (cut : ahead ≡ f ∷ left) where
    each : All (λ f. find (λ g. g.id == f.id) facts ≡ Some f) (f ∷ left)
    each = subst (All (λ f. find (λ g. g.id == f.id) facts ≡ Some f)) cut walked.there

    -- the next fact is there
    pub walked-there : find (λ g. g.id == f.id) facts ≡ Some f
    walked-there = All-head (λ f. find (λ g. g.id == f.id) facts ≡ Some f) f left each

    rising : IsAscending (f ∷ left)
    rising = subst IsAscending cut walked.up

    are : AreIdsOfSome (f ∷ left) (drop place ids)
    are = subst (λ fs. AreIdsOfSome fs (drop place ids)) cut walked.others

    passed : AreIdsOfSome left (drop place ids) → AreWalked place ends left
    passed others = record {
      before = walked.before;
      others = others;
      there = All-tail (λ f. find (λ g. g.id == f.id) facts ≡ Some f) f left each;
      up = pairs-rest (λ f g. f.id < g.id) f left rising;
    }

    -- it has the next id
    pub walked-id : is_next ids place f.id ≡ true → (value : ℤ) → value ≡ column_in column f → nat_abs value ≤ 2 ^ 63
        → (new : Ends) → new.least ≡ ends.least +ℤ either_part Least value → new.greatest ≡ ends.greatest +ℤ either_part Greatest value → AreWalked (place + 1) new left
    walked-id next value valued fits new least greatest =
        let at = next-there ids place f.id next in
        record {
          before = of-id-some column facts ids place 0 at.within ends walked.before f.id (sym at.same) f walked-there value valued fits new least greatest;
          others = ids-behind f left (drop place ids) are rising (drop (place + 1) ids) (drop_more ids place 0 at.within ∙ ap (λ id. id ∷ drop (place + 1) ids) at.same);
          there = All-tail (λ f. find (λ g. g.id == f.id) facts ≡ Some f) f left each;
          up = pairs-rest (λ f g. f.id < g.id) f left rising;
        }

    -- it has another id, or no id is left
    pub walked-other : is_next ids place f.id ≡ false → AreWalked place ends left
    walked-other next = passed (ids-same f left (drop place ids) are (λ others first. next-not ids place f.id others next first))

  -- at the end no id is left
  pub walked-all : (place : ℕ) (ends : Ends) (left : List Fact) → AreWalked place ends left → left ≡ [] → take place ids ≡ ids
  walked-all place ends left walked none =
      let others : AreIdsOfSome [] (drop place ids) = subst (λ fs. AreIdsOfSome fs (drop place ids)) none walked.others in
      sym (append-nil (take place ids)) ∙ ap (λ more. take place ids ++ more) (sym others.are) ∙ take-append-drop place ids
