-- The batch that puts the rows of a content right: where it is applied the content is sound, and it is empty just where it was.
use Rattle.std.proofs.Common.{◌≡◌, ℕ, suc, ◌+◌, ◌<◌, true, false, Bool, List, [], ◌∷◌, get_or, length, map, refl, ap, sym, ◌∙◌, subst, arith, add-one}
use Rattle.std.specs.Prelude.{All, not, nat_lt, ◌==◌, ◌&&◌, ◌||◌}
use Rattle.std.specs.List.{list_any}
use Rattle.std.specs.Option.{option_map_or}
use Rattle.std.proofs.lemmas.Bool.Decides.{nat_tests}
use Rattle.std.proofs.lemmas.List.Elements.{All-head, All-map, All-tail, All-weaker}
use Rattle.std.proofs.lemmas.List.Kept.{AllPairs-cons}
use Rattle.std.proofs.lemmas.Option.{slice_get-get_or}
use Rattle.cube_model.specs.declared.edit.Fact.{Fact}
use Rattle.cube_model.specs.Allocation.{ExtendedFact, Policy, allocation, extended}
use Rattle.cube_model.specs.Tree.{Dimension}
use Rattle.edit_plan.specs.Plan.{kept_rows}
use Rattle.fact_keeper.specs.Batch.{apply_batch, fact_id, rows_id, without}
use Rattle.fact_keeper.specs.Order.{AscendsBy}
use Rattle.fact_keeper.specs.declared.content.KeptFact.{KeptFact}
use Rattle.fact_keeper.specs.declared.content.KeptRows.{KeptRows}
use Rattle.fact_keeper.specs.declared.content.Stored.{Stored}
use Rattle.fact_keeper.proofs.Puts.{ascending_from_adjacent, first_least, rest_ascends}
use Rattle.fact_records.specs.Shape.{ShapeValue}
use Rattle.store_audit.specs.Mending.{IsMendable, changed_by, mended, mended_batch, strays}
use Rattle.store_audit.specs.Sound.{AreGood, IsSound, fact_told, facts_told, id_before, rows_anew}
use Rattle.store_audit.proofs.PutRight.{gone-told, has-itself, nothing-changed, nothing-to_change, put-right}
use Rattle.store_audit.proofs.Putting.{has}
use Rattle.store_audit.proofs.Reading.{each-good}

module _ {X Y : Type 0} (f : X → Y) where
  pub any-map : (p : Y → Bool) (xs : List X) → list_any p (map f xs) ≡ list_any (λ x. p (f x)) xs
  any-map p [] = refl
  any-map p (x ∷ xs) = ap (λ b. p (f x) || b) (any-map p xs)

  pub map-map : {Z : Type 0} (g : Y → Z) (xs : List X) → map g (map f xs) ≡ map (λ x. g (f x)) xs
  map-map g [] = refl
  map-map g (x ∷ xs) = ap (λ zs. g (f x) ∷ zs) (map-map g xs)

  ascending-map : (id_of : Y → ℕ) (xs : List X) → AscendsBy (λ x. id_of (f x)) xs → AscendsBy id_of (map f xs)
  ascending-map id_of [] up = λ i j d before within. absurd (omega (arith, within))
  ascending-map id_of (x ∷ xs) up =
      AllPairs-cons (λ a b. id_of a < id_of b) (f x) (map f xs) (All-map (λ y. id_of (f x) < id_of y) f xs (first_least (λ y. id_of (f y)) x xs up))
      (ascending-map id_of xs (rest_ascends (λ y. id_of (f y)) x xs up))

-- facts of which none is refused ascend
good-ascend : (shape : ShapeValue) (dims : List Dimension) (facts : List KeptFact) → AreGood shape dims facts → AscendsBy fact_id facts
good-ascend shape dims facts good = ascending_from_adjacent fact_id facts step
  where
    step : (i : ℕ) (d : KeptFact) → i + 1 < length facts → true ≡ nat_lt (get_or facts i d).id (get_or facts (i + 1) d).id
    step i d within =
        let before : id_before facts (suc i) ≡ (get_or facts i d).id = ap (λ o. option_map_or fact_id o 0) (slice_get-get_or facts i d (omega (arith, within))) in
        let above = (each-good shape dims facts good (suc i) d (omega (arith, within))).above in
        rw add-one (grind (arith, nat_tests, before, above))

abbrev stored_of : List ℕ → List KeptFact → List KeptRows → Stored
stored_of schema facts rows = record { schema = schema; facts = facts; rows = rows }

-- no fact has the id of a stray, so that all stay
strays-other : (kept : List KeptRows) (facts : List KeptFact) → All (λ f. list_any (λ g. g == f.id) (strays kept facts) ≡ false) facts
strays-other kept facts =
    All-weaker (λ f. has fact_id facts (fact_id f) ≡ true) (λ f. list_any (λ g. g == f.id) (strays kept facts) ≡ false)
    (λ f there. gone-told rows_id (λ n. not (list_any (λ h. h.id == n) facts)) f.id kept ∙ ap (λ b. not b && has rows_id kept f.id) there) facts (has-itself fact_id facts)

facts-stay : (gone : List ℕ) (facts : List KeptFact) → All (λ f. list_any (λ g. g == f.id) gone ≡ false) facts → without fact_id gone facts ≡ facts
facts-stay gone [] other = refl
facts-stay gone (x ∷ xs) other =
    let here = All-head (λ f. list_any (λ g. g == f.id) gone ≡ false) x xs other in
    rw here (ap (λ fs. x ∷ fs) (facts-stay gone xs (All-tail (λ f. list_any (λ g. g == f.id) gone ≡ false) x xs other)))

module _ (policy : Policy) (dims : List Dimension) (content : Stored) where
  -- the rows of a kept fact
  abbrev whole : Fact → ExtendedFact
  whole f = record { id = f.id; values = f.cols; allocation = allocation policy dims (facts_told content) f }

  abbrev rows_for : KeptFact → KeptRows
  rows_for fact = kept_rows (whole (fact_told fact))

  each-anew : rows_anew policy dims content ≡ map rows_for content.facts
  unfolding extended
  each-anew = map-map whole kept_rows (facts_told content) ∙ map-map fact_told (λ f. kept_rows (whole f)) content.facts

  ids-anew : (n : ℕ) → has rows_id (rows_anew policy dims content) n ≡ list_any (λ f. f.id == n) content.facts
  ids-anew n = ap (λ rows. has rows_id rows n) each-anew ∙ any-map rows_for (λ r. r.id == n) content.facts

  module _ (shape : ShapeValue) (good : AreGood shape dims content.facts) where
    anew-ascend : AscendsBy rows_id (rows_anew policy dims content)
    anew-ascend = subst (AscendsBy rows_id) (sym each-anew) (ascending-map rows_for rows_id content.facts (good-ascend shape dims content.facts good))

    rows-right : (apply_batch (mended_batch policy dims content) content).rows ≡ rows_anew policy dims content
    rows-right = put-right content.rows (rows_anew policy dims content) content.facts anew-ascend ids-anew

    -- no fact is gone, and none is put
    pub batch-applied : apply_batch (mended_batch policy dims content) content ≡ mended policy dims content
    batch-applied =
        ap (λ (facts : List KeptFact). stored_of content.schema facts (apply_batch (mended_batch policy dims content) content).rows) (facts-stay (strays content.rows content.facts) content.facts (strays-other content.rows content.facts))
        ∙ ap (stored_of content.schema content.facts) rows-right

    pub nothing-needed : content.rows ≡ rows_anew policy dims content → changed_by (mended_batch policy dims content) ≡ 0
    nothing-needed same = nothing-to_change content.rows (rows_anew policy dims content) content.facts anew-ascend ids-anew same

    pub nothing-done : changed_by (mended_batch policy dims content) ≡ 0 → content.rows ≡ rows_anew policy dims content
    nothing-done none = nothing-changed content.rows (rows_anew policy dims content) content.facts anew-ascend ids-anew none

-- the laws
pub mending-applied : (policy : Policy) (shape : ShapeValue) (dims : List Dimension) (content : Stored) → IsMendable policy shape dims content → apply_batch (mended_batch policy dims content) content ≡ mended policy dims content
mending-applied policy shape dims content may = batch-applied policy dims content shape may.good

pub mended-sound : (policy : Policy) (shape : ShapeValue) (dims : List Dimension) (content : Stored) → IsMendable policy shape dims content → IsSound policy shape dims (mended policy dims content)
mended-sound policy shape dims content may = record { good = may.good; few = may.few; rows_are = refl }

pub sound-unchanged : (policy : Policy) (shape : ShapeValue) (dims : List Dimension) (content : Stored) → IsSound policy shape dims content → changed_by (mended_batch policy dims content) ≡ 0
sound-unchanged policy shape dims content sound = nothing-needed policy dims content shape sound.good sound.rows_are

pub unchanged-sound : (policy : Policy) (shape : ShapeValue) (dims : List Dimension) (content : Stored) → IsMendable policy shape dims content → changed_by (mended_batch policy dims content) ≡ 0 → IsSound policy shape dims content
unchanged-sound policy shape dims content may none = record { good = may.good; few = may.few; rows_are = nothing-done policy dims content shape may.good none }
