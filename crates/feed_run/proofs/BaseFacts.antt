-- The facts of a base: behind facts that a cube may have, one that is not refused is another.
use Rattle.std.proofs.Common.{◌≡◌, ◌∙◌, suc, ◌-◌, ◌<◌, ◌≤◌, Bool, true, false, List, [], ◌∷◌, ◌++◌, length, get_or, Option, Some, None, refl, ap, arith, length-append}
use Rattle.std.specs.Prelude.{All, AllPairs, nat_le, slice_get}
use Rattle.std.specs.Option.{option_map_or}
use Rattle.std.proofs.lemmas.Bool.Decides.{nat_tests}
use Rattle.std.proofs.lemmas.List.Elements.{All-append, All-cons, All-head, All-nil}
use Rattle.std.proofs.lemmas.List.Quantifiers.{all_pairs_push}
use Rattle.cube_base.specs.declared.code.Code.{Code}
use Rattle.cube_base.specs.declared.code.Code.TheVariants as code
use Rattle.cube_core.specs.Cube.{AreFactsOf}
use Rattle.cube_model.specs.declared.edit.Fact.{Fact}
use Rattle.cube_model.specs.Accepted.{first_refusal, first_that_holds}
use Rattle.cube_model.specs.Limits.{MAX_FACTS}
use Rattle.fact_groups.proofs.Ascending.{pairs-first, pairs-rest}
use Rattle.fact_records.specs.Accepted.{region_refusal}
use Rattle.fact_records.specs.Valid.{IsFactOf, IsValid}
use Rattle.schema_text.specs.Schema.{SchemaValue, shape_of}
use Rattle.feed_run.specs.Following.{base_refusal, last_id}

-- no id is above that of the last
below-last : (facts : List Fact) → AllPairs (λ f g. f.id < g.id) facts → All (λ f. f.id ≤ last_id facts) facts
below-last [] up = All-nil (λ f. f.id ≤ 0)
below-last (fact ∷ []) up = let here : fact.id ≤ fact.id = omega arith in All-cons (λ f. f.id ≤ fact.id) fact [] here (All-nil (λ f. f.id ≤ fact.id))
below-last (fact ∷ next ∷ facts) up =
    let P = λ (f : Fact). f.id ≤ last_id (next ∷ facts) in
    let later = below-last (next ∷ facts) (pairs-rest (λ (f g : Fact). f.id < g.id) fact (next ∷ facts) up) in
    let less : fact.id < next.id = All-head (λ g. fact.id < g.id) next facts (pairs-first (λ (f g : Fact). f.id < g.id) fact (next ∷ facts) up) in
    let last : next.id ≤ last_id (next ∷ facts) = All-head P next facts later in
    let here : fact.id ≤ last_id (next ∷ facts) = omega (arith, less, last) in
    All-cons P fact (next ∷ facts) here later

-- what is judged of a fact that is not refused
record IsNext (schema : SchemaValue) (facts : List Fact) (fact : Fact) : Type 0 where
  above : nat_le fact.id (last_id facts) ≡ false
  size : region_refusal schema.dims fact.region ≡ None
  room : nat_le MAX_FACTS (length facts) ≡ false

is-next : (schema : SchemaValue) (facts : List Fact) (fact : Fact) → base_refusal schema.dims facts fact ≡ None → IsNext schema facts fact
is-next schema facts fact none =
    let all = either (nat_le fact.id (last_id facts)) (region_refusal schema.dims fact.region) (nat_le MAX_FACTS (length facts)) none in
    record { above = all.0; size = all.1; room = all.2 }
  where
    either : (above : Bool) (size : Option Code) (room : Bool) → first_refusal (first_that_holds ((above, code.Exists) ∷ []) ∷ size ∷ first_that_holds ((room, code.Facts) ∷ []) ∷ []) ≡ None
        → (above ≡ false) × (size ≡ None) × (room ≡ false)
    either true size room none = cc
    either false (Some why) room none = cc
    either false None true none = cc
    either false None false none = (refl, refl, refl)

pub valid-push : (schema : SchemaValue) (facts : List Fact) (fact : Fact) → AreFactsOf schema facts → IsFactOf (shape_of schema) schema.dims fact → base_refusal schema.dims facts fact ≡ None → AreFactsOf schema (facts ++ fact ∷ [])
valid-push schema facts fact valid accepted none =
    let next = is-next schema facts fact none in
    let above : last_id facts < fact.id = grind (arith, nat_tests, next.above) in
    let room : length facts < MAX_FACTS = grind (arith, nat_tests, next.room) in
    record {
      ascending = all_pairs_push (λ f g. f.id < g.id) facts fact valid.ascending (λ k d within. let least : (get_or facts k d).id ≤ last_id facts = below-last facts valid.ascending k d within in omega (arith, least, above));
      few = omega (arith, length-append facts (fact ∷ []), room);
      each = All-append (IsValid (shape_of schema) schema.dims) facts (fact ∷ []) valid.each
          (All-cons (IsValid (shape_of schema) schema.dims) fact [] (record { accepted = accepted; size = next.size }) (All-nil (IsValid (shape_of schema) schema.dims)));
    }

-- a base begins without facts
pub valid-none : (schema : SchemaValue) → AreFactsOf schema []
valid-none schema = record {
  ascending = λ i j d before within. absurd (omega arith);
  few = omega arith;
  each = All-nil (IsValid (shape_of schema) schema.dims);
}

-- the last of some facts
pub last-id : (facts : List Fact) (last : Fact) → Some last ≡ slice_get facts (length facts - 1) → last.id ≡ last_id facts
last-id [] last is = cc
last-id (fact ∷ []) last is = ap (λ (found : Option Fact). option_map_or (λ (f : Fact). f.id) found 0) is
last-id (fact ∷ next ∷ facts) last is =
    let place : length (fact ∷ next ∷ facts) - 1 ≡ suc (length (next ∷ facts) - 1) = omega arith in
    last-id (next ∷ facts) last (is ∙ ap (slice_get (fact ∷ next ∷ facts)) place)
