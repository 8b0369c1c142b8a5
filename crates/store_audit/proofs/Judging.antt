-- What the refusal of a kept fact tells, and what it tells where there is none.
use Rattle.std.proofs.Common.{◌≡◌, ℕ, ◌<◌, ◌≤◌, Bool, true, false, List, [], ◌∷◌, refl, arith}
use Rattle.std.specs.Prelude.{nat_le, nat_lt, not, ◌||◌, Option, Some, None}
use Rattle.std.proofs.lemmas.Bool.Decides.{nat_tests}
use Rattle.cube_base.specs.declared.code.Code.{Code}
use Rattle.cube_base.specs.declared.code.Code.TheVariants as code
use Rattle.cube_model.specs.Accepted.{first_refusal, first_that_holds}
use Rattle.cube_model.specs.Limits.{MAX_FACTS, MAX_ID}
use Rattle.cube_model.specs.Tree.{Dimension}
use Rattle.region_algebra.specs.Space.{is_region}
use Rattle.fact_keeper.specs.declared.content.KeptFact.{KeptFact}
use Rattle.fact_records.specs.Accepted.{cols_refusal, region_refusal}
use Rattle.fact_records.specs.Shape.{ShapeValue}
use Rattle.fact_records.specs.Valid.{IsValid}
use Rattle.store_audit.specs.Sound.{fact_fault, fact_told, has_wrong_id}

-- the first that holds: the id is wrong, the nodes are no region, a refusal of the values, one of the region's size, no room
abbrev pub told_by : Bool → Bool → Option Code → Option Code → Bool → Option Code
told_by wrong named cols size full = first_refusal (first_that_holds ((wrong, code.Id) ∷ (not named, code.Node) ∷ []) ∷ cols ∷ size ∷ first_that_holds ((full, code.Facts) ∷ []) ∷ [])

-- none of them holds
pub record AllPass (wrong named : Bool) (cols size : Option Code) (full : Bool) : Type 0 where
  pub id : wrong ≡ false
  pub nodes : named ≡ true
  pub values : cols ≡ None
  pub region : size ≡ None
  pub room : full ≡ false

pub all-pass : (wrong named : Bool) (cols size : Option Code) (full : Bool) → told_by wrong named cols size full ≡ None → AllPass wrong named cols size full
all-pass true named cols size full none = cc
all-pass false false cols size full none = cc
all-pass false true (Some why) size full none = cc
all-pass false true None (Some why) full none = cc
all-pass false true None None true none = cc
all-pass false true None None false none = record { id = refl; nodes = refl; values = refl; region = refl; room = refl }

-- each of them, where those before it do not hold
module _ (wrong named : Bool) (cols size : Option Code) (full : Bool) where
  pub refused-id : wrong ≡ true → Some code.Id ≡ told_by wrong named cols size full
  refused-id is = rw is refl

  module _ (right : wrong ≡ false) where
    pub refused-node : named ≡ false → Some code.Node ≡ told_by wrong named cols size full
    refused-node is = rw (right, is) refl

    module _ (found : named ≡ true) where
      pub refused-values : (why : Code) → cols ≡ Some why → Some why ≡ told_by wrong named cols size full
      refused-values why is = rw (right, found, is) refl

      pub refused-size : (why : Code) → cols ≡ None → size ≡ Some why → Some why ≡ told_by wrong named cols size full
      refused-size why values is = rw (right, found, values, is) refl

      pub refused-room : cols ≡ None → size ≡ None → full ≡ true → Some code.Facts ≡ told_by wrong named cols size full
      refused-room values small is = rw (right, found, values, small, is) refl

      pub none-refused : cols ≡ None → size ≡ None → full ≡ false → None ≡ told_by wrong named cols size full
      none-refused values small is = rw (right, found, values, small, is) refl

-- a kept fact that is not refused, behind an id: it is one that a cube may have, and there is room for it
pub record IsGood (shape : ShapeValue) (dims : List Dimension) (place before : ℕ) (fact : KeptFact) : Type 0 where
  pub valid : IsValid shape dims (fact_told fact)
  pub above : before < fact.id
  pub room : place < MAX_FACTS

right-id : (before id : ℕ) → (nat_le id before || nat_lt MAX_ID id) ≡ false → (before < id) × (id ≤ MAX_ID)
right-id before id is = either (nat_le id before) (nat_lt MAX_ID id) refl refl is
  where
    either : (a b : Bool) → nat_le id before ≡ a → nat_lt MAX_ID id ≡ b → (a || b) ≡ false → (before < id) × (id ≤ MAX_ID)
    either true b low high none = cc
    either false true low high none = cc
    either false false low high none = (grind (arith, nat_tests, low), grind (arith, nat_tests, high))

pub good-fact : (shape : ShapeValue) (dims : List Dimension) (place before : ℕ) (fact : KeptFact) → fact_fault shape dims place before fact ≡ None → IsGood shape dims place before fact
good-fact shape dims place before fact none =
    let pass = all-pass (has_wrong_id before fact) (is_region dims fact.nodes) (cols_refusal shape fact.cols) (region_refusal dims fact.nodes) (nat_le MAX_FACTS place) none in
    let id = right-id before fact.id pass.id in
    record {
      valid = record { accepted = record { placed = record { id = record { least = omega (arith, id.0); most = id.1 }; region = pass.nodes }; values = pass.values }; size = pass.region };
      above = id.0;
      room = grind (arith, nat_tests, pass.room);
    }
