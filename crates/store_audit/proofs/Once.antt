-- A content has one finding, and a sound one has none.
use Rattle.std.proofs.Common.{◌≡◌, ℕ, ◌<◌, Bool, true, false, List, refl, ap, sym, ◌∙◌, arith}
use Rattle.std.specs.Prelude.{Option, Some, None, nat_lt, slice_get}
use Rattle.std.specs.Option.{option_map}
use Rattle.std.proofs.lemmas.Bool.Decides.{nat_tests}
use Rattle.cube_base.specs.declared.code.Code.{Code}
use Rattle.cube_model.specs.Allocation.{Policy}
use Rattle.cube_model.specs.Tree.{Dimension}
use Rattle.fact_keeper.specs.Batch.{fact_id}
use Rattle.fact_keeper.specs.declared.content.KeptRows.{KeptRows}
use Rattle.fact_keeper.specs.declared.content.Stored.{Stored}
use Rattle.fact_records.specs.Shape.{ShapeValue}
use Rattle.store_audit.specs.Sound.{DifferAt, IsBadFact, IsFinding, IsSound, fault_at, rows_anew}
use Rattle.store_audit.specs.declared.finding.Finding.{Finding}
use Rattle.store_audit.specs.declared.finding.Finding.TheVariants as finding

-- of two places neither of which is before the other
same-place : (p q : ℕ) → (p < q → ⊥) → (q < p → ⊥) → p ≡ q
same-place p q not_below not_above = either (nat_lt p q) (nat_lt q p) refl refl
  where
    either : (a b : Bool) → nat_lt p q ≡ a → nat_lt q p ≡ b → p ≡ q
    either true b low high = absurd (not_below (grind (arith, nat_tests, low)))
    either false true low high = absurd (not_above (grind (arith, nat_tests, high)))
    either false false low high = grind (arith, nat_tests, low, high)

some-same : {X : Type 0} (a b : X) → Some a ≡ Some b → a ≡ b
some-same a b is = cc

fact-with : (p q i j : ℕ) (v w : Code) → p ≡ q → i ≡ j → v ≡ w → finding.Fact p i v ≡ finding.Fact q j w
fact-with p q i j v w place id why = cc

rows-with : (p q : ℕ) (a b c d : Option KeptRows) → p ≡ q → a ≡ c → b ≡ d → finding.Rows p a b ≡ finding.Rows q c d
rows-with p q a b c d place kept anew = cc

module _ (policy : Policy) (shape : ShapeValue) (dims : List Dimension) (content : Stored) where
  -- a fact that is refused, where none is before a place, or at all
  not-good : (place : ℕ) (why : Code) → fault_at shape dims content.facts place ≡ Some why → fault_at shape dims content.facts place ≡ None → ⊥
  not-good place why refused good = let no : None ≡ Some why = sym good ∙ refused in cc

  same-fact : (p q i j : ℕ) (v w : Code) → IsBadFact shape dims content.facts p i v → IsBadFact shape dims content.facts q j w → finding.Fact p i v ≡ finding.Fact q j w
  same-fact p q i j v w a b =
      let place = same-place p q (λ below. not-good p v a.refused (b.first p below)) (λ above. not-good q w b.refused (a.first q above)) in
      fact-with p q i j v w place
      (some-same i j (sym a.there ∙ ap (λ n. option_map fact_id (slice_get content.facts n)) place ∙ b.there))
      (some-same v w (sym a.refused ∙ ap (fault_at shape dims content.facts) place ∙ b.refused))

  same-rows : (p q : ℕ) (a b c d : Option KeptRows) → DifferAt policy shape dims content p a b → DifferAt policy shape dims content q c d → finding.Rows p a b ≡ finding.Rows q c d
  same-rows p q a b c d one other =
      let place =
      same-place p q (λ below. one.different (one.kept_is ∙ other.first p below ∙ sym one.anew_is)) (λ above. other.different (other.kept_is ∙ one.first q above ∙ sym other.anew_is)) in
      rows-with p q a b c d place (one.kept_is ∙ ap (slice_get content.rows) place ∙ sym other.kept_is) (one.anew_is ∙ ap (slice_get (rows_anew policy dims content)) place ∙ sym other.anew_is)

  pub same-finding : (a b : Finding) → IsFinding policy shape dims content a → IsFinding policy shape dims content b → a ≡ b
  same-finding (finding.Schema line why) b one other = absurd one
  same-finding (finding.Fact p i v) (finding.Schema line why) one other = absurd other
  same-finding (finding.Fact p i v) (finding.Fact q j w) one other = same-fact p q i j v w one other
  same-finding (finding.Fact p i v) (finding.TooManyRows n) one other = absurd (not-good p v one.refused (other.good p))
  same-finding (finding.Fact p i v) (finding.Rows q c d) one other = absurd (not-good p v one.refused (other.good p))
  same-finding (finding.TooManyRows n) (finding.Schema line why) one other = absurd other
  same-finding (finding.TooManyRows n) (finding.Fact q j w) one other = absurd (not-good q w other.refused (one.good q))
  same-finding (finding.TooManyRows n) (finding.TooManyRows m) one other = ap (λ k. finding.TooManyRows k) (one.count ∙ sym other.count)
  same-finding (finding.TooManyRows n) (finding.Rows q c d) one other = absurd (omega (arith, one.count, one.many, other.few))
  same-finding (finding.Rows p a b) (finding.Schema line why) one other = absurd other
  same-finding (finding.Rows p a b) (finding.Fact q j w) one other = absurd (not-good q w other.refused (one.good q))
  same-finding (finding.Rows p a b) (finding.TooManyRows m) one other = absurd (omega (arith, other.count, other.many, one.few))
  same-finding (finding.Rows p a b) (finding.Rows q c d) one other = same-rows p q a b c d one other

  pub sound-none : (found : Finding) → IsSound policy shape dims content → IsFinding policy shape dims content found → ⊥
  sound-none (finding.Schema line why) sound is = is
  sound-none (finding.Fact p i v) sound is = not-good p v is.refused (sound.good p)
  sound-none (finding.TooManyRows n) sound is = omega (arith, is.count, is.many, sound.few)
  sound-none (finding.Rows p a b) sound is = is.different (is.kept_is ∙ ap (λ rows. slice_get rows p) sound.rows_are ∙ sym is.anew_is)
