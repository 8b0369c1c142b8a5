-- What a follower does from one line of a batch to the next.
use Rattle.std.proofs.Common.{◌≡◌, ◌≢◌, ℕ, ◌+◌, Bool, true, false, nat_eq, arith, List, [], ◌∷◌, ◌++◌, Option, refl, sym, ap, ◌∙◌, subst, inl, inr}
use Rattle.std.specs.Prelude.{◌&&◌, not}
use Rattle.std.specs.Str.{bytes_eq}
use Rattle.std.proofs.lemmas.Bool.Decides.{nat_tests}
use Rattle.cube_base.specs.Outside.{SourceTold}
use Rattle.cube_base.specs.declared.code.Code.TheVariants as code
use Rattle.fact_keeper.specs.declared.content.Batch.{Batch}
use Rattle.text_lines.specs.declared.input.InputStop.{InputStop}
use Rattle.text_lines.specs.declared.input.InputStop.TheVariants as input_stop
use Rattle.fact_fields.proofs.NodesAgain.{bytes_eq-same}
use Rattle.feed_run.specs.declared.feed_stop.FeedStop.TheVariants as feed_stop
use Rattle.feed_run.specs.declared.part_stop.PartStop.TheVariants.{Feed, Input}
use Rattle.feed_run.specs.BatchTurn.{AreLeft}
use Rattle.feed_run.specs.Following.{Base, Within, Work, differs}
use Rattle.feed_run.specs.FollowTurn.{FeedPull, FollowedAs, FollowedBefore, FollowedTo, IsPulledAll, StopsPart, StopsPulling}
use Rattle.feed_run.proofs.SameBase.{not-false, not-true}
use Rattle.feed_run.proofs.StepsAt.{step-within}
use Rattle.feed_run.proofs.Turns.{cuts-at, lacks-before, lacks-behind, moves-to, stops-at, unpulled-at}

-- two texts that are compared as the same are
bytes-are : (a b : List ℕ) → bytes_eq a b ≡ true → a ≡ b
bytes-are [] [] is = refl
bytes-are [] (y ∷ b) is = cc
bytes-are (x ∷ a) [] is = cc
bytes-are (x ∷ a) (y ∷ b) is = both (nat_eq x y) (bytes_eq a b) refl (bytes-are a b) is
  where
    both : (first rest : Bool) → nat_eq x y ≡ first → (rest ≡ true → a ≡ b) → (first && rest) ≡ true → x ∷ a ≡ y ∷ b
    both true true first rest is = let head : x ≡ y = grind (arith, nat_tests, first) in ap (λ n. n ∷ a) head ∙ ap (λ l. y ∷ l) (rest refl)
    both true false first rest is = cc
    both false rest first last is = cc

-- what is said of them
pub line-is : (line pulled : List ℕ) → false ≡ not (bytes_eq line pulled) → pulled ≡ line
line-is line pulled is = sym (bytes-are line pulled (not-false (bytes_eq line pulled) is))

pub line-other : (line pulled : List ℕ) → true ≡ not (bytes_eq line pulled) → bytes_eq line pulled ≡ false
line-other line pulled is = not-true (bytes_eq line pulled) is

-- a list with an end is not empty
some-last : {X : Type 0} (xs : List X) (x : X) → xs ++ x ∷ [] ≢ []
some-last [] x none = cc
some-last (y ∷ xs) x none = cc

module _ (base : Option Base) (start now : SourceTold) (feed : FeedPull) (work : Work) (batch : Batch) (batches : List Batch) where
  -- no line was pulled yet
  pub left-all : (lines : List (List ℕ)) (last : List ℕ) → FollowedTo base start now feed (Within work batch (lines ++ last ∷ [])) batches → AreLeft base start now feed work batch batches (lines ++ last ∷ [])
  left-all lines last followed = inl (some-last lines last, followed)

  -- one more is to come
  pub left-some : (line : List ℕ) (left : List (List ℕ)) → AreLeft base start now feed work batch batches (line ∷ left) → FollowedTo base start now feed (Within work batch (line ∷ left)) batches
  left-some line left are = elim are [
    | inl begun ↦ begun.1
    | inr before ↦ moves-to base start now feed (Within work batch (feed.line ∷ line ∷ left)) batches (Within work batch (line ∷ left)) before
        (step-within base feed.count work batch (feed.line ∷ line ∷ left) feed.line ∙ rw (bytes_eq-same feed.line) refl)
  ]

  -- none is
  pub left-none : AreLeft base start now feed work batch batches [] → FollowedBefore base start now feed (Within work batch (feed.line ∷ [])) batches
  left-none are = elim are [ inl begun ↦ absurd (begun.0 refl) | inr before ↦ before ]

  -- it was pulled, and is the one that is expected
  pub left-matched : (line : List ℕ) (left : List (List ℕ)) → feed.line ≡ line → FollowedBefore base start now feed (Within work batch (line ∷ left)) batches → AreLeft base start now feed work batch batches left
  left-matched line left same before = inr (subst (λ l. FollowedBefore base start now feed (Within work batch (l ∷ left)) batches) (sym same) before)

  -- or is not
  pub left-differs : (line : List ℕ) (left : List (List ℕ)) → bytes_eq line feed.line ≡ false → FollowedBefore base start now feed (Within work batch (line ∷ left)) batches
      → StopsPart base start now feed batches work.applied (Feed (differs feed.count work feed.line))
  left-differs line left other before =
      stops-at base start now feed (Within work batch (line ∷ left)) batches (differs feed.count work feed.line) before (step-within base feed.count work batch (line ∷ left) feed.line ∙ rw other refl)

  -- the input ends before it
  pub left-cut : (line : List ℕ) (left : List (List ℕ)) → FollowedAs (IsPulledAll start now feed) base (Within work batch (line ∷ left)) batches → StopsPart base start now feed batches work.applied (Feed (feed_stop.Bad (feed.count + 1) code.Cut))
  left-cut line left whole = cuts-at base start now feed (Within work batch (line ∷ left)) batches (feed_stop.Bad (feed.count + 1) code.Cut) whole refl

  -- no line more is pulled, or none can be made
  pub left-unpulled : (line : List ℕ) (left : List (List ℕ)) (stop : InputStop) → StopsPulling base start now (Within work batch (line ∷ left)) batches stop → StopsPart base start now feed batches work.applied (Input stop)
  left-unpulled line left stop there = unpulled-at base start now feed (Within work batch (line ∷ left)) batches stop there

  pub left-lacks : (left : List (List ℕ)) → AreLeft base start now feed work batch batches left → StopsPart base start now feed batches work.applied (Input input_stop.Memory)
  left-lacks left are = elim are [
    | inl begun ↦ lacks-behind base start now feed (Within work batch left) batches begun.1
    | inr before ↦ lacks-before base start now feed (Within work batch (feed.line ∷ left)) batches before
  ]
