-- What lines of a feed do behind others.
use Rattle.std.proofs.Common.{◌≡◌, ℕ, ◌+◌, List, [], ◌∷◌, ◌++◌, length, Option, Some, None, Result, Ok, Err, refl, ap, ◌∙◌, append-nil, append_assoc, add-zero, zero-add, arith, length-append}
use Rattle.fact_keeper.specs.declared.content.Batch.{Batch}
use Rattle.feed_run.specs.declared.feed_stop.FeedStop.{FeedStop}
use Rattle.feed_run.specs.FollowTurn.{standing, stopped}
use Rattle.feed_run.specs.Following.{Base, Followed, Moved, Place, after_step, follow_from, followed, step_at}

-- what later lines do behind earlier ones
abbrev pub chained : Followed → Followed → Followed
chained before later = record { place = later.place; batches = before.batches ++ later.batches; stop = later.stop; lines = before.lines + later.lines }

-- what lines do behind one that commits these batches
abbrev with_first : List Batch → Followed → Followed
with_first batches later = record { place = later.place; batches = batches ++ later.batches; stop = later.stop; lines = later.lines + 1 }

first-chained : (batches : List Batch) (before later : Followed) → with_first batches (chained before later) ≡ chained (with_first batches before) later
first-chained batches before later =
    let all = append_assoc batches before.batches later.batches in
    let count : before.lines + 1 + later.lines ≡ before.lines + later.lines + 1 = omega arith in
    rw (all, count) refl

module _ (base : Option Base) where
  -- lines that are followed from a place on, behind others that stop nowhere
  append-from : (n : ℕ) (place : Place) (front more : List (List ℕ)) → (follow_from base n place front).stop ≡ None
      → follow_from base n place (front ++ more) ≡ chained (follow_from base n place front) (follow_from base (n + length front) (follow_from base n place front).place more)
  append-from n place [] more none = rw (add-zero n) (rw (zero-add (follow_from base n place more).lines) refl)
  append-from n place (line ∷ front) more none = by_step (step_at base n place line) none (λ next. append-from (n + 1) next front more)
    where
      by_step : (step : Result Moved FeedStop) → (after_step place (λ next. follow_from base (n + 1) next front) step).stop ≡ None
          → ((next : Place) → (follow_from base (n + 1) next front).stop ≡ None
          → follow_from base (n + 1) next (front ++ more) ≡ chained (follow_from base (n + 1) next front) (follow_from base (n + 1 + length front) (follow_from base (n + 1) next front).place more))
          → after_step place (λ next. follow_from base (n + 1) next (front ++ more)) step
          ≡ chained (after_step place (λ next. follow_from base (n + 1) next front) step) (follow_from base (n + length (line ∷ front)) (after_step place (λ next. follow_from base (n + 1) next front) step).place more)
      by_step (Err stop) stops rest = cc
      by_step (Ok moved) none rest =
          let count : n + 1 + length front ≡ n + length (line ∷ front) = omega arith in
          let behind = follow_from base (n + 1) moved.place front in
          ap (with_first moved.batches) (rest moved.place none)
          ∙ first-chained moved.batches behind (follow_from base (n + 1 + length front) behind.place more)
          ∙ ap (λ m. chained (with_first moved.batches behind) (follow_from base m behind.place more)) count

  -- behind lines that stop, no line is looked at
  stopped-from : (n : ℕ) (place : Place) (front more : List (List ℕ)) (stop : FeedStop) → (follow_from base n place front).stop ≡ Some stop
      → follow_from base n place (front ++ more) ≡ follow_from base n place front
  stopped-from n place [] more stop stops = cc
  stopped-from n place (line ∷ front) more stop stops = by_step (step_at base n place line) stops (λ next. stopped-from (n + 1) next front more stop)
    where
      by_step : (step : Result Moved FeedStop) → (after_step place (λ next. follow_from base (n + 1) next front) step).stop ≡ Some stop
          → ((next : Place) → (follow_from base (n + 1) next front).stop ≡ Some stop → follow_from base (n + 1) next (front ++ more) ≡ follow_from base (n + 1) next front)
          → after_step place (λ next. follow_from base (n + 1) next (front ++ more)) step ≡ after_step place (λ next. follow_from base (n + 1) next front) step
      by_step (Err why) stops rest = refl
      by_step (Ok moved) stops rest = ap (with_first moved.batches) (rest moved.place stops)

  -- the same of all lines of a feed
  pub followed-append : (front more : List (List ℕ)) → (followed base front).stop ≡ None
      → followed base (front ++ more) ≡ chained (followed base front) (follow_from base (length front + 1) (followed base front).place more)
  followed-append front more none =
      let count : 1 + length front ≡ length front + 1 = omega arith in
      append-from 1 Place.AtStart front more none ∙ ap (λ m. chained (followed base front) (follow_from base m (followed base front).place more)) count

  pub followed-stopped : (front more : List (List ℕ)) (stop : FeedStop) → (followed base front).stop ≡ Some stop → followed base (front ++ more) ≡ followed base front
  followed-stopped front more stop stops = stopped-from 1 Place.AtStart front more stop stops

  -- one line more behind lines that stop nowhere: it moves to a place, or stops
  module _ (lines : List (List ℕ)) (line : List ℕ) (place : Place) (batches : List Batch) (is : followed base lines ≡ standing place batches (length lines)) where
    one-more : followed base (lines ++ line ∷ []) ≡ chained (standing place batches (length lines)) (after_step place (λ next. follow_from base (length lines + 1 + 1) next []) (step_at base (length lines + 1) place line))
    one-more = followed-append lines (line ∷ []) (ap (λ (f : Followed). f.stop) is) ∙ ap (λ (f : Followed). chained f (follow_from base (length lines + 1) f.place (line ∷ []))) is

    count-more : length lines + 1 ≡ length (lines ++ line ∷ [])
    count-more = omega (arith, length-append lines (line ∷ []))

    pub followed-on : (moved : Moved) → step_at base (length lines + 1) place line ≡ Ok moved → followed base (lines ++ line ∷ []) ≡ standing moved.place (batches ++ moved.batches) (length (lines ++ line ∷ []))
    followed-on moved moves =
        one-more
        ∙ ap (λ s. chained (standing place batches (length lines)) (after_step place (λ next. follow_from base (length lines + 1 + 1) next []) s)) moves
        ∙ ap (λ bs. standing moved.place (batches ++ bs) (length lines + 1)) (append-nil moved.batches)
        ∙ ap (standing moved.place (batches ++ moved.batches)) count-more

    pub followed-stop : (stop : FeedStop) → step_at base (length lines + 1) place line ≡ Err stop → followed base (lines ++ line ∷ []) ≡ stopped place batches stop (length (lines ++ line ∷ []))
    followed-stop stop stops =
        one-more
        ∙ ap (λ s. chained (standing place batches (length lines)) (after_step place (λ next. follow_from base (length lines + 1 + 1) next []) s)) stops
        ∙ ap (λ bs. stopped place bs stop (length lines + 1)) (append-nil batches)
        ∙ ap (stopped place batches stop) count-more
