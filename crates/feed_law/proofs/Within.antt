-- The lines of a batch lead a follower behind it.
use Rattle.std.proofs.Common.{◌≡◌, ℕ, ◌+◌, List, [], ◌∷◌, ◌++◌, refl, ap, ◌∙◌, eq-eqb, Option, Ok}
use Rattle.std.specs.Prelude.{codes}
use Rattle.std.specs.List.{flat_map}
use Rattle.cube_model.specs.declared.statistic.CellStat.{CellStat}
use Rattle.fact_fields.proofs.NodesAgain.{bytes_eq-same}
use Rattle.fact_keeper.specs.declared.content.Batch.{Batch}
use Rattle.schema_text.specs.Schema.{weigh_of}
use Rattle.script_text.specs.declared.line.Line.{Line}
use Rattle.script_run.specs.Kept.{batches_of}
use Rattle.script_run.specs.Run.{State, schema_at, step_of}
use Rattle.row_feed.specs.declared.feed_line.FeedLine.TheVariants as feed
use Rattle.row_feed.specs.FeedLine.{feed_line_of}
use Rattle.row_feed.specs.FeedText.{behind_lines, rows_lines}
use Rattle.feed_run.specs.Following.{Base, Between, Moved, Within, Work, line_done, moved_to, step_at}
use Rattle.feed_law.proofs.Leads.{Leads, leads-cons, leads-one}
use Rattle.feed_law.proofs.Words.{batch-word}

module _ (base : Option Base) where
  -- the lines behind that of the batch
  module _ (work : Work) (batch : Batch) where
    abbrev place_done : Work
    place_done = record work { applied = work.applied + 1 }

    within-step : (n : ℕ) (line : List ℕ) (left : List (List ℕ)) → step_at base n (Within work batch (line ∷ left)) line ≡ Ok (line_done work batch left)
    unfolding step_at
    within-step n line left = rw (bytes_eq-same line) refl

    goes_on : (front : List (List ℕ)) (last : List ℕ) → line_done work batch (front ++ last ∷ []) ≡ record { place = Within work batch (front ++ last ∷ []); batches = [] }
    goes_on [] last = refl
    goes_on (line ∷ front) last = refl

    within-leads : (front : List (List ℕ)) (last : List ℕ) → Leads base (Within work batch (front ++ last ∷ [])) (front ++ last ∷ []) (Between place_done) (batch ∷ [])
    within-leads [] last = leads-one base (Within work batch (last ∷ [])) last (Between place_done) (batch ∷ []) (record { step = λ n. within-step n last [] })
    within-leads (line ∷ front) last =
        leads-cons base (Within work batch (line ∷ (front ++ last ∷ []))) line (Within work batch (front ++ last ∷ [])) [] (front ++ last ∷ []) (Between place_done) (batch ∷ [])
        (record { step = λ n. within-step n line (front ++ last ∷ []) ∙ ap (λ (m : Moved). Ok m) (goes_on front last) })
        (within-leads front last)

  -- and that line itself
  module _ (work : Work) (said : Line) (batch : Batch) where
    abbrev weigh : CellStat → ℕ
    weigh = weigh_of work.schema.policy

    abbrev next : State
    next = (step_of weigh work.schema work.state said).state

    abbrev begun : Work
    begun = record work { state = next }

    batch-step : (n : ℕ) (line : List ℕ) → feed_line_of (schema_at work.schema work.state) line ≡ Ok (feed.Batch (work.applied + 1) (Ok said)) → batches_of weigh work.schema work.state said ≡ batch ∷ []
        → step_at base n (Between work) line ≡ moved_to (Within begun batch (behind_lines next.dims batch))
    unfolding step_at
    batch-step n line read one =
        let word = batch-word (schema_at work.schema work.state) line (work.applied + 1) (Ok said) read in
        let same = eq-eqb (work.applied + 1) (work.applied + 1) refl in
        rw (word.long, word.clean, word.named, read, same, one) refl

    pub batch-leads : (line : List ℕ) → feed_line_of (schema_at work.schema work.state) line ≡ Ok (feed.Batch (work.applied + 1) (Ok said)) → batches_of weigh work.schema work.state said ≡ batch ∷ []
        → Leads base (Between work) (line ∷ behind_lines next.dims batch) (Between (record begun { applied = work.applied + 1 })) (batch ∷ [])
    batch-leads line read one =
        leads-cons base (Between work) line (Within begun batch (behind_lines next.dims batch)) [] (behind_lines next.dims batch) (Between (record begun { applied = work.applied + 1 })) (batch ∷ [])
        (record { step = λ n. batch-step n line read one })
        (within-leads begun batch (flat_map (rows_lines next.dims) batch.rows) (codes "done"))
