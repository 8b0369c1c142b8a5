-- Lines that lead a follower from one place to another, none of which it refuses.
use Rattle.std.proofs.Common.{◌≡◌, ℕ, ◌+◌, List, [], ◌∷◌, ◌++◌, length, refl, sym, ap, ◌∙◌, add-one, append-nil, append_assoc, Option, None, Ok}
use Rattle.fact_keeper.specs.declared.content.Batch.{Batch}
use Rattle.feed_run.specs.Following.{Base, Followed, Place, after_step, follow_from, step_at}

-- A line leads to a place wherever it stands, and commits these.
pub record LeadsBy (base : Option Base) (place : Place) (line : List ℕ) (next : Place) (committed : List Batch) : Type 0 where
  pub step : (n : ℕ) → step_at base n place line ≡ Ok (record { place = next; batches = committed })

-- Each of the lines leads from where the one before it did, and together they commit these.
abbrev pub Leads : Option Base → Place → List (List ℕ) → Place → List Batch → Type 0
Leads base place [] next committed = (place ≡ next) × (committed ≡ [])
Leads base place (line ∷ lines) next committed =
    (middle : Place) × (first : List Batch) × (later : List Batch) × LeadsBy base place line middle first × Leads base middle lines next later × (committed ≡ first ++ later)

module _ (base : Option Base) where
  pub leads-none : (place : Place) → Leads base place [] place []
  leads-none place = (refl, refl)

  pub leads-cons : (place : Place) (line : List ℕ) (middle : Place) (first : List Batch) (lines : List (List ℕ)) (next : Place) (later : List Batch) → LeadsBy base place line middle first → Leads base middle lines next later
      → Leads base place (line ∷ lines) next (first ++ later)
  leads-cons place line middle first lines next later by rest = (middle, first, later, by, rest, refl)

  -- one line alone
  pub leads-one : (place : Place) (line : List ℕ) (next : Place) (committed : List Batch) → LeadsBy base place line next committed → Leads base place (line ∷ []) next committed
  leads-one place line next committed by = (next, committed, [], by, (refl, refl), sym (append-nil committed))

  -- one part after the other
  pub leads-append : (place : Place) (lines : List (List ℕ)) (middle : Place) (first : List Batch) (more : List (List ℕ)) (next : Place) (later : List Batch) → Leads base place lines middle first → Leads base middle more next later
      → Leads base place (lines ++ more) next (first ++ later)
  leads-append place [] middle first more next later (same, none) rest = rw (same, none) rest
  leads-append place (line ∷ lines) middle first more next later (reached, one, others, by, behind, all) rest =
      (reached, one, others ++ later, by, leads-append reached lines middle others more next later behind rest, ap (λ (b : List Batch). b ++ later) all ∙ append_assoc one others later)

  -- so the follower stops nowhere among them, from any number on
  abbrev led : List (List ℕ) → Place → List Batch → Followed
  led lines next committed = record { place = next; batches = committed; stop = None; lines = length lines }

  pub leads-followed : (n : ℕ) (place : Place) (lines : List (List ℕ)) (next : Place) (committed : List Batch) → Leads base place lines next committed → follow_from base n place lines ≡ led lines next committed
  leads-followed n place [] next committed (same, none) = rw (same, none) refl
  leads-followed n place (line ∷ lines) next committed (middle, first, later, by, rest, all) =
      ap (after_step place (λ (p : Place). follow_from base (n + 1) p lines)) (by.step n)
      ∙ ap (λ (f : Followed). record { place = f.place; batches = first ++ f.batches; stop = f.stop; lines = f.lines + 1 }) (leads-followed (n + 1) middle lines next later rest)
      ∙ ap (λ (b : List Batch). record { place = next; batches = b; stop = None; lines = length lines + 1 }) (sym all)
      ∙ ap (λ (k : ℕ). record { place = next; batches = committed; stop = None; lines = k }) (add-one (length lines))
