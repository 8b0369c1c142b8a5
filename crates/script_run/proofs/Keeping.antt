-- What a keeper holds while lines are done, and where their run breaks off.
use Rattle.std.proofs.Common.{◌≡◌, ℕ, ◌+◌, ◌<◌, ◌≤◌, List, [], ◌∷◌, ◌++◌, length, take, refl, sym, ap, ◌∙◌, subst, append-nil, inl, inr, arith, length-append}
use Rattle.std.specs.Prelude.{◌⊎◌, Bool, true, false}
use Rattle.std.proofs.lemmas.Bool.{cases_lt}
use Rattle.std.proofs.lemmas.List.{take_all, take-append-le}
use Rattle.cube_model.specs.declared.statistic.CellStat.{CellStat}
use Rattle.schema_text.specs.Schema.{SchemaValue}
use Rattle.script_run.specs.declared.break_off.BreakOff.{BreakOff}
use Rattle.script_run.specs.declared.break_off.BreakOff.TheVariants.{Write, SinkMemory, Memory, Keep}
use Rattle.script_run.specs.Kept.{Commits, HasKept, IsGatheredStop, KeptAt, batches, batches_at, is_keep}
use Rattle.script_run.specs.Run.{State, run}
use Rattle.script_run.specs.Seen.{Told}
use Rattle.script_run.proofs.Batches.{batches-push, commits-append, commits_none}

-- no line is done yet
pub none_kept : (weigh : CellStat → ℕ) (schema : SchemaValue) (first : State) (start : Told) → HasKept weigh schema first [] start start []
none_kept weigh schema first start = record {
  commits = commits_none start start refl;
  even = λ n behind among. absurd (omega arith);
}

-- fewer replies are gathered
pub has_kept-fewer : (weigh : CellStat → ℕ) (schema : SchemaValue) (first : State) (lines : List (List ℕ)) (start now : Told) (gathered fewer : List (List ℕ)) → HasKept weigh schema first lines start now gathered
    → length fewer ≤ length gathered → HasKept weigh schema first lines start now fewer
has_kept-fewer weigh schema first lines start now gathered fewer kept le = record {
  commits = kept.commits;
  even = λ n behind among. kept.even n (omega arith) among;
}

-- a line more commits what it does: it commits nothing, or no reply was gathered
pub has_kept-push : (weigh : CellStat → ℕ) (schema : SchemaValue) (first : State) (lines : List (List ℕ)) (line : List ℕ) (start before after : Told) (gathered more : List (List ℕ)) → HasKept weigh schema first lines start before gathered
    → Commits (batches_at weigh schema (run weigh schema first lines).state line) before after → (gathered ≡ []) ⊎ (batches_at weigh schema (run weigh schema first lines).state line ≡ []) → length more ≤ length gathered + 1
    → HasKept weigh schema first (lines ++ line ∷ []) start after more
has_kept-push weigh schema first lines line start before after gathered more kept here which le = record {
  commits = rw (batches-push weigh schema first lines line) (commits-append (batches weigh schema first lines) (batches_at weigh schema (run weigh schema first lines).state line) start before after kept.commits here);
  even = even_at;
}
  where
    even_at : (n : ℕ) → length (lines ++ line ∷ []) < n + length more → n ≤ length (lines ++ line ∷ []) → batches weigh schema first (take n (lines ++ line ∷ [])) ≡ batches weigh schema first (lines ++ line ∷ [])
    even_at n behind among =
        let size = length-append lines (line ∷ []) in
        elim (cases_lt n (length lines + 1)) [
          | inl within ↦
              elim which [
                | inl none ↦ absurd (omega (arith, size, ap length none))
                | inr nothing ↦
                    let early = kept.even n (omega (arith, size)) (omega arith) in
                    let same = batches-push weigh schema first lines line ∙ ap (λ l. batches weigh schema first lines ++ l) nothing ∙ append-nil (batches weigh schema first lines) in
                    ap (batches weigh schema first) (take-append-le n lines (line ∷ []) (omega arith)) ∙ early ∙ sym same
              ]
          | inr all ↦ ap (batches weigh schema first) (take_all n (lines ++ line ∷ []) (omega (arith, size)))
        ]

-- where it runs out of memory behind all lines
kept_at_end : (weigh : CellStat → ℕ) (schema : SchemaValue) (first : State) (lines : List (List ℕ)) (start now : Told) (done : ℕ) → Commits (batches weigh schema first lines) start now → done ≡ length lines
    → KeptAt weigh schema first lines start now (Memory done)
kept_at_end weigh schema first lines start now done commits count =
    let all = take_all done lines (omega arith) in
    record {
      among = omega arith;
      commits = rw all commits;
      next = tt;
    }

-- where it breaks off within the gathered replies
pub kept_at-gathered : (weigh : CellStat → ℕ) (schema : SchemaValue) (first : State) (lines : List (List ℕ)) (start now : Told) (gathered : List (List ℕ)) (done count : ℕ) (off : BreakOff) → HasKept weigh schema first lines start now gathered
    → done ≡ length lines → count ≡ length gathered → IsGatheredStop done count off → KeptAt weigh schema first lines start now off
kept_at-gathered weigh schema first lines start now gathered done count (Write line) kept is_done is_count stop =
    let even = kept.even line (omega (arith, stop.behind)) (omega (arith, stop.among)) in
    record { among = omega (arith, stop.among); commits = rw even kept.commits; next = tt }
kept_at-gathered weigh schema first lines start now gathered done count (SinkMemory line) kept is_done is_count stop =
    let even = kept.even line (omega (arith, stop.behind)) (omega (arith, stop.among)) in
    record { among = omega (arith, stop.among); commits = rw even kept.commits; next = tt }
kept_at-gathered weigh schema first lines start now gathered done count (Memory some) kept is_done is_count stop =
    let even = kept.even some (omega (arith, stop.behind)) (omega (arith, stop.among)) in
    record { among = omega (arith, stop.among); commits = rw even kept.commits; next = tt }
kept_at-gathered weigh schema first lines start now gathered done count (Keep some) kept is_done is_count stop =
    let never : true ≡ false = stop.no_keep in
    absurd (cc never)

-- where it runs out of memory once the gathered replies are written
pub kept_at-gave_up : (weigh : CellStat → ℕ) (schema : SchemaValue) (first : State) (lines : List (List ℕ)) (start now : Told) (gathered : List (List ℕ)) (done : ℕ) (off : BreakOff) → HasKept weigh schema first lines start now gathered
    → done ≡ length lines → (off ≡ Memory done) ⊎ IsGatheredStop done (length gathered) off → KeptAt weigh schema first lines start now off
kept_at-gave_up weigh schema first lines start now gathered done off kept is_done stop =
    elim stop [
      | inl memory ↦ subst (KeptAt weigh schema first lines start now) (sym memory) (kept_at_end weigh schema first lines start now done kept.commits is_done)
      | inr part ↦ kept_at-gathered weigh schema first lines start now gathered done (length gathered) off kept is_done refl part
    ]

-- where it breaks off within the replies of which that to a line more is the last
pub kept_at-answered : (weigh : CellStat → ℕ) (schema : SchemaValue) (first : State) (lines : List (List ℕ)) (line : List ℕ) (start before after : Told) (gathered : List (List ℕ)) (done : ℕ) (off : BreakOff)
    → HasKept weigh schema first lines start before gathered → Commits (batches_at weigh schema (run weigh schema first lines).state line) before after
    → (gathered ≡ []) ⊎ (batches_at weigh schema (run weigh schema first lines).state line ≡ []) → done ≡ length lines → IsGatheredStop (done + 1) (length gathered + 1) off → KeptAt weigh schema first (lines ++ line ∷ []) start after off
kept_at-answered weigh schema first lines line start before after gathered done off kept here which is_done stop =
    let more = has_kept-push weigh schema first lines line start before after gathered ([] ∷ gathered) kept here which (omega arith) in
    kept_at-gathered weigh schema first (lines ++ line ∷ []) start after ([] ∷ gathered) (done + 1) (length gathered + 1) off more (omega (arith, length-append lines (line ∷ []))) (omega arith) stop

-- what is kept where it breaks off among the first lines is kept where it does among more
pub kept_at-more : (weigh : CellStat → ℕ) (schema : SchemaValue) (first : State) (lines more : List (List ℕ)) (start now : Told) (off : BreakOff) → KeptAt weigh schema first lines start now off → KeptAt weigh schema first (lines ++ more) start now off
kept_at-more weigh schema first lines more start now (Write line) kept =
    let early = take-append-le line lines more kept.among in
    record { among = omega (arith, kept.among, length-append lines more); commits = rw early kept.commits; next = tt }
kept_at-more weigh schema first lines more start now (SinkMemory line) kept =
    let early = take-append-le line lines more kept.among in
    record { among = omega (arith, kept.among, length-append lines more); commits = rw early kept.commits; next = tt }
kept_at-more weigh schema first lines more start now (Memory done) kept =
    let early = take-append-le done lines more kept.among in
    record { among = omega (arith, kept.among, length-append lines more); commits = rw early kept.commits; next = tt }
kept_at-more weigh schema first lines more start now (Keep done) kept =
    let early = take-append-le done lines more (omega (arith, kept.among)) in
    let upto = take-append-le (done + 1) lines more kept.among in
    record {
      among = omega (arith, kept.among, length-append lines more);
      commits = rw early kept.commits;
      next = rw (upto, early) kept.next;
    }

-- where the keeper fails at a line, which commits a batch
kept_at-failed : (weigh : CellStat → ℕ) (schema : SchemaValue) (first : State) (lines : List (List ℕ)) (line : List ℕ) (start now : Told) (done : ℕ) → Commits (batches weigh schema first lines) start now
    → length (batches_at weigh schema (run weigh schema first lines).state line) ≡ 1 → done ≡ length lines → KeptAt weigh schema first (lines ++ line ∷ []) start now (Keep done)
kept_at-failed weigh schema first lines line start now done commits one is_done =
    let size = length-append lines (line ∷ []) in
    let before = take-append-le done lines (line ∷ []) (omega arith) ∙ take_all done lines (omega arith) in
    let all = take_all (done + 1) (lines ++ line ∷ []) (omega (arith, size)) in
    let push = batches-push weigh schema first lines line in
    let more : length (batches weigh schema first (lines ++ line ∷ [])) ≡ length (batches weigh schema first lines) + 1 =
    omega (arith, one, ap length push, length-append (batches weigh schema first lines) (batches_at weigh schema (run weigh schema first lines).state line)) in
    record {
      among = omega (arith, size);
      commits = rw before commits;
      next = rw (all, before) more;
    }

-- a stop within no replies is none
no_part : (done : ℕ) (gathered : List (List ℕ)) (off : BreakOff) → gathered ≡ [] → IsGatheredStop done (length gathered) off → ⊥
no_part done gathered off none stop = omega (arith, stop.behind, stop.among, ap length none)

-- where no reply is gathered, the fault of the keeper is told
pub tells_fault : (done : ℕ) (gathered : List (List ℕ)) (off : BreakOff) → gathered ≡ [] → (off ≡ Keep done) ⊎ IsGatheredStop done (length gathered) off → off ≡ Keep done
tells_fault done gathered off none stop = elim stop [ inl keep ↦ keep | inr part ↦ absurd (no_part done gathered off none part) ]

pub kept_at-fault : (weigh : CellStat → ℕ) (schema : SchemaValue) (first : State) (lines : List (List ℕ)) (line : List ℕ) (start now : Told) (gathered : List (List ℕ)) (done : ℕ) (off : BreakOff) → HasKept weigh schema first lines start now gathered
    → length (batches_at weigh schema (run weigh schema first lines).state line) ≡ 1 → gathered ≡ [] → done ≡ length lines → (off ≡ Keep done) ⊎ IsGatheredStop done (length gathered) off
    → KeptAt weigh schema first (lines ++ line ∷ []) start now off
kept_at-fault weigh schema first lines line start now gathered done off kept one none is_done stop =
    subst (KeptAt weigh schema first (lines ++ line ∷ []) start now) (sym (tells_fault done gathered off none stop)) (kept_at-failed weigh schema first lines line start now done kept.commits one is_done)

-- no fault of the keeper is told where it runs out of memory
pub gave_up-no_keep : (asked done count : ℕ) (off : BreakOff) → (off ≡ Memory asked) ⊎ IsGatheredStop done count off → is_keep off ≡ false
gave_up-no_keep asked done count off stop = elim stop [ inl memory ↦ ap is_keep memory | inr part ↦ part.no_keep ]

-- it is told or not
pub told_or_not : {A : Type 0} (b : Bool) → b ≡ false → b ≡ true → A
told_or_not b is_false is_true = cc
