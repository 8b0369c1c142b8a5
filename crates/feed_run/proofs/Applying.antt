-- What the applying of a batch does to what is applied.
use Rattle.std.proofs.Common.{◌≡◌, ℕ, ◌+◌, ◌<◌, false, List, [], ◌∷◌, ◌++◌, length, take, refl, sym, ap, ◌∙◌, subst, append-nil, arith}
use Rattle.std.specs.Prelude.{nat_le}
use Rattle.std.specs.List.{concat}
use Rattle.std.specs.Io.KnownBytes.{Appends}
use Rattle.std.proofs.KnownBytes.{Appends-trans}
use Rattle.std.proofs.lemmas.Bool.Decides.{nat_tests}
use Rattle.std.proofs.lemmas.List.FromFn.{length-map-range_with_len, map-range_with_len_more}
use Rattle.fact_keeper.specs.declared.content.Batch.{Batch}
use Rattle.script_run.specs.Kept.{Commits}
use Rattle.script_run.specs.Seen.{Wrote}
use Rattle.script_run.specs.Written.{Broken}
use Rattle.script_run.specs.ReplyEnds.{reply_ends_from, whole_within}
use Rattle.script_run.proofs.Batches.{commits-append}
use Rattle.script_run.proofs.Texts.{broken_at, broken_behind, concat-append}
use Rattle.script_run.proofs.Writing.{wrote}
use Rattle.feed_run.specs.FollowEnd.{Applied}
use Rattle.feed_run.specs.FollowTurn.{AllTold, AppliesAll, keeper_between, sink_between}
use Rattle.feed_run.specs.Following.{applied_text, applied_texts}
use Rattle.feed_run.specs.Keeping.{ToldBatch, ToldPart}
use Rattle.feed_run.specs.LeadTurn.{KeptAll, SentNothing}

-- the line of one batch more
texts-more : (before : ℕ) → applied_texts (before + 1) ≡ applied_texts before ++ applied_text (before + 1) ∷ []
texts-more before = let next : 1 + before ≡ before + 1 = omega arith in ap (λ texts. [] ∷ texts) (map-range_with_len_more applied_text 1 before (before + 1) next)

texts-count : (before : ℕ) → length (applied_texts before) ≡ before + 1
texts-count before = omega (arith, length-map-range_with_len applied_text 1 before)

bytes-more : (before : ℕ) → concat (applied_texts (before + 1)) ≡ concat (applied_texts before) ++ applied_text (before + 1)
bytes-more before =
    ap concat (texts-more before) ∙ concat-append (applied_texts before) (applied_text (before + 1) ∷ [])
    ∙ ap (λ t. concat (applied_texts before) ++ t) (append-nil (applied_text (before + 1)))

-- a part of one text alone
part-broken : (text : List ℕ) (count : ℕ) → count < length text → Broken (text ∷ []) 1 (take count text)
part-broken text count part =
    let alone : concat (text ∷ []) ≡ text = append-nil text in
    let within : count < length (concat (text ∷ [])) = omega (arith, part, ap length alone) in
    let none : nat_le (0 + length text) count ≡ false = grind (arith, nat_tests) in
    let whole : whole_within count (reply_ends_from 0 (text ∷ [])) ≡ 0 = rw none refl in
    let broken : Broken (text ∷ []) (whole_within count (reply_ends_from 0 (text ∷ [])) + 1) (take count (concat (text ∷ []))) = broken_at (text ∷ []) count within in
    subst (λ w. Broken (text ∷ []) (w + 1) (take count text)) whole (subst (λ t. Broken (text ∷ []) (whole_within count (reply_ends_from 0 (text ∷ [])) + 1) (take count t)) alone broken)

-- a part of the line of one batch more
part-behind : (before count : ℕ) → count < length (applied_text (before + 1)) → Broken (applied_texts (before + 1)) (before + 1 + 1) (concat (applied_texts before) ++ take count (applied_text (before + 1)))
part-behind before count part =
    let text = applied_text (before + 1) in
    let some : 0 < 1 = omega arith in
    let broken : Broken (applied_texts before ++ text ∷ []) (length (applied_texts before) + 1) (concat (applied_texts before) ++ take count text) =
    broken_behind (applied_texts before) (text ∷ []) 1 (take count text) some (part-broken text count part) in
    subst (λ texts. Broken texts (before + 1 + 1) (concat (applied_texts before) ++ take count text)) (sym (texts-more before))
    (subst (λ n. Broken (applied_texts before ++ text ∷ []) (n + 1) (concat (applied_texts before) ++ take count text)) (texts-count before) broken)

module _ (start was now : AllTold) (batches : List Batch) (applied : ℕ) where
  -- nothing more was written or kept
  pub applied-still : Applied batches applied (sink_between start.sink was.sink) (keeper_between start.keeper was.keeper) → SentNothing (sink_between was.sink now.sink)
      → (keeper_between was.keeper now.keeper).told_after ≡ (keeper_between was.keeper now.keeper).told
      → Applied batches applied (sink_between start.sink now.sink) (keeper_between start.keeper now.keeper)
  applied-still told sent kept = record {
    kept = subst (Commits batches (keeper_between start.keeper was.keeper).told) (sym kept) told.kept;
    written = subst (λ taken. Appends start.sink.taken taken (concat (applied_texts applied))) (sym sent.taken) told.written;
  }

  -- one batch more is kept
  kept-more : (batch : Batch) → Applied batches applied (sink_between start.sink was.sink) (keeper_between start.keeper was.keeper) → KeptAll (batch ∷ []) (keeper_between was.keeper now.keeper)
      → Commits (batches ++ batch ∷ []) (keeper_between start.keeper now.keeper).told (keeper_between start.keeper now.keeper).told_after
  kept-more batch told kept =
      commits-append batches (batch ∷ []) (keeper_between start.keeper was.keeper).told (keeper_between was.keeper now.keeper).told (keeper_between was.keeper now.keeper).told_after told.kept kept.commits

  module _ (applies : AppliesAll start was batches applied) where
    -- and its line written
    pub applies-more : (batch : Batch) → ToldBatch batch (applied + 1) (sink_between was.sink now.sink) (keeper_between was.keeper now.keeper) → AppliesAll start now (batches ++ batch ∷ []) (applied + 1)
    applies-more batch told = record {
      told = record {
        kept = kept-more batch applies.told told.kept;
        written =
            subst (Appends start.sink.taken now.sink.taken) (sym (bytes-more applied))
            (Appends-trans start.sink.taken was.sink.taken now.sink.taken (concat (applied_texts applied)) (applied_text (applied + 1)) applies.told.written told.wrote);
      };
      write = told.write ∙ applies.write;
      keep = told.kept.keep ∙ applies.keep;
    }

    -- or a part of it
    pub part-kept : (batch : Batch) (number : ℕ) → ToldPart batch applied number (sink_between was.sink now.sink) (keeper_between was.keeper now.keeper)
        → Commits (batches ++ batch ∷ []) (keeper_between start.keeper now.keeper).told (keeper_between start.keeper now.keeper).told_after
    part-kept batch number told = kept-more batch applies.told told.kept

    pub part-wrote : (batch : Batch) (number : ℕ) → ToldPart batch applied number (sink_between was.sink now.sink) (keeper_between was.keeper now.keeper)
        → Wrote start.sink.taken now.sink.taken (Broken (applied_texts number) (number + 1))
    part-wrote batch number told =
        let count = told.part.count in
        let bytes = Appends-trans start.sink.taken was.sink.taken now.sink.taken (concat (applied_texts applied)) (take count (applied_text number)) applies.told.written told.part.bytes in
        let part : count < length (applied_text (applied + 1)) = subst (λ n. count < length (applied_text n)) told.next told.part.part in
        subst (λ n. Wrote start.sink.taken now.sink.taken (Broken (applied_texts n) (n + 1))) (sym told.next)
        (wrote start.sink.taken now.sink.taken (concat (applied_texts applied) ++ take count (applied_text (applied + 1))) (Broken (applied_texts (applied + 1)) (applied + 1 + 1))
        (subst (λ n. Appends start.sink.taken now.sink.taken (concat (applied_texts applied) ++ take count (applied_text n))) told.next bytes) (part-behind applied count part))
