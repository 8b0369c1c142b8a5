-- What a keeper tells where nothing was committed, and since a load.
use Rattle.std.proofs.Common.{◌≡◌, ℕ, List, [], ◌∷◌, ◌++◌, refl, sym, ap, ◌∙◌, subst, append-nil, Option, Some, None, Result, Ok, Err}
use Rattle.std.specs.Prelude.{IfSome, OnErr, OnOk}
use Rattle.fact_keeper.specs.Batch.{apply_batch}
use Rattle.std.specs.Option.{option_map}
use Rattle.fact_keeper.specs.declared.content.Batch.{Batch}
use Rattle.fact_keeper.specs.declared.content.Stored.{Stored}
use Rattle.script_run.specs.Kept.{Commits, apply_all}
use Rattle.script_run.specs.Seen.{KeeperSeen, Told}
use Rattle.cube_cli.specs.Seen.{IsUntouched}

-- nothing was committed
same_content : (content : Option Stored) → content ≡ option_map (apply_all []) content
same_content None = refl
same_content (Some content) = refl

same_journal : (journal : Option (List Batch)) → journal ≡ option_map (λ earlier. earlier ++ []) journal
same_journal None = refl
same_journal (Some earlier) = ap (λ l. Some l) (sym (append-nil earlier))

pub commits_none : (told now : Told) → now ≡ told → Commits [] told now
commits_none told now same = subst (Commits [] told) (sym same) (record { content = same_content told.content; journal = same_journal told.journal })

-- content and journal are all that a keeper tells
pub same_told : (told later : Told) → later.content ≡ told.content → later.journal ≡ told.journal → later ≡ told
same_told told later content journal =
    let with_content : later ≡ record { content = told.content; journal = later.journal } = ap (λ c. record { content = c; journal = later.journal }) content in
    with_content ∙ ap (λ j. record { content = told.content; journal = j }) journal

-- a keeper that was not called
pub unkept : (keeper : KeeperSeen) → IsUntouched keeper → Commits [] keeper.told keeper.told_after
unkept keeper same = commits_none keeper.told keeper.told_after same

-- What was seen since a load which left all as it was is what was seen since before it.
pub since_load : (P : KeeperSeen → Type 0) (told loaded later : Told) (faults faults_loaded faults_later : ℕ) → loaded ≡ told → faults_loaded ≡ faults
    → P (record { told = loaded; told_after = later; faults = faults_loaded; faults_after = faults_later })
    → P (record { told = told; told_after = later; faults = faults; faults_after = faults_later })
since_load P told loaded later faults faults_loaded faults_later same count here =
    subst (λ f. P (record { told = told; told_after = later; faults = f; faults_after = faults_later })) count
    (subst (λ t. P (record { told = t; told_after = later; faults = faults_loaded; faults_after = faults_later })) same here)

-- what was told before it is told since
pub told_since : (told loaded : Told) (P : Stored → Type 0) → loaded ≡ told → IfSome told.content P → IfSome loaded.content P
told_since told loaded P same here = subst (λ (t : Told). IfSome t.content P) (sym same) here

-- a commit of one batch
pub committed_one : {T E : Type 0} (before after : Told) (result : Result T E) (batch other : Batch) → batch ≡ other → OnOk result (after.content ≡ option_map (apply_batch batch) before.content)
    → OnOk result (after.journal ≡ option_map (λ batches. batches ++ batch ∷ []) before.journal) → OnOk result (Commits (other ∷ []) before after)
committed_one before after (Ok ok) batch other is content journal = subst (λ b. Commits (b ∷ []) before after) is (record { content = content; journal = journal })
committed_one before after (Err error) batch other is content journal = tt

pub not_committed : {T E : Type 0} (before after : Told) (result : Result T E) → OnErr result (after.content ≡ before.content) → OnErr result (after.journal ≡ before.journal) → OnErr result (after ≡ before)
not_committed before after (Ok ok) content journal = tt
not_committed before after (Err error) content journal = same_told before after content journal
