-- What is seen of the objects of the outside: what they tell before a call and after it.
use Rattle.std.specs.Prelude.{◌≡◌, ℕ, List, length, drop, ⊤, Option, Some, None, IsSomeAnd}
use Rattle.std.specs.Io.{StartsWith}
use Rattle.std.specs.Io.KnownBytes.{Keeps}
use Rattle.cube_base.specs.Outside.{Rose, SinkTold, SourceTold}
use Rattle.fact_keeper.specs.Keeper.{KeeperTold}
use Rattle.fact_keeper.specs.declared.content.Batch.{Batch}
use Rattle.fact_keeper.specs.declared.content.Stored.{Stored}

-- of a source: the bytes left, and the number of faults
pub record SourceSeen : Type 0 where
  pub left : Option (List ℕ)
  pub left_after : Option (List ℕ)
  pub faults : ℕ
  pub faults_after : ℕ

-- what a source tells of a call
abbrev pub source_seen : {S : Type 0} → (S → SourceTold) → S → S → SourceSeen
source_seen tells source source_after = record {
  left = (tells source).left;
  left_after = (tells source_after).left;
  faults = (tells source).faults;
  faults_after = (tells source_after).faults;
}

-- no fault of the source was met
abbrev pub NoReadFault : SourceSeen → Type 0
NoReadFault source = source.faults_after ≡ source.faults

-- a fault of the source was met
abbrev pub ReadFailed : SourceSeen → Type 0
ReadFailed source = Rose source.faults source.faults_after

-- of a sink: the bytes taken, and the number of faults
pub record SinkSeen : Type 0 where
  pub taken : Option (List ℕ)
  pub taken_after : Option (List ℕ)
  pub faults : ℕ
  pub faults_after : ℕ

-- what a sink tells of a call
abbrev pub sink_seen : {K : Type 0} → (K → SinkTold) → K → K → SinkSeen
sink_seen tells sink sink_after = record {
  taken = (tells sink).taken;
  taken_after = (tells sink_after).taken;
  faults = (tells sink).faults;
  faults_after = (tells sink_after).faults;
}

-- what a sink tells of several calls: what it had taken at their start, and the faults of the last
abbrev pub seen_since : SinkSeen → Option (List ℕ) → SinkSeen
seen_since sink start = record sink { taken = start }

-- no fault of the sink was met
abbrev pub NoWriteFault : SinkSeen → Type 0
NoWriteFault sink = sink.faults_after ≡ sink.faults

-- a fault of the sink was met
abbrev pub WriteFailed : SinkSeen → Type 0
WriteFailed sink = Rose sink.faults sink.faults_after

-- nothing was written
abbrev pub WroteNothing : SinkSeen → Type 0
WroteNothing sink = Keeps sink.taken sink.taken_after

-- what was written, where the sink tells it
abbrev pub Wrote : Option (List ℕ) → Option (List ℕ) → (List ℕ → Type 0) → Type 0
Wrote None after P = ⊤
Wrote (Some before) after P = IsSomeAnd after (λ now. StartsWith now before × P (drop (length before) now))

-- of a keeper at one time: the content, and the batches so far, where it tells them
pub record Told : Type 0 where
  pub content : Option Stored
  pub journal : Option (List Batch)

abbrev pub told_of : {Q : Type 0} → (Q → KeeperTold) → Q → Told
told_of tells keeper = record { content = (tells keeper).content; journal = (tells keeper).journal }

-- of a keeper before a call and after it, with the number of faults
pub record KeeperSeen : Type 0 where
  pub told : Told
  pub told_after : Told
  pub faults : ℕ
  pub faults_after : ℕ

abbrev pub keeper_seen : {Q : Type 0} → (Q → KeeperTold) → Q → Q → KeeperSeen
keeper_seen tells keeper keeper_after = record {
  told = told_of tells keeper;
  told_after = told_of tells keeper_after;
  faults = (tells keeper).faults;
  faults_after = (tells keeper_after).faults;
}

-- what is seen of the source, the sink and the keeper
pub record SeenAll : Type 0 where
  pub source : SourceSeen
  pub sink : SinkSeen
  pub keeper : KeeperSeen

-- what all three tell of a call
abbrev pub seen_of : {S K Q : Type 0} → (S → SourceTold) → (K → SinkTold) → (Q → KeeperTold) → S → S → K → K → Q → Q → SeenAll
seen_of source_tells sink_tells keeper_tells source source_after sink sink_after keeper keeper_after = record {
  source = source_seen source_tells source source_after;
  sink = sink_seen sink_tells sink sink_after;
  keeper = keeper_seen keeper_tells keeper keeper_after;
}

-- no fault of the keeper was met
abbrev pub NoKeepFault : KeeperSeen → Type 0
NoKeepFault keeper = keeper.faults_after ≡ keeper.faults

-- a fault of the keeper was met
abbrev pub KeepFailed : KeeperSeen → Type 0
KeepFailed keeper = Rose keeper.faults keeper.faults_after
