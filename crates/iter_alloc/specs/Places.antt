-- Rounds over places: each cell has a place, and of the facts of a spot, which share a region, each gives to the spot's places.
use Rattle.iter_alloc.specs.declared.rounds.Place.{Place}
use Rattle.iter_alloc.specs.declared.rounds.Span.{Span}
use Rattle.iter_alloc.specs.declared.shares.Mass.{Mass}
use Rattle.cube_model.specs.Limits.{MAX_CELLS}
use Rattle.iter_alloc.specs.Forest.{at}
use Rattle.iter_alloc.specs.Rounds.{share_by}
use Rattle.std.specs.List.{sum_by}
use Rattle.std.specs.Prelude.{All, ◌==◌, if◌then◌else◌, ◌≡◌, ℕ, zero, suc, ◌+◌, ◌*◌, ◌^◌, ◌<◌, ◌≤◌, List, [], ◌∷◌, length, map, take, drop, ◌/◌, ◌-◌}

-- the places of a spot, and the number of its facts
pub record Part : Type 0 where
  pub own : List ℕ
  pub members : ℕ

-- the places of spots, one spot's after the other's
abbrev pub parts : List Span → List ℕ → List Part
parts [] flat = []
parts (span ∷ spans) flat = record { own = take span.len flat; members = span.members } ∷ parts spans (drop span.len flat)

-- what falls to a place, where each of some places gets so much
abbrev pub falls : (ℕ → ℕ) → List ℕ → ℕ → ℕ
falls gets own place = sum_by (λ i. if i == place then gets i else 0) own

-- what a place gets of the facts of a spot, where the places stand so
abbrev pub amount : (ℕ → ℕ) → ℕ → Part → ℕ
amount level place part = falls (λ i. part.members * share_by level part.own i) part.own place

-- what a place gets in a round
abbrev pub amounts : (ℕ → ℕ) → List Part → ℕ → ℕ
amounts level all place = sum_by (amount level place) all

-- how a place stands after so many rounds
unfoldable pub placed_level : List ℕ → List Part → ℕ → ℕ → ℕ
placed_level begun all zero place = at begun place
placed_level begun all (suc n) place = at begun place + amounts (placed_level begun all n) all place

-- the most that stands in a place
abbrev pub LEVEL_LIMIT : ℕ
LEVEL_LIMIT = 2 ^ 40

abbrev pub AreLevels : List ℕ → Type 0
AreLevels levels = All (λ level. level ≤ LEVEL_LIMIT) levels

-- how places stand, and how they are to stand after the round
abbrev pub levels_in : List Place → List ℕ
levels_in places = map (λ place. place.level) places

abbrev pub nexts_in : List Place → List ℕ
nexts_in places = map (λ place. place.next) places

-- if anything stands in its places, a mass tells how often its sum goes into 2^64 - 1
abbrev pub HasInverse : Mass → Type 0
HasInverse mass = 1 ≤ mass.sum → mass.inverse ≡ (2 ^ 64 - 1) / mass.sum

-- spots have all of these places between them, which are below a count, and none has too many
pub record ArePlaced (spans : List Span) (flat : List ℕ) (count : ℕ) : Type 0 where
  pub parted : sum_by (λ span. span.len) spans ≡ length flat
  pub within : All (λ place. place < count) flat
  pub few : All (λ span. span.len ≤ MAX_CELLS) spans

-- each place stands so much higher
pub record IsRaised (raise : ℕ → ℕ) (old new : List ℕ) : Type 0 where
  pub as_many : length new ≡ length old
  pub each : (i : ℕ) → i < length old → at new i ≡ at old i + raise i
