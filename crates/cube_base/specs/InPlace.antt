-- A list held in place: it is the front of a fixed number of places, and the others hold a filler.
use Rattle.std.specs.Prelude.{◌≡◌, ℕ, ◌-◌, ◌≤◌, List, ◌++◌, length, take, replicate}
use Rattle.std.proofs.Common.{arith, sym}
use Rattle.std.proofs.lemmas.List.{length-take-le}

-- so many places, with the items in front
abbrev pub padded : {X : Type 0} → X → ℕ → List X → List X
padded filler size items = items ++ replicate (size - length items) filler

-- the first places hold the items, and the others the filler
pub record IsPadded {X : Type 0} (filler : X) (size len : ℕ) (places : List X) : Type 0 where
  pub few : len ≤ size
  pub whole : length places ≡ size
  pub rest : places ≡ padded filler size (take len places)

-- the items are as many as was said
pub length-take-places : {X : Type 0} {filler : X} {size len : ℕ} {places : List X} → IsPadded filler size len places → length (take len places) ≡ len
length-take-places {X} {filler} {size} {len} {places} h = length-take-le len places (omega arith)

-- the items with the filler after them are the places
pub padded-take-places : {X : Type 0} {filler : X} {size len : ℕ} {places : List X} → IsPadded filler size len places → padded filler size (take len places) ≡ places
padded-take-places h = sym h.rest
