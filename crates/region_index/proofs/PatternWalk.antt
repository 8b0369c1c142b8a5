-- A walk over listed patterns: what it found so far, and in how many steps.
use Rattle.std.proofs.Common.{◌≡◌, ℕ, ◌+◌, ◌≤◌, List, [], ◌∷◌, ◌++◌, length, length-append, take, drop, refl, sym, ap, subst, ◌∙◌, arith}
use Rattle.std.proofs.lemmas.Grind.{flat_map-append}
use Rattle.std.proofs.lemmas.List.{append-nil, take-append-drop, take_all}
use Rattle.cube_model.specs.Tree.{Dimension}
use Rattle.region_index.specs.Content.{Content}
use Rattle.region_index.specs.Patterns.{codes_of_pattern, codes_of_patterns}
use Rattle.region_index.specs.Walk.{Probes}
use Rattle.region_index.proofs.Walking.{Probes-append, Probes-none, Probes-of}

-- the regions of these patterns were probed, in no more steps than the patterns
pub record AreProbed (content : Content) (dims : List Dimension) (leaves : List ℕ) (patterns first found : List ℕ) (before after : ℕ) : Type 0 where
  pub probes : Probes content (codes_of_patterns dims leaves patterns) first found before after
  pub most : after ≤ before + length patterns

module _ (content : Content) (dims : List Dimension) (leaves patterns first : List ℕ) where
  -- nothing is probed before the first
  pub AreProbed-none : (steps : ℕ) → AreProbed content dims leaves (take 0 patterns) first first steps steps
  AreProbed-none steps = record { probes = Probes-none content [] first steps refl; most = omega arith }

  -- and all are at the end
  pub AreProbed-all : (k : ℕ) (found : List ℕ) (before after : ℕ) → length patterns ≤ k → AreProbed content dims leaves (take k patterns) first found before after → AreProbed content dims leaves patterns first found before after
  AreProbed-all k found before after end probed =
      subst (λ all. AreProbed content dims leaves all first found before after) (take_all k patterns end) probed

  -- a part takes no more than all
  codes-part : (k : ℕ) → length (codes_of_patterns dims leaves (take k patterns)) ≤ length (codes_of_patterns dims leaves patterns)
  codes-part k =
      let whole = ap (codes_of_patterns dims leaves) (sym (take-append-drop k patterns)) ∙ flat_map-append (codes_of_pattern dims leaves) (take k patterns) (drop k patterns) in
      omega (arith, ap length whole, length-append (codes_of_patterns dims leaves (take k patterns)) (codes_of_patterns dims leaves (drop k patterns)))

  patterns-part : (k : ℕ) → length (take k patterns) ≤ length patterns
  patterns-part k = omega (arith, ap length (take-append-drop k patterns), length-append (take k patterns) (drop k patterns))

  module _ (i pattern : ℕ) (next : take (i + 1) patterns ≡ take i patterns ++ pattern ∷ []) (found : List ℕ) (before now : ℕ)
      (probed : AreProbed content dims leaves (take i patterns) first found before now) where
    codes : codes_of_patterns dims leaves (take (i + 1) patterns) ≡ codes_of_patterns dims leaves (take i patterns) ++ codes_of_pattern dims leaves pattern
    codes =
        ap (codes_of_patterns dims leaves) next
        ∙ flat_map-append (codes_of_pattern dims leaves) (take i patterns) (pattern ∷ [])
        ∙ ap (λ last. codes_of_patterns dims leaves (take i patterns) ++ last) (append-nil (codes_of_pattern dims leaves pattern))

    count-next : length (take (i + 1) patterns) ≡ length (take i patterns) + 1
    count-next = ap length next ∙ length-append (take i patterns) (pattern ∷ [])

    -- one pattern more
    pub AreProbed-next : (more : List ℕ) (after : ℕ) → Probes content (codes_of_pattern dims leaves pattern) found more now after → after ≤ now + 1
        → AreProbed content dims leaves (take (i + 1) patterns) first more before after
    AreProbed-next more after probes most = record {
      probes = Probes-of content _ _ first more before after (sym codes) (Probes-append content _ _ first found more before now after probed.probes probes);
      most = omega (arith, probed.most, most, count-next);
    }

    -- where the walk stops at it, it was within the steps of all
    pub stopped-codes : (after : ℕ) → after ≤ now + length (codes_of_pattern dims leaves pattern) → after ≤ before + length (codes_of_patterns dims leaves patterns)
    stopped-codes after most =
        omega (arith, most, probed.probes.steps, ap length codes, length-append (codes_of_patterns dims leaves (take i patterns)) (codes_of_pattern dims leaves pattern), codes-part (i + 1))

    pub stopped-patterns : (after : ℕ) → after ≤ now + 1 → after ≤ before + length patterns
    stopped-patterns after most = omega (arith, most, probed.most, count-next, patterns-part (i + 1))
