-- Patterns that are noted of facts are known of these, and of facts before them.
use Rattle.std.proofs.Common.{◌≡◌, Bool, true, false, List, [], ◌∷◌, refl, sym, ap, ◌∙◌, subst}
use Rattle.std.specs.Prelude.{All, IfSome, if◌then◌else◌, ◌||◌, Option, Some, None}
use Rattle.std.specs.List.{fold}
use Rattle.std.specs.Option.{option_map_or}
use Rattle.std.proofs.lemmas.List.Elements.{All-cons, All-head, All-nil, All-tail, All-weaker}
use Rattle.cube_model.specs.declared.edit.Edit.{Edit}
use Rattle.cube_model.specs.declared.edit.Fact.{Fact}
use Rattle.cube_model.specs.Facts.{after, is_precise}
use Rattle.cube_model.specs.Tree.{Dimension}
use Rattle.region_algebra.specs.Space.{IsRegion}
use Rattle.fact_groups.specs.Edits.{given}
use Rattle.fact_groups.proofs.Edits.{All-after}
use Rattle.region_index.specs.Patterns.{KnowsPatterns, Patterns, is_known, knows, noted, pattern_of}
use Rattle.region_index.proofs.Noting.{known-kept, known-noted}
use Rattle.cube_state.specs.Knowing.{noted_fact, noted_given}

-- nothing is to be known of no facts
pub KnowsPatterns-none : (dims : List Dimension) (facts : List Fact) (patterns : Patterns) → facts ≡ [] → KnowsPatterns dims facts patterns
KnowsPatterns-none dims facts patterns none = subst (λ (fs : List Fact). KnowsPatterns dims fs patterns) (sym none) (All-nil (λ (f : Fact). knows dims patterns f ≡ true))

module _ (dims : List Dimension) (patterns : Patterns) where
  -- what is noted of a fact is known
  pub knows-noted : (fact : Fact) → knows dims (noted_fact dims patterns fact) fact ≡ true
  knows-noted fact = here (is_precise dims fact)
    where
      here : (precise : Bool) → (precise || is_known (if precise then patterns else noted patterns (pattern_of dims fact.region)) (pattern_of dims fact.region)) ≡ true
      here true = refl
      here false = known-noted patterns (pattern_of dims fact.region)

  knows-kept : (fact other : Fact) → knows dims patterns other ≡ true → knows dims (noted_fact dims patterns fact) other ≡ true
  knows-kept fact other = here (is_precise dims fact) (is_precise dims other)
    where
      here : (precise exact : Bool) → (exact || is_known patterns (pattern_of dims other.region)) ≡ true
          → (exact || is_known (if precise then patterns else noted patterns (pattern_of dims fact.region)) (pattern_of dims other.region)) ≡ true
      here precise true known = refl
      here true false known = known
      here false false known = known-kept patterns (pattern_of dims fact.region) (pattern_of dims other.region) known

  -- and so is what was
  pub KnowsPatterns-noted : (fact : Fact) (facts : List Fact) → KnowsPatterns dims facts patterns → KnowsPatterns dims facts (noted_fact dims patterns fact)
  KnowsPatterns-noted fact facts known =
      All-weaker (λ (f : Fact). knows dims patterns f ≡ true) (λ (f : Fact). knows dims (noted_fact dims patterns fact) f ≡ true) (knows-kept fact) facts known

-- what is known is known after all of some facts are noted
knows-folded : (dims : List Dimension) (facts : List Fact) (patterns : Patterns) (other : Fact) → knows dims patterns other ≡ true → knows dims (fold (noted_fact dims) patterns facts) other ≡ true
knows-folded dims [] patterns other known = known
knows-folded dims (fact ∷ facts) patterns other known = knows-folded dims facts (noted_fact dims patterns fact) other (knows-kept dims patterns fact other known)

-- and so is that of each of them
KnowsPatterns-folded : (dims : List Dimension) (facts : List Fact) (patterns : Patterns) → KnowsPatterns dims facts (fold (noted_fact dims) patterns facts)
KnowsPatterns-folded dims [] patterns = All-nil (λ (f : Fact). knows dims patterns f ≡ true)
KnowsPatterns-folded dims (fact ∷ facts) patterns =
    All-cons (λ (f : Fact). knows dims (fold (noted_fact dims) (noted_fact dims patterns fact) facts) f ≡ true) fact facts
    (knows-folded dims facts (noted_fact dims patterns fact) fact (knows-noted dims patterns fact)) (KnowsPatterns-folded dims facts (noted_fact dims patterns fact))

-- what comes of the patterns so far and the facts that are left is what comes of all
pub record Noting (dims : List Dimension) (facts left : List Fact) (patterns : Patterns) : Type 0 where
  pub all : fold (noted_fact dims) patterns left ≡ fold (noted_fact dims) (Some []) facts
  pub regions : All (λ fact. IsRegion dims fact.region) left

pub Noting-start : (dims : List Dimension) (facts left : List Fact) (patterns : Patterns) → All (λ fact. IsRegion dims fact.region) facts → left ≡ facts → patterns ≡ Some [] → Noting dims facts left patterns
Noting-start dims facts left patterns named is none = record {
  all = ap (λ ps. fold (noted_fact dims) ps left) none ∙ ap (λ (fs : List Fact). fold (noted_fact dims) (Some []) fs) is;
  regions = subst (λ (fs : List Fact). All (λ fact. IsRegion dims fact.region) fs) (sym is) named;
}

module _ (dims : List Dimension) (facts left : List Fact) (patterns : Patterns) (noting : Noting dims facts left patterns) where
  pub noting-region : (f : Fact) (others : List Fact) → left ≡ f ∷ others → IsRegion dims f.region
  noting-region f others first = All-head (λ fact. IsRegion dims fact.region) f others (subst (λ (fs : List Fact). All (λ fact. IsRegion dims fact.region) fs) first noting.regions)

  pub Noting-next : (f : Fact) (others : List Fact) (later : Patterns) → left ≡ f ∷ others → later ≡ noted_fact dims patterns f → Noting dims facts others later
  Noting-next f others later first is = record {
    all = ap (λ ps. fold (noted_fact dims) ps others) is ∙ ap (λ (fs : List Fact). fold (noted_fact dims) patterns fs) (sym first) ∙ noting.all;
    regions = All-tail (λ fact. IsRegion dims fact.region) f others (subst (λ (fs : List Fact). All (λ fact. IsRegion dims fact.region) fs) first noting.regions);
  }

  -- in the end the patterns of all facts are known
  pub KnowsPatterns-all : left ≡ [] → KnowsPatterns dims facts patterns
  KnowsPatterns-all none =
      subst (KnowsPatterns dims facts) (sym (ap (λ (fs : List Fact). fold (noted_fact dims) patterns fs) (sym none) ∙ noting.all)) (KnowsPatterns-folded dims facts (Some []))

-- what an edit gives is known once it is noted, and the facts that stay are as they were
pub KnowsPatterns-after : (dims : List Dimension) (edit : Edit) (facts : List Fact) (patterns : Patterns) → KnowsPatterns dims facts patterns → KnowsPatterns dims (after edit facts) (noted_given dims patterns edit)
KnowsPatterns-after dims edit facts patterns known = by (given edit) refl
  where
    by : (gave : Option Fact) → given edit ≡ gave → KnowsPatterns dims (after edit facts) (option_map_or (noted_fact dims patterns) gave patterns)
    by None is = All-after (λ f. knows dims patterns f ≡ true) edit facts known (subst (λ gave. IfSome gave (λ f. knows dims patterns f ≡ true)) (sym is) tt)
    by (Some fact) is =
        All-after (λ f. knows dims (noted_fact dims patterns fact) f ≡ true) edit facts (KnowsPatterns-noted dims patterns fact facts known)
        (subst (λ gave. IfSome gave (λ f. knows dims (noted_fact dims patterns fact) f ≡ true)) (sym is) (knows-noted dims patterns fact))

-- so a state that has these facts then knows their patterns
pub KnowsPatterns-set : (dims : List Dimension) (edit : Edit) (facts later : List Fact) (old new : Patterns) → KnowsPatterns dims facts old → later ≡ after edit facts → new ≡ noted_given dims old edit → KnowsPatterns dims later new
KnowsPatterns-set dims edit facts later old new known are is =
    subst (λ (fs : List Fact). KnowsPatterns dims fs new) (sym are) (subst (KnowsPatterns dims (after edit facts)) (sym is) (KnowsPatterns-after dims edit facts old known))
