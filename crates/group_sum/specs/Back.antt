-- Other terms merged into own ones from the back, in place: how many have no term among the own, and what one step does.
use Rattle.std.specs.Prelude.{◌≡◌, ℕ, ◌+◌, ◌-◌, ◌<◌, ◌≤◌, ◌⊎◌, List, length, Some, is_none, slice_set}
use Rattle.std.specs.List.{count_by}
use Rattle.cube_model.specs.declared.term.Term.{Term}
use Rattle.cube_model.specs.Answer.{term_of}
use Rattle.cube_model.specs.Limits.{WIDE}
use Rattle.group_sum.specs.declared.merge.Ahead.{Ahead}
use Rattle.group_sum.specs.Heads.{AreWithin, IsTotal, total_in}
use Rattle.group_sum.specs.Place.{term_at}
use Rattle.group_sum.specs.Terms.{TermList}

-- how many of the terms have a denominator that the own terms have not
abbrev pub missing_in : List Term → List Term → ℕ
missing_in own terms = count_by (λ t. is_none (term_of own t.den)) terms

-- the terms before a place have smaller denominators
pub record IsPlaceBehind (terms : List Term) (den place : ℕ) : Type 0 where
  pub in_range : place ≤ length terms
  pub smaller_before : (i : ℕ) → i < place → (term_at terms i).den < den

-- the last of the own terms that are ahead, and of the others
abbrev pub last_own : List Term → Ahead → Term
last_own terms ahead = term_at terms (ahead.own - 1)

abbrev pub last_other : List Term → Ahead → Term
last_other terms ahead = term_at terms (ahead.other - 1)

-- both have the same denominator
pub record AreLevel (terms others : List Term) (ahead : Ahead) : Type 0 where
  pub some : 1 ≤ ahead.own
  pub same : (last_own terms ahead).den ≡ (last_other others ahead).den

-- where they have, their numerators added up fit
pub record FitsLevel (terms others : TermList) (ahead : Ahead) : Type 0 where
  pub count : AreLevel terms.terms others.terms ahead → (last_own terms.terms ahead).count + (last_other others.terms ahead).count ≤ WIDE
  pub sums : AreLevel terms.terms others.terms ahead → AreWithin (terms.columns - 1) (total_in (Some (last_own terms.terms ahead)) (Some (last_other others.terms ahead)))

-- the last own term has the greatest denominator, and goes to the last place
pub record MovesOwn (old others new : List Term) (ahead next : Ahead) : Type 0 where
  pub some : 1 ≤ ahead.own
  pub greater : (last_other others ahead).den < (last_own old ahead).den
  pub next_is : next ≡ record { own = ahead.own - 1; other = ahead.other; place = ahead.place - 1 }
  pub terms : new ≡ slice_set old (ahead.place - 1) (last_own old ahead)

-- both last terms have it, and what they add up to goes there
pub record AddsUpTerms (old others new : List Term) (ahead next : Ahead) : Type 0 where
  pub level : AreLevel old others ahead
  pub next_is : next ≡ record { own = ahead.own - 1; other = ahead.other - 1; place = ahead.place - 1 }
  pub terms : new ≡ slice_set old (ahead.place - 1) (term_at new (ahead.place - 1))
  pub total : IsTotal (last_own old ahead) (last_other others ahead) (term_at new (ahead.place - 1))

-- the last of the others has it, and goes there
pub record CopiesOther (old others new : List Term) (ahead next : Ahead) : Type 0 where
  pub greater : 1 ≤ ahead.own → (last_own old ahead).den < (last_other others ahead).den
  pub next_is : next ≡ record { own = ahead.own; other = ahead.other - 1; place = ahead.place - 1 }
  pub terms : new ≡ slice_set old (ahead.place - 1) (last_other others ahead)

-- one of these is done
abbrev pub StepsBack : List Term → List Term → List Term → Ahead → Ahead → Type 0
StepsBack old others new ahead next = MovesOwn old others new ahead next ⊎ (AddsUpTerms old others new ahead next ⊎ CopiesOther old others new ahead next)
