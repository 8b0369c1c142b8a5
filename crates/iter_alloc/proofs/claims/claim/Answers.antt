-- What the owners say of the cell.
use Rattle.iter_alloc.proofs.claims.claim.Goals as goal
use Rattle.iter_alloc.proofs.ClaimSteps.{claimed-new, held-owner}
use Rattle.indexmap.proofs.CallerLemmas.{insert_entry-new}
use Rattle.std.specs.Prelude.{All, nat_eq}
use Rattle.std.proofs.lemmas.List.Elements.{All-push}
use Rattle.std.proofs.Common.{ℕ, List, ◌<◌, ◌∙◌, sym, refl, subst, length}

pub join-requires-clause-second : goal.join-requires-clause-second
join-requires-clause-second c =
    held-owner c.args.owners.now.entries c.args.cell c.in-Some.owner (length c.args.parents.now) c.requires.owners (sym c.get.ensures.value ∙ sym c.copied.ensures ∙ c.in-Some.is)

pub returns-in_ok-insert-in-None-clause-owners : goal.returns-in_ok-insert-in-None-clause-owners
returns-in_ok-insert-in-None-clause-owners c =
    let entries = c.in_ok-insert-in-None.ensures.entries ∙ insert_entry-new nat_eq c.args.owners.now c.args.cell c.args.spot (sym c.get.ensures.value ∙ sym c.copied.ensures ∙ c.in-None.is) in
    subst (λ (es : List (ℕ × ℕ)). All (λ owner. owner.1 < length c.args.parents.now) es) (sym entries)
    (All-push (λ (owner : ℕ × ℕ). owner.1 < length c.args.parents.now) c.args.owners.now.entries (c.args.cell, c.args.spot) c.requires.owners c.requires.spot)

pub returns-in_ok-insert-in-None-clause-claimed : goal.returns-in_ok-insert-in-None-clause-claimed
returns-in_ok-insert-in-None-clause-claimed c =
    let none = sym c.get.ensures.value ∙ sym c.copied.ensures ∙ c.in-None.is in
    λ roots are.
    claimed-new c.args.spot c.args.owners.now.entries c.args.parents.now c.args.parents.now c.args.cell c.insert.new.self.entries none
    (c.in_ok-insert-in-None.ensures.entries ∙ insert_entry-new nat_eq c.args.owners.now c.args.cell c.args.spot none) refl roots are
