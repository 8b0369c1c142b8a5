use Rattle.cube_base.proofs.Search.{searched}
use Rattle.group_sum.proofs.Flat.{dens_ascend, found_in}
use Rattle.group_sum.proofs.rows.Rows.search.Goals as goal

-- a search among the denominators
pub returns : goal.returns
returns c =
    let facts = c.binary_search.ensures in
    let ascend = rw (← c.self.view_is) at c.requires in
    let of_dens = searched (λ d. d) 0 c.self.inside.dens.items (dens_ascend _ _ _ _ c.self.invariant ascend.each) c.args.den c.binary_search.result (rw c.deref.ensures.value at facts.bound) (rw c.deref.ensures.value at facts.position) in
    let of_terms = found_in _ _ _ _ c.self.invariant c.args.den c.binary_search.result of_dens in
    rw (← c.self.view_is) (record { found = of_terms.found; absent = of_terms.absent })
