-- Whole entries were put.
use Rattle.std.proofs.Common.{sym, subst}
use Rattle.view_store.specs.Changes.{AreWhole}
use Rattle.view_store.specs.Views.{ViewMap}
use Rattle.view_store.proofs.Viewing.{AreEntries-put}
use Rattle.view_store.proofs.view.View.install.Goals as goal

pub invariant_of-self : goal.invariant_of-self
invariant_of-self c =
    AreEntries-put c.self.inside.columns c.self.inside.entries c.put_all.new.self c.args.entries.items c.self.invariant
    (subst (λ (v : ViewMap). AreWhole v.columns c.args.entries.items) (sym c.self.view_is) c.requires.whole) c.put_all.ensures
