-- The view that was found is the first that serves.
use Rattle.std.proofs.Common.{◌≡◌, ◌∙◌, Some, ap, sym}
use Rattle.std.specs.Option.{option_copied}
use Rattle.view_store.specs.Rolling.{serving}
use Rattle.view_store.proofs.views.Views.answer.Goals as goal

pub roll_up-requires-clause-within : goal.roll_up-requires-clause-within
roll_up-requires-clause-within c =
    let found : serving c.args.space.now c.args.self.now c.args.r ≡ Some c.in-Some.view.now = sym c.first_serving.ensures.serving ∙ ap option_copied c.in-Some.is in
    rw found at c.requires.within
