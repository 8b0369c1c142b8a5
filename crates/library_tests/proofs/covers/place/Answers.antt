use Rattle.library_tests.proofs.Noted.{AreNoted-placed}
use Rattle.library_tests.proofs.covers.place.Goals as goal

pub returns : goal.returns
returns c = AreNoted-placed _ _ _ _ _ _ _ _ c.code.ensures.place c.requires c.in_ok-push.ensures.items c.note.ensures
