use Rattle.store_audit.proofs.Mended.{mended-sound, mending-applied, sound-unchanged, unchanged-sound}
use Rattle.store_audit.proofs.laws.mending_makes_sound.Goals as goal

pub returns : goal.returns
returns c = record { applied = mending-applied; sound = mended-sound; needless = sound-unchanged; was_sound = unchanged-sound }
