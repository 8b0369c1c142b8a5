use Rattle.store_law.proofs.Scripted.{scripted-finds, scripted-sound, scripted-state}
use Rattle.store_law.proofs.laws.scripts_keep_stores_sound.Goals as goal

pub returns : goal.returns
returns c = record { sound = scripted-sound; state = scripted-state; finds = scripted-finds }
