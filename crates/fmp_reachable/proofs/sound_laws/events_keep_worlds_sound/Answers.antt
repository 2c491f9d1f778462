use Rattle.fmp_reachable.proofs.SoundLaws.{step-sound}
use Rattle.fmp_reachable.proofs.sound_laws.events_keep_worlds_sound.Goals as goal

pub returns : goal.returns
returns c = λ sys bodies rooms there n range w e h. step-sound sys bodies rooms there n range w e h
