use Rattle.fmp_reachable.proofs.SoundLaws.{sound-readable}
use Rattle.fmp_reachable.proofs.sound_laws.sound_worlds_are_readable.Goals as goal

pub returns : goal.returns
returns c = λ sys bodies w h. sound-readable sys bodies w h
