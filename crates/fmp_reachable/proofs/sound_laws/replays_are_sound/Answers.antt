use Rattle.fmp_reachable.proofs.SoundLaws.{replay-sound}
use Rattle.fmp_reachable.proofs.sound_laws.replays_are_sound.Goals as goal

pub returns : goal.returns
returns c = λ i n es lawful. replay-sound i n es lawful
