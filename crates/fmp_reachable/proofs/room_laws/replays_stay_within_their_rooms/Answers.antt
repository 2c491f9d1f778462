use Rattle.fmp_reachable.proofs.ReplayRooms.{replay-within}
use Rattle.fmp_reachable.proofs.room_laws.replays_stay_within_their_rooms.Goals as goal

pub returns : goal.returns
returns c = λ i lawful n sizes es. replay-within i lawful n sizes es
