use Rattle.fmp_reachable.proofs.WorldRooms.{world-within}
use Rattle.fmp_reachable.proofs.room_laws.worlds_stay_within_their_rooms.Goals as goal

pub returns : goal.returns
returns c = λ sys bodies rooms there n sizes es. world-within sys bodies rooms there n es sizes
