use Rattle.fmp_reachable.proofs.ImageRooms.{image-bodies, image-rooms}
use Rattle.fmp_reachable.proofs.room_laws.images_have_rooms.Goals as goal

pub returns-clause-rooms : goal.returns-clause-rooms
returns-clause-rooms c = λ i lawful. image-rooms i lawful

pub returns-clause-bodies : goal.returns-clause-bodies
returns-clause-bodies c = λ i lawful. image-bodies i lawful
