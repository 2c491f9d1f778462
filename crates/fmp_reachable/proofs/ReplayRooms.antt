-- All that is kept after a replay lies within its rooms.
use Rattle.std.proofs.Common.{ℕ, List, sym, subst}
use Rattle.fmp_base.specs.declared.events.Event.{Event}
use Rattle.fmp_base.specs.Meanings.{World}
use Rattle.fmp_instructions.specs.declared.instructions.MachineContext.{MachineContext}
use Rattle.fmp_image_bytes.specs.Images.{ImageTables, IsImage}
use Rattle.fmp_replay.specs.Replays.{replay}
use Rattle.fmp_replay.proofs.Replaying.{world_of}
use Rattle.fmp_reachable.specs.Rooms.{HasSizes, IsWithinRooms}
use Rattle.fmp_reachable.proofs.ImageRooms.{image-bodies, image-rooms}
use Rattle.fmp_reachable.proofs.WorldRooms.{world-within}

pub replay-within : (i : ImageTables) → IsImage i → (n : ℕ)
    → ((fs : List Event) → HasSizes i.system (replay i n fs).world.state) → (es : List Event)
    → IsWithinRooms i.system i.code (replay i n es).world
replay-within i lawful n sizes es =
    subst (λ (w : World MachineContext). IsWithinRooms i.system i.code w) (sym (world_of i n es))
    (world-within i.system i.code (image-rooms i lawful) (image-bodies i lawful) n es
    (λ fs. subst (λ (w : World MachineContext). HasSizes i.system w.state) (world_of i n fs) (sizes fs)))
