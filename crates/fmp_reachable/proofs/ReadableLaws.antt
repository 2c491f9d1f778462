-- Every world that a replay on an image leaves is readable.
use Rattle.std.proofs.Common.{ℕ, List}
use Rattle.fmp_base.specs.declared.events.Event.{Event}
use Rattle.fmp_base.specs.Ranges.{IsInRange}
use Rattle.fmp_base.specs.States.{KernelState}
use Rattle.fmp_base.specs.Systems.{SystemTables}
use Rattle.fmp_reachable.specs.Readable.{IsReadable, IsSized}
use Rattle.fmp_image_bytes.specs.Images.{ImageTables, IsImage}
use Rattle.fmp_image_bytes.proofs.InRange.{image_in_range}
use Rattle.fmp_reachable.specs.Sizes.{AreWithinCapacity, IsOfSystem, IsWorldOfSystem}
use Rattle.fmp_reachable.proofs.ReplayLaws.{replays-reached}
use Rattle.fmp_reachable.proofs.WorldLaws.{reached-regular, reached-sized, reached-within}
use Rattle.fmp_replay.specs.Replays.{replay}
use Rattle.fmp_reachable.specs.Rooms.{HasSizes}
use Rattle.fmp_reachable.proofs.ReplayRooms.{replay-within}

pub sized : (sys : SystemTables) (s : KernelState) → IsOfSystem sys s → AreWithinCapacity sys s.data_queues
    → IsSized sys s
sized sys s h words =
    record {
      tasks = h.tasks;
      processors = h.processors;
      cyclics = h.cyclics;
      semaphores = h.semaphores;
      flags = h.flags;
      data_queues = h.data_queues;
      mailboxes = h.mailboxes;
      shared_words = h.shared_words;
      pending_cyclics = h.pending_cyclics;
      pending_interrupts = h.pending_interrupts;
      words = words;
    }

pub has-sizes : (sys : SystemTables) (s : KernelState) → IsOfSystem sys s → HasSizes sys s
has-sizes sys s h = record { processors = h.processors; cyclics = h.pending_cyclics }

module _ (i : ImageTables) (n : ℕ) (lawful : IsImage i) where
  range : IsInRange i.system
  range = image_in_range i lawful

  of-system : (es : List Event) → IsOfSystem i.system (replay i n es).world.state
  of-system es =
      let w : IsWorldOfSystem i.system (replay i n es).world =
      reached-sized i.system (replay i n es).world (replays-reached i n es range) in
      w.state

  readable-after : (es : List Event) → IsReadable i.system i.code (replay i n es).world
  readable-after es =
      let reached = replays-reached i n es range in
      record {
        regular = reached-regular i.system (replay i n es).world reached;
        rooms = replay-within i lawful n (λ fs. has-sizes i.system (replay i n fs).world.state (of-system fs)) es;
        sizes = sized i.system (replay i n es).world.state (of-system es)
            (reached-within i.system (replay i n es).world reached);
      }

pub readable : (i : ImageTables) (n : ℕ) (es : List Event) → IsImage i
    → IsReadable i.system i.code (replay i n es).world
readable i n es lawful = readable-after i n lawful es
