-- The replay of events on an image, and which lists of events are legal.
use Rattle.std.specs.Prelude.{◌≡◌, ℕ, List, [], ◌∷◌, length, map}
use Rattle.fmp_base.specs.declared.events.Event.{Event}
use Rattle.fmp_base.specs.Meanings.{Meaning}
use Rattle.fmp_base.specs.Runs.{done_events, taken_events}
use Rattle.fmp_base.specs.Setups.{setup}
use Rattle.fmp_base.specs.States.{places_from}
use Rattle.fmp_base.specs.Steps.{Done, Reaction, step}
use Rattle.fmp_base.specs.Systems.{SystemTables}
use Rattle.fmp_instructions.specs.declared.instructions.MachineContext.{MachineContext}
use Rattle.fmp_instructions.specs.Instructions.{BodyTables}
use Rattle.fmp_instructions.specs.Machine.{code_meaning}
use Rattle.fmp_image_bytes.specs.Images.{ImageTables}
use Rattle.fmp_kernel.specs.KernelViews.{KernelView, done_or}
use Rattle.fmp_worlds.specs.Stamps.{stamp}

-- one event after the other: the world at the end, with the lines of the last event that was done
abbrev pub done_after : {C : Type 0} → SystemTables → Meaning C → (bound : ℕ) → Done C → List Event → Done C
done_after sys M bound d [] = d
done_after sys M bound d (e ∷ es) = done_after sys M bound (done_or d (step sys M bound d.world e)) es

-- the replay of events on an image, within n instructions a stretch: setup, and then one event after the other
unfoldable pub replay : ImageTables → (n : ℕ) → List Event → Done MachineContext
replay i n es = done_after i.system (code_meaning i.code) n (setup i.system (code_meaning i.code)) es

-- the stamps of the processors after it
unfoldable pub stamps_after : ImageTables → (n : ℕ) → List Event → List ℕ
stamps_after i n es =
    map (stamp i.system (code_meaning i.code) n (setup i.system (code_meaning i.code)).world es)
    (places_from 0 i.system.processors)

-- what an event does after the replay of others
unfoldable pub reaction : ImageTables → (n : ℕ) → List Event → Event → Reaction MachineContext
reaction i n es e = step i.system (code_meaning i.code) n (replay i n es).world e

-- how many of these events are done
unfoldable pub done_count : ImageTables → (n : ℕ) → List Event → ℕ
done_count i n es =
    length (done_events i.system (code_meaning i.code) n (setup i.system (code_meaning i.code)).world es)

-- each of these events is done, or keeps a place, where it stands
pub record IsLegal (i : ImageTables) (n : ℕ) (es : List Event) : Type 0 where
  pub all_taken : taken_events i.system (code_meaning i.code) n (setup i.system (code_meaning i.code)).world es ≡ es

-- the kernel that is the replay of legal events
abbrev pub kernel_after : ImageTables → (n : ℕ) → List Event → KernelView (List BodyTables) MachineContext
kernel_after i n es =
    record {
      body = i.code;
      bound = n;
      system = i.system;
      world = (replay i n es).world;
      lines = (replay i n es).lines;
      done = done_count i n es;
      taken = length es;
      stamps = stamps_after i n es;
    }
