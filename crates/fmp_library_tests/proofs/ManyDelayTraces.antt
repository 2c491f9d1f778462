-- The run of 255 tasks that all delay themselves, computed in parts.
use Rattle.std.proofs.Common.{◌≡◌, refl, ap, ℕ, zero, suc, ◌+◌, pos, List, [], ◌∷◌, ◌++◌, ◌∙◌, drop, Option, Some, None}
use Rattle.std.proofs.Common.{false, replicate}
use Rattle.fmp_base.specs.declared.bodies.Held.TheVariants.{Goes, Awaits}
use Rattle.fmp_base.specs.declared.services.Service.TheVariants as service
use Rattle.fmp_base.specs.declared.events.Event.{Event}
use Rattle.fmp_base.specs.declared.events.Event.TheVariants.{Run, Tick}
use Rattle.fmp_base.specs.declared.events.Line.{Line}
use Rattle.fmp_base.specs.declared.states.Phase.TheVariants.{Ready, Waiting}
use Rattle.fmp_base.specs.declared.states.TaskBlock.{TaskBlock}
use Rattle.fmp_base.specs.declared.states.WaitCause.TheVariants as cause
use Rattle.fmp_base.specs.Meanings.{Meaning, World}
use Rattle.fmp_base.specs.Runs.{run}
use Rattle.fmp_base.specs.Setups.{setup}
use Rattle.fmp_base.specs.States.{places_from, idle}
use Rattle.fmp_base.specs.Systems.{SystemTables}
use Rattle.fmp_base.specs.Texts.{events_text}
use Rattle.fmp_tasklang.specs.Contexts.{TextContext, first_values, calling}
use Rattle.fmp_tasklang.specs.Texts.{body_at, text_meaning, text_start}
use Rattle.fmp_library_tests.specs.TraceBuilders.{usual_bound}
use Rattle.fmp_library_tests.specs.ManyDelayTraces.{many_tasks, delaying, delaying_events, ticks_text, AllDelaysEndAtOnce}
use Rattle.fmp_library_tests.proofs.TraceParts.{arrival, events_from, after_part, printed_from-events}
use Rattle.std.specs.Fmt.{digits}

-- 255 tasks
abbrev tables : SystemTables
tables = many_tasks 255

-- what their body means
abbrev meaning : Meaning TextContext
meaning = text_meaning tables delaying

-- a task that has started
abbrev ready : TaskBlock
ready =
    record {
      phase = Ready;
      suspended = false;
      priority = 1;
      processor = 0;
      activations = 0;
      next_processor = None;
      wakeups = 0;
      deadline = None;
    }

-- a task that has begun its delay
abbrev delayed : TaskBlock
delayed = record ready { phase = Waiting cause.Delay; deadline = Some 6 }

-- the first of n tasks from k on, if any
abbrev first_left : ℕ → ℕ → Option ℕ
first_left k zero = None
first_left k (suc n) = Some k

-- the context of a task that has called dly_tsk
abbrev called : TextContext
called = calling (first_values (body_at delaying 0) (pos 0)) [] (record {
  service = service.DlyTsk;
  out = None;
  result = None;
})

-- the world where the first k tasks have begun their delays, and n are left
abbrev world_at : ℕ → ℕ → World TextContext
world_at k n =
    record {
      state =
          record {
            tasks = replicate k delayed ++ replicate n ready;
            order = places_from k n ++ places_from 0 k;
            semaphores = [];
            flags = [];
            data_queues = [];
            mailboxes = [];
            shared_words = [];
            processors = record idle { run = first_left k n } ∷ [];
            due_times = [];
            pending_cyclics = [];
            pending_interrupts = replicate 32 false;
            clock = 0;
          };
      contexts =
          record {
            tasks = replicate k (Some (Awaits called)) ++ replicate n (Some (Goes (text_start delaying 0 (pos 0))));
            handlers = None ∷ [];
          };
    }

-- from the world where k tasks have begun, m more of the m + n that are left begin
abbrev Begin : (k m n : ℕ) → Type 0
Begin k m n =
    arrival (run tables meaning usual_bound (world_at k (m + n)) (replicate m (Run 1))) ≡
    record { world = world_at (k + m) n; count = m }

-- the lines of the events of a run from a world
abbrev from : World TextContext → List Event → List (List Line)
from = events_from tables meaning usual_bound

part :
    (k m n : ℕ) (fs : List Event) →
    Begin k m n →
    drop (m + n) (from (world_at k (m + n)) (replicate m (Run 1) ++ fs)) ≡ drop n (from (world_at (k + m) n) fs)
part k m n fs begin =
    after_part tables meaning usual_bound (replicate m (Run 1)) fs (world_at k (m + n))
    (record { world = world_at (k + m) n; count = m }) n begin

none_begun : (setup tables meaning).world ≡ world_at 0 255
none_begun = refl

first_quarter : Begin 0 64 191
first_quarter = refl

second_quarter : Begin 64 64 127
second_quarter = refl

third_quarter : Begin 128 64 63
third_quarter = refl

last_quarter : Begin 192 63 0
last_quarter = refl

-- the ticks after which all delays end
abbrev ticks : List Event
ticks = replicate 6 Tick

-- the next n tasks are run, then comes the rest
abbrev runs_then : ℕ → List Event → List Event
runs_then n rest = replicate n (Run 1) ++ rest

all_begun : drop 255 (from (world_at 0 255) (delaying_events 255)) ≡ from (world_at 255 0) ticks
all_begun =
    let after_third = runs_then 63 ticks in
    let after_second = runs_then 64 after_third in
    part 0 64 191 (runs_then 64 after_second) first_quarter
    ∙ (part 64 64 127 after_second second_quarter
    ∙ (part 128 64 63 after_third third_quarter ∙ part 192 63 0 ticks last_quarter))

all_released : events_text tables 256 (from (world_at 255 0) ticks) ≡ ticks_text
unfolding events_from digits
all_released = refl

pub all_delays_end : AllDelaysEndAtOnce
all_delays_end =
    let begun = ap (λ w. drop 255 (from w (delaying_events 255))) none_begun ∙ all_begun in
    printed_from-events 256 tables delaying usual_bound (delaying_events 255)
    ∙ (ap (events_text tables 256) begun ∙ all_released)
