-- What ends every event that does something: on each processor a pending handler begins, or the dispatcher
-- gives it the most urgent ready task (uITRON 4.0, sections 3.5 and 3.6; FMP kernel, dispatching).
use Rattle.std.specs.Prelude.{ℕ, ◌+◌, List, [], ◌∷◌, ◌++◌, Option, Some, None, Bool, true, false, ◌&&◌, ◌||◌, nat_eq}
use Rattle.std.specs.Prelude.{slice_set, length, if◌then◌else◌}
use Rattle.fmp_base.specs.declared.events.Line.{Line}
use Rattle.fmp_base.specs.declared.events.Line.TheVariants as line
use Rattle.fmp_base.specs.declared.states.Handler.{Handler}
use Rattle.fmp_base.specs.declared.states.Handler.TheVariants as handler
use Rattle.fmp_base.specs.declared.states.Processor.{Processor}
use Rattle.fmp_base.specs.declared.systems.InterruptConfig.{InterruptConfig}
use Rattle.fmp_base.specs.ProcessorCalls.{is_cpu_locked}
use Rattle.fmp_base.specs.Queues.{top}
use Rattle.fmp_base.specs.States.{KernelState, Progress, processor_at, with_processor, places_from}
use Rattle.fmp_base.specs.Systems.{SystemTables, interrupt_config, cyclic_config}

abbrev pub is_defined_on : ℕ → Option InterruptConfig → Bool
is_defined_on p None = false
is_defined_on p (Some i) = nat_eq i.processor p

-- whether the handler of the interrupt at place i runs on p
abbrev pub interrupts_on : SystemTables → ℕ → ℕ → Bool
interrupts_on sys p i = is_defined_on p (interrupt_config sys i)

-- whether cyclic handler c runs on p
abbrev pub cycles_on : SystemTables → ℕ → ℕ → Bool
cycles_on sys p c = nat_eq (cyclic_config sys c).processor p

abbrev pub first_or : Bool → ℕ → Option ℕ → Option ℕ
first_or true i rest = Some i
first_or false i rest = rest

-- the first place from i on that is pending and that the test holds for
abbrev pub first_pending : (ℕ → Bool) → ℕ → List Bool → Option ℕ
first_pending on i [] = None
first_pending on i (b ∷ bs) = first_or (b && on i) i (first_pending on (i + 1) bs)

abbrev pub cyclic_handler : Option ℕ → Option Handler
cyclic_handler None = None
cyclic_handler (Some c) = Some (handler.Cyclic c)

abbrev pub interrupt_or : Option ℕ → Option Handler → Option Handler
interrupt_or None other = other
interrupt_or (Some i) other = Some (handler.Interrupt i)

-- the first pending handler of p: interrupts by number, then cyclic handlers by number
abbrev pub pending_handler : SystemTables → KernelState → ℕ → Option Handler
pending_handler sys s p =
    interrupt_or (first_pending (interrupts_on sys p) 0 s.pending_interrupts)
    (cyclic_handler (first_pending (cycles_on sys p) 0 s.pending_cyclics))

-- a handler is no longer pending
abbrev pub without_pending : KernelState → Handler → KernelState
without_pending s (handler.Interrupt i) = record s { pending_interrupts = slice_set s.pending_interrupts i false }
without_pending s (handler.Cyclic c) = record s { pending_cyclics = slice_set s.pending_cyclics c false }

-- handler h begins on p, which is cpu
abbrev pub begun : Progress → ℕ → Processor → Handler → Progress
begun g p cpu h =
    record {
      state = with_processor (without_pending g.state h) p (record cpu { handler = Some h });
      lines = g.lines ++ line.Begins p h ∷ [];
    }

abbrev pub runs_handler : Option Handler → Bool
runs_handler None = false
runs_handler (Some h) = true

abbrev pub is_same_task : Option ℕ → Option ℕ → Bool
is_same_task None None = true
is_same_task (Some a) (Some b) = nat_eq a b
is_same_task None (Some b) = false
is_same_task (Some a) None = false

-- a line where a processor runs another task than before
abbrev pub dispatch_lines : Bool → ℕ → Option ℕ → List Line
dispatch_lines true p now = []
dispatch_lines false p now = line.Runs p now ∷ []

-- p, which is cpu, runs task t, or none
-- A preempted task keeps its place: dispatching does not change the order.
abbrev pub dispatched : Progress → ℕ → Processor → Option ℕ → Progress
dispatched g p cpu t =
    record {
      state = with_processor g.state p (record cpu { run = t });
      lines = g.lines ++ dispatch_lines (is_same_task cpu.run t) p t;
    }

-- dispatch is held by a running handler, by CPU lock, or while dispatching is disabled
abbrev pub is_dispatch_held : Processor → Bool
is_dispatch_held cpu = runs_handler cpu.handler || is_cpu_locked cpu || cpu.dispatch_disabled

-- the handler that begins on p, which is cpu: the first pending one, where none runs and the CPU is not locked
abbrev pub handler_to_begin : SystemTables → KernelState → ℕ → Processor → Option Handler
handler_to_begin sys s p cpu =
    if runs_handler cpu.handler || is_cpu_locked cpu then None else pending_handler sys s p

-- a handler begins; where none does, p runs the most urgent ready task, unless dispatch is held
abbrev pub settled_with : Option Handler → Progress → ℕ → Processor → Progress
settled_with (Some h) g p cpu = begun g p cpu h
settled_with None g p cpu = if is_dispatch_held cpu then g else dispatched g p cpu (top g.state p)

-- processor p, which is cpu, settles
abbrev pub settled_on : SystemTables → Progress → ℕ → Processor → Progress
settled_on sys g p cpu = settled_with (handler_to_begin sys g.state p cpu) g p cpu

-- these processors settle, one after the other
abbrev pub all_settled : SystemTables → Progress → List ℕ → Progress
all_settled sys g [] = g
all_settled sys g (p ∷ ps) = all_settled sys (settled_on sys g p (processor_at g.state p)) ps

-- all processors settle, in order of number
abbrev pub settled : SystemTables → Progress → Progress
settled sys g = all_settled sys g (places_from 0 (length g.state.processors))
