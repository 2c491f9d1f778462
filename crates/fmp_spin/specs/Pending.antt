-- Which handlers are pending, on which processor each handler runs, and the bitmaps in which they are found.
use Rattle.std.specs.Prelude.{◌≡◌, ℕ, ◌+◌, ◌-◌, ◌*◌, ◌<◌, ◌≤◌, List, Option, Some, None, Bool, true, false, ◌&&◌}
use Rattle.std.specs.Prelude.{get_or, nat_eq, nat_lt, length, map, replicate, slice_get, slice_set, if◌then◌else◌}
use Rattle.fmp_base.specs.declared.states.Handler.{Handler}
use Rattle.fmp_base.specs.declared.states.Handler.TheVariants as handler
use Rattle.fmp_base.specs.declared.systems.InterruptConfig.{InterruptConfig}
use Rattle.fmp_base.specs.Settles.{first_pending, cyclic_handler, interrupt_or}
use Rattle.fmp_base.specs.States.{places_from}
use Rattle.fmp_base.specs.Systems.{SystemTables, interrupt_config, found}
use Rattle.fmp_base.specs.Ticks.{is_pending}
use Rattle.fmp_spin.specs.Bits.{bit_in, as_bit}
use Rattle.fmp_spin.specs.declared.pending.PendingHandlers.TheInside.{Inside}

-- by place, the processor of the handler of each interrupt, if it has one, and that of each cyclic handler
pub record HandlerProcessors : Type 0 where
  pub count : ℕ
  pub interrupts : List (Option ℕ)
  pub cyclics : List ℕ

-- the processors of the handlers, which never change, and a mark for each handler: whether it is pending
pub record PendingMarks : Type 0 where
  pub processors : HandlerProcessors
  pub interrupts : List Bool
  pub cyclics : List Bool

abbrev pub processor_of : Option InterruptConfig → Option ℕ
processor_of None = None
processor_of (Some i) = Some i.processor

abbrev pub handler_processors : SystemTables → HandlerProcessors
handler_processors sys =
    record {
      count = sys.processors;
      interrupts = map (λ i. processor_of (interrupt_config sys i)) (places_from 0 32);
      cyclics = map (λ c. c.processor) sys.cyclics;
    }

-- no handler of a system is pending
abbrev pub none_pending : SystemTables → PendingMarks
none_pending sys =
    record {
      processors = handler_processors sys;
      interrupts = replicate 32 false;
      cyclics = replicate
          (length sys.cyclics) false;
    }

abbrev pub is_on : Option ℕ → ℕ → Bool
is_on None p = false
is_on (Some q) p = nat_eq q p

-- whether the handler of the interrupt at place i runs on p
abbrev pub interrupts_there : HandlerProcessors → ℕ → ℕ → Bool
interrupts_there on p i = is_on (found None (slice_get on.interrupts i)) p

-- whether cyclic handler c runs on p
abbrev pub cycles_there : HandlerProcessors → ℕ → ℕ → Bool
cycles_there on p c = is_on (slice_get on.cyclics c) p

-- the first pending handler of p: interrupts by number, then cyclic handlers by number
abbrev pub first_handler : PendingMarks → ℕ → Option Handler
first_handler marks p =
    interrupt_or (first_pending (interrupts_there marks.processors p) 0 marks.interrupts)
    (cyclic_handler (first_pending (cycles_there marks.processors p) 0 marks.cyclics))

-- there is a mark for a handler
abbrev pub HasMark : PendingMarks → Handler → Type 0
HasMark marks (handler.Interrupt i) = i < length marks.interrupts
HasMark marks (handler.Cyclic c) = c < length marks.cyclics

abbrev pub without_mark : PendingMarks → Handler → PendingMarks
without_mark marks (handler.Interrupt i) = record marks { interrupts = slice_set marks.interrupts i false }
without_mark marks (handler.Cyclic c) = record marks { cyclics = slice_set marks.cyclics c false }

abbrev pub marks_view : Inside → PendingMarks
marks_view a =
    record {
      processors =
          record
          { count = a.processors; interrupts = a.interrupt_processors.items; cyclics = a.cyclic_processors.items };
      interrupts = a.interrupts.items;
      cyclics = a.cyclics.items;
    }

-- A bitmap has a slot for each handler: those of interrupts from 0 on, those of cyclic handlers from 64 on.
abbrev pub processor_at_slot : HandlerProcessors → ℕ → Option ℕ
processor_at_slot on n = if nat_lt n 64 then found None (slice_get on.interrupts n) else slice_get on.cyclics (n - 64)

abbrev pub mark_at_slot : List Bool → List Bool → ℕ → Bool
mark_at_slot interrupts cyclics n = if nat_lt n 64 then is_pending interrupts n else is_pending cyclics (n - 64)

-- a bit of a processor's bitmap is set exactly if the handler runs there and is pending
abbrev pub AreBitmaps : ℕ → List ℕ → (ℕ → Option ℕ) → (ℕ → Bool) → Type 0
AreBitmaps count words on mark =
    (p n : ℕ) → p < count → n < 320 → bit_in words (p * 320 + n) ≡ as_bit (mark n && is_on (on n) p)

-- a processor that is not marked as busy has no bit in its bitmap
abbrev pub AreQuiet : List ℕ → List Bool → Type 0
AreQuiet words busy = (p n : ℕ) → n < 320 → get_or busy p true ≡ false → bit_in words (p * 320 + n) ≡ 0

pub record IsExact (a : Inside) : Type 0 where
  pub interrupt_processors : length a.interrupt_processors.items ≡ 32
  pub interrupts : length a.interrupts.items ≡ 32
  pub cyclics : length a.cyclics.items ≡ length a.cyclic_processors.items
  pub few : length a.cyclics.items ≤ 255
  pub there : (n q : ℕ) → processor_at_slot (marks_view a).processors n ≡ Some q → q < a.processors
  pub words : length a.words.items ≡ a.processors * 5
  pub bitmaps : AreBitmaps a.processors a.words.items (processor_at_slot (marks_view a).processors)
      (mark_at_slot a.interrupts.items a.cyclics.items)
  pub busy : length a.busy.items ≡ a.processors
  pub quiet : AreQuiet a.words.items a.busy.items

-- the bit of a slot is set or cleared in the bitmap of the processor, if any; all others stay
abbrev pub IsSetAt : List ℕ → List ℕ → Option ℕ → ℕ → Bool → Type 0
IsSetAt old new on slot pending =
    (p n : ℕ) → n < 320
    → bit_in new (p * 320 + n) ≡ (if nat_eq n slot && is_on on p then as_bit pending else bit_in old (p * 320 + n))
