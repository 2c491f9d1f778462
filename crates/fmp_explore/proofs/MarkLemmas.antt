-- What was done in a world, and whether it is a deadlock.
use Rattle.std.proofs.Common.{◌≡◌, ◌≢◌, ◌+◌, ◌<◌, ◌≤◌, inl, inr, ℕ, zero, suc, Option, Some, None, Bool, true, false}
use Rattle.std.proofs.Common.{List, [], ◌∷◌, refl, sym, ap, subst, ◌∙◌, arith, is_some, nat_eq, not, ◌||◌}
use Rattle.std.proofs.Common.{if◌then◌else◌}
use Rattle.std.proofs.lemmas.Bool.{cases_lt, eqb-true, le-ltb}
use Rattle.std.specs.List.{AllByRecursion}
use Rattle.fmp_base.specs.declared.events.Event.{Event}
use Rattle.fmp_base.specs.declared.events.Event.TheVariants as event
use Rattle.fmp_base.specs.declared.systems.InterruptConfig.{InterruptConfig}
use Rattle.fmp_base.specs.Meanings.{World}
use Rattle.fmp_base.specs.Ranges.{InterruptInRange, IsInRange}
use Rattle.fmp_base.specs.Steps.{Reaction, Nothing, interrupted}
use Rattle.fmp_base.specs.Systems.{defined_for}
use Rattle.fmp_question.specs.declared.question.Question.{Question}
use Rattle.fmp_question.specs.declared.question.Ticks.{Ticks}
use Rattle.fmp_question.specs.declared.question.Ticks.TheVariants as ticks
use Rattle.fmp_explore.specs.declared.trying.StateMarks.{StateMarks}
use Rattle.fmp_question.specs.Rules.{is_idle, rules_of}
use Rattle.fmp_explore.specs.Searching.{AreMarks, HasDone, HasRequest, MayRequest, came_on, marked}
use Rattle.fmp_question.specs.Standing.{StandsStill}
use Rattle.fmp_explore.specs.States.{AreFew, IsStuckIn, MayCome, reaction_in}
use Rattle.fmp_image_bytes.specs.Images.{ImageTables, IsImage}
use Rattle.fmp_image_bytes.proofs.InRange.{image_in_range}
use Rattle.fmp_instructions.proofs.Conjunctions.{and-left, and-right}
use Rattle.fmp_instructions.specs.Instructions.{BodyTables}
use Rattle.fmp_instructions.specs.Machine.{code_meaning}
use Rattle.fmp_instructions.specs.declared.instructions.MachineContext.{MachineContext}
use Rattle.fmp_kernel.specs.KernelViews.{KernelView}
use Rattle.fmp_reachable.specs.Sound.{IsSound}
use Rattle.fmp_schedules.specs.Deadlocks.{is_interrupt}
use Rattle.fmp_schedules.specs.Schedules.{Watched, are_within, may_still, may_try, none_runs, stays_within}
use Rattle.fmp_schedules.specs.Monitors.{all_let}
use Rattle.fmp_schedules.proofs.IdleLaws.{each-none, none-each}
use Rattle.fmp_schedules.proofs.MonitorLaws.{runs-let, ticks-let}
use Rattle.fmp_schedules.proofs.TriedLaws.{other-nothing}
use Rattle.fmp_explore.proofs.StateLemmas.{readable}
use Rattle.fmp_witness.specs.Asked.{Asked}

-- the numbers of interrupts that have handlers end at 32
number_low : (processors number : ℕ) (rows : List InterruptConfig) → AllByRecursion (InterruptInRange processors) rows
    → defined_for number rows ≢ None → number ≤ 32
number_low processors number [] each some = absurd (some refl)
number_low processors number (config ∷ rows) each some =
    by_test (nat_eq config.number number) refl some (λ h. number_low processors number rows each.1 h) where
      by_test : (b : Bool) → nat_eq config.number number ≡ b
          → (if b then Some config else defined_for number rows) ≢ None → (defined_for number rows ≢ None → number ≤ 32)
          → number ≤ 32
      by_test true e h rest = subst (λ (k : ℕ). k ≤ 32) (eqb-true config.number number e) each.0.number.most
      by_test false e h rest = rest h

-- ---- how many interrupts came

-- an event that is no interrupt leaves as few
few_on : (most : Option ℕ) (came : ℕ) (e : Event) → is_interrupt e ≡ false
    → (is_some most ≡ true → came < 256) → is_some most ≡ true → came_on most came e < 256
few_on None came e none few limited = absurd (cc (limited))
few_on (Some most) came (event.Run p) none few limited = few limited
few_on (Some most) came event.Tick none few limited = few limited
few_on (Some most) came (event.Int number) none few limited = absurd (cc (none))

-- an interrupt that may come does
more_on : (most : Option ℕ) (came number : ℕ) → (is_some most ≡ true → came < 255) → is_some most ≡ true
    → came_on most came (event.Int number) < 256
more_on None came number low limited = absurd (cc (limited))
more_on (Some most) came number low limited =
    let l : came < 255 = low limited in
    let more : came + 1 < 256 = omega (arith, l) in
    more

module _ (q : Question) (came : ℕ) where
  pub few_still : (e : Event) → is_interrupt e ≡ false → AreFew q came → AreFew q (came_on q.interrupts came e)
  few_still e none few = few_on q.interrupts came e none few

  pub few_more : (number : ℕ) → (is_some q.interrupts ≡ true → came < 255)
      → AreFew q (came_on q.interrupts came (event.Int number))
  few_more number low = more_on q.interrupts came number low

module _ (asked : Asked) (w : World MachineContext) (a : Watched) where
  abbrev i : ImageTables
  i = asked.image

  abbrev n : ℕ
  n = asked.bound

  abbrev q : Question
  q = asked.question

  abbrev idle : Bool
  idle = none_runs i.system (code_meaning i.code) n w i.system.processors

  -- nothing was done yet
  pub no_marks : AreMarks asked w a (record { idle = true; interrupted = false })
  no_marks = record { idle = λ e. absurd (cc (e)); interrupted = λ e. absurd (cc (e)) }

  -- ---- runs

  run_nothing : IsSound i.system i.code w → (p : ℕ) → idle ≡ true → reaction_in asked w (event.Run p) ≡ Nothing
  run_nothing sound zero none = refl
  run_nothing sound (suc p) none =
      elim (cases_lt p i.system.processors) [
        | inl lt ↦ none-each i.system (code_meaning i.code) n w i.system.processors none (suc p) (omega arith)
            (omega arith)
        | inr past ↦
            other-nothing i.system (code_meaning i.code) n w (event.Run (suc p))
            (readable asked w sound).sizes.processors (le-ltb p i.system.processors past)
      ]

  not_idle : IsSound i.system i.code w → (p : ℕ) → reaction_in asked w (event.Run p) ≢ Nothing → (b : Bool)
      → idle ≡ b → b ≡ false
  not_idle sound p does true e = absurd (does (run_nothing sound p e))
  not_idle sound p does false e = refl

  -- ---- interrupts

  -- the number of an interrupt that does something
  number_within : IsInRange i.system → (number : ℕ) → reaction_in asked w (event.Int number) ≢ Nothing
      → (1 ≤ number) × (number < 33)
  number_within ranges zero does = absurd (does refl)
  number_within ranges (suc p) does =
      let low : p + 1 ≤ 32 =
      number_low i.system.processors (p + 1) i.system.interrupts ranges.interrupts.each
      (λ none. does (ap (λ (config : Option InterruptConfig). interrupted config i.system
      (code_meaning i.code) w p) none)) in
      (omega arith, omega arith)

  -- ---- marks

  pub marks_more : (m : StateMarks) (e : Event) → IsImage i → IsSound i.system i.code w → AreMarks asked w a m
      → reaction_in asked w e ≢ Nothing → MayRequest q a e → AreMarks asked w a (marked m e)
  marks_more m (event.Run p) image sound h does may =
      record { idle = λ _. not_idle sound p does idle refl; interrupted = h.interrupted }
  marks_more m event.Tick image sound h does may = h
  marks_more m (event.Int number) image sound h does may =
      let within = number_within (image_in_range i image) number does in
      record {
        idle = h.idle;
        interrupted = λ _. record
            { number = number; first = within.0; last = within.1; may = may; does = does };
      }

  -- ---- deadlocks

  pub still_of_stuck : IsStuckIn asked w a → StandsStill q.rest.items i.system w.state
  still_of_stuck d = record { waits = d.waits; handlers = d.handlers; stuck = d.stuck }

  -- where a processor does something, no deadlock is reached
  pub running_free : (m : StateMarks) → AreMarks asked w a m → m.idle ≡ false → IsStuckIn asked w a → ⊥
  running_free m h busy d =
      cc (h.idle busy, each-none i.system (code_meaning i.code) n w i.system.processors d.runs)

  -- nor where an interrupt does that may come
  pub interrupted_free : (m : StateMarks) → AreMarks asked w a m → m.interrupted ≡ true → IsStuckIn asked w a → ⊥
  interrupted_free m h does d =
      let r : HasRequest asked w a = h.interrupted does in
      r.does (d.requests r.may r.number r.first r.last)

  -- ---- the rules

  -- an event that may come may be tried, and leaves no more queued than may be
  may_parts : (e : Event) → MayCome asked w a e
      → (may_try (rules_of q) i.system (code_meaning i.code) n w a e ≡ true)
      × (stays_within q.queued (reaction_in asked w e) ≡ true)
  may_parts e may = (
    and-left (may_try (rules_of q) i.system (code_meaning i.code) n w a e)
        (stays_within q.queued (reaction_in asked w e)) may,
    and-right (may_try (rules_of q) i.system (code_meaning i.code) n w a e)
        (stays_within q.queued (reaction_in asked w e)) may,
  )

  -- one that leaves more queued may not come
  pub left_out : (k : KernelView (List BodyTables) MachineContext) (e : Event) → HasDone asked w e k
      → are_within q.queued k.world.state.tasks ≡ false → MayCome asked w a e → ⊥
  left_out k e h more may =
      let stays : are_within q.queued k.world.state.tasks ≡ true =
      ap (λ (v : World MachineContext). are_within q.queued v.state.tasks) h.world
      ∙ sym (ap (λ (r : Reaction MachineContext). stays_within q.queued r) h.did) ∙ (may_parts e may).1 in
      cc (more, stays)

  -- nor may an interrupt that a limit holds back
  pub held_back : (e : Event) → all_let a.monitors e ≡ false → MayCome asked w a e → ⊥
  held_back (event.Run p) held may = cc (held, runs-let a.monitors p)
  held_back event.Tick held may = cc (held, ticks-let a.monitors)
  held_back (event.Int number) held may =
      cc (
        held,
        and-right (may_still q.interrupts a.came) (all_let a.monitors (event.Int number))
            (may_parts (event.Int number) may).0,
      )

  -- where the code lets the clock not advance, the rules do not
  pub tick_never : (m : StateMarks) → AreMarks asked w a m → q.ticks ≢ ticks.Any → m.idle ≡ false
      → MayCome asked w a event.Tick → ⊥
  tick_never m h some busy may = by_ticks q.ticks some (may_parts event.Tick may).0 where
    by_ticks : (t : Ticks) → t ≢ ticks.Any → (not (is_idle t) || idle) ≡ true → ⊥
    by_ticks ticks.Any other e = absurd (other refl)
    by_ticks ticks.Idle other e = cc (e, h.idle busy)

  pub interrupt_never : (number : ℕ) → may_still q.interrupts a.came ≡ false → MayCome asked w a (event.Int number) → ⊥
  interrupt_never number never may =
      cc (
        never,
        and-left (may_still q.interrupts a.came) (all_let a.monitors (event.Int number))
            (may_parts (event.Int number) may).0,
      )
