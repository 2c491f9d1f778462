-- The parts of a deadlock.
use Rattle.std.proofs.Common.{◌≡◌, ℕ, ◌+◌, ◌↔◌, List, Option, Some, None, Bool, true, IsTrue, subst, ap, ◌∙◌, arith}
use Rattle.fmp_base.specs.declared.events.Event.{Event}
use Rattle.fmp_base.specs.Meanings.{Meaning, World}
use Rattle.fmp_base.specs.States.{KernelState}
use Rattle.fmp_base.specs.Systems.{SystemTables}
use Rattle.fmp_base.specs.Steps.{IsTaken, Nothing}
use Rattle.fmp_drive.specs.Driving.{AllStand, TakesFirst, reaction}
use Rattle.fmp_drive.specs.declared.trying.EventSource.{EventSource}
use Rattle.fmp_drive.specs.declared.trying.EventSource.TheVariants.{Interrupt, Processor}
use Rattle.fmp_kernel.specs.KernelViews.{KernelView}
use Rattle.fmp_schedules.specs.Deadlocks.{IsDeadlock}
use Rattle.fmp_question.specs.Standing.{NoneDoes, StandsStill}

module _ {B C : Type 0} (meaning : B → Meaning C) where
  -- an event that is taken does something
  taken_does : (before after : KernelView B C) (source : EventSource) (end : ℕ) (e : Event)
      → TakesFirst meaning before after source 1 end (Some e) → AllStand meaning before source 1 end → ⊥
  taken_does before after source end e t none =
      let first = t.1 in
      let still : reaction meaning before e ≡ Nothing =
      ap (reaction meaning before) first.event ∙ none first.number first.first_on first.in_front in
      subst IsTaken still t.0.taken

  pub some_taken : (before after : KernelView B C) (source : EventSource) (end : ℕ) (o : Option Event) (e : Event)
      → Some e ≡ o → TakesFirst meaning before after source 1 end o → AllStand meaning before source 1 end → ⊥
  some_taken before after source end None e h t none = absurd (cc)
  some_taken before after source end (Some f) e h t none = taken_does before after source end f t none

  -- where no event is taken, none does anything
  pub none_taken : (before after : KernelView B C) (source : EventSource) (end : ℕ) (o : Option Event) → None ≡ o
      → TakesFirst meaning before after source 1 end o → (after ≡ before) × AllStand meaning before source 1 end
  none_taken before after source end None h t = (t.1, t.0)
  none_taken before after source end (Some e) h t = absurd (cc)

  -- no event does anything, of the processors first and then of the interrupts
  pub none_does_of : (k k' : KernelView B C) (processors : ℕ) (interrupts : Bool) → k' ≡ k
      → AllStand meaning k Processor 1 (processors + 1) → (interrupts ≡ true → AllStand meaning k' Interrupt 1 33)
      → NoneDoes meaning k processors interrupts
  none_does_of k k' processors interrupts same runs requests =
      record {
        runs = runs;
        requests = λ yes. subst (λ (x : KernelView B C). AllStand meaning x Interrupt 1 33) same (requests yes);
      }

  -- the parts of a deadlock
  pub deadlock_of : (k : KernelView B C) (rest : List Bool) (processors : ℕ) (interrupts : Bool)
      → processors ≡ k.system.processors → StandsStill rest k.system k.world.state
      → NoneDoes meaning k processors interrupts
      → IsDeadlock k.system (meaning k.body) k.bound k.world rest interrupts
  deadlock_of k rest processors interrupts count still none =
      record {
        runs = λ p low high. none.runs p low (omega (arith, count, high));
        requests = none.requests;
        waits = still.waits;
        handlers = still.handlers;
        stuck = still.stuck;
      }

-- in a deadlock no event does anything
pub none_in_deadlock : {B C : Type 0} (meaning : B → Meaning C) (k : KernelView B C) (rest : List Bool)
    (processors : ℕ) (interrupts : Bool) → processors ≡ k.system.processors
    → IsDeadlock k.system (meaning k.body) k.bound k.world rest interrupts → NoneDoes meaning k processors interrupts
none_in_deadlock meaning k rest processors interrupts count d =
    record { runs = λ p low high. d.runs p low (omega (arith, count, high)); requests = d.requests }

-- a deadlock stands still
pub still_of_deadlock : {C : Type 0} (sys : SystemTables) (M : Meaning C) (n : ℕ) (w : World C) (rest : List Bool)
    (interrupts : Bool) → IsDeadlock sys M n w rest interrupts → StandsStill rest sys w.state
still_of_deadlock sys M n w rest interrupts d =
    record { waits = d.waits; handlers = d.handlers; stuck = d.stuck }

-- what is found of tables is found of the kernel that has them
pub moved : (result : Bool) (rest : List Bool) (y y' : SystemTables) (s s' : KernelState) → y ≡ y' → s ≡ s'
    → (IsTrue result ↔ StandsStill rest y s) → IsTrue result ↔ StandsStill rest y' s'
moved result rest y y' s s' e f h =
    subst (λ (x : KernelState). IsTrue result ↔ StandsStill rest y' x) f
    (subst (λ (x : SystemTables). IsTrue result ↔ StandsStill rest x s) e h)
