-- What comes in a random run, by the words of a generator that its seed decides.
use Rattle.std.specs.Prelude.{ℕ, zero, suc, ◌≡◌, ◌+◌, ◌-◌, ◌%◌, ◌&&◌, Bool, List, [], ◌∷◌, ◌++◌, Option, Some, None, ⊤}
use Rattle.std.specs.Prelude.{cond, max, nat_eq, nat_lt}
use Rattle.std.specs.List.{find, range_with_len}
use Rattle.rand_core.specs.Pcg32Seed.{pcg32_seed}
use Rattle.rand_pcg.specs.Lcg.{Lcg}
use Rattle.rand_pcg.specs.Pcg.{pcg32, pcg32_of_seed}
use Rattle.fmp_base.specs.declared.events.Event.{Event}
use Rattle.fmp_base.specs.declared.events.Event.TheVariants as event
use Rattle.fmp_base.specs.Meanings.{Meaning}
use Rattle.fmp_kernel.specs.Comings.{reaction_of}
use Rattle.fmp_kernel.specs.KernelViews.{KernelView, view_after}
use Rattle.fmp_trials.specs.declared.choices.Choices.{Choices}
use Rattle.fmp_trials.specs.declared.choices.InterruptRate.{InterruptRate}
use Rattle.fmp_trials.specs.declared.choices.RunPlan.{RunPlan}
use Rattle.fmp_trials.specs.Taking.{takes_in}

-- the next word of the generator
abbrev pub word : Choices → ℕ
word c = (pcg32 c.random).0

-- the choices after it
abbrev pub past : Choices → Choices
past c = record c { random = (pcg32 c.random).1 }

-- how rarely another processor goes on, by a word
abbrev pub change_of : ℕ → ℕ
change_of zero = 1
change_of (suc zero) = 4
change_of (suc (suc zero)) = 16
change_of (suc (suc (suc n))) = 64

-- the choices of the run of a seed, of whose generator this is the first state
abbrev pub choices_from : RunPlan → Lcg → Choices
choices_from plan g =
    record { plan = plan; random = (pcg32 g).1; change = change_of ((pcg32 g).0 % 4); turn = 1 }

abbrev pub choices_of : RunPlan → (seed : ℕ) → Choices
choices_of plan seed = choices_from plan (pcg32_of_seed (pcg32_seed 16 seed))

-- by the next word, what comes once in this many times comes; never at 0
abbrev pub comes : Choices → (every : ℕ) → Bool
comes c every = nat_lt 0 every && nat_eq (word c % every) 0

-- the first interrupt whose turn it is and that does something; each that is tried costs a word
abbrev pub interrupt_of : (takes : Event → Bool) → List InterruptRate → Choices → Option Event × Choices
interrupt_of takes [] c = (None, c)
interrupt_of takes (r ∷ rates) c =
    cond (comes c r.every && takes (event.Int r.interrupt)) (Some (event.Int r.interrupt), past c)
    (interrupt_of takes rates (past c))

-- another one of this many processors has its turn, if the next word has it so
abbrev pub turned : (processors : ℕ) → Choices → Choices
turned processors c =
    cond (comes c c.change) (record (past (past c)) { turn = 1 + word (past c) % max processors 1 }) (past c)

-- processors from this one on, and then from 1 on
abbrev pub in_turn : (first processors : ℕ) → List ℕ
in_turn first processors = range_with_len first (processors + 1 - first) ++ range_with_len 1 (first - 1)

abbrev pub run_or_tick : Option ℕ → Choices → Event × Choices
run_or_tick (Some p) c = (event.Run p, record c { turn = p })
run_or_tick None c = (event.Tick, c)

-- the first processor that can do something, from the one that has its turn on; the clock, if none can
abbrev pub run_of : (takes : Event → Bool) → (processors : ℕ) → Choices → Event × Choices
run_of takes processors c =
    run_or_tick (find (λ p. takes (event.Run p)) (in_turn c.turn processors)) c

-- an interrupt; or else the clock, if its turn has come; or else a processor
abbrev pub event_after : (takes : Event → Bool) → (processors : ℕ) → Option Event × Choices → Event × Choices
event_after takes processors (Some e, c) = (e, c)
event_after takes processors (None, c) =
    cond (comes c c.plan.tick) (event.Tick, past c) (run_of takes processors (turned processors (past c)))

module _ {B C : Type 0} (meaning : B → Meaning C) where
  -- what comes next to a kernel, and the choices after it
  abbrev pub next_of : KernelView B C → Choices → Event × Choices
  next_of k c =
      event_after (takes_in meaning k) k.system.processors
      (interrupt_of (takes_in meaning k) c.plan.interrupts.now c)

  -- each of these events is what comes next
  abbrev pub AreDrawn : KernelView B C → Choices → List Event → Type 0
  AreDrawn k c [] = ⊤
  AreDrawn k c (e ∷ es) =
      (e ≡ (next_of k c).0) × AreDrawn (view_after k (reaction_of meaning k e)) (next_of k c).1 es
