-- Bodies that read nothing but their extended information and the replies since their start.
use Rattle.std.proofs.Common.{◌≡◌, ◌↔◌, ℕ, zero, suc, Option, Some, None, refl, ap}
use Rattle.std.specs.Prelude.{IfSome}
use Rattle.fmp_base.specs.declared.bodies.Held.{Held}
use Rattle.fmp_base.specs.declared.bodies.Held.TheVariants.{Goes, Awaits}
use Rattle.fmp_base.specs.declared.events.Event.{Event}
use Rattle.fmp_base.specs.declared.events.Event.TheVariants as event
use Rattle.fmp_base.specs.declared.states.Caller.{Caller}
use Rattle.fmp_base.specs.Meanings.{World, context_of}
use Rattle.fmp_base.specs.States.{processor_at}
use Rattle.fmp_base.specs.Steps.{actor_of, run_by, run_in, step}
use Rattle.fmp_base.specs.Systems.{SystemTables}
use Rattle.fmp_worlds.specs.Stamps.{Going, actor_at_number}
use Rattle.fmp_outside.specs.declared.given.Act.{Act}
use Rattle.fmp_outside.specs.declared.given.Act.TheVariants as act
use Rattle.fmp_outside.specs.declared.given.Given.TheVariants as given
use Rattle.fmp_outside.specs.Outside.{ActsSo, History, IsOfText, act_of, ending_by, history_meaning}

act_back : (h : History) (a : Act) → act_of (ending_by h a) ≡ Some a
act_back h (act.Call made) = refl
act_back h act.End = refl
act_back h (act.Fault fault) = refl

module _ (f : ℕ → History → Act) where
  acts_by : (n : ℕ) (a : Act) (o : Option (Going History))
      → ActsSo (history_meaning f) n a o ↔ IfSome o (λ g. f g.entry g.context ≡ a)
  acts_by n a None = (λ t. t, λ t. t)
  acts_by n a (Some g) =
      let made = act_back g.context (f g.entry g.context) in
      (λ e. cc, λ e. cc)

  pub history_acts : (sys : SystemTables) (n : ℕ) (w : World History) (p : ℕ) (a : Act)
      → IsOfText sys (history_meaning f) n w (given.Act p a)
      ↔ IfSome (actor_at_number sys w p) (λ g. f g.entry g.context ≡ a)
  history_acts sys n w p a = acts_by n a (actor_at_number sys w p)

  same_held : (sys : SystemTables) (m n : ℕ) (w : World History) (p : ℕ) (who : Caller) (o : Option (Held History))
      → run_in sys (history_meaning f) m w p who o ≡ run_in sys (history_meaning f) n w p who o
  same_held sys m n w p who None = refl
  same_held sys m n w p who (Some (Awaits h)) = refl
  same_held sys m n w p who (Some (Goes h)) = refl

  same_run : (sys : SystemTables) (m n : ℕ) (w : World History) (p : ℕ) (o : Option Caller)
      → run_by sys (history_meaning f) m w p o ≡ run_by sys (history_meaning f) n w p o
  same_run sys m n w p None = refl
  same_run sys m n w p (Some who) = same_held sys m n w p who (context_of w.contexts p who)

  pub history_bound : (sys : SystemTables) (m n : ℕ) (w : World History) (e : Event)
      → step sys (history_meaning f) m w e ≡ step sys (history_meaning f) n w e
  history_bound sys m n w (event.Run zero) = refl
  history_bound sys m n w (event.Run (suc p)) = same_run sys m n w p (actor_of (processor_at w.state p))
  history_bound sys m n w event.Tick = refl
  history_bound sys m n w (event.Int i) = refl
