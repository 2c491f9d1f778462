-- What a run on a kernel still has to print, and where it ends.
use Rattle.std.specs.Prelude.{ℕ, ◌≡◌, ◌+◌, ◌≤◌, List, [], ◌++◌, vec_capacity}
use Rattle.fmp_base.specs.declared.events.Event.{Event}
use Rattle.fmp_base.specs.Meanings.{Meaning}
use Rattle.fmp_base.specs.Runs.{run}
use Rattle.fmp_base.specs.States.{KernelState}
use Rattle.fmp_base.specs.Texts.{events_text}
use Rattle.fmp_kernel.specs.KernelViews.{KernelView}
use Rattle.fmp_engine.specs.declared.fault.TextCut.{TextCut}
use Rattle.fmp_engine.specs.declared.fault.TextCut.TheVariants.{Memory, Stopped}
use Rattle.fmp_engine.specs.declared.play.Buffers.{Buffers}
use Rattle.fmp_engine.specs.Outlets.{Given, GivenFront}

-- the text of the lines of the events that a kernel does of a list, numbered on
abbrev pub text_of_events : {B C : Type 0} → (B → Meaning C) → KernelView B C → List Event → List ℕ
text_of_events meaning k es =
    events_text k.system (k.done + 1) (run k.system (meaning k.body) k.bound k.world es).events

-- the state that it then has
abbrev pub state_after : {B C : Type 0} → (B → Meaning C) → KernelView B C → List Event → KernelState
state_after meaning k es = (run k.system (meaning k.body) k.bound k.world es).world.state

-- A kernel has taken some events. An outlet was given the front of what had been put together and of their text, the
-- rest is left, and the kernel ends in the state in which it was to end.
pub record HasGiven {T B C : Type 0} (gave : T → T → List ℕ → Type 0) (meaning : B → Meaning C)
    (before after : KernelView B C) (es : List Event) (from to : T) (text left : List ℕ) : Type 0 where
  pub given : Given gave from to left (text ++ text_of_events meaning before es)
  pub state : after.world.state ≡ state_after meaning before es
  pub system : after.system ≡ before.system

-- why an outlet was not given all of a text: it was given nothing, or a front and took no more
abbrev pub IsWhyCut : {T : Type 0} → (gave stopped : T → T → List ℕ → Type 0) → (from to : T) → (whole : List ℕ)
    → TextCut
    → Type 0
IsWhyCut gave stopped from to whole Memory = gave from to []
IsWhyCut gave stopped from to whole Stopped = GivenFront stopped from to whole

-- buffers in which nothing stands, with room for the end of any run
pub record AreFree (b : Buffers) : Type 0 where
  pub no_text : b.text.items ≡ []
  pub room : 393216 ≤ vec_capacity b.text
  pub no_states : b.states.items ≡ []
  pub states_room : 255 ≤ vec_capacity b.states
