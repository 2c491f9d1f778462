-- A kernel that has taken events, each of which did something, and what one more event does.
use Rattle.std.specs.Prelude.{ℕ, ◌≡◌, List, [], ◌∷◌, ◌++◌}
use Rattle.fmp_base.specs.declared.events.Effect.{Effect}
use Rattle.fmp_base.specs.declared.events.Event.{Event}
use Rattle.fmp_base.specs.Steps.{Done, Did, effect_of}
use Rattle.fmp_image_bytes.specs.Images.{ImageTables}
use Rattle.fmp_instructions.specs.Instructions.{BodyTables}
use Rattle.fmp_instructions.specs.declared.instructions.MachineContext.{MachineContext}
use Rattle.fmp_kernel.specs.KernelViews.{KernelView, view_after}
use Rattle.fmp_replay.specs.Replays.{IsLegal, kernel_after, reaction}
use Rattle.fmp_witness.specs.Asked.{Asked}

-- a kernel of an image, at a bound, in whatever state
pub record IsOver (i : ImageTables) (n : ℕ) (k : KernelView (List BodyTables) MachineContext) : Type 0 where
  pub body : k.body ≡ i.code
  pub bound : k.bound ≡ n
  pub system : k.system ≡ i.system

-- the kernel of an image that has taken these events
pub record IsFollowed (i : ImageTables) (n : ℕ) (es : List Event) (k : KernelView (List BodyTables) MachineContext) :
    Type 0 where
  pub legal : IsLegal i n es
  pub kernel : k ≡ kernel_after i n es

-- the same of what is asked
abbrev pub HasFollowed : Asked → List Event → KernelView (List BodyTables) MachineContext → Type 0
HasFollowed asked es k = IsFollowed asked.image asked.bound es k

-- what an event does after others, and the kernel then
pub record HasStepped (i : ImageTables) (n : ℕ) (es : List Event) (e : Event)
    (k : KernelView (List BodyTables) MachineContext) (x : Effect) : Type 0 where
  pub legal : IsLegal i n es
  pub effect : x ≡ effect_of (reaction i n es e)
  pub kernel : k ≡ view_after (kernel_after i n es) (reaction i n es e)

-- an event is done after others
pub record HasDone (i : ImageTables) (n : ℕ) (es : List Event) (e : Event)
    (k : KernelView (List BodyTables) MachineContext) : Type 0 where
  pub done : Done MachineContext
  pub did : reaction i n es e ≡ Did done
  pub lines : k.lines ≡ done.lines
  pub world : k.world ≡ done.world
  pub followed : IsFollowed i n (es ++ e ∷ []) k
