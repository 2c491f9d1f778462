-- What comes to a hosted system, whether it is taken, and what it does.
use Rattle.std.specs.Prelude.{◌≡◌, ℕ, ℤ, pos, ◌-◌, ◌^◌, List, [], ◌∷◌, length, Option, Some, None, Result, Ok, Err}
use Rattle.std.specs.Prelude.{Bool, ◌&&◌, if◌then◌else◌, nat_le, nat_lt, get_or}
use Rattle.fmp_base.specs.declared.calls.Call.{Call}
use Rattle.fmp_base.specs.declared.events.Effect.{Effect}
use Rattle.fmp_base.specs.declared.services.Service.{Service}
use Rattle.fmp_base.specs.declared.services.Service.TheVariants as service
use Rattle.fmp_base.specs.declared.services.TheConstants.{SERVICES}
use Rattle.fmp_base.specs.Services.{arity, request}
use Rattle.fmp_base.specs.Setups.{setup}
use Rattle.fmp_base.specs.Steps.{Reaction, effect_of}
use Rattle.fmp_base.specs.Systems.{tables_of}
use Rattle.fmp_cfgparse.specs.Configurations.{Describes}
use Rattle.fmp_kernel.specs.KernelViews.{KernelView, view_after, view_of_setup}
use Rattle.fmp_kernel.specs.Restarts.{counts_restarted}
use Rattle.fmp_outside.specs.declared.given.Act.TheVariants as act
use Rattle.fmp_outside.specs.declared.given.Given.{Given}
use Rattle.fmp_outside.specs.declared.given.Given.TheVariants as given
use Rattle.fmp_outside.specs.Outside.{outside_step}
use Rattle.fmp_foreign.specs.declared.foreign.LastTold.{LastTold}
use Rattle.fmp_foreign.specs.declared.foreign.LastTold.TheVariants as told
use Rattle.fmp_foreign.specs.declared.hosted.HostedSystem.{HostedSystem}
use Rattle.fmp_foreign.specs.declared.requests.Refusal.{Refusal}
use Rattle.fmp_foreign.specs.declared.requests.Refusal.TheVariants as refusal
use Rattle.fmp_foreign.specs.Foreign.{foreign_meaning}

-- a kernel of bodies that run elsewhere
abbrev pub ForeignKernel : Type 0
ForeignKernel = KernelView (Unit {0}) LastTold

-- such a kernel of the system that a text describes, after setup
pub record IsNew (text : List ℕ) (h : HostedSystem) : Type 0 where
  pub read : Describes text h.system
  pub kernel :
      h.kernel
      ≡ view_of_setup h.kernel.body 1 (tables_of h.system)
      (setup (tables_of h.system) (foreign_meaning h.kernel.body))

-- a number from 1 to the greatest
abbrev pub is_number : (most n : ℕ) → Bool
is_number most n = nat_le 1 n && nat_le n most

-- the service of this function code
abbrev pub service_of_code : ℕ → Service
service_of_code code = get_or SERVICES (code - 1) service.Put

-- the first four arguments
abbrev pub four : List ℤ → List ℤ
four xs = get_or xs 0 (pos 0) ∷ get_or xs 1 (pos 0) ∷ get_or xs 2 (pos 0) ∷ get_or xs 3 (pos 0) ∷ []

-- the call of the service of this function code with these arguments: all that it takes, and at most four
abbrev pub called_by : (code : ℕ) → List ℤ → Result Call Refusal
called_by code xs =
    if is_number 59 code
    then (
    if nat_le (arity (service_of_code code)) (length xs) && nat_le (length xs) 4
    then Ok (request (service_of_code code) (four xs))
    else Err refusal.Arguments
    )
    else Err refusal.Service

-- the actor of the processor of this number makes this call
abbrev pub made_by : ℕ → Result Call Refusal → Result Given Refusal
made_by p (Ok c) = Ok (given.Act p (act.Call c))
made_by p (Err why) = Err why

-- whether the numbers are in range: there is the processor, and interrupts have the numbers 1 to 32
abbrev pub refused_number : ForeignKernel → Given → Option Refusal
refused_number k (given.Act p a) = if is_number k.system.processors p then None else Some refusal.Processor
refused_number k given.Tick = None
refused_number k (given.Int i) = if is_number 32 i then None else Some refusal.Interrupt

-- why it is not taken, if it is not: after 2^31 events none is
abbrev pub refused : ForeignKernel → Given → Option Refusal
refused k g = if nat_lt k.taken (2 ^ 31) then refused_number k g else Some refusal.Full

-- what it does
abbrev pub reaction : ForeignKernel → Given → Reaction LastTold
reaction k g = outside_step k.system (foreign_meaning k.body) k.bound (told.Starts (pos 0)) k.world g

abbrev pub answer_unless : Option Refusal → Reaction LastTold → Result Effect Refusal
answer_unless None r = Ok (effect_of r)
answer_unless (Some why) r = Err why

abbrev pub after_unless : Option Refusal → ForeignKernel → Reaction LastTold → ForeignKernel
after_unless None k r = view_after k r
after_unless (Some why) k r = k

-- what is answered to it
abbrev pub answer : ForeignKernel → Result Given Refusal → Result Effect Refusal
answer k (Ok g) = answer_unless (refused k g) (reaction k g)
answer k (Err why) = Err why

-- the hosted system after it
abbrev pub after : HostedSystem → Result Given Refusal → HostedSystem
after h (Ok g) = record h { kernel = after_unless (refused h.kernel g) h.kernel (reaction h.kernel g) }
after h (Err why) = h

-- the hosted system with counts that begin again
abbrev pub restarted : HostedSystem → HostedSystem
restarted h = record h { kernel = counts_restarted h.kernel }
