-- What is counted of the calls of a service by a caller.
use Rattle.std.specs.Prelude.{Bool, true, false, ◌&&◌, nat_eq}
use Rattle.std.specs.Ordering.{int_eq}
use Rattle.fmp_base.specs.declared.codes.Er.{Er}
use Rattle.fmp_base.specs.declared.states.Caller.{Caller}
use Rattle.fmp_base.specs.declared.states.Caller.TheVariants as caller
use Rattle.fmp_base.specs.declared.states.Handler.{Handler}
use Rattle.fmp_base.specs.declared.states.Handler.TheVariants as handler
use Rattle.fmp_base.specs.Codes.{code_of}
use Rattle.fmp_base.specs.Services.{service_number}
use Rattle.fmp_frames.specs.declared.call_counts.CallerService.{CallerService}
use Rattle.fmp_frames.specs.declared.told.CallTold.{CallTold}
use Rattle.fmp_frames.specs.declared.told.ToldOutcome.{ToldOutcome}
use Rattle.fmp_frames.specs.declared.told.ToldOutcome.TheVariants as outcome

abbrev pub is_same_handler : Handler → Handler → Bool
is_same_handler (handler.Cyclic a) (handler.Cyclic b) = nat_eq a b
is_same_handler (handler.Interrupt a) (handler.Interrupt b) = nat_eq a b
is_same_handler (handler.Cyclic a) (handler.Interrupt b) = false
is_same_handler (handler.Interrupt a) (handler.Cyclic b) = false

abbrev pub is_same_caller : Caller → Caller → Bool
is_same_caller (caller.Task a) (caller.Task b) = nat_eq a b
is_same_caller (caller.Handler a) (caller.Handler b) = is_same_handler a b
is_same_caller (caller.Task a) (caller.Handler b) = false
is_same_caller (caller.Handler a) (caller.Task b) = false

-- a line tells of a call of this service by this caller
abbrev pub is_at : CallerService → CallTold → Bool
is_at site t =
    is_same_caller t.caller site.caller && nat_eq (service_number t.service) (service_number site.service)

-- that it is made
abbrev pub is_made : ToldOutcome → Bool
is_made (outcome.Answered code) = true
is_made outcome.Waits = true
is_made (outcome.Released code) = false

-- that its caller begins to wait
abbrev pub is_wait : ToldOutcome → Bool
is_wait (outcome.Answered code) = false
is_wait outcome.Waits = true
is_wait (outcome.Released code) = false

-- that it is answered this code, at once or at the end of a wait
abbrev pub has_answer : Er → ToldOutcome → Bool
has_answer code (outcome.Answered other) = int_eq (code_of other) (code_of code)
has_answer code outcome.Waits = false
has_answer code (outcome.Released other) = int_eq (code_of other) (code_of code)

-- what is counted: the calls that were made, those of them at which the caller began to wait, and the answers
abbrev pub is_call : CallerService → CallTold → Bool
is_call site t = is_at site t && is_made t.outcome

abbrev pub is_waiting_call : CallerService → CallTold → Bool
is_waiting_call site t = is_at site t && is_wait t.outcome

abbrev pub is_answer : CallerService → Er → CallTold → Bool
is_answer site code t = is_at site t && has_answer code t.outcome
