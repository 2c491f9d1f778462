-- What C is told of a system and of its events, as records of numbers. Numbers of tasks, handlers, interrupts and
-- processors go from 1.
use Rattle.std.specs.Prelude.{ℕ, ◌+◌, ◌^◌, ℤ, pos, List, [], ◌∷◌, Option, Some, None, Result, Ok, Err, Bool, true}
use Rattle.std.specs.Prelude.{false, bit_or, get_or, is_some}
use Rattle.fmp_base.specs.declared.calls.Reply.{Reply}
use Rattle.fmp_base.specs.declared.events.Effect.{Effect}
use Rattle.fmp_base.specs.declared.events.Effect.TheVariants as effect
use Rattle.fmp_base.specs.declared.events.Line.{Line}
use Rattle.fmp_base.specs.declared.events.Line.TheVariants as line
use Rattle.fmp_base.specs.declared.states.Caller.{Caller}
use Rattle.fmp_base.specs.declared.states.Caller.TheVariants as caller
use Rattle.fmp_base.specs.declared.states.Handler.{Handler}
use Rattle.fmp_base.specs.declared.states.Handler.TheVariants as handler
use Rattle.fmp_base.specs.Codes.{code_of}
use Rattle.fmp_foreign.specs.declared.foreign.LastTold.{LastTold}
use Rattle.fmp_foreign.specs.declared.foreign.LastTold.TheVariants as told
use Rattle.fmp_foreign.specs.declared.looking.Acting.{Acting}
use Rattle.fmp_foreign.specs.declared.requests.Refusal.{Refusal}
use Rattle.fmp_foreign.specs.declared.requests.Refusal.TheVariants as refusal
use Rattle.fmp_c.specs.declared.records.FmpActing.{FmpActing}

-- who it is: 1 a task, 2 the handler of an interrupt, 3 a cyclic handler; and its number
abbrev pub kind_of_handler : Handler → ℕ
kind_of_handler (handler.Interrupt i) = 2
kind_of_handler (handler.Cyclic c) = 3

abbrev pub number_of_handler : Handler → ℕ
number_of_handler (handler.Interrupt i) = i + 1
number_of_handler (handler.Cyclic c) = c + 1

abbrev pub kind_of : Caller → ℕ
kind_of (caller.Task t) = 1
kind_of (caller.Handler h) = kind_of_handler h

abbrev pub number_of : Caller → ℕ
number_of (caller.Task t) = t + 1
number_of (caller.Handler h) = number_of_handler h

-- the value, or 0 where there is none
abbrev pub value_or_0 : Option ℤ → ℤ
value_or_0 None = pos 0
value_or_0 (Some v) = v

-- nobody
abbrev pub nobody : FmpActing
nobody = record { who = 0; number = 0; told = 0; has_value = false; code = pos 0; value = pos 0 }

abbrev pub told_row : Caller → LastTold → FmpActing
told_row who (told.Starts exinf) =
    record { who = kind_of who; number = number_of who; told = 1; has_value = true; code = pos 0; value = exinf }
told_row who (told.Replies r) =
    record {
      who = kind_of who;
      number = number_of who;
      told = 2;
      has_value = is_some r.value;
      code = code_of r.code;
      value = value_or_0 r.value;
    }

-- who acts, and what it was told last: 1 its extended information at its start, 2 the reply to its last call
abbrev pub acting_row : Option Acting → FmpActing
acting_row None = nobody
acting_row (Some a) = told_row a.caller a.told

-- what is answered to an event
abbrev pub answer_number : Result Effect Refusal → ℕ
answer_number (Ok effect.Nothing) = 0
answer_number (Ok effect.Done) = 1
answer_number (Ok effect.Kept) = 2
answer_number (Err refusal.Full) = 3
answer_number (Err refusal.Processor) = 5
answer_number (Err refusal.Service) = 6
answer_number (Err refusal.Arguments) = 7
answer_number (Err refusal.Interrupt) = 8

-- the bit of the processor at this place, of eight
abbrev pub bit_of : ℕ → ℕ
bit_of p = get_or (1 ∷ 2 ∷ 4 ∷ 8 ∷ 16 ∷ 32 ∷ 64 ∷ 128 ∷ []) p 0

-- what a line says of who acts, as bits: the processor that runs another task or begins a handler; 2^8 where a task
-- starts, 2^9 where a handler begins, 2^10 where a body ends or stops with a fault
abbrev pub change : Line → ℕ
change (line.Runs p t) = bit_of p
change (line.Begins p h) = bit_or 512 (bit_of p)
change (line.Starts p t) = 256
change (line.End p who) = 1024
change (line.Fault p who fault) = 1024
change l = 0

-- the bits of these lines, and of what was before them
abbrev pub changed_by : ℕ → List Line → ℕ
changed_by before [] = before
changed_by before (l ∷ ls) = changed_by (bit_or before (change l)) ls

abbrev pub changes : List Line → ℕ
changes = changed_by 0
