-- A line of a trace as a record of numbers.
use Rattle.std.specs.Prelude.{ℕ, ◌+◌, ℤ, pos, List, Option, Some, None, Bool, true, false, get_or, is_some}
use Rattle.fmp_base.specs.declared.bodies.Fault.{Fault}
use Rattle.fmp_base.specs.declared.bodies.Fault.TheVariants as fault
use Rattle.fmp_base.specs.declared.calls.Call.{Call}
use Rattle.fmp_base.specs.declared.calls.Reply.{Reply}
use Rattle.fmp_base.specs.declared.events.Line.{Line}
use Rattle.fmp_base.specs.declared.events.Line.TheVariants as line
use Rattle.fmp_base.specs.declared.states.Caller.{Caller}
use Rattle.fmp_base.specs.declared.states.Caller.TheVariants as caller
use Rattle.fmp_base.specs.declared.states.Handler.TheVariants as handler
use Rattle.fmp_base.specs.Codes.{code_of}
use Rattle.fmp_base.specs.Services.{arguments_of, service_number, service_of}
use Rattle.fmp_c.specs.Records.{kind_of, number_of, value_or_0}
use Rattle.fmp_c.specs.declared.lines.FmpLine.{FmpLine}

-- a line of this kind with nothing else
abbrev pub plain : ℕ → FmpLine
plain kind =
    record {
      kind = kind;
      processor = 0;
      who = 0;
      number = 0;
      service = 0;
      fault = 0;
      replied = false;
      has_value = false;
      code = pos 0;
      value = pos 0;
      a = pos 0;
      b = pos 0;
      c = pos 0;
      d = pos 0;
    }

-- a line of this kind of a caller on the processor at this place
abbrev pub of_caller : ℕ → ℕ → Caller → FmpLine
of_caller kind p who = record (plain kind) { processor = p + 1; who = kind_of who; number = number_of who }

-- the line with a reply
abbrev pub with_reply : FmpLine → Reply → FmpLine
with_reply l r =
    record l { replied = true; has_value = is_some r.value; code = code_of r.code; value = value_or_0 r.value }

abbrev pub with_answer : FmpLine → Option Reply → FmpLine
with_answer l None = l
with_answer l (Some r) = with_reply l r

abbrev pub with_arguments : FmpLine → List ℤ → FmpLine
with_arguments l xs =
    record l { a = get_or xs 0 (pos 0); b = get_or xs 1 (pos 0); c = get_or xs 2 (pos 0); d = get_or xs 3 (pos 0) }

abbrev pub with_call : FmpLine → Call → FmpLine
with_call l c = with_arguments (record l { service = service_number (service_of c) }) (arguments_of c)

abbrev pub fault_number : Fault → ℕ
fault_number fault.Overflow = 1
fault_number fault.Division = 2
fault_number fault.Index = 3

abbrev pub of_run : ℕ → Option ℕ → FmpLine
of_run p None = record (plain 10) { processor = p + 1 }
of_run p (Some t) = of_caller 10 p (caller.Task t)

-- the record of a line
abbrev pub line_row : Line → FmpLine
line_row (line.Tick n) = record (plain 1) { number = n }
line_row (line.Int i) = record (plain 2) { number = i + 1 }
line_row (line.Call p who call r) = with_answer (with_call (of_caller 3 p who) call) r
line_row (line.End p who) = of_caller 4 p who
line_row (line.Fault p who f) = record (of_caller 5 p who) { fault = fault_number f }
line_row (line.Gets p t r) = with_reply (of_caller 6 p (caller.Task t)) r
line_row (line.Starts p t) = of_caller 7 p (caller.Task t)
line_row (line.Pends p c) = of_caller 8 p (caller.Handler (handler.Cyclic c))
line_row (line.Begins p h) = of_caller 9 p (caller.Handler h)
line_row (line.Runs p t) = of_run p t

-- the record of the line at a place, or of none
abbrev pub line_or_none : Option Line → FmpLine
line_or_none None = plain 0
line_or_none (Some l) = line_row l
