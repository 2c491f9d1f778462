-- What must never happen, as lines tell it.
use Rattle.std.specs.Prelude.{ℤ, List, Option, Some, None, Bool, true, false}
use Rattle.std.specs.List.{list_any}
use Rattle.std.specs.Ordering.{int_eq}
use Rattle.fmp_base.specs.Codes.{code_of}
use Rattle.fmp_base.specs.declared.bodies.Fault.{Fault}
use Rattle.fmp_base.specs.declared.bodies.Fault.TheVariants.{Overflow, Division, Index}
use Rattle.fmp_base.specs.declared.calls.Call.{Call}
use Rattle.fmp_base.specs.declared.calls.Call.TheVariants as call
use Rattle.fmp_base.specs.declared.calls.Reply.{Reply}
use Rattle.fmp_base.specs.declared.codes.Er.{Er}
use Rattle.fmp_base.specs.declared.events.Line.{Line}
use Rattle.fmp_base.specs.declared.events.Line.TheVariants as line
use Rattle.fmp_question.specs.declared.question.Never.{Never}
use Rattle.fmp_question.specs.declared.question.Never.TheVariants as kind
use Rattle.fmp_schedules.specs.Stuck.{acts}

-- two codes are one if their numbers are
abbrev pub is_same_code : Er → Er → Bool
is_same_code a b = int_eq (code_of a) (code_of b)

abbrev pub is_same_fault : Fault → Fault → Bool
is_same_fault Overflow Overflow = true
is_same_fault Division Division = true
is_same_fault Index Index = true
is_same_fault _ _ = false

-- there is a reply, with this code
abbrev pub has_code : Er → Option Reply → Bool
has_code code None = false
has_code code (Some reply) = is_same_code reply.code code

-- a call, or the end of a wait, answers this code
abbrev pub is_answered : Er → Line → Bool
is_answered code (line.Call p who made reply) = has_code code reply
is_answered code (line.Gets p t reply) = is_same_code reply.code code
is_answered code _ = false

abbrev pub puts : ℤ → Call → Bool
puts value (call.Put printed) = int_eq printed value
puts value _ = false

-- this value is printed
abbrev pub is_put : ℤ → Line → Bool
is_put value (line.Call p who made reply) = puts value made
is_put value _ = false

-- a body stops with this fault
abbrev pub is_fault : Fault → Line → Bool
is_fault fault (line.Fault p who told) = is_same_fault told fault
is_fault fault _ = false

-- a line tells this
abbrev pub tells : Never → Line → Bool
tells (kind.Answer code) l = is_answered code l
tells (kind.Put value) l = is_put value l
tells (kind.Fault fault) l = is_fault fault l
tells (kind.Acts t) l = acts t l

-- a line tells something of these
abbrev pub forbids : List Never → Line → Bool
forbids nevers l = list_any (λ never. tells never l) nevers
