-- The context of a body: the values of its locals, what it has still to do, and where the reply of its call goes.
use Rattle.std.specs.Prelude.{ℕ, ℤ, pos, List, [], ◌∷◌, map, Option, Some, None, replicate}
use Rattle.fmp_base.specs.declared.codes.Er.{Er}
use Rattle.fmp_base.specs.declared.codes.Er.TheVariants.{Ok}
use Rattle.fmp_base.specs.declared.calls.Reply.{Reply}
use Rattle.fmp_base.specs.Deliveries.{value_or_zero, result_value}
use Rattle.fmp_base.specs.Services.{gives_count}
use Rattle.fmp_base.specs.declared.services.Service.{Service}
use Rattle.fmp_tasklang.specs.Layout.{Local, local_of}
use Rattle.fmp_tasklang.specs.Values.{Values, set_at}
use Rattle.fmp_tasklang.specs.Trees.{ExpressionTree, StatementTree, Block, empty, next, BodyTree}

-- a statement to do, or the end of a turn of a loop, with the condition and the block of its `while`
pub data Item : Type 0 where
  Do : StatementTree → Item
  Mark : ExpressionTree → Block → Item

-- where the reply to a call goes: the service that was called, and the numbers of the variables at its out place and
-- before `=`
pub record Receivers : Type 0 where
  pub service : Service
  pub out : Option ℕ
  pub result : Option ℕ

-- the values of the locals, what is to do from now on, and the receivers of the last service call's reply, if there was
-- a call
pub record TextContext : Type 0 where
  pub locals : Values
  pub todo : List Item
  pub receivers : Option Receivers

-- a context that has made no call since its start, or is at its end
abbrev pub going : Values → List Item → TextContext
going locals todo = record { locals = locals; todo = todo; receivers = None }

-- a context that waits for the reply of a service call
abbrev pub calling : Values → List Item → Receivers → TextContext
calling locals todo receivers = record { locals = locals; todo = todo; receivers = Some receivers }

-- the statements of a block, before what is to do after it
abbrev pub items_before : Block → List Item → List Item
items_before empty rest = rest
items_before (next s b) rest = Do s ∷ items_before b rest

-- the locals at the start: `exinf`, and 0 at all places of the others
abbrev pub zeros : Local → List ℤ
zeros l = replicate l.places (pos 0)

abbrev pub first_values : BodyTree → ℤ → Values
first_values body exinf = (exinf ∷ []) ∷ map (λ d. zeros (local_of d)) body.variables

-- a body that begins
abbrev pub start : BodyTree → ℤ → TextContext
start body exinf = going (first_values body exinf) (items_before body.statements [])

-- a variable is written, where one is named
abbrev pub written : Values → Option ℕ → ℤ → Values
written locals None x = locals
written locals (Some number) x = set_at locals number 0 x

-- the variable at the out place is written at E_OK only
abbrev pub out_written : Er → Values → Option ℕ → ℤ → Values
out_written Ok locals out x = written locals out x
out_written _ locals out x = locals

-- first the variable at the out place, then the one before `=`
abbrev pub received : Values → Receivers → Reply → Values
received locals r reply =
    let x = value_or_zero reply.value in
    written (out_written reply.code locals r.out x) r.result (result_value reply.code (gives_count r.service) x)

-- the locals after a reply
abbrev pub locals_after : Values → Option Receivers → Reply → Values
locals_after locals None reply = locals
locals_after locals (Some receivers) reply = received locals receivers reply

-- the body receives the reply of its last call
abbrev pub deliver : TextContext → Reply → TextContext
deliver c reply = record c { locals = locals_after c.locals c.receivers reply }
