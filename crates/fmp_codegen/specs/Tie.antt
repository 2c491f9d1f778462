-- The tie between the text of a body and its code: the values of the text's locals at the places of the code's, and the
-- program counter at the code of what is still to do.
use Rattle.std.specs.Prelude.{◌≡◌, ℕ, zero, suc, ◌+◌, ◌<◌, ◌≤◌, max, ℤ, List, [], ◌∷◌, ◌++◌, map, length, Option, Some}
use Rattle.std.specs.Prelude.{None, slice_get}
use Rattle.fmp_base.specs.declared.calls.Reply.{Reply}
use Rattle.fmp_base.specs.Systems.{SystemTables}
use Rattle.fmp_tasklang.specs.Trees.{StatementTree, while, BodyTree}
use Rattle.fmp_tasklang.specs.Scopes.{Scope, scope_of}
use Rattle.fmp_tasklang.specs.Contexts.{Item, Do, Mark, Receivers, TextContext, locals_after}
use Rattle.fmp_tasklang.specs.Layout.{Local}
use Rattle.fmp_tasklang.specs.Values.{Values}
use Rattle.fmp_tasklang.specs.Texts.{body_at}
use Rattle.fmp_instructions.specs.declared.instructions.Instruction.{Instruction}
use Rattle.fmp_instructions.specs.declared.instructions.Instruction.TheVariants.{Jump, End}
use Rattle.fmp_instructions.specs.declared.instructions.MachineContext.{MachineContext}
use Rattle.fmp_instructions.specs.Instructions.{BodyTables, instructions_at}
use Rattle.fmp_instructions.specs.Machine.{call_before, replied, stack_of}
use Rattle.fmp_scopes.specs.Naming.{uses_offence, statement_uses}
use Rattle.fmp_scopes.specs.Scheme.{statement_code}
use Rattle.fmp_scopes.specs.Sizes.{statement_size}

-- the instructions stand in the code from this place on
abbrev pub HasAt : List Instruction → ℕ → List Instruction → Type 0
HasAt code at [] = Unit {0}
HasAt code at (i ∷ is) = (slice_get code at ≡ Some i) × HasAt code (at + 1) is

-- n jumps forward lead from p to q
abbrev pub Path : List Instruction → ℕ → ℕ → ℕ → Type 0
Path code zero p q = p ≡ q
Path code (suc n) p q = (a : ℕ) × (slice_get code p ≡ Some (Jump a)) × (p < a) × Path code n a q

-- jumps forward lead from p to a place of which P holds
pub record Reaches (code : List Instruction) (p : ℕ) (P : ℕ → Type 0) : Type 0 where
  pub jumps : ℕ
  pub place : ℕ
  pub path : Path code jumps p place
  pub holds : P place

-- all names of a statement are known
abbrev pub IsNamed : Scope → StatementTree → Type 0
IsNamed scope s = uses_offence scope (statement_uses s) ≡ None

-- From a place on stands the code of these things to do, jumps forward aside: the code of a statement, a jump back at
-- the end of a turn, the end of the body. `continue` leads to `again` and `break` to `exit`.
abbrev pub Stands : Scope → List Instruction → List Item → (at again exit : ℕ) → Type 0
Stands scope code [] at again exit =
    (slice_get code at ≡ Some End) × (slice_get code again ≡ Some End) × (slice_get code exit ≡ Some End) ×
    (at ≤ again) × (at ≤ exit)
Stands scope code (Do s ∷ rest) at again exit =
    IsNamed scope s × HasAt code at (statement_code scope s at again exit) ×
    Reaches code (at + statement_size s) (λ q. Stands scope code rest q again exit)
Stands scope code (Mark e b ∷ rest) at again exit =
    (slice_get code at ≡ Some (Jump again)) × (at < exit) × (exit ≡ again + statement_size (while e b)) ×
    IsNamed scope (while e b) ×
    (again' : ℕ) × (exit' : ℕ) × HasAt code again (statement_code scope (while e b) again again' exit') ×
    Reaches code exit (λ q. Stands scope code rest q again' exit')

-- the same, wherever `continue` and `break` lead
abbrev pub StandsSomehow : Scope → List Instruction → List Item → ℕ → Type 0
StandsSomehow scope code todo at = (again : ℕ) × (exit : ℕ) × Stands scope code todo at again exit

-- the values of all places of the text's locals, one local after another
abbrev pub all_values : Values → List ℤ
all_values [] = []
all_values (xs ∷ more) = xs ++ all_values more

-- The text's locals have as many values as places, and the code's locals are these, in order of place. What stands
-- after them no body uses.
pub record LocalsTied (scope : Scope) (machine : List ℤ) (text : Values) : Type 0 where
  pub shape : map (λ (xs : List ℤ). length xs) text ≡ map (λ (l : Local). l.places) scope.locals
  pub unused : List ℤ
  pub same : machine ≡ all_values text ++ unused

-- a reply changes tied locals in the same way
abbrev pub TakesReply : Scope → List Instruction → Option Receivers → ℕ → Type 0
TakesReply scope code receivers at =
    (machine : List ℤ) (text : Values) (reply : Reply) →
    LocalsTied scope machine text →
    LocalsTied scope (replied (call_before code at) machine reply) (locals_after text receivers reply)

-- tied contexts of the code of a body and of its text, where each begins a stretch: the code's has no operands
pub record ContextTied (scope : Scope) (code : List Instruction) (d : MachineContext) (c : TextContext) : Type 0 where
  pub operands : stack_of d ≡ []
  pub locals : LocalsTied scope d.locals c.locals
  pub todo : Reaches code d.pc (StandsSomehow scope code c.todo)
  pub reply : TakesReply scope code c.receivers d.pc

-- contexts at an end or a fault: tied locals
abbrev pub SameLocals : Scope → MachineContext → TextContext → Type 0
SameLocals scope d c = LocalsTied scope d.locals c.locals

-- the same for each body of a text, by its number
abbrev pub CodeTied : SystemTables → List BodyTree → List BodyTables → ℕ → MachineContext → TextContext → Type 0
CodeTied tables bodies code body d c =
    ContextTied (scope_of tables (body_at bodies body)) (instructions_at code body) d c

-- the greatest number of instructions of a body
abbrev pub longest : List BodyTables → ℕ
longest [] = 0
longest (b ∷ bs) = max (length b.instructions) (longest bs)
