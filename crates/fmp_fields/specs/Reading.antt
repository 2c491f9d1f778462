-- How the fields of a state are read: from one block or one context those that it tells.
use Rattle.std.specs.Prelude.{ℕ, ◌<◌, ◌∷◌, ◌++◌, Option, Some, None, Bool, List, get_or, length, map, pos}
use Rattle.std.specs.List.{range_with_len}
use Rattle.fmp_base.specs.declared.bodies.Held.{Held}
use Rattle.fmp_base.specs.Meanings.{Contexts, body_in, context_at, context_in, task_body}
use Rattle.fmp_base.specs.Systems.{SystemTables}
use Rattle.fmp_fields.specs.declared.owner.Owner.{Owner}
use Rattle.fmp_fields.specs.declared.owner.Owner.TheVariants as owner
use Rattle.fmp_fields.specs.declared.room.Room.{Room}
use Rattle.fmp_instructions.specs.declared.instructions.MachineContext.{MachineContext}
use Rattle.fmp_live.specs.Zeroed.{zeroed_by}
use Rattle.fmp_reachable.specs.Numbers.{unsigned}

-- what is kept of an owner
abbrev pub kept_by : Contexts (Held MachineContext) → Owner → Option (Held MachineContext)
kept_by cs (owner.Task t) = context_at cs.tasks t
kept_by cs (owner.Handler p) = context_in (context_at cs.handlers p)

-- the number of its body
abbrev pub body_by : SystemTables → Contexts (Held MachineContext) → Owner → ℕ
body_by sys cs (owner.Task t) = task_body sys t
body_by sys cs (owner.Handler p) = body_in (context_at cs.handlers p)

-- a task that an owner is, is one of the system
abbrev pub IsOwned : SystemTables → Owner → Type 0
IsOwned sys (owner.Task t) = t < length sys.tasks
IsOwned sys (owner.Handler p) = Unit {0}

-- a context with 0 for each local that a row calls dead
abbrev pub with_zeros : List Bool → Option MachineContext → Option MachineContext
with_zeros row None = None
with_zeros row (Some c) = Some (record c { locals = zeroed_by row c.locals })

-- the numbers of the fields of a body of this room with this context
abbrev pub context_numbers : Room → MachineContext → List ℕ
context_numbers room c =
    c.pc ∷ (map (λ l. unsigned (get_or c.locals l (pos 0))) (range_with_len 0 room.locals)
    ++ c.count ∷ map (λ i. unsigned (get_or c.operands i (pos 0))) (range_with_len 0 room.operands))
