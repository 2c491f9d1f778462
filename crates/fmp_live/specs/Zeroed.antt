-- Worlds with 0 for each dead local, and worlds that are alike but for dead locals.
use Rattle.std.specs.Prelude.{ℕ, zero, suc, ℤ, pos, Bool, true, false, Option, Some, None, List, [], ◌∷◌, get_or, map}
use Rattle.fmp_bisimulation.specs.Alike.{Alike}
use Rattle.fmp_base.specs.declared.bodies.HandlerContext.{HandlerContext}
use Rattle.fmp_base.specs.declared.bodies.Held.{Held}
use Rattle.fmp_base.specs.declared.bodies.Held.TheVariants.{Goes, Awaits}
use Rattle.fmp_base.specs.Meanings.{Contexts, World, task_body}
use Rattle.fmp_base.specs.Systems.{SystemTables}
use Rattle.fmp_instructions.specs.declared.instructions.MachineContext.{MachineContext}
use Rattle.fmp_instructions.specs.Instructions.{BodyTables}
use Rattle.fmp_live.specs.LiveLocals.{AreLiveTables, LiveTable, table_at}

-- a local, or 0 if it is dead
abbrev pub if_live : Bool → ℤ → ℤ
if_live true x = x
if_live false x = pos 0

-- locals with 0 for each that a row calls dead
abbrev pub zeroed_by : List Bool → List ℤ → List ℤ
zeroed_by [] xs = xs
zeroed_by (live ∷ row) [] = []
zeroed_by (live ∷ row) (x ∷ xs) = if_live live x ∷ zeroed_by row xs

-- a context with 0 for each local that is dead at its place
abbrev pub zeroed_context : List (List Bool) → MachineContext → MachineContext
zeroed_context rows c = record c { locals = zeroed_by (get_or rows c.pc []) c.locals }

abbrev pub zeroed_held : LiveTable → Held MachineContext → Held MachineContext
zeroed_held t (Goes c) = Goes (zeroed_context t.goes c)
zeroed_held t (Awaits c) = Awaits (zeroed_context t.awaits c)

abbrev pub zeroed_task : LiveTable → Option (Held MachineContext) → Option (Held MachineContext)
zeroed_task t None = None
zeroed_task t (Some held) = Some (zeroed_held t held)

abbrev pub zeroed_handler : List LiveTable → Option (HandlerContext (Held MachineContext))
    → Option (HandlerContext (Held MachineContext))
zeroed_handler tables None = None
zeroed_handler tables (Some h) = Some (record h { context = zeroed_held (table_at tables h.body) h.context })

-- each of a list, changed as is due at its place
abbrev pub each_at : {A : Type 0} → (ℕ → A → A) → List A → List A
each_at f [] = []
each_at f (x ∷ xs) = f zero x ∷ each_at (λ i. f (suc i)) xs

abbrev pub zeroed_contexts : SystemTables → List LiveTable → Contexts (Held MachineContext)
    → Contexts (Held MachineContext)
zeroed_contexts sys tables cs =
    record {
      tasks = each_at (λ t. zeroed_task (table_at tables (task_body sys t))) cs.tasks;
      handlers = map (zeroed_handler tables) cs.handlers;
    }

-- a world with 0 for each dead local
abbrev pub zeroed : SystemTables → List LiveTable → World MachineContext → World MachineContext
zeroed sys tables w = record w { contexts = zeroed_contexts sys tables w.contexts }

-- worlds that are alike but for locals that these tables call dead
abbrev pub IsLikeBy : SystemTables → List LiveTable → World MachineContext → World MachineContext → Type 0
IsLikeBy sys tables v w = Alike sys (zeroed sys tables v) (zeroed sys tables w)

-- worlds that are alike but for dead locals: by tables of live locals, or through another world
pub data IsLike (outs : Bool) (sys : SystemTables) (bodies : List BodyTables)
    : World MachineContext → World MachineContext → Type 0
  where
    ByTables :
        (v w : World MachineContext) (tables : List LiveTable) → AreLiveTables outs bodies tables →
        IsLikeBy sys tables v w → IsLike outs sys bodies v w
    Through :
        (u v w : World MachineContext) → IsLike outs sys bodies u v → IsLike outs sys bodies v w →
        IsLike outs sys bodies u w
