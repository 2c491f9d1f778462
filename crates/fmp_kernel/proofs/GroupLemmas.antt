-- What tasks and handlers may call.
use Rattle.std.proofs.Common.{◌≡◌, ℕ, Bool, true, false, not, ◌&&◌, ◌||◌, refl, sym, ap, ◌∙◌}
use Rattle.fmp_base.specs.declared.calls.Call.{Call}
use Rattle.fmp_base.specs.declared.codes.Er.TheVariants as er
use Rattle.fmp_base.specs.declared.permissions.Permission.{Permission}
use Rattle.fmp_base.specs.declared.permissions.Permission.TheVariants.{Anywhere, LockedTasks, Tasks, TasksOnOthers}
use Rattle.fmp_base.specs.declared.permissions.Permission.TheVariants.{WaitingTasks, Handlers}
use Rattle.fmp_base.specs.declared.services.Service.{Service}
use Rattle.fmp_base.specs.declared.services.Service.TheVariants as service
use Rattle.fmp_base.specs.declared.states.Caller.TheVariants as caller
use Rattle.fmp_base.specs.declared.states.Handler.{Handler}
use Rattle.fmp_base.specs.declared.states.Processor.{Processor}
use Rattle.fmp_base.specs.Calls.{called, case_by}
use Rattle.fmp_base.specs.Outcomes.{refused_if}
use Rattle.fmp_base.specs.Permissions.{permission, is_barred, is_on_caller}
use Rattle.fmp_base.specs.ProcessorCalls.{is_cpu_locked}
use Rattle.fmp_base.specs.Services.{service_of}
use Rattle.fmp_base.specs.States.{KernelState, processor_at}
use Rattle.fmp_base.specs.Systems.{SystemTables}
use Rattle.fmp_kernel.specs.declared.calls.groups.ServiceGroup.{ServiceGroup}
use Rattle.fmp_kernel.specs.declared.calls.groups.ServiceGroup.TheVariants as group
use Rattle.fmp_kernel.specs.Groups.{IsForHandlers, IsForTasks, group_of}

-- whether handlers may make calls with this permission
abbrev allows_handlers : Permission → Bool
allows_handlers Anywhere = true
allows_handlers Handlers = true
allows_handlers _ = false

-- whether a group is one from which a handler may call
abbrev is_for_handlers : ServiceGroup → Bool
is_for_handlers group.Own = true
is_for_handlers group.Handlers = true
is_for_handlers _ = false

-- handlers may make just the calls of those groups
groups_by_permission : (s : Service) → allows_handlers (permission s) ≡ is_for_handlers (group_of s)
groups_by_permission service.Put = refl
groups_by_permission _ = refl

allowed : (p : Permission) (cpu : Processor) (h : Handler) (c : Call)
    → is_barred p cpu (caller.Handler h) c ≡ false → allows_handlers p ≡ true
allowed Anywhere cpu h c e = refl
allowed LockedTasks cpu h c e = absurd (cc e)
allowed Tasks cpu h c e = absurd (cc e)
allowed TasksOnOthers cpu h c e = absurd (cc e)
allowed WaitingTasks cpu h c e = absurd (cc e)
allowed Handlers cpu h c e = refl

of_handlers : (g : ServiceGroup) → is_for_handlers g ≡ true → IsForHandlers g
of_handlers group.Own e = tt
of_handlers group.Handlers e = tt
of_handlers group.Management e = absurd (cc e)
of_handlers group.Synchronization e = absurd (cc e)
of_handlers group.Objects e = absurd (cc e)
of_handlers group.Queues e = absurd (cc e)
of_handlers group.Processors e = absurd (cc e)

pub handlers_call : (cpu : Processor) (h : Handler) (c : Call)
    → is_barred (permission (service_of c)) cpu (caller.Handler h) c ≡ false → IsForHandlers (group_of (service_of c))
handlers_call cpu h c e =
    let s = service_of c in
    of_handlers (group_of s) (sym (groups_by_permission s) ∙ allowed (permission s) cpu h c e)

-- whether a permission, and a group, is that of the calls for handlers
abbrev is_of_handlers : Permission → Bool
is_of_handlers Handlers = true
is_of_handlers _ = false

abbrev is_handlers : ServiceGroup → Bool
is_handlers group.Handlers = true
is_handlers _ = false

-- the calls of that group are just those with that permission
handlers_by_permission : (s : Service) → is_of_handlers (permission s) ≡ is_handlers (group_of s)
handlers_by_permission service.Put = refl
handlers_by_permission _ = refl

not_of_handlers : (p : Permission) (cpu : Processor) (me : ℕ) (c : Call)
    → is_barred p cpu (caller.Task me) c ≡ false → is_of_handlers p ≡ false
not_of_handlers Handlers cpu me c e = absurd (cc e)
not_of_handlers _ cpu me c e = refl

of_tasks : (g : ServiceGroup) → is_handlers g ≡ false → IsForTasks g
of_tasks group.Handlers e = absurd (cc e)
of_tasks _ e = tt

pub tasks_call : (cpu : Processor) (me : ℕ) (c : Call)
    → is_barred (permission (service_of c)) cpu (caller.Task me) c ≡ false → IsForTasks (group_of (service_of c))
tasks_call cpu me c e =
    let s = service_of c in
    of_tasks (group_of s) (sym (handlers_by_permission s) ∙ not_of_handlers (permission s) cpu me c e)

-- by a task on an open processor just the calls for handlers are refused
open_tasks : (locked disabled own : Bool) → not (locked || disabled) ≡ true
    → (locked ≡ false) × ((locked || (disabled && own)) ≡ false) × ((locked || disabled) ≡ false)
open_tasks true disabled own e = absurd (cc e)
open_tasks false true own e = absurd (cc e)
open_tasks false false own e = (refl, refl, refl)

barred_open : (p : Permission) (cpu : Processor) (me : ℕ) (c : Call)
    → not (is_cpu_locked cpu || cpu.dispatch_disabled) ≡ true
    → is_barred p cpu (caller.Task me) c ≡ is_of_handlers p
barred_open Anywhere cpu me c e = refl
barred_open LockedTasks cpu me c e = refl
barred_open Tasks cpu me c e = (open_tasks (is_cpu_locked cpu) cpu.dispatch_disabled (is_on_caller me c) e).0
barred_open TasksOnOthers cpu me c e =
    (open_tasks (is_cpu_locked cpu) cpu.dispatch_disabled (is_on_caller me c) e).1
barred_open WaitingTasks cpu me c e =
    (open_tasks (is_cpu_locked cpu) cpu.dispatch_disabled (is_on_caller me c) e).2
barred_open Handlers cpu me c e = refl

-- so its other calls are carried out
pub called_open : (sys : SystemTables) (s : KernelState) (p me : ℕ) (c : Call)
    → not (is_cpu_locked (processor_at s p) || (processor_at s p).dispatch_disabled) ≡ true
    → is_of_handlers (permission (service_of c)) ≡ false
    → case_by sys s p (caller.Task me) c ≡ called sys s p (caller.Task me) c
called_open sys s p me c e h =
    sym (ap (λ (b : Bool). refused_if b s er.Ctx (case_by sys s p (caller.Task me) c))
    (barred_open (permission (service_of c)) (processor_at s p) me c e ∙ h))
