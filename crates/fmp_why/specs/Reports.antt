-- What is said of the tasks that wait and spin.
use Rattle.std.specs.Prelude.{ℕ, ◌+◌, zero, suc, List, [], ◌∷◌, ◌++◌, Option, Some, None, Bool, false, ◌&&◌, ◌||◌, not}
use Rattle.std.specs.Prelude.{if◌then◌else◌, codes, decimal, is_some, length, nat_eq, slice_get, zip}
use Rattle.std.specs.List.{list_all, list_any}
use Rattle.fmp_base.specs.declared.catalogue.ObjectKind.{ObjectKind}
use Rattle.fmp_base.specs.declared.catalogue.ObjectKind.TheVariants as kind
use Rattle.fmp_base.specs.declared.states.Lock.{Lock}
use Rattle.fmp_base.specs.declared.states.Lock.TheVariants as lock
use Rattle.fmp_base.specs.declared.states.Phase.{Phase}
use Rattle.fmp_base.specs.declared.states.Phase.TheVariants as phase
use Rattle.fmp_base.specs.declared.states.Processor.{Processor}
use Rattle.fmp_base.specs.declared.states.TaskBlock.{TaskBlock}
use Rattle.fmp_base.specs.declared.states.WaitCause.{WaitCause}
use Rattle.fmp_base.specs.Systems.{SystemTables, tables_of}
use Rattle.fmp_base.specs.Texts.{caller_name, task_name}
use Rattle.fmp_named.specs.States.{object_text, wait_text}
use Rattle.fmp_why.specs.declared.history.ObjectDeed.{ObjectDeed}
use Rattle.fmp_why.specs.declared.obstacles.SpinWait.{SpinWait}
use Rattle.fmp_why.specs.declared.report.Scene as declared
use Rattle.fmp_why.specs.declared.verdicts.SystemVerdict.{SystemVerdict}
use Rattle.fmp_why.specs.declared.verdicts.SystemVerdict.TheVariants as verdict
use Rattle.fmp_why.specs.Cycles.{cycle_tasks}
use Rattle.fmp_why.specs.HistoryTables.{Tables, holders_in, since_in, tables, trail_in}
use Rattle.fmp_why.specs.Obstacles.{blocker_of, spin_of}
use Rattle.fmp_why.specs.Verdicts.{is_spin, verdict_of}
use Rattle.fmp_why.specs.Waits.{deed_for, deed_words, object_of}

-- a state, and what was told before it
pub record Sight : Type 0 where
  pub sys : SystemTables
  pub history : Tables
  pub blocks : List TaskBlock
  pub processors : List Processor
  -- what the actor of each processor spins for
  pub spins : List (Option SpinWait)
  -- the next stretch on each processor reaches the bound
  pub over : List Bool

abbrev pub sight_of : declared.Scene → Sight
sight_of x =
    record {
      sys = tables_of x.sys.now;
      history = tables x.history.now;
      blocks = x.blocks.now;
      processors = x.processors.now;
      spins = x.spins.now;
      over = x.over.now;
    }

-- who took the object of a kind at a place last
abbrev pub taken_of : Sight → ObjectKind → (i : ℕ) → Option ObjectDeed
taken_of x k i = (trail_in x.history k i).taken

-- what was done to an object last, between these words, if something was
abbrev pub deed_text : SystemTables → (front back : List ℕ) → Option ObjectDeed → List ℕ
deed_text sys front back None = []
deed_text sys front back (Some d) =
    front ++ (caller_name sys d.actor ++ (codes " at event " ++ (decimal d.event ++ back)))

-- who took the object of a kind at a place last, between these words, if somebody did
unfoldable pub taken_text : Sight → (front back : List ℕ) → ObjectKind → (i : ℕ) → List ℕ
taken_text x front back k i = deed_text x.sys front back (taken_of x k i)

-- who acted last on the object of a wait, if it is for one
abbrev pub acted_text : Sight → WaitCause → Option (ObjectKind × ℕ) → List ℕ
acted_text x c None = []
acted_text x c (Some o) = deed_text x.sys (deed_words c) [] (deed_for c (trail_in x.history o.0 o.1))

-- since which event task t stands where it does
abbrev pub since_text : Sight → (t : ℕ) → List ℕ
since_text x t = codes ", since event " ++ decimal (since_in x.history t)

-- task t, of this block, waits for this
abbrev pub waiting_line : Sight → (t : ℕ) → TaskBlock → WaitCause → List ℕ
waiting_line x t b c =
    task_name x.sys t
    ++ (codes " waits "
    ++ (wait_text x.sys b.phase b.deadline ++ (since_text x t ++ (acted_text x c (object_of c) ++ 10 ∷ []))))

abbrev pub suspended_line : Sight → (t : ℕ) → List ℕ
suspended_line x t = task_name x.sys t ++ codes " is suspended\n"

-- task t does this for the object of a kind at a place
unfoldable pub doing_text : Sight → (t : ℕ) → (does : List ℕ) → ObjectKind → (i : ℕ) → List ℕ
doing_text x t does k i = task_name x.sys t ++ (does ++ object_text x.sys k i)

-- task t spins for this
abbrev pub spin_line : Sight → (t : ℕ) → SpinWait → List ℕ
spin_line x t s =
    doing_text x t (codes " spins for ") kind.SpinLock s.lock
    ++ (since_text x t ++ (taken_text x (codes "; taken by ") [] kind.SpinLock s.lock ++ 10 ∷ []))

abbrev pub spinning_line : Sight → (t : ℕ) → Option SpinWait → List ℕ
spinning_line x t None = []
spinning_line x t (Some s) = spin_line x t s

-- what holds up a task that does not wait: it is suspended, or spins
abbrev pub ready_line : Sight → (t : ℕ) → TaskBlock → List ℕ
ready_line x t b = if b.suspended then suspended_line x t else spinning_line x t (spin_of x.processors x.spins t)

-- what holds up task t, which is in this phase, if anything does
abbrev pub held_up_line : Sight → (t : ℕ) → TaskBlock → Phase → List ℕ
held_up_line x t b (phase.Waiting c) = waiting_line x t b c
held_up_line x t b phase.Dormant = ready_line x t b
held_up_line x t b phase.Ready = ready_line x t b

-- the same of the tasks from t on
abbrev pub held_up_lines : Sight → (t : ℕ) → List TaskBlock → List ℕ
held_up_lines x t [] = []
held_up_lines x t (b ∷ bs) = held_up_line x t b b.phase ++ held_up_lines x (t + 1) bs

-- what the processor at place p holds is spun for
abbrev pub is_held_by : (p : ℕ) → Option SpinWait → Bool
is_held_by p None = false
is_held_by p (Some s) = nat_eq s.holder p

abbrev pub is_spun_for : Sight → (p : ℕ) → Bool
is_spun_for x p = list_any (is_held_by p) x.spins

-- the task that a processor runs holds a spin lock
abbrev pub holder_line : Sight → (run : Option ℕ) → Lock → List ℕ
holder_line x (Some t) (lock.Spin l) =
    task_name x.sys t
    ++ (codes " holds "
    ++ (object_text x.sys kind.SpinLock l ++ codes ", and comes to no call within the bound\n"))
holder_line x _ _ = []

-- the task on the processor at place p holds a spin lock for which others spin, and comes to no call
abbrev pub holder_at : Sight → (p : ℕ) → Processor → (over : Bool) → List ℕ
holder_at x p cpu o = if o && is_spun_for x p then holder_line x cpu.run cpu.lock else []

-- the same of the processors from p on
abbrev pub holder_lines : Sight → (p : ℕ) → List Processor → (over : List Bool) → List ℕ
holder_lines x p [] over = []
holder_lines x p (cpu ∷ cpus) [] = []
holder_lines x p (cpu ∷ cpus) (o ∷ os) = holder_at x p cpu o ++ holder_lines x (p + 1) cpus os

-- the task that each of the tasks from t on waits for, by the holders of the semaphores
abbrev pub blockers_from : Sight → (holders : List (Option ℕ)) → (t : ℕ) → List TaskBlock → List (Option ℕ)
blockers_from x holders t [] = []
blockers_from x holders t (b ∷ bs) =
    blocker_of holders x.processors b (spin_of x.processors x.spins t) ∷ blockers_from x holders (t + 1) bs

abbrev pub blockers : Sight → List (Option ℕ)
blockers x = blockers_from x (holders_in x.sys.semaphores x.history.semaphores) 0 x.blocks

-- what task t does, for which object, and who took that when
abbrev pub link : Sight → (t : ℕ) → (does : List ℕ) → ObjectKind → ℕ → List ℕ
link x t does k i = doing_text x t does k i ++ taken_text x (codes " (taken by ") (codes ")") k i

-- the object that a task in this phase waits for, if it waits for one
abbrev pub waited_for : Phase → Option (ObjectKind × ℕ)
waited_for (phase.Waiting c) = object_of c
waited_for phase.Dormant = None
waited_for phase.Ready = None

abbrev pub link_by : Sight → (t : ℕ) → (waited : Option (ObjectKind × ℕ)) → (spun : Option SpinWait) → List ℕ
link_by x t (Some o) spun = link x t (codes " waits for ") o.0 o.1
link_by x t None (Some s) = link x t (codes " spins for ") kind.SpinLock s.lock
link_by x t None None = []

abbrev pub link_of : Sight → (t : ℕ) → Option TaskBlock → List ℕ
link_of x t None = []
link_of x t (Some b) = link_by x t (waited_for b.phase) (spin_of x.processors x.spins t)

-- a task on a cycle: what it waits or spins for
abbrev pub link_text : Sight → (t : ℕ) → List ℕ
link_text x t = link_of x t (slice_get x.blocks t)

abbrev pub more_links : Sight → List ℕ → List ℕ
more_links x [] = []
more_links x (t ∷ ts) = codes ", " ++ (link_text x t ++ more_links x ts)

-- the tasks of a cycle, with commas between
abbrev pub links : Sight → List ℕ → List ℕ
links x [] = []
links x (t ∷ ts) = link_text x t ++ more_links x ts

-- a processor does nothing: it runs nothing, or its actor spins
abbrev pub stands : Processor × Option SpinWait → Bool
stands p = is_spin p.1 || (not (is_some p.0.run) && not (is_some p.0.handler))

abbrev pub has_no_limit : TaskBlock → Bool
has_no_limit b = not (is_some b.deadline)

-- no processor goes on, no wait has a limit, and no cyclic handler is there
abbrev pub is_quiet : Sight → Bool
is_quiet x =
    list_all stands (zip x.processors x.spins) && (list_all has_no_limit x.blocks && nat_eq (length x.sys.cyclics) 0)

-- what is left that may end the waits of tasks, where all is quiet
abbrev pub left_text : (interrupts : ℕ) → List ℕ
left_text zero = codes "nothing is left that ends these waits\n"
left_text (suc n) = codes "nothing but an interrupt is left that may end these waits\n"

-- what tasks that wait for one another are in: where anything may still be done, somebody else may signal
abbrev pub deadlock_text : (quiet : Bool) → (interrupts : ℕ) → List ℕ
deadlock_text quiet interrupts =
    if quiet && nat_eq interrupts 0
    then codes ": deadlock\n"
    else codes ": deadlock, unless another task or a handler signals\n"

-- how tasks stand, of which each waits for the one that `blockers` has
abbrev pub verdict_text : Sight → (blockers : List (Option ℕ)) → SystemVerdict → List ℕ
verdict_text x bs verdict.Ended = codes "every task has ended\n"
verdict_text x bs (verdict.Deadlock t) =
    links x (cycle_tasks bs t (length bs) (Some t)) ++ deadlock_text (is_quiet x) (length x.sys.interrupts)
verdict_text x bs verdict.HeldUp = if is_quiet x then left_text (length x.sys.interrupts) else []
verdict_text x bs verdict.Free = codes "no task waits or spins\n"

-- what each task waits or spins for, which tasks hold what is spun for, and how all stand
abbrev pub report : Sight → List ℕ
report x =
    held_up_lines x 0 x.blocks
    ++ (holder_lines x 0 x.processors x.over ++ verdict_text x (blockers x) (verdict_of x.blocks x.spins (blockers x)))
