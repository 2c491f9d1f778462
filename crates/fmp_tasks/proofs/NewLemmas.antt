-- The tables of a system in which no task has started are sound.
use Rattle.std.proofs.Common.{◌≡◌, ℕ, zero, suc, ◌+◌, ◌*◌, ◌≤◌, ◌^◌, List, [], ◌∷◌, length, Option, None, false, refl}
use Rattle.std.proofs.Common.{ap, ◌∙◌, sym, replicate, map, arith}
use Rattle.std.specs.List.{AllByRecursion}
use Rattle.fmp_base.specs.declared.states.TaskBlock.{TaskBlock}
use Rattle.fmp_base.specs.declared.systems.QueueOrder.{QueueOrder}
use Rattle.fmp_base.specs.declared.systems.QueueOrder.TheVariants.{Fifo, Priority}
use Rattle.fmp_base.specs.declared.systems.TaskConfig.{TaskConfig}
use Rattle.fmp_base.specs.Queues.{arranged, priority_in}
use Rattle.fmp_base.specs.Ranges.{IsInRange, TaskInRange}
use Rattle.fmp_base.specs.Setups.{created}
use Rattle.fmp_base.specs.States.{task_at}
use Rattle.fmp_base.specs.Systems.{SystemTables}
use Rattle.fmp_ready.specs.ReadyLaws.{AreExact-new}
use Rattle.fmp_ring.specs.RingLists.{list_at}
use Rattle.fmp_waitq.specs.WaitLists.{count_of_lists}
use Rattle.fmp_tasks.specs.Empties.{no_tasks, no_bits, no_deadlines}
use Rattle.fmp_tasks.specs.Homes.{AllFit, Fits, Kept, is_in_order, home, order_with_head, counts_of, waits_of}
use Rattle.fmp_tasks.specs.Tables.{Sound}

empty-list : (n h : ℕ) → list_at (replicate n []) h ≡ []
empty-list zero h = refl
empty-list (suc n) zero = refl
empty-list (suc n) (suc h) = empty-list n h

nothing : (by : QueueOrder) (f : ℕ → ℕ) → arranged by f [] ≡ []
nothing Fifo f = refl
nothing Priority f = refl

Kept-nothing : (home : TaskBlock → Option ℕ) (by : ℕ → QueueOrder) (tasks : List TaskBlock) (n : ℕ)
    → Kept home by tasks [] (replicate n [])
Kept-nothing home by tasks n = record { each = λ h l. empty-list n h ∙ sym (nothing (by h) (priority_in tasks)) }

created-fits : (sys : SystemTables) (c : TaskConfig) → TaskInRange sys.processors c → Fits sys (created c)
created-fits sys c k = record {
  urgent = k.priority.least;
  least = k.priority.most;
  processor = k.processor;
  next_processor = tt;
  queue = tt;
  dormant = refl;
}

all-created : (sys : SystemTables) (cs : List TaskConfig) → AllByRecursion (TaskInRange sys.processors) cs
    → AllFit sys (map created cs)
all-created sys [] h = tt
all-created sys (c ∷ cs) h = (created-fits sys c h.0, all-created sys cs h.1)

none-stands : (cs : List TaskConfig) (t : ℕ) → is_in_order (task_at (map created cs) t) ≡ false
none-stands [] t = refl
none-stands (c ∷ cs) zero = refl
none-stands (c ∷ cs) (suc t) = none-stands cs t

none-due : (cs : List TaskConfig) → replicate (length cs) None ≡ map (λ (x : TaskBlock). x.deadline) (map created cs)
none-due [] = refl
none-due (c ∷ cs) = ap (λ (ds : List (Option ℕ)). None ∷ ds) (none-due cs)

length-map : (cs : List TaskConfig) → length (map created cs) ≡ length cs
length-map [] = refl
length-map (c ∷ cs) = ap (λ n. suc n) (length-map cs)

length-copies : {A : Type 0} (n : ℕ) (x : A) → length (replicate n x) ≡ n
length-copies zero x = refl
length-copies (suc n) x = ap (λ k. suc k) (length-copies n x)

pub Sound-new : (sys : SystemTables) → IsInRange sys
    → Sound sys (map created sys.tasks) [] (no_bits sys) (waits_of sys) (no_tasks sys) (no_deadlines sys)
Sound-new sys f =
    let few : length sys.tasks ≤ 2 ^ 8 = omega (arith, f.tasks.count) in
    record {
      configs = sym (length-map sys.tasks);
      blocks = record { each = all-created sys sys.tasks f.tasks.each };
      distinct = tt;
      standing = record { each = λ t l. sym (none-stands sys.tasks t) };
      processors = length-copies sys.processors 0;
      exact = AreExact-new sys.processors (sys.processors * 16 + count_of_lists (counts_of sys))
          (length sys.tasks) few (omega arith);
      own_waits = refl;
      nodes = sym (length-map sys.tasks);
      heads = length-copies (sys.processors * 16 + count_of_lists (counts_of sys)) [];
      kept = Kept-nothing (home (waits_of sys)) (order_with_head (waits_of sys) sys) (map created sys.tasks)
          (sys.processors * 16 + count_of_lists (counts_of sys));
      deadlines_kept = none-due sys.tasks;
    }
