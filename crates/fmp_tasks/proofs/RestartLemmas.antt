-- What stays where the clock begins again.
use Rattle.std.proofs.Common.{◌≡◌, ℕ, zero, suc, ◌+◌, ◌<◌, ◌≤◌, List, [], ◌∷◌, ◌++◌, length, Option, Some, None, Bool}
use Rattle.std.proofs.Common.{true, false, refl, ap, ◌∙◌, sym, arith, drop, get_or, map, set, take, if◌then◌else◌}
use Rattle.std.specs.Prelude.{IfSome, slice_get}
use Rattle.std.specs.List.{filter}
use Rattle.std.proofs.lemmas.List.{length-map, map_more, take_more_set}
use Rattle.std.proofs.lemmas.List.Edits.{map_over_more}
use Rattle.std.proofs.Math.Path.{fun_ext}
use Rattle.fmp_base.specs.declared.states.TaskBlock.{TaskBlock}
use Rattle.fmp_base.specs.declared.systems.CyclicConfig.{CyclicConfig}
use Rattle.fmp_base.specs.declared.systems.QueueOrder.{QueueOrder}
use Rattle.fmp_base.specs.Queues.{arranged, priority_in}
use Rattle.fmp_base.specs.Setups.{first_due}
use Rattle.fmp_base.specs.States.{task_at}
use Rattle.fmp_base.specs.Systems.{SystemTables, found}
use Rattle.fmp_ring.specs.RingLists.{RingLists}
use Rattle.fmp_ticks.specs.Times.{NoneBefore}
use Rattle.fmp_waitq.specs.declared.queues.WaitQueues.{WaitQueues}
use Rattle.fmp_tasks.specs.Homes.{AllFit, is_at, is_in_order, home, order_with_head, queue_at_home}
use Rattle.fmp_tasks.specs.Restarts.{with_time_left, time_left}
use Rattle.fmp_tasks.specs.Tables.{Sound}

same-read : {A : Type 0} (xs : List A) (i : ℕ) (d : A) → get_or xs i d ≡ get_or xs i (get_or xs i d)
same-read [] i d = refl
same-read (x ∷ xs) zero d = refl
same-read (x ∷ xs) (suc i) d = same-read xs i d

-- one more task has the time that is left
pub block_more : (now : ℕ) (xs ys : List TaskBlock) (t : ℕ) (d : TaskBlock) (o : Option ℕ) → t < length xs
    → ys ≡ map (with_time_left now) (take t xs) ++ drop t xs → o ≡ time_left now (get_or ys t d).deadline
    → set ys t (record (get_or ys t d) { deadline = o }) ≡ map (with_time_left now) (take (t + 1) xs) ++ drop (t + 1) xs
block_more now xs ys t d o l e same =
    rw same (map_over_more (with_time_left now) xs ys t (get_or ys t d) l e (same-read ys t d))

found-read : (xs : List (Option ℕ)) (i : ℕ) (x : Option ℕ) → x ≡ found None (slice_get xs i) → x ≡ get_or xs i x
found-read [] i x e = refl
found-read (y ∷ ys) zero x e = e
found-read (y ∷ ys) (suc i) x e = found-read ys i x e

-- so has one more cyclic handler
pub due_more : (now : ℕ) (xs ys : List (Option ℕ)) (c : ℕ) (x : Option ℕ) → c < length xs
    → ys ≡ map (time_left now) (take c xs) ++ drop c xs → x ≡ found None (slice_get ys c)
    → set ys c (time_left now x) ≡ map (time_left now) (take (c + 1) xs) ++ drop (c + 1) xs
due_more now xs ys c x l e read = map_over_more (time_left now) xs ys c x l e (found-read ys c x read)

-- one more deadline is the task's
pub deadline_more : (times : List (Option ℕ)) (xs : List TaskBlock) (t : ℕ) (d : TaskBlock) → t < length xs
    → length times ≡ length xs → take t times ≡ map (λ x. x.deadline) (take t xs)
    → take (t + 1) (set times t (get_or xs t d).deadline) ≡ map (λ x. x.deadline) (take (t + 1) xs)
deadline_more times xs t d l long e =
    take_more_set times t (get_or xs t d).deadline (omega arith)
    ∙ ap (λ (ts : List (Option ℕ)). ts ++ (get_or xs t d).deadline ∷ []) e
    ∙ sym (map_more (λ (x : TaskBlock). x.deadline) xs t d l)

first_later : (b : Bool) (n : ℕ) → IfSome (if b then Some (n + 1) else None) (λ w. 1 ≤ w)
first_later true n = omega arith
first_later false n = tt

-- at first the due times lie after the clock
pub due_times_new : (cs : List CyclicConfig) → NoneBefore 1 (map first_due cs)
due_times_new cs = λ t. later cs t where
  later : (cs : List CyclicConfig) (t : ℕ) → IfSome (get_or (map first_due cs) t None) (λ w. 1 ≤ w)
  later [] t = tt
  later (c ∷ cs) zero = first_later c.started c.phase
  later (c ∷ cs) (suc t) = later cs t

left_later : (now : ℕ) (o : Option ℕ) → IfSome o (λ w. now + 1 ≤ w) → IfSome (time_left now o) (λ w. 1 ≤ w)
left_later now None h = tt
left_later now (Some w) h = omega arith

-- what lay after the clock lies after it when it is 0
pub times_later : (now : ℕ) (times : List (Option ℕ)) → NoneBefore (now + 1) times
    → NoneBefore 1 (map (time_left now) times)
times_later now times h = λ t. later times t (λ u. h u) where
  later : (times : List (Option ℕ)) (t : ℕ) → ((u : ℕ) → IfSome (get_or times u None) (λ w. now + 1 ≤ w))
      → IfSome (get_or (map (time_left now) times) t None) (λ w. 1 ≤ w)
  later [] t h = tt
  later (o ∷ times) zero h = left_later now o (h 0)
  later (o ∷ times) (suc t) h = later times t (λ u. h (suc u))

pub deadlines_left : (now : ℕ) (tasks : List TaskBlock)
    → map (λ x. x.deadline) (map (with_time_left now) tasks) ≡ map (time_left now) (map (λ x. x.deadline) tasks)
deadlines_left now [] = refl
deadlines_left now (x ∷ tasks) =
    ap (λ (ts : List (Option ℕ)). time_left now x.deadline ∷ ts) (deadlines_left now tasks)

pub task_from : (now : ℕ) (tasks : List TaskBlock) (t : ℕ)
    → task_at (map (with_time_left now) tasks) t ≡ with_time_left now (task_at tasks t)
task_from now [] t = refl
task_from now (x ∷ tasks) zero = refl
task_from now (x ∷ tasks) (suc t) = task_from now tasks t

all_fit : (sys : SystemTables) (now : ℕ) (tasks : List TaskBlock) → AllFit sys tasks
    → AllFit sys (map (with_time_left now) tasks)
all_fit sys now [] h = tt
all_fit sys now (x ∷ tasks) h =
    let f = h.0 in (
      record {
        urgent = f.urgent;
        least = f.least;
        processor = f.processor;
        next_processor = f.next_processor;
        queue = f.queue;
        dormant = f.dormant;
      },
      all_fit sys now tasks h.1,
    )

-- each queue keeps its tasks
same_queue : (w : WaitQueues) (by : ℕ → QueueOrder) (now : ℕ) (tasks : List TaskBlock) (order : List ℕ) (h : ℕ)
    → queue_at_home (home w) by tasks order h ≡ queue_at_home (home w) by (map (with_time_left now) tasks) order h
same_queue w by now tasks order h =
    let left = map (with_time_left now) tasks in
    let by_priority : priority_in tasks ≡ priority_in left =
    fun_ext (λ u. ap (λ (x : TaskBlock). x.priority) (sym (task_from now tasks u))) in
    let stands : (λ u. is_at h (home w (task_at tasks u))) ≡ (λ u. is_at h (home w (task_at left u))) =
    fun_ext (λ u. ap (λ (x : TaskBlock). is_at h (home w x)) (sym (task_from now tasks u))) in
    ap (λ (f : ℕ → ℕ). arranged (by h) f (filter (λ u. is_at h (home w (task_at tasks u))) order)) by_priority
    ∙ ap (λ (f : ℕ → Bool). arranged (by h) (priority_in left) (filter f order)) stands

pub Sound-restarted : (sys : SystemTables) (tasks : List TaskBlock) (order ready : List ℕ) (waits : WaitQueues)
    (rings : RingLists) (deadlines : List (Option ℕ)) (now : ℕ) → Sound sys tasks order ready waits rings deadlines
    → Sound sys (map (with_time_left now) tasks) order ready waits rings
    (map (λ x. x.deadline) (map (with_time_left now) tasks))
Sound-restarted sys tasks order ready waits rings deadlines now k =
    let long : length (map (with_time_left now) tasks) ≡ length tasks = length-map tasks (with_time_left now) in
    record {
      configs = k.configs ∙ sym long;
      blocks = record { each = all_fit sys now tasks k.blocks.each };
      distinct = rw long k.distinct;
      standing = record {
        each = λ t l. k.standing.each t (rw long at l) ∙ sym (ap is_in_order (task_from now tasks t));
      };
      processors = k.processors;
      exact = k.exact;
      own_waits = k.own_waits;
      nodes = k.nodes ∙ sym long;
      heads = k.heads;
      kept = record {
        each = λ h l. k.kept.each h l ∙ same_queue waits (order_with_head waits sys) now tasks order h;
      };
      deadlines_kept = refl;
    }
