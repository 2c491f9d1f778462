-- To release the first task that is due, again and again, is to release in order of number all that are due.
use Rattle.std.proofs.Common.{◌≡◌, ℕ, zero, suc, ◌+◌, ◌<◌, ◌≤◌, List, [], ◌∷◌, Some, None, Bool, true, false, nat_eq}
use Rattle.std.proofs.Common.{nat_lt, length, map, slice_set, refl, sym, subst, ap, ◌∙◌, arith, add-zero, if◌then◌else◌}
use Rattle.std.proofs.lemmas.Bool.{eqb-true}
use Rattle.std.proofs.lemmas.Bool.Decides.{nat_tests}
use Rattle.fmp_base.specs.declared.states.Phase.TheVariants.{Ready}
use Rattle.fmp_base.specs.declared.states.TaskBlock.{TaskBlock}
use Rattle.fmp_base.specs.Changes.{released, released_state}
use Rattle.fmp_base.specs.Outcomes.{code}
use Rattle.fmp_base.specs.States.{KernelState, Progress, task_at, places_from}
use Rattle.fmp_base.specs.Ticks.{is_due, timed_out, all_timed_out, timeout_code, with_clock_advanced}
use Rattle.fmp_base.specs.declared.calls.Reply.{Reply}
use Rattle.fmp_kernel.specs.NextTicks.{at_tick}
use Rattle.fmp_ticks.specs.Times.{first_due, first_due_from}

-- whether task t is due
abbrev pub due_at : ℕ → List TaskBlock → ℕ → Bool
due_at now tasks t = is_due now (task_at tasks t).deadline

-- task t is the first that is due
pub record IsFirstDue (now : ℕ) (tasks : List TaskBlock) (t : ℕ) : Type 0 where
  pub there : t < length tasks
  pub due : due_at now tasks t ≡ true
  pub before : (u : ℕ) → u < t → due_at now tasks u ≡ false

none_due_from : (now i : ℕ) (tasks : List TaskBlock) → first_due_from now i (map (λ x. x.deadline) tasks) ≡ None
    → (t : ℕ) → due_at now tasks t ≡ false
none_due_from now i [] h t = refl
none_due_from now i (x ∷ tasks) h t = by_test (is_due now x.deadline) refl h t (none_due_from now (i + 1) tasks) where
  by_test : (b : Bool) → is_due now x.deadline ≡ b
      → (if b then Some i else first_due_from now (i + 1) (map (λ x. x.deadline) tasks)) ≡ None → (t : ℕ)
      → (first_due_from now (i + 1) (map (λ x. x.deadline) tasks) ≡ None → (t : ℕ) → due_at now tasks t ≡ false)
      → due_at now (x ∷ tasks) t ≡ false
  by_test true e k t rest = cc
  by_test false e k zero rest = e
  by_test false e k (suc t) rest = rest k t

pub none_due : (now : ℕ) (tasks : List TaskBlock) → first_due now (map (λ x. x.deadline) tasks) ≡ None
    → (t : ℕ) → due_at now tasks t ≡ false
none_due now tasks h t = none_due_from now 0 tasks h t

record Found (now i t : ℕ) (tasks : List TaskBlock) : Type 0 where
  place : ℕ
  is : t ≡ i + place
  first : IsFirstDue now tasks place

first_due-found : (now i t : ℕ) (tasks : List TaskBlock)
    → first_due_from now i (map (λ x. x.deadline) tasks) ≡ Some t → Found now i t tasks
first_due-found now i t [] h = cc
first_due-found now i t (x ∷ tasks) h =
    by_test (is_due now x.deadline) refl h (first_due-found now (i + 1) t tasks) where
      by_test : (b : Bool) → is_due now x.deadline ≡ b
          → (if b then Some i else first_due_from now (i + 1) (map (λ x. x.deadline) tasks)) ≡ Some t
          → (first_due_from now (i + 1) (map (λ x. x.deadline) tasks) ≡ Some t → Found now (i + 1) t tasks)
          → Found now i t (x ∷ tasks)
      by_test true e k rest =
          record {
            place = 0;
            is = let q : i ≡ t = cc in rw q (sym (add-zero t));
            first = record { there = omega arith; due = e; before = λ u l. absurd (omega (arith, l)) };
          }
      by_test false e k rest =
          let r = rest k in
          record {
            place = suc r.place;
            is = omega (arith, r.is);
            first = record { there = omega (arith, r.first.there); due = r.first.due; before = before r.first.before };
          } where
            before : {place : ℕ} → ((u : ℕ) → u < place → due_at now tasks u ≡ false) → (u : ℕ) → u < suc place
                → due_at now (x ∷ tasks) u ≡ false
            before h zero l = e
            before h (suc u) l = h u (omega (arith, l))

pub first_is_due : (now t : ℕ) (tasks : List TaskBlock) → first_due now (map (λ x. x.deadline) tasks) ≡ Some t
    → IsFirstDue now tasks t
first_is_due now t tasks h =
    let f = first_due-found now 0 t tasks h in
    let e : f.place ≡ t = omega (arith, f.is) in
    subst (λ u. IsFirstDue now tasks u) e f.first

-- a task that is not due stays
stay : (g : Progress) (t : ℕ) → due_at g.state.clock g.state.tasks t ≡ false
    → timed_out g t (task_at g.state.tasks t) ≡ g
stay g t h = rw h refl

-- where none of these tasks is due, nothing happens
pub stay_all : (g : Progress) (k m : ℕ) → ((t : ℕ) → due_at g.state.clock g.state.tasks t ≡ false)
    → all_timed_out g (places_from k m) ≡ g
stay_all g k zero h = refl
stay_all g k (suc m) h =
    ap (λ (x : Progress). all_timed_out x (places_from (k + 1) m)) (stay g k (h k)) ∙ stay_all g (k + 1) m h

-- the walk from place k goes on alike from g and from h, which is g after the release of its first task that is due
walk_over : (g h : Progress) (t k m : ℕ) → k ≤ t → t < k + m
    → ((u : ℕ) → u < t → due_at g.state.clock g.state.tasks u ≡ false)
    → ((u : ℕ) → u < suc t → due_at h.state.clock h.state.tasks u ≡ false)
    → timed_out g t (task_at g.state.tasks t) ≡ h → all_timed_out g (places_from k m)
    ≡ all_timed_out h (places_from k m)
walk_over g h t k zero low high before after step = absurd (omega (arith, low, high))
walk_over g h t k (suc m) low high before after step =
    by_test (nat_eq k t) refl (λ l. walk_over g h t (k + 1) m l (omega (arith, high)) before after step) where
      by_test : (b : Bool) → nat_eq k t ≡ b
          → (k + 1 ≤ t → all_timed_out g (places_from (k + 1) m) ≡ all_timed_out h (places_from (k + 1) m))
          → all_timed_out g (places_from k (suc m)) ≡ all_timed_out h (places_from k (suc m))
      by_test true e rest =
          let same : k ≡ t = eqb-true k t e in
          let one : timed_out g k (task_at g.state.tasks k) ≡ h =
          subst (λ (u : ℕ). timed_out g u (task_at g.state.tasks u) ≡ h) (sym same) step in
          let two : timed_out h k (task_at h.state.tasks k) ≡ h = stay h k (after k (omega (arith, same))) in
          ap (λ (x : Progress). all_timed_out x (places_from (k + 1) m)) (one ∙ sym two)
      by_test false e rest =
          let less : k < t = grind (arith, nat_tests, low, e) in
          let one : timed_out g k (task_at g.state.tasks k) ≡ g = stay g k (before k less) in
          let two : timed_out h k (task_at h.state.tasks k) ≡ h = stay h k (after k (omega (arith, less))) in
          ap (λ (x : Progress). all_timed_out x (places_from (k + 1) m)) one ∙ rest (omega (arith, less))
          ∙ sym (ap (λ (x : Progress). all_timed_out x (places_from (k + 1) m)) two)

task_at-set_same : (tasks : List TaskBlock) (t : ℕ) (y : TaskBlock) → t < length tasks
    → task_at (slice_set tasks t y) t ≡ y
task_at-set_same [] t y l = absurd (omega (arith, l))
task_at-set_same (x ∷ tasks) zero y l = refl
task_at-set_same (x ∷ tasks) (suc t) y l = task_at-set_same tasks t y (omega (arith, l))

task_at-set_other : (tasks : List TaskBlock) (t u : ℕ) (y : TaskBlock) → u < t
    → task_at (slice_set tasks t y) u ≡ task_at tasks u
task_at-set_other [] t u y l = refl
task_at-set_other (x ∷ tasks) zero u y l = absurd (omega (arith, l))
task_at-set_other (x ∷ tasks) (suc t) zero y l = refl
task_at-set_other (x ∷ tasks) (suc t) (suc u) y l = task_at-set_other tasks t u y (omega (arith, l))

-- the first task that is due, released
abbrev pub release_first : Progress → ℕ → Progress
release_first g t = let x = task_at g.state.tasks t in released g t x (code (timeout_code x.phase))

abbrev pub released_block : TaskBlock → TaskBlock
released_block x = record x { phase = Ready; deadline = None }

tasks-released_state : (b : Bool) (s : KernelState) (t : ℕ) (y : TaskBlock)
    → (released_state b s t y).tasks ≡ slice_set s.tasks t y
tasks-released_state true s t y = refl
tasks-released_state false s t y = refl

clock-released_state : (b : Bool) (s : KernelState) (t : ℕ) (y : TaskBlock) → (released_state b s t y).clock ≡ s.clock
clock-released_state true s t y = refl
clock-released_state false s t y = refl

pub record Passed (g : Progress) (k : ℕ) : Type 0 where
  pub each : (u : ℕ) → u < k → due_at g.state.clock g.state.tasks u ≡ false

passed_at : (g : Progress) (t u : ℕ) → IsFirstDue g.state.clock g.state.tasks t → u < suc t
    → due_at g.state.clock (slice_set g.state.tasks t (released_block (task_at g.state.tasks t))) u ≡ false
passed_at g t u f l = by_test (nat_eq u t) refl where
  by_test : (b : Bool) → nat_eq u t ≡ b
      → due_at g.state.clock (slice_set g.state.tasks t (released_block (task_at g.state.tasks t))) u ≡ false
  by_test true e =
      let same : u ≡ t = eqb-true u t e in
      let now : task_at (slice_set g.state.tasks t (released_block (task_at g.state.tasks t))) u
      ≡ released_block (task_at g.state.tasks t) =
      rw same (task_at-set_same g.state.tasks t (released_block (task_at g.state.tasks t)) f.there) in
      ap (λ (x : TaskBlock). is_due g.state.clock x.deadline) now
  by_test false e =
      let less : u < t = grind (arith, nat_tests, l, e) in
      ap (λ (x : TaskBlock). is_due g.state.clock x.deadline) (task_at-set_other g.state.tasks t u
      (released_block (task_at g.state.tasks t)) less) ∙ f.before u less

-- after the release of the first task that is due, none up to that one is
passed-release : (g : Progress) (t : ℕ) → IsFirstDue g.state.clock g.state.tasks t → Passed (release_first g t) (suc t)
passed-release g t f =
    let x = task_at g.state.tasks t in
    let tasks : (release_first g t).state.tasks ≡ slice_set g.state.tasks t
    (released_block x) = tasks-released_state x.suspended g.state t (released_block x) in
    let clock : (release_first g t).state.clock ≡ g.state.clock = clock-released_state x.suspended g.state t
    (released_block x) in
    record {
      each = λ u l. ap (λ (now : ℕ). due_at now (release_first g t).state.tasks u) clock ∙ ap (λ
          (xs : List TaskBlock). due_at g.state.clock xs u) tasks ∙ passed_at g t u f l;
    }

-- the release of the first task that is due changes nothing of what all releases come to
pub timed-release : (g : Progress) (t n : ℕ) → IsFirstDue g.state.clock g.state.tasks t → t < n
    → all_timed_out (release_first g t) (places_from 0 n) ≡ all_timed_out g (places_from 0 n)
timed-release g t n f l =
    sym (walk_over g (release_first g t) t 0 n (omega arith) (omega (arith, l)) f.before (passed-release g t f).each
    (rw f.due refl))

pub late : (g : Progress) (k t : ℕ) → Passed g k → IsFirstDue g.state.clock g.state.tasks t → k ≤ t
late g k t passed f = by_test (nat_lt t k) refl where
  by_test : (b : Bool) → nat_lt t k ≡ b → k ≤ t
  by_test true e =
      let less : t < k = grind (arith, nat_tests, e) in
      let a : due_at g.state.clock g.state.tasks t ≡ false = passed.each t less in
      let b : due_at g.state.clock g.state.tasks t ≡ true = f.due in
      cc
  by_test false e = grind (arith, nat_tests, e)

pub passed-next : (g h : Progress) (t k : ℕ) → Passed g k → IsFirstDue g.state.clock g.state.tasks t
    → h ≡ release_first g t → Passed h (k + 1)
passed-next g h t k passed f e =
    let low : k ≤ t = late g k t passed f in
    let after : Passed (release_first g t) (suc t) = passed-release g t f in
    subst (λ (p : Progress). Passed p (k + 1)) (sym e) (record { each = λ u l. after.each u (omega (arith, l, low)) })

tick-state : (b : Bool) (s : KernelState) (t : ℕ) (y : TaskBlock) → with_clock_advanced (released_state b s t y)
    ≡ released_state b (with_clock_advanced s) t y
tick-state true s t y = refl
tick-state false s t y = refl

-- a release before the tick is one after it
pub tick-released : (g : Progress) (t : ℕ) (x : TaskBlock) (r : Reply) → at_tick (released g t x r)
    ≡ released (at_tick g) t x r
tick-released g t x r =
    ap (λ (s : KernelState). record { state = s; lines = (released g t x r).lines })
    (tick-state x.suspended g.state t (record x { phase = Ready; deadline = None }))
