-- Alike states: what they are to each other, and how they stay alike when a task changes.
use Rattle.std.proofs.Common.{◌≡◌, ℕ, zero, suc, List, [], ◌∷◌, Option, Bool, false, refl, sym, ◌∙◌, ap, nat_eq}
use Rattle.std.proofs.Common.{slice_set, subst}
use Rattle.std.proofs.lemmas.Bool.{ne_eqb, eqb-false}
use Rattle.std.proofs.lemmas.List.Elements.{filter_agree}
use Rattle.fmp_base.specs.declared.states.TaskBlock.{TaskBlock}
use Rattle.fmp_base.specs.States.{KernelState, task_at, with_task, with_last, with_removed}
use Rattle.fmp_base.specs.Systems.{SystemTables}
use Rattle.fmp_bisimulation.specs.Alike.{SameBlock, AlikeStates, Place, stands_at, untimed}
use Rattle.fmp_bisimulation.proofs.OrderLaws.{same-without, same-to_end}
use Rattle.fmp_bisimulation.proofs.TimeLaws.{blocks-at, blocks-set, blocks-refl, blocks-sym, blocks-chained, times-refl}
use Rattle.fmp_bisimulation.proofs.TimeLaws.{times-sym, times-chained}

pub alike-refl : (sys : SystemTables) (s : KernelState) → AlikeStates sys s s
alike-refl sys s =
    record {
      tasks = blocks-refl s.clock s.tasks;
      order = λ c. refl;
      due_times = times-refl s.clock s.due_times;
      rest = refl;
    }

pub alike-sym : (sys : SystemTables) (s u : KernelState) → AlikeStates sys s u → AlikeStates sys u s
alike-sym sys s u h =
    record {
      tasks = blocks-sym s.clock u.clock s.tasks u.tasks h.tasks;
      order = λ c. sym (h.order c);
      due_times = times-sym s.clock u.clock s.due_times u.due_times h.due_times;
      rest = sym h.rest;
    }

pub alike-chained : (sys : SystemTables) (s u v : KernelState) → AlikeStates sys s u → AlikeStates sys u v
    → AlikeStates sys s v
alike-chained sys s u v h k =
    record {
      tasks = blocks-chained s.clock u.clock v.clock s.tasks u.tasks v.tasks h.tasks k.tasks;
      order = λ c. h.order c ∙ k.order c;
      due_times = times-chained s.clock u.clock v.clock s.due_times u.due_times v.due_times h.due_times k.due_times;
      rest = h.rest ∙ k.rest;
    }

others-set : (xs : List TaskBlock) (t u : ℕ) (x : TaskBlock) → nat_eq u t ≡ false → task_at xs u
    ≡ task_at (slice_set xs t x) u
others-set [] t u x h = refl
others-set (v ∷ vs) zero zero x h = cc
others-set (v ∷ vs) zero (suc u) x h = refl
others-set (v ∷ vs) (suc t) zero x h = refl
others-set (v ∷ vs) (suc t) (suc u) x h = others-set vs t u x (ne_eqb u t
    (λ e. eqb-false (suc u) (suc t) h (ap (λ (n : ℕ). suc n) e)))

pub stands_at-same : (sys : SystemTables) (c : Place) (a b : ℕ) (x y : TaskBlock) → SameBlock a b x y
    → stands_at sys c x ≡ stands_at sys c y
stands_at-same sys c a b x y h = by_place c where
  by_place : (c : Place) → stands_at sys c x ≡ stands_at sys c y
  by_place (Place.ReadyAt p priority) = ap (λ (z : TaskBlock). stands_at sys (Place.ReadyAt p priority) z) h.rest
  by_place (Place.WaitsAt q priority) = ap (λ (z : TaskBlock). stands_at sys (Place.WaitsAt q priority) z) h.rest

-- task t becomes x and goes to the end
pub alike-with_last : (sys : SystemTables) (s u : KernelState) (t : ℕ) (x y : TaskBlock) → AlikeStates sys s u
    → SameBlock s.clock u.clock x y → AlikeStates sys (with_last s t x) (with_last u t y)
alike-with_last sys s u t x y h k =
    let set = blocks-set s.clock u.clock s.tasks u.tasks h.tasks t x y k in
    record {
      tasks = set;
      order = λ c. same-to_end t _ _ _ _
          (λ v e. ap (λ (z : TaskBlock). stands_at sys c z) (others-set s.tasks t v x e))
          (λ v e. ap (λ (z : TaskBlock). stands_at sys c z) (others-set u.tasks t v y e))
          (stands_at-same sys c s.clock u.clock _ _ (blocks-at s.clock u.clock _ _ set t)) s.order u.order (h.order c);
      due_times = h.due_times;
      rest = h.rest;
    }

-- task t becomes x and leaves the order
pub alike-with_removed : (sys : SystemTables) (s u : KernelState) (t : ℕ) (x y : TaskBlock) → AlikeStates sys s u
    → SameBlock s.clock u.clock x y → AlikeStates sys (with_removed s t x) (with_removed u t y)
alike-with_removed sys s u t x y h k =
    record {
      tasks = blocks-set s.clock u.clock s.tasks u.tasks h.tasks t x y k;
      order = λ c. same-without t _ _ _ _
          (λ v e. ap (λ (z : TaskBlock). stands_at sys c z) (others-set s.tasks t v x e))
          (λ v e. ap (λ (z : TaskBlock). stands_at sys c z) (others-set u.tasks t v y e)) s.order u.order (h.order c);
      due_times = h.due_times;
      rest = h.rest;
    }

-- a block that becomes y stands where it stood
abbrev pub Stays : SystemTables → (x y : TaskBlock) → Type 0
Stays sys x y = (c : Place) → stands_at sys c x ≡ stands_at sys c y

-- a task that becomes x: a test that x answers as the task did is answered by all tasks as before
stays-set : (f : TaskBlock → Bool) (tasks : List TaskBlock) (t : ℕ) (x : TaskBlock) → f (task_at tasks t) ≡ f x
    → (v : ℕ) → f (task_at (slice_set tasks t x) v) ≡ f (task_at tasks v)
stays-set f [] t x h v = refl
stays-set f (b ∷ bs) zero x h zero = sym h
stays-set f (b ∷ bs) zero x h (suc v) = refl
stays-set f (b ∷ bs) (suc t) x h zero = refl
stays-set f (b ∷ bs) (suc t) x h (suc v) = stays-set f bs t x h v

-- task t becomes x in its place
pub alike-with_task : (sys : SystemTables) (s u : KernelState) (t : ℕ) (x y : TaskBlock) → AlikeStates sys s u
    → SameBlock s.clock u.clock x y → Stays sys (task_at s.tasks t) x
    → AlikeStates sys (with_task s t x) (with_task u t y)
alike-with_task sys s u t x y h k a =
    let same = blocks-at s.clock u.clock s.tasks u.tasks h.tasks t in
    record {
      tasks = blocks-set s.clock u.clock s.tasks u.tasks h.tasks t x y k;
      order = λ c. filter_agree _ _ (stays-set (λ z. stands_at sys c z) s.tasks t x (a c)) s.order ∙ h.order c
          ∙ sym (filter_agree _ _ (stays-set (λ z. stands_at sys c z) u.tasks t y
          (sym (stands_at-same sys c s.clock u.clock _ _ same) ∙ a c ∙ stands_at-same sys c s.clock u.clock x y k))
          u.order);
      due_times = h.due_times;
      rest = h.rest;
    }

-- what one state has of its own among those that are alike to it
pub record View : Type 0 where
  pub tasks : List TaskBlock
  pub order : List ℕ
  pub due_times : List (Option ℕ)
  pub clock : ℕ

abbrev pub seen : KernelState → View → KernelState
seen s v = record s { tasks = v.tasks; order = v.order; due_times = v.due_times; clock = v.clock }

abbrev pub view_of : KernelState → View
view_of u = record { tasks = u.tasks; order = u.order; due_times = u.due_times; clock = u.clock }

-- what is shown of each state that is alike to s, with nothing else of its own, holds of each that is alike to s
pub by_view : (Q : KernelState → Type 0) (sys : SystemTables) (s u : KernelState) → AlikeStates sys s u
    → ((v : View) → AlikeStates sys s (seen s v) → Q (seen s v)) → Q u
by_view Q sys s u h q =
    let e : seen s (view_of u) ≡ u = ap (λ (z : KernelState). seen z (view_of u)) h.rest in
    subst Q e (q (view_of u) (subst (λ (z : KernelState). AlikeStates sys s z) (sym e) h))

-- what changes only parts that are the same in alike states leaves them alike
pub alike-changed : (sys : SystemTables) (f : KernelState → KernelState)
    → ((z : KernelState) → view_of (f z) ≡ view_of z)
    → ((z : KernelState) → untimed (f z) ≡ f (untimed z)) → (s u : KernelState) → AlikeStates sys s u
    → AlikeStates sys (f s) (f u)
alike-changed sys f keeps untimes s u h =
    let moved : AlikeStates sys (seen (f s) (view_of s)) (seen (f u) (view_of u)) =
    record {
      tasks = h.tasks;
      order = λ c. h.order c;
      due_times = h.due_times;
      rest = untimes s ∙ ap (λ (z : KernelState). f z) h.rest ∙ sym (untimes u);
    } in
    subst (λ (b : View). AlikeStates sys (f s) (seen (f u) b)) (sym (keeps u))
    (subst (λ (a : View). AlikeStates sys (seen (f s) a) (seen (f u) (view_of u))) (sym (keeps s)) moved)
