-- One step of the walk over the tasks that wait for an eventflag.
use Rattle.std.proofs.Common.{◌≡◌, ℕ, zero, suc, ◌+◌, ◌<◌, ◌≤◌, pos, List, [], ◌∷◌, ◌++◌, Option, Some, Bool, true}
use Rattle.std.proofs.Common.{false, length, length-append, refl, ap, ◌∙◌, sym, subst, arith, append_assoc}
use Rattle.fmp_base.specs.declared.calls.Reply.{Reply}
use Rattle.fmp_base.specs.declared.states.TaskBlock.{TaskBlock}
use Rattle.fmp_base.specs.declared.states.WaitQueue.{WaitQueue}
use Rattle.fmp_base.specs.Changes.{released}
use Rattle.fmp_base.specs.FlagCalls.{is_satisfied, all_cleared, walk}
use Rattle.fmp_base.specs.Outcomes.{given}
use Rattle.fmp_base.specs.Queues.{first_of, wait_queue}
use Rattle.fmp_base.specs.States.{Progress, task_at, without}
use Rattle.fmp_base.specs.Systems.{SystemTables}
use Rattle.fmp_ring.specs.OrderLaws.{IsOrder-length}
use Rattle.fmp_ring.specs.Orders.{IsOrder}
use Rattle.fmp_ring.specs.RingLists.{is_in, behind, follower, from_node}
use Rattle.fmp_ring.specs.WalkLaws.{from_first, in-split, follower-rest, rest-without, without-split}
use Rattle.fmp_tasks.specs.WaitLaws.{wait_queue-released}

-- a cursor that came to a task of a queue, or to its end
pub record Reached (at : Option ℕ) (l : List ℕ) : Type 0 where
  pub past : List ℕ
  pub split : l ≡ past ++ from_node at l

pub Reached-first : (l : List ℕ) → Reached (first_of l) l
Reached-first l = record { past = []; split = sym (from_first l) }

pub Reached-in : (t : ℕ) (l : List ℕ) → Reached (Some t) l → is_in t l ≡ true
Reached-in t l r = rw r.split (in-split t r.past (behind t l))

-- what follows a task is what is behind it
pub rest-behind : (n t : ℕ) (l : List ℕ) (at : Option ℕ) → IsOrder n l → Reached (Some t) l → at ≡ follower t l
    → from_node at l ≡ behind t l
rest-behind n t l at o r e = ap (λ (q : Option ℕ). from_node q l) e ∙ follower-rest n t l r.past o r.split

pub Reached-behind : (n t : ℕ) (l : List ℕ) (at : Option ℕ) → IsOrder n l → Reached (Some t) l → at ≡ follower t l
    → Reached at l
Reached-behind n t l at o r e = record {
  past = r.past ++ t ∷ [];
  split = r.split ∙ (sym (append_assoc r.past (t ∷ []) (behind t l))
      ∙ ap (λ (q : List ℕ). (r.past ++ t ∷ []) ++ q) (sym (rest-behind n t l at o r e)));
}

-- also when the task has left
pub rest-left : (n t : ℕ) (l k : List ℕ) (at : Option ℕ) → IsOrder n l → Reached (Some t) l → at ≡ follower t l → k
    ≡ without l t → from_node at k ≡ behind t l
rest-left n t l k at o r e g =
    ap (λ (q : List ℕ). from_node at q) g ∙ (ap (λ (q : Option ℕ). from_node q (without l t)) e
    ∙ rest-without n t l r.past o r.split)

pub Reached-left : (n t : ℕ) (l k : List ℕ) (at : Option ℕ) → IsOrder n l → Reached (Some t) l → at ≡ follower t l → k
    ≡ without l t → Reached at k
Reached-left n t l k at o r e g =
    let order : IsOrder n (r.past ++ t ∷ behind t l) = subst (λ (q : List ℕ). IsOrder n q) r.split o in
    record {
      past = r.past;
      split =
          g ∙ (ap (λ (q : List ℕ). without q t) r.split ∙ (without-split n t r.past (behind t l) order
          ∙ ap (λ (q : List ℕ). r.past ++ q) (sym (rest-left n t l k at o r e g))));
    }

-- a task that the bits do not satisfy stays
pub walk-passed : (clears : Bool) (f bits t : ℕ) (rest : List ℕ) (g : Progress)
    → is_satisfied (task_at g.state.tasks t).phase bits ≡ false → walk clears f bits (t ∷ rest) g
    ≡ walk clears f bits rest g
walk-passed clears f bits t rest g k = rw k refl

released_on : (f bits t : ℕ) (rest : List ℕ) (g : Progress) → is_satisfied (task_at g.state.tasks t).phase bits ≡ true
    → walk false f bits (t ∷ rest) g ≡ walk false f bits rest (released g t (task_at g.state.tasks t)
    (given (pos bits)))
released_on f bits t rest g k = rw k refl

-- one that they satisfy is released
pub walk-released : (clears : Bool) (f bits t : ℕ) (rest : List ℕ) (g : Progress) → clears ≡ false
    → is_satisfied (task_at g.state.tasks t).phase bits ≡ true
    → walk clears f bits (t ∷ rest) g ≡ walk clears f bits rest (released g t (task_at g.state.tasks t)
    (given (pos bits)))
walk-released clears f bits t rest g c k =
    subst (λ (b : Bool). walk b f bits (t ∷ rest) g ≡ walk b f bits rest
    (released g t (task_at g.state.tasks t) (given (pos bits)))) (sym c) (released_on f bits t rest g k)

-- with TA_CLR it is the last
pub walk-cleared : (clears : Bool) (f bits t : ℕ) (rest : List ℕ) (g : Progress) → clears ≡ true
    → is_satisfied (task_at g.state.tasks t).phase bits ≡ true
    → walk clears f bits (t ∷ rest) g ≡ all_cleared (released g t (task_at g.state.tasks t) (given (pos bits))) f
walk-cleared clears f bits t rest g c k = rw (k, c) refl

-- only a task that is there can be satisfied
satisfied-there : (xs : List TaskBlock) (t bits : ℕ) → is_satisfied (task_at xs t).phase bits ≡ true → t < length xs
satisfied-there [] t bits h = cc
satisfied-there (x ∷ xs) zero bits h = omega arith
satisfied-there (x ∷ xs) (suc t) bits h = let k : t < length xs = satisfied-there xs t bits h in omega arith

-- its queue without it
pub queue-released : (sys : SystemTables) (q : WaitQueue) (g h : Progress) (t bits : ℕ) (r : Reply)
    → is_satisfied (task_at g.state.tasks t).phase bits ≡ true → h ≡ released g t (task_at g.state.tasks t) r
    → wait_queue sys h.state q ≡ without (wait_queue sys g.state q) t
queue-released sys q g h t bits r k e =
    ap (λ (p : Progress). wait_queue sys p.state q) e
    ∙ wait_queue-released sys g.state q t (task_at g.state.tasks t) (satisfied-there g.state.tasks t bits k)

-- the room for lines: where none is there yet, for all tasks that wait
pub room-at : (n t : ℕ) (l : List ℕ) (lines room : ℕ) → IsOrder n l → n ≤ room → Reached (Some t) l
    → (0 < lines → lines + suc (length (behind t l)) ≤ room) → lines + 1 + length (behind t l) ≤ room
room-at n t l zero room o few r more =
    let all : length l ≤ n = IsOrder-length n l o in
    let split : length l ≡ length r.past + suc (length (behind t l)) = ap (λ (q : List ℕ). length q) r.split
    ∙ length-append r.past (t ∷ behind t l) in
    omega arith
room-at n t l (suc lines) room o few r more =
    let now : suc lines + suc (length (behind t l)) ≤ room = more (omega arith) in
    omega arith
