-- A task that leaves a list and joins it again.
use Rattle.std.proofs.Common.{◌≡◌, ℕ, suc, ◌≤◌, List, [], ◌∷◌, length, cond, not, nat_eq, true, false, arith, ap, ◌∙◌}
use Rattle.std.proofs.Common.{sym, subst}
use Rattle.std.specs.Prelude.{slice_set}
use Rattle.std.proofs.lemmas.List.{get_or-set_same, set-set}
use Rattle.fmp_base.specs.States.{without}
use Rattle.fmp_base.specs.declared.states.WaitQueue.{WaitQueue}
use Rattle.fmp_ring.specs.RingLists.{RingLists}
use Rattle.fmp_waitq.specs.declared.queues.WaitQueues.{WaitQueues}
use Rattle.fmp_waitq.specs.WaitLaws.{head-below}
use Rattle.fmp_waitq.specs.WaitLists.{head, IsThere, AreLent, queue_at, with_queue}

-- what one call writes, the next reads
read-back : (w : WaitQueues) (r : RingLists) (q : WaitQueue) (ts : List ℕ) → AreLent w r → IsThere w.counts q
    → queue_at w (with_queue w r q ts) q ≡ ts
read-back w r q ts a l = get_or-set_same r.lists (head w q) ts [] (head-below w r q a l)

-- and writes over
pub written-twice : (w : WaitQueues) (r : RingLists) (q : WaitQueue) (f g : List ℕ → List ℕ) → AreLent w r
    → IsThere w.counts q
    → with_queue w (with_queue w r q (f (queue_at w r q))) q (g (queue_at w (with_queue w r q (f (queue_at w r q))) q))
    ≡ with_queue w r q (g (f (queue_at w r q)))
written-twice w r q f g a l =
    let once = f (queue_at w r q) in
    ap (λ (lists : List (List ℕ)). record r { lists = lists })
    (set-set r.lists (head w q) once _ ∙ ap (λ (ts : List ℕ). slice_set r.lists (head w q) (g ts))
    (read-back w r q once a l))

length-without : (t : ℕ) (ts : List ℕ) → length (without ts t) ≤ length ts
length-without t [] = omega arith
length-without t (u ∷ us) =
    let rest : length (without us t) ≤ length us = length-without t us in
    elim (nat_eq u t) as (λ b. length (cond (not b) (u ∷ without us t) (without us t)) ≤ suc (length us))
    [ true ↦ omega arith | false ↦ omega arith ]

-- a queue is no longer when a task has left it
pub shorter-left : (w : WaitQueues) (r : RingLists) (q : WaitQueue) (t : ℕ) → AreLent w r → IsThere w.counts q
    → length (queue_at w (with_queue w r q (without (queue_at w r q) t)) q) ≤ length (queue_at w r q)
shorter-left w r q t a l =
    subst (λ (ts : List ℕ). length ts ≤ length (queue_at w r q)) (sym (read-back w r q
    (without (queue_at w r q) t) a l)) (length-without t (queue_at w r q))
