-- What a task's move in the order does to the queues, where each list is the part of the order that has its home there.
use Rattle.std.proofs.Common.{◌≡◌, ◌≢◌, ℕ, zero, suc, ◌<◌, ◌≤◌, List, [], ◌∷◌, ◌++◌, Option, Some, None, Bool, true}
use Rattle.std.proofs.Common.{false, cond, not, nat_eq, nat_lt, refl, ap, ◌∙◌, sym, subst, arith, length, append-nil}
use Rattle.std.specs.Prelude.{slice_set}
use Rattle.std.specs.List.{filter, list_any}
use Rattle.std.proofs.Math.ListN.{length-set}
use Rattle.std.proofs.lemmas.Bool.Decides.{nat_tests}
use Rattle.std.proofs.lemmas.List.{get_or-set_same, get_or-set_other}
use Rattle.std.proofs.lemmas.List.Elements.{filter-append, filter_agree}
use Rattle.fmp_base.specs.declared.states.TaskBlock.{TaskBlock}
use Rattle.fmp_base.specs.declared.systems.QueueOrder.{QueueOrder}
use Rattle.fmp_base.specs.declared.systems.QueueOrder.TheVariants.{Fifo, Priority}
use Rattle.fmp_base.specs.MailboxCalls.{enqueued}
use Rattle.fmp_base.specs.Queues.{placed, sorted, arranged, priority_in, is_by_priority}
use Rattle.fmp_base.specs.States.{without, to_end, task_at}
use Rattle.fmp_ring.specs.LinkedLaws.{is_linked-from_none}
use Rattle.fmp_ring.specs.OrderLaws.{nat_same, without-gone}
use Rattle.fmp_ring.specs.RingLists.{is_linked, list_at}
use Rattle.fmp_tasks.specs.Homes.{is_at, queue_at_home, left_from, joined_to, Kept}
use Rattle.fmp_tasks.specs.SortLaws.{sorted-push, filter-sorted, filter-swap}

nat_apart : (a b : ℕ) → nat_eq a b ≡ false → b ≢ a
nat_apart a b h = grind (arith, nat_tests)

lt_of : (a b : ℕ) → nat_lt a b ≡ true → a < b
lt_of a b h = grind (arith, nat_tests)

le_of : (a b : ℕ) → nat_lt a b ≡ false → b ≤ a
le_of a b h = grind (arith, nat_tests)

apart_suc : (u t : ℕ) → nat_eq (suc u) (suc t) ≡ false → nat_eq u t ≡ false
apart_suc u t h = grind (arith, nat_tests)

filter-without : (F G : ℕ → Bool) (t : ℕ) (l : List ℕ) → ((u : ℕ) → nat_eq u t ≡ false → G u ≡ F u)
    → filter G (without l t) ≡ filter F (without l t)
filter-without F G t [] h = refl
filter-without F G t (y ∷ ys) h = by_test (nat_eq y t) refl (filter-without F G t ys h) where
  by_test : (b : Bool) → nat_eq y t ≡ b → filter G (without ys t) ≡ filter F (without ys t)
      → filter G (cond (not b) (y ∷ without ys t) (without ys t))
      ≡ filter F (cond (not b) (y ∷ without ys t) (without ys t))
  by_test true e rest = rest
  by_test false e rest = rw (h y e, rest) refl

-- t is not in a filter that leaves it out
pub without-filter : (F : ℕ → Bool) (t : ℕ) (l : List ℕ) → F t ≡ false → without (filter F l) t ≡ filter F l
without-filter F t [] h = refl
without-filter F t (y ∷ ys) h = by_tests (F y) (nat_eq y t) refl refl (without-filter F t ys h) where
  by_tests : (b c : Bool) → F y ≡ b → nat_eq y t ≡ c → without (filter F ys) t ≡ filter F ys
      → without (cond b (y ∷ filter F ys) (filter F ys)) t ≡ cond b (y ∷ filter F ys) (filter F ys)
  by_tests false c e k rest = rest
  by_tests true false e k rest = rw k (ap (λ (l : List ℕ). y ∷ l) rest)
  by_tests true true e k rest = let same : y ≡ t = nat_same y t k in let no : F y ≡ false = rw same h in cc

-- both functions put y at one place of a list without t
placed-without : (f g : ℕ → ℕ) (t y : ℕ) (l : List ℕ) → ((u : ℕ) → nat_eq u t ≡ false → g u ≡ f u) → nat_eq y t ≡ false
    → placed g y (without l t) ≡ placed f y (without l t)
placed-without f g t y [] h k = refl
placed-without f g t y (x ∷ xs) h k = by_test (nat_eq x t) refl (placed-without f g t y xs h k) where
  by_test : (b : Bool) → nat_eq x t ≡ b → placed g y (without xs t) ≡ placed f y (without xs t)
      → placed g y (cond (not b) (x ∷ without xs t) (without xs t))
      ≡ placed f y (cond (not b) (x ∷ without xs t) (without xs t))
  by_test true e rest = rest
  by_test false e rest = rw (h x e, h y k, rest) refl

sorted-without : (f g : ℕ → ℕ) (t : ℕ) (l : List ℕ) → ((u : ℕ) → nat_eq u t ≡ false → g u ≡ f u)
    → sorted g (without l t) ≡ sorted f (without l t)
sorted-without f g t [] h = refl
sorted-without f g t (y ∷ ys) h = by_test (nat_eq y t) refl (sorted-without f g t ys h) where
  by_test : (b : Bool) → nat_eq y t ≡ b → sorted g (without ys t) ≡ sorted f (without ys t)
      → sorted g (cond (not b) (y ∷ without ys t) (without ys t))
      ≡ sorted f (cond (not b) (y ∷ without ys t) (without ys t))
  by_test true e rest = rest
  by_test false e rest =
      ap (placed g y) rest ∙ ap (placed g y) (sym (filter-sorted (λ u. not (nat_eq u t)) f ys)) ∙ placed-without f g t y
      (sorted f ys) h e
      ∙ ap (placed f y) (filter-sorted (λ u. not (nat_eq u t)) f ys)

-- a queue without t
pub arranged-without : (b : QueueOrder) (F G : ℕ → Bool) (f g : ℕ → ℕ) (t : ℕ) (l : List ℕ)
    → ((u : ℕ) → nat_eq u t ≡ false → G u ≡ F u) → ((u : ℕ) → nat_eq u t ≡ false → g u ≡ f u)
    → arranged b g (filter G (without l t)) ≡ without (arranged b f (filter F l)) t
arranged-without Fifo F G f g t l h k = filter-without F G t l h ∙ filter-swap F (λ u. not (nat_eq u t)) l
arranged-without Priority F G f g t l h k =
    ap (sorted g) (filter-without F G t l h ∙ filter-swap F (λ u. not (nat_eq u t)) l) ∙ sorted-without f g t
    (filter F l) k
    ∙ sym (filter-sorted (λ u. not (nat_eq u t)) f (filter F l))

push-in : (G : ℕ → Bool) (t : ℕ) (l : List ℕ) → G t ≡ true → filter G (l ++ t ∷ []) ≡ filter G l ++ t ∷ []
push-in G t l h = filter-append G l (t ∷ []) ∙ rw h refl

push-out : (G : ℕ → Bool) (t : ℕ) (l : List ℕ) → G t ≡ false → filter G (l ++ t ∷ []) ≡ filter G l
push-out G t l h = filter-append G l (t ∷ []) ∙ rw h (append-nil (filter G l))

arranged-push : (b : QueueOrder) (g : ℕ → ℕ) (t : ℕ) (l : List ℕ)
    → arranged b g (l ++ t ∷ []) ≡ enqueued b g t (arranged b g l)
arranged-push Fifo g t l = refl
arranged-push Priority g t l = sorted-push g t l

-- a queue after t went to the end
pub arranged-last : (b : QueueOrder) (F G : ℕ → Bool) (f g : ℕ → ℕ) (t : ℕ) (l : List ℕ)
    → ((u : ℕ) → nat_eq u t ≡ false → G u ≡ F u) → ((u : ℕ) → nat_eq u t ≡ false → g u ≡ f u)
    → arranged b g (filter G (to_end l t))
    ≡ cond (G t) (enqueued b g t (without (arranged b f (filter F l)) t)) (without (arranged b f (filter F l)) t)
arranged-last b F G f g t l h k = by_test (G t) refl (arranged-without b F G f g t l h k) where
  by_test : (c : Bool) → G t ≡ c → arranged b g (filter G (without l t)) ≡ without (arranged b f (filter F l)) t
      → arranged b g (filter G (to_end l t))
      ≡ cond c (enqueued b g t (without (arranged b f (filter F l)) t)) (without (arranged b f (filter F l)) t)
  by_test true e rest =
      ap (arranged b g) (push-in G t (without l t) e) ∙ arranged-push b g t (filter G (without l t)) ∙ ap
      (enqueued b g t) rest
  by_test false e rest = ap (arranged b g) (push-out G t (without l t) e) ∙ rest

-- where t is not, taking it out changes nothing
arranged-absent : (b : QueueOrder) (F : ℕ → Bool) (f : ℕ → ℕ) (t : ℕ) (l : List ℕ) → F t ≡ false
    → without (arranged b f (filter F l)) t ≡ arranged b f (filter F l)
arranged-absent Fifo F f t l h = without-filter F t l h
arranged-absent Priority F f t l h =
    filter-sorted (λ u. not (nat_eq u t)) f (filter F l) ∙ ap (sorted f) (without-filter F t l h)

-- the task blocks elsewhere stay
pub task-other : (xs : List TaskBlock) (t u : ℕ) (x : TaskBlock) → nat_eq u t ≡ false
    → task_at (slice_set xs t x) u ≡ task_at xs u
task-other [] t u x h = refl
task-other (y ∷ ys) zero zero x h = cc
task-other (y ∷ ys) zero (suc u) x h = refl
task-other (y ∷ ys) (suc t) zero x h = refl
task-other (y ∷ ys) (suc t) (suc u) x h = task-other ys t u x (apart_suc u t h)

pub task-same : (xs : List TaskBlock) (t : ℕ) (x : TaskBlock) → t < length xs → task_at (slice_set xs t x) t ≡ x
task-same [] t x h = absurd (omega arith)
task-same (y ∷ ys) zero x h = refl
task-same (y ∷ ys) (suc t) x h = task-same ys t x (omega arith)

list-set : (qs : List (List ℕ)) (g h : ℕ) (q : List ℕ) → h < length qs
    → list_at (slice_set qs g q) h ≡ cond (nat_eq g h) q (list_at qs h)
list-set qs g h q l = by_test (nat_eq g h) refl where
  by_test : (b : Bool) → nat_eq g h ≡ b → list_at (slice_set qs g q) h ≡ cond b q (list_at qs h)
  by_test true e =
      subst (λ (k : ℕ). list_at (slice_set qs k q) h ≡ q) (sym (nat_same g h e)) (get_or-set_same qs h q [] l)
  by_test false e = get_or-set_other qs g h q [] (nat_apart g h e)

left-at : (qs : List (List ℕ)) (o : Option ℕ) (t h : ℕ) → h < length qs
    → list_at (left_from qs o t) h ≡ cond (is_at h o) (without (list_at qs h) t) (list_at qs h)
left-at qs None t h l = refl
left-at qs (Some g) t h l = list-set qs g h (without (list_at qs g) t) l ∙ same_case where
  same_case : cond (nat_eq g h) (without (list_at qs g) t) (list_at qs h)
      ≡ cond (nat_eq g h) (without (list_at qs h) t) (list_at qs h)
  same_case = by_test (nat_eq g h) refl where
    by_test : (b : Bool) → nat_eq g h ≡ b
        → cond b (without (list_at qs g) t) (list_at qs h) ≡ cond b (without (list_at qs h) t) (list_at qs h)
    by_test true e = ap (λ (k : ℕ). without (list_at qs k) t) (nat_same g h e)
    by_test false e = refl

joined-at : (by : ℕ → QueueOrder) (f : ℕ → ℕ) (qs : List (List ℕ)) (o : Option ℕ) (t h : ℕ) → h < length qs
    → list_at (joined_to by f qs o t) h ≡ cond (is_at h o) (enqueued (by h) f t (list_at qs h)) (list_at qs h)
joined-at by f qs None t h l = refl
joined-at by f qs (Some g) t h l =
    list-set qs g h (enqueued (by g) f t (list_at qs g)) l ∙ by_test (nat_eq g h) refl where
      by_test : (b : Bool) → nat_eq g h ≡ b
          → cond b (enqueued (by g) f t (list_at qs g)) (list_at qs h)
          ≡ cond b (enqueued (by h) f t (list_at qs h)) (list_at qs h)
      by_test true e = ap (λ (k : ℕ). enqueued (by k) f t (list_at qs k)) (nat_same g h e)
      by_test false e = refl

pub length-left_from : (qs : List (List ℕ)) (o : Option ℕ) (t : ℕ) → length (left_from qs o t) ≡ length qs
length-left_from qs None t = refl
length-left_from qs (Some g) t = length-set qs g (without (list_at qs g) t)

pub length-joined_to : (by : ℕ → QueueOrder) (f : ℕ → ℕ) (qs : List (List ℕ)) (o : Option ℕ) (t : ℕ)
    → length (joined_to by f qs o t) ≡ length qs
length-joined_to by f qs None t = refl
length-joined_to by f qs (Some g) t = length-set qs g (enqueued (by g) f t (list_at qs g))

home-other : (home : TaskBlock → Option ℕ) (xs : List TaskBlock) (t : ℕ) (x : TaskBlock) (h u : ℕ) → nat_eq u t ≡ false
    → is_at h (home (task_at (slice_set xs t x) u)) ≡ is_at h (home (task_at xs u))
home-other home xs t x h u e = ap (λ (y : TaskBlock). is_at h (home y)) (task-other xs t u x e)

pub priority-other : (xs : List TaskBlock) (t : ℕ) (x : TaskBlock) (u : ℕ) → nat_eq u t ≡ false
    → priority_in (slice_set xs t x) u ≡ priority_in xs u
priority-other xs t x u e = ap (λ (y : TaskBlock). y.priority) (task-other xs t u x e)

-- each list without t is its queue without t
left_each : (home : TaskBlock → Option ℕ) (by : ℕ → QueueOrder) (xs : List TaskBlock) (order : List ℕ)
    (qs : List (List ℕ)) (t h : ℕ) → h < length qs → Kept home by xs order qs
    → list_at (left_from qs (home (task_at xs t)) t) h ≡ without (queue_at_home home by xs order h) t
left_each home by xs order qs t h l k =
    left-at qs (home (task_at xs t)) t h l ∙ by_test (is_at h (home (task_at xs t))) refl where
      by_test : (b : Bool) → is_at h (home (task_at xs t)) ≡ b
          → cond b (without (list_at qs h) t) (list_at qs h) ≡ without (queue_at_home home by xs order h) t
      by_test true e = ap (λ (q : List ℕ). without q t) (k.each h l)
      by_test false e =
          k.each h l ∙ sym (arranged-absent (by h) (λ u. is_at h (home (task_at xs u))) (priority_in xs) t order e)

-- the queues after task t became x and went to the end
pub Kept-last : (home : TaskBlock → Option ℕ) (by : ℕ → QueueOrder) (xs : List TaskBlock) (order : List ℕ)
    (qs : List (List ℕ)) (t : ℕ) (x : TaskBlock) → t < length xs → Kept home by xs order qs
    → Kept home by (slice_set xs t x) (to_end order t)
    (joined_to by (priority_in (slice_set xs t x)) (left_from qs (home (task_at xs t)) t) (home x) t)
Kept-last home by xs order qs t x lt k = record {
  each = λ h l.
      let n : length (joined_to by (priority_in (slice_set xs t x)) (left_from qs (home (task_at xs t)) t)
      (home x) t) ≡ length qs =
      length-joined_to by (priority_in (slice_set xs t x)) (left_from qs (home (task_at xs t)) t) (home x) t ∙
      length-left_from qs (home (task_at xs t)) t in
      let m : length (left_from qs (home (task_at xs t)) t) ≡ length qs = length-left_from qs (home (task_at xs t)) t in
      let l1 : h < length qs = omega arith in
      let l2 : h < length (left_from qs (home (task_at xs t)) t) = omega arith in
      let here : is_at h (home (task_at (slice_set xs t x) t)) ≡ is_at h (home x) = ap
      (λ (y : TaskBlock). is_at h (home y)) (task-same xs t x lt) in
      joined-at by (priority_in (slice_set xs t x)) (left_from qs (home (task_at xs t)) t) (home x) t h l2
      ∙ ap (λ (q : List ℕ). cond (is_at h (home x)) (enqueued (by h) (priority_in (slice_set xs t x)) t q) q)
      (left_each home by xs order qs t h l1 k)
      ∙ sym (arranged-last (by h) (λ u. is_at h (home (task_at xs u)))
      (λ u. is_at h (home (task_at (slice_set xs t x) u))) (priority_in xs) (priority_in (slice_set xs t x)) t
      order (home-other home xs t x h) (priority-other xs t x)
      ∙ ap (λ (b : Bool). cond b
      (enqueued (by h) (priority_in (slice_set xs t x)) t (without (queue_at_home home by xs order h) t))
      (without (queue_at_home home by xs order h) t)) here);
}

-- the queues after task t became x and left the order
pub Kept-left : (home : TaskBlock → Option ℕ) (by : ℕ → QueueOrder) (xs : List TaskBlock) (order : List ℕ)
    (qs : List (List ℕ)) (t : ℕ) (x : TaskBlock) → Kept home by xs order qs
    → Kept home by (slice_set xs t x) (without order t) (left_from qs (home (task_at xs t)) t)
Kept-left home by xs order qs t x k = record {
  each = λ h l.
      let m : length (left_from qs (home (task_at xs t)) t) ≡ length qs = length-left_from qs (home (task_at xs t)) t in
      let l1 : h < length qs = omega arith in
      left_each home by xs order qs t h l1 k
      ∙ sym (arranged-without (by h) (λ u. is_at h (home (task_at xs u)))
      (λ u. is_at h (home (task_at (slice_set xs t x) u))) (priority_in xs)
      (priority_in (slice_set xs t x)) t order (home-other home xs t x h) (priority-other xs t x));
}

placed-same : (f g : ℕ → ℕ) (t : ℕ) (l : List ℕ) → ((u : ℕ) → g u ≡ f u) → placed g t l ≡ placed f t l
placed-same f g t [] h = refl
placed-same f g t (u ∷ us) h = rw (h t, h u, placed-same f g t us h) refl

sorted-same : (f g : ℕ → ℕ) (l : List ℕ) → ((u : ℕ) → g u ≡ f u) → sorted g l ≡ sorted f l
sorted-same f g [] h = refl
sorted-same f g (t ∷ ts) h = ap (placed g t) (sorted-same f g ts h) ∙ placed-same f g t (sorted f ts) h

everywhere : {A : Type 0} (f g : ℕ → A) (t : ℕ) → ((u : ℕ) → nat_eq u t ≡ false → g u ≡ f u) → g t ≡ f t → (u : ℕ)
    → g u ≡ f u
everywhere f g t h k u = by_test (nat_eq u t) refl where
  by_test : (b : Bool) → nat_eq u t ≡ b → g u ≡ f u
  by_test true e = rw (nat_same u t e) k
  by_test false e = h u e

-- where t is not, only the others count
arranged-others : (c : QueueOrder) (F : ℕ → Bool) (f g : ℕ → ℕ) (t : ℕ) (l : List ℕ) → F t ≡ false
    → ((u : ℕ) → nat_eq u t ≡ false → g u ≡ f u) → arranged c g (filter F l) ≡ arranged c f (filter F l)
arranged-others Fifo F f g t l h k = refl
arranged-others Priority F f g t l h k =
    ap (sorted g) (sym (without-filter F t l h)) ∙ sorted-without f g t (filter F l) k ∙ ap (sorted f)
    (without-filter F t l h)

arranged-stays : (b : Bool) (c : QueueOrder) (F : ℕ → Bool) (f g : ℕ → ℕ) (t : ℕ) (l : List ℕ) → F t ≡ b
    → ((u : ℕ) → nat_eq u t ≡ false → g u ≡ f u) → (b ≡ true → is_by_priority c ≡ true → g t ≡ f t)
    → arranged c g (filter F l) ≡ arranged c f (filter F l)
arranged-stays false c F f g t l e h k = arranged-others c F f g t l e h
arranged-stays true Fifo F f g t l e h k = refl
arranged-stays true Priority F f g t l e h k = sorted-same f g (filter F l) (everywhere f g t h (k refl refl))

-- the queues after task t became x, in its place: its home is the same, and so is its priority where its queue stands
-- by that
pub Kept-stays : (home : TaskBlock → Option ℕ) (by : ℕ → QueueOrder) (xs : List TaskBlock) (order : List ℕ)
    (qs : List (List ℕ)) (t : ℕ) (x : TaskBlock) → t < length xs → Kept home by xs order qs
    → home x ≡ home (task_at xs t)
    → ((h : ℕ) → is_at h (home x) ≡ true → is_by_priority (by h) ≡ true → x.priority ≡ priority_in xs t)
    → Kept home by (slice_set xs t x) order qs
Kept-stays home by xs order qs t x lt k same stays = record {
  each = λ h l.
      let here : is_at h (home (task_at (slice_set xs t x) t)) ≡ is_at h (home (task_at xs t)) = ap
      (λ (y : TaskBlock). is_at h (home y)) (task-same xs t x lt) ∙ ap (is_at h) same in
      let all : (u : ℕ) → is_at h (home (task_at (slice_set xs t x) u)) ≡ is_at h (home (task_at xs u)) =
      everywhere (λ u. is_at h (home (task_at xs u))) (λ u. is_at h (home (task_at (slice_set xs t x) u))) t
      (home-other home xs t x h) here in
      let now : priority_in (slice_set xs t x) t ≡ x.priority = ap (λ (y : TaskBlock). y.priority)
      (task-same xs t x lt) in
      k.each h l
      ∙ sym (ap (arranged (by h) (priority_in (slice_set xs t x)))
      (filter_agree (λ u. is_at h (home (task_at (slice_set xs t x) u)))
      (λ u. is_at h (home (task_at xs u))) all order)
      ∙ arranged-stays (is_at h (home x)) (by h) (λ u. is_at h (home (task_at xs u))) (priority_in xs)
      (priority_in (slice_set xs t x)) t order (ap (is_at h) (sym same)) (priority-other xs t x)
      (λ e d. now ∙ stays h e d));
}

out-of-range : (qs : List (List ℕ)) (h : ℕ) → length qs ≤ h → list_at qs h ≡ []
out-of-range [] h l = refl
out-of-range (q ∷ qs) zero l = absurd (omega arith)
out-of-range (q ∷ qs) (suc h) l = out-of-range qs h (omega arith)

-- after t left its home it is in none of the lists
pub free-after : (home : TaskBlock → Option ℕ) (by : ℕ → QueueOrder) (xs : List TaskBlock) (order : List ℕ)
    (qs : List (List ℕ)) (t : ℕ) → Kept home by xs order qs
    → is_linked t (left_from qs (home (task_at xs t)) t) ≡ false
free-after home by xs order qs t k =
    is_linked-from_none t (left_from qs (home (task_at xs t)) t) (λ h. by_test h (nat_lt h (length qs)) refl) where
      by_test : (h : ℕ) (b : Bool) → nat_lt h (length qs) ≡ b
          → list_any (nat_eq t) (list_at (left_from qs (home (task_at xs t)) t) h) ≡ false
      by_test h true e =
          let l : h < length qs = lt_of h (length qs) e in
          rw (left_each home by xs order qs t h l k) (without-gone t (queue_at_home home by xs order h))
      by_test h false e =
          let m : length (left_from qs (home (task_at xs t)) t) ≡ length qs = length-left_from qs
          (home (task_at xs t)) t in
          let l : length qs ≤ h = le_of h (length qs) e in
          rw (out-of-range (left_from qs (home (task_at xs t)) t) h (omega arith)) refl
