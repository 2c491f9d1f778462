-- A waiting task awaits a reply: how this comes through the lines of an event.
use Rattle.std.proofs.Common.{◌≡◌, ℕ, zero, suc, List, [], ◌∷◌, Option, Some, None, Bool, true, false, refl, sym, ◌∙◌}
use Rattle.std.proofs.Common.{ap, subst, nat_eq, length, slice_set, map}
use Rattle.std.proofs.Math.ListN.{length-set}
use Rattle.std.proofs.lemmas.Bool.{or_parts}
use Rattle.fmp_base.specs.declared.bodies.Held.{Held}
use Rattle.fmp_base.specs.declared.bodies.Held.TheVariants.{Goes, Awaits}
use Rattle.fmp_base.specs.declared.events.Line.{Line}
use Rattle.fmp_base.specs.declared.events.Line.TheVariants as line
use Rattle.fmp_base.specs.declared.states.Caller.TheVariants as caller
use Rattle.fmp_base.specs.declared.states.TaskBlock.{TaskBlock}
use Rattle.fmp_base.specs.declared.systems.TaskConfig.{TaskConfig}
use Rattle.fmp_base.specs.Meanings.{Meaning, Contexts, context_at, contexts_after, contexts_after_all}
use Rattle.fmp_base.specs.Setups.{created}
use Rattle.fmp_base.specs.States.{task_at}
use Rattle.fmp_base.specs.Systems.{SystemTables}
use Rattle.fmp_ring.specs.OrderLaws.{nat_apart, nat_same}
use Rattle.fmp_tasks.specs.Homes.{is_waiting}
use Rattle.fmp_worlds.proofs.Assigned.{set_at, set_other, set_over}
use Rattle.fmp_reachable.proofs.Changes.{Lasts, is_told, tells}
use Rattle.fmp_reachable.proofs.Stands.{off}
use Rattle.fmp_reachable.specs.Sound.{GoesNot, AreHeld}

-- as many contexts
pub record SameLengths {C : Type 0} (cs ds : Contexts C) : Type 0 where
  pub tasks : length ds.tasks ≡ length cs.tasks
  pub handlers : length ds.handlers ≡ length cs.handlers

pub same-lengths : {C : Type 0} (cs : Contexts C) → SameLengths cs cs
same-lengths cs = record { tasks = refl; handlers = refl }

pub lengths-task : {C : Type 0} (cs : Contexts C) (t : ℕ) (c : Option C)
    → SameLengths cs (record cs { tasks = slice_set cs.tasks t c })
lengths-task cs t c = record { tasks = length-set cs.tasks t c; handlers = refl }

module _ {C : Type 0} (sys : SystemTables) (M : Meaning C) where
  abbrev At : Contexts (Held C) → ℕ → Option (Held C)
  At cs t = context_at cs.tasks t

  unset : (cs : Contexts (Held C)) (t u : ℕ) (c : Option (Held C)) → nat_eq t u ≡ false
      → context_at (slice_set cs.tasks u c) t ≡ context_at cs.tasks t
  unset cs t u c e = set_other None cs.tasks u c t (λ same. nat_apart t u e (sym same))

  untold : (cs : Contexts (Held C)) (t : ℕ) (l : Line) → tells t l ≡ false → At (contexts_after sys M cs l) t ≡ At cs t
  untold cs t (line.Starts q u) e = unset cs t u _ e
  untold cs t (line.Gets q u reply) e = unset cs t u _ e
  untold cs t (line.Begins q i) e = refl
  untold cs t (line.Call q who made None) e = refl
  untold cs t (line.Call q (caller.Task u) made (Some reply)) e = unset cs t u _ e
  untold cs t (line.Call q (caller.Handler i) made (Some reply)) e = refl
  untold cs t (line.Tick now) e = refl
  untold cs t (line.Int i) e = refl
  untold cs t (line.End q who) e = refl
  untold cs t (line.Fault q who fault) e = refl
  untold cs t (line.Pends q i) e = refl
  untold cs t (line.Runs q u) e = refl

  all-untold : (cs : Contexts (Held C)) (t : ℕ) (ls : List Line) → is_told t ls ≡ false
      → At (contexts_after_all sys M cs ls) t ≡ At cs t
  all-untold cs t [] e = refl
  all-untold cs t (l ∷ ls) e =
      let parts = or_parts (tells t l) (is_told t ls) e in
      all-untold (contexts_after sys M cs l) t ls parts.1 ∙ untold cs t l parts.0

  -- whom no line has told anything awaits what it awaited
  pub lines-held : (before tasks : List TaskBlock) (cs : Contexts (Held C)) (ls : List Line) → AreHeld before cs.tasks
      → Lasts before tasks ls → AreHeld tasks (contexts_after_all sys M cs ls).tasks
  lines-held before tasks cs ls h k =
      record {
        each = λ t w. let l = k.each t w in subst (λ (o : Option (Held C)). GoesNot o) (sym (all-untold cs t ls l.1))
            (h.each t l.0);
      }

  lengths-line : (cs : Contexts (Held C)) (l : Line) → SameLengths cs (contexts_after sys M cs l)
  lengths-line cs (line.Starts q u) = lengths-task cs u _
  lengths-line cs (line.Gets q u reply) = lengths-task cs u _
  lengths-line cs (line.Begins q i) = record { tasks = refl; handlers = length-set cs.handlers q _ }
  lengths-line cs (line.Call q who made None) = same-lengths cs
  lengths-line cs (line.Call q (caller.Task u) made (Some reply)) = lengths-task cs u _
  lengths-line cs (line.Call q (caller.Handler i) made (Some reply)) =
      record { tasks = refl; handlers = length-set cs.handlers q _ }
  lengths-line cs (line.Tick now) = same-lengths cs
  lengths-line cs (line.Int i) = same-lengths cs
  lengths-line cs (line.End q who) = same-lengths cs
  lengths-line cs (line.Fault q who fault) = same-lengths cs
  lengths-line cs (line.Pends q i) = same-lengths cs
  lengths-line cs (line.Runs q u) = same-lengths cs

  pub lengths-lines : (cs : Contexts (Held C)) (ls : List Line) → SameLengths cs (contexts_after_all sys M cs ls)
  lengths-lines cs [] = same-lengths cs
  lengths-lines cs (l ∷ ls) =
      let k = lengths-line cs l in
      let n = lengths-lines (contexts_after sys M cs l) ls in
      record { tasks = n.tasks ∙ k.tasks; handlers = n.handlers ∙ k.handlers }

-- the context of a task that does not wait changes
pub held-but : {C : Type 0} (tasks : List TaskBlock) (cs : List (Option (Held C))) (me : ℕ) (c : Option (Held C))
    → AreHeld tasks cs
    → is_waiting (task_at tasks me).phase ≡ false → AreHeld tasks (slice_set cs me c)
held-but {C} tasks cs me c h n =
    record {
      each = λ t w. set_at None (λ (o : Option (Held C)). GoesNot o) cs me c t
          (λ same. off (sym (subst (λ (v : ℕ). is_waiting (task_at tasks v).phase ≡ false) same n) ∙ w)) (h.each t w);
    }

-- a task begins to wait, and its context awaits a reply
pub held-waits : {C : Type 0} (tasks : List TaskBlock) (cs : List (Option (Held C))) (me : ℕ) (y : TaskBlock) (c : C)
    → AreHeld tasks cs
    → AreHeld (slice_set tasks me y) (slice_set cs me (Some (Awaits c)))
held-waits {C} tasks cs me y c h = record { each = λ t w. by_test t w (nat_eq t me) refl } where
  by_test : (t : ℕ) → is_waiting (task_at (slice_set tasks me y) t).phase ≡ true → (b : Bool) → nat_eq t me ≡ b
      → GoesNot (context_at (slice_set cs me (Some (Awaits c))) t)
  by_test t w true e =
      set_over None (λ (o : Option (Held C)). GoesNot o) cs me (Some (Awaits c)) t tt (λ same. tt)
      (λ n. absurd (n (sym (nat_same t me e))))
  by_test t w false e =
      let other : me ≡ t → ⊥ = λ same. nat_apart t me e (sym same) in
      subst (λ (o : Option (Held C)). GoesNot o) (sym (set_other None cs me (Some (Awaits c)) t other))
      (h.each t (ap (λ (z : TaskBlock). is_waiting z.phase) (sym (set_other (task_at [] 0) tasks me y t other)) ∙ w))

-- no task waits that has just been made
pub created-held : {C : Type 0} (sys : List TaskConfig) (cs : List (Option (Held C))) → AreHeld (map created sys) cs
created-held sys cs = record { each = λ t w. off (sym (unwaiting sys t) ∙ w) } where
  unwaiting : (ts : List TaskConfig) (t : ℕ) → is_waiting (task_at (map created ts) t).phase ≡ false
  unwaiting [] t = refl
  unwaiting (c ∷ ts) zero = refl
  unwaiting (c ∷ ts) (suc t) = unwaiting ts t
