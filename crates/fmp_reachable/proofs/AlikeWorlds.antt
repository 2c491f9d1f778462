-- Worlds of which a row tells the same are alike.
use Rattle.std.proofs.Common.{◌≡◌, ℕ, Option, Some, None, Bool, true, false, ◌&&◌, refl, sym, ◌∙◌, ap, subst}
use Rattle.fmp_base.specs.declared.bodies.Held.{Held}
use Rattle.fmp_base.specs.declared.bodies.Held.TheVariants.{Goes, Awaits}
use Rattle.fmp_base.specs.declared.states.Phase.{Phase}
use Rattle.fmp_base.specs.declared.states.Phase.TheVariants.{Dormant, Ready, Waiting}
use Rattle.fmp_base.specs.declared.states.TaskBlock.{TaskBlock}
use Rattle.fmp_base.specs.Meanings.{World, context_at, kept_context}
use Rattle.fmp_base.specs.States.{task_at}
use Rattle.fmp_base.specs.Systems.{SystemTables}
use Rattle.fmp_base.specs.TaskCalls.{is_dormant}
use Rattle.fmp_bisimulation.specs.Alike.{Alike, AlikeStates, is_none, is_off}
use Rattle.fmp_bisimulation.proofs.TimeLaws.{blocks-at}
use Rattle.fmp_reachable.specs.Rows.{SameRow}
use Rattle.fmp_reachable.specs.Worlds.{IsHeldBy, IsRegularWorld, SameBodies}
use Rattle.fmp_reachable.proofs.RowLaws.{rows-told}

-- whether a context awaits a reply is told by the phase
held-told : {C : Type 0} (p : Phase) (h k : Option (Held C)) → is_dormant p ≡ false → IsHeldBy p h → IsHeldBy p k
    → kept_context h ≡ kept_context k → h ≡ k
held-told p None None on a b e = refl
held-told p None (Some (Goes d)) on a b e = cc
held-told p None (Some (Awaits d)) on a b e = cc
held-told p (Some (Goes c)) None on a b e = cc
held-told p (Some (Awaits c)) None on a b e = cc
held-told p (Some (Goes c)) (Some (Goes d)) on a b e = let same : c ≡ d = cc in cc
held-told p (Some (Awaits c)) (Some (Awaits d)) on a b e = let same : c ≡ d = cc in cc
held-told Dormant (Some (Goes c)) (Some (Awaits d)) on a b e = cc
held-told Ready (Some (Goes c)) (Some (Awaits d)) on a b e = absurd b
held-told (Waiting w) (Some (Goes c)) (Some (Awaits d)) on a b e = absurd a
held-told Dormant (Some (Awaits c)) (Some (Goes d)) on a b e = cc
held-told Ready (Some (Awaits c)) (Some (Goes d)) on a b e = absurd a
held-told (Waiting w) (Some (Awaits c)) (Some (Goes d)) on a b e = absurd b

-- who is not off is not dormant, where no time runs for those that are
started : (x : TaskBlock) → (is_dormant x.phase ≡ true → x.deadline ≡ None) → is_off x ≡ false → is_dormant x.phase
    ≡ false
started x h off = by_test (is_dormant x.phase) refl where
  by_test : (b : Bool) → is_dormant x.phase ≡ b → is_dormant x.phase ≡ false
  by_test false e = e
  by_test true e =
      let yes : is_off x ≡ true = ap (λ (b : Bool). b && is_none x.deadline) e
      ∙ ap (λ (d : Option ℕ). is_none d) (h e) in
      let clash : true ≡ false = sym yes ∙ off in cc

pub worlds-told : {C : Type 0} (sys : SystemTables) (v w : World C) → IsRegularWorld sys v → IsRegularWorld sys w
    → SameRow sys v.state w.state → SameBodies v w → Alike sys v w
worlds-told {C} sys v w a b row bodies =
    let states : AlikeStates sys v.state w.state = rows-told sys v.state w.state a.state b.state row in
    record {
      states = states;
      contexts = record {
        tasks = λ t off.
            let on = started (task_at (v.state).tasks t) (a.at_rest t) off in
            let block = blocks-at (v.state).clock (w.state).clock (v.state).tasks (w.state).tasks states.tasks t in
            let phase : (task_at (w.state).tasks t).phase ≡ (task_at (v.state).tasks t).phase =
            ap (λ (z : TaskBlock). z.phase) (sym block.rest) in
            held-told (task_at (v.state).tasks t).phase (context_at (v.contexts).tasks t)
            (context_at (w.contexts).tasks t) on (a.held t)
            (subst (λ (p : Phase). IsHeldBy p (context_at (w.contexts).tasks t)) phase (b.held t)) (bodies.tasks t on);
        handlers = bodies.handlers;
        long = bodies.long;
      };
      settled = a.settled;
      also_settled = b.settled;
    }
