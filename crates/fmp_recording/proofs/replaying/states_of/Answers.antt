use Rattle.std.proofs.Common.{◌≡◌, ◌∙◌, ◌++◌, ◌+◌, ◌-◌, ℕ, suc, List, ◌∷◌, ap, append_assoc, arith, map, sym}
use Rattle.fmp_base.specs.declared.events.TaskState.{TaskState}
use Rattle.fmp_base.specs.Runs.{task_state}
use Rattle.fmp_base.specs.States.{places_from}
use Rattle.fmp_recording.proofs.replaying.states_of.Goals as goal

pub loop-t-preserved : goal.loop-t-preserved
loop-t-preserved c =
    let now = c.args.kernel.now.world.state in
    let count = c.task_count-count.result in
    let t = c.loop-t.t in
    let lt = c.loop-t-test.true in
    let cut : count - t ≡ suc (count - (t + 1)) = omega (arith, lt) in
    let rest = map (task_state now) (places_from (t + 1) (count - (t + 1))) in
    ap (λ (xs : List TaskState). xs ++ rest) c.in_ok-push.ensures.items
    ∙ append_assoc c.loop-t.states.items _ rest
    ∙ ap (λ (x : TaskState). c.loop-t.states.items ++ (x ∷ rest)) c.state.ensures
    ∙ ap (λ (n : ℕ). c.loop-t.states.items ++ map (task_state now) (places_from t n)) (sym cut)
    ∙ c.loop-t.invariant
