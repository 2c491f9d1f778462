use Rattle.std.proofs.Common.{arith, ap, sym, ◌∙◌, ◌≡◌, ◌++◌, ◌+◌, ◌-◌, ℕ, suc, List, ◌∷◌, map, append_assoc}
use Rattle.fmp_base.specs.declared.events.TaskState.{TaskState}
use Rattle.fmp_base.specs.Runs.{task_state}
use Rattle.fmp_base.specs.States.{places_from}
use Rattle.fmp_engine.proofs.play.put_states.Goals as goal

pub loop-t-preserved : goal.loop-t-preserved
loop-t-preserved g c =
    let s = c.args.kernel.now.world.state in
    let i = c.loop-t.invariant in
    let cut : c.args.count - c.loop-t.t ≡ suc (c.args.count - (c.loop-t.t + 1)) = omega arith in
    let rest = map (task_state s) (places_from (c.loop-t.t + 1) (c.args.count - (c.loop-t.t + 1))) in
    record {
      items =
          ap (λ (xs : List TaskState). xs ++ rest) c.push_reserved.ensures.items
          ∙ append_assoc c.loop-t.states.items _ rest
          ∙ ap (λ (x : TaskState). c.loop-t.states.items ++ (x ∷ rest)) c.state.ensures
          ∙ ap (λ (n : ℕ). c.loop-t.states.items ++ map (task_state s) (places_from c.loop-t.t n)) (sym cut)
          ∙ i.items;
      len = omega (arith, i.len, c.push_reserved.ensures.len);
      room = omega (arith, i.room, c.push_reserved.ensures.capacity);
    }
