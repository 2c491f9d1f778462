use Rattle.std.proofs.Common.{◌∙◌, ◌≡◌, ap, subst, ℕ, List, [], ◌++◌, map, length, vec_len, rules}
use Rattle.fmp_base.specs.declared.events.TaskState.{TaskState}
use Rattle.fmp_base.specs.Runs.{task_state}
use Rattle.fmp_base.specs.States.{places_from}
use Rattle.fmp_base.specs.Systems.{tables_of}
use Rattle.fmp_base.specs.Texts.{states_text}
use Rattle.fmp_trace.specs.ListedStates.{listed_states_text}
use Rattle.fmp_engine.specs.Outlets.{Given, GivenFront}
use Rattle.fmp_engine.proofs.PlayLemmas.{listed, on_err_then, on_ok_then}
use Rattle.fmp_engine.proofs.play.give_states.Goals as goal

pub returns-clause-ok : goal.returns-clause-ok
returns-clause-ok g c =
    let sys = tables_of c.args.sys.now in
    let now = c.args.kernel.now.world.state in
    let before = c.args.buffers.now.text.items in
    let count : vec_len c.args.sys.now.tasks ≡ length c.args.sys.now.tasks.items = search rules in
    let printed : c.print_states.new.out.items ≡ before ++ listed_states_text sys 0 c.as_slice.result.now = search
    rules in
    let states : c.print_states.new.out.items ≡ before ++ states_text sys now =
    printed
    ∙ ap (λ (xs : List TaskState). before ++ listed_states_text sys 0 xs) c.as_slice.ensures.value
    ∙ ap (λ (text : List ℕ). before ++ text)
    (listed sys now c.put_states.new.states.items
    (c.put_states.ensures.states ∙ ap (λ (n : ℕ). map (task_state now) (places_from 0 n)) (c.len.ensures ∙ count))) in
    on_ok_then c.give_all.result (λ h. subst (λ (text : List ℕ). Given g.T.Outlet.gave c.args.outlet.now
    c.give_all.new.outlet [] text) states h)
    c.give_all.ensures.ok

pub returns-clause-err : goal.returns-clause-err
returns-clause-err g c =
    let sys = tables_of c.args.sys.now in
    let now = c.args.kernel.now.world.state in
    let before = c.args.buffers.now.text.items in
    let count : vec_len c.args.sys.now.tasks ≡ length c.args.sys.now.tasks.items = search rules in
    let printed : c.print_states.new.out.items ≡ before ++ listed_states_text sys 0 c.as_slice.result.now = search
    rules in
    let states : c.print_states.new.out.items ≡ before ++ states_text sys now =
    printed
    ∙ ap (λ (xs : List TaskState). before ++ listed_states_text sys 0 xs) c.as_slice.ensures.value
    ∙ ap (λ (text : List ℕ). before ++ text)
    (listed sys now c.put_states.new.states.items
    (c.put_states.ensures.states ∙ ap (λ (n : ℕ). map (task_state now) (places_from 0 n)) (c.len.ensures ∙ count))) in
    on_err_then c.give_all.result (λ h. subst (λ (text : List ℕ). GivenFront g.T.Outlet.stopped c.args.outlet.now
    c.give_all.new.outlet text) states h)
    c.give_all.ensures.err
