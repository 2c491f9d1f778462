use Rattle.std.proofs.Common.{◌≡◌, ◌<◌, ◌≤◌, ℤ, List, [], true, length, nat_lt, get_or, sym, subst, arith}
use Rattle.std.proofs.lemmas.List.{get_or_read}
use Rattle.fmp_base.specs.Systems.{tables_of, data_queue_config}
use Rattle.fmp_tasks.proofs.WordLemmas.{below-capacity, capacity-few}
use Rattle.fmp_tasks.proofs.kernel_state.KernelState.append_word.Goals as goal

pub append-requires : goal.append-requires
append-requires c =
    let there : c.args.d < length c.self.inside.system.data_queues.items = rw (← c.self.view_is) at c.requires.there in
    let here : c.args.d < length c.self.inside.words.items = rw c.self.invariant.data_queues there in
    let is : c.index_mut.result.now ≡ get_or c.self.inside.words.items c.args.d [] = get_or_read _ _ _ here
    c.index_mut.ensures.value [] in
    let room : nat_lt (length (get_or c.self.inside.words.items c.args.d []))
    (data_queue_config (tables_of c.self.inside.system) c.args.d).capacity
    ≡ true =
    rw (← c.self.view_is) at c.requires.room in
    let below : length (get_or c.self.inside.words.items c.args.d []) <
    (data_queue_config (tables_of c.self.inside.system) c.args.d).capacity = below-capacity _ _ room in
    let most : (data_queue_config (tables_of c.self.inside.system) c.args.d).capacity ≤ 255 = capacity-few
    (tables_of c.self.inside.system) c.args.d c.self.invariant.system in
    let few : length (get_or c.self.inside.words.items c.args.d []) < 255 = omega arith in
    subst (λ (ws : List ℤ). length ws < 255) (sym is) few
