use Rattle.std.proofs.Common.{◌≡◌, ◌<◌, ◌≤◌, ◌+◌, length, subst, ℕ, zero, suc, List, [], ◌∷◌, Option, None, get_or, map}
use Rattle.std.proofs.Common.{ap, ◌∙◌, sym, arith}
use Rattle.std.specs.Prelude.{IfSome}
use Rattle.fmp_base.specs.declared.states.TaskBlock.{TaskBlock}
use Rattle.fmp_base.specs.Systems.{tables_of}
use Rattle.fmp_tasks.specs.Homes.{Fits}
use Rattle.fmp_tasks.proofs.SoundLemmas.{read-at}
use Rattle.fmp_tasks.proofs.TopLemmas.{Fits-at}
use Rattle.fmp_tasks.proofs.kernel_state.KernelState.task.Goals as goal

pub returns-clause-fits : goal.returns-clause-fits
returns-clause-fits c =
    let there : c.args.t < length c.self.inside.system.tasks.items = rw (← c.self.view_is) at c.requires in
    let l : c.args.t < length c.self.inside.blocks.items = subst (λ (n : ℕ). c.args.t < n)
    c.self.invariant.tasks.configs there in
    rw (← c.self.view_is) (subst (Fits (tables_of c.self.inside.system)) (read-at _ _ _ l c.index.ensures)
    (Fits-at c.args.t c.self.invariant.tasks.blocks l))

read-deadline : (xs : List TaskBlock) (t : ℕ) (x : TaskBlock) → t < length xs → x ≡ get_or xs t x
    → get_or (map (λ (y : TaskBlock). y.deadline) xs) t None ≡ x.deadline
read-deadline [] t x l e = absurd (omega arith)
read-deadline (y ∷ ys) zero x l e = ap (λ (z : TaskBlock). z.deadline) (sym e)
read-deadline (y ∷ ys) (suc t) x l e = read-deadline ys t x (omega arith) e

pub returns-clause-later : goal.returns-clause-later
returns-clause-later c =
    let there : c.args.t < length c.self.inside.system.tasks.items = rw (← c.self.view_is) at c.requires in
    let l : c.args.t < length c.self.inside.blocks.items = subst (λ (n : ℕ). c.args.t < n)
    c.self.invariant.tasks.configs there in
    let is : get_or c.self.inside.deadlines c.args.t None ≡ c.index.result.now.deadline =
    ap (λ (ds : List (Option ℕ)). get_or ds c.args.t None) c.self.invariant.tasks.deadlines_kept
    ∙ read-deadline _ _ _ l c.index.ensures in
    rw (← c.self.view_is) (subst (λ (o : Option ℕ). IfSome o (λ w. c.self.inside.clock + 1 ≤ w)) is
    (c.self.invariant.later c.args.t))
