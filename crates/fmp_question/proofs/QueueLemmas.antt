-- Whether a number limits what is queued, of one task after the other.
use Rattle.std.proofs.Common.{◌≡◌, ◌<◌, ◌+◌, ℕ, zero, suc, List, [], ◌∷◌, Bool, true, false, ◌&&◌, refl, sym, ◌∙◌, ap}
use Rattle.std.proofs.Common.{arith, drop, length}
use Rattle.std.specs.List.{list_all}
use Rattle.fmp_base.specs.declared.states.TaskBlock.{TaskBlock}
use Rattle.fmp_base.specs.States.{task_at}

-- one task more
at-place : (f : TaskBlock → Bool) (tasks : List TaskBlock) (t : ℕ) → t < length tasks
    → list_all f (drop t tasks) ≡ (f (task_at tasks t) && list_all f (drop (suc t) tasks))
at-place f [] t there = absurd (omega (arith, there))
at-place f (x ∷ xs) zero there = refl
at-place f (x ∷ xs) (suc t) there = at-place f xs t (omega (arith, there))

module _ (f : TaskBlock → Bool) (tasks : List TaskBlock) (t : ℕ) (x : TaskBlock) (b : Bool) (there : t < length tasks)
    (so_far : list_all f (drop t tasks) ≡ list_all f tasks) (at : x ≡ task_at tasks t) (is : b ≡ f x) where
  all : list_all f tasks ≡ (b && list_all f (drop (t + 1) tasks))
  all =
      let after : suc t ≡ t + 1 = omega arith in
      sym so_far ∙ at-place f tasks t there
      ∙ ap (λ (k : ℕ). f (task_at tasks t) && list_all f (drop k tasks)) after
      ∙ ap (λ (c : Bool). c && list_all f (drop (t + 1) tasks)) (ap f (sym at) ∙ sym is)

  -- a task is not so
  pub none-here : b ≡ false → false ≡ list_all f tasks
  none-here fails = sym (all ∙ ap (λ (c : Bool). c && list_all f (drop (t + 1) tasks)) fails)

  -- a task is so, and the rest decides
  pub one-here : b ≡ true → list_all f (drop (t + 1) tasks) ≡ list_all f tasks
  one-here holds = sym (all ∙ ap (λ (c : Bool). c && list_all f (drop (t + 1) tasks)) holds)
