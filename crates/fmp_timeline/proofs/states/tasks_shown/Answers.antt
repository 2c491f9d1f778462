use Rattle.std.proofs.Common.{◌≡◌, ℕ, ◌+◌, List, [], ◌∷◌, ◌++◌, ◌∙◌, sym, arith, ap, get_or, map}
use Rattle.std.specs.List.{range_with_len}
use Rattle.std.proofs.lemmas.List.FromFn.{map-range_with_len_more}
use Rattle.fmp_timeline.specs.Shown.{task_shown, no_state, no_block}
use Rattle.fmp_timeline.proofs.states.tasks_shown.Goals as goal

-- what a function says of each place, with one place more
one_more : {A : Type 0} (f : ℕ → A) (n : ℕ) (xs ys : List A) (x : A) → xs ≡ map f (range_with_len 0 n) → ys ≡ xs ++ x
    ∷ [] → x ≡ f n
    → ys ≡ map f (range_with_len 0 (n + 1))
one_more f n xs ys x before push value =
    push ∙ ap (λ zs. zs ++ x ∷ []) before ∙ ap (λ y. map f (range_with_len 0 n) ++ y ∷ []) value
    ∙ sym (map-range_with_len_more f 0 n n (omega arith))

pub loop-task-preserved : goal.loop-task-preserved
loop-task-preserved c =
    one_more (λ t. task_shown t (get_or c.args.states.now t no_state) (get_or c.args.blocks.now t no_block)
    c.args.processors.now)
    _ _ _ _ c.loop-task.invariant c.in_ok-push.ensures.items c.shown_at.ensures
