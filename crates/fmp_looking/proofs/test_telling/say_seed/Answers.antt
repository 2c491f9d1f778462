use Rattle.std.proofs.Common.{◌≡◌, ◌++◌, ◌∷◌, [], ℕ, List, Option, length, rules, subst}
use Rattle.std.specs.Prelude.{codes, decimal}
use Rattle.fmp_files.specs.Deeds.{Deed, Does, said}
use Rattle.fmp_trials.specs.declared.testing.FailedTrial.{FailedTrial}
use Rattle.fmp_looking.specs.TestLines.{seed_line, shorter_still}
use Rattle.fmp_looking.proofs.test_telling.say_seed.Goals as goal

abbrev line : FailedTrial → (left : ℕ) → (end : List ℕ) → List ℕ
line t left end =
    codes "seed "
    ++ (decimal t.seed
    ++ (codes ": "
    ++ (decimal t.drawn ++ (codes " events, made shorter to " ++ (decimal left ++ (end ++ codes "\n"))))))

seed_said : (t : FailedTrial) (left : ℕ) (end : List ℕ) (before after : Option (List Deed))
    → Does before (said (line t left end) ∷ []) after → left ≡ length t.run.steps.items
    → end ≡ shorter_still t.shortest → Does before (said (seed_line t) ∷ []) after
seed_said t left end before after h many ends =
    subst (λ (e : List ℕ). Does before (said (line t (length t.run.steps.items) e) ∷ []) after) ends
    (subst (λ (n : ℕ). Does before (said (line t n end) ∷ []) after) many h)

pub returns : goal.returns
returns g c =
    seed_said c.args.trial.now c.len-left.result c.shorter_still-end.result.now _ _ c.say_shortened.ensures
    (search rules) c.shorter_still-end.ensures
