-- What is said of random runs.
use Rattle.std.specs.Prelude.{ℕ, List, [], ◌∷◌, ◌++◌, Bool, true, false, codes, decimal, length}
use Rattle.std.specs.Str.Lossy.{utf8_lossy}
use Rattle.fmp_files.specs.Deeds.{Deed, said}
use Rattle.fmp_trials.specs.declared.testing.FailedTrial.{FailedTrial}

-- none of this many runs fails
abbrev pub none_line : (seeds : ℕ) → List ℕ
none_line seeds = codes "none of " ++ (decimal seeds ++ codes " runs fails; nothing is claimed of other runs\n")

abbrev pub shorter_still : (shortest : Bool) → List ℕ
shorter_still true = []
shorter_still false = codes "; it may get shorter still"

-- the seed of a run that fails, how many events it had, and how many are left
abbrev pub seed_line : FailedTrial → List ℕ
seed_line t =
    codes "seed "
    ++ (decimal t.seed
    ++ (codes ": "
    ++ (decimal t.drawn
    ++ (codes " events, made shorter to "
    ++ (decimal (length t.run.steps.items) ++ (shorter_still t.shortest ++ codes "\n"))))))

-- lines are said at once, if there are some
abbrev pub lines_said : (lines : List ℕ) → List Deed
lines_said [] = []
lines_said (b ∷ bs) = said (utf8_lossy (b ∷ bs)) ∷ []
