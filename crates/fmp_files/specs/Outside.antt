-- What is known of the files outside of a program.
use Rattle.std.specs.Prelude.{ℕ, Bool, true, List, Option, None}

-- their bytes by name, where these are known; on which of them a call can fail; and whether the system says of two
-- names that they lead to one file, where that is known
pub record Files : Type 0 where
  pub bytes : List ℕ → Option (List ℕ)
  pub can_fail : List ℕ → Bool
  pub says_one : List ℕ → List ℕ → Option Bool

-- nothing is known
abbrev pub unknown_files : Files
unknown_files = record { bytes = λ _. None; can_fail = λ _. true; says_one = λ _ _. None }
