-- The states of all tasks, listed and taken one by one.
use Rattle.std.proofs.Common.{ℕ, zero, suc, ◌+◌, ◌≡◌, ◌++◌, map, length, refl, ap}
use Rattle.fmp_base.specs.Runs.{task_state}
use Rattle.fmp_base.specs.States.{KernelState, places_from}
use Rattle.fmp_base.specs.Systems.{SystemTables}
use Rattle.fmp_base.specs.Texts.{state_text, states_of}
use Rattle.fmp_trace.specs.ListedStates.{listed_states_text, ListedStatesAreStates}

-- the n tasks from task k on
listed_from : (sys : SystemTables) (s : KernelState) (n k : ℕ)
    → listed_states_text sys k (map (task_state s) (places_from k n)) ≡ states_of sys s (places_from k n)
listed_from sys s zero k = refl
listed_from sys s (suc n) k = ap (λ text. state_text sys k (task_state s k) ++ text) (listed_from sys s n (k + 1))

pub listed_states_are_states : ListedStatesAreStates
listed_states_are_states sys s = listed_from sys s (length sys.tasks) 0
