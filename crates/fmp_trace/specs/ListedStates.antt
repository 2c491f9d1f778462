-- The states of the tasks at the end, given as a list.
use Rattle.std.specs.Prelude.{ℕ, ◌≡◌, ◌+◌, List, [], ◌∷◌, ◌++◌, map, length}
use Rattle.fmp_base.specs.declared.events.TaskState.{TaskState}
use Rattle.fmp_base.specs.Runs.{task_state}
use Rattle.fmp_base.specs.States.{KernelState, places_from}
use Rattle.fmp_base.specs.Systems.{SystemTables}
use Rattle.fmp_base.specs.Texts.{state_text, states_text}

-- a line for each state: that of task k, of task k + 1, and so on
abbrev pub listed_states_text : SystemTables → (k : ℕ) → List TaskState → List ℕ
listed_states_text sys k [] = []
listed_states_text sys k (x ∷ xs) = state_text sys k x ++ listed_states_text sys (k + 1) xs

-- the list of the states of all tasks gives the text of the states of a system
abbrev pub ListedStatesAreStates : Type 0
ListedStatesAreStates =
    (sys : SystemTables) (s : KernelState)
    → listed_states_text sys 0 (map (task_state s) (places_from 0 (length sys.tasks))) ≡ states_text sys s
