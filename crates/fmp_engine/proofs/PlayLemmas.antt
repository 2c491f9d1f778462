-- What a run on a kernel prints, piece by piece.
use Rattle.std.proofs.Common.{◌≡◌, ℕ, List, ◌++◌, ap, ◌∙◌, map, length, Result, Ok, Err, OnOk, OnErr}
use Rattle.fmp_base.specs.declared.events.Event.{Event}
use Rattle.fmp_base.specs.Meanings.{Meaning}
use Rattle.fmp_base.specs.declared.events.TaskState.{TaskState}
use Rattle.fmp_base.specs.Runs.{task_state}
use Rattle.fmp_base.specs.Setups.{setup}
use Rattle.fmp_base.specs.States.{KernelState, places_from}
use Rattle.fmp_base.specs.Systems.{SystemTables}
use Rattle.fmp_base.specs.Texts.{lines_text, states_text, whole_text}
use Rattle.fmp_kernel.specs.KernelViews.{KernelView, view_of_setup}
use Rattle.fmp_trace.specs.ListedStates.{listed_states_text}
use Rattle.fmp_trace.proofs.ListedStates.{listed_states_are_states}
use Rattle.fmp_engine.specs.Plays.{state_after, text_of_events}

-- a fact holds on success where one that implies it does
pub on_ok_then : {T E P Q : Type 0} (r : Result T E) → (P → Q) → OnOk r P → OnOk r Q
on_ok_then (Ok x) f p = f p
on_ok_then (Err e) f p = tt

-- the same on an error
pub on_err_then : {T E P Q : Type 0} (r : Result T E) → (P → Q) → OnErr r P → OnErr r Q
on_err_then (Ok x) f p = tt
on_err_then (Err e) f p = f p

module _ {B C : Type 0} (meaning : B → Meaning C) where
  -- setup's lines, the text of the events and that of the states at the end are the whole text
  pub whole : (body : B) (n : ℕ) (sys : SystemTables) (k : KernelView B C) (es : List Event) (first : List ℕ)
      → k ≡ view_of_setup body n sys (setup sys (meaning body)) → first ≡ lines_text sys 0 k.lines
      → first ++ (text_of_events meaning k es ++ states_text sys (state_after meaning k es))
      ≡ whole_text sys (meaning body) n es
  whole body n sys k es first start printed =
      ap (λ (text : List ℕ). text ++ (text_of_events meaning k es ++ states_text sys (state_after meaning k es)))
      printed
      ∙ ap (λ (v : KernelView B C). lines_text sys 0 v.lines ++ (text_of_events meaning v es
      ++ states_text sys (state_after meaning v es))) start

-- the listed states are those that a kernel has at the end
pub listed : (sys : SystemTables) (now : KernelState) (xs : List TaskState) → xs
    ≡ map (task_state now) (places_from 0 (length sys.tasks))
    → listed_states_text sys 0 xs ≡ states_text sys now
listed sys now xs q = ap (λ (ys : List TaskState). listed_states_text sys 0 ys) q ∙ listed_states_are_states sys now
