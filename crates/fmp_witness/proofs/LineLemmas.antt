-- The lines of one more event.
use Rattle.std.proofs.Common.{◌≡◌, ℕ, List, [], ◌∷◌, ◌++◌, refl, sym, ap, ◌∙◌}
use Rattle.fmp_base.specs.declared.events.Event.{Event}
use Rattle.fmp_base.specs.declared.events.Line.{Line}
use Rattle.fmp_base.specs.Meanings.{Meaning, World}
use Rattle.fmp_base.specs.Runs.{run, run_on}
use Rattle.fmp_base.specs.Setups.{setup}
use Rattle.fmp_base.specs.Steps.{Reaction, Nothing, Did, Kept, step}
use Rattle.fmp_base.specs.Systems.{SystemTables}
use Rattle.fmp_image_bytes.specs.Images.{ImageTables}
use Rattle.fmp_instructions.specs.Machine.{code_meaning}
use Rattle.fmp_instructions.specs.declared.instructions.MachineContext.{MachineContext}
use Rattle.fmp_replay.specs.Replays.{reaction}
use Rattle.fmp_replay.proofs.Replaying.{world_of}
use Rattle.fmp_schedules.specs.Schedules.{lines_after}

abbrev pub lines_of : {C : Type 0} → Reaction C → List (List Line)
lines_of Nothing = []
lines_of (Did d) = d.lines ∷ []
lines_of (Kept p w) = []

module _ {C : Type 0} (sys : SystemTables) (M : Meaning C) (n : ℕ) where
  one-event : (w : World C) (r : Reaction C)
      → (run_on w r (λ v. record { world = v; events = [] })).events ≡ lines_of r
  one-event w Nothing = refl
  one-event w (Did d) = refl
  one-event w (Kept p v) = refl

  run-events : (w : World C) (es : List Event) (e : Event)
      → (run sys M n w (es ++ e ∷ [])).events
      ≡ (run sys M n w es).events ++ lines_of (step sys M n (run sys M n w es).world e)
  run-events w [] e = one-event w (step sys M n w e)
  run-events w (x ∷ es) e = by_reaction (step sys M n w x) (λ v. run-events v es e) where
    by_reaction : (r : Reaction C)
        → ((v : World C) → (run sys M n v (es ++ e ∷ [])).events
        ≡ (run sys M n v es).events ++ lines_of (step sys M n (run sys M n v es).world e))
        → (run_on w r (λ v. run sys M n v (es ++ e ∷ []))).events
        ≡ (run_on w r (λ v. run sys M n v es)).events
        ++ lines_of (step sys M n (run_on w r (λ v. run sys M n v es)).world e)
    by_reaction Nothing rest = rest w
    by_reaction (Did d) rest = ap (λ (xs : List (List Line)). d.lines ∷ xs) (rest d.world)
    by_reaction (Kept p v) rest = rest v

module _ (i : ImageTables) (n : ℕ) where
  abbrev pub lines_to : List Event → List (List Line)
  lines_to es = lines_after i.system (code_meaning i.code) n es

  pub lines_last : (es : List Event) (e : Event) (r : Reaction MachineContext) → reaction i n es e ≡ r
      → lines_to (es ++ e ∷ []) ≡ lines_to es ++ lines_of r
  unfolding reaction
  lines_last es e r h =
      let M : Meaning MachineContext = code_meaning i.code in
      let before : List (List Line) = (run i.system M n (setup i.system M).world es).events in
      ap (λ (xs : List (List Line)). (setup i.system M).lines ∷ xs)
      (run-events i.system M n (setup i.system M).world es e
      ∙ ap (λ (w : World MachineContext). before ++ lines_of (step i.system M n w e)) (sym (world_of i n es))
      ∙ ap (λ (x : Reaction MachineContext). before ++ lines_of x) h)
