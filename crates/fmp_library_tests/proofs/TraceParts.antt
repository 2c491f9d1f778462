-- A run in parts: what follows a part is the run from the world at its end.
use Rattle.std.proofs.Common.{◌≡◌, refl, ap, subst, ◌∙◌, ℕ, ◌+◌, ◌-◌, List, [], ◌∷◌, ◌++◌, length, drop}
use Rattle.std.proofs.Math.Seq.{drop-append-add}
use Rattle.fmp_base.specs.declared.events.Event.{Event}
use Rattle.fmp_base.specs.declared.events.Line.{Line}
use Rattle.fmp_base.specs.Meanings.{Meaning, World}
use Rattle.fmp_base.specs.Runs.{Trace, after_first, run, run_on}
use Rattle.fmp_base.specs.Setups.{setup}
use Rattle.fmp_base.specs.Steps.{Reaction, Nothing, Did, Kept, step}
use Rattle.fmp_base.specs.Systems.{SystemTables}
use Rattle.fmp_base.specs.Texts.{events_text}
use Rattle.fmp_tasklang.specs.Texts.{text_meaning}
use Rattle.fmp_tasklang.specs.Trees.{BodyTree}
use Rattle.fmp_library_tests.specs.TraceBuilders.{printed_from}

-- a run, and after it another
abbrev joined : {C : Type 0} → Trace C → Trace C → Trace C
joined r q = record q { events = r.events ++ q.events }

-- the two parts of a run from a world
abbrev Parts : {C : Type 0} → SystemTables → Meaning C → ℕ → (es fs : List Event) → World C → Type 0
Parts sys M bound es fs w = run sys M bound w (es ++ fs) ≡ joined (run sys M bound w es)
    (run sys M bound (run sys M bound w es).world fs)

parts_on :
    {C : Type 0} (sys : SystemTables) (M : Meaning C) (bound : ℕ) (es fs : List Event) →
    ((v : World C) → Parts sys M bound es fs v) →
    (w : World C) (o : Reaction C) →
    run_on w o (λ v. run sys M bound v (es ++ fs)) ≡
    joined (run_on w o (λ v. run sys M bound v es)) (run sys M bound (run_on w o (λ v. run sys M bound v es)).world fs)
parts_on sys M bound es fs rest w Nothing = rest w
parts_on sys M bound es fs rest w (Did d) = ap (after_first d.lines) (rest d.world)
parts_on sys M bound es fs rest w (Kept p v) = rest v

parts : {C : Type 0} (sys : SystemTables) (M : Meaning C) (bound : ℕ) (es fs : List Event) (w : World C)
    → Parts sys M bound es fs w
parts sys M bound [] fs w = refl
parts sys M bound (e ∷ es) fs w = parts_on sys M bound es fs (parts sys M bound es fs) w (step sys M bound w e)

-- the world at the end of a part, and how many of its events did something
pub record Arrival (C : Type 0) : Type 0 where
  pub world : World C
  pub count : ℕ

-- where a run arrives
abbrev pub arrival : {C : Type 0} → Trace C → Arrival C
arrival r = record { world = r.world; count = length r.events }

-- the lines of the events of a run
unfoldable pub events_from : {C : Type 0} → SystemTables → Meaning C → ℕ → World C → List Event → List (List Line)
events_from sys M bound w es = (run sys M bound w es).events

-- the lines after the events of a part are those of the run from its end
pub after_part :
    {C : Type 0} (sys : SystemTables) (M : Meaning C) (bound : ℕ) (es fs : List Event) (w : World C) (a : Arrival C)
    (k : ℕ) →
    arrival (run sys M bound w es) ≡ a →
    drop (a.count + k) (events_from sys M bound w (es ++ fs)) ≡ drop k (events_from sys M bound a.world fs)
unfolding events_from
after_part sys M bound es fs w a k arrives =
    let r = run sys M bound w es in
    subst
    (λ b. drop (b.count + k) (run sys M bound w (es ++ fs)).events ≡ drop k (run sys M bound b.world fs).events)
    arrives
    (ap (λ q. drop (length r.events + k) q.events) (parts sys M bound es fs w)
    ∙ drop-append-add r.events (run sys M bound r.world fs).events k)

-- what is printed is the text of those lines
pub printed_from-events :
    (k : ℕ) (sys : SystemTables) (bodies : List BodyTree) (bound : ℕ) (es : List Event) →
    printed_from k sys bodies bound es ≡
    events_text sys k (drop (k - 1) (events_from sys (text_meaning sys bodies) bound
    (setup sys (text_meaning sys bodies)).world es))
unfolding events_from
printed_from-events k sys bodies bound es = refl
