-- The rules let the same events come to alike worlds, and what is watched does not look at the number of the clock.
use Rattle.std.proofs.Common.{◌≡◌, ◌+◌, ℕ, zero, suc, List, [], ◌∷◌, Option, Some, None, Bool, true, false, ◌&&◌, ◌||◌}
use Rattle.std.proofs.Common.{not, refl, sym, ◌∙◌, ap, ap₂, cond, count_by}
use Rattle.std.proofs.lemmas.List.Sums.{sum_by-cons}
use Rattle.std.specs.List.{list_all, list_any}
use Rattle.fmp_base.specs.declared.events.Event.{Event}
use Rattle.fmp_base.specs.declared.events.Event.TheVariants as event
use Rattle.fmp_base.specs.declared.events.Line.{Line}
use Rattle.fmp_base.specs.declared.events.Line.TheVariants as line
use Rattle.fmp_base.specs.declared.states.TaskBlock.{TaskBlock}
use Rattle.fmp_base.specs.Meanings.{Meaning, World}
use Rattle.fmp_base.specs.Setups.{setup}
use Rattle.fmp_base.specs.Steps.{Reaction, Nothing, Did, Kept, step}
use Rattle.fmp_base.specs.Systems.{SystemTables}
use Rattle.fmp_bisimulation.specs.Alike.{SameBlocks}
use Rattle.fmp_bisimulation.specs.Closed.{AreAllowed, BothAlike, IsBlind, IsRule, Watch, all_timeless, allowed_after}
use Rattle.fmp_bisimulation.specs.Closed.{timeless}
use Rattle.fmp_schedules.specs.Likeness.{IsLikeness, StatesAlike}
use Rattle.fmp_schedules.specs.Schedules.{IsSchedule, Rules, Watched, watched_at_setup, came_after, are_within}
use Rattle.fmp_schedules.specs.Schedules.{is_any_broken, is_nothing, is_request, is_within, may_come, may_still}
use Rattle.fmp_schedules.specs.Schedules.{may_try, monitors_after, none_runs, stays_within, watch, watched_on}
use Rattle.fmp_schedules.specs.declared.monitor.Monitor.{Monitor}
use Rattle.fmp_schedules.specs.Monitors.{all_let, are_limiting}
use Rattle.fmp_schedules.specs.Tried.{IsTimeless}
use Rattle.fmp_schedules.proofs.MonitorLaws.{any_broken-timeless, limiting-after, monitors-timeless, sentences-let}

nothing-same : {C : Type 0} (R : World C → World C → Type 0) (x y : Reaction C) → BothAlike R x y
    → is_nothing x ≡ is_nothing y
nothing-same R Nothing Nothing h = refl
nothing-same R (Did a) (Did b) h = refl
nothing-same R (Kept p v) (Kept q w) h = refl
nothing-same R Nothing (Did b) h = absurd h
nothing-same R Nothing (Kept q w) h = absurd h
nothing-same R (Did a) Nothing h = absurd h
nothing-same R (Did a) (Kept q w) h = absurd h
nothing-same R (Kept p v) Nothing h = absurd h
nothing-same R (Kept p v) (Did b) h = absurd h

all_within-same : (most now other : ℕ) (xs ys : List TaskBlock) → SameBlocks now other xs ys
    → list_all (is_within most) xs ≡ list_all (is_within most) ys
all_within-same most now other [] [] h = refl
all_within-same most now other (x ∷ xs) (y ∷ ys) (h, k) =
    ap (λ (b : Bool). b && list_all (is_within most) xs) (ap (λ (z : TaskBlock). is_within most z) h.rest)
    ∙ ap (λ (b : Bool). is_within most y && b) (all_within-same most now other xs ys k)
all_within-same most now other [] (y ∷ ys) h = absurd h
all_within-same most now other (x ∷ xs) [] h = absurd h

within-same : (most : Option ℕ) (now other : ℕ) (xs ys : List TaskBlock) → SameBlocks now other xs ys
    → are_within most xs ≡ are_within most ys
within-same None now other xs ys h = refl
within-same (Some most) now other xs ys h = all_within-same most now other xs ys h

module _ {C : Type 0} (sys : SystemTables) (M : Meaning C) (n : ℕ) (R : World C → World C → Type 0)
    (F : World C → Event → Type 0) (like : IsLikeness sys M n R F) where
  -- as much is queued after what the same event does in alike worlds
  stays-same : (most : Option ℕ) (x y : Reaction C) → BothAlike (StatesAlike sys) x y
      → stays_within most x ≡ stays_within most y
  stays-same most Nothing Nothing h = refl
  stays-same most (Did c) (Did d) (lines, s) =
      within-same most _ _ c.world.state.tasks d.world.state.tasks s.tasks
  stays-same most (Kept p v) (Kept q w) h = refl
  stays-same most Nothing (Did d) h = absurd h
  stays-same most Nothing (Kept q w) h = absurd h
  stays-same most (Did c) Nothing h = absurd h
  stays-same most (Did c) (Kept q w) h = absurd h
  stays-same most (Kept p v) Nothing h = absurd h
  stays-same most (Kept p v) (Did d) h = absurd h

  none_runs-same : (v w : World C) → R v w → (processors : ℕ)
      → none_runs sys M n v processors ≡ none_runs sys M n w processors
  none_runs-same v w h zero = refl
  none_runs-same v w h (suc p) =
      ap (λ (b : Bool). b && none_runs sys M n v p)
      (nothing-same (StatesAlike sys) (step sys M n v (event.Run (suc p))) (step sys M n w (event.Run (suc p)))
      (like.always v w (event.Run (suc p)) h))
      ∙ ap (λ (b : Bool). is_nothing (step sys M n w (event.Run (suc p))) && b) (none_runs-same v w h p)

  may_try-same : (rules : Rules) → IsRule R (may_try rules sys M n)
  may_try-same rules v w a (event.Run p) h = refl
  may_try-same rules v w a event.Tick h =
      ap (λ (b : Bool). not rules.idle_ticks || b) (none_runs-same v w h sys.processors)
  may_try-same rules v w a (event.Int i) h = refl

  pub may_come-same : (rules : Rules) → IsRule R (may_come rules sys M n)
  may_come-same rules v w a e h =
      ap₂ (λ (b c : Bool). b && c) (may_try-same rules v w a e h)
      (stays-same rules.queued (step sys M n v e) (step sys M n w e) (like.always v w e h))

request-timeless : (l : Line) → is_request l ≡ is_request (timeless l)
request-timeless (line.Tick clock) = refl
request-timeless l = refl

count-timeless : (ls : List Line) → count_by is_request ls ≡ count_by is_request (all_timeless ls)
count-timeless [] = refl
count-timeless (l ∷ ls) =
    let one : Line → ℕ = λ x. cond (is_request x) 1 0 in
    sum_by-cons one l ls
    ∙ ap (λ (b : Bool). cond b 1 0 + count_by is_request ls) (request-timeless l)
    ∙ ap (λ (k : ℕ). one (timeless l) + k) (count-timeless ls)
    ∙ sym (sum_by-cons one (timeless l) (all_timeless ls))

came-timeless : (most : Option ℕ) (came : ℕ) (ls : List Line)
    → came_after most came ls ≡ came_after most came (all_timeless ls)
came-timeless None came ls = refl
came-timeless (Some most) came ls = ap (λ (k : ℕ). came + k) (count-timeless ls)

module _ (forbidden : Line → Bool) (even : IsTimeless forbidden) where
  forbidden-timeless : (l : Line) → forbidden l ≡ forbidden (timeless l)
  forbidden-timeless (line.Tick clock) = even clock 0
  forbidden-timeless l = refl

  told-timeless : (ls : List Line) → list_any forbidden ls ≡ list_any forbidden (all_timeless ls)
  told-timeless [] = refl
  told-timeless (l ∷ ls) =
      ap (λ (b : Bool). b || list_any forbidden ls) (forbidden-timeless l)
      ∙ ap (λ (b : Bool). forbidden (timeless l) || b) (told-timeless ls)

  watched-timeless : (rules : Rules) (a : Watched) (ls : List Line)
      → watched_on rules forbidden a ls ≡ watched_on rules forbidden a (all_timeless ls)
  watched-timeless rules a ls =
      let with : ℕ → Bool → List Monitor → Bool → Watched =
      λ (came : ℕ) (told : Bool) (monitors : List Monitor) (broken : Bool).
      record { came = came; told = a.told || told; monitors = monitors; broken = a.broken || broken } in
      let ms : List Line = all_timeless ls in
      ap (λ (k : ℕ). with k (list_any forbidden ls) (monitors_after a.monitors ls) (is_any_broken a.monitors ls))
      (came-timeless rules.most a.came ls)
      ∙ ap
      (λ (b : Bool). with (came_after rules.most a.came ms) b (monitors_after a.monitors ls)
      (is_any_broken a.monitors ls))
      (told-timeless ls)
      ∙ ap
      (λ (ss : List Monitor). with (came_after rules.most a.came ms) (list_any forbidden ms) ss
      (is_any_broken a.monitors ls))
      (monitors-timeless a.monitors ls)
      ∙ ap
      (λ (b : Bool). with (came_after rules.most a.came ms) (list_any forbidden ms) (monitors_after a.monitors ms) b)
      (any_broken-timeless a.monitors ls)

  pub watch-blind : (rules : Rules) → IsBlind (watch rules forbidden)
  watch-blind rules a ls ms e =
      watched-timeless rules a ls ∙ ap (λ (l : List Line). watched_on rules forbidden a l) e
      ∙ sym (watched-timeless rules a ms)

-- what holds of each world holds after a reaction, where what is watched is such a one
after-any : {C S : Type 0} (W : Watch S) (P : S → Type 0) (w : World C) (a : S) (x : Reaction C)
    (next : World C → S → Type 0)
    → ((b : S) (ls : List Line) → P b → P (W.next b ls)) → P a → ((v : World C) (b : S) → P b → next v b)
    → allowed_after W w a x next
after-any W P w a Nothing next on is h = h w a is
after-any W P w a (Did d) next on is h = h d.world (W.next a d.lines) (on a d.lines is)
after-any W P w a (Kept p v) next on is h = h v a is

all-allowed : {C S : Type 0} (W : Watch S) (P : S → Type 0) (may : World C → S → Event → Bool)
    (go : World C → Event → Reaction C)
    → ((b : S) (ls : List Line) → P b → P (W.next b ls))
    → ((w : World C) (a : S) (e : Event) → P a → may w a e ≡ true) → (w : World C) (a : S) (es : List Event) → P a
    → AreAllowed W may go w a es
all-allowed W P may go on free w a [] is = tt
all-allowed W P may go on free w a (e ∷ es) is = (
  free w a e is,
  after-any W P w a (go w e) (λ v b. AreAllowed W may go v b es) on is
      (λ v b such. all-allowed W P may go on free v b es such),
)

or-not : (b c : Bool) → b ≡ false → (not b || c) ≡ true
or-not false c h = refl
or-not true c h = cc

still-any : (most : Option ℕ) (came : ℕ) → most ≡ None → may_still most came ≡ true
still-any None came h = refl
still-any (Some most) came h = cc

stays-any : {C : Type 0} (most : Option ℕ) (x : Reaction C) → most ≡ None → stays_within most x ≡ true
stays-any None Nothing h = refl
stays-any None (Did d) h = refl
stays-any None (Kept p w) h = refl
stays-any (Some most) x h = cc

pub both : (b c : Bool) → b ≡ true → c ≡ true → (b && c) ≡ true
both true c h k = k
both false c h k = h

-- no single interrupt is limited
abbrev NoneLimits : Watched → Type 0
NoneLimits a = are_limiting a.monitors ≡ false

pub all-scheduled : {C : Type 0} (rules : Rules) (sys : SystemTables) (M : Meaning C) (n : ℕ) (forbidden : Line → Bool)
    (es : List Event) → rules.idle_ticks ≡ false → rules.most ≡ None → rules.queued ≡ None
    → are_limiting rules.monitors ≡ false → IsSchedule rules sys M n forbidden es
all-scheduled {C} rules sys M n forbidden es ticks most queued limits =
    all-allowed (watch rules forbidden) NoneLimits (may_come rules sys M n) (step sys M n) on free (setup sys M).world
    (watched_at_setup rules sys M forbidden) es (limiting-after rules.monitors (setup sys M).lines ∙ limits) where
      on : (a : Watched) (ls : List Line) → NoneLimits a → NoneLimits (watched_on rules forbidden a ls)
      on a ls is = limiting-after a.monitors ls ∙ is

      tried : (w : World C) (a : Watched) (e : Event) → NoneLimits a → may_try rules sys M n w a e ≡ true
      tried w a (event.Run p) is = refl
      tried w a event.Tick is = or-not rules.idle_ticks (none_runs sys M n w sys.processors) ticks
      tried w a (event.Int i) is =
          both (may_still rules.most a.came) (all_let a.monitors (event.Int i)) (still-any rules.most a.came most)
          (sentences-let a.monitors (event.Int i) is)

      free : (w : World C) (a : Watched) (e : Event) → NoneLimits a → may_come rules sys M n w a e ≡ true
      free w a e is =
          both (may_try rules sys M n w a e) (stays_within rules.queued (step sys M n w e)) (tried w a e is)
          (stays-any rules.queued (step sys M n w e) queued)
