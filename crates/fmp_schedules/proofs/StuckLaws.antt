-- A closed set in whose worlds no forbidden line was told shows that none is told behind events that lead to it.
use Rattle.std.proofs.Common.{◌≡◌, ◌+◌, ◌⊎◌, ℕ, List, [], ◌∷◌, Option, Some, None, Bool, true, false, ◌&&◌, ◌||◌}
use Rattle.std.proofs.Common.{nat_lt, refl, sym, ◌∙◌, ap, ap₂, count_by, inl, inr}
use Rattle.std.specs.List.{list_any}
use Rattle.fmp_base.specs.declared.events.Event.{Event}
use Rattle.fmp_base.specs.declared.events.Event.TheVariants as event
use Rattle.fmp_base.specs.declared.events.Line.{Line}
use Rattle.fmp_base.specs.Meanings.{Meaning, World}
use Rattle.fmp_base.specs.Runs.{run}
use Rattle.fmp_base.specs.Steps.{Reaction, Nothing, Did, Kept, step}
use Rattle.fmp_base.specs.Systems.{SystemTables}
use Rattle.fmp_bisimulation.specs.Closed.{AreAllowed, IsCovered, NoneIsBad, allowed_after, watched}
use Rattle.fmp_schedules.specs.Likeness.{IsClosedUnder, IsLikeness}
use Rattle.fmp_schedules.specs.Deadlocks.{is_interrupt}
use Rattle.fmp_schedules.specs.Schedules.{Rules, Watched, came_after, is_request, is_told, may_come, may_still, may_try}
use Rattle.fmp_schedules.specs.Schedules.{monitors_after, reached, stays_within, watch, watched_on}
use Rattle.fmp_schedules.specs.Monitors.{all_let}
use Rattle.fmp_schedules.specs.declared.monitor.Monitor.{Monitor}
use Rattle.fmp_schedules.specs.Stuck.{MayFollow}
use Rattle.fmp_schedules.specs.Tried.{IsTimeless}
use Rattle.fmp_schedules.proofs.HoldLaws.{neither, told-watched}
use Rattle.fmp_schedules.proofs.IdleLaws.{and-first, and-second}
use Rattle.fmp_schedules.proofs.RuleLaws.{both, may_come-same}
use Rattle.fmp_schedules.proofs.TriedLaws.{under-covers}

-- as many interrupts came, where their number is limited
abbrev pub SameCame : Option ℕ → (came other : ℕ) → Type 0
SameCame None came other = Unit {0}
SameCame (Some most) came other = came ≡ other

still-too : (most : Option ℕ) (came other : ℕ) → SameCame most came other → may_still most came ≡ may_still most other
still-too None came other same = refl
still-too (Some most) came other same = ap (λ (k : ℕ). nat_lt k most) same

came-too : (most : Option ℕ) (came other : ℕ) (ls : List Line) → SameCame most came other
    → SameCame most (came_after most came ls) (came_after most other ls)
came-too None came other ls same = tt
came-too (Some most) came other ls same = ap (λ (k : ℕ). k + count_by is_request ls) same

-- the second monitors are the same, or none: they hold no more back
abbrev pub AreLooser : List Monitor → List Monitor → Type 0
AreLooser ms ns = (ns ≡ ms) ⊎ (ns ≡ [])

looser-lets : (ms ns : List Monitor) (e : Event) → AreLooser ms ns → all_let ms e ≡ true → all_let ns e ≡ true
looser-lets ms ns e (inl same) h = ap (λ (xs : List Monitor). all_let xs e) same ∙ h
looser-lets ms ns e (inr none) h = ap (λ (xs : List Monitor). all_let xs e) none

looser-after : (ms ns : List Monitor) (ls : List Line) → AreLooser ms ns
    → AreLooser (monitors_after ms ls) (monitors_after ns ls)
looser-after ms ns ls (inl same) = inl (ap (λ (xs : List Monitor). monitors_after xs ls) same)
looser-after ms ns ls (inr none) = inr (ap (λ (xs : List Monitor). monitors_after xs ls) none)

module _ {C : Type 0} (rules : Rules) (sys : SystemTables) (M : Meaning C) (n : ℕ) where
  -- where b is watched, as many interrupts came, and no more is held back
  pub record Looser (a b : Watched) : Type 0 where
    pub came : SameCame rules.most a.came b.came
    pub monitors : AreLooser a.monitors b.monitors

  may_try-too : (w : World C) (a b : Watched) (e : Event) → Looser a b → may_try rules sys M n w a e ≡ true
      → may_try rules sys M n w b e ≡ true
  may_try-too w a b (event.Run p) more h = refl
  may_try-too w a b event.Tick more h = h
  may_try-too w a b (event.Int i) more h =
      both (may_still rules.most b.came) (all_let b.monitors (event.Int i))
      (sym (still-too rules.most a.came b.came more.came)
      ∙ and-first (may_still rules.most a.came) (all_let a.monitors (event.Int i)) h)
      (looser-lets a.monitors b.monitors (event.Int i) more.monitors
      (and-second (may_still rules.most a.came) (all_let a.monitors (event.Int i)) h))

  may_come-too : (w : World C) (a b : Watched) (e : Event) → Looser a b → may_come rules sys M n w a e ≡ true
      → may_come rules sys M n w b e ≡ true
  may_come-too w a b e more h =
      let stays : Bool = stays_within rules.queued (step sys M n w e) in
      both (may_try rules sys M n w b e) stays
      (may_try-too w a b e more (and-first (may_try rules sys M n w a e) stays h))
      (and-second (may_try rules sys M n w a e) stays h)

  module _ (f g : Line → Bool) where
    abbrev Allowed : (Line → Bool) → World C → Watched → List Event → Type 0
    Allowed forbidden w a es = AreAllowed (watch rules forbidden) (may_come rules sys M n) (step sys M n) w a es

    allowed-after : (w : World C) (a b : Watched) (es : List Event) (x : Reaction C)
        → ((v : World C) (c d : Watched) → Looser c d → Allowed f v c es → Allowed g v d es)
        → Looser a b → allowed_after (watch rules f) w a x (λ v c. Allowed f v c es)
        → allowed_after (watch rules g) w b x (λ v c. Allowed g v c es)
    allowed-after w a b es Nothing more loose h = more w a b loose h
    allowed-after w a b es (Did d) more loose h =
        more d.world (watched_on rules f a d.lines) (watched_on rules g b d.lines)
        (record {
          came = came-too rules.most a.came b.came d.lines loose.came;
          monitors = looser-after a.monitors b.monitors d.lines loose.monitors;
        })
        h
    allowed-after w a b es (Kept p v) more loose h = more v a b loose h

    -- the same events may come, whatever lines are forbidden, where no more is held back
    pub allowed-too : (w : World C) (a b : Watched) (es : List Event) → Looser a b → Allowed f w a es → Allowed g w b es
    allowed-too w a b [] loose h = tt
    allowed-too w a b (e ∷ es) loose (now, later) = (
      may_come-too w a b e loose now,
      allowed-after w a b es (step sys M n w e) (λ v c d s h. allowed-too v c d es s h) loose later,
    )

module _ {C : Type 0} (rules : Rules) (sys : SystemTables) (M : Meaning C) (n : ℕ) (forbidden : Line → Bool)
    (K : World C → Watched → Type 0) (even : IsTimeless forbidden) (R : World C → World C → Type 0)
    (F : World C → Event → Type 0) (like : IsLikeness sys M n R F)
    (closed : IsClosedUnder R (watch rules forbidden) (may_come rules sys M n) (step sys M n) K)
    (clean : NoneIsBad (watch rules forbidden) K) where
  -- behind events whose world is like one of the set, where nothing is held back, no forbidden line is told
  pub none-behind : (es more : List Event) (a : Watched) → a.told ≡ false → a.monitors ≡ []
      → SameCame rules.most (count_by is_interrupt es) a.came → IsCovered R K (reached sys M n es) a
      → MayFollow rules sys M n es more → is_told forbidden (run sys M n (reached sys M n es) more).events ≡ false
  none-behind es more a untold none same first follow =
      let w : World C = reached sys M n es in
      let events : List (List Line) = (run sys M n (reached sys M n es) more).events in
      let b : Watched = watched (watch rules forbidden) a (run sys M n (reached sys M n es) more).events in
      let k = under-covers R (watch rules forbidden) K (may_come rules sys M n)
      (may_come-same sys M n R F like rules) sys M n closed
      (reached sys M n es) a more
      (allowed-too rules sys M n (λ (l : Line). false) forbidden (reached sys M n es)
      (record { came = count_by is_interrupt es; told = false; monitors = []; broken = false }) a more
      (record { came = same; monitors = inl none }) follow)
      first in
      ap (λ (told : Bool). told || is_told forbidden (run sys M n (reached sys M n es) more).events) (sym untold)
      ∙ sym (told-watched rules forbidden a (run sys M n (reached sys M n es) more).events)
      ∙ (neither b.told b.broken (clean k.world b k.kept)).0

-- what is told of lines that are the same
any-too : (f g : Line → Bool) → ((l : Line) → f l ≡ g l) → (ls : List Line) → list_any f ls ≡ list_any g ls
any-too f g same [] = refl
any-too f g same (l ∷ ls) = ap₂ (λ (a b : Bool). a || b) (same l) (any-too f g same ls)

pub told-too : (f g : Line → Bool) → ((l : Line) → f l ≡ g l) → (events : List (List Line))
    → is_told f events ≡ is_told g events
told-too f g same [] = refl
told-too f g same (ls ∷ events) = ap₂ (λ (a b : Bool). a || b) (any-too f g same ls) (told-too f g same events)
