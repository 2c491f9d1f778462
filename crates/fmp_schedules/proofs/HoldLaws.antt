-- A closed set shows what holds along all schedules.
use Rattle.std.proofs.Common.{◌≡◌, ◌+◌, ℕ, List, [], ◌∷◌, Option, Some, None, Bool, true, false, ◌||◌, nat_lt, refl}
use Rattle.std.proofs.Common.{sym, ◌∙◌, ap, subst, count_by, arith}
use Rattle.std.proofs.lemmas.List.Sums.{sum_by-cons}
use Rattle.std.specs.List.{list_any}
use Rattle.fmp_base.specs.declared.events.Event.{Event}
use Rattle.fmp_base.specs.declared.events.Line.{Line}
use Rattle.fmp_base.specs.Meanings.{Meaning, World}
use Rattle.fmp_base.specs.Setups.{setup}
use Rattle.fmp_base.specs.Steps.{step}
use Rattle.fmp_base.specs.Systems.{SystemTables}
use Rattle.fmp_bisimulation.specs.Closed.{IsCovered, NoneIsBad, watched}
use Rattle.fmp_schedules.specs.Likeness.{IsClosedUnder, IsLikeness}
use Rattle.fmp_schedules.specs.Deadlocks.{IsDeadlock}
use Rattle.fmp_schedules.specs.Schedules.{Holds, IsSchedule, Rules, Watched, at_first, watched_at_setup, is_any_broken}
use Rattle.fmp_schedules.specs.Schedules.{is_request, is_told, lines_after, may_come, may_still, requests}
use Rattle.fmp_schedules.specs.Schedules.{monitors_after, watch, watched_on, reached}
use Rattle.fmp_schedules.specs.declared.monitor.Monitor.{Monitor}
use Rattle.fmp_schedules.specs.Tried.{IsSearched, IsTimeless, NoneBreaks, NoneIsDeadlock}
use Rattle.fmp_schedules.proofs.DeadlockLaws.{deadlock-alike}
use Rattle.fmp_schedules.proofs.RuleLaws.{may_come-same, watch-blind}
use Rattle.fmp_schedules.proofs.MonitorLaws.{any-along, any_broken_along, any_broken_in-alike, none-along}
use Rattle.fmp_schedules.proofs.TriedLaws.{tried-under, under-covers}

pub or-none : (a : Bool) → a ≡ (a || false)
or-none true = refl
or-none false = refl

or-assoc : (a b c : Bool) → ((a || b) || c) ≡ (a || (b || c))
or-assoc true b c = refl
or-assoc false b c = refl

pub told-watched : (rules : Rules) (forbidden : Line → Bool) (a : Watched) (events : List (List Line))
    → (watched (watch rules forbidden) a events).told ≡ (a.told || is_told forbidden events)
told-watched rules forbidden a [] = or-none a.told
told-watched rules forbidden a (ls ∷ rest) =
    told-watched rules forbidden (watched_on rules forbidden a ls) rest
    ∙ or-assoc a.told (list_any forbidden ls) (is_told forbidden rest)

-- whether a line broke a sentence
broken-watched : (rules : Rules) (forbidden : Line → Bool) (a : Watched) (events : List (List Line))
    → (watched (watch rules forbidden) a events).broken ≡ (a.broken || any_broken_along a.monitors events)
broken-watched rules forbidden a [] =
    or-none a.broken ∙ ap (λ (b : Bool). a.broken || b) (sym (none-along a.monitors))
broken-watched rules forbidden a (ls ∷ rest) =
    broken-watched rules forbidden (watched_on rules forbidden a ls) rest
    ∙ or-assoc a.broken (is_any_broken a.monitors ls) (any_broken_along (monitors_after a.monitors ls) rest)
    ∙ ap (λ (b : Bool). a.broken || b) (any-along a.monitors ls rest)

pub neither : (a b : Bool) → (a || b) ≡ false → (a ≡ false) × (b ≡ false)
neither true b h = cc
neither false b h = (refl, h)

abbrev pub rules_with : Bool → Option ℕ → Option ℕ → List Monitor → Rules
rules_with idle most queued monitors =
    record { idle_ticks = idle; most = most; queued = queued; monitors = monitors }

pub came-watched : (idle : Bool) (most : ℕ) (queued : Option ℕ) (monitors : List Monitor) (forbidden : Line → Bool)
    (a : Watched) (events : List (List Line))
    → (watched (watch (rules_with idle (Some most) queued monitors) forbidden) a events).came ≡ a.came + requests events
came-watched idle most queued monitors forbidden a [] = omega arith
came-watched idle most queued monitors forbidden a (ls ∷ rest) =
    let e : (a.came + count_by is_request ls) + requests rest ≡ a.came + (count_by is_request ls + requests rest) =
    omega arith in
    came-watched idle most queued monitors forbidden
    (watched_on (rules_with idle (Some most) queued monitors) forbidden a ls) rest
    ∙ e
    ∙ ap (λ (k : ℕ). a.came + k) (sym (sum_by-cons (λ (events : List Line). count_by is_request events) ls rest))

still-watched : (idle : Bool) (most queued : Option ℕ) (monitors : List Monitor) (forbidden : Line → Bool)
    (a : Watched) (events : List (List Line))
    → may_still most (watched (watch (rules_with idle most queued monitors) forbidden) a events).came
    ≡ may_still most (a.came + requests events)
still-watched idle None queued monitors forbidden a events = refl
still-watched idle (Some most) queued monitors forbidden a events =
    ap (λ (came : ℕ). nat_lt came most) (came-watched idle most queued monitors forbidden a events)

module _ {C : Type 0} (rules : Rules) (sys : SystemTables) (M : Meaning C) (n : ℕ) (forbidden : Line → Bool)
    (rest : List Bool) (K : World C → Watched → Type 0) (even : IsTimeless forbidden) (R : World C → World C → Type 0)
    (F : World C → Event → Type 0) (like : IsLikeness sys M n R F)
    (closed : IsClosedUnder R (watch rules forbidden) (may_come rules sys M n) (step sys M n) K)
    (first : IsCovered R K (setup sys M).world (watched_at_setup rules sys M forbidden)) where
  abbrev pub watched_after : List Event → Watched
  watched_after es = watched (watch rules forbidden) (at_first rules.monitors) (lines_after sys M n es)

  pub covered : (es : List Event) → IsSchedule rules sys M n forbidden es
      → IsCovered R K (reached sys M n es) (watched_after es)
  covered es schedule =
      under-covers R (watch rules forbidden) K (may_come rules sys M n) (may_come-same sys M n R F like rules) sys M n
      closed (setup sys M).world
      (watched_at_setup rules sys M forbidden) es schedule first

  still-after : (es : List Event)
      → may_still rules.most (requests (lines_after sys M n es)) ≡ may_still rules.most (watched_after es).came
  still-after es =
      let e : requests (lines_after sys M n es) ≡ 0 + requests (lines_after sys M n es) = omega arith in
      ap (λ (came : ℕ). may_still rules.most came) e
      ∙ sym
      (still-watched rules.idle_ticks rules.most rules.queued rules.monitors forbidden (at_first rules.monitors)
      (lines_after sys M n es))

  pub closed-holds : NoneIsBad (watch rules forbidden) K → NoneBreaks rules K → NoneIsDeadlock rules sys M n rest K
      → Holds rules sys M n forbidden rest
  closed-holds clean upheld free =
      record {
        never = λ es schedule. let k = covered es schedule in
            sym (told-watched rules forbidden (at_first rules.monitors) (lines_after sys M n es))
            ∙ (neither (watched_after es).told (watched_after es).broken (clean k.world (watched_after es) k.kept)).0;
        by_lines = λ es schedule. let k = covered es schedule in
            sym (broken-watched rules forbidden (at_first rules.monitors) (lines_after sys M n es))
            ∙ (neither (watched_after es).told (watched_after es).broken (clean k.world (watched_after es) k.kept)).1;
        by_states = λ es schedule. let k = covered es schedule in
            any_broken_in-alike sys (reached sys M n es).state k.world.state
            (like.states (reached sys M n es) k.world k.alike) rules.monitors
            ∙ upheld k.world (watched_after es) k.kept;
        free = λ es schedule d. let k = covered es schedule in
            free k.world (watched_after es) k.kept
            (deadlock-alike sys M n R F like (reached sys M n es) k.world rest
            (may_still rules.most (watched_after es).came)
            (subst (λ (b : Bool). IsDeadlock sys M n (reached sys M n es) rest b) (still-after es) d) k.alike);
      }

module _ {C : Type 0} (rules : Rules) (sys : SystemTables) (M : Meaning C) (n : ℕ) (forbidden : Line → Bool)
    (rest : List Bool) (K : World C → Watched → Type 0) (even : IsTimeless forbidden) (R : World C → World C → Type 0)
    (F : World C → Event → Type 0) (h : IsSearched R F rules sys M n forbidden rest K) where
  searched-closed : IsClosedUnder R (watch rules forbidden) (may_come rules sys M n) (step sys M n) K
  searched-closed =
      tried-under sys M n R F h.like (watch rules forbidden) (may_come rules sys M n) K
      (watch-blind forbidden even rules) h.whole h.tried

  -- a search that tried each event has a world like the one that any schedule reaches
  pub searched-covered : (es : List Event) → IsSchedule rules sys M n forbidden es
      → IsCovered R K (reached sys M n es)
      (watched (watch rules forbidden) (at_first rules.monitors) (lines_after sys M n es))
  searched-covered es schedule =
      covered rules sys M n forbidden rest K even R F h.like searched-closed h.first es schedule

  -- a search that tried each event and found nothing shows that all schedules hold
  pub searched-holds : Holds rules sys M n forbidden rest
  searched-holds =
      closed-holds rules sys M n forbidden rest K even R F h.like searched-closed h.first h.clean h.upheld h.free
