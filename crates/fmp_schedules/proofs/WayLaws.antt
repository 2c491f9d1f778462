-- Where each task of a closed set has a way on, no task is ever stuck.
use Rattle.std.proofs.Common.{◌≡◌, ◌≢◌, ◌+◌, ◌<◌, ◌⊎◌, ℕ, zero, suc, List, [], ◌∷◌, Option, Some, None, Bool, true}
use Rattle.std.proofs.Common.{false, ◌||◌, refl, sym, ◌∙◌, ap, ap₂, subst, arith, length, inl, inr}
use Rattle.std.specs.List.{list_any}
use Rattle.std.specs.Prelude.{slice_index_or}
use Rattle.fmp_base.specs.declared.events.Event.{Event}
use Rattle.fmp_base.specs.declared.events.Line.{Line}
use Rattle.fmp_base.specs.declared.events.Line.TheVariants as line
use Rattle.fmp_base.specs.declared.states.Phase.TheVariants.{Dormant}
use Rattle.fmp_base.specs.declared.states.TaskBlock.{TaskBlock}
use Rattle.fmp_base.specs.Meanings.{Meaning, World}
use Rattle.fmp_base.specs.Runs.{run, run_on}
use Rattle.fmp_base.specs.Setups.{setup}
use Rattle.fmp_base.specs.States.{task_at}
use Rattle.fmp_base.specs.Steps.{Done, Reaction, Nothing, Did, Kept, step}
use Rattle.fmp_base.specs.Systems.{SystemTables}
use Rattle.fmp_bisimulation.specs.Closed.{AreAllowed, BothAlike, all_timeless, allowed_after, timeless, watched}
use Rattle.fmp_bisimulation.proofs.TimeLaws.{blocks-at}
use Rattle.fmp_schedules.specs.Likeness.{IsLikeness}
use Rattle.fmp_schedules.specs.Schedules.{IsSchedule, Rules, Watched, at_first, is_told, lines_after, may_come, reached}
use Rattle.fmp_schedules.specs.Schedules.{requests, watch, watched_at_setup, watched_on}
use Rattle.fmp_schedules.specs.declared.monitor.Monitor.{Monitor}
use Rattle.fmp_schedules.specs.Stuck.{MayGoOn, NoneIsStuck, acts}
use Rattle.fmp_schedules.specs.Tried.{IsSearched, IsTimeless}
use Rattle.fmp_schedules.specs.WaysOn.{HasWay, HaveWays, IsNearer, LeadsNearer}
use Rattle.fmp_schedules.proofs.HoldLaws.{came-watched, rules_with, searched-covered}
use Rattle.fmp_schedules.proofs.RuleLaws.{may_come-same, watch-blind}
use Rattle.fmp_schedules.proofs.StuckLaws.{SameCame, allowed-too}

-- an act is none of the clock
act-timeless : (t : ℕ) (l : Line) → acts t l ≡ acts t (timeless l)
act-timeless t (line.Tick c) = refl
act-timeless t (line.Int i) = refl
act-timeless t (line.Call p who made reply) = refl
act-timeless t (line.Gets p u reply) = refl
act-timeless t (line.End p who) = refl
act-timeless t (line.Fault p who f) = refl
act-timeless t (line.Starts p u) = refl
act-timeless t (line.Begins p h) = refl
act-timeless t (line.Pends p c) = refl
act-timeless t (line.Runs p u) = refl

act-same : (t : ℕ) (l m : Line) → timeless l ≡ timeless m → acts t l ≡ acts t m
act-same t l m e = act-timeless t l ∙ ap (λ (x : Line). acts t x) e ∙ sym (act-timeless t m)

acts-same : (t : ℕ) (ls ms : List Line) → all_timeless ls ≡ all_timeless ms
    → list_any (acts t) ls ≡ list_any (acts t) ms
acts-same t [] [] e = refl
acts-same t [] (m ∷ ms) e = absurd (cc)
acts-same t (l ∷ ls) [] e = absurd (cc)
acts-same t (l ∷ ls) (m ∷ ms) e =
    let first : timeless l ≡ timeless m = cc in
    let more : all_timeless ls ≡ all_timeless ms = cc in
    ap₂ (λ (a b : Bool). a || b) (act-same t l m first) (acts-same t ls ms more)

or-either : (a : Bool) → (a || true) ≡ true
or-either true = refl
or-either false = refl

same-came : (idle : Bool) (most queued : Option ℕ) (monitors : List Monitor) (forbidden : Line → Bool) (a : Watched)
    (events : List (List Line)) → a.came ≡ 0
    → SameCame most (watched (watch (rules_with idle most queued monitors) forbidden) a events).came (requests events)
same-came idle None queued monitors forbidden a events none = tt
same-came idle (Some most) queued monitors forbidden a events none =
    let e : a.came + requests events ≡ requests events = omega (arith, none) in
    came-watched idle most queued monitors forbidden a events ∙ e

no-monitors : (most : Option ℕ) (k : ℕ) → SameCame most k k
no-monitors None k = tt
no-monitors (Some most) k = refl

module _ {C : Type 0} (rules : Rules) (sys : SystemTables) (M : Meaning C) (n : ℕ) (forbidden : Line → Bool)
    (R : World C → World C → Type 0) (F : World C → Event → Type 0) (like : IsLikeness sys M n R F)
    (even : IsTimeless forbidden) (t : ℕ) (Far : ℕ → World C → Watched → Type 0)
    (way : (k : ℕ) (w : World C) (a : Watched) → Far k w a → HasWay R F rules sys M n forbidden t Far k w a) where
  abbrev Allowed : World C → Watched → List Event → Type 0
  Allowed v a es = AreAllowed (watch rules forbidden) (may_come rules sys M n) (step sys M n) v a es

  -- from v on, where a is watched, these events may come, and the task acts along them
  record GoesOn (v : World C) (a : Watched) : Type 0 where
    more : List Event
    allowed : Allowed v a more
    told : is_told (acts t) (run sys M n v more).events ≡ true

  by-act : (v : World C) (a : Watched) (e : Event) (x : Reaction C) → step sys M n v e ≡ x
      → may_come rules sys M n v a e ≡ true → allowed_after (watch rules forbidden) v a x (λ u b. Unit {0})
      → is_told (acts t) (run_on v x (λ u. record { world = u; events = [] })).events ≡ true → GoesOn v a
  by-act v a e x is may after acting =
      record {
        more = e ∷ [];
        allowed = (
          may,
          subst (λ (y : Reaction C). allowed_after (watch rules forbidden) v a y (λ u b. Allowed u b [])) (sym is)
              after,
        );
        told = ap (λ (y : Reaction C). is_told (acts t) (run_on v y (λ u. run sys M n u [])).events) is ∙ acting;
      }

  then-did : (v : World C) (a : Watched) (e : Event) (c : Done C) → step sys M n v e ≡ Did c
      → may_come rules sys M n v a e ≡ true → GoesOn c.world (watched_on rules forbidden a c.lines) → GoesOn v a
  then-did v a e c is may g =
      record {
        more = e ∷ g.more;
        allowed = (
          may,
          subst (λ (y : Reaction C). allowed_after (watch rules forbidden) v a y (λ u b. Allowed u b g.more)) (sym is)
              g.allowed,
        );
        told =
            ap (λ (y : Reaction C). is_told (acts t) (run_on v y (λ u. run sys M n u g.more)).events) is
            ∙ ap (λ (rest : Bool). list_any (acts t) c.lines || rest) g.told
            ∙ or-either (list_any (acts t) c.lines);
      }

  then-kept : (v : World C) (a : Watched) (e : Event) (p : ℕ) (u : World C) → step sys M n v e ≡ Kept p u
      → may_come rules sys M n v a e ≡ true → GoesOn u a → GoesOn v a
  then-kept v a e p u is may g =
      record {
        more = e ∷ g.more;
        allowed = (
          may,
          subst (λ (y : Reaction C). allowed_after (watch rules forbidden) v a y (λ u b. Allowed u b g.more)) (sym is)
              g.allowed,
        );
        told =
            ap (λ (y : Reaction C). is_told (acts t) (run_on v y (λ u. run sys M n u g.more)).events) is ∙ g.told;
      }

  abbrev Nearer : ℕ → Type 0
  Nearer fuel = (k : ℕ) (w v : World C) (a : Watched) → k < fuel → Far k w a → R v w → GoesOn v a

  go-nearer : (fuel k : ℕ) (x y : World C) (a b : Watched) → k < suc fuel → Nearer fuel → R x y → b ≡ a
      → IsNearer R Far k y b → GoesOn x a
  go-nearer fuel k x y a b below nearer alike same h =
      nearer h.distance h.covered.world x a (let less = h.less in omega (arith, below, less))
      (subst (λ (c : Watched). Far h.distance h.covered.world c) same h.covered.kept)
      (like.chained x y h.covered.world alike h.covered.alike)

  step-on : (fuel k : ℕ) (v : World C) (a : Watched) (e : Event) (x y : Reaction C) → k < suc fuel → Nearer fuel
      → step sys M n v e ≡ x → may_come rules sys M n v a e ≡ true → BothAlike R x y
      → LeadsNearer R rules forbidden t Far k a y → GoesOn v a
  step-on fuel k v a e Nothing Nothing below nearer is may both leads = absurd leads
  step-on fuel k v a e (Kept p u) (Kept q w) below nearer is may (same, alike) leads =
      then-kept v a e p u is may (go-nearer fuel k u w a a below nearer alike refl leads)
  step-on fuel k v a e (Did c) (Did d) below nearer is may (lines, alike) leads = by_leads leads where
    by_leads : (list_any (acts t) d.lines ≡ true) ⊎ IsNearer R Far k d.world (watched_on rules forbidden a d.lines)
        → GoesOn v a
    by_leads (inl acting) =
        by-act v a e (Did c) is may tt
        (ap (λ (b : Bool). b || false) (acts-same t c.lines d.lines lines ∙ acting))
    by_leads (inr near) =
        then-did v a e c is may
        (go-nearer fuel k c.world d.world (watched_on rules forbidden a c.lines)
        (watched_on rules forbidden a d.lines) below nearer alike
        (sym (watch-blind forbidden even rules a c.lines d.lines lines)) near)
  step-on fuel k v a e Nothing (Did d) below nearer is may both leads = absurd both
  step-on fuel k v a e Nothing (Kept q w) below nearer is may both leads = absurd both
  step-on fuel k v a e (Did c) Nothing below nearer is may both leads = absurd both
  step-on fuel k v a e (Did c) (Kept q w) below nearer is may both leads = absurd both
  step-on fuel k v a e (Kept p u) Nothing below nearer is may both leads = absurd both
  step-on fuel k v a e (Kept p u) (Did d) below nearer is may both leads = absurd both

  -- what is at a distance from an act goes on
  goes-on : (fuel k : ℕ) (w v : World C) (a : Watched) → k < fuel → Far k w a → R v w → GoesOn v a
  goes-on zero k w v a below far alike = absurd (omega (arith, below))
  goes-on (suc fuel) k w v a below far alike =
      let h = way k w a far in
      step-on fuel k v a h.event (step sys M n v h.event) (step sys M n h.world h.event) below
      (λ j x y b less near r. goes-on fuel j x y b less near r) refl
      (may_come-same sys M n R F like rules v w a h.event alike ∙ h.may)
      (like.keeps v h.world h.event (like.chained v w h.world alike h.alike) h.fit) h.leads

module _ {C : Type 0} (rules : Rules) (sys : SystemTables) (M : Meaning C) (n : ℕ) (forbidden : Line → Bool)
    (rest : List Bool) (K : World C → Watched → Type 0) (even : IsTimeless forbidden) (R : World C → World C → Type 0)
    (F : World C → Event → Type 0) (h : IsSearched R F rules sys M n forbidden rest K) (resting : List Bool)
    (Far : ℕ → ℕ → World C → Watched → Type 0) (ways : HaveWays R F rules sys M n forbidden resting K Far) where
  phase-too : (v w : World C) (t : ℕ) → R v w → (task_at v.state.tasks t).phase ≢ Dormant
      → (task_at w.state.tasks t).phase ≢ Dormant
  phase-too v w t alike started =
      let k = h.like.states v w alike in
      let same = blocks-at v.state.clock w.state.clock v.state.tasks w.state.tasks k.tasks t in
      λ e. started (ap (λ (x : TaskBlock). x.phase) same.rest ∙ e)

  goes-on-after : (es : List Event) (t : ℕ) → IsSchedule rules sys M n (λ l. false) es → t < length sys.tasks
      → slice_index_or resting t false ≡ false → (task_at (reached sys M n es).state.tasks t).phase ≢ Dormant
      → MayGoOn rules sys M n es t
  goes-on-after es t schedule there may_not started =
      let v = reached sys M n es in
      let here =
      allowed-too rules sys M n (λ l. false) forbidden (setup sys M).world (watched_at_setup rules sys M (λ l. false))
      (watched_at_setup rules sys M forbidden) es
      (record { came = no-monitors rules.most (watched_at_setup rules sys M forbidden).came; monitors = inl refl })
      schedule in
      let c = searched-covered rules sys M n forbidden rest K even R F h es here in
      let a = watched (watch rules forbidden) (at_first rules.monitors) (lines_after sys M n es) in
      let far = ways.distance t c.world a there may_not c.kept (phase-too v c.world t c.alike started) in
      let g =
      goes-on rules sys M n forbidden R F h.like even t (Far t) (λ k w b f. ways.way t k w b f) (suc far.0) far.0 c.world
      v a (omega arith) far.1 c.alike in
      record {
        more = g.more;
        follow = allowed-too rules sys M n forbidden (λ l. false) v a
            (record { came = requests (lines_after sys M n es); told = false; monitors = []; broken = false }) g.more
            (record {
              came =
                  same-came rules.idle_ticks rules.most rules.queued rules.monitors forbidden (at_first rules.monitors)
                  (lines_after sys M n es) refl;
              monitors = inr refl;
            })
            g.allowed;
        told = g.told;
      }

  -- a search that found a way on everywhere shows that no task is ever stuck
  pub none-stuck : NoneIsStuck rules sys M n resting
  none-stuck =
      record {
        goes_on = λ es t schedule there may_not started. goes-on-after es t schedule there may_not started;
      }
