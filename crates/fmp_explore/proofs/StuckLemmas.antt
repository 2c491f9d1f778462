-- A search after events that is whole shows that a task never acts after them.
use Rattle.std.proofs.Common.{◌≡◌, ◌≢◌, ℕ, List, Option, Some, None, Bool, true, refl, sym, ap, subst, ◌∙◌}
use Rattle.std.proofs.Common.{count_by, not}
use Rattle.fmp_bisimulation.specs.Closed.{IsCovered}
use Rattle.fmp_base.specs.declared.events.Event.{Event}
use Rattle.fmp_base.specs.Meanings.{World}
use Rattle.fmp_base.specs.declared.states.Phase.{Phase}
use Rattle.fmp_base.specs.declared.states.Phase.TheVariants.{Dormant}
use Rattle.fmp_base.specs.Runs.{run}
use Rattle.fmp_base.specs.Setups.{setup}
use Rattle.fmp_base.specs.States.{task_at}
use Rattle.fmp_base.specs.TaskCalls.{is_dormant}
use Rattle.fmp_base.specs.Steps.{step}
use Rattle.fmp_question.specs.declared.question.Never.{Never}
use Rattle.fmp_question.specs.declared.question.Question.{Question}
use Rattle.fmp_explore.specs.declared.searches.Search.{Search}
use Rattle.fmp_question.specs.declared.question.Ticks.{Ticks}
use Rattle.fmp_explore.specs.After.{IsAbout, NeverActs, NoneFollows}
use Rattle.fmp_witness.specs.Followed.{IsFollowed}
use Rattle.fmp_question.specs.Forbidden.{forbids}
use Rattle.fmp_question.specs.Rules.{is_idle, rules_of}
use Rattle.fmp_explore.specs.Searching.{IsWhole, rows_of, watched_first}
use Rattle.fmp_explore.specs.States.{IsKept, counted}
use Rattle.fmp_image_bytes.specs.Images.{ImageTables}
use Rattle.fmp_instructions.specs.Machine.{code_meaning}
use Rattle.fmp_instructions.specs.declared.instructions.MachineContext.{MachineContext}
use Rattle.fmp_instructions.specs.Instructions.{BodyTables}
use Rattle.fmp_kernel.specs.KernelViews.{KernelView}
use Rattle.fmp_live.specs.Fits.{IsFit}
use Rattle.fmp_live.specs.Zeroed.{IsLike}
use Rattle.fmp_schedules.specs.Likeness.{IsClosedUnder}
use Rattle.fmp_replay.specs.Replays.{replay}
use Rattle.fmp_replay.proofs.Replaying.{world_of}
use Rattle.fmp_schedules.specs.Deadlocks.{is_interrupt}
use Rattle.fmp_schedules.specs.Schedules.{Watched, is_told, may_come, monitors_after, reached, watch}
use Rattle.fmp_schedules.specs.declared.monitor.Monitor.{Monitor}
use Rattle.fmp_schedules.specs.Stuck.{MayFollow, acts}
use Rattle.fmp_schedules.proofs.HoldLaws.{or-none, rules_with}
use Rattle.fmp_schedules.proofs.RuleLaws.{watch-blind}
use Rattle.fmp_schedules.proofs.StuckLaws.{SameCame, none-behind, told-too}
use Rattle.fmp_schedules.proofs.TriedLaws.{tried-under}
use Rattle.fmp_question.proofs.ForbiddenLemmas.{forbids-timeless}
use Rattle.fmp_explore.proofs.SearchLemmas.{clean, likeness, tried, whole}
use Rattle.fmp_explore.proofs.StateLemmas.{alike_self}
use Rattle.fmp_witness.specs.Asked.{Asked}

came_counted : (most : Option ℕ) (came : ℕ) → SameCame most came (counted most came)
came_counted None came = tt
came_counted (Some most) came = refl

module _ (asked : Asked) (s : Search) (h : IsWhole asked s) (sure : s.sure ≡ true) where
  abbrev i : ImageTables
  i = asked.image

  abbrev n : ℕ
  n = asked.bound

  abbrev q : Question
  q = asked.question

  abbrev K : World MachineContext → Watched → Type 0
  K w a = IsKept asked (rows_of s) w a

  closed : IsClosedUnder (IsLike s.rows.outs i.system i.code) (watch (rules_of q) (forbids q.nevers.items))
      (may_come (rules_of q) i.system (code_meaning i.code) n) (step i.system (code_meaning i.code) n) K
  closed =
      tried-under i.system (code_meaning i.code) n (IsLike s.rows.outs i.system i.code)
      (IsFit s.rows.outs i.system i.code n) (likeness s.rows.outs asked)
      (watch (rules_of q) (forbids q.nevers.items))
      (may_come (rules_of q) i.system (code_meaning i.code) n) K
      (watch-blind (forbids q.nevers.items) (forbids-timeless q.nevers.items) (rules_of q))
      (whole asked s h.begun.search) (tried asked s h.begun.search (h.each sure))

  first : IsCovered (IsLike s.rows.outs i.system i.code) K (reached i.system (code_meaning i.code) n q.after.items)
      (watched_first asked)
  first =
      let known : IsKept asked (rows_of s) (replay i n q.after.items).world (watched_first asked) = h.begun.first sure
      in
      subst (λ (w : World MachineContext). IsCovered (IsLike s.rows.outs i.system i.code) K w (watched_first asked))
      (world_of i n q.after.items)
      (record {
        world = (replay i n q.after.items).world;
        alike =
            alike_self asked (rows_of s) h.begun.search.table.fields (replay i n q.after.items).world
            known.has.sound;
        kept = known;
      })

  -- no forbidden line is told after the events where the search began
  pub none_follows : NoneFollows asked
  none_follows none more follow =
      none-behind (rules_of q) i.system (code_meaning i.code) n (forbids q.nevers.items) K
      (forbids-timeless q.nevers.items) (IsLike s.rows.outs i.system i.code) (IsFit s.rows.outs i.system i.code n)
      (likeness s.rows.outs asked) closed
      (clean asked s h.begun.search) q.after.items more
      (watched_first asked) refl
      (ap (λ (ms : List Monitor). monitors_after ms (setup i.system (code_meaning i.code)).lines) none)
      (came_counted q.interrupts (count_by is_interrupt q.after.items)) first follow

-- the rules let the same events follow, whatever monitors are watched
follow_too : (i : ImageTables) (n : ℕ) (idle : Bool) (most queued : Option ℕ) (ss ts : List Monitor)
    (es more : List Event) → MayFollow (rules_with idle most queued ss) i.system (code_meaning i.code) n es more
    → MayFollow (rules_with idle most queued ts) i.system (code_meaning i.code) n es more
follow_too i n idle most queued ss ts es more h = h

-- the task of which a question forbids the acts never acts
pub none_acts : (asked : Asked) (about : Question) (es : List Event) (t : ℕ) → IsAbout asked.question es t about
    → NoneFollows (record asked { question = about }) → NeverActs asked es t
none_acts asked about es t is none more follow =
    let i = asked.image in
    let n = asked.bound in
    let q = asked.question in
    let told : List Event → Bool =
    λ (fs : List Event). is_told (acts t)
    (run i.system (code_meaning i.code) n (reached i.system (code_meaning i.code) n fs) more).events in
    let moved : MayFollow (rules_with (is_idle about.ticks) about.interrupts about.queued q.monitors.items) i.system
    (code_meaning i.code) n about.after.items more =
    subst
    (λ (fs : List Event). MayFollow (rules_with (is_idle about.ticks) about.interrupts about.queued q.monitors.items)
    i.system (code_meaning i.code) n fs more) (sym is.after)
    (subst (λ (queued : Option ℕ). MayFollow (rules_with (is_idle about.ticks) about.interrupts queued q.monitors.items)
    i.system (code_meaning i.code) n es more) (sym is.queued)
    (subst (λ (most : Option ℕ). MayFollow (rules_with (is_idle about.ticks) most q.queued q.monitors.items) i.system
    (code_meaning i.code) n es more) (sym is.interrupts)
    (subst (λ (ticks : Ticks). MayFollow (rules_with (is_idle ticks) q.interrupts q.queued q.monitors.items) i.system
    (code_meaning i.code) n es more) (sym is.ticks) follow))) in
    ap told (sym is.after)
    ∙ told-too (acts t) (forbids about.nevers.items)
    (λ l. or-none (acts t l) ∙ ap (λ (nevers : List Never). forbids nevers l) (sym is.nevers))
    (run i.system (code_meaning i.code) n (reached i.system (code_meaning i.code) n about.after.items) more).events
    ∙ none is.monitors more
    (follow_too i n (is_idle about.ticks) about.interrupts about.queued q.monitors.items about.monitors.items
    about.after.items more moved)

awake : (phase : Phase) → phase ≡ Dormant → not (is_dormant phase) ≡ true → ⊥
awake phase e started = cc (ap (λ (x : Phase). not (is_dormant x)) e, started)

-- a task is started on a kernel that has taken events
pub started_after : (i : ImageTables) (n : ℕ) (es : List Event) (k : KernelView (List BodyTables) MachineContext)
    (t : ℕ) → IsFollowed i n es k → not (is_dormant (task_at k.world.state.tasks t).phase) ≡ true
    → (task_at (reached i.system (code_meaning i.code) n es).state.tasks t).phase ≢ Dormant
started_after i n es k t h started e =
    let same : k.world ≡ reached i.system (code_meaning i.code) n es =
    ap (λ (x : KernelView (List BodyTables) MachineContext). x.world) h.kernel ∙ world_of i n es in
    awake (task_at k.world.state.tasks t).phase
    (ap (λ (w : World MachineContext). (task_at w.state.tasks t).phase) same ∙ e) started
