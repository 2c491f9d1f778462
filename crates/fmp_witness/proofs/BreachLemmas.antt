-- A monitor along the events that a kernel takes.
use Rattle.std.proofs.Common.{◌≡◌, ◌==◌, ◌+◌, ◌-◌, ◌<◌, ◌≤◌, ℕ, false, List, [], ◌∷◌, ◌++◌, Some, refl, sym, ap, ◌∙◌}
use Rattle.std.proofs.Common.{append-nil, arith, get_or, length, slice_get, subst, take}
use Rattle.std.proofs.lemmas.List.{take_all, take_more}
use Rattle.fmp_base.specs.declared.events.Effect.TheVariants as effect
use Rattle.fmp_base.specs.declared.events.Event.{Event}
use Rattle.fmp_base.specs.declared.events.Line.{Line}
use Rattle.fmp_base.specs.Meanings.{World}
use Rattle.fmp_base.specs.Steps.{Reaction, Nothing, Did, Kept, effect_of, step}
use Rattle.fmp_drive.specs.Driving.{reaction as done_by}
use Rattle.fmp_witness.specs.declared.finding.FindingKind.TheVariants as kind
use Rattle.fmp_witness.specs.declared.finding.SentenceBreach.{SentenceBreach}
use Rattle.fmp_witness.specs.Asked.{Asked}
use Rattle.fmp_witness.specs.Findings.{HasMonitor, IsBreachAfter, IsMonitorOn, IsSo, monitor_by}
use Rattle.fmp_witness.specs.Followed.{HasDone}
use Rattle.fmp_image_bytes.specs.Images.{ImageTables}
use Rattle.fmp_instructions.specs.Instructions.{BodyTables}
use Rattle.fmp_instructions.specs.Machine.{code_meaning}
use Rattle.fmp_instructions.specs.declared.instructions.MachineContext.{MachineContext}
use Rattle.fmp_kernel.specs.KernelViews.{KernelView, view_after}
use Rattle.fmp_replay.specs.Replays.{IsLegal, kernel_after, reaction, replay}
use Rattle.fmp_replay.proofs.Replaying.{step_of_replay, world_of}
use Rattle.fmp_schedules.specs.declared.monitor.Breach.{Breach}
use Rattle.fmp_schedules.specs.declared.monitor.Monitor.{Monitor}
use Rattle.fmp_schedules.specs.Monitors.{IsBreach, monitor_after, monitor_along}
use Rattle.fmp_schedules.proofs.MonitorLaws.{along-last}
use Rattle.fmp_witness.proofs.Following.{followed_more, followed_none}
use Rattle.fmp_witness.proofs.LineLemmas.{lines_last, lines_of, lines_to}

abbrev Kernels : Type 0
Kernels = KernelView (List BodyTables) MachineContext

-- a monitor that stays, since the event kept a place
pub monitor_kept : (s : Monitor) (r : Reaction MachineContext) → effect.Kept ≡ effect_of r → s ≡ monitor_by s r
monitor_kept s Nothing h = refl
monitor_kept s (Did d) h = absurd (cc (h))
monitor_kept s (Kept p w) h = refl

-- after the lines of an event that is done
pub monitor_done : (s : Monitor) (r : Reaction MachineContext) (k k' : Kernels) → effect.Done ≡ effect_of r
    → k' ≡ view_after k r → monitor_after s k'.lines ≡ monitor_by s r
monitor_done s Nothing k k' h view = absurd (cc (h))
monitor_done s (Did d) k k' h view = ap (λ (x : Kernels). monitor_after s x.lines) view
monitor_done s (Kept p w) k k' h view = absurd (cc (h))

along-by : (s : Monitor) (events : List (List Line)) (r : Reaction MachineContext)
    → monitor_along s (events ++ lines_of r) ≡ monitor_by (monitor_along s events) r
along-by s events Nothing = ap (λ (xs : List (List Line)). monitor_along s xs) (append-nil events)
along-by s events (Did d) = along-last s events d.lines
along-by s events (Kept p w) = ap (λ (xs : List (List Line)). monitor_along s xs) (append-nil events)

module _ (i : ImageTables) (n : ℕ) (first : Monitor) where
  -- no event is taken yet
  pub monitor_begun : (k : Kernels) → k ≡ kernel_after i n [] → HasMonitor i n first [] k (monitor_after first k.lines)
  unfolding replay
  monitor_begun k h =
      record {
        followed = followed_none i n k h;
        monitor = ap (λ (x : Kernels). monitor_after first x.lines) h;
      }

  -- one more event is taken
  pub monitor_more : (es : List Event) (e : Event) (k k' : Kernels) (s r : Monitor) → HasMonitor i n first es k s
      → IsMonitorOn k k' s e r → HasMonitor i n first (es ++ e ∷ []) k' r
  monitor_more es e k k' s r h on =
      let there : done_by (λ bodies. code_meaning bodies) k e ≡ reaction i n es e =
      step_of_replay i n es e k h.followed.kernel in
      record {
        followed = followed_more i n es e k k' h.followed on.taken;
        monitor =
            on.monitor
            ∙ ap (λ (x : Reaction MachineContext). monitor_by s x) there
            ∙ ap (λ (x : Monitor). monitor_by x (reaction i n es e)) h.monitor
            ∙ sym (along-by first (lines_to i n es) (reaction i n es e))
            ∙ ap (λ (xs : List (List Line)). monitor_along first xs)
            (sym (lines_last i n es e (reaction i n es e) refl));
      }

  -- the same for one more of the events of a list
  pub monitor_step : (es : List Event) (at : ℕ) (d : Event) (k k' : Kernels) (s r : Monitor)
      → HasMonitor i n first (take at es) k s → at < length es → IsMonitorOn k k' s (get_or es at d) r
      → HasMonitor i n first (take (at + 1) es) k' r
  monitor_step es at d k k' s r h low on =
      subst (λ (xs : List Event). HasMonitor i n first xs k' r) (sym (take_more es at d low))
      (monitor_more (take at es) (get_or es at d) k k' s r h on)

  -- when all are taken
  pub monitor_all : (es : List Event) (at : ℕ) (k : Kernels) (s : Monitor) → length es ≤ at
      → HasMonitor i n first (take at es) k s → HasMonitor i n first es k s
  monitor_all es at k s all h = subst (λ (xs : List Event). HasMonitor i n first xs k s) (take_all at es all) h

  -- a line of one more event that is done breaks the sentence
  pub breach_after : (es : List Event) (e : Event) (k k' : Kernels) (s : Monitor) (m : Breach)
      → HasMonitor i n first es k s → HasDone i n es e k' → IsBreach s k'.lines m → IsBreachAfter i n first es e m
  breach_after es e k k' s m h d broken =
      record {
        legal = d.followed.legal;
        done = d.done;
        did = d.did;
        broken =
            subst (λ (ls : List Line). IsBreach (monitor_along first (lines_to i n es)) ls m) d.lines
            (subst (λ (x : Monitor). IsBreach x k'.lines m) h.monitor broken);
      }

-- what is found of a sentence that a line breaks is so
pub so_breached : (asked : Asked) (es before : List Event) (last : Event) (s : Monitor) (t : SentenceBreach)
    → es ≡ before ++ last ∷ [] → slice_get asked.question.monitors.items t.monitor ≡ Some s
    → IsBreachAfter asked.image asked.bound s before last t.breach → IsSo asked es (kind.Breach t)
unfolding reaction
so_breached asked es before last s t parts there h =
    record {
      legal = subst (λ (fs : List Event). IsLegal asked.image asked.bound fs) (sym parts) h.legal;
      shown =
          record {
            monitor = s;
            there = there;
            before = before;
            last = last;
            parts = parts;
            done = h.done;
            did =
                ap
                (λ (w : World MachineContext).
                step asked.image.system (code_meaning asked.image.code) asked.bound w last)
                (sym (world_of asked.image asked.bound before))
                ∙ h.did;
            broken = h.broken;
          };
    }

-- the first events of a list, and the last one
pub last_apart : (es : List Event) (end : ℕ) (d : Event) → length es ≡ end + 1
    → es ≡ take end es ++ get_or es end d ∷ []
last_apart es end d size =
    let low : end < length es = omega arith in
    let all : length es ≤ end + 1 = omega arith in
    sym (take_all (end + 1) es all) ∙ take_more es end d low

-- a list that is not empty has one more element than stand before its last one
pub some_last : (es : List Event) → false ≡ (length es == 0) → length es ≡ (length es - 1) + 1
some_last [] some = absurd (cc (some))
some_last (e ∷ es) some = omega arith
