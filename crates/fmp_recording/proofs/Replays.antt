-- A replay goes as the recorded run.
use Rattle.std.proofs.Common.{◌≡◌, ◌∙◌, ◌+◌, ℕ, pos, List, [], ◌∷◌, ◌++◌, Option, Some, None, Result, Ok, Err, OnOk}
use Rattle.std.proofs.Common.{IfErr, ap, append_assoc, append-nil, arith, length, map, refl, sym}
use Rattle.std.proofs.Common.{inl, inr}
use Rattle.std.proofs.lemmas.List.{map-append}
use Rattle.fmp_base.specs.declared.events.Effect.TheVariants as effect
use Rattle.fmp_base.specs.declared.events.TaskState.{TaskState}
use Rattle.fmp_base.specs.declared.systems.System.{System}
use Rattle.fmp_base.specs.Meanings.{World}
use Rattle.fmp_base.specs.Runs.{run_on, task_state}
use Rattle.fmp_base.specs.States.{KernelState, places_from}
use Rattle.fmp_base.specs.Steps.{Reaction, Nothing, Did, Kept}
use Rattle.fmp_base.specs.Systems.{SystemTables, tables_of}
use Rattle.fmp_base.specs.Texts.{events_text, lines_text, states_text}
use Rattle.fmp_cfgparse.specs.Configurations.{Describes}
use Rattle.fmp_foreign.specs.declared.foreign.LastTold.{LastTold}
use Rattle.fmp_foreign.specs.declared.foreign.LastTold.TheVariants as told
use Rattle.fmp_foreign.specs.declared.hosted.HostedSystem.{HostedSystem}
use Rattle.fmp_foreign.specs.declared.requests.Refusal.{Refusal}
use Rattle.fmp_foreign.specs.Foreign.{foreign_meaning}
use Rattle.fmp_foreign.specs.Hosting.{ForeignKernel, after_unless, answer_unless, reaction, refused}
use Rattle.fmp_foreign.specs.Hosting as hosting
use Rattle.fmp_kernel.specs.KernelViews.{view_after}
use Rattle.fmp_kernel.specs.Restarts.{counts_restarted}
use Rattle.fmp_outside.specs.declared.given.Given.{Given}
use Rattle.fmp_outside.specs.Outside.{outside_run}
use Rattle.fmp_recording.specs.declared.replaying.ReplayFault.{ReplayFault}
use Rattle.fmp_recording.specs.declared.replaying.ReplayFault.TheVariants as fault
use Rattle.fmp_recording.specs.declared.recorded.RecordedLine.{RecordedLine}
use Rattle.fmp_recording.specs.declared.recorded.RecordedLine.TheVariants as recorded
use Rattle.fmp_recording.specs.Recordings.{came_lines, recorded_lines_text, recorded_of, recording_text}
use Rattle.fmp_recording.specs.Replaying.{HasBegunRun, HasDone, HasDoneAll, HasReplayed, HasTaken, IsCutOff}
use Rattle.fmp_recording.specs.Replaying.{IsReplayFault, IsWhyNotAll, IsWhyNotDone, LeavesRun, LeavesTrace}
use Rattle.fmp_recording.specs.Replaying.{IsWhyNotRun, IsWhyNotTaken, IsWhyStopped}
use Rattle.fmp_recording.specs.Replaying.{RecordedLinesAreReplayed, RecordedRunsAreReplayed, WholeRunsAreReplayed}
use Rattle.fmp_recording.specs.Replaying.{added_by, first_refusal, kernel_after, new_kernel, or_else, recorded_trace}
use Rattle.fmp_recording.specs.Replaying.{refusal_in, run_of, text_after, text_of}
use Rattle.fmp_recording.proofs.RoundTrip.{lines_again, printed_lines_read_back}
use Rattle.fmp_recording.proofs.Unrefused.{never_refused}
use Rattle.fmp_trace.specs.ListedStates.{listed_states_text}
use Rattle.fmp_trace.proofs.ListedStates.{listed_states_are_states}

-- an event was done, and its lines are written
module _ (old new : HostedSystem) (g : Given) (before after : List ℕ) (tied : old.kernel.system
    ≡ tables_of old.system) where
  record IsTaken (o : Option Refusal) (r : Reaction LastTold) : Type 0 where
    taken : o ≡ None
    kernel : new.kernel ≡ view_after old.kernel r
    system : new.system ≡ old.system
    text : after ≡ before ++ added_by old.kernel r

  done_by : (o : Option Refusal) (r : Reaction LastTold) → answer_unless o r ≡ Ok effect.Done
      → new ≡ record old { kernel = after_unless o old.kernel r }
      → after ≡ before ++ lines_text (tables_of new.system) new.kernel.done new.kernel.lines → IsTaken o r
  done_by (Some why) r e n t = absurd cc
  done_by None Nothing e n t = absurd cc
  done_by None (Kept p w) e n t = absurd cc
  done_by None (Did d) e n t =
      record {
        taken = refl;
        kernel = ap (λ (h : HostedSystem). h.kernel) n;
        system = ap (λ (h : HostedSystem). h.system) n;
        text = t
            ∙ ap (λ (h : HostedSystem). before ++ lines_text (tables_of h.system) h.kernel.done h.kernel.lines) n
            ∙ ap (λ (s : SystemTables). before ++ lines_text s (old.kernel.done + 1) d.lines) (sym tied);
      }

  kept_by : (o : Option Refusal) (r : Reaction LastTold) → answer_unless o r ≡ Ok effect.Kept
      → new ≡ record old { kernel = after_unless o old.kernel r } → after ≡ before → IsTaken o r
  kept_by (Some why) r e n t = absurd cc
  kept_by None Nothing e n t = absurd cc
  kept_by None (Did d) e n t = absurd cc
  kept_by None (Kept p w) e n t =
      record {
        taken = refl;
        kernel = ap (λ (h : HostedSystem). h.kernel) n;
        system = ap (λ (h : HostedSystem). h.system) n;
        text = t ∙ sym (append-nil before);
      }

  nothing_by : (o : Option Refusal) (r : Reaction LastTold) → answer_unless o r ≡ Ok effect.Nothing
      → new ≡ record old { kernel = after_unless o old.kernel r } → after ≡ before → IsTaken o r
  nothing_by (Some why) r e n t = absurd cc
  nothing_by None (Did d) e n t = absurd cc
  nothing_by None (Kept p w) e n t = absurd cc
  nothing_by None Nothing e n t =
      record {
        taken = refl;
        kernel = ap (λ (h : HostedSystem). h.kernel) n;
        system = ap (λ (h : HostedSystem). h.system) n;
        text = t ∙ sym (append-nil before);
      }

  as_taken : IsTaken (refused old.kernel g) (reaction old.kernel g) → HasTaken old new g before after
  as_taken h = record { taken = h.taken; kernel = h.kernel; system = h.system; text = h.text }

  pub taken_done : hosting.answer old.kernel (Ok g) ≡ Ok effect.Done → new ≡ hosting.after old (Ok g)
      → after ≡ before ++ lines_text (tables_of new.system) new.kernel.done new.kernel.lines
      → HasTaken old new g before after
  taken_done e n t = as_taken (done_by (refused old.kernel g) (reaction old.kernel g) e n t)

  pub taken_kept : hosting.answer old.kernel (Ok g) ≡ Ok effect.Kept → new ≡ hosting.after old (Ok g) → after ≡ before
      → HasTaken old new g before after
  taken_kept e n t = as_taken (kept_by (refused old.kernel g) (reaction old.kernel g) e n t)

  pub taken_nothing : hosting.answer old.kernel (Ok g) ≡ Ok effect.Nothing → new ≡ hosting.after old (Ok g)
      → after ≡ before → HasTaken old new g before after
  taken_nothing e n t = as_taken (nothing_by (refused old.kernel g) (reaction old.kernel g) e n t)

refused_by : (o : Option Refusal) (r : Reaction LastTold) (why : Refusal) → answer_unless o r ≡ Err why → o ≡ Some why
refused_by None r why e = cc
refused_by (Some w) r why e = cc

pub not_taken : (k : ForeignKernel) (g : Given) (why : Refusal) → hosting.answer k (Ok g) ≡ Err why → refused k g
    ≡ Some why
not_taken k g why e = refused_by (refused k g) (reaction k g) why e

-- a run, event by event
world_by : (k : ForeignKernel) (gs : List Given) (r : Reaction LastTold)
    → (run_on k.world r (λ v. outside_run k.system (foreign_meaning k.body) k.bound (told.Starts (pos 0)) v gs)).world
    ≡ (run_of (view_after k r) gs).world
world_by k gs Nothing = refl
world_by k gs (Did d) = refl
world_by k gs (Kept p w) = refl

text_by : (k : ForeignKernel) (gs : List Given) (r : Reaction LastTold)
    → events_text k.system (k.done + 1)
    (run_on k.world r (λ v. outside_run k.system (foreign_meaning k.body) k.bound (told.Starts (pos 0)) v gs)).events
    ≡ added_by k r ++ text_of (view_after k r) gs
text_by k gs Nothing = refl
text_by k gs (Did d) = refl
text_by k gs (Kept p w) = refl

tables_by : (k : ForeignKernel) (r : Reaction LastTold) → (view_after k r).system ≡ k.system
tables_by k Nothing = refl
tables_by k (Did d) = refl
tables_by k (Kept p w) = refl

-- the lines so far, and one more
kernel_more : (k : ForeignKernel) (rs : List RecordedLine) (r : RecordedLine)
    → kernel_after k (rs ++ r ∷ []) ≡ kernel_after (kernel_after k rs) (r ∷ [])
kernel_more k [] r = refl
kernel_more k (recorded.Came g ∷ rs) r = kernel_more (view_after k (reaction k g)) rs r
kernel_more k (recorded.Restart ∷ rs) r = kernel_more (counts_restarted k) rs r

text_more : (k : ForeignKernel) (rs : List RecordedLine) (r : RecordedLine)
    → text_after k (rs ++ r ∷ []) ≡ text_after k rs ++ text_after (kernel_after k rs) (r ∷ [])
text_more k [] r = refl
text_more k (recorded.Came g ∷ rs) r =
    let x = reaction k g in
    let j = view_after k x in
    ap (λ (xs : List ℕ). added_by k x ++ xs) (text_more j rs r)
    ∙ sym (append_assoc (added_by k x) (text_after j rs) (text_after (kernel_after j rs) (r ∷ [])))
text_more k (recorded.Restart ∷ rs) r = text_more (counts_restarted k) rs r

-- a replay has done the first of what it is given: these lines
pub record Stands {A : Type 0} (lines : List A → List RecordedLine) (old h : HostedSystem) (all left : List A)
    (before now : List ℕ) :
    Type 0 where
  pub done : List A
  pub all_are : all ≡ done ++ left
  pub kernel : h.kernel ≡ kernel_after old.kernel (lines done)
  pub text : now ≡ before ++ text_after old.kernel (lines done)

module _ (h new : HostedSystem) (text after : List ℕ) where
  kernel_of_one : (r : RecordedLine) → HasDone h new r text after → new.kernel ≡ kernel_after h.kernel (r ∷ [])
  kernel_of_one (recorded.Came g) t = t.kernel
  kernel_of_one recorded.Restart t = ap (λ (j : HostedSystem). j.kernel) t.0

  text_of_one : (r : RecordedLine) → HasDone h new r text after → after ≡ text ++ text_after h.kernel (r ∷ [])
  text_of_one (recorded.Came g) t =
      t.text ∙ ap (λ (xs : List ℕ). text ++ xs) (sym (append-nil (added_by h.kernel (reaction h.kernel g))))
  text_of_one recorded.Restart t = t.1 ∙ sym (append-nil text)

module _ {A : Type 0} (lines : List A → List RecordedLine) (old h : HostedSystem) (all left : List A)
    (before text : List ℕ) (s : Stands lines old h all left before text) where
  stands_on : (x : A) (r : RecordedLine) (rest : List A) (new : HostedSystem) (after : List ℕ)
      → lines (s.done ++ x ∷ []) ≡ lines s.done ++ r ∷ [] → HasDone h new r text after → left ≡ x ∷ rest
      → Stands lines old new all rest before after
  stands_on x r rest new after more t split =
      let k = old.kernel in
      let done = lines s.done in
      record {
        done = s.done ++ x ∷ [];
        all_are = s.all_are
            ∙ ap (λ (xs : List A). s.done ++ xs) split
            ∙ sym (append_assoc s.done (x ∷ []) rest);
        kernel = kernel_of_one h new text after r t
            ∙ ap (λ (j : ForeignKernel). kernel_after j (r ∷ [])) s.kernel
            ∙ sym (kernel_more k done r)
            ∙ ap (λ (rs : List RecordedLine). kernel_after k rs) (sym more);
        text = text_of_one h new text after r t
            ∙ ap (λ (j : ForeignKernel). text ++ text_after j (r ∷ [])) s.kernel
            ∙ ap (λ (xs : List ℕ). xs ++ text_after (kernel_after k done) (r ∷ [])) s.text
            ∙ append_assoc before (text_after k done) (text_after (kernel_after k done) (r ∷ []))
            ∙ ap (λ (xs : List ℕ). before ++ xs) (sym (text_more k done r))
            ∙ ap (λ (rs : List RecordedLine). before ++ text_after k rs) (sym more);
      }

-- a replay on its way: what is left leads to where all leads
pub record Continues (old h : HostedSystem) (gs left : List Given) (before now : List ℕ) : Type 0 where
  pub refusal : refusal_in h.kernel left ≡ refusal_in old.kernel gs
  pub text : now ++ text_of h.kernel left ≡ before ++ text_of old.kernel gs
  pub world : (run_of h.kernel left).world ≡ (run_of old.kernel gs).world
  pub tables : h.kernel.system ≡ old.kernel.system
  pub system : h.system ≡ old.system

pub begins : (old : HostedSystem) (gs : List Given) (before : List ℕ) → Continues old old gs gs before before
begins old gs before = record { refusal = refl; text = refl; world = refl; tables = refl; system = refl }

module _ (old h : HostedSystem) (gs left : List Given) (before text : List ℕ)
    (c : Continues old h gs left before text) where
  pub tied : old.kernel.system ≡ tables_of old.system → h.kernel.system ≡ tables_of h.system
  tied e = c.tables ∙ e ∙ ap (λ (s : System). tables_of s) (sym c.system)

  pub goes_on : (g : Given) (rest : List Given) (new : HostedSystem) (after : List ℕ) → HasTaken h new g text after
      → left ≡ g ∷ rest → Continues old new gs rest before after
  goes_on g rest new after t split =
      let k = h.kernel in
      let r = reaction k g in
      record {
        refusal = ap (λ (j : ForeignKernel). refusal_in j rest) t.kernel
            ∙ sym (ap (λ (o : Option Refusal). or_else o (refusal_in (view_after k r) rest)) t.taken)
            ∙ ap (λ (xs : List Given). refusal_in k xs) (sym split)
            ∙ c.refusal;
        text = ap (λ (xs : List ℕ). xs ++ text_of new.kernel rest) t.text
            ∙ ap (λ (j : ForeignKernel). (text ++ added_by k r) ++ text_of j rest) t.kernel
            ∙ append_assoc text (added_by k r) (text_of (view_after k r) rest)
            ∙ ap (λ (xs : List ℕ). text ++ xs) (sym (text_by k rest r))
            ∙ ap (λ (xs : List Given). text ++ text_of k xs) (sym split)
            ∙ c.text;
        world = ap (λ (j : ForeignKernel). (run_of j rest).world) t.kernel
            ∙ sym (world_by k rest r)
            ∙ ap (λ (xs : List Given). (run_of k xs).world) (sym split)
            ∙ c.world;
        tables = ap (λ (j : ForeignKernel). j.system) t.kernel ∙ tables_by k r ∙ c.tables;
        system = t.system ∙ c.system;
      }

  pub stops : (g : Given) (rest : List Given) (why : ReplayFault) → IsWhyNotTaken h.kernel g why → left ≡ g ∷ rest
      → IsWhyStopped old.kernel gs why
  stops g rest (fault.Configuration w) e split = e
  stops g rest (fault.Recording w) e split = e
  stops g rest (fault.Refused w) e split =
      let k = h.kernel in
      sym c.refusal
      ∙ ap (λ (xs : List Given). refusal_in k xs) split
      ∙ ap (λ (o : Option Refusal). or_else o (refusal_in (view_after k (reaction k g)) rest)) e
  stops g rest fault.Memory e split = tt

  pub ends : left ≡ [] → HasReplayed old h gs before text
  ends none =
      record {
        taken = sym c.refusal ∙ ap (λ (xs : List Given). refusal_in h.kernel xs) none;
        text = sym (append-nil text)
            ∙ ap (λ (xs : List Given). text ++ text_of h.kernel xs) (sym none)
            ∙ c.text;
        world = ap (λ (xs : List Given). (run_of h.kernel xs).world) (sym none) ∙ c.world;
        tables = c.tables;
        system = c.system;
      }

pub came_first : (old : HostedSystem) (gs : List Given) (before : List ℕ)
    → Stands came_lines old old gs gs before before
came_first old gs before = record { done = []; all_are = refl; kernel = refl; text = sym (append-nil before) }

pub came_more : (old h : HostedSystem) (gs left : List Given) (before text : List ℕ)
    → Stands came_lines old h gs left before text → (g : Given) (rest : List Given) (new : HostedSystem)
    (after : List ℕ)
    → HasTaken h new g text after → left ≡ g ∷ rest → Stands came_lines old new gs rest before after
came_more old h gs left before text s g rest new after t split =
    stands_on came_lines old h gs left before text s g (recorded.Came g) rest new after
    (map-append (λ (x : Given). recorded.Came x) s.done (g ∷ [])) t split

-- a replay line by line on its way: what is left leads to where all leads
pub record Leads (old h : HostedSystem) (rs left : List RecordedLine) (before now : List ℕ) : Type 0 where
  pub refusal : first_refusal h.kernel left ≡ first_refusal old.kernel rs
  pub text : now ++ text_after h.kernel left ≡ before ++ text_after old.kernel rs
  pub kernel : kernel_after h.kernel left ≡ kernel_after old.kernel rs
  pub tables : h.kernel.system ≡ old.kernel.system
  pub system : h.system ≡ old.system

pub leads_first : (old : HostedSystem) (rs : List RecordedLine) (before : List ℕ) → Leads old old rs rs before before
leads_first old rs before = record { refusal = refl; text = refl; kernel = refl; tables = refl; system = refl }

module _ (old h : HostedSystem) (rs left : List RecordedLine) (before text : List ℕ)
    (c : Leads old h rs left before text) where
  pub leads_tied : old.kernel.system ≡ tables_of old.system → h.kernel.system ≡ tables_of h.system
  leads_tied e = c.tables ∙ e ∙ ap (λ (s : System). tables_of s) (sym c.system)

  pub leads_on : (r : RecordedLine) (rest : List RecordedLine) (new : HostedSystem) (after : List ℕ)
      → HasDone h new r text after → left ≡ r ∷ rest → Leads old new rs rest before after
  leads_on (recorded.Came g) rest new after t split =
      let k = h.kernel in
      let r = reaction k g in
      record {
        refusal = ap (λ (j : ForeignKernel). first_refusal j rest) t.kernel
            ∙ sym (ap (λ (o : Option Refusal). or_else o (first_refusal (view_after k r) rest)) t.taken)
            ∙ ap (λ (xs : List RecordedLine). first_refusal k xs) (sym split)
            ∙ c.refusal;
        text = ap (λ (xs : List ℕ). xs ++ text_after new.kernel rest) t.text
            ∙ ap (λ (j : ForeignKernel). (text ++ added_by k r) ++ text_after j rest) t.kernel
            ∙ append_assoc text (added_by k r) (text_after (view_after k r) rest)
            ∙ ap (λ (xs : List RecordedLine). text ++ text_after k xs) (sym split)
            ∙ c.text;
        kernel = ap (λ (j : ForeignKernel). kernel_after j rest) t.kernel
            ∙ ap (λ (xs : List RecordedLine). kernel_after k xs) (sym split)
            ∙ c.kernel;
        tables = ap (λ (j : ForeignKernel). j.system) t.kernel ∙ tables_by k r ∙ c.tables;
        system = t.system ∙ c.system;
      }
  leads_on recorded.Restart rest new after t split =
      let k = h.kernel in
      record {
        refusal = ap (λ (j : HostedSystem). first_refusal j.kernel rest) t.0
            ∙ ap (λ (xs : List RecordedLine). first_refusal k xs) (sym split)
            ∙ c.refusal;
        text = ap (λ (xs : List ℕ). xs ++ text_after new.kernel rest) t.1
            ∙ ap (λ (j : HostedSystem). text ++ text_after j.kernel rest) t.0
            ∙ ap (λ (xs : List RecordedLine). text ++ text_after k xs) (sym split)
            ∙ c.text;
        kernel = ap (λ (j : HostedSystem). kernel_after j.kernel rest) t.0
            ∙ ap (λ (xs : List RecordedLine). kernel_after k xs) (sym split)
            ∙ c.kernel;
        tables = ap (λ (j : HostedSystem). j.kernel.system) t.0 ∙ c.tables;
        system = ap (λ (j : HostedSystem). j.system) t.0 ∙ c.system;
      }

  pub not_all : (r : RecordedLine) (rest : List RecordedLine) (why : ReplayFault) → IsWhyNotDone h.kernel r why
      → left ≡ r ∷ rest → IsWhyNotAll old.kernel rs why
  not_all recorded.Restart rest why e split = absurd e
  not_all (recorded.Came g) rest (fault.Configuration w) e split = e
  not_all (recorded.Came g) rest (fault.Recording w) e split = e
  not_all (recorded.Came g) rest (fault.Refused w) e split =
      let k = h.kernel in
      sym c.refusal
      ∙ ap (λ (xs : List RecordedLine). first_refusal k xs) split
      ∙ ap (λ (o : Option Refusal). or_else o (first_refusal (view_after k (reaction k g)) rest)) e
  not_all (recorded.Came g) rest fault.Memory e split = tt

  pub leads_last : left ≡ [] → HasDoneAll old h rs before text
  leads_last none =
      record {
        taken = sym c.refusal ∙ ap (λ (xs : List RecordedLine). first_refusal h.kernel xs) none;
        text = sym (append-nil text)
            ∙ ap (λ (xs : List RecordedLine). text ++ text_after h.kernel xs) (sym none)
            ∙ c.text;
        kernel = ap (λ (xs : List RecordedLine). kernel_after h.kernel xs) (sym none) ∙ c.kernel;
        tables = c.tables;
        system = c.system;
      }

abbrev pub AreDone : (old h : HostedSystem) (rs left : List RecordedLine) (before now : List ℕ) → Type 0
AreDone old h rs left before now = Stands (λ lines. lines) old h rs left before now

pub done_first : (old : HostedSystem) (rs : List RecordedLine) (before : List ℕ) → AreDone old old rs rs before before
done_first old rs before = record { done = []; all_are = refl; kernel = refl; text = sym (append-nil before) }

pub done_more : (old h : HostedSystem) (rs left : List RecordedLine) (before text : List ℕ)
    → AreDone old h rs left before text → (r : RecordedLine) (rest : List RecordedLine) (new : HostedSystem)
    (after : List ℕ)
    → HasDone h new r text after → left ≡ r ∷ rest → AreDone old new rs rest before after
done_more old h rs left before text s r rest new after t split =
    stands_on (λ lines. lines) old h rs left before text s r r rest new after refl t split

-- where it stops, what was done is written
pub cut_off : (old h : HostedSystem) (rs left : List RecordedLine) (before text after : List ℕ)
    → AreDone old h rs left before text → after ≡ text → IsCutOff (text_after old.kernel) rs before after
cut_off old h rs left before text after s same =
    record { done = s.done; left = left; all_are = s.all_are; text = same ∙ s.text }

-- the lines of setup, those of all events and the states at the end are the trace
pub whole : (system : System) (k : ForeignKernel) (rs : List RecordedLine) (now : KernelState)
    (before first lines after : List ℕ) → k ≡ new_kernel (tables_of system)
    → first ≡ before ++ lines_text (tables_of system) 0 k.lines → lines ≡ first ++ text_after k rs
    → now ≡ (kernel_after k rs).world.state → after ≡ lines ++ states_text (tables_of system) now
    → after ≡ before ++ recorded_trace (tables_of system) rs
whole system k rs now before first lines after is_new a b is_now c =
    let sys = tables_of system in
    c
    ∙ ap (λ (xs : List ℕ). xs ++ states_text sys now) b
    ∙ ap (λ (xs : List ℕ). (xs ++ text_after k rs) ++ states_text sys now) a
    ∙ append_assoc (before ++ lines_text sys 0 k.lines) (text_after k rs) (states_text sys now)
    ∙ append_assoc before (lines_text sys 0 k.lines) (text_after k rs ++ states_text sys now)
    ∙ ap (λ (s : KernelState). before ++ (lines_text sys 0 k.lines ++ (text_after k rs ++ states_text sys s))) is_now
    ∙ ap
    (λ (j : ForeignKernel). before ++ (lines_text sys 0 j.lines
    ++ (text_after j rs ++ states_text sys (kernel_after j rs).world.state)))
    is_new

-- where the counts never begin again, the lines lead along the run over what came
came_text : (k : ForeignKernel) (gs : List Given) → text_after k (came_lines gs) ≡ text_of k gs
came_text k [] = refl
came_text k (g ∷ gs) =
    let r = reaction k g in
    ap (λ (xs : List ℕ). added_by k r ++ xs) (came_text (view_after k r) gs) ∙ sym (text_by k gs r)

came_world : (k : ForeignKernel) (gs : List Given) → (kernel_after k (came_lines gs)).world ≡ (run_of k gs).world
came_world k [] = refl
came_world k (g ∷ gs) = let r = reaction k g in came_world (view_after k r) gs ∙ sym (world_by k gs r)

pub came_cut_off : (old h : HostedSystem) (gs left : List Given) (before text after : List ℕ)
    → Stands came_lines old h gs left before text → after ≡ text → IsCutOff (text_of old.kernel) gs before after
came_cut_off old h gs left before text after s same =
    record {
      done = s.done;
      left = left;
      all_are = s.all_are;
      text = same ∙ s.text ∙ ap (λ (xs : List ℕ). before ++ xs) (came_text old.kernel s.done);
    }

-- the trace of a recorded run, up to where its replay stops
pub begun_run : (system : System) (k : ForeignKernel) (recording : List ℕ) (rs : List RecordedLine)
    (before first after : List ℕ) → k ≡ new_kernel (tables_of system) → recorded_of system.processors recording ≡ Ok rs
    → first ≡ before ++ lines_text (tables_of system) 0 k.lines → IsCutOff (text_after k) rs first after
    → HasBegunRun system recording before after
begun_run system k recording rs before first after is_new recorded a cut =
    let sys = tables_of system in
    record {
      lines = rs;
      recorded = recorded;
      trace = record {
        done = cut.done;
        left = cut.left;
        all_are = cut.all_are;
        text = cut.text
            ∙ ap (λ (xs : List ℕ). xs ++ text_after k cut.done) a
            ∙ append_assoc before (lines_text sys 0 k.lines) (text_after k cut.done)
            ∙ ap (λ (j : ForeignKernel). before ++ (lines_text sys 0 j.lines ++ text_after j cut.done)) is_new;
      };
    }

-- where all lines are done, nothing is left
pub all_cut : (k : ForeignKernel) (rs : List RecordedLine) (before after : List ℕ) → after ≡ before ++ text_after k rs
    → IsCutOff (text_after k) rs before after
all_cut k rs before after e = record { done = rs; left = []; all_are = sym (append-nil rs); text = e }

-- the listed states are those that a kernel has at the end
pub listed : (sys : SystemTables) (now : KernelState) (xs : List TaskState)
    → xs ≡ map (task_state now) (places_from 0 (length sys.tasks)) → listed_states_text sys 0 xs ≡ states_text sys now
listed sys now xs q = ap (λ (ys : List TaskState). listed_states_text sys 0 ys) q ∙ listed_states_are_states sys now

pub whole_runs_are_replayed : WholeRunsAreReplayed
whole_runs_are_replayed system recording gs before after e h =
    let sys = tables_of system in
    let k = new_kernel sys in
    let same : h.lines ≡ came_lines gs = let read = h.recorded in cc in
    h.trace
    ∙ ap (λ (rs : List RecordedLine). before ++ recorded_trace sys rs) same
    ∙ ap (λ (xs : List ℕ). before ++ (lines_text sys 0 k.lines
    ++ (xs ++ states_text sys (kernel_after k (came_lines gs)).world.state)))
    (came_text k gs)
    ∙ ap (λ (w : World LastTold). before ++ (lines_text sys 0 k.lines ++ (text_of k gs ++ states_text sys w.state)))
    (came_world k gs)

-- what is written of a run is replayed to its trace
pub replayed_as_recorded : RecordedRunsAreReplayed
replayed_as_recorded system gs before after small all few h =
    whole_runs_are_replayed system (recording_text gs) gs before after
    (lines_again system.processors 1 gs small all (omega (arith, few))) h

pub lines_replayed : RecordedLinesAreReplayed
lines_replayed system rs before after small all few h =
    let read : recorded_of system.processors (recorded_lines_text rs) ≡ Ok rs =
    printed_lines_read_back system.processors rs small all few in
    let same : h.lines ≡ rs = let e = h.recorded in cc in
    h.trace ∙ ap (λ (xs : List RecordedLine). before ++ recorded_trace (tables_of system) xs) same

-- a fact holds on success where one that implies it does
pub on_ok_then : {T E P Q : Type 0} (r : Result T E) → (P → Q) → OnOk r P → OnOk r Q
on_ok_then (Ok x) f p = f p
on_ok_then (Err e) f p = tt

-- the same of an error
pub if_err_then : {T E : Type 0} {P Q : E → Type 0} (r : Result T E) → ((e : E) → P e → Q e) → IfErr r P → IfErr r Q
if_err_then (Ok x) f p = tt
if_err_then (Err e) f p = f e p

-- why a recorded run of a system is not replayed, where a configuration describes the system
pub of_described : (cfg recording : List ℕ) (system : System) → Describes cfg system → (why : ReplayFault)
    → IsWhyNotRun system recording why → IsReplayFault cfg recording why
of_described cfg recording system d (fault.Configuration w) h = absurd h
of_described cfg recording system d (fault.Recording w) h = record { system = system; described = d; fault = h }
of_described cfg recording system d (fault.Refused w) h = h
of_described cfg recording system d fault.Memory h = tt

-- what it leaves of the trace then
pub leaves_trace : (cfg recording : List ℕ) (system : System) (before after : List ℕ) → Describes cfg system
    → (why : ReplayFault) → LeavesRun system recording before after why → LeavesTrace cfg recording before after why
leaves_trace cfg recording system before after d (fault.Configuration w) h = absurd h
leaves_trace cfg recording system before after d (fault.Recording w) h = h
leaves_trace cfg recording system before after d (fault.Refused w) h = h
leaves_trace cfg recording system before after d fault.Memory (inl h) = inl h
leaves_trace cfg recording system before after d fault.Memory (inr h) =
    inr (record { system = system; described = d; begun = h })

-- why the replay of a recording stops
pub not_run : (system : System) (recording : List ℕ) (k : ForeignKernel) (rs : List RecordedLine) (why : ReplayFault)
    → k ≡ new_kernel (tables_of system) → recorded_of system.processors recording ≡ Ok rs → IsWhyNotAll k rs why
    → IsWhyNotRun system recording why
not_run system recording k rs (fault.Configuration w) is_new e h = absurd h
not_run system recording k rs (fault.Recording w) is_new e h = absurd h
not_run system recording k rs (fault.Refused w) is_new e h =
    let none : first_refusal k rs ≡ None =
    ap (λ (j : ForeignKernel). first_refusal j rs) is_new ∙ never_refused system recording rs e in
    cc
not_run system recording k rs fault.Memory is_new e h = tt

-- what it leaves of the trace then
pub left_by : (system : System) (recording : List ℕ) (k : ForeignKernel) (rs : List RecordedLine)
    (before first after : List ℕ) (why : ReplayFault) → k ≡ new_kernel (tables_of system)
    → recorded_of system.processors recording ≡ Ok rs → first ≡ before ++ lines_text (tables_of system) 0 k.lines
    → IsWhyNotAll k rs why → IsCutOff (text_after k) rs first after → LeavesRun system recording before after why
left_by system recording k rs before first after (fault.Configuration w) is_new e a h cut = absurd h
left_by system recording k rs before first after (fault.Recording w) is_new e a h cut = absurd h
left_by system recording k rs before first after (fault.Refused w) is_new e a h cut =
    not_run system recording k rs (fault.Refused w) is_new e h
left_by system recording k rs before first after fault.Memory is_new e a h cut =
    inr (begun_run system k recording rs before first after is_new e a cut)
