-- What an event leads to is kept; and the first state.
use Rattle.std.proofs.Common.{◌≡◌, ◌+◌, ℕ, List, [], Option, Some, None, Bool, true, false, refl, sym, ap, subst}
use Rattle.std.proofs.Common.{◌∙◌}
use Rattle.std.proofs.Common.{◌*◌, arith, count_by, is_some, length}
use Rattle.std.specs.List.{list_all, list_any}
use Rattle.fmp_base.specs.declared.events.Event.{Event}
use Rattle.fmp_base.specs.declared.events.Line.{Line}
use Rattle.fmp_base.specs.Meanings.{World}
use Rattle.fmp_base.specs.Setups.{setup}
use Rattle.fmp_base.specs.Steps.{Did}
use Rattle.fmp_question.specs.declared.question.Question.{Question}
use Rattle.fmp_explore.specs.declared.searches.Search.{Search}
use Rattle.fmp_question.specs.Forbidden.{forbids}
use Rattle.fmp_question.specs.Sites.{forbids_there, is_bad}
use Rattle.fmp_explore.specs.Searching.{HasDealt, HasDone, HasKept, HasKeptPlace, IsBegun, IsClean, IsFresh, IsSearch}
use Rattle.fmp_explore.specs.Searching.{Stays, came_on, rows_of, monitors_at_setup}
use Rattle.fmp_explore.specs.States.{IsKept, MayCome, counted, watched_with}
use Rattle.fmp_fields.specs.declared.field.What.{What}
use Rattle.fmp_fields.specs.Fields.{AreAllFields}
use Rattle.fmp_image_bytes.specs.Images.{ImageTables}
use Rattle.fmp_instructions.specs.Machine.{code_meaning}
use Rattle.fmp_instructions.specs.declared.instructions.MachineContext.{MachineContext}
use Rattle.fmp_live.specs.declared.live_rows.LiveLocals.{LiveLocals}
use Rattle.fmp_live.specs.Fits.{is_written}
use Rattle.fmp_live.specs.LiveLocals.{AreLiveTables, live_tables}
use Rattle.fmp_reachable.specs.Sound.{IsSound}
use Rattle.fmp_replay.specs.Replays.{kernel_after, replay}
use Rattle.fmp_schedules.specs.Deadlocks.{is_interrupt}
use Rattle.fmp_schedules.specs.declared.monitor.Monitor.{Monitor}
use Rattle.fmp_schedules.specs.Schedules.{Watched, came_after, is_any_broken, is_request, monitors_after}
use Rattle.fmp_schedules.proofs.EventLines.{setup-counts}
use Rattle.fmp_question.proofs.SiteLemmas.{none-anywhere, none-there}
use Rattle.fmp_witness.specs.Followed.{IsFollowed}
use Rattle.fmp_witness.proofs.OverLemmas.{Kernels}
use Rattle.fmp_witness.proofs.StepLemmas.{kept_by_run}
use Rattle.fmp_explore.proofs.StateLemmas.{fit_by, leads_done, leads_kept}
use Rattle.fmp_explore.proofs.SearchStepLemmas.{grows_on, grows_search, stays_grows, stays_search}
use Rattle.fmp_witness.specs.Asked.{Asked}

module _ (asked : Asked) where
  abbrev i : ImageTables
  i = asked.image

  abbrev n : ℕ
  n = asked.bound

  abbrev q : Question
  q = asked.question

  -- what an event that is done leads to is kept
  pub dealt_done : (a b c : Search) (k : Kernels) (w : World MachineContext) (came : ℕ) (ss : List Monitor) (e : Event)
      → IsSearch asked a → Stays a b
      → (b.sure ≡ true → list_any (is_bad i.system q k.world) k.lines ≡ false)
      → (b.sure ≡ true → is_any_broken ss k.lines ≡ false)
      → (b.sure ≡ true → b.rows.outs ≡ true → list_all (is_written i.system i.code k.world) k.lines ≡ true)
      → HasDone asked w e k → IsSound i.system i.code k.world
      → HasKept asked b c k.world (watched_with q (came_on q.interrupts came e) (monitors_after ss k.lines))
      → HasDealt asked a c w (watched_with q came ss) e
  dealt_done a b c k w came ss e h stays clean alone written done sound kept =
      let grows = grows_on a b c (stays_grows a b stays) kept.grows in
      record {
        grows = grows;
        leads = λ sure may.
            leads_done asked (rows_of c) (grows_search asked a c grows h).table.fields w came ss e done.done done.did
            (fit_by asked (rows_of c) (grows_search asked a c grows h).table.fields c.rows.outs w e (Did done.done)
            done.did (λ outs.
            subst (λ (v : World MachineContext). list_all (is_written i.system i.code v) done.done.lines ≡ true)
            done.world
            (subst (λ (ls : List Line). list_all (is_written i.system i.code k.world) ls ≡ true) done.lines
            (written (kept.grows.sure sure) (sym kept.grows.same.outs ∙ outs)))))
            (subst (λ (ls : List Line). list_any (forbids q.nevers.items) ls ≡ false) done.lines
            (none-anywhere i.system q k.world k.lines (clean (kept.grows.sure sure))))
            (subst
            (λ (v : World MachineContext). list_any (forbids_there i.system q.nevers_at.items v) done.done.lines
            ≡ false)
            done.world
            (subst (λ (ls : List Line). list_any (forbids_there i.system q.nevers_at.items k.world) ls ≡ false)
            done.lines
            (none-there i.system q k.world k.lines (clean (kept.grows.sure sure)))))
            (subst (λ (ls : List Line). is_any_broken ss ls ≡ false) done.lines (alone (kept.grows.sure sure)))
            (subst (λ (v : World MachineContext). IsSound i.system i.code v) done.world sound)
            (subst (λ (v : World MachineContext). IsKept asked (rows_of c) v
            (watched_with q (came_on q.interrupts came e) (monitors_after ss done.done.lines))) done.world
            (subst (λ (ls : List Line). IsKept asked (rows_of c) k.world
            (watched_with q (came_on q.interrupts came e) (monitors_after ss ls))) done.lines (kept.known sure)));
      }

  -- what an event that keeps a place leads to is kept
  pub dealt_kept : (a b c : Search) (k : Kernels) (w : World MachineContext) (came : ℕ) (ss : List Monitor) (e : Event)
      → IsSearch asked a → Stays a b → HasKeptPlace asked w e k → IsSound i.system i.code k.world
      → HasKept asked b c k.world (watched_with q (came_on q.interrupts came e) ss)
      → HasDealt asked a c w (watched_with q came ss) e
  dealt_kept a b c k w came ss e h stays kept_place sound kept =
      let grows = grows_on a b c (stays_grows a b stays) kept.grows in
      record {
        grows = grows;
        leads = λ sure may.
            leads_kept asked (rows_of c) (grows_search asked a c grows h).table.fields w came ss e kept_place.place
            k.world kept_place.keeps
            (kept_by_run i.system (code_meaning i.code) w kept_place.place k.world n e kept_place.keeps) sound
            (kept.known sure);
      }

  -- an event that may not come is left out
  pub dealt_not : (a b : Search) (w : World MachineContext) (x : Watched) (e : Event) → Stays a b
      → (MayCome asked w x e → ⊥) → HasDealt asked a b w x e
  dealt_not a b w x e stays never =
      record { grows = stays_grows a b stays; leads = λ sure may. absurd (never may) }

  -- what an event leads to is kept, where something was noted before
  pub dealt_after : (a b c : Search) (w : World MachineContext) (x : Watched) (e : Event) → Stays a b
      → HasDealt asked b c w x e → HasDealt asked a c w x e
  dealt_after a b c w x e stays h =
      record { grows = grows_on a b c (stays_grows a b stays) h.grows; leads = h.leads }

  -- ---- setup

  came_at_setup : (most : Option ℕ) (ls : List Line) → count_by is_request ls ≡ 0
      → came_after most 0 ls ≡ 0
  came_at_setup None ls h = refl
  came_at_setup (Some most) ls h =
      let e : 0 + count_by is_request ls ≡ 0 = omega (arith, h) in
      e

  counted_none : (most : Option ℕ) → counted most 0 ≡ 0
  counted_none None = refl
  counted_none (Some most) = refl

  -- where no line of setup is forbidden, what is watched then is what is watched after no event
  watched_clean : list_any (forbids q.nevers.items) (setup i.system (code_meaning i.code)).lines ≡ false
      → is_any_broken q.monitors.items (setup i.system (code_meaning i.code)).lines ≡ false → IsClean asked
  watched_clean clean alone =
      let with : ℕ → Bool → Bool → Watched =
      λ (came : ℕ) (told broken : Bool).
      record { came = came; told = told; monitors = monitors_at_setup asked; broken = broken } in
      let ls : List Line = (setup i.system (code_meaning i.code)).lines in
      let came : ℕ = came_after q.interrupts 0 (setup i.system (code_meaning i.code)).lines in
      let told : Bool = list_any (forbids q.nevers.items) (setup i.system (code_meaning i.code)).lines in
      ap (λ (k : ℕ). with k false false)
      (counted_none q.interrupts ∙ sym (came_at_setup q.interrupts (setup i.system (code_meaning i.code)).lines
      (setup-counts i.system (code_meaning i.code))))
      ∙ sym (ap (λ (broken : Bool). with came told broken) alone ∙ ap (λ (b : Bool). with came b false) clean)

  -- where no line that a kernel told at setup is forbidden, setup is clean
  pub clean_setup : (k : Kernels) → k ≡ kernel_after i n [] → list_any (is_bad i.system q k.world) k.lines ≡ false
      → is_any_broken q.monitors.items k.lines ≡ false → IsClean asked
  unfolding replay
  clean_setup k first clean alone =
      watched_clean
      (subst (λ (x : Kernels). list_any (forbids q.nevers.items) x.lines ≡ false) first
      (none-anywhere i.system q k.world k.lines clean))
      (subst (λ (x : Kernels). is_any_broken q.monitors.items x.lines ≡ false) first alone)

  -- the lines of setup
  pub lines_at_setup : (k : Kernels) → k ≡ kernel_after i n []
      → monitors_after q.monitors.items k.lines ≡ monitors_at_setup asked
  unfolding replay
  lines_at_setup k first = ap (λ (x : Kernels). monitors_after q.monitors.items x.lines) first

  -- the first state is kept
  pub begun_of : (a b : Search) (k : Kernels) (ss : List Monitor) → IsSearch asked a → (a.sure ≡ true → IsClean asked)
      → IsFollowed i n q.after.items k → ss ≡ monitors_at_setup asked
      → HasKept asked a b k.world (watched_with q (count_by is_interrupt q.after.items) ss) → IsBegun asked b
  begun_of a b k ss h clean followed is kept =
      record {
        search = grows_search asked a b kept.grows h;
        clean = λ sure. clean (kept.grows.sure sure);
        first = λ sure.
            subst (λ (xs : List Monitor). IsKept asked (rows_of b) (replay i n q.after.items).world
            (watched_with q (count_by is_interrupt q.after.items) xs)) is
            (subst (λ (x : Kernels). IsKept asked (rows_of b) x.world
            (watched_with q (count_by is_interrupt q.after.items) ss)) followed.kernel (kept.known sure));
      }

  -- the first state cannot be reached
  pub begun_nowhere : (a b : Search) → Stays a b → IsSearch asked a → b.sure ≡ false → IsBegun asked b
  begun_nowhere a b stays h lost =
      record {
        search = stays_search asked a b stays h;
        clean = λ sure. absurd (cc (sure, lost));
        first = λ sure. absurd (cc (sure, lost));
      }

  -- a search that has no state yet, once the first numbers of its fields are read
  pub fresh_search : (a b : Search) → IsFresh asked a → b.tries.items ≡ a.tries.items
      → b.rows.fields.items ≡ a.rows.fields.items → b.rows.outs ≡ a.rows.outs → b.rows.live ≡ a.rows.live
      → length b.rows.first.items ≡ length b.rows.fields.items + 2 * length q.monitors.items → IsSearch asked b
  fresh_search a b h tries fields outs live size =
      record {
        table =
            record {
              tries = tries ∙ h.table.tries;
              fields = subst (λ (fs : List What). AreAllFields i.system i.code (is_some q.interrupts) fs)
                  (sym fields) h.table.fields;
              live =
                  subst (λ (outs : Bool). AreLiveTables outs i.code (live_tables b.rows.live)) (sym outs)
                  (subst (λ (x : LiveLocals). AreLiveTables a.rows.outs i.code (live_tables x)) (sym live)
                  h.table.live);
            };
        first = size;
      }
