-- What rows tell of worlds, and what events lead to.
use Rattle.std.proofs.Common.{◌≡◌, ◌+◌, ℕ, zero, suc, List, [], ◌∷◌, ◌++◌, Option, Some, None, Bool, true, false}
use Rattle.std.proofs.Common.{refl, sym, ap, subst, ◌∙◌, arith, cond, count_by, is_some, length, length-append, map}
use Rattle.std.proofs.Common.{◌*◌, slice_get}
use Rattle.std.proofs.lemmas.List.{length-map}
use Rattle.std.specs.List.{list_any}
use Rattle.fmp_bisimulation.specs.Closed.{IsCovered, LeadsIn}
use Rattle.fmp_base.specs.declared.events.Event.{Event}
use Rattle.fmp_base.specs.declared.events.Event.TheVariants as event
use Rattle.fmp_base.specs.declared.events.Line.{Line}
use Rattle.fmp_base.specs.Meanings.{World}
use Rattle.fmp_base.specs.Steps.{Done, Reaction, Nothing, Did, Kept}
use Rattle.fmp_question.specs.declared.question.Question.{Question}
use Rattle.fmp_question.specs.Forbidden.{forbids}
use Rattle.fmp_question.specs.Sites.{forbids_there}
use Rattle.fmp_question.specs.Rules.{rules_of}
use Rattle.fmp_explore.specs.Searching.{came_on}
use Rattle.fmp_explore.specs.Slices.{IsAmong}
use Rattle.fmp_explore.specs.States.{AreMonitorsOf, HasRow, IsExamined, IsKept, IsTriedOut, KeptRows, LeadsOn, counted}
use Rattle.fmp_explore.specs.States.{numbers_in, reaction_in, watched_with}
use Rattle.fmp_fields.specs.FieldNumbers.{number_of}
use Rattle.fmp_fields.specs.Fields.{AreAllFields}
use Rattle.fmp_fields.proofs.FieldLaws.{fields-told, interrupts-told, live-fields-told}
use Rattle.fmp_image_bytes.specs.Images.{ImageTables}
use Rattle.fmp_instructions.specs.Machine.{code_meaning}
use Rattle.fmp_instructions.specs.declared.instructions.MachineContext.{MachineContext}
use Rattle.fmp_live.specs.LiveLocals.{LiveTable}
use Rattle.fmp_live.specs.Fits.{AreWritten, IsFit}
use Rattle.fmp_live.specs.Zeroed.{IsLike, zeroed}
use Rattle.fmp_live.proofs.LikeLaws.{alike-like}
use Rattle.fmp_reachable.specs.Readable.{IsReadable}
use Rattle.fmp_reachable.specs.Sound.{IsSound}
use Rattle.fmp_reachable.proofs.SoundLaws.{sound-readable}
use Rattle.fmp_schedules.specs.Deadlocks.{is_interrupt}
use Rattle.fmp_schedules.specs.declared.monitor.Monitor.{Monitor}
use Rattle.fmp_schedules.specs.Schedules.{IsSilent, Watched, came_after, is_any_broken, is_request, monitors_after}
use Rattle.fmp_schedules.specs.Schedules.{watch}
use Rattle.fmp_schedules.proofs.EventLines.{done-counts}
use Rattle.fmp_visited.proofs.RowLemmas.{rows-told}
use Rattle.fmp_explore.proofs.MonitorLemmas.{append-parts, held-length, held-told, numbers-length, numbers_of}
use Rattle.fmp_witness.specs.Asked.{Asked}

-- ---- more rows

-- other rows in place of those that are kept
abbrev pub with_rows : KeptRows → List (List ℕ) → KeptRows
with_rows kept rows = record kept { rows = rows }

-- the rows with more after them
abbrev pub grown : KeptRows → List (List ℕ) → KeptRows
grown kept more = with_rows kept (kept.rows ++ more)

-- each row is one of the others
abbrev pub AreAmong : (rows others : List (List ℕ)) → Type 0
AreAmong rows others = (k : ℕ) (row : List ℕ) → slice_get rows k ≡ Some row → IsAmong others row

-- an element of a list is one of a longer list
pub element_stays : {X : Type 0} (xs ys : List X) (k : ℕ) (x : X) → slice_get xs k ≡ Some x
    → slice_get (xs ++ ys) k ≡ Some x
element_stays [] ys k x e = absurd (cc (e))
element_stays (y ∷ xs) ys zero x e = e
element_stays (y ∷ xs) ys (suc k) x e = element_stays xs ys k x e

pub element_last : {X : Type 0} (xs : List X) (x : X) → slice_get (xs ++ x ∷ []) (length xs) ≡ Some x
element_last [] x = refl
element_last (y ∷ xs) x = element_last xs x

pub among_more : (rows more : List (List ℕ)) → AreAmong rows (rows ++ more)
among_more rows more k row e = record { place = k; there = element_stays rows more k row e }

module _ (asked : Asked) where
  abbrev i : ImageTables
  i = asked.image

  abbrev n : ℕ
  n = asked.bound

  abbrev q : Question
  q = asked.question

  abbrev pub Leads : KeptRows → Watched → Reaction MachineContext → Type 0
  Leads kept a r =
      LeadsIn (IsLike kept.outs i.system i.code) (watch (rules_of q) (forbids q.nevers.items)) (IsKept asked kept) a r

  abbrev Silent : Reaction MachineContext → Type 0
  Silent r = IsSilent (forbids_there i.system q.nevers_at.items) r

  -- a row says nothing of the other rows
  pub row_with : (kept : KeptRows) (rows : List (List ℕ)) (w : World MachineContext) (a : Watched) (row : List ℕ)
      → HasRow asked kept w a row → HasRow asked (with_rows kept rows) w a row
  row_with kept rows w a row h =
      record {
        sound = h.sound;
        came = h.came;
        few = h.few;
        held = h.held;
        watch = h.watch;
        tables = h.tables;
        live = h.live;
        is = h.is;
      }

  -- ---- what is so of rows is so where each is one of others

  module _ (kept : KeptRows) (rows : List (List ℕ)) (all : AreAmong kept.rows rows) where
    pub kept_with : (w : World MachineContext) (a : Watched) → IsKept asked kept w a
        → IsKept asked (with_rows kept rows) w a
    kept_with w a h =
        let at : IsAmong rows h.row = all h.state h.row h.there in
        record { state = at.place; row = h.row; there = at.there; has = row_with kept rows w a h.row h.has }

    covered_with : (w : World MachineContext) (a : Watched)
        → IsCovered (IsLike kept.outs i.system i.code) (IsKept asked kept) w a
        → IsCovered (IsLike kept.outs i.system i.code) (IsKept asked (with_rows kept rows)) w a
    covered_with w a c = record { world = c.world; alike = c.alike; kept = kept_with c.world a c.kept }

    leads_with : (a : Watched) (r : Reaction MachineContext) → Leads kept a r → Leads (with_rows kept rows) a r
    leads_with a Nothing l = tt
    leads_with a (Did d) l = covered_with d.world _ l
    leads_with a (Kept p w) l = covered_with w a l

    pub leads_on_with : (w : World MachineContext) (a : Watched) (e : Event) → LeadsOn asked kept w a e
        → LeadsOn asked (with_rows kept rows) w a e
    leads_on_with w a e l =
        record { fit = l.fit; leads = leads_with a (reaction_in asked w e) l.leads; silent = l.silent }

    tried_out_with : (w : World MachineContext) (a : Watched) → IsTriedOut asked kept w a
        → IsTriedOut asked (with_rows kept rows) w a
    tried_out_with w a t =
        record { each = λ e is may. leads_on_with w a e (t.each e is may); upheld = t.upheld; free = t.free }

    pub examined_with : (row : List ℕ) → IsExamined asked kept row → IsExamined asked (with_rows kept rows) row
    examined_with row x =
        record {
          world = x.world;
          watched = x.watched;
          has = row_with kept rows x.world x.watched row x.has;
          tried = tried_out_with x.world x.watched x.tried;
        }

  -- ---- where there are more rows

  pub row_grown : (kept : KeptRows) (more : List (List ℕ)) (w : World MachineContext) (a : Watched) (row : List ℕ)
      → HasRow asked kept w a row → HasRow asked (grown kept more) w a row
  row_grown kept more w a row h = row_with kept (kept.rows ++ more) w a row h

  pub kept_grown : (kept : KeptRows) (more : List (List ℕ)) (w : World MachineContext) (a : Watched)
      → IsKept asked kept w a → IsKept asked (grown kept more) w a
  kept_grown kept more w a h = kept_with kept (kept.rows ++ more) (among_more kept.rows more) w a h

  pub leads_on_grown : (kept : KeptRows) (more : List (List ℕ)) (w : World MachineContext) (a : Watched) (e : Event)
      → LeadsOn asked kept w a e → LeadsOn asked (grown kept more) w a e
  leads_on_grown kept more w a e l = leads_on_with kept (kept.rows ++ more) (among_more kept.rows more) w a e l

  pub examined_grown : (kept : KeptRows) (more : List (List ℕ)) (row : List ℕ) → IsExamined asked kept row
      → IsExamined asked (grown kept more) row
  examined_grown kept more row x = examined_with kept (kept.rows ++ more) (among_more kept.rows more) row x

  -- ---- one row

  counted_same : (most : Option ℕ) (m k : ℕ) → (is_some most ≡ true → m ≡ k) → counted most m ≡ counted most k
  counted_same None m k h = refl
  counted_same (Some most) m k h = h refl

  pub readable : (w : World MachineContext) → IsSound i.system i.code w → IsReadable i.system i.code w
  readable w h = sound-readable i.system i.code w h

  module _ (kept : KeptRows) (all : AreAllFields i.system i.code (is_some q.interrupts) kept.fields) where
    pub alike_self : (w : World MachineContext) → IsSound i.system i.code w → IsLike kept.outs i.system i.code w w
    alike_self w h =
        alike-like kept.outs i.system i.code w w
        (fields-told i.system i.code (is_some q.interrupts) kept.fields w w 0 0 all (readable w h) (readable w h) refl)

    module _ (size : length kept.first ≡ length kept.fields + 2 * length q.monitors.items) (v w : World MachineContext)
        (a b : Watched) (row : List ℕ) (h : HasRow asked kept v a row) (k : HasRow asked kept w b row) where
      abbrev fields_in : List LiveTable → World MachineContext → (came : ℕ) → List ℕ
      fields_in tables x came = map (number_of i.system (zeroed i.system tables x) came) kept.fields

      as_many : (tables : List LiveTable) (x : World MachineContext) (came : ℕ) (ss : List Monitor)
          → AreMonitorsOf q.monitors.items ss → length (numbers_in i.system tables kept.fields x came ss)
          ≡ length kept.first
      as_many tables x came ss held =
          length-append (fields_in tables x came) (numbers_of ss)
          ∙ ap (λ (m : ℕ). m + length (numbers_of ss)) (length-map kept.fields _)
          ∙ ap (λ (m : ℕ). length kept.fields + m)
          (numbers-length ss ∙ ap (λ (m : ℕ). 2 * m) (held-length q.monitors.items ss held))
          ∙ sym size

      parts : (fields_in h.tables v h.came ≡ fields_in k.tables w k.came)
          × (numbers_of a.monitors ≡ numbers_of b.monitors)
      parts =
          append-parts (fields_in h.tables v h.came) (fields_in k.tables w k.came) (numbers_of a.monitors)
          (numbers_of b.monitors) (length-map kept.fields _ ∙ sym (length-map kept.fields _))
          (rows-told kept.first (numbers_in i.system h.tables kept.fields v h.came a.monitors)
          (numbers_in i.system k.tables kept.fields w k.came b.monitors)
          (as_many h.tables v h.came a.monitors h.held) (as_many k.tables w k.came b.monitors k.held)
          h.is.values k.is.values (sym h.is.is ∙ k.is.is))

      -- worlds of one row are alike, but for dead locals
      pub row_alike : IsLike kept.outs i.system i.code v w
      row_alike =
          live-fields-told kept.outs i.system i.code (is_some q.interrupts) kept.fields v w h.tables k.tables h.came
          k.came all h.live k.live (readable v h.sound) (readable w k.sound) parts.0

      same_came : counted q.interrupts h.came ≡ counted q.interrupts k.came
      same_came =
          counted_same q.interrupts h.came k.came
          (λ limited. interrupts-told i.system i.code (is_some q.interrupts) kept.fields (zeroed i.system h.tables v)
          (zeroed i.system k.tables w) h.came k.came all limited (h.few limited) (k.few limited) parts.0)

      -- and the same is watched there
      pub row_watch : a ≡ b
      row_watch =
          let with : ℕ → List Monitor → Watched = λ (came : ℕ) (monitors : List Monitor).
          record { came = came; told = false; monitors = monitors; broken = false } in
          h.watch
          ∙ ap (λ (came : ℕ). with came a.monitors) same_came
          ∙ ap (λ (ss : List Monitor). with (counted q.interrupts k.came) ss)
          (held-told q.monitors.items a.monitors b.monitors h.held k.held parts.1)
          ∙ sym k.watch

    -- ---- what events lead to

    same : (came count : ℕ) → count ≡ 0 → came + count ≡ came
    same came count h = omega (arith, h)

    count_next : (came : ℕ) (e : Event) (count : ℕ) → count ≡ cond (is_interrupt e) 1 0 → (most : ℕ)
        → came + count ≡ came_on (Some most) came e
    count_next came (event.Run p) count h most = same came count h
    count_next came event.Tick count h most = same came count h
    count_next came (event.Int number) count h most = ap (λ (k : ℕ). came + k) h

    came_next : (most : Option ℕ) (came : ℕ) (e : Event) (ls : List Line)
        → count_by is_request ls ≡ cond (is_interrupt e) 1 0
        → came_after most (counted most came) ls ≡ counted most (came_on most came e)
    came_next None came e ls h = refl
    came_next (Some most) came e ls h = count_next came e (count_by is_request ls) h most

    -- an event that does this fits, if its replies are written
    pub fit_by : (b : Bool) (w : World MachineContext) (e : Event) (r : Reaction MachineContext)
        → reaction_in asked w e ≡ r → (b ≡ true → AreWritten i.system i.code r) → IsFit b i.system i.code n w e
    fit_by false w e r is h = tt
    fit_by true w e r is h = subst (λ (x : Reaction MachineContext). AreWritten i.system i.code x) (sym is) (h refl)

    -- an event that is done, where no line is forbidden and the world after it is kept
    pub leads_done : (w : World MachineContext) (came : ℕ) (ss : List Monitor) (e : Event) (d : Done MachineContext)
        → reaction_in asked w e ≡ Did d → IsFit kept.outs i.system i.code n w e
        → list_any (forbids q.nevers.items) d.lines ≡ false
        → list_any (forbids_there i.system q.nevers_at.items d.world) d.lines ≡ false
        → is_any_broken ss d.lines ≡ false → IsSound i.system i.code d.world
        → IsKept asked kept d.world (watched_with q (came_on q.interrupts came e) (monitors_after ss d.lines))
        → LeadsOn asked kept w (watched_with q came ss) e
    leads_done w came ss e d did fit clean clean_there alone sound known =
        let count : count_by is_request d.lines ≡ cond (is_interrupt e) 1 0 =
        done-counts i.system (code_meaning i.code) n w e d did in
        let with : ℕ → Bool → Bool → Watched =
        λ (came : ℕ) (told : Bool) (broken : Bool).
        record { came = came; told = told; monitors = monitors_after ss d.lines; broken = broken } in
        let next : ℕ = came_after q.interrupts (counted q.interrupts came) d.lines in
        let watch : watched_with q (came_on q.interrupts came e) (monitors_after ss d.lines)
        ≡ with next (list_any (forbids q.nevers.items) d.lines) (is_any_broken ss d.lines) =
        sym (ap (λ (broken : Bool). with next (list_any (forbids q.nevers.items) d.lines) broken) alone
        ∙ ap (λ (told : Bool). with next told false) clean
        ∙ ap (λ (k : ℕ). with k false false) (came_next q.interrupts came e d.lines count)) in
        record {
          fit = fit;
          leads =
              subst (λ (r : Reaction MachineContext). Leads kept (watched_with q came ss) r) (sym did)
              (subst (λ (a : Watched). IsCovered (IsLike kept.outs i.system i.code) (IsKept asked kept) d.world a) watch
              (record { world = d.world; alike = alike_self d.world sound; kept = known }));
          silent = subst (λ (r : Reaction MachineContext). Silent r) (sym did) clean_there;
        }

    -- an event that does nothing
    pub leads_nowhere : (w : World MachineContext) (a : Watched) (e : Event) → reaction_in asked w e ≡ Nothing
        → LeadsOn asked kept w a e
    leads_nowhere w a e none =
        record {
          fit = fit_by kept.outs w e Nothing none (λ b. tt);
          leads = subst (λ (r : Reaction MachineContext). Leads kept a r) (sym none) tt;
          silent = subst (λ (r : Reaction MachineContext). Silent r) (sym none) tt;
        }

    came_stays : (most : Option ℕ) (came : ℕ) (e : Event) → is_interrupt e ≡ false
        → counted most (came_on most came e) ≡ counted most came
    came_stays None came e h = refl
    came_stays (Some most) came (event.Run p) h = refl
    came_stays (Some most) came event.Tick h = refl
    came_stays (Some most) came (event.Int number) h = absurd (cc (h))

    -- an event that keeps a place, where the world after it is kept
    pub leads_kept : (w : World MachineContext) (came : ℕ) (ss : List Monitor) (e : Event) (p : ℕ)
        (v : World MachineContext) → reaction_in asked w e ≡ Kept p v → is_interrupt e ≡ false
        → IsSound i.system i.code v → IsKept asked kept v (watched_with q (came_on q.interrupts came e) ss)
        → LeadsOn asked kept w (watched_with q came ss) e
    leads_kept w came ss e p v keeps runs sound known =
        let with : ℕ → Watched = λ (came : ℕ). record { came = came; told = false; monitors = ss; broken = false } in
        record {
          fit = fit_by kept.outs w e (Kept p v) keeps (λ b. tt);
          leads =
              subst (λ (r : Reaction MachineContext). Leads kept (watched_with q came ss) r) (sym keeps)
              (record {
                world = v;
                alike = alike_self v sound;
                kept =
                    subst (λ (a : Watched). IsKept asked kept v a)
                    (ap (λ (k : ℕ). with k) (came_stays q.interrupts came e runs)) known;
              });
          silent = subst (λ (r : Reaction MachineContext). Silent r) (sym keeps) tt;
        }
