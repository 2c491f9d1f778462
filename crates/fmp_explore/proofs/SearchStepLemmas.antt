-- Searches that go on.
use Rattle.std.proofs.Common.{◌≡◌, ◌+◌, ◌*◌, ◌<◌, ℕ, zero, suc, List, [], ◌∷◌, ◌++◌, Some, Bool, true, false, refl}
use Rattle.std.proofs.Common.{ap, sym, subst, ◌∙◌, append_assoc, append-nil, arith, is_some, length, slice_get}
use Rattle.std.specs.Prelude.{unwrap_or}
use Rattle.fmp_question.specs.declared.question.Question.{Question}
use Rattle.fmp_explore.specs.declared.rows.Rows.{Rows}
use Rattle.fmp_explore.specs.declared.searches.Search.{Search}
use Rattle.fmp_explore.specs.declared.trying.ExaminedState.{ExaminedState}
use Rattle.fmp_explore.specs.Searching.{CanStep, Grows, HasKept, HasLive, IsSearch, SameTable, StandsAt, Stays, rows_of}
use Rattle.fmp_explore.specs.States.{AreFew, AreMonitorsOf, HasRow, IsRowOf, KeptRows, numbers_in, watched_with}
use Rattle.fmp_fields.specs.declared.field.What.{What}
use Rattle.fmp_fields.specs.Fields.{AreAllFields}
use Rattle.fmp_image_bytes.specs.Images.{ImageTables}
use Rattle.fmp_live.specs.declared.live_rows.LiveLocals.{LiveLocals}
use Rattle.fmp_live.specs.LiveLocals.{AreLiveTables, LiveTable, live_tables}
use Rattle.fmp_reachable.specs.Sound.{IsSound}
use Rattle.fmp_schedules.specs.declared.monitor.Monitor.{Monitor}
use Rattle.fmp_visited.specs.declared.link.StateLink.{StateLink}
use Rattle.fmp_visited.specs.declared.link.RowEntry.{RowEntry}
use Rattle.fmp_visited.specs.declared.link.RowEntry.TheVariants as entry
use Rattle.fmp_visited.specs.Rows.{row_of}
use Rattle.fmp_visited.specs.Seen.{Adds, SeenStates, with_state}
use Rattle.fmp_base.specs.Systems.{SystemTables}
use Rattle.fmp_witness.proofs.OverLemmas.{Kernels}
use Rattle.fmp_explore.proofs.StateLemmas.{element_last, grown}
use Rattle.fmp_witness.specs.Asked.{Asked}
use Rattle.fmp_explore.specs.Searching.{HasTold, IsKernelOf}

-- what is known of the numbers that were taken last stays so
pub told_rows : (r s : Rows) (row : List ℕ) → s.first.items ≡ r.first.items → s.told.items ≡ r.told.items
    → s.exact ≡ r.exact → HasTold r row → HasTold s row
told_rows r s row first told exact has e =
    has (sym exact ∙ e)
    ∙ (ap (λ (xs : List ℕ). row_of xs r.told.items) (sym first)
    ∙ ap (λ (xs : List ℕ). row_of s.first.items xs) (sym told))

-- what becomes of the states where a row is looked up
adds_at : (old new : SeenStates) (row : List ℕ) (link : StateLink) (x y : RowEntry) → x ≡ y → Adds old new row link x
    → Adds old new row link y
adds_at old new row link x y e h = subst (λ (z : RowEntry). Adds old new row link z) e h

pub adds_new : (old new : SeenStates) (row : List ℕ) (link : StateLink) (x : RowEntry) (place : ℕ) → x ≡ entry.New place
    → Adds old new row link x → new ≡ with_state old row link
adds_new old new row link x place e h = (adds_at old new row link x (entry.New place) e h).1

pub adds_known : (old new : SeenStates) (row : List ℕ) (link : StateLink) (x : RowEntry) (place : ℕ) → x
    ≡ entry.Known place
    → Adds old new row link x → (new ≡ old) × (slice_get old.rows place ≡ Some row)
adds_known old new row link x place e h = adds_at old new row link x (entry.Known place) e h

pub adds_none : (old new : SeenStates) (row : List ℕ) (link : StateLink) (x : RowEntry) → x ≡ entry.Full
    → Adds old new row link x → new ≡ old
adds_none old new row link x e h = (adds_at old new row link x entry.Full e h).0

-- ---- the same table

pub same_self : (a : Search) → SameTable a a
same_self a = record { tries = refl; fields = refl; first = refl; outs = refl; live = refl }

pub same_on : (a b c : Search) → SameTable a b → SameTable b c → SameTable a c
same_on a b c g h =
    record {
      tries = h.tries ∙ g.tries;
      fields = h.fields ∙ g.fields;
      first = h.first ∙ g.first;
      outs = h.outs ∙ g.outs;
      live = h.live ∙ g.live;
    }

pub live_on : (asked : Asked) (outs outs' : Bool) (x x' : LiveLocals) → outs' ≡ outs → x' ≡ x
    → AreLiveTables outs asked.image.code (live_tables x) → AreLiveTables outs' asked.image.code (live_tables x')
live_on asked outs outs' x x' e f h =
    subst (λ (b : Bool). AreLiveTables b asked.image.code (live_tables x')) (sym e)
    (subst (λ (y : LiveLocals). AreLiveTables outs asked.image.code (live_tables y)) (sym f) h)

pub same_live : (asked : Asked) (a b : Search) → SameTable a b → HasLive asked a.rows → HasLive asked b.rows
same_live asked a b s h = live_on asked a.rows.outs b.rows.outs a.rows.live b.rows.live s.outs s.live h

pub same_search : (asked : Asked) (a b : Search) → SameTable a b → IsSearch asked a → IsSearch asked b
same_search asked a b s h =
    record {
      table =
          record {
            tries = s.tries ∙ h.table.tries;
            fields = subst
                (λ (fs : List What). AreAllFields asked.image.system asked.image.code
                (is_some asked.question.interrupts) fs)
                (sym s.fields) h.table.fields;
            live = same_live asked a b s h.table.live;
          };
      first =
          ap (λ (xs : List ℕ). length xs) s.first ∙ h.first
          ∙ sym (ap (λ (fs : List What). length fs + 2 * length asked.question.monitors.items) s.fields);
    }

-- ---- growing

pub grows_on : (a b c : Search) → Grows a b → Grows b c → Grows a c
grows_on a b c g h =
    record {
      same = same_on a b c g.same h.same;
      more = g.more ++ h.more;
      rows = h.rows ∙ ap (λ (rs : List (List ℕ)). rs ++ h.more) g.rows ∙ append_assoc a.seen.rows g.more h.more;
      sure = λ e. g.sure (h.sure e);
    }

pub same_grows : (a : Search) → Grows a a
same_grows a = record { same = same_self a; more = []; rows = sym (append-nil a.seen.rows); sure = λ e. e }

pub stays_grows : (a b : Search) → Stays a b → Grows a b
stays_grows a b s =
    record {
      same = s.same;
      more = [];
      rows = ap (λ (x : SeenStates). x.rows) s.seen ∙ sym (append-nil a.seen.rows);
      sure = s.sure;
    }

pub stays_on : (a b c : Search) → Stays a b → Stays b c → Stays a c
stays_on a b c s t =
    record { same = same_on a b c s.same t.same; seen = t.seen ∙ s.seen; sure = λ e. s.sure (t.sure e) }

-- where the rows were written or read first
pub stays_rows : (a c : Search) (r : Rows) → r.fields.items ≡ a.rows.fields.items → r.first.items ≡ a.rows.first.items
    → r.outs ≡ a.rows.outs → r.live ≡ a.rows.live → Stays (record a { rows = r }) c → Stays a c
stays_rows a c r fields first outs live h =
    record {
      same =
          record {
            tries = h.same.tries;
            fields = h.same.fields ∙ fields;
            first = h.same.first ∙ first;
            outs = h.same.outs ∙ outs;
            live = h.same.live ∙ live;
          };
      seen = h.seen;
      sure = h.sure;
    }

pub grows_search : (asked : Asked) (a b : Search) → Grows a b → IsSearch asked a → IsSearch asked b
grows_search asked a b g h = same_search asked a b g.same h

pub stays_search : (asked : Asked) (a b : Search) → Stays a b → IsSearch asked a → IsSearch asked b
stays_search asked a b s h = same_search asked a b s.same h

table_is : (a b : Search) → SameTable a b
    → rows_of b
    ≡ record {
      outs = a.rows.outs;
      fields = a.rows.fields.items;
      first = a.rows.first.items;
      rows = b.seen.rows;
    }
table_is a b s =
    let with : Bool → List What → List ℕ → KeptRows = λ (outs : Bool) (fields : List What) (first : List ℕ).
    record { outs = outs; fields = fields; first = first; rows = b.seen.rows } in
    ap (λ (outs : Bool). with outs b.rows.fields.items b.rows.first.items) s.outs
    ∙ ap (λ (fields : List What). with a.rows.outs fields b.rows.first.items) s.fields
    ∙ ap (λ (first : List ℕ). with a.rows.outs a.rows.fields.items first) s.first

-- the rows of a search that has grown are those that it had, and more
pub grows_rows : (a b : Search) (g : Grows a b) → rows_of b ≡ grown (rows_of a) g.more
grows_rows a b g =
    table_is a b g.same
    ∙ ap
    (λ (rs : List (List ℕ)).
    record { outs = a.rows.outs; fields = a.rows.fields.items; first = a.rows.first.items; rows = rs }) g.rows

-- ---- one state

-- an element that is there is what is read
pub found_there : {X : Type 0} (xs : List X) (k : ℕ) (d x : X) → k < length xs → unwrap_or (slice_get xs k) d ≡ x
    → slice_get xs k ≡ Some x
found_there [] k d x lt e = absurd (omega (arith, lt))
found_there (y ∷ xs) zero d x lt e = ap Some e
found_there (y ∷ xs) (suc k) d x lt e = found_there xs k d x (omega (arith, lt)) e

module _ (asked : Asked) where
  abbrev i : ImageTables
  i = asked.image

  abbrev q : Question
  q = asked.question

  -- the row of a kernel in a sound world
  pub row_of_kernel : (a b : Search) → SameTable a b → (k : Kernels) (came : ℕ) (ss : List Monitor)
      (tables : List LiveTable) (row : List ℕ) → IsKernelOf asked k → IsSound i.system i.code k.world → AreFew q came
      → AreMonitorsOf q.monitors.items ss → AreLiveTables a.rows.outs i.code tables
      → IsRowOf a.rows.first.items (numbers_in k.system tables a.rows.fields.items k.world came ss) row
      → HasRow asked (rows_of b) k.world (watched_with q came ss) row
  row_of_kernel a b same k came ss tables row over sound few held live is =
      subst (λ (kept : KeptRows). HasRow asked kept k.world (watched_with q came ss) row) (sym (table_is a b same))
      (record {
        sound = sound;
        came = came;
        few = few;
        held = held;
        watch = refl;
        tables = tables;
        live = live;
        is =
            subst (λ (sys : SystemTables). IsRowOf a.rows.first.items
            (numbers_in sys tables a.rows.fields.items k.world came ss) row) over.system is;
      })

  -- a kernel whose row is that of a state is in the state
  pub stands_of : (a b : Search) → Stays a b → (at : ExaminedState) (k : Kernels) (tables : List LiveTable)
      (row : List ℕ) → CanStep asked k → at.state < length a.seen.rows → AreFew q at.came
      → AreMonitorsOf q.monitors.items at.monitors.items → AreLiveTables a.rows.outs i.code tables
      → IsRowOf a.rows.first.items
      (numbers_in k.system tables a.rows.fields.items k.world at.came at.monitors.items) row
      → unwrap_or (slice_get a.seen.rows at.state) [] ≡ row → StandsAt asked b at k
  stands_of a b stays at k tables row ready there few held live is same =
      record {
        ready = ready;
        row = row;
        there =
            ap (λ (s : SeenStates). slice_get s.rows at.state) stays.seen
            ∙ found_there a.seen.rows at.state [] row there same;
        has =
            row_of_kernel a b stays.same k at.came at.monitors.items tables row ready.over ready.sound few held live is;
      }

  module _ (a b : Search) (same : SameTable a b) (sure : b.sure ≡ true → a.sure ≡ true) (k : Kernels) (came : ℕ)
      (ss : List Monitor) (tables : List LiveTable) (row : List ℕ) (over : IsKernelOf asked k)
      (sound : IsSound i.system i.code k.world) (few : AreFew q came) (held : AreMonitorsOf q.monitors.items ss)
      (live : AreLiveTables a.rows.outs i.code tables)
      (is : IsRowOf a.rows.first.items (numbers_in k.system tables a.rows.fields.items k.world came ss) row)
    where
      abbrev pub Keeps : Type 0
      Keeps = HasKept asked a b k.world (watched_with q came ss)

      has : HasRow asked (rows_of b) k.world (watched_with q came ss) row
      has = row_of_kernel a b same k came ss tables row over sound few held live is

      -- the row is new
      pub keeps_new : (link : StateLink) → b.seen ≡ with_state a.seen row link → Keeps
      keeps_new link e =
          let rows : b.seen.rows ≡ a.seen.rows ++ row ∷ [] = ap (λ (s : SeenStates). s.rows) e in
          record {
            grows = record { same = same; more = row ∷ []; rows = rows; sure = sure };
            known = λ _.
                record {
                  state = length a.seen.rows;
                  row = row;
                  there =
                      ap (λ (rs : List (List ℕ)). slice_get rs (length a.seen.rows)) rows
                      ∙ element_last a.seen.rows row;
                  has = has;
                };
          }

      -- it is known already
      pub keeps_known : (place : ℕ) → b.seen ≡ a.seen → slice_get a.seen.rows place ≡ Some row → Keeps
      keeps_known place e found =
          record {
            grows = stays_grows a b (record { same = same; seen = e; sure = sure });
            known = λ _.
                record {
                  state = place;
                  row = row;
                  there = ap (λ (s : SeenStates). slice_get s.rows place) e ∙ found;
                  has = has;
                };
          }

      -- no more states may be kept
      pub keeps_none : b.seen ≡ a.seen → b.sure ≡ false → Keeps
      keeps_none e lost =
          record {
            grows = stays_grows a b (record { same = same; seen = e; sure = sure });
            known = λ s. absurd (cc (s, lost));
          }
