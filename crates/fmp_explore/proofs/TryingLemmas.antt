-- The events that were tried in a world, and one more of them.
use Rattle.std.proofs.Common.{◌≡◌, ◌+◌, ◌<◌, ◌≤◌, ◌⊎◌, inl, inr, ℕ, Some, true, sym, ap, subst, ◌∙◌}
use Rattle.std.proofs.Common.{arith, length, slice_get}
use Rattle.std.proofs.lemmas.Bool.{cases_lt}
use Rattle.std.proofs.lemmas.Option.{slice_get-get_or}
use Rattle.fmp_base.specs.declared.events.Event.{Event}
use Rattle.fmp_base.specs.Meanings.{World}
use Rattle.fmp_explore.specs.declared.searches.Search.{Search}
use Rattle.fmp_explore.specs.declared.trying.StateMarks.{StateMarks}
use Rattle.fmp_explore.specs.Searching.{AreMarks, Grows, HasLookedAt, HasTried, HasTriedOut, IsSearch, IsTrying}
use Rattle.fmp_explore.specs.Searching.{Stays, rows_of}
use Rattle.fmp_explore.specs.States.{KeptRows, LeadsOn, MayCome}
use Rattle.fmp_schedules.specs.Schedules.{Watched}
use Rattle.fmp_schedules.specs.Tries.{all_tries}
use Rattle.fmp_image_bytes.specs.Images.{ImageTables, IsImage}
use Rattle.fmp_image_bytes.proofs.InRange.{image_in_range}
use Rattle.fmp_instructions.specs.declared.instructions.MachineContext.{MachineContext}
use Rattle.fmp_explore.proofs.StateLemmas.{leads_on_grown}
use Rattle.fmp_schedules.proofs.TryLemmas.{each-tried}
use Rattle.fmp_explore.proofs.SearchStepLemmas.{grows_on, grows_rows, grows_search, stays_grows, stays_search}
use Rattle.fmp_witness.specs.Asked.{Asked}

module _ (asked : Asked) (w : World MachineContext) (x : Watched) where
  abbrev i : ImageTables
  i = asked.image

  -- what an event led to is kept where more states are
  leads_later : (a b : Search) (e : Event) → Grows a b → LeadsOn asked (rows_of a) w x e
      → LeadsOn asked (rows_of b) w x e
  leads_later a b e g l =
      subst (λ (kept : KeptRows). LeadsOn asked kept w x e) (sym (grows_rows a b g))
      (leads_on_grown asked (rows_of a) g.more w x e l)

  -- nothing was tried yet
  pub none_tried : (s : Search) (m : StateMarks) → IsSearch asked s → AreMarks asked w x m → IsTrying asked w x m 0 s
  none_tried s m h marks =
      record { search = h; marks = marks; each = λ sure place e lt. absurd (omega (arith, lt)) }

  -- the event at this place was tried, or may not come
  pub one_tried : (a b : Search) (l m : StateMarks) (place : ℕ) (e : Event) → IsTrying asked w x l place a
      → slice_get (all_tries i.system) place ≡ Some e → Grows a b → AreMarks asked w x m
      → (b.sure ≡ true → MayCome asked w x e → LeadsOn asked (rows_of b) w x e)
      → IsTrying asked w x m (place + 1) b
  one_tried a b l m place e t found grows marks leads =
      record {
        search = grows_search asked a b grows t.search;
        marks = marks;
        each = λ sure p f lt there may. by_order sure p f lt there may (cases_lt p place);
      } where
        by_order : b.sure ≡ true → (p : ℕ) (f : Event) → p < place + 1 → slice_get (all_tries i.system) p ≡ Some f
            → MayCome asked w x f → (p < place) ⊎ (place ≤ p) → LeadsOn asked (rows_of b) w x f
        by_order sure p f lt there may (inl before) =
            leads_later a b f grows (t.each (grows.sure sure) p f before there may)
        by_order sure p f lt there may (inr past) =
            let last : p ≡ place = omega (arith, lt, past) in
            let same : e ≡ f = cc (found, there, ap (λ (k : ℕ). slice_get (all_tries i.system) k) last) in
            subst (λ (y : Event). LeadsOn asked (rows_of b) w x y) same
            (leads sure (subst (λ (y : Event). MayCome asked w x y) (sym same) may))

  -- where only notes are made, as many were tried
  pub tried_stays : (a b : Search) (m : StateMarks) (tried : ℕ) → Stays a b → IsTrying asked w x m tried a
      → IsTrying asked w x m tried b
  tried_stays a b m tried s t =
      record {
        search = stays_search asked a b s t.search;
        marks = t.marks;
        each = λ sure p e lt found may. leads_later a b e (stays_grows a b s) (t.each (s.sure sure) p e lt found may);
      }

  -- fewer were tried too
  fewer_tried : (s : Search) (m : StateMarks) (tried fewer : ℕ) → fewer ≤ tried → IsTrying asked w x m tried s
      → IsTrying asked w x m fewer s
  fewer_tried s m tried fewer le t =
      record {
        search = t.search;
        marks = t.marks;
        each = λ sure p e lt found may. t.each sure p e (omega (arith, lt, le)) found may;
      }

  pub fewer_of : (a b : Search) (m : StateMarks) (tried fewer : ℕ) → fewer ≤ tried → HasTried asked w x m a b tried
      → HasTried asked w x m a b fewer
  fewer_of a b m tried fewer le t =
      record { trying = fewer_tried b m tried fewer le t.trying; grows = t.grows }

  -- a world is tried out in a search that has grown before
  pub tried_out_before : (a b c : Search) → Grows a b → HasTriedOut asked b c w x → HasTriedOut asked a c w x
  tried_out_before a b c g out =
      record { search = out.search; grows = grows_on a b c g out.grows; tried = out.tried }

  -- every event was tried, the world is no deadlock, and its state breaks no sentence
  pub all_tried : (a b c : Search) (m : StateMarks) → IsImage i
      → HasTried asked w x m a b (length (all_tries i.system)) → HasLookedAt asked b c w x → HasTriedOut asked a c w x
  all_tried a b c m image t look =
      record {
        search = stays_search asked b c look.stays t.trying.search;
        grows = grows_on a b c t.grows (stays_grows b c look.stays);
        tried = λ sure.
            record {
              each = λ e is may.
                  let tried = each-tried i.system e (image_in_range i image) is in
                  let there = slice_get-get_or (all_tries i.system) tried.0 e tried.1
                  ∙ ap (λ (y : Event). Some y) tried.2 in
                  leads_later b c e (stays_grows b c look.stays)
                  (t.trying.each (look.stays.sure sure) tried.0 e tried.1 there may);
              upheld = look.upheld sure;
              free = look.free sure;
            };
      }
