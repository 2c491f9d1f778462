-- A search that has examined each of its states shows what holds along all schedules.
use Rattle.std.proofs.Common.{◌≡◌, ◌+◌, ◌<◌, ◌≤◌, ◌⊎◌, ◌||◌, inl, inr, ℕ, zero, suc, List, [], ◌∷◌, ◌++◌, Some, true}
use Rattle.std.proofs.Common.{Bool, false}
use Rattle.std.proofs.Common.{sym, ap, subst, ◌∙◌, arith, count_by, length, slice_get}
use Rattle.std.proofs.lemmas.Bool.{cases_lt}
use Rattle.std.proofs.lemmas.Option.{slice_get_within}
use Rattle.fmp_bisimulation.specs.Closed.{IsCovered}
use Rattle.fmp_base.specs.declared.events.Event.{Event}
use Rattle.fmp_base.specs.Meanings.{World}
use Rattle.fmp_base.specs.Setups.{setup}
use Rattle.fmp_base.specs.Steps.{step}
use Rattle.fmp_question.specs.declared.question.Question.{Question}
use Rattle.fmp_explore.specs.declared.searches.Search.{Search}
use Rattle.fmp_question.specs.Forbidden.{forbids}
use Rattle.fmp_question.specs.Sites.{forbids_there}
use Rattle.fmp_question.specs.Rules.{rules_of}
use Rattle.fmp_explore.specs.Searching.{Grows, HasExamined, HasTriedOut, IsBegun, IsSearching, IsSearch, IsWhole}
use Rattle.fmp_explore.specs.Searching.{NoneIsFound, StandsAt, Stays, monitors_at_setup, rows_of, watched_first}
use Rattle.fmp_explore.specs.Searching.{watched_in}
use Rattle.fmp_explore.specs.States.{HasRow, IsExamined, IsKept, IsStuckIn, KeptRows, MayCome, reaction_in}
use Rattle.fmp_explore.specs.States.{watched_with}
use Rattle.fmp_explore.specs.declared.trying.ExaminedState.{ExaminedState}
use Rattle.fmp_image_bytes.specs.Images.{ImageTables}
use Rattle.fmp_instructions.specs.Machine.{code_meaning}
use Rattle.fmp_instructions.specs.declared.instructions.MachineContext.{MachineContext}
use Rattle.fmp_live.specs.Fits.{IsFit}
use Rattle.fmp_live.specs.Zeroed.{IsLike}
use Rattle.fmp_live.proofs.FitLaws.{like-always, like-keeps}
use Rattle.fmp_live.proofs.LikeLaws.{like-chained, like-states}
use Rattle.fmp_replay.specs.Replays.{replay}
use Rattle.fmp_schedules.specs.Deadlocks.{is_interrupt}
use Rattle.fmp_schedules.specs.Likeness.{IsLikeness}
use Rattle.fmp_schedules.specs.Schedules.{Watched, may_come, may_still, watch, watched_at_setup}
use Rattle.fmp_schedules.specs.Tried.{IsSearched, IsTried, IsTriedSilent, NoneBreaks, NoneIsDeadlock, is_event_of}
use Rattle.fmp_schedules.proofs.DeadlockLaws.{deadlock-alike}
use Rattle.fmp_schedules.proofs.HoldLaws.{searched-holds}
use Rattle.fmp_schedules.proofs.MonitorLaws.{any_broken_in-alike}
use Rattle.fmp_schedules.proofs.RuleLaws.{may_come-same}
use Rattle.fmp_schedules.proofs.SilentLaws.{searched-silent}
use Rattle.fmp_question.proofs.ForbiddenLemmas.{forbids-timeless}
use Rattle.fmp_question.proofs.SiteLemmas.{there-even}
use Rattle.fmp_visited.specs.Seen.{SeenStates}
use Rattle.fmp_witness.proofs.OverLemmas.{Kernels}
use Rattle.fmp_explore.proofs.StateLemmas.{Leads, alike_self, examined_grown, kept_grown, readable, row_alike}
use Rattle.fmp_explore.proofs.StateLemmas.{row_grown}
use Rattle.fmp_explore.proofs.StateLemmas.{row_watch}
use Rattle.fmp_explore.proofs.SearchStepLemmas.{grows_on, grows_rows, grows_search, stays_grows}
use Rattle.fmp_witness.specs.Asked.{Asked, meaning_of}

-- worlds that are alike but for dead locals show the same to a search
pub likeness : (outs : Bool) (asked : Asked)
    → IsLikeness asked.image.system (meaning_of asked) asked.bound (IsLike outs asked.image.system asked.image.code)
    (IsFit outs asked.image.system asked.image.code asked.bound)
likeness outs asked =
    record {
      keeps = like-keeps outs asked.image.system asked.image.code asked.bound;
      always = like-always asked.image.system asked.image.code outs asked.bound;
      chained = like-chained outs asked.image.system asked.image.code;
      states = like-states outs asked.image.system asked.image.code;
    }

-- where a list is longer, its first elements are the same
pub element_before : {X : Type 0} (xs ys : List X) (k : ℕ) (x : X) → k < length xs → slice_get (xs ++ ys) k ≡ Some x
    → slice_get xs k ≡ Some x
element_before [] ys k x lt e = absurd (omega (arith, lt))
element_before (z ∷ xs) ys zero x lt e = e
element_before (z ∷ xs) ys (suc k) x lt e = element_before xs ys k x (omega (arith, lt)) e

module _ (asked : Asked) where
  abbrev i : ImageTables
  i = asked.image

  abbrev n : ℕ
  n = asked.bound

  abbrev q : Question
  q = asked.question

  -- ---- one state

  -- a state is examined where the kernel that has its row is tried out
  pub state_examined : (a b c : Search) (at : ExaminedState) (k : Kernels) → Stays a b → StandsAt asked b at k
      → HasTriedOut asked b c k.world (watched_in q at) → HasExamined asked a c at.state
  state_examined a b c at k stays stands tried =
      record {
        search = tried.search;
        grows = grows_on a b c (stays_grows a b stays) tried.grows;
        examined = λ sure row there.
            let same : Some stands.row ≡ Some row =
            sym stands.there ∙ ap (λ (s : SeenStates). slice_get s.rows at.state) stays.seen ∙ there in
            subst (λ (r : List ℕ). IsExamined asked (rows_of c) r) (cc (same))
            (record {
              world = k.world;
              watched = watched_in q at;
              has =
                  subst (λ (kept : KeptRows). HasRow asked kept k.world (watched_in q at) stands.row)
                  (sym (grows_rows b c tried.grows))
                  (row_grown asked (rows_of b) tried.grows.more k.world (watched_in q at) stands.row stands.has);
              tried = tried.tried sure;
            });
      }

  -- a state that could not be reached is not
  pub state_lost : (a b : Search) (state : ℕ) → IsSearch asked a → Stays a b → b.sure ≡ false
      → HasExamined asked a b state
  state_lost a b state h stays lost =
      record {
        search = grows_search asked a b (stays_grows a b stays) h;
        grows = stays_grows a b stays;
        examined = λ sure. absurd (cc (sure, lost));
      }

  -- ---- one state after the other

  -- no state is examined yet
  pub none_examined : (s : Search) → IsBegun asked s → IsSearching asked 0 s
  none_examined s h = record { begun = h; each = λ sure k row lt. absurd (omega (arith, lt)) }

  begun_later : (a b : Search) → Grows a b → IsBegun asked a → IsSearch asked b → IsBegun asked b
  begun_later a b g h later =
      record {
        search = later;
        clean = λ sure. h.clean (g.sure sure);
        first = λ sure.
            subst (λ (kept : KeptRows). IsKept asked kept (replay i n q.after.items).world (watched_first asked))
            (sym (grows_rows a b g))
            (kept_grown asked (rows_of a) g.more (replay i n q.after.items).world (watched_first asked)
            (h.first (g.sure sure)));
      }

  -- the states up to a later place are examined
  pub more_examined : (k end : ℕ) (a b : Search) → IsSearching asked k a → k ≤ length a.seen.rows → Grows a b
      → (b.sure ≡ true → (j : ℕ) (row : List ℕ) → k ≤ j → j < end → slice_get b.seen.rows j ≡ Some row
      → IsExamined asked (rows_of b) row) → IsSearching asked end b
  more_examined k end a b h le grows each =
      record {
        begun = begun_later a b grows h.begun (grows_search asked a b grows h.begun.search);
        each = λ sure j row within there. by_order sure j row within there (cases_lt j k);
      } where
        there_before : (j : ℕ) (row : List ℕ) → j < length a.seen.rows → slice_get b.seen.rows j ≡ Some row
            → slice_get a.seen.rows j ≡ Some row
        there_before j row low there =
            element_before a.seen.rows grows.more j row low
            (ap (λ (rs : List (List ℕ)). slice_get rs j) (sym grows.rows) ∙ there)

        by_order : b.sure ≡ true → (j : ℕ) (row : List ℕ) → j < end → slice_get b.seen.rows j ≡ Some row
            → (j < k) ⊎ (k ≤ j) → IsExamined asked (rows_of b) row
        by_order sure j row within there (inl low) =
            let below : j < length a.seen.rows = omega (arith, low, le) in
            subst (λ (kept : KeptRows). IsExamined asked kept row) (sym (grows_rows a b grows))
            (examined_grown asked (rows_of a) grows.more row
            (h.each (grows.sure sure) j row low (there_before j row below there)))
        by_order sure j row within there (inr past) = each sure j row past within there

  -- one more state is examined
  pub one_examined : (k : ℕ) (a b : Search) → IsSearching asked k a → k < length a.seen.rows
      → HasExamined asked a b k → IsSearching asked (k + 1) b
  one_examined k a b h lt x =
      more_examined k (k + 1) a b h (omega (arith, lt)) x.grows
      (λ sure j row past within there.
      let last : j ≡ k = omega (arith, within, past) in
      x.examined sure row
      (ap (λ (m : ℕ). slice_get a.seen.rows m) (sym last)
      ∙ element_before a.seen.rows x.grows.more j row (omega (arith, last, lt))
      (ap (λ (rs : List (List ℕ)). slice_get rs j) (sym x.grows.rows) ∙ there)))

  -- where states are examined, fewer are
  pub fewer_examined : (k m : ℕ) (s : Search) → m ≤ k → IsSearching asked k s → IsSearching asked m s
  fewer_examined k m s le h =
      record { begun = h.begun; each = λ sure j row lt there. h.each sure j row (omega (arith, le, lt)) there }

  -- where no state is left, each was examined
  pub all_examined : (s : Search) (states : ℕ) → IsSearching asked states s → length s.seen.rows ≤ states
      → IsWhole asked s
  all_examined s states h all =
      record {
        begun = h.begun;
        each = λ sure k row there.
            let low : k < length s.seen.rows = slice_get_within s.seen.rows k row there in
            h.each sure k row (omega (arith, low, all)) there;
      }

  -- ---- all states

  module _ (s : Search) (h : IsSearch asked s) where
    abbrev kept : KeptRows
    kept = rows_of s

    abbrev pub K : World MachineContext → Watched → Type 0
    K w a = IsKept asked kept w a

    abbrev pub Examined : Type 0
    Examined = (k : ℕ) (row : List ℕ) → slice_get s.seen.rows k ≡ Some row → IsExamined asked kept row

    abbrev Like : World MachineContext → World MachineContext → Type 0
    Like = IsLike kept.outs i.system i.code

    abbrev Fit : World MachineContext → Event → Type 0
    Fit = IsFit kept.outs i.system i.code n

    abbrev pub Tried : World MachineContext → Watched → Event → Type 0
    Tried w a e =
        IsTried Like Fit (watch (rules_of q) (forbids q.nevers.items)) (step i.system (code_meaning i.code) n) K w a e

    pub whole : (w : World MachineContext) (a : Watched) → K w a → length w.state.processors ≡ i.system.processors
    whole w a k = (readable asked w k.has.sound).sizes.processors

    -- the world that was tried out for a row is like each that has the row, and the same is watched there
    alike_at : (w : World MachineContext) (a : Watched) (k : K w a) (x : IsExamined asked kept k.row)
        → Like w x.world
    alike_at w a k x = row_alike asked kept h.table.fields h.first w x.world a x.watched k.row k.has x.has

    watch_at : (w : World MachineContext) (a : Watched) (k : K w a) (x : IsExamined asked kept k.row)
        → x.watched ≡ a
    watch_at w a k x = sym (row_watch asked kept h.table.fields h.first w x.world a x.watched k.row k.has x.has)

    -- what may come to a world may come to one that is like it
    may_at : (w : World MachineContext) (a : Watched) (k : K w a) (x : IsExamined asked kept k.row) (e : Event)
        → MayCome asked w a e → MayCome asked x.world x.watched e
    may_at w a k x e may =
        subst (λ (b : Watched). MayCome asked x.world b e) (sym (watch_at w a k x))
        (sym (may_come-same i.system (code_meaning i.code) n Like Fit (likeness kept.outs asked) (rules_of q) w x.world
        a
        e (alike_at w a k x)) ∙ may)

    pub tried : Examined → (w : World MachineContext) (a : Watched) (e : Event) → K w a → is_event_of i.system e ≡ true
        → may_come (rules_of q) i.system (code_meaning i.code) n w a e ≡ true → Tried w a e
    tried each w a e k is may =
        let x : IsExamined asked kept k.row = each k.state k.row k.there in
        record {
          world = x.world;
          alike = alike_at w a k x;
          fit = (let l = x.tried.each e is (may_at w a k x e may) in l.fit);
          leads =
              subst (λ (b : Watched). Leads asked kept b (reaction_in asked x.world e)) (watch_at w a k x)
              (let l = x.tried.each e is (may_at w a k x e may) in l.leads);
        }

    abbrev Silent : World MachineContext → Event → Type 0
    Silent w e =
        IsTriedSilent Like Fit i.system (code_meaning i.code) n (forbids_there i.system q.nevers_at.items) w e

    silent : Examined → (w : World MachineContext) (a : Watched) (e : Event) → K w a → is_event_of i.system e ≡ true
        → may_come (rules_of q) i.system (code_meaning i.code) n w a e ≡ true → Silent w e
    silent each w a e k is may =
        let x : IsExamined asked kept k.row = each k.state k.row k.there in
        record {
          world = x.world;
          alike = alike_at w a k x;
          fit = (let l = x.tried.each e is (may_at w a k x e may) in l.fit);
          silent = (let l = x.tried.each e is (may_at w a k x e may) in l.silent);
        }

    pub clean : (w : World MachineContext) (a : Watched) → K w a → (a.told || a.broken) ≡ false
    clean w a k = ap (λ (b : Watched). b.told || b.broken) k.has.watch

    upheld : Examined → NoneBreaks (rules_of q) K
    upheld each w a k =
        let x : IsExamined asked kept k.row = each k.state k.row k.there in
        any_broken_in-alike i.system w.state x.world.state
        (like-states kept.outs i.system i.code w x.world (alike_at w a k x)) q.monitors.items
        ∙ x.tried.upheld

    free : Examined → NoneIsDeadlock (rules_of q) i.system (code_meaning i.code) n q.rest.items K
    free each w a k d =
        let x : IsExamined asked kept k.row = each k.state k.row k.there in
        x.tried.free
        (subst (λ (b : Watched). IsStuckIn asked x.world b) (sym (watch_at w a k x))
        (deadlock-alike i.system (code_meaning i.code) n Like Fit (likeness kept.outs asked) w x.world q.rest.items
        (may_still q.interrupts a.came) d (alike_at w a k x)))

  -- the search began at setup
  first_covered : (s : Search) → IsBegun asked s → q.after.items ≡ [] → s.sure ≡ true
      → IsCovered (IsLike s.rows.outs i.system i.code) (IsKept asked (rows_of s))
      (setup i.system (code_meaning i.code)).world
      (watched_at_setup (rules_of q) i.system (code_meaning i.code) (forbids q.nevers.items))
  unfolding replay
  first_covered s h none sure =
      let first : IsKept asked (rows_of s) (replay i n []).world
      (watched_at_setup (rules_of q) i.system (code_meaning i.code) (forbids q.nevers.items)) =
      subst (λ (a : Watched). IsKept asked (rows_of s) (replay i n []).world a) (h.clean sure)
      (subst (λ (es : List Event). IsKept asked (rows_of s) (replay i n es).world
      (watched_with q (count_by is_interrupt es) (monitors_at_setup asked))) none (h.first sure)) in
      record {
        world = (setup i.system (code_meaning i.code)).world;
        alike =
            alike_self asked (rows_of s) h.search.table.fields (setup i.system (code_meaning i.code)).world
            first.has.sound;
        kept = first;
      }

  -- where each state is examined, nothing is found
  pub nothing_found : (s : Search) → IsWhole asked s → q.after.items ≡ [] → s.sure ≡ true → NoneIsFound asked
  nothing_found s h none sure =
      let kept : IsSearch asked s = h.begun.search in
      let examined : (k : ℕ) (row : List ℕ) → slice_get s.seen.rows k ≡ Some row → IsExamined asked (rows_of s) row =
      h.each sure in
      let K : World MachineContext → Watched → Type 0 =
      λ (w : World MachineContext) (a : Watched). IsKept asked (rows_of s) w a in
      let R : World MachineContext → World MachineContext → Type 0 = IsLike s.rows.outs i.system i.code in
      let F : World MachineContext → Event → Type 0 = IsFit s.rows.outs i.system i.code n in
      let searched : IsSearched R F (rules_of q) i.system (code_meaning i.code) n
      (forbids q.nevers.items) q.rest.items K =
      record {
        like = likeness s.rows.outs asked;
        whole = whole s kept;
        first = first_covered s h.begun none sure;
        tried = tried s kept examined;
        clean = clean s kept;
        upheld = upheld s kept examined;
        free = free s kept examined;
      } in
      record {
        holds =
            searched-holds (rules_of q) i.system (code_meaning i.code) n (forbids q.nevers.items) q.rest.items K
            (forbids-timeless q.nevers.items) R F searched;
        there =
            searched-silent (rules_of q) i.system (code_meaning i.code) n (forbids q.nevers.items) q.rest.items K
            (forbids-timeless q.nevers.items) R F searched
            (forbids_there i.system q.nevers_at.items) (there-even s.rows.outs i.system i.code q.nevers_at.items)
            (silent s kept examined);
      }
