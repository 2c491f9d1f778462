-- What is finished over contexts that count is a complete run over plain ones.
use Rattle.std.specs.Prelude.{ℕ, zero, suc, ◌≡◌, refl, List, [], ◌∷◌, Option, Some, None, slice_set}
use Rattle.std.proofs.Common.{subst, ap, ◌∙◌}
use Rattle.fmp_base.specs.declared.events.Effect.{Effect}
use Rattle.fmp_base.specs.declared.events.Event.{Event}
use Rattle.fmp_base.specs.declared.events.Line.{Line}
use Rattle.fmp_base.specs.declared.states.Caller.{Caller}
use Rattle.fmp_base.specs.declared.states.Caller.TheVariants as caller
use Rattle.fmp_base.specs.KeptTimes.{KeptTimes, fresh, counted_ending, counted, OnceMore}
use Rattle.fmp_base.specs.Finishes.{ended_in, Finishes, over, did, did_nothing, kept}
use Rattle.fmp_base.specs.declared.bodies.HandlerContext.{HandlerContext}
use Rattle.fmp_base.specs.declared.bodies.Held.{Held}
use Rattle.fmp_base.specs.declared.bodies.Held.TheVariants.{Goes, Awaits}
use Rattle.fmp_base.specs.Meanings.{Meaning, Contexts, World, task_body, context_at, body_in, context_in, context_of}
use Rattle.fmp_base.specs.Meanings.{caller_body, with_context}
use Rattle.fmp_base.specs.Runs.{Trace, after_first, completed_by, completed_on, complete_run}
use Rattle.fmp_base.specs.Steps.{Done, Reaction, Nothing, Did, Kept, with_place, step}
use Rattle.fmp_base.specs.Stretches.{Ending}
use Rattle.fmp_base.specs.Stretches as ends
use Rattle.fmp_base.specs.Systems.{SystemTables}
use Rattle.fmp_base.specs.TieLaws.{body_in-tied, AllTied-context_at, context_of-tied, step-tied}
use Rattle.fmp_base.specs.Ties as ties
use Rattle.fmp_base.specs.Ties.{OptionTied, AllTied, StretchTied, Any, KeepsTie, HandlerTied, HeldTied, ContextsTied}
use Rattle.fmp_base.specs.Ties.{WorldTied, KeptOn, DoneTied}

AllTied-set_left : {C D : Type 0} (R : ℕ → C → D → Type 0) (cs : List (Option C)) (ds : List (Option D)) (i : ℕ)
    (c : Option C)
    → AllTied R cs ds → OptionTied (R i) c (context_at ds i) → AllTied R (slice_set cs i c) ds
AllTied-set_left R [] [] i c h k = tt
AllTied-set_left R [] (y ∷ ds) i c h k = absurd h
AllTied-set_left R (x ∷ cs) [] i c h k = absurd h
AllTied-set_left R (x ∷ cs) (y ∷ ds) zero c h k = (k, h.1)
AllTied-set_left R (x ∷ cs) (y ∷ ds) (suc i) c h k = (h.0, AllTied-set_left (λ j. R (suc j)) cs ds i c h.1 k)

handler_left : {C D : Type 0} (R : ℕ → C → D → Type 0) (body : ℕ) (c : C) (d : Option (HandlerContext D))
    → body ≡ body_in d
    → OptionTied (R body) (Some c) (context_in d)
    → OptionTied (HandlerTied R) (Some (record { body = body; context = c })) d
handler_left R body c None e k = absurd k
handler_left R body c (Some d) e k = record { bodies = e; contexts = k }

-- one side alone gets a context that is tied to what the other has
with_context_left : {C D : Type 0} (sys : SystemTables) (R : ℕ → C → D → Type 0) (a : Contexts C) (b : Contexts D)
    (p : ℕ) (who : Caller) (c : C)
    → ContextsTied sys R a b → OptionTied (R (caller_body sys a p who)) (Some c) (context_of b p who)
    → ContextsTied sys R (with_context a p who (Some c)) b
with_context_left sys R a b p (caller.Task t) c h k =
    record {
      tasks = AllTied-set_left (λ u. R (task_body sys u)) a.tasks b.tasks t (Some c) h.tasks k;
      handlers = h.handlers;
    }
with_context_left sys R a b p (caller.Handler i) c h k =
    let body = body_in (context_at a.handlers p) in
    record {
      tasks = h.tasks;
      handlers = AllTied-set_left (λ q. HandlerTied R) a.handlers b.handlers p
          (Some (record { body = body; context = c })) h.handlers
          (handler_left R body c (context_at b.handlers p)
          (body_in-tied R _ _ (AllTied-context_at (λ q. HandlerTied R) a.handlers b.handlers p h.handlers)) k);
    }

module _ {C : Type 0} (sys : SystemTables) (M : Meaning C) (n size t : ℕ) where
  abbrev pub Same : ℕ → KeptTimes C → C → Type 0
  Same body x c = x.context ≡ c

  abbrev pub Whatever : ℕ → C → C → Type 0
  Whatever body c d = Unit {0}

  same_ending : (body : ℕ) (x : Ending C)
      → StretchTied (Same body) Any (λ k. (e : C) × Whatever body e e × Same body k e) (counted_ending x) x
  same_ending body (ends.Call c made) = ties.call (fresh c) c made refl
  same_ending body (ends.End c) = ties.end_ (fresh c) c tt
  same_ending body (ends.Fault c f) = ties.fault (fresh c) c f tt
  same_ending body (ends.Over None) = ties.over (ends.Over None)
  same_ending body (ends.Over (Some k)) = ties.kept (fresh k) (ends.Over (Some k)) (k, tt, refl)

  pub keeps_same : KeepsTie Same Same Same Whatever (counted M) t M t
  keeps_same =
      record {
        grows = λ body c d h. h;
        starts = λ body exinf. refl;
        delivers = λ body c d reply h. ap (λ x. M.deliver body x reply) h;
        stretches = λ body c d h.
            subst (λ x. StretchTied (Same body) Any (λ k. (e : C) × Whatever body x e × Same body k e)
            (counted_ending (M.stretch body t c.context)) (M.stretch body t x)) h
            (same_ending body (M.stretch body t c.context));
      }

  -- the same lines, and the same state at the end, as a complete run over plain contexts
  pub record Plainly (w : World C) (ds : List Event) (r : Trace (KeptTimes C)) : Type 0 where
    pub trace : Trace C
    pub complete : complete_run sys M t w ds ≡ Some trace
    pub events : r.events ≡ trace.events
    pub state : r.world.state ≡ trace.world.state

  held_next : (body : ℕ) (c next : KeptTimes C) (o : Option (Held C)) → next.context ≡ c.context
      → OptionTied (HeldTied Same Same body) (Some (Goes c)) o
      → OptionTied (HeldTied Same Same body) (Some (Goes next)) o
  held_next body c next None e h = absurd h
  held_next body c next (Some (Awaits d)) e h = absurd h
  held_next body c next (Some (Goes d)) e h = e ∙ h

  did_plainly : (w : World C) (e : Event) (ds : List Event) (d : Done (KeptTimes C)) (r : Trace (KeptTimes C))
      (v : World (KeptTimes C)) (y : Reaction C)
      → step sys M t w e ≡ y → DoneTied sys Same Same (KeptOn sys Same Same Whatever w e) (Did d) y
      → ((w' : World C) → WorldTied sys Same Same d.world w' → Plainly w' ds r)
      → Plainly w (e ∷ ds) (after_first d.lines r)
  did_plainly w e ds d r v Nothing q h rest = absurd h
  did_plainly w e ds d r v (Kept a x) q h rest = absurd h
  did_plainly w e ds d r v (Did b) q h rest =
      let l = rest b.world h.1 in
      record {
        trace = after_first b.lines l.trace;
        complete = ap (λ (o : Reaction C). completed_on o (λ x. complete_run sys M t x ds)) q ∙ ap
            (completed_by b.lines) l.complete;
        events = ap (λ (ls : List Line). ls ∷ r.events) h.0 ∙ ap (λ (lss : List (List Line)). b.lines ∷ lss) l.events;
        state = l.state;
      }

  pub plainly : (v : World (KeptTimes C)) (es : List Event) (xs : List Effect) (ds : List Event)
      (r : Trace (KeptTimes C))
      → Finishes sys (counted M) (OnceMore M n size) t v es xs ds r
      → (w : World C) → WorldTied sys Same Same v w → Plainly w ds r
  plainly _ _ _ _ _ (over v) w h = record { trace = ended_in w; complete = refl; events = refl; state = h.states }
  plainly _ _ _ _ _ (did v e es xs ds d r p f) w h =
      did_plainly w e ds d r v (step sys M t w e) refl
      (subst (λ (x : Reaction (KeptTimes C)). DoneTied sys Same Same (KeptOn sys Same Same Whatever w e) x
      (step sys M t w e)) p
      (step-tied sys Same (counted M) t M t keeps_same v w e h))
      (λ w' h'. plainly d.world es xs ds r f w' h')
  plainly _ _ _ _ _ (did_nothing v e es xs ds r p f) w h = plainly v es xs ds r f w h
  plainly _ _ _ _ _ (kept v p who c next es xs ds r actor there leads f) w h =
      let body = caller_body sys v.contexts p who in
      plainly (with_place v p who next) es xs ds r f w
      (record {
        states = h.states;
        contexts = with_context_left sys (HeldTied Same Same) v.contexts w.contexts p who (Goes next) h.contexts
            (held_next body c next (context_of w.contexts p who) leads.context
            (subst (λ (o : Option (Held (KeptTimes C))). OptionTied (HeldTied Same Same body) o
            (context_of w.contexts p who)) there
            (context_of-tied sys (HeldTied Same Same) v.contexts w.contexts p who h.contexts)));
      })
