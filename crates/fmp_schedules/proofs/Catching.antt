-- Bodies that keep their places come to where others that never do stand already.
use Rattle.std.proofs.Common.{◌≡◌, ◌∙◌, ◌+◌, ◌*◌, ◌<◌, ◌≤◌, ℕ, zero, suc, List, [], ◌∷◌, ◌++◌, Option, Some, None, true}
use Rattle.std.proofs.Common.{false, refl, sym, ap, subst, arith, ⊎_elim}
use Rattle.std.proofs.lemmas.Bool.{cases_lt}
use Rattle.fmp_base.specs.declared.bodies.Held.{Held}
use Rattle.fmp_base.specs.declared.bodies.Held.TheVariants.{Goes, Awaits}
use Rattle.fmp_base.specs.declared.calls.Answer.{Answer}
use Rattle.fmp_base.specs.declared.calls.Answer.TheVariants as answer
use Rattle.fmp_base.specs.declared.calls.Call.{Call}
use Rattle.fmp_base.specs.declared.events.Event.{Event}
use Rattle.fmp_base.specs.declared.events.Event.TheVariants.{Run}
use Rattle.fmp_base.specs.declared.states.Caller.{Caller}
use Rattle.fmp_base.specs.Calls.{called}
use Rattle.fmp_base.specs.KeptTies.{Follows, Handed, KeptTied, ended_too, kept_again, kept_ends_within, kept_few}
use Rattle.fmp_base.specs.KeptTies.{not_kept}
use Rattle.fmp_base.specs.Meanings.{Meaning, Contexts, World, context_of, caller_body, with_context}
use Rattle.fmp_base.specs.States.{KernelState, Progress, processor_at}
use Rattle.fmp_base.specs.Steps.{Reaction, Nothing, Did, Kept, actor_of, answered, run_by, run_in, step, stretched}
use Rattle.fmp_base.specs.Stretches.{Ending, is_over}
use Rattle.fmp_base.specs.Stretches as ends
use Rattle.fmp_base.specs.Systems.{SystemTables}
use Rattle.fmp_base.specs.TieLaws.{caller_body-tied, context_of-tied, stretched-tied}
use Rattle.fmp_base.specs.Ties.{OptionTied, StretchTied, over, kept, call, end_, fault, Any, BothDone, DoneTied}
use Rattle.fmp_base.specs.Ties.{HeldTied, ContextsTied, KeepsTie}
use Rattle.fmp_schedules.specs.Beside.{AreBeside, IsBehind}
use Rattle.fmp_schedules.specs.Completed.{Ends, EndsAs, EndsFrom}
use Rattle.fmp_schedules.proofs.KeptPlaces.{Keeps, ends_, keeps, context-there, keeps-append, keeps-nothing, run-is}
use Rattle.fmp_schedules.proofs.KeptPlaces.{with_context_right}

-- both do nothing, or both are done, with the same lines, and leave worlds that are beside each other
abbrev pub BothDo : {C D : Type 0} → (ℕ → C → D → Type 0) → Meaning C → SystemTables → Reaction D → Reaction C → Type 0
BothDo R N sys Nothing Nothing = Unit {0}
BothDo R N sys (Did b) (Did a) = BothDone sys (λ body d c. R body c d) (IsBehind R N) b a
BothDo R N sys Nothing (Did a) = ⊥
BothDo R N sys Nothing (Kept p v) = ⊥
BothDo R N sys (Did b) Nothing = ⊥
BothDo R N sys (Did b) (Kept p v) = ⊥
BothDo R N sys (Kept p w) other = ⊥

-- N comes from v, by keeping places, to a world in which the processor at place p does what it does in M
pub record Catches {C D : Type 0} (R : ℕ → C → D → Type 0) (sys : SystemTables) (N : Meaning C) (n : ℕ) (M : Meaning D)
    (t : ℕ) (w : World D) (v : World C) (p : ℕ) : Type 0 where
  pub events : List Event
  pub world : World C
  pub way : Keeps sys N n v events world
  pub beside : AreBeside R N sys w world
  pub both : BothDo R N sys (step sys M t w (Run (suc p))) (step sys N n world (Run (suc p)))

answered-nothing : {C D : Type 0} (sys : SystemTables) (N : Meaning C) (M : Meaning D) (o : Answer)
    (a : Contexts (Held D)) (b : Contexts (Held C)) (p : ℕ) (who : Caller) (c : Call) (g : Progress)
    → answered o sys M a p who c g ≡ Nothing → answered o sys N b p who c g ≡ Nothing
answered-nothing sys N M (answer.Replies reply) a b p who c g h = absurd (cc h)
answered-nothing sys N M answer.Waits a b p who c g h = absurd (cc h)
answered-nothing sys N M answer.Ends a b p who c g h = absurd (cc h)
answered-nothing sys N M answer.Spins a b p who c g h = refl

module _ {C D : Type 0} (sys : SystemTables) (R S : ℕ → C → D → Type 0) (N : Meaning C) (M : Meaning D) (size : ℕ)
    (f : Follows R S N M size) (n : ℕ) (one : 1 ≤ n) where
  -- the ties, seen from M
  abbrev pub At : ℕ → D → C → Type 0
  At body d c = R body c d

  abbrev pub Behind : ℕ → D → C → Type 0
  Behind = IsBehind R N

  abbrev pub NoWay : ℕ → C → C → Type 0
  NoWay body c e = ⊥

  abbrev pub NoTie : ℕ → D → C → Type 0
  NoTie body d c = ⊥

  abbrev pub Gone : {A : Type 0} → A → Type 0
  Gone v = ⊥

  behind-kept : (body m : ℕ) (k : C) (d : D) → KeptTied R S N M size f body m k d → Behind body d k
  behind-kept body m k d h = record { from = h.from; tied = h.tied; units = m; behind = h.behind }

  kept-behind : (body : ℕ) (d : D) (k : C) (x : Behind body d k) → KeptTied R S N M size f body x.units k d
  kept-behind body d k x = record { from = x.from; tied = x.tied; behind = x.behind }

  fresh-behind : (body : ℕ) (c : C) (d : D) → R body c d → Behind body d c
  fresh-behind body c d h = behind-kept body 0 c d (not_kept R S N M size f body c d h)

  pub keeps-tie : (t : ℕ) → KeepsTie At NoTie Behind NoWay M t N n
  keeps-tie t =
      record {
        grows = λ body d c h. absurd h;
        starts = λ body exinf. fresh-behind body (N.start body exinf) (M.start body exinf) (f.starts body exinf);
        delivers = λ body d c reply h. fresh-behind body (N.deliver body c reply) (M.deliver body d reply)
            (f.delivers body c d reply h);
        stretches = λ body d c h. absurd h;
      }

  turned : (body : ℕ) (K : D → Type 0) (x : Ending C) (y : Ending D) → is_over x ≡ false
      → StretchTied (R body) (S body) Handed x y → StretchTied (At body) Any K y x
  turned body K _ _ e (over y) = absurd (cc e)
  turned body K _ _ e (kept k y h) = absurd (cc e)
  turned body K _ _ e (call c d made h) = call d c made h
  turned body K _ _ e (end_ c d h) = end_ d c tt
  turned body K _ _ e (fault c d w h) = fault d c w tt

  -- where both stretches end, they end in the same way
  ends-alike : (body m t : ℕ) (k : C) (d : D) → KeptTied R S N M size f body m k d
      → is_over (M.stretch body t d) ≡ false → is_over (N.stretch body n k) ≡ false
      → StretchTied (R body) (S body) Handed (N.stretch body n k) (M.stretch body t d)
  ends-alike body m t k d h ended here =
      let q = m + n + t in
      subst (λ (y : Ending D). StretchTied (R body) (S body) Handed (N.stretch body n k) y)
      (f.text_stays body t q d (omega arith) ended)
      (kept_ends_within R S N M size f body m n q k d (omega arith) h here)

  nothing-too : (s : KernelState) (a : Contexts (Held D)) (b : Contexts (Held C)) (p : ℕ) (who : Caller)
      (A : D → C → Type 0) (K : D → Type 0) (y : Ending D) (x : Ending C) → is_over y ≡ false → StretchTied A Any K y x
      → stretched sys M (record { state = s; contexts = a }) p who y ≡ Nothing
      → stretched sys N (record { state = s; contexts = b }) p who x ≡ Nothing
  nothing-too s a b p who A K _ _ e (over x) h = absurd (cc e)
  nothing-too s a b p who A K _ _ e (kept d x k) h = absurd (cc e)
  nothing-too s a b p who A K _ _ e (call d c made k) h =
      answered-nothing sys N M (called sys s p who made).answer _ _ p who made (called sys s p who made).progress h
  nothing-too s a b p who A K _ _ e (end_ d c k) h = absurd (cc h)
  nothing-too s a b p who A K _ _ e (fault d c w k) h = absurd (cc h)

  pub both-do : (x : Reaction D) (y : Reaction C) → DoneTied sys At Behind Gone x y → (x ≡ Nothing → y ≡ Nothing)
      → BothDo R N sys x y
  both-do Nothing y h none = subst (λ (r : Reaction C). BothDo R N sys Nothing r) (sym (none refl)) tt
  both-do (Kept p w) y h none = absurd h
  both-do (Did b) Nothing h none = absurd h
  both-do (Did b) (Kept p v) h none = absurd h
  both-do (Did b) (Did a) h none = h

  both-stretched : (t : ℕ) (s : KernelState) (a : Contexts (Held D)) (b : Contexts (Held C)) (p : ℕ) (who : Caller)
      (c : C) (y : Ending D) (x : Ending C) → ContextsTied sys (HeldTied At Behind) a b → is_over y ≡ false
      → is_over x ≡ false → StretchTied (R (caller_body sys a p who)) (S (caller_body sys a p who)) Handed x y
      → BothDo R N sys (stretched sys M (record { state = s; contexts = a }) p who y)
      (stretched sys N (record { state = s; contexts = b }) p who x)
  both-stretched t s a b p who c y x h ended here tied =
      let K = λ (k : D). (e : C) × NoWay (caller_body sys b p who) c e × Behind (caller_body sys a p who) k e in
      let same = turned (caller_body sys a p who) K x y here tied in
      both-do (stretched sys M (record { state = s; contexts = a }) p who y)
      (stretched sys N (record { state = s; contexts = b }) p who x)
      (stretched-tied sys Behind M t N n (keeps-tie t) Gone s a b p who c y x h same (λ v e l tied. absurd l))
      (nothing-too s a b p who (At (caller_body sys a p who)) K y x ended same)

  both-by : (x x' : Reaction D) (y y' : Reaction C) → x ≡ x' → y ≡ y' → BothDo R N sys x' y' → BothDo R N sys x y
  both-by x x' y y' e g h =
      subst (λ (r : Reaction D). BothDo R N sys r y) (sym e)
      (subst (λ (r : Reaction C). BothDo R N sys x' r) (sym g) h)

  module _ (t : ℕ) (s : KernelState) (a : Contexts (Held D)) (p : ℕ) (who : Caller)
      (is : actor_of (processor_at s p) ≡ Some who) (d : D) (there : context_of a p who ≡ Some (Goes d))
      (ended : is_over (M.stretch (caller_body sys a p who) t d) ≡ false) where
    abbrev Body : ℕ
    Body = caller_body sys a p who

    abbrev Text : World D
    Text = record { state = s; contexts = a }

    abbrev Code : Contexts (Held C) → World C
    Code b = record { state = s; contexts = b }

    -- its stretch ends from here
    catch-now : (m : ℕ) (b : Contexts (Held C)) (k : C) (x : Ending C) → ContextsTied sys (HeldTied At Behind) a b
        → context_of b p who ≡ Some (Goes k) → KeptTied R S N M size f Body m k d → N.stretch Body n k ≡ x
        → is_over x ≡ false → Catches R sys N n M t Text (Code b) p
    catch-now m b k x tied at behind e here =
        let same = caller_body-tied sys (HeldTied At Behind) a b p who tied in
        let now : is_over (N.stretch Body n k) ≡ false = ap is_over e ∙ here in
        record {
          events = [];
          world = Code b;
          way = ends_ (Code b);
          beside = record { states = refl; contexts = tied };
          both = both-by _ _ _ _ (run-is sys M t Text p who d (M.stretch Body t d) is there refl)
              (run-is sys N n (Code b) p who k (N.stretch Body n k) is at
              (ap (λ (body : ℕ). N.stretch body n k) (sym same)))
              (both-stretched t s a b p who k (M.stretch Body t d) (N.stretch Body n k) tied ended now
              (ends-alike Body m t k d behind ended now));
        }

    -- a stretch that the other ends is not over for ever
    not-stuck : (m : ℕ) (k : C) → KeptTied R S N M size f Body m k d → N.stretch Body n k ≡ ends.Over None → ⊥
    not-stuck m k h e =
        let more = (t + 1) * size in
        let stuck : N.stretch Body (n + more) k ≡ ends.Over None = f.stuck_stays Body n more k e in
        let ends_too =
        ended_too R S N M size f Body (M.stretch Body t d) (N.stretch Body (m + (n + more)) h.from) ended
        (f.back Body t (m + (n + more)) h.from d (omega (arith, one)) (omega arith) h.tied) in
        let still : is_over (N.stretch Body (m + (n + more)) h.from) ≡ true =
        ap is_over (h.behind (n + more) ∙ stuck) in
        absurd (cc (ends_too, still))

    -- it comes to the end of its stretch, since the other does, by keeping its place
    catch-on : (fuel m : ℕ) (b : Contexts (Held C)) (k : C) → ContextsTied sys (HeldTied At Behind) a b
        → context_of b p who ≡ Some (Goes k) → KeptTied R S N M size f Body m k d → (t + 1) * size ≤ m + fuel
        → (x : Ending C) → N.stretch Body n k ≡ x → Catches R sys N n M t Text (Code b) p
    catch-on fuel m b k tied at behind enough (ends.Call c made) e =
        catch-now m b k (ends.Call c made) tied at behind e refl
    catch-on fuel m b k tied at behind enough (ends.End c) e = catch-now m b k (ends.End c) tied at behind e refl
    catch-on fuel m b k tied at behind enough (ends.Fault c w) e =
        catch-now m b k (ends.Fault c w) tied at behind e refl
    catch-on fuel m b k tied at behind enough (ends.Over None) e = absurd (not-stuck m k behind e)
    catch-on zero m b k tied at behind enough (ends.Over (Some next)) e =
        let few = kept_few R S N M size f Body m n t k d one behind ended (ap is_over e) in
        absurd (omega (arith, few, enough))
    catch-on (suc fuel) m b k tied at behind enough (ends.Over (Some next)) e =
        let again = kept_again R S N M size f Body m n k next d behind e in
        let after : Contexts (Held C) = with_context b p who (Some (Goes next)) in
        let same = caller_body-tied sys (HeldTied At Behind) a b p who tied in
        let tied_after =
        with_context_right sys (HeldTied At Behind) a b p who (Goes next) tied
        (subst (λ (o : Option (Held D)). OptionTied (HeldTied At Behind Body) o (Some (Goes next))) (sym there)
        (behind-kept Body (m + n) next d again)) in
        let rest =
        catch-on fuel (m + n) after next tied_after (context-there b p who (Goes next) (Goes k) at) again
        (omega (arith, one, enough)) (N.stretch Body n next) refl in
        record {
          events = Run (suc p) ∷ rest.events;
          world = rest.world;
          way = keeps (Code b) rest.world p who k next rest.events is at
              (ap (λ (body : ℕ). N.stretch body n k) (sym same) ∙ e) rest.way;
          beside = rest.beside;
          both = rest.both;
        }

  module _ (t : ℕ) (s : KernelState) (a : Contexts (Held D)) (b : Contexts (Held C)) (p : ℕ)
      (tied : ContextsTied sys (HeldTied At Behind) a b) where
    abbrev Now : Type 0
    Now = Catches R sys N n M t (record { state = s; contexts = a }) (record { state = s; contexts = b }) p

    catch-nothing : step sys M t (record { state = s; contexts = a }) (Run (suc p)) ≡ Nothing
        → step sys N n (record { state = s; contexts = b }) (Run (suc p)) ≡ Nothing → Now
    catch-nothing e g =
        record {
          events = [];
          world = record { state = s; contexts = b };
          way = ends_ (record { state = s; contexts = b });
          beside = record { states = refl; contexts = tied };
          both = both-by _ Nothing _ Nothing e g tt;
        }

    in-text : (who : Caller) (o : Option (Held D)) → actor_of (processor_at s p) ≡ Some who → context_of a p who ≡ o
        → step sys M t (record { state = s; contexts = a }) (Run (suc p))
        ≡ run_in sys M t (record { state = s; contexts = a }) p who o
    in-text who o is there =
        ap (λ (x : Option Caller). run_by sys M t (record { state = s; contexts = a }) p x) is
        ∙ ap (λ (x : Option (Held D)). run_in sys M t (record { state = s; contexts = a }) p who x) there

    in-code : (who : Caller) (o : Option (Held C)) → actor_of (processor_at s p) ≡ Some who → context_of b p who ≡ o
        → step sys N n (record { state = s; contexts = b }) (Run (suc p))
        ≡ run_in sys N n (record { state = s; contexts = b }) p who o
    in-code who o is there =
        ap (λ (x : Option Caller). run_by sys N n (record { state = s; contexts = b }) p x) is
        ∙ ap (λ (x : Option (Held C)). run_in sys N n (record { state = s; contexts = b }) p who x) there

    catch-from : (who : Caller) (o : Option (Held D)) (q : Option (Held C)) → actor_of (processor_at s p) ≡ Some who
        → context_of a p who ≡ o → context_of b p who ≡ q
        → OptionTied (HeldTied At Behind (caller_body sys a p who)) o q → EndsFrom M (caller_body sys a p who) t o
        → Now
    catch-from who None None is there at h ended = catch-nothing (in-text who None is there) (in-code who None is at)
    catch-from who None (Some q) is there at h ended = absurd h
    catch-from who (Some o) None is there at h ended = absurd h
    catch-from who (Some (Awaits d)) (Some (Awaits c)) is there at h ended =
        catch-nothing (in-text who (Some (Awaits d)) is there) (in-code who (Some (Awaits c)) is at)
    catch-from who (Some (Awaits d)) (Some (Goes c)) is there at h ended = absurd h
    catch-from who (Some (Goes d)) (Some (Awaits c)) is there at h ended = absurd h
    catch-from who (Some (Goes d)) (Some (Goes c)) is there at h ended =
        let body = caller_body sys a p who in
        catch-on t s a p who is d there ended ((t + 1) * size) h.units b c tied at (kept-behind body d c h)
        (omega arith) (N.stretch body n c) refl

    catch-by : (who : Option Caller) → actor_of (processor_at s p) ≡ who
        → EndsAs sys M t (record { state = s; contexts = a }) p who → Now
    catch-by None is ended =
        catch-nothing (ap (λ (x : Option Caller). run_by sys M t (record { state = s; contexts = a }) p x) is)
        (ap (λ (x : Option Caller). run_by sys N n (record { state = s; contexts = b }) p x) is)
    catch-by (Some who) is ended =
        catch-from who (context_of a p who) (context_of b p who) is refl refl
        (context_of-tied sys (HeldTied At Behind) a b p who tied) ended

  -- where M ends the stretch of a processor, N comes to where it does the same
  pub catch : (t : ℕ) (w : World D) (v : World C) (p : ℕ) → AreBeside R N sys w v → Ends sys M t w p
      → Catches R sys N n M t w v p
  catch t w v p h ended =
      subst (λ (s : KernelState). Catches R sys N n M t w (record { state = s; contexts = v.contexts }) p) h.states
      (catch-by t w.state w.contexts v.contexts p h.contexts (actor_of (processor_at w.state p)) refl ended)

  nothing-both : (y : Reaction C) → BothDo R N sys Nothing y → y ≡ Nothing
  nothing-both Nothing h = refl
  nothing-both (Did a) h = absurd h
  nothing-both (Kept p v) h = absurd h

  pub nothing-of : (x : Reaction D) (y : Reaction C) → x ≡ Nothing → BothDo R N sys x y → y ≡ Nothing
  nothing-of x y e h = nothing-both y (subst (λ (r : Reaction D). BothDo R N sys r y) e h)

  -- N comes from v, by keeping places, to a world in which the first so many processors do nothing
  pub record Stands (w : World D) (v : World C) (processors : ℕ) : Type 0 where
    pub events : List Event
    pub world : World C
    pub way : Keeps sys N n v events world
    pub beside : AreBeside R N sys w world
    pub nothing : (p : ℕ) → p < processors → step sys N n world (Run (suc p)) ≡ Nothing

  pub stand : (t : ℕ) (w : World D) (v : World C) (processors : ℕ) → AreBeside R N sys w v
      → ((p : ℕ) → p < processors → Ends sys M t w p)
      → ((p : ℕ) → p < processors → step sys M t w (Run (suc p)) ≡ Nothing) → Stands w v processors
  stand t w v zero h ended none =
      record { events = []; world = v; way = ends_ v; beside = h; nothing = λ p below. absurd (omega (arith, below)) }
  stand t w v (suc k) h ended none =
      let r = stand t w v k h (λ p below. ended p (omega (arith, below))) (λ p below. none p (omega (arith, below))) in
      let c = catch t w r.world k r.beside (ended k (omega arith)) in
      let last = nothing-of _ _ (none k (omega arith)) c.both in
      record {
        events = r.events ++ c.events;
        world = c.world;
        way = keeps-append sys N n v r.world c.world r.events c.events r.way c.way;
        beside = c.beside;
        nothing = λ p below.
            ⊎_elim (λ lt. keeps-nothing sys N n r.world c.world c.events (Run (suc p)) c.way (r.nothing p lt))
            (λ le.
            let is : p ≡ k = omega (arith, below, le) in
            subst (λ (q : ℕ). step sys N n c.world (Run (suc q)) ≡ Nothing) (sym is) last) (cases_lt p k);
      }
