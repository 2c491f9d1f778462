-- What an event does in worlds whose contexts differ in dead locals alone.
use Rattle.std.proofs.Common.{◌≡◌, ℕ, zero, suc, Bool, List, [], ◌∷◌, Option, Some, None, refl, sym, ◌∙◌, ap, subst}
use Rattle.fmp_base.specs.declared.bodies.Fault.{Fault}
use Rattle.fmp_base.specs.declared.bodies.HandlerContext.{HandlerContext}
use Rattle.fmp_base.specs.declared.bodies.Held.{Held}
use Rattle.fmp_base.specs.declared.bodies.Held.TheVariants.{Goes, Awaits}
use Rattle.fmp_base.specs.declared.calls.Call.{Call}
use Rattle.fmp_base.specs.declared.events.Event.{Event}
use Rattle.fmp_base.specs.declared.events.Event.TheVariants.{Run, Tick, Int}
use Rattle.fmp_base.specs.declared.states.Caller.{Caller}
use Rattle.fmp_base.specs.Meanings.{Meaning, World, task_body}
use Rattle.fmp_base.specs.Steps.{Reaction, Nothing, Did, Kept, run_by, run_in, step, stretched, with_place}
use Rattle.fmp_base.specs.Stretches.{Ending}
use Rattle.fmp_base.specs.Stretches as ends
use Rattle.fmp_base.specs.Systems.{SystemTables}
use Rattle.fmp_base.specs.TieLaws.{step-tied}
use Rattle.fmp_base.specs.Ties.{AllTied, StretchTied, over, kept, call, end_, fault, Any, KeepsTie, HandlerTied}
use Rattle.fmp_base.specs.Ties.{HeldTied, WorldTied, KeptOn, DoneTied}
use Rattle.fmp_instructions.specs.declared.instructions.MachineContext.{MachineContext}
use Rattle.fmp_instructions.specs.Instructions.{BodyTables, instructions_at}
use Rattle.fmp_instructions.specs.Machine.{code_start}
use Rattle.fmp_live.specs.LiveLocals.{AreLiveTables, LiveTable, is_live, table_at}
use Rattle.fmp_live.proofs.MachineLaws.{SameEnding, SameLive, deliver-same, meaning_so, stretch-same}
use Rattle.fmp_live.proofs.RowLaws.{Agree, agree-refl, agree-sym}

live-refl : (rows : List (List Bool)) (c : MachineContext) → SameLive rows c c
live-refl rows c =
    record { pc = refl; count = refl; operands = refl; locals = agree-refl (is_live rows c.pc) c.locals }

live-sym : (rows : List (List Bool)) (c d : MachineContext) → SameLive rows c d → SameLive rows d c
live-sym rows c d k =
    record {
      pc = sym k.pc;
      count = sym k.count;
      operands = sym k.operands;
      locals =
          subst (λ (pc : ℕ). Agree (is_live rows pc) d.locals c.locals) k.pc
          (agree-sym (is_live rows c.pc) c.locals d.locals k.locals);
    }

all-sym : {C : Type 0} (R : ℕ → C → C → Type 0) → ((i : ℕ) (c d : C) → R i c d → R i d c) → (cs ds : List (Option C))
    → AllTied R cs ds → AllTied R ds cs
all-sym R g [] [] h = tt
all-sym R g [] (d ∷ ds) h = absurd h
all-sym R g (c ∷ cs) [] h = absurd h
all-sym R g (None ∷ cs) (None ∷ ds) h = (tt, all-sym (λ i. R (suc i)) (λ i. g (suc i)) cs ds h.1)
all-sym R g (Some c ∷ cs) (Some d ∷ ds) h = (g zero c d h.0, all-sym (λ i. R (suc i)) (λ i. g (suc i)) cs ds h.1)
all-sym R g (None ∷ cs) (Some d ∷ ds) h = absurd h.0
all-sym R g (Some c ∷ cs) (None ∷ ds) h = absurd h.0

module _ (sys : SystemTables) (tables : List LiveTable) where
  -- contexts of a body that differ in dead locals alone: those that go on, and those that await a reply
  abbrev pub BothGo : ℕ → MachineContext → MachineContext → Type 0
  BothGo body c d = SameLive (table_at tables body).goes c d

  abbrev pub BothAwait : ℕ → MachineContext → MachineContext → Type 0
  BothAwait body c d = SameLive (table_at tables body).awaits c d

  abbrev pub SameWorlds : World MachineContext → World MachineContext → Type 0
  SameWorlds v w = WorldTied sys BothAwait BothGo v w

  held-sym : (body : ℕ) (c d : Held MachineContext) → HeldTied BothAwait BothGo body c d
      → HeldTied BothAwait BothGo body d c
  held-sym body (Goes c) (Goes d) h = live-sym (table_at tables body).goes c d h
  held-sym body (Awaits c) (Awaits d) h = live-sym (table_at tables body).awaits c d h
  held-sym body (Goes c) (Awaits d) h = absurd h
  held-sym body (Awaits c) (Goes d) h = absurd h

  handler-sym : (c d : HandlerContext (Held MachineContext)) → HandlerTied (HeldTied BothAwait BothGo) c d
      → HandlerTied (HeldTied BothAwait BothGo) d c
  handler-sym c d h =
      record {
        bodies = sym h.bodies;
        contexts =
            subst (λ (body : ℕ). HeldTied BothAwait BothGo body d.context c.context) h.bodies
            (held-sym c.body c.context d.context h.contexts);
      }

  worlds-sym : (v w : World MachineContext) → SameWorlds v w → SameWorlds w v
  worlds-sym v w h =
      let c = h.contexts in
      record {
        states = sym h.states;
        contexts = record {
          tasks =
              all-sym (λ t. HeldTied BothAwait BothGo (task_body sys t)) (λ t. held-sym (task_body sys t))
              v.contexts.tasks w.contexts.tasks c.tasks;
          handlers =
              all-sym (λ p. HandlerTied (HeldTied BothAwait BothGo)) (λ p. handler-sym) v.contexts.handlers
              w.contexts.handlers c.handlers;
        };
      }

  -- both do nothing, or the same, and leave such worlds
  abbrev pub SameReaction : Reaction MachineContext → Reaction MachineContext → Type 0
  SameReaction Nothing Nothing = Unit {0}
  SameReaction (Did a) (Did b) = (a.lines ≡ b.lines) × SameWorlds a.world b.world
  SameReaction (Kept p v) (Kept q w) = (p ≡ q) × SameWorlds v w
  SameReaction _ _ = ⊥

  module _ (outs : Bool) (bodies : List BodyTables) (n : ℕ) (live : AreLiveTables outs bodies tables) where
    abbrev meaning : Meaning MachineContext
    meaning = meaning_so outs bodies

    -- a stretch of the first ends over its bound with the second
    abbrev leads : ℕ → MachineContext → MachineContext → Type 0
    leads body c d = meaning.stretch body n c ≡ ends.Over (Some d)

    tied-ending : (body : ℕ) (d : MachineContext) (x y : Ending MachineContext) → meaning.stretch body n d ≡ y
        → SameEnding (table_at tables body) x y
        → StretchTied (BothAwait body) Any (λ k. (e : MachineContext) × leads body d e × BothGo body k e) x y
    tied-ending body d (ends.Over None) (ends.Over None) q k = over (ends.Over None)
    tied-ending body d (ends.Over (Some c)) (ends.Over (Some e)) q k = kept c (ends.Over (Some e)) (e, q, k)
    tied-ending body d (ends.Call c made) (ends.Call e other) q k =
        subst
        (λ (m : Call).
        StretchTied (BothAwait body) Any (λ k. (e : MachineContext) × leads body d e × BothGo body k e)
        (ends.Call c made) (ends.Call e m)) k.0 (call c e made k.1)
    tied-ending body d (ends.End c) (ends.End e) q k = end_ c e tt
    tied-ending body d (ends.Fault c f) (ends.Fault e g) q k =
        subst
        (λ (m : Fault).
        StretchTied (BothAwait body) Any (λ k. (e : MachineContext) × leads body d e × BothGo body k e)
        (ends.Fault c f) (ends.Fault e m)) k (fault c e f tt)
    tied-ending body d _ _ q k = absurd k

    tie : KeepsTie BothAwait BothGo BothGo leads meaning n meaning n
    tie =
        record {
          grows = λ body c d k. k;
          starts = λ body exinf. live-refl (table_at tables body).goes (code_start exinf);
          delivers = λ body c d reply k.
              deliver-same outs (instructions_at bodies body) (table_at tables body) (live body) c d reply k;
          stretches = λ body c d k.
              tied-ending body d (meaning.stretch body n c) (meaning.stretch body n d) refl
              (stretch-same outs (instructions_at bodies body) (table_at tables body) (live body) n c d k);
        }

    -- an event keeps a place in a world, too, and leaves it such as u
    record KeptLike (w : World MachineContext) (e : Event) (u : World MachineContext) : Type 0 where
      pub place : ℕ
      pub event : e ≡ Run (suc place)
      pub world : World MachineContext
      pub keeps : step sys meaning n w e ≡ Kept place world
      pub tied : SameWorlds u world

    kept-like : (w : World MachineContext) (e : Event) (u : World MachineContext)
        → KeptOn sys BothAwait BothGo leads w e u → KeptLike w e u
    kept-like w (Run (suc p)) u k =
        record {
          place = p;
          event = refl;
          world = with_place w p k.who k.next;
          keeps =
              ap (λ (o : Option Caller). run_by sys meaning n w p o) k.actor
              ∙ ap (λ (o : Option (Held MachineContext)). run_in sys meaning n w p k.who o) k.there
              ∙ ap (λ (x : Ending MachineContext). stretched sys meaning w p k.who x) k.leads;
          tied = k.tied;
        }
    kept-like w (Run zero) u k = absurd k
    kept-like w Tick u k = absurd k
    kept-like w (Int i) u k = absurd k

    both-kept : (v w : World MachineContext) (e : Event) (p : ℕ) (u : World MachineContext) (q : ℕ)
        (z : World MachineContext)
        → step sys meaning n v e ≡ Kept p u → step sys meaning n w e ≡ Kept q z → KeptLike w e u → KeptLike v e z
        → SameReaction (Kept p u) (Kept q z)
    both-kept v w e p u q z a b k l =
        let at : Kept q z ≡ Kept k.place k.world = sym b ∙ k.keeps in
        let back : Kept p u ≡ Kept l.place l.world = sym a ∙ l.keeps in
        let run : Run (suc k.place) ≡ Run (suc l.place) = sym k.event ∙ l.event in
        let worlds : k.world ≡ z = cc in
        let places : p ≡ q = cc in (places, subst (λ (x : World MachineContext). SameWorlds u x) worlds k.tied)

    both-same : (v w : World MachineContext) (e : Event) (x y : Reaction MachineContext)
        → step sys meaning n v e ≡ x → step sys meaning n w e ≡ y
        → DoneTied sys BothAwait BothGo (KeptOn sys BothAwait BothGo leads w e) x y
        → DoneTied sys BothAwait BothGo (KeptOn sys BothAwait BothGo leads v e) y x → SameReaction x y
    both-same v w e Nothing Nothing a b h k = tt
    both-same v w e Nothing (Did d) a b h k = absurd k
    both-same v w e Nothing (Kept q z) a b h k =
        let l = kept-like v e z k in
        let no : Nothing ≡ Kept l.place l.world = sym a ∙ l.keeps in absurd (cc no)
    both-same v w e (Did c) Nothing a b h k = absurd h
    both-same v w e (Did c) (Did d) a b h k = h
    both-same v w e (Did c) (Kept q z) a b h k = absurd h
    both-same v w e (Kept p u) Nothing a b h k =
        let l = kept-like w e u h in
        let no : Nothing ≡ Kept l.place l.world = sym b ∙ l.keeps in absurd (cc no)
    both-same v w e (Kept p u) (Did d) a b h k = absurd k
    both-same v w e (Kept p u) (Kept q z) a b h k =
        both-kept v w e p u q z a b (kept-like w e u h) (kept-like v e z k)

    -- an event does the same in worlds whose contexts differ in dead locals alone
    pub step-like : (v w : World MachineContext) (e : Event) → SameWorlds v w
        → SameReaction (step sys meaning n v e) (step sys meaning n w e)
    step-like v w e h =
        both-same v w e (step sys meaning n v e) (step sys meaning n w e) refl refl
        (step-tied sys BothGo meaning n meaning n tie v w e h)
        (step-tied sys BothGo meaning n meaning n tie w v e (worlds-sym v w h))
