-- Worlds that are alike but for dead locals.
use Rattle.std.proofs.Common.{◌≡◌, ℕ, zero, suc, ℤ, Bool, List, [], ◌∷◌, length, map, get_or, Option, Some, None, refl}
use Rattle.std.proofs.Common.{sym, ◌∙◌, ap, subst}
use Rattle.fmp_base.specs.declared.bodies.HandlerContext.{HandlerContext}
use Rattle.fmp_base.specs.declared.bodies.Held.{Held}
use Rattle.fmp_base.specs.declared.bodies.Held.TheVariants.{Goes, Awaits}
use Rattle.fmp_base.specs.declared.events.Line.{Line}
use Rattle.fmp_base.specs.Meanings.{World, context_at, task_body}
use Rattle.fmp_base.specs.States.{KernelState}
use Rattle.fmp_base.specs.Steps.{Reaction, Nothing, Did, Kept, step}
use Rattle.fmp_base.specs.Systems.{SystemTables}
use Rattle.fmp_base.specs.Ties.{OptionTied, AllTied, HandlerTied, HeldTied}
use Rattle.fmp_instructions.specs.declared.instructions.MachineContext.{MachineContext}
use Rattle.fmp_instructions.specs.Instructions.{BodyTables, instructions_at}
use Rattle.fmp_bisimulation.specs.Alike.{Alike, AlikeStates}
use Rattle.fmp_bisimulation.specs.Closed.{all_timeless, BothAlike, IsChained, KeepsAlike}
use Rattle.fmp_worlds.specs.Settled.{IsSettled}
use Rattle.fmp_bisimulation.proofs.StateLaws.{alike-chained}
use Rattle.fmp_bisimulation.proofs.StepLaws.{step-same}
use Rattle.fmp_bisimulation.proofs.WorldLaws.{worlds-refl, worlds-sym}
use Rattle.fmp_live.specs.LiveLocals.{AreLiveTables, LiveTable, table_at}
use Rattle.fmp_live.specs.Zeroed.{IsLike, IsLikeBy, ByTables, Through, each_at, zeroed, zeroed_by, zeroed_context}
use Rattle.fmp_live.specs.Zeroed.{zeroed_contexts, zeroed_handler, zeroed_held, zeroed_task}
use Rattle.fmp_live.proofs.MachineLaws.{SameLive, meaning_so}
use Rattle.fmp_live.proofs.RowLaws.{agree-zeroed, zeroed-agree}
use Rattle.fmp_live.proofs.Tables.{all-live}
use Rattle.fmp_live.proofs.StepLaws.{BothAwait, BothGo, SameReaction, SameWorlds, step-like}

-- contexts that differ in dead locals alone are the same with these as 0
context-same : (rows : List (List Bool)) (c d : MachineContext) → SameLive rows c d
    → zeroed_context rows c ≡ zeroed_context rows d
context-same rows c d k =
    let locals : zeroed_by (get_or rows c.pc []) c.locals ≡ zeroed_by (get_or rows d.pc []) d.locals =
    zeroed-agree (get_or rows c.pc []) c.locals d.locals k.locals
    ∙ ap (λ (pc : ℕ). zeroed_by (get_or rows pc []) d.locals) k.pc in
    ap (λ (xs : List ℤ). record c { locals = xs }) locals
    ∙ ap (λ (pc : ℕ). record c { pc = pc; locals = zeroed_by (get_or rows d.pc []) d.locals }) k.pc
    ∙ ap (λ (m : ℕ). record c { pc = d.pc; count = m; locals = zeroed_by (get_or rows d.pc []) d.locals }) k.count
    ∙ ap (λ (xs : List ℤ). record d { locals = zeroed_by (get_or rows d.pc []) d.locals; operands = xs }) k.operands

context-zeroed : (rows : List (List Bool)) (c : MachineContext) → SameLive rows c (zeroed_context rows c)
context-zeroed rows c =
    record { pc = refl; count = refl; operands = refl; locals = agree-zeroed (get_or rows c.pc []) c.locals }

each-same : {A : Type 0} (R : ℕ → A → A → Type 0) (f : ℕ → Option A → Option A)
    → ((i : ℕ) (c d : Option A) → OptionTied (R i) c d → f i c ≡ f i d)
    → (cs ds : List (Option A)) → AllTied R cs ds → each_at f cs ≡ each_at f ds
each-same R f g [] [] h = refl
each-same R f g [] (d ∷ ds) h = absurd h
each-same {A} R f g (c ∷ cs) [] h = absurd h
each-same {A} R f g (c ∷ cs) (d ∷ ds) h =
    ap (λ (x : Option A). x ∷ each_at (λ i. f (suc i)) cs) (g zero c d h.0)
    ∙ ap (λ (xs : List (Option A)). f zero d ∷ xs)
    (each-same (λ i. R (suc i)) (λ i. f (suc i)) (λ i. g (suc i)) cs ds h.1)

map-same : {A : Type 0} (R : A → A → Type 0) (f : Option A → Option A)
    → ((c d : Option A) → OptionTied R c d → f c ≡ f d) → (cs ds : List (Option A)) → AllTied (λ i. R) cs ds
    → map f cs ≡ map f ds
map-same R f g [] [] h = refl
map-same R f g [] (d ∷ ds) h = absurd h
map-same R f g (c ∷ cs) [] h = absurd h
map-same {A} R f g (c ∷ cs) (d ∷ ds) h =
    ap (λ (x : Option A). x ∷ map f cs) (g c d h.0) ∙ ap (λ (xs : List (Option A)). f d ∷ xs) (map-same R f g cs ds h.1)

each-tied : {A : Type 0} (R : ℕ → A → A → Type 0) (f : ℕ → Option A → Option A)
    → ((i : ℕ) (c : Option A) → OptionTied (R i) c (f i c)) → (cs : List (Option A)) → AllTied R cs (each_at f cs)
each-tied R f g [] = tt
each-tied R f g (c ∷ cs) = (g zero c, each-tied (λ i. R (suc i)) (λ i. f (suc i)) (λ i. g (suc i)) cs)

map-tied : {A : Type 0} (R : A → A → Type 0) (f : Option A → Option A) → ((c : Option A) → OptionTied R c (f c))
    → (cs : List (Option A)) → AllTied (λ i. R) cs (map f cs)
map-tied R f g [] = tt
map-tied R f g (c ∷ cs) = (g c, map-tied R f g cs)

pub context_at-each : {A : Type 0} (f : ℕ → Option A → Option A) → ((i : ℕ) → f i None ≡ None)
    → (cs : List (Option A)) (t : ℕ) → context_at (each_at f cs) t ≡ f t (context_at cs t)
context_at-each f none [] t = sym (none t)
context_at-each f none (c ∷ cs) zero = refl
context_at-each f none (c ∷ cs) (suc t) = context_at-each (λ i. f (suc i)) (λ i. none (suc i)) cs t

pub length-each : {A : Type 0} (f : ℕ → A → A) (cs : List A) → length (each_at f cs) ≡ length cs
length-each f [] = refl
length-each f (c ∷ cs) = ap suc (length-each (λ i. f (suc i)) cs)

module _ (sys : SystemTables) (tables : List LiveTable) where
  abbrev Handlers : Type 0
  Handlers = List (Option (HandlerContext (Held MachineContext)))

  abbrev Tasks : Type 0
  Tasks = List (Option (Held MachineContext))

  abbrev Both : ℕ → Held MachineContext → Held MachineContext → Type 0
  Both body c d = HeldTied (BothAwait sys tables) (BothGo sys tables) body c d

  held-same : (body : ℕ) (c d : Held MachineContext) → Both body c d
      → zeroed_held (table_at tables body) c ≡ zeroed_held (table_at tables body) d
  held-same body (Goes c) (Goes d) h =
      ap (λ (x : MachineContext). Goes x) (context-same (table_at tables body).goes c d h)
  held-same body (Awaits c) (Awaits d) h =
      ap (λ (x : MachineContext). Awaits x) (context-same (table_at tables body).awaits c d h)
  held-same body (Goes c) (Awaits d) h = absurd h
  held-same body (Awaits c) (Goes d) h = absurd h

  task-same : (body : ℕ) (c d : Option (Held MachineContext)) → OptionTied (Both body) c d
      → zeroed_task (table_at tables body) c ≡ zeroed_task (table_at tables body) d
  task-same body None None h = refl
  task-same body (Some c) (Some d) h = ap (λ (x : Held MachineContext). Some x) (held-same body c d h)
  task-same body None (Some d) h = absurd h
  task-same body (Some c) None h = absurd h

  handler-same : (c d : Option (HandlerContext (Held MachineContext))) → OptionTied (HandlerTied Both) c d
      → zeroed_handler tables c ≡ zeroed_handler tables d
  handler-same None None h = refl
  handler-same None (Some d) h = absurd h
  handler-same (Some c) None h = absurd h
  handler-same (Some c) (Some d) h =
      ap (λ (x : Held MachineContext). Some (record c { context = x }))
      (held-same c.body c.context d.context h.contexts)
      ∙ ap (λ (b : ℕ). Some (record { body = b; context = zeroed_held (table_at tables b) d.context })) h.bodies

  -- worlds whose contexts differ in dead locals alone are the same with these as 0
  zeroed-same : (v w : World MachineContext) → SameWorlds sys tables v w → zeroed sys tables v ≡ zeroed sys tables w
  zeroed-same v w h =
      let k = h.contexts in
      let tasks =
      each-same (λ t. Both (task_body sys t)) (λ t. zeroed_task (table_at tables (task_body sys t)))
      (λ t. task-same (task_body sys t)) v.contexts.tasks w.contexts.tasks k.tasks in
      let handlers =
      map-same (HandlerTied Both) (zeroed_handler tables) handler-same v.contexts.handlers w.contexts.handlers
      k.handlers in
      ap (λ (s : KernelState). record { state = s; contexts = zeroed_contexts sys tables v.contexts }) h.states
      ∙ ap
      (λ (ts : Tasks).
      record {
        state = w.state;
        contexts = record { tasks = ts; handlers = map (zeroed_handler tables) v.contexts.handlers };
      }) tasks
      ∙ ap
      (λ (hs : Handlers).
      record {
        state = w.state;
        contexts = record { tasks = (zeroed_contexts sys tables w.contexts).tasks; handlers = hs };
      }) handlers

  held-zeroed : (body : ℕ) (c : Held MachineContext) → Both body c (zeroed_held (table_at tables body) c)
  held-zeroed body (Goes c) = context-zeroed (table_at tables body).goes c
  held-zeroed body (Awaits c) = context-zeroed (table_at tables body).awaits c

  task-zeroed : (body : ℕ) (c : Option (Held MachineContext))
      → OptionTied (Both body) c (zeroed_task (table_at tables body) c)
  task-zeroed body None = tt
  task-zeroed body (Some c) = held-zeroed body c

  handler-zeroed : (c : Option (HandlerContext (Held MachineContext)))
      → OptionTied (HandlerTied Both) c (zeroed_handler tables c)
  handler-zeroed None = tt
  handler-zeroed (Some c) = record { bodies = refl; contexts = held-zeroed c.body c.context }

  -- a world differs in dead locals alone from what it is with these as 0
  world-zeroed : (w : World MachineContext) → SameWorlds sys tables w (zeroed sys tables w)
  world-zeroed w =
      record {
        states = refl;
        contexts = record {
          tasks =
              each-tied (λ t. Both (task_body sys t)) (λ t. zeroed_task (table_at tables (task_body sys t)))
              (λ t. task-zeroed (task_body sys t)) w.contexts.tasks;
          handlers =
              map-tied (HandlerTied Both) (zeroed_handler tables) handler-zeroed w.contexts.handlers;
        };
      }

  -- alike worlds are alike with dead locals as 0
  pub alike-zeroed : (v w : World MachineContext) → Alike sys v w → IsLikeBy sys tables v w
  alike-zeroed v w h =
      let k = h.contexts in
      let f = λ (t : ℕ). zeroed_task (table_at tables (task_body sys t)) in
      record {
        states = h.states;
        contexts = record {
          tasks = λ t off.
              context_at-each f (λ i. refl) v.contexts.tasks t
              ∙ ap (λ (c : Option (Held MachineContext)). f t c) (k.tasks t off)
              ∙ sym (context_at-each f (λ i. refl) w.contexts.tasks t);
          handlers = ap (λ (hs : Handlers). map (zeroed_handler tables) hs) k.handlers;
          long = length-each f v.contexts.tasks ∙ k.long ∙ sym (length-each f w.contexts.tasks);
        };
        settled = h.settled;
        also_settled = h.also_settled;
      }

  like-by : (v v' w' w : World MachineContext) → SameWorlds sys tables v v' → Alike sys v' w'
      → SameWorlds sys tables w w'
      → IsLikeBy sys tables v w
  like-by v v' w' w a h b =
      subst (λ (x : World MachineContext). Alike sys x (zeroed sys tables w)) (sym (zeroed-same v v' a))
      (subst (λ (y : World MachineContext). Alike sys (zeroed sys tables v') y) (sym (zeroed-same w w' b))
      (alike-zeroed v' w' h))

  by-nothing : (y' y : Reaction MachineContext) → BothAlike (Alike sys) Nothing y' → SameReaction sys tables y y'
      → BothAlike (IsLikeBy sys tables) Nothing y
  by-nothing Nothing Nothing h b = tt
  by-nothing Nothing (Did d) h b = absurd b
  by-nothing Nothing (Kept q z) h b = absurd b
  by-nothing (Did d) y h b = absurd h
  by-nothing (Kept q z) y h b = absurd h

  module _ (n : ℕ) where
    by-both : (x x' y' y : Reaction MachineContext) → SameReaction sys tables x x' → BothAlike (Alike sys) x' y'
        → SameReaction sys tables y y' → BothAlike (IsLikeBy sys tables) x y
    by-both Nothing Nothing y' y a h b = by-nothing y' y h b
    by-both (Did c) (Did c') (Did d') (Did d) a h b = (
      ap (λ (ls : List Line). all_timeless ls) a.0 ∙ h.0 ∙ sym (ap (λ (ls : List Line). all_timeless ls) b.0),
      like-by c.world c'.world d'.world d.world a.1 h.1 b.1,
    )
    by-both (Kept p u) (Kept p' u') (Kept q' z') (Kept q z) a h b =
        (a.0 ∙ h.0 ∙ sym b.0, like-by u u' z' z a.1 h.1 b.1)
    by-both (Did c) (Did c') (Did d') Nothing a h b = absurd b
    by-both (Did c) (Did c') (Did d') (Kept q z) a h b = absurd b
    by-both (Did c) (Did c') Nothing y a h b = absurd h
    by-both (Did c) (Did c') (Kept q z) y a h b = absurd h
    by-both (Kept p u) (Kept p' u') (Kept q' z') Nothing a h b = absurd b
    by-both (Kept p u) (Kept p' u') (Kept q' z') (Did d) a h b = absurd b
    by-both (Kept p u) (Kept p' u') Nothing y a h b = absurd h
    by-both (Kept p u) (Kept p' u') (Did d) y a h b = absurd h
    by-both Nothing (Did c) y' y a h b = absurd a
    by-both Nothing (Kept p u) y' y a h b = absurd a
    by-both (Did c) Nothing y' y a h b = absurd a
    by-both (Did c) (Kept p u) y' y a h b = absurd a
    by-both (Kept p u) Nothing y' y a h b = absurd a
    by-both (Kept p u) (Did c) y' y a h b = absurd a

    -- each event does the same in worlds that are alike but for dead locals
    pub likes-same : (outs : Bool) (bodies : List BodyTables) → AreLiveTables outs bodies tables
        → KeepsAlike (IsLikeBy sys tables) (step sys (meaning_so outs bodies) n)
    likes-same outs bodies live v w e h =
        by-both (step sys (meaning_so outs bodies) n v e) (step sys (meaning_so outs bodies) n (zeroed sys tables v) e)
        (step sys (meaning_so outs bodies) n (zeroed sys tables w) e) (step sys (meaning_so outs bodies) n w e)
        (step-like sys tables outs bodies n live v (zeroed sys tables v) e (world-zeroed v))
        (step-same sys (meaning_so outs bodies) n (zeroed sys tables v) (zeroed sys tables w) e h)
        (step-like sys tables outs bodies n live w (zeroed sys tables w) e (world-zeroed w))

  -- a world is like what it is with dead locals as 0
  pub like-zeroed : (w : World MachineContext) → IsSettled sys w.state → IsLikeBy sys tables w (zeroed sys tables w)
  like-zeroed w h =
      subst (λ (x : World MachineContext). Alike sys (zeroed sys tables w) x)
      (zeroed-same w (zeroed sys tables w) (world-zeroed w)) (worlds-refl sys (zeroed sys tables w) h)

pub both-chained : {C : Type 0} (R : World C → World C → Type 0) → IsChained R → (x y z : Reaction C) → BothAlike R x y
    → BothAlike R y z → BothAlike R x z
both-chained R chain Nothing Nothing z a b = b
both-chained R chain (Did c) (Did d) (Did e) a b = (a.0 ∙ b.0, chain c.world d.world e.world a.1 b.1)
both-chained R chain (Kept p u) (Kept q v) (Kept r w) a b = (a.0 ∙ b.0, chain u v w a.1 b.1)
both-chained R chain (Did c) (Did d) Nothing a b = absurd b
both-chained R chain (Did c) (Did d) (Kept r w) a b = absurd b
both-chained R chain (Kept p u) (Kept q v) Nothing a b = absurd b
both-chained R chain (Kept p u) (Kept q v) (Did e) a b = absurd b
both-chained R chain Nothing (Did d) z a b = absurd a
both-chained R chain Nothing (Kept q v) z a b = absurd a
both-chained R chain (Did c) Nothing z a b = absurd a
both-chained R chain (Did c) (Kept q v) z a b = absurd a
both-chained R chain (Kept p u) Nothing z a b = absurd a
both-chained R chain (Kept p u) (Did d) z a b = absurd a

pub both-weaker : {C : Type 0} (Q R : World C → World C → Type 0) → ((v w : World C) → Q v w → R v w) → (x y : Reaction C)
    → BothAlike Q x y → BothAlike R x y
both-weaker Q R g Nothing Nothing a = tt
both-weaker Q R g (Did c) (Did d) a = (a.0, g c.world d.world a.1)
both-weaker Q R g (Kept p u) (Kept q v) a = (a.0, g u v a.1)
both-weaker Q R g Nothing (Did d) a = absurd a
both-weaker Q R g Nothing (Kept q v) a = absurd a
both-weaker Q R g (Did c) Nothing a = absurd a
both-weaker Q R g (Did c) (Kept q v) a = absurd a
both-weaker Q R g (Kept p u) Nothing a = absurd a
both-weaker Q R g (Kept p u) (Did d) a = absurd a

module _ (outs : Bool) (sys : SystemTables) (bodies : List BodyTables) where
  pub alike-like : (v w : World MachineContext) → Alike sys v w → IsLike outs sys bodies v w
  alike-like v w h = ByTables v w [] (λ body. all-live outs (instructions_at bodies body)) (alike-zeroed sys [] v w h)

  pub like-chained : IsChained (IsLike outs sys bodies)
  like-chained u v w h k = Through u v w h k

  pub like-sym : (v w : World MachineContext) → IsLike outs sys bodies v w → IsLike outs sys bodies w v
  like-sym _ _ (ByTables v w tables live h) =
      ByTables w v tables live (worlds-sym sys (zeroed sys tables v) (zeroed sys tables w) h)
  like-sym _ _ (Through u v w h k) = Through w v u (like-sym v w k) (like-sym u v h)

  -- worlds that are alike with dead locals as 0, each by tables of its own
  pub zeroed-like : (v w : World MachineContext) (tables others : List LiveTable) → AreLiveTables outs bodies tables
      → AreLiveTables outs bodies others → IsSettled sys v.state → IsSettled sys w.state
      → Alike sys (zeroed sys tables v) (zeroed sys others w) → IsLike outs sys bodies v w
  zeroed-like v w tables others live also settled too h =
      let first = ByTables v (zeroed sys tables v) tables live (like-zeroed sys tables v settled) in
      let last =
      like-sym w (zeroed sys others w) (ByTables w (zeroed sys others w) others also (like-zeroed sys others w too)) in
      Through v (zeroed sys tables v) w first
      (Through (zeroed sys tables v) (zeroed sys others w) w
      (alike-like (zeroed sys tables v) (zeroed sys others w) h) last)

  -- each event does the same in such worlds where every reply writes out places, if they count as written
  pub like-keeps_so : (n : ℕ) → KeepsAlike (IsLike outs sys bodies) (step sys (meaning_so outs bodies) n)
  like-keeps_so n _ _ e (ByTables v w tables live h) =
      both-weaker (IsLikeBy sys tables) (IsLike outs sys bodies) (λ v' w' k. ByTables v' w' tables live k)
      (step sys (meaning_so outs bodies) n v e) (step sys (meaning_so outs bodies) n w e)
      (likes-same sys tables n outs bodies live v w e h)
  like-keeps_so n _ _ e (Through u v w h k) =
      both-chained (IsLike outs sys bodies) like-chained (step sys (meaning_so outs bodies) n u e)
      (step sys (meaning_so outs bodies) n v e) (step sys (meaning_so outs bodies) n w e) (like-keeps_so n u v e h)
      (like-keeps_so n v w e k)

  -- the states of such worlds are alike
  pub like-states : (v w : World MachineContext) → IsLike outs sys bodies v w → AlikeStates sys v.state w.state
  like-states _ _ (ByTables v w tables live h) = h.states
  like-states _ _ (Through u v w h k) =
      alike-chained sys u.state v.state w.state (like-states u v h) (like-states v w k)
