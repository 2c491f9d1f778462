-- Worlds within their rooms keep the same of each body of which the same is told.
use Rattle.std.proofs.Common.{◌≡◌, ℕ, zero, suc, ◌≤◌, true, false, List, [], ◌∷◌, Option, Some, None, length, refl, sym}
use Rattle.std.proofs.Common.{subst, ap, ◌∙◌, arith, ⊎_elim}
use Rattle.std.proofs.lemmas.Bool.{cases_lt}
use Rattle.fmp_base.specs.declared.bodies.HandlerContext.{HandlerContext}
use Rattle.fmp_base.specs.declared.bodies.HandlerStart.{HandlerStart}
use Rattle.fmp_base.specs.declared.bodies.Held.{Held}
use Rattle.fmp_base.specs.declared.bodies.Held.TheVariants.{Goes, Awaits}
use Rattle.fmp_base.specs.declared.states.Handler.{Handler}
use Rattle.fmp_base.specs.Meanings.{World, context_at, context_in, handler_start, kept_context, task_body}
use Rattle.fmp_base.specs.States.{processor_at, task_at}
use Rattle.fmp_base.specs.Systems.{SystemTables}
use Rattle.fmp_base.specs.TaskCalls.{is_dormant}
use Rattle.fmp_instructions.specs.declared.instructions.MachineContext.{MachineContext}
use Rattle.fmp_instructions.specs.Instructions.{BodyTables}
use Rattle.fmp_reachable.specs.Worlds.{SameBodies}
use Rattle.fmp_reachable.specs.Rooms.{IsGoingWithin, IsHandlerWithin, IsHeldWithin, IsKeptWithin, IsWithin}
use Rattle.fmp_reachable.specs.Rooms.{IsWithinRooms, RunsWithin, is_handler_of}
use Rattle.fmp_reachable.specs.Told.{AreTold, SameTold}
use Rattle.fmp_reachable.proofs.ToldLaws.{contexts-told}

lists-same : {A : Type 0} (xs ys : List (Option A)) → length xs ≡ length ys
    → ((i : ℕ) → context_at xs i ≡ context_at ys i)
    → xs ≡ ys
lists-same [] [] l h = refl
lists-same [] (y ∷ ys) l h = cc
lists-same (x ∷ xs) [] l h = cc
lists-same (x ∷ xs) (y ∷ ys) l h =
    let fewer : length xs ≡ length ys = cc in
    ap (λ z. z ∷ xs) (h zero) ∙ ap (λ zs. y ∷ zs) (lists-same xs ys fewer (λ i. h (suc i)))

-- beyond the list nothing is kept
nothing-past : {A : Type 0} (xs : List (Option A)) (i : ℕ) → length xs ≤ i → context_at xs i ≡ None
nothing-past [] i le = refl
nothing-past (x ∷ xs) zero le = absurd (omega (arith, le))
nothing-past (x ∷ xs) (suc i) le = nothing-past xs i (omega (arith, le))

module _ (bodies : List BodyTables) where
  told-same : (k : ℕ) (c d : MachineContext) → IsWithin bodies k c → IsWithin bodies k d → SameTold bodies k c d → c ≡ d
  told-same k c d a b h = contexts-told bodies k c d a b h.pc h.count h.locals h.operands

  -- contexts of one body, of which the same is told
  held-same : (k : ℕ) (x y : Held MachineContext) → IsHeldWithin bodies k x → IsHeldWithin bodies k y
      → ((c d : MachineContext) → kept_context (Some x) ≡ Some c → kept_context (Some y) ≡ Some d
      → SameTold bodies k c d)
      → kept_context (Some x) ≡ kept_context (Some y)
  held-same k (Goes c) (Goes d) a b h = ap (λ z. Some z) (told-same k c d a b (h c d refl refl))
  held-same k (Goes c) (Awaits d) a b h = ap (λ z. Some z) (told-same k c d a b (h c d refl refl))
  held-same k (Awaits c) (Goes d) a b h = ap (λ z. Some z) (told-same k c d a b (h c d refl refl))
  held-same k (Awaits c) (Awaits d) a b h = ap (λ z. Some z) (told-same k c d a b (h c d refl refl))

  kept-same : (k : ℕ) (x y : Option (Held MachineContext)) → IsKeptWithin bodies k x → IsKeptWithin bodies k y
      → ((c d : MachineContext) → kept_context x ≡ Some c → kept_context y ≡ Some d → SameTold bodies k c d)
      → kept_context x ≡ kept_context y
  kept-same k None y a b h = absurd a
  kept-same k (Some x) None a b h = absurd b
  kept-same k (Some x) (Some y) a b h = held-same k x y a b h

  -- contexts that go on
  going-same : (k : ℕ) (x y : Held MachineContext) → IsGoingWithin bodies k x → IsGoingWithin bodies k y
      → ((c d : MachineContext) → kept_context (Some x) ≡ Some c → kept_context (Some y) ≡ Some d
      → SameTold bodies k c d)
      → x ≡ y
  going-same k (Goes c) (Goes d) a b h = ap (λ z. Goes z) (told-same k c d a b (h c d refl refl))
  going-same k (Goes c) (Awaits d) a b h = absurd b
  going-same k (Awaits c) y a b h = absurd a

abbrev handled : ℕ → Held MachineContext → HandlerContext (Held MachineContext)
handled body context = record { body = body; context = context }

module _ (sys : SystemTables) (bodies : List BodyTables) where
  runs-same : (p : ℕ) (h : Handler) (k l : HandlerContext (Held MachineContext)) → RunsWithin sys bodies p h k
      → RunsWithin sys bodies p h l
      → ((start : HandlerStart) (c d : MachineContext) → handler_start sys h ≡ Some start
      → kept_context (Some k.context) ≡ Some c → kept_context (Some l.context) ≡ Some d
      → SameTold bodies start.body c d)
      → k ≡ l
  runs-same p h k l a b told =
      let again : Some a.start ≡ Some b.start = sym a.starts ∙ b.starts in
      let start : a.start ≡ b.start = cc in
      let body : k.body ≡ l.body = a.body ∙ ap (λ (s : HandlerStart). s.body) start ∙ sym b.body in
      let context : k.context ≡ l.context =
      going-same bodies k.body k.context l.context a.within
      (subst (λ (j : ℕ). IsGoingWithin bodies j l.context) (sym body) b.within)
      (λ c d e f. subst (λ (j : ℕ). SameTold bodies j c d) (sym a.body) (told a.start c d a.starts e f)) in
      ap (λ (j : ℕ). handled j k.context) body ∙ ap (λ (z : Held MachineContext). handled l.body z) context

  handlers-same : (p : ℕ) (i : Option Handler) (x y : Option (HandlerContext (Held MachineContext)))
      → IsHandlerWithin sys bodies p i x → IsHandlerWithin sys bodies p i y
      → ((h : Handler) (start : HandlerStart) (c d : MachineContext) → i ≡ Some h → is_handler_of sys p h ≡ true
      → handler_start sys h ≡ Some start → kept_context (context_in x) ≡ Some c → kept_context (context_in y) ≡ Some d
      → SameTold bodies start.body c d)
      → x ≡ y
  handlers-same p None None None a b told = refl
  handlers-same p None None (Some l) a b told = absurd b
  handlers-same p None (Some k) y a b told = absurd a
  handlers-same p (Some h) None y a b told = absurd a
  handlers-same p (Some h) (Some k) None a b told = absurd b
  handlers-same p (Some h) (Some k) (Some l) a b told =
      ap (λ (z : HandlerContext (Held MachineContext)). Some z)
      (runs-same p h k l a b (λ start c d. told h start c d refl a.own))

  module _ (v w : World MachineContext) (a : IsWithinRooms sys bodies v) (b : IsWithinRooms sys bodies w)
      (told : AreTold sys bodies v w) where
    tasks-same : (t : ℕ) → is_dormant (task_at v.state.tasks t).phase ≡ false
        → kept_context (context_at v.contexts.tasks t) ≡ kept_context (context_at w.contexts.tasks t)
    tasks-same t starts =
        ⊎_elim
        (λ lt. kept-same bodies (task_body sys t) (context_at v.contexts.tasks t) (context_at w.contexts.tasks t)
        (a.tasks t lt)
        (b.tasks t lt) (λ c d. told.tasks t c d starts))
        (λ le.
        let here = a.task_places in
        let there = b.task_places in
        ap (λ (o : Option (Held MachineContext)). kept_context o)
        (nothing-past v.contexts.tasks t (omega (arith, le, here))
        ∙ sym (nothing-past w.contexts.tasks t (omega (arith, le, there)))))
        (cases_lt t (length sys.tasks))

    pub bodies-same : SameBodies v w
    bodies-same =
        record {
          tasks = tasks-same;
          handlers = lists-same v.contexts.handlers w.contexts.handlers (a.handler_places ∙ sym b.handler_places)
              (λ p. handlers-same p (processor_at v.state p).handler (context_at v.contexts.handlers p)
              (context_at w.contexts.handlers p) (a.handlers p)
              (subst (λ (i : Option Handler). IsHandlerWithin sys bodies p i (context_at w.contexts.handlers p))
              (sym (told.handlers p)) (b.handlers p))
              (λ h start c d. told.running p h start c d));
          long = a.task_places ∙ sym b.task_places;
        }
