-- Lines that tell what must never be answered to a call.
use Rattle.std.proofs.Common.{◌≡◌, ℕ, zero, suc, List, [], ◌∷◌, Option, Some, None, Bool, true, false, ◌&&◌, ◌||◌, map}
use Rattle.std.proofs.Common.{nat_eq, not, slice_get, refl, sym, ◌∙◌, ap, ap₂}
use Rattle.std.specs.List.{list_any}
use Rattle.fmp_base.specs.declared.bodies.HandlerContext.{HandlerContext}
use Rattle.fmp_base.specs.declared.bodies.Held.{Held}
use Rattle.fmp_base.specs.declared.bodies.Held.TheVariants.{Goes, Awaits}
use Rattle.fmp_base.specs.declared.events.Line.{Line}
use Rattle.fmp_base.specs.declared.events.Line.TheVariants as line
use Rattle.fmp_base.specs.declared.states.Caller.{Caller}
use Rattle.fmp_base.specs.declared.states.Caller.TheVariants as caller
use Rattle.fmp_base.specs.declared.states.TaskBlock.{TaskBlock}
use Rattle.fmp_base.specs.Meanings.{World, context_at, task_body}
use Rattle.fmp_base.specs.States.{task_at}
use Rattle.fmp_base.specs.Systems.{SystemTables}
use Rattle.fmp_base.specs.TaskCalls.{is_dormant}
use Rattle.fmp_bisimulation.specs.Alike.{Alike, is_none, is_off}
use Rattle.fmp_bisimulation.specs.Closed.{timeless}
use Rattle.fmp_bisimulation.proofs.TimeLaws.{blocks-at}
use Rattle.fmp_question.specs.declared.site.CallSite.{CallSite}
use Rattle.fmp_question.specs.declared.question.NeverAt.{NeverAt}
use Rattle.fmp_question.specs.declared.question.Question.{Question}
use Rattle.fmp_question.specs.Forbidden.{forbids, has_code, is_same_code}
use Rattle.fmp_question.specs.Sites.{forbids_there, has_body, is_bad, is_after, is_caller_after, is_handler_after}
use Rattle.fmp_question.specs.Sites.{is_of, is_of_caller, is_task_after, tells_there}
use Rattle.fmp_instructions.specs.declared.instructions.MachineContext.{MachineContext}
use Rattle.fmp_instructions.specs.Instructions.{BodyTables}
use Rattle.fmp_live.specs.LiveLocals.{LiveTable, table_at}
use Rattle.fmp_live.specs.Zeroed.{ByTables, IsLike, Through, zeroed, zeroed_handler, zeroed_task}
use Rattle.fmp_live.proofs.LikeLaws.{context_at-each}
use Rattle.fmp_schedules.specs.Tried.{IsEven}

first-none : (a b c : Bool) → ((a || b) || c) ≡ false → a ≡ false
first-none true b c h = cc
first-none false b c h = refl

second-none : (a b c : Bool) → ((a || b) || c) ≡ false → b ≡ false
second-none true b c h = absurd (cc)
second-none false b c h = by b h where
  by : (b : Bool) → (b || c) ≡ false → b ≡ false
  by true h = cc
  by false h = refl

rest-none : (a c : Bool) → (a || c) ≡ false → c ≡ false
rest-none true c h = absurd (cc)
rest-none false c h = h

both-none : (a c : Bool) → a ≡ false → c ≡ false → (a || c) ≡ false
both-none a c h k = ap₂ (λ (x y : Bool). x || y) h k

module _ (sys : SystemTables) (q : Question) (w : World MachineContext) where
  -- where no line is bad, none is forbidden anywhere
  pub none-anywhere : (ls : List Line) → list_any (is_bad sys q w) ls ≡ false
      → list_any (forbids q.nevers.items) ls ≡ false
  none-anywhere [] h = refl
  none-anywhere (l ∷ ls) h =
      both-none (forbids q.nevers.items l) (list_any (forbids q.nevers.items) ls)
      (first-none (forbids q.nevers.items l) (forbids_there sys q.nevers_at.items w l) (list_any (is_bad sys q w) ls) h)
      (none-anywhere ls (rest-none (is_bad sys q w l) (list_any (is_bad sys q w) ls) h))

  -- and none at its call
  pub none-there : (ls : List Line) → list_any (is_bad sys q w) ls ≡ false
      → list_any (forbids_there sys q.nevers_at.items w) ls ≡ false
  none-there [] h = refl
  none-there (l ∷ ls) h =
      both-none (forbids_there sys q.nevers_at.items w l) (list_any (forbids_there sys q.nevers_at.items w) ls)
      (second-none (forbids q.nevers.items l) (forbids_there sys q.nevers_at.items w l) (list_any (is_bad sys q w) ls)
      h)
      (none-there ls (rest-none (is_bad sys q w l) (list_any (is_bad sys q w) ls) h))

-- ---- the same is told at a call in alike worlds

module _ (sys : SystemTables) (v w : World MachineContext) (alike : Alike sys v w) where
  module _ (site : CallSite) where
    after-if : (t : ℕ) (asleep : Bool) → is_dormant (task_at v.state.tasks t).phase ≡ asleep
        → (not asleep && (has_body site (slice_get sys.tasks t) && is_after site (context_at v.contexts.tasks t)))
        ≡ (not asleep && (has_body site (slice_get sys.tasks t) && is_after site (context_at w.contexts.tasks t)))
    after-if t true is = refl
    after-if t false is =
        let on : is_off (task_at v.state.tasks t) ≡ false =
        ap (λ (b : Bool). b && is_none (task_at v.state.tasks t).deadline) is in
        ap (λ (x : Option (Held MachineContext)). has_body site (slice_get sys.tasks t) && is_after site x)
        (alike.contexts.tasks t on)

    same-asleep : (t : ℕ) → is_dormant (task_at v.state.tasks t).phase ≡ is_dormant (task_at w.state.tasks t).phase
    same-asleep t =
        let same = blocks-at v.state.clock w.state.clock v.state.tasks w.state.tasks alike.states.tasks t in
        ap (λ (x : TaskBlock). is_dormant x.phase) same.rest

    task-after : (t : ℕ) → is_task_after sys v site t ≡ is_task_after sys w site t
    task-after t =
        after-if t (is_dormant (task_at v.state.tasks t).phase) refl
        ∙ ap (λ (b : Bool). not b
        && (has_body site (slice_get sys.tasks t) && is_after site (context_at w.contexts.tasks t))) (same-asleep t)

    caller-after : (p : ℕ) (who : Caller) → is_caller_after sys v site p who ≡ is_caller_after sys w site p who
    caller-after p (caller.Task t) = task-after t
    caller-after p (caller.Handler h) =
        ap (λ hs. is_handler_after site (context_at hs p)) alike.contexts.handlers

  told-there : (never : NeverAt) (l : Line) → tells_there sys v never l ≡ tells_there sys w never l
  unfolding tells_there
  told-there never (line.Call p who made reply) =
      ap (λ (b : Bool). (has_code never.code reply && is_of_caller never.by who) && b) (caller-after never.site p who)
  told-there never (line.Gets p t reply) =
      ap (λ (b : Bool). (is_same_code reply.code never.code && is_of never.by t) && b) (task-after never.site t)
  told-there never (line.Tick clock) = refl
  told-there never (line.Int i) = refl
  told-there never (line.End p who) = refl
  told-there never (line.Fault p who fault) = refl
  told-there never (line.Starts p t) = refl
  told-there never (line.Pends p c) = refl
  told-there never (line.Begins p h) = refl
  told-there never (line.Runs p t) = refl

  any-there : (nevers : List NeverAt) (l : Line) → forbids_there sys nevers v l ≡ forbids_there sys nevers w l
  any-there [] l = refl
  any-there (never ∷ rest) l = ap₂ (λ (a b : Bool). a || b) (told-there never l) (any-there rest l)

-- ---- and in worlds that are alike but for dead locals

after-zeroed : (site : CallSite) (t : LiveTable) (held : Option (Held MachineContext))
    → is_after site (zeroed_task t held) ≡ is_after site held
after-zeroed site t None = refl
after-zeroed site t (Some (Goes c)) = refl
after-zeroed site t (Some (Awaits c)) = refl

handler-zeroed : (site : CallSite) (tables : List LiveTable) (h : Option (HandlerContext (Held MachineContext)))
    → is_handler_after site (zeroed_handler tables h) ≡ is_handler_after site h
handler-zeroed site tables None = refl
handler-zeroed site tables (Some h) =
    ap (λ (b : Bool). nat_eq h.body site.body && b)
    (after-zeroed site (table_at tables h.body) (Some h.context))

handler_at : (tables : List LiveTable) (hs : List (Option (HandlerContext (Held MachineContext)))) (p : ℕ)
    → context_at (map (zeroed_handler tables) hs) p ≡ zeroed_handler tables (context_at hs p)
handler_at tables [] p = refl
handler_at tables (h ∷ hs) zero = refl
handler_at tables (h ∷ hs) (suc p) = handler_at tables hs p

module _ (sys : SystemTables) (tables : List LiveTable) (w : World MachineContext) where
  abbrev dead_as_0 : World MachineContext
  dead_as_0 = zeroed sys tables w

  task_after-zeroed : (site : CallSite) (t : ℕ) → is_task_after sys dead_as_0 site t ≡ is_task_after sys w site t
  task_after-zeroed site t =
      ap
      (λ (b : Bool). not (is_dormant (task_at w.state.tasks t).phase) && (has_body site (slice_get sys.tasks t) && b))
      (ap (λ (c : Option (Held MachineContext)). is_after site c)
      (context_at-each (λ u. zeroed_task (table_at tables (task_body sys u))) (λ u. refl) w.contexts.tasks t)
      ∙ after-zeroed site (table_at tables (task_body sys t)) (context_at w.contexts.tasks t))

  caller_after-zeroed : (site : CallSite) (p : ℕ) (who : Caller)
      → is_caller_after sys dead_as_0 site p who ≡ is_caller_after sys w site p who
  caller_after-zeroed site p (caller.Task t) = task_after-zeroed site t
  caller_after-zeroed site p (caller.Handler h) =
      ap (λ (x : Option (HandlerContext (Held MachineContext))). is_handler_after site x)
      (handler_at tables w.contexts.handlers p)
      ∙ handler-zeroed site tables (context_at w.contexts.handlers p)

  told-zeroed : (never : NeverAt) (l : Line) → tells_there sys dead_as_0 never l ≡ tells_there sys w never l
  unfolding tells_there
  told-zeroed never (line.Call p who made reply) =
      ap (λ (b : Bool). (has_code never.code reply && is_of_caller never.by who) && b)
      (caller_after-zeroed never.site p who)
  told-zeroed never (line.Gets p t reply) =
      ap (λ (b : Bool). (is_same_code reply.code never.code && is_of never.by t) && b) (task_after-zeroed never.site t)
  told-zeroed never (line.Tick clock) = refl
  told-zeroed never (line.Int i) = refl
  told-zeroed never (line.End p who) = refl
  told-zeroed never (line.Fault p who fault) = refl
  told-zeroed never (line.Starts p t) = refl
  told-zeroed never (line.Pends p c) = refl
  told-zeroed never (line.Begins p h) = refl
  told-zeroed never (line.Runs p t) = refl

  any-zeroed : (nevers : List NeverAt) (l : Line)
      → forbids_there sys nevers dead_as_0 l ≡ forbids_there sys nevers w l
  any-zeroed [] l = refl
  any-zeroed (never ∷ rest) l = ap₂ (λ (a b : Bool). a || b) (told-zeroed never l) (any-zeroed rest l)

module _ (outs : Bool) (sys : SystemTables) (bodies : List BodyTables) (nevers : List NeverAt) (l : Line) where
  like-there : (v w : World MachineContext) → IsLike outs sys bodies v w
      → forbids_there sys nevers v l ≡ forbids_there sys nevers w l
  like-there _ _ (ByTables v w tables live h) =
      sym (any-zeroed sys tables v nevers l)
      ∙ any-there sys (zeroed sys tables v) (zeroed sys tables w) h nevers l
      ∙ any-zeroed sys tables w nevers l
  like-there _ _ (Through u v w h k) = like-there u v h ∙ like-there v w k

module _ (sys : SystemTables) (w : World MachineContext) where
  told-timeless : (never : NeverAt) (l : Line) → tells_there sys w never l ≡ tells_there sys w never (timeless l)
  unfolding tells_there
  told-timeless never (line.Tick clock) = refl
  told-timeless never (line.Call p who made reply) = refl
  told-timeless never (line.Gets p t reply) = refl
  told-timeless never (line.Int i) = refl
  told-timeless never (line.End p who) = refl
  told-timeless never (line.Fault p who fault) = refl
  told-timeless never (line.Starts p t) = refl
  told-timeless never (line.Pends p c) = refl
  told-timeless never (line.Begins p h) = refl
  told-timeless never (line.Runs p t) = refl

  any-timeless : (nevers : List NeverAt) (l : Line)
      → forbids_there sys nevers w l ≡ forbids_there sys nevers w (timeless l)
  any-timeless [] l = refl
  any-timeless (never ∷ rest) l = ap₂ (λ (a b : Bool). a || b) (told-timeless never l) (any-timeless rest l)

-- the same is forbidden in worlds that are alike but for dead locals, whatever the number of the clock
pub there-even : (outs : Bool) (sys : SystemTables) (bodies : List BodyTables) (nevers : List NeverAt)
    → IsEven (IsLike outs sys bodies) (forbids_there sys nevers)
there-even outs sys bodies nevers v w l m alike same =
    any-timeless sys v nevers l
    ∙ ap (λ (x : Line). forbids_there sys nevers v x) same
    ∙ sym (any-timeless sys v nevers m)
    ∙ like-there outs sys bodies nevers m v w alike
