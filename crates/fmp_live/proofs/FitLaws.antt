-- Events that fit do the same in worlds that are alike but for dead locals. Any event does the same to their states.
use Rattle.std.proofs.Common.{◌≡◌, ◌⊎◌, inl, inr, ℕ, Bool, true, false, not, ℤ, ◌&&◌, ◌||◌, List, [], ◌∷◌, Option, Some, None}
use Rattle.std.proofs.Common.{zero, suc, refl, sym, ◌∙◌, ap, ap₂, subst, map, slice_get}
use Rattle.std.specs.List.{list_all}
use Rattle.fmp_base.specs.declared.bodies.HandlerContext.{HandlerContext}
use Rattle.fmp_base.specs.declared.bodies.Held.{Held}
use Rattle.fmp_base.specs.declared.bodies.Held.TheVariants.{Goes, Awaits}
use Rattle.fmp_base.specs.declared.calls.Reply.{Reply}
use Rattle.fmp_base.specs.declared.codes.Er.{Er}
use Rattle.fmp_base.specs.declared.codes.Er.TheVariants as er
use Rattle.fmp_base.specs.declared.events.Event.{Event}
use Rattle.fmp_base.specs.declared.events.Line.{Line}
use Rattle.fmp_base.specs.declared.events.Line.TheVariants as line
use Rattle.fmp_base.specs.declared.states.Caller.{Caller}
use Rattle.fmp_base.specs.declared.states.Caller.TheVariants as caller
use Rattle.fmp_base.specs.declared.states.TaskBlock.{TaskBlock}
use Rattle.fmp_base.specs.declared.systems.TaskConfig.{TaskConfig}
use Rattle.fmp_base.specs.Deliveries.{out_written, result_value, value_or_zero, written}
use Rattle.fmp_base.specs.Meanings.{Contexts, Meaning, World, context_at, contexts_after_all, task_body}
use Rattle.fmp_base.specs.Services.{gives_count}
use Rattle.fmp_base.specs.States.{KernelState, task_at}
use Rattle.fmp_base.specs.Steps.{Done, Reaction, Nothing, Did, Kept, concluded, step}
use Rattle.fmp_base.specs.Systems.{SystemTables, body_of}
use Rattle.fmp_base.specs.TaskCalls.{is_dormant}
use Rattle.fmp_bisimulation.specs.Alike.{Alike, AlikeStates, is_none, is_off}
use Rattle.fmp_bisimulation.specs.Closed.{BothAlike, IsChained, all_timeless, timeless}
use Rattle.fmp_bisimulation.proofs.StateLaws.{alike-chained, alike-refl}
use Rattle.fmp_bisimulation.proofs.TimeLaws.{blocks-at}
use Rattle.fmp_instructions.specs.declared.instructions.Instruction.{Instruction}
use Rattle.fmp_instructions.specs.declared.instructions.Instruction.TheVariants.{Call}
use Rattle.fmp_instructions.specs.declared.instructions.MachineContext.{MachineContext}
use Rattle.fmp_instructions.specs.Instructions.{BodyTables, instructions_at}
use Rattle.fmp_instructions.specs.Machine.{call_before, code_meaning, replied}
use Rattle.fmp_live.specs.Fits.{AreWritten, IsFit, has_out, held_behind_out, is_behind_out, is_caller_clear, is_clear}
use Rattle.fmp_live.specs.Fits.{is_clear_of, is_e_ok, is_handler_clear, is_reply_ok, is_task_clear, is_written}
use Rattle.fmp_live.specs.LiveLocals.{LiveTable, table_at}
use Rattle.fmp_live.specs.Zeroed.{ByTables, IsLike, IsLikeBy, Through, zeroed, zeroed_handler, zeroed_task}
use Rattle.fmp_live.proofs.LikeLaws.{both-chained, both-weaker, context_at-each, like-chained, like-keeps_so}
use Rattle.fmp_live.proofs.LikeLaws.{like-states}
use Rattle.fmp_live.proofs.MachineLaws.{deliver_so, meaning_so, replied_so}
use Rattle.fmp_live.proofs.ReplyLaws.{FromOne, SameBut, contexts-same, fits, step-but}

-- ---- replies that are delivered in the same way

out-none : (e : Er) (xs : List ℤ) (v : ℤ) → out_written e xs None v ≡ xs
out-none er.Ok xs v = refl
out-none _ xs v = refl

out-ok : (e : Er) (xs : List ℤ) (place : Option ℕ) (v : ℤ) → is_e_ok e ≡ true
    → out_written e xs place v ≡ written xs place v
out-ok er.Ok xs place v h = refl
out-ok _ xs place v h = cc

replied-both : (call : Option Instruction) (xs : List ℤ) (reply : Reply)
    → (is_e_ok reply.code ≡ true) ⊎ (has_out call ≡ false) → replied call xs reply ≡ replied_so true call xs reply
replied-both (Some (Call service None result)) xs reply h =
    ap (λ (ys : List ℤ). written ys result (result_value reply.code (gives_count service) (value_or_zero reply.value)))
    (out-none reply.code xs (value_or_zero reply.value))
replied-both (Some (Call service (Some out) result)) xs reply (inl ok) =
    ap (λ (ys : List ℤ). written ys result (result_value reply.code (gives_count service) (value_or_zero reply.value)))
    (out-ok reply.code xs (Some out) (value_or_zero reply.value) ok)
replied-both (Some (Call service (Some out) result)) xs reply (inr none) = cc
replied-both None xs reply h = refl
replied-both (Some _) xs reply h = refl

module _ (sys : SystemTables) (bodies : List BodyTables) where
  abbrev plain : ℕ → MachineContext → Reply → MachineContext
  plain body c reply = deliver_so false (instructions_at bodies body) c reply

  abbrev writing : ℕ → MachineContext → Reply → MachineContext
  writing body c reply = deliver_so true (instructions_at bodies body) c reply

  abbrev out : ℕ → Held MachineContext → Bool
  out body c = held_behind_out bodies body c

  abbrev OkOrNot : ℕ → MachineContext → Reply → Type 0
  OkOrNot body c reply = (is_e_ok reply.code ≡ true) ⊎ (out body (Awaits c) ≡ false)

  abbrev Stays : (ℕ → MachineContext → Reply → MachineContext) → Type 0
  Stays g = (body : ℕ) (c : MachineContext) (reply : Reply) → out body (Goes (g body c reply)) ≡ out body (Awaits c)

  -- what bodies mean, but for how replies are delivered
  abbrev by_delivery : (ℕ → MachineContext → Reply → MachineContext) → Meaning MachineContext
  by_delivery g =
      record { start = (code_meaning bodies).start; stretch = (code_meaning bodies).stretch; deliver = g }

  agree : (body : ℕ) (c : MachineContext) (reply : Reply) → OkOrNot body c reply
      → plain body c reply ≡ writing body c reply
  agree body c reply h =
      ap (λ (xs : List ℤ). record c { locals = xs })
      (replied-both (call_before (instructions_at bodies body) c.pc) c.locals reply h)

  -- ---- an event whose lines are written does the same by both meanings

  cleared : (told_too behind : Bool) → (told_too ≡ true → behind ≡ false) → (told_too && behind) ≡ false
  cleared true behind h = h refl
  cleared false behind h = refl

  and-second : (a b : Bool) → (a && b) ≡ true → b ≡ true
  and-second true b h = h
  and-second false b h = cc

  not-behind : (b : Bool) → not b ≡ true → b ≡ false
  not-behind false h = refl
  not-behind true h = cc

  body-of : (t : ℕ) (config : TaskConfig) → slice_get sys.tasks t ≡ Some config
      → body_of config.entry ≡ task_body sys t
  body-of t config e = rw e refl

  clear-of : (config : Option TaskConfig) (t : ℕ) (held : Option (Held MachineContext)) (c : Held MachineContext)
      → slice_get sys.tasks t ≡ config → held ≡ Some c → is_clear_of bodies config held ≡ true
      → held_behind_out bodies (task_body sys t) c ≡ false
  clear-of None t held c e is h = cc
  clear-of (Some config) t held c e is h =
      let body : body_of config.entry ≡ task_body sys t = body-of t config e in
      subst (λ (k : ℕ). held_behind_out bodies k c ≡ false) body
      (not-behind (held_behind_out bodies (body_of config.entry) c)
      (subst (λ (x : Option (Held MachineContext)). is_clear bodies (body_of config.entry) x ≡ true) is h))

  module _ (w : World MachineContext) where
    task-clear : (t : ℕ) (c : Held MachineContext) → context_at w.contexts.tasks t ≡ Some c
        → (is_task_clear sys bodies w t && held_behind_out bodies (task_body sys t) c) ≡ false
    task-clear t c is =
        cleared (is_task_clear sys bodies w t) (held_behind_out bodies (task_body sys t) c)
        (λ h. clear-of (slice_get sys.tasks t) t (context_at w.contexts.tasks t) c refl is
        (and-second (not (is_dormant (task_at w.state.tasks t).phase)) _ h))

    handler-clear : (p : ℕ) (c : HandlerContext (Held MachineContext)) → context_at w.contexts.handlers p ≡ Some c
        → (is_handler_clear bodies (context_at w.contexts.handlers p) && held_behind_out bodies c.body c.context)
        ≡ false
    handler-clear p c is =
        cleared (is_handler_clear bodies (context_at w.contexts.handlers p)) (held_behind_out bodies c.body c.context)
        (λ h. not-behind (held_behind_out bodies c.body c.context)
        (subst (λ (x : Option (HandlerContext (Held MachineContext))). is_handler_clear bodies x ≡ true) is h))

    abbrev may_task : ℕ → Bool
    may_task t = is_task_clear sys bodies w t

    abbrev may_handler : ℕ → Bool
    may_handler p = is_handler_clear bodies (context_at w.contexts.handlers p)

    -- the lines that are written are those that fit
    line-fits : (f g : ℕ → MachineContext → Reply → MachineContext)
        (k : (body : ℕ) (c : MachineContext) (reply : Reply) → OkOrNot body c reply → f body c reply ≡ g body c reply)
        (stays : Stays g) (l : Line)
        → is_written sys bodies w l ≡ fits sys (code_meaning bodies) f g out k stays may_task may_handler l
    unfolding is_written
    line-fits f g k stays (line.Call p (caller.Task t) made reply) = refl
    line-fits f g k stays (line.Call p (caller.Handler h) made reply) = refl
    line-fits f g k stays (line.Gets p t reply) = refl
    line-fits f g k stays (line.Tick c) = refl
    line-fits f g k stays (line.Int i) = refl
    line-fits f g k stays (line.End p who) = refl
    line-fits f g k stays (line.Fault p who x) = refl
    line-fits f g k stays (line.Starts p t) = refl
    line-fits f g k stays (line.Pends p c) = refl
    line-fits f g k stays (line.Begins p h) = refl
    line-fits f g k stays (line.Runs p t) = refl

    lines-fit : (f g : ℕ → MachineContext → Reply → MachineContext)
        (k : (body : ℕ) (c : MachineContext) (reply : Reply) → OkOrNot body c reply → f body c reply ≡ g body c reply)
        (stays : Stays g) (ls : List Line)
        → list_all (is_written sys bodies w) ls
        ≡ list_all (fits sys (code_meaning bodies) f g out k stays may_task may_handler) ls
    lines-fit f g k stays [] = refl
    lines-fit f g k stays (l ∷ ls) =
        ap₂ (λ (a b : Bool). a && b) (line-fits f g k stays l) (lines-fit f g k stays ls)

  module _ (f g : ℕ → MachineContext → Reply → MachineContext)
      (k : (body : ℕ) (c : MachineContext) (reply : Reply) → OkOrNot body c reply → f body c reply ≡ g body c reply)
      (stays : Stays g) where
    done-same : (a b : Done MachineContext) → FromOne sys (code_meaning bodies) f g a b
        → list_all (is_written sys bodies b.world) b.lines ≡ true → a ≡ b
    done-same a b h all =
        let cs : Contexts (Held MachineContext) = h.contexts in
        let d : Done MachineContext = concluded sys (by_delivery g) cs h.progress in
        let written_too : list_all (is_written sys bodies d.world) d.lines ≡ true =
        subst (λ (x : Done MachineContext). list_all (is_written sys bodies x.world) x.lines ≡ true) h.other all in
        let same : contexts_after_all sys (by_delivery f) cs h.progress.lines
        ≡ contexts_after_all sys (by_delivery g) cs h.progress.lines =
        contexts-same sys (code_meaning bodies) f g out k stays (may_task d.world) (may_handler d.world) cs
        h.progress.lines (sym (lines-fit d.world f g k stays d.lines) ∙ written_too) (task-clear d.world)
        (handler-clear d.world) in
        h.one
        ∙ ap
        (λ (x : Contexts (Held MachineContext)).
        record { world = record { state = h.progress.state; contexts = x }; lines = h.progress.lines }) same
        ∙ sym h.other

    pub reaction-same : (x y : Reaction MachineContext) → SameBut sys (code_meaning bodies) f g x y
        → AreWritten sys bodies y → x ≡ y
    reaction-same Nothing Nothing h all = refl
    reaction-same (Did a) (Did b) h all = ap (λ (d : Done MachineContext). Did d) (done-same a b h all)
    reaction-same (Kept p v) (Kept q w) h all =
        ap₂ (λ (i : ℕ) (x : World MachineContext). Kept i x) h.0 h.1
    reaction-same Nothing (Did b) h all = absurd h
    reaction-same Nothing (Kept q w) h all = absurd h
    reaction-same (Did a) Nothing h all = absurd h
    reaction-same (Did a) (Kept q w) h all = absurd h
    reaction-same (Kept p v) Nothing h all = absurd h
    reaction-same (Kept p v) (Did b) h all = absurd h

  -- ---- any event does the same to the state, by the same lines

  abbrev StatesAlike : World MachineContext → World MachineContext → Type 0
  StatesAlike v w = AlikeStates sys v.state w.state

  pub shape-same : (f g : ℕ → MachineContext → Reply → MachineContext) (x y : Reaction MachineContext)
      → SameBut sys (code_meaning bodies) f g x y → BothAlike StatesAlike x y
  shape-same f g Nothing Nothing h = tt
  shape-same f g (Did a) (Did b) h = (
    ap (λ (d : Done MachineContext). all_timeless d.lines) h.one
        ∙ sym (ap (λ (d : Done MachineContext). all_timeless d.lines) h.other),
    subst (λ (s : KernelState). AlikeStates sys a.world.state s)
        (ap (λ (d : Done MachineContext). d.world.state) h.one
        ∙ sym (ap (λ (d : Done MachineContext). d.world.state) h.other))
        (alike-refl sys a.world.state),
  )
  shape-same f g (Kept p v) (Kept q w) h =
      (h.0, subst (λ (x : World MachineContext). StatesAlike v x) h.1 (alike-refl sys v.state))
  shape-same f g Nothing (Did b) h = absurd h
  shape-same f g Nothing (Kept q w) h = absurd h
  shape-same f g (Did a) Nothing h = absurd h
  shape-same f g (Did a) (Kept q w) h = absurd h
  shape-same f g (Kept p v) Nothing h = absurd h
  shape-same f g (Kept p v) (Did b) h = absurd h

  -- ---- the same is written in worlds that are alike but for dead locals

  module _ (v w : World MachineContext) (alike : Alike sys v w) where
    clear-if : (t : ℕ) (asleep : Bool) → is_dormant (task_at v.state.tasks t).phase ≡ asleep
        → (not asleep && is_clear_of bodies (slice_get sys.tasks t) (context_at v.contexts.tasks t))
        ≡ (not asleep && is_clear_of bodies (slice_get sys.tasks t) (context_at w.contexts.tasks t))
    clear-if t true is = refl
    clear-if t false is =
        let on : is_off (task_at v.state.tasks t) ≡ false =
        ap (λ (b : Bool). b && is_none (task_at v.state.tasks t).deadline) is in
        ap (λ (x : Option (Held MachineContext)). is_clear_of bodies (slice_get sys.tasks t) x)
        (alike.contexts.tasks t on)

    task-alike : (t : ℕ) → is_task_clear sys bodies v t ≡ is_task_clear sys bodies w t
    task-alike t =
        let same = blocks-at v.state.clock w.state.clock v.state.tasks w.state.tasks alike.states.tasks t in
        clear-if t (is_dormant (task_at v.state.tasks t).phase) refl
        ∙ ap (λ (b : Bool). not b && is_clear_of bodies (slice_get sys.tasks t) (context_at w.contexts.tasks t))
        (ap (λ (x : TaskBlock). is_dormant x.phase) same.rest)

    written-alike : (l : Line) → is_written sys bodies v l ≡ is_written sys bodies w l
    unfolding is_written
    written-alike (line.Call p (caller.Task t) made reply) = ap (λ (b : Bool). is_reply_ok reply || b) (task-alike t)
    written-alike (line.Call p (caller.Handler h) made reply) =
        ap (λ hs. is_reply_ok reply || is_handler_clear bodies (context_at hs p)) alike.contexts.handlers
    written-alike (line.Gets p t reply) = ap (λ (b : Bool). is_e_ok reply.code || b) (task-alike t)
    written-alike (line.Tick c) = refl
    written-alike (line.Int i) = refl
    written-alike (line.End p who) = refl
    written-alike (line.Fault p who x) = refl
    written-alike (line.Starts p t) = refl
    written-alike (line.Pends p c) = refl
    written-alike (line.Begins p h) = refl
    written-alike (line.Runs p t) = refl

  clear-zeroed : (t : LiveTable) (body : ℕ) (held : Option (Held MachineContext))
      → is_clear bodies body (zeroed_task t held) ≡ is_clear bodies body held
  clear-zeroed t body None = refl
  clear-zeroed t body (Some (Goes c)) = refl
  clear-zeroed t body (Some (Awaits c)) = refl

  clear_of-zeroed : (t : LiveTable) (config : Option TaskConfig) (held : Option (Held MachineContext))
      → is_clear_of bodies config (zeroed_task t held) ≡ is_clear_of bodies config held
  clear_of-zeroed t None held = refl
  clear_of-zeroed t (Some config) held = clear-zeroed t (body_of config.entry) held

  handler-zeroed : (tables : List LiveTable) (h : Option (HandlerContext (Held MachineContext)))
      → is_handler_clear bodies (zeroed_handler tables h) ≡ is_handler_clear bodies h
  handler-zeroed tables None = refl
  handler-zeroed tables (Some h) = clear-zeroed (table_at tables h.body) h.body (Some h.context)

  handler_at : (tables : List LiveTable) (hs : List (Option (HandlerContext (Held MachineContext)))) (p : ℕ)
      → context_at (map (zeroed_handler tables) hs) p ≡ zeroed_handler tables (context_at hs p)
  handler_at tables [] p = refl
  handler_at tables (h ∷ hs) zero = refl
  handler_at tables (h ∷ hs) (suc p) = handler_at tables hs p

  module _ (tables : List LiveTable) (w : World MachineContext) where
    task-zeroed : (t : ℕ) → is_task_clear sys bodies (zeroed sys tables w) t ≡ is_task_clear sys bodies w t
    task-zeroed t =
        ap (λ (b : Bool). not (is_dormant (task_at w.state.tasks t).phase) && b)
        (ap (λ (c : Option (Held MachineContext)). is_clear_of bodies (slice_get sys.tasks t) c)
        (context_at-each (λ u. zeroed_task (table_at tables (task_body sys u))) (λ u. refl) w.contexts.tasks t)
        ∙ clear_of-zeroed (table_at tables (task_body sys t)) (slice_get sys.tasks t) (context_at w.contexts.tasks t))

    written-zeroed : (l : Line) → is_written sys bodies (zeroed sys tables w) l ≡ is_written sys bodies w l
    unfolding is_written
    written-zeroed (line.Call p (caller.Task t) made reply) = ap (λ (b : Bool). is_reply_ok reply || b) (task-zeroed t)
    written-zeroed (line.Call p (caller.Handler h) made reply) =
        ap (λ (b : Bool). is_reply_ok reply || b)
        (ap (λ (x : Option (HandlerContext (Held MachineContext))). is_handler_clear bodies x)
        (handler_at tables w.contexts.handlers p)
        ∙ handler-zeroed tables (context_at w.contexts.handlers p))
    written-zeroed (line.Gets p t reply) = ap (λ (b : Bool). is_e_ok reply.code || b) (task-zeroed t)
    written-zeroed (line.Tick c) = refl
    written-zeroed (line.Int i) = refl
    written-zeroed (line.End p who) = refl
    written-zeroed (line.Fault p who x) = refl
    written-zeroed (line.Starts p t) = refl
    written-zeroed (line.Pends p c) = refl
    written-zeroed (line.Begins p h) = refl
    written-zeroed (line.Runs p t) = refl

    written-timeless : (l : Line) → is_written sys bodies w l ≡ is_written sys bodies w (timeless l)
    unfolding is_written
    written-timeless (line.Tick c) = refl
    written-timeless (line.Call p who made reply) = refl
    written-timeless (line.Gets p t reply) = refl
    written-timeless (line.Int i) = refl
    written-timeless (line.End p who) = refl
    written-timeless (line.Fault p who x) = refl
    written-timeless (line.Starts p t) = refl
    written-timeless (line.Pends p c) = refl
    written-timeless (line.Begins p h) = refl
    written-timeless (line.Runs p t) = refl

  module _ (outs : Bool) where
    written-like : (v w : World MachineContext) (l : Line) → IsLike outs sys bodies v w
        → is_written sys bodies v l ≡ is_written sys bodies w l
    written-like _ _ l (ByTables v w tables live h) =
        sym (written-zeroed tables v l)
        ∙ written-alike (zeroed sys tables v) (zeroed sys tables w) h l
        ∙ written-zeroed tables w l
    written-like _ _ l (Through u v w h k) = written-like u v l h ∙ written-like v w l k

    all-like : (v w : World MachineContext) → IsLike outs sys bodies v w → (ls ms : List Line)
        → all_timeless ls ≡ all_timeless ms
        → list_all (is_written sys bodies v) ls ≡ list_all (is_written sys bodies w) ms
    all-like v w alike [] [] same = refl
    all-like v w alike [] (m ∷ ms) same = absurd (cc)
    all-like v w alike (l ∷ ls) [] same = absurd (cc)
    all-like v w alike (l ∷ ls) (m ∷ ms) same =
        let one : timeless l ≡ timeless m = cc in
        let more : all_timeless ls ≡ all_timeless ms = cc in
        ap₂ (λ (a b : Bool). a && b)
        (written-timeless [] v l ∙ ap (λ (x : Line). is_written sys bodies v x) one
        ∙ sym (written-timeless [] v m) ∙ written-like v w m alike)
        (all-like v w alike ls ms more)

    -- where both do the same and the lines of the second are written, so are those of the first
    written-too : (x y : Reaction MachineContext) → BothAlike (IsLike outs sys bodies) x y → AreWritten sys bodies y
        → AreWritten sys bodies x
    written-too Nothing Nothing both h = tt
    written-too (Did c) (Did d) (lines, alike) h = all-like c.world d.world alike c.lines d.lines lines ∙ h
    written-too (Kept p v) (Kept q w) both h = tt
    written-too Nothing (Did d) both h = absurd both
    written-too Nothing (Kept q w) both h = absurd both
    written-too (Did c) Nothing both h = absurd both
    written-too (Did c) (Kept q w) both h = absurd both
    written-too (Kept p v) Nothing both h = absurd both
    written-too (Kept p v) (Did d) both h = absurd both

    -- any event does the same to the states of such worlds, by the same lines
    pub like-always : (n : ℕ) (v w : World MachineContext) (e : Event) → IsLike outs sys bodies v w
        → BothAlike StatesAlike (step sys (code_meaning bodies) n v e) (step sys (code_meaning bodies) n w e)
    like-always n v w e h =
        let x : Reaction MachineContext = step sys (meaning_so outs bodies) n v e in
        let y : Reaction MachineContext = step sys (meaning_so outs bodies) n w e in
        both-chained StatesAlike (λ a b c j k. alike-chained sys a.state b.state c.state j k)
        (step sys (code_meaning bodies) n v e) x (step sys (code_meaning bodies) n w e)
        (shape-same plain by_outs (step sys (code_meaning bodies) n v e) x
        (step-but sys (code_meaning bodies) plain by_outs n v e))
        (both-chained StatesAlike (λ a b c j k. alike-chained sys a.state b.state c.state j k) x y
        (step sys (code_meaning bodies) n w e)
        (both-weaker (IsLike outs sys bodies) StatesAlike (λ a b k. like-states outs sys bodies a b k) x y
        (like-keeps_so outs sys bodies n v w e h))
        (shape-same by_outs plain y (step sys (code_meaning bodies) n w e)
        (step-but sys (code_meaning bodies) by_outs plain n w e))) where
          by_outs : ℕ → MachineContext → Reply → MachineContext
          by_outs body c reply = deliver_so outs (instructions_at bodies body) c reply

-- an event that fits the second of two worlds that are alike but for dead locals does the same in both
pub like-keeps : (outs : Bool) (sys : SystemTables) (bodies : List BodyTables) (n : ℕ) (v w : World MachineContext)
    (e : Event) → IsLike outs sys bodies v w → IsFit outs sys bodies n w e
    → BothAlike (IsLike outs sys bodies) (step sys (code_meaning bodies) n v e) (step sys (code_meaning bodies) n w e)
like-keeps false sys bodies n v w e h fit = like-keeps_so false sys bodies n v w e h
like-keeps true sys bodies n v w e h fit =
    let so : World MachineContext → Reaction MachineContext = λ u. step sys (meaning_so true bodies) n u e in
    let is : World MachineContext → Reaction MachineContext = λ u. step sys (code_meaning bodies) n u e in
    let second : so w ≡ is w =
    reaction-same sys bodies (writing sys bodies) (plain sys bodies) (λ body c reply k. sym (agree sys bodies body c reply k))
    (λ body c reply. refl) (so w) (is w)
    (step-but sys (code_meaning bodies) (writing sys bodies) (plain sys bodies) n w e) fit in
    let both : BothAlike (IsLike true sys bodies) (so v) (is w) =
    subst (λ (y : Reaction MachineContext). BothAlike (IsLike true sys bodies) (so v) y) second
    (like-keeps_so true sys bodies n v w e h) in
    let first : is v ≡ so v =
    reaction-same sys bodies (plain sys bodies) (writing sys bodies) (λ body c reply k. agree sys bodies body c reply k)
    (λ body c reply. refl) (is v) (so v)
    (step-but sys (code_meaning bodies) (plain sys bodies) (writing sys bodies) n v e)
    (written-too sys bodies true (so v) (is w) both fit) in
    subst (λ (x : Reaction MachineContext). BothAlike (IsLike true sys bodies) x (is w)) (sym first) both
