-- What lines do to the contexts of handlers: where none begins, the bodies stay.
use Rattle.std.proofs.Common.{◌≡◌, ℕ, zero, suc, List, [], ◌∷◌, ◌++◌, Option, Some, None, Bool, true, false, length}
use Rattle.std.proofs.Common.{slice_get, slice_set, refl, ap, ◌∙◌}
use Rattle.std.proofs.lemmas.List.{length-set}
use Rattle.std.specs.List.{AllByRecursion}
use Rattle.fmp_base.specs.declared.bodies.HandlerContext.{HandlerContext}
use Rattle.fmp_base.specs.declared.bodies.Held.{Held}
use Rattle.fmp_base.specs.declared.bodies.Held.TheVariants.{Goes, Awaits}
use Rattle.fmp_base.specs.declared.calls.Reply.{Reply}
use Rattle.fmp_base.specs.declared.events.Line.{Line}
use Rattle.fmp_base.specs.declared.events.Line.TheVariants as line
use Rattle.fmp_base.specs.declared.states.Caller.{Caller}
use Rattle.fmp_base.specs.declared.states.Caller.TheVariants as caller
use Rattle.fmp_base.specs.Meanings.{Meaning, Contexts, body_in, context_at, context_for, context_in, contexts_after}
use Rattle.fmp_base.specs.Meanings.{contexts_after_all, delivered_to, told}
use Rattle.fmp_base.specs.Settles.{dispatch_lines}
use Rattle.fmp_base.specs.States.{KernelState}
use Rattle.fmp_base.specs.Systems.{SystemTables, found}
use Rattle.fmp_worlds.proofs.Assigned.{set_at}
use Rattle.fmp_worlds.proofs.Lines.{IsOwn}

-- what is at place j of two lists after place i of both was written
pub both-set : {A B : Type 0} (d : A) (e : B) (P : A → B → Type 0) (xs : List A) (ys : List B) → length xs ≡ length ys
    → (i : ℕ) (x : A) (y : B) (j : ℕ) → (i ≡ j → P x y) → P (found d (slice_get xs j)) (found e (slice_get ys j))
    → P (found d (slice_get (slice_set xs i x) j)) (found e (slice_get (slice_set ys i y) j))
both-set d e P [] [] l i x y j h k = k
both-set d e P [] (b ∷ ys) l i x y j h k = cc
both-set d e P (a ∷ xs) [] l i x y j h k = cc
both-set d e P (a ∷ xs) (b ∷ ys) l zero x y zero h k = h refl
both-set d e P (a ∷ xs) (b ∷ ys) l zero x y (suc j) h k = k
both-set d e P (a ∷ xs) (b ∷ ys) l (suc i) x y zero h k = k
both-set d e P (a ∷ xs) (b ∷ ys) l (suc i) x y (suc j) h k =
    let fewer : length xs ≡ length ys = cc in
    both-set d e P xs ys fewer i x y j (λ f. h (ap suc f)) k

-- a line with which no handler begins
abbrev pub BeginsNone : Line → Type 0
BeginsNone (line.Begins p h) = ⊥
BeginsNone l = Unit {0}

pub own-begins_none : (s : KernelState) (own : ℕ) (l : Line) → IsOwn s own l → BeginsNone l
own-begins_none s own (line.Begins p h) k = k
own-begins_none s own (line.Starts p t) k = tt
own-begins_none s own (line.Call p who c reply) k = tt
own-begins_none s own (line.Gets p t reply) k = tt
own-begins_none s own (line.Tick now) k = tt
own-begins_none s own (line.Int i) k = tt
own-begins_none s own (line.End p who) k = tt
own-begins_none s own (line.Fault p who fault) k = tt
own-begins_none s own (line.Pends p i) k = tt
own-begins_none s own (line.Runs p t) k = tt

pub dispatch-begins_none : (same : Bool) (p : ℕ) (t : Option ℕ) → AllByRecursion BeginsNone (dispatch_lines same p t)
dispatch-begins_none true p t = tt
dispatch-begins_none false p t = (tt, tt)

-- the body of what is kept of a handler
abbrev pub kept_body : {A : Type 0} → Option (HandlerContext A) → Option ℕ
kept_body None = None
kept_body (Some k) = Some k.body

-- the body of what is kept of the handler of p
abbrev pub on_at : {C : Type 0} → Contexts (Held C) → ℕ → Option ℕ
on_at cs p = kept_body (context_at cs.handlers p)

module _ {C : Type 0} (sys : SystemTables) (M : Meaning C) where
  told-body : (body : ℕ) (reply : Reply) (o : Option (HandlerContext (Held C)))
      → kept_body (context_for (body_in o) (told M body reply (context_in o))) ≡ kept_body o
  told-body body reply None = refl
  told-body body reply (Some k) = by_held k.context where
    by_held : (held : Held C) → kept_body (context_for k.body (told M body reply (Some held))) ≡ Some k.body
    by_held (Goes c) = refl
    by_held (Awaits c) = refl

  -- the same bodies where what has this body is written
  pub body-set : (hs : List (Option (HandlerContext (Held C)))) (p : ℕ) (y : Option (HandlerContext (Held C)))
      → kept_body y ≡ kept_body (context_at hs p) → (q : ℕ) → kept_body (context_at (slice_set hs p y) q)
      ≡ kept_body (context_at hs q)
  body-set hs p y same q =
      set_at None (λ (o : Option (HandlerContext (Held C))). kept_body o ≡ kept_body (context_at hs q)) hs p y q
      (λ e. same ∙ ap (λ (v : ℕ). kept_body (context_at hs v)) e) refl

  same-delivered : (cs : Contexts (Held C)) (p : ℕ) (who : Caller) (reply : Reply) (q : ℕ)
      → on_at (delivered_to sys M cs p who reply) q ≡ on_at cs q
  same-delivered cs p (caller.Task t) reply q = refl
  same-delivered cs p (caller.Handler i) reply q =
      body-set cs.handlers p _ (told-body (body_in (context_at cs.handlers p)) reply (context_at cs.handlers p)) q

  same-after : (cs : Contexts (Held C)) (l : Line) → BeginsNone l → (q : ℕ) → on_at (contexts_after sys M cs l) q
      ≡ on_at cs q
  same-after cs (line.Begins p i) n q = absurd n
  same-after cs (line.Starts p t) n q = refl
  same-after cs (line.Gets p t reply) n q = refl
  same-after cs (line.Call p who made None) n q = refl
  same-after cs (line.Call p who made (Some reply)) n q = same-delivered cs p who reply q
  same-after cs (line.Tick now) n q = refl
  same-after cs (line.Int i) n q = refl
  same-after cs (line.End p who) n q = refl
  same-after cs (line.Fault p who fault) n q = refl
  same-after cs (line.Pends p i) n q = refl
  same-after cs (line.Runs p t) n q = refl

  pub same-all : (cs : Contexts (Held C)) (ls : List Line) → AllByRecursion BeginsNone ls → (q : ℕ)
      → on_at (contexts_after_all sys M cs ls) q ≡ on_at cs q
  same-all cs [] n q = refl
  same-all cs (l ∷ ls) n q = same-all (contexts_after sys M cs l) ls n.1 q ∙ same-after cs l n.0 q

  -- the places stay

  places-delivered : (cs : Contexts (Held C)) (q : ℕ) (who : Caller) (reply : Reply)
      → length (delivered_to sys M cs q who reply).handlers ≡ length cs.handlers
  places-delivered cs q (caller.Task u) reply = refl
  places-delivered cs q (caller.Handler i) reply = length-set cs.handlers q _

  places-after : (cs : Contexts (Held C)) (l : Line) → length (contexts_after sys M cs l).handlers ≡ length cs.handlers
  places-after cs (line.Begins q i) = length-set cs.handlers q _
  places-after cs (line.Starts q u) = refl
  places-after cs (line.Gets q u reply) = refl
  places-after cs (line.Call q who made None) = refl
  places-after cs (line.Call q who made (Some reply)) = places-delivered cs q who reply
  places-after cs (line.Tick now) = refl
  places-after cs (line.Int i) = refl
  places-after cs (line.End q who) = refl
  places-after cs (line.Fault q who fault) = refl
  places-after cs (line.Pends q i) = refl
  places-after cs (line.Runs q u) = refl

  pub places-all : (cs : Contexts (Held C)) (ls : List Line) → length (contexts_after_all sys M cs ls).handlers
      ≡ length cs.handlers
  places-all cs [] = refl
  places-all cs (l ∷ ls) = places-all (contexts_after sys M cs l) ls ∙ places-after cs l

  tasks-delivered : (cs : Contexts (Held C)) (q : ℕ) (who : Caller) (reply : Reply)
      → length (delivered_to sys M cs q who reply).tasks ≡ length cs.tasks
  tasks-delivered cs q (caller.Task u) reply = length-set cs.tasks u _
  tasks-delivered cs q (caller.Handler i) reply = refl

  tasks-after : (cs : Contexts (Held C)) (l : Line) → length (contexts_after sys M cs l).tasks ≡ length cs.tasks
  tasks-after cs (line.Begins q i) = refl
  tasks-after cs (line.Starts q u) = length-set cs.tasks u _
  tasks-after cs (line.Gets q u reply) = tasks-delivered cs q (caller.Task u) reply
  tasks-after cs (line.Call q who made None) = refl
  tasks-after cs (line.Call q who made (Some reply)) = tasks-delivered cs q who reply
  tasks-after cs (line.Tick now) = refl
  tasks-after cs (line.Int i) = refl
  tasks-after cs (line.End q who) = refl
  tasks-after cs (line.Fault q who fault) = refl
  tasks-after cs (line.Pends q i) = refl
  tasks-after cs (line.Runs q u) = refl

  pub tasks-all : (cs : Contexts (Held C)) (ls : List Line) → length (contexts_after_all sys M cs ls).tasks
      ≡ length cs.tasks
  tasks-all cs [] = refl
  tasks-all cs (l ∷ ls) = tasks-all (contexts_after sys M cs l) ls ∙ tasks-after cs l

  pub after-append : (cs : Contexts (Held C)) (ls ms : List Line)
      → contexts_after_all sys M cs (ls ++ ms) ≡ contexts_after_all sys M (contexts_after_all sys M cs ls) ms
  after-append cs [] ms = refl
  after-append cs (l ∷ ls) ms = after-append (contexts_after sys M cs l) ls ms
