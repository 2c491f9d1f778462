-- Contexts that are written in place, and taken back.
use Rattle.std.proofs.Common.{◌≡◌, ◌<◌, ℕ, zero, suc, List, [], ◌∷◌, Option, Some, None, Bool, true, false, length}
use Rattle.std.proofs.Common.{slice_set, refl, ap, sym, subst, ◌∙◌, arith}
use Rattle.fmp_base.specs.declared.bodies.HandlerContext.{HandlerContext}
use Rattle.fmp_base.specs.declared.bodies.Held.{Held}
use Rattle.fmp_base.specs.declared.bodies.Held.TheVariants.{Goes, Awaits}
use Rattle.fmp_base.specs.declared.calls.Reply.{Reply}
use Rattle.fmp_base.specs.declared.states.Caller.{Caller}
use Rattle.fmp_base.specs.declared.states.Caller.TheVariants as caller
use Rattle.fmp_base.specs.Meanings.{Meaning, Contexts, context_at, context_in, body_in, context_of, caller_body}
use Rattle.fmp_base.specs.Meanings.{context_for, with_context, told}
use Rattle.fmp_base.specs.Steps.{contexts_ended}
use Rattle.fmp_base.specs.Systems.{SystemTables}
use Rattle.fmp_contexts.specs.Contexts.{HasContext, OfHeld, context_held, going_context, held_by, is_going}
use Rattle.fmp_contexts.specs.Contexts.{stretched_from}
use Rattle.fmp_worlds.specs.Settled.{IsThere}

-- a place is written twice, or with what stands there
set_twice : {A : Type 0} (xs : List A) (i : ℕ) (x y : A) → slice_set (slice_set xs i x) i y ≡ slice_set xs i y
set_twice [] i x y = refl
set_twice (z ∷ xs) zero x y = refl
set_twice (z ∷ xs) (suc i) x y = ap (λ r. z ∷ r) (set_twice xs i x y)

set_back : {A : Type 0} (xs : List (Option A)) (i : ℕ) → slice_set xs i (context_at xs i) ≡ xs
set_back [] i = refl
set_back (x ∷ xs) zero = refl
set_back (x ∷ xs) (suc i) = ap (λ r. x ∷ r) (set_back xs i)

there_set : {A : Type 0} (xs : List (Option A)) (i : ℕ) (x : Option A) → IsThere (context_at xs i)
    → context_at (slice_set xs i x) i ≡ x
there_set [] i x h = absurd h
there_set (z ∷ xs) zero x h = refl
there_set (z ∷ xs) (suc i) x h = there_set xs i x h

-- what is told a reply was there
pub told_there : {C : Type 0} (M : Meaning C) (body : ℕ) (reply : Reply) (o : Option (Held C))
    → IsThere (told M body reply o) → IsThere o
told_there M body reply None h = h
told_there M body reply (Some h) t = tt

-- the handler of which something is kept
in_place : {C : Type 0} (o : Option (HandlerContext C)) → IsThere (context_in o) → IsThere o
in_place None h = h
in_place (Some x) h = tt

rebuilt : {C : Type 0} (o : Option (HandlerContext C)) (c : C) → context_in o ≡ Some c
    → context_for (body_in o) (Some c) ≡ o
rebuilt None c h = absurd (cc h)
rebuilt {C} (Some x) c h = let e : x.context ≡ c = cc h in ap (λ (d : C). Some
    (record { body = x.body; context = d })) (sym e)

-- what is kept of a caller is written twice, or with what was kept
context_set : {C : Type 0} (cs : Contexts C) (p : ℕ) (who : Caller) (c : C) → HasContext cs p who
    → context_of (with_context cs p who (Some c)) p who ≡ Some c
context_set cs p (caller.Task t) c h = there_set cs.tasks t (Some c) h
context_set {C} cs p (caller.Handler i) c h =
    ap (λ (o : Option (HandlerContext C)). context_in o)
    (there_set cs.handlers p (context_for (body_in (context_at cs.handlers p)) (Some c))
    (in_place (context_at cs.handlers p) h))

pub has_set : {C : Type 0} (cs : Contexts C) (p : ℕ) (who : Caller) (c : C) → HasContext cs p who
    → HasContext (with_context cs p who (Some c)) p who
has_set {C} cs p who c h = subst (λ (o : Option C). IsThere o) (sym (context_set cs p who c h)) tt

pub body_set : {C : Type 0} (sys : SystemTables) (cs : Contexts C) (p : ℕ) (who : Caller) (c : C) → HasContext cs p who
    → caller_body sys (with_context cs p who (Some c)) p who ≡ caller_body sys cs p who
body_set sys cs p (caller.Task t) c h = refl
body_set {C} sys cs p (caller.Handler i) c h =
    ap (λ (o : Option (HandlerContext C)). body_in o)
    (there_set cs.handlers p (context_for (body_in (context_at cs.handlers p)) (Some c))
    (in_place (context_at cs.handlers p) h))

pub context_twice : {C : Type 0} (cs : Contexts C) (p : ℕ) (who : Caller) (c d : C) → HasContext cs p who
    → with_context (with_context cs p who (Some c)) p who (Some d) ≡ with_context cs p who (Some d)
context_twice {C} cs p (caller.Task t) c d h =
    ap (λ (ts : List (Option C)). record cs { tasks = ts }) (set_twice cs.tasks t (Some c) (Some d))
context_twice {C} cs p (caller.Handler i) c d h =
    let made = context_for (body_in (context_at cs.handlers p)) (Some c) in
    let e = ap (λ (o : Option (HandlerContext C)). body_in o) (there_set cs.handlers p made
    (in_place (context_at cs.handlers p) h)) in
    ap (λ (n : ℕ). record cs { handlers = slice_set (slice_set cs.handlers p made) p (context_for n (Some d)) }) e
    ∙ ap (λ (hs : List (Option (HandlerContext C))). record cs { handlers = hs }) (set_twice cs.handlers p made _)

pub context_back : {C : Type 0} (cs : Contexts C) (p : ℕ) (who : Caller) (c : C) → context_of cs p who ≡ Some c
    → with_context cs p who (Some c) ≡ cs
context_back {C} cs p (caller.Task t) c h =
    ap (λ (o : Option C). record cs { tasks = slice_set cs.tasks t o }) (sym h)
    ∙ ap (λ (ts : List (Option C)). record cs { tasks = ts }) (set_back cs.tasks t)
context_back {C} cs p (caller.Handler i) c h =
    ap (λ (o : Option (HandlerContext C)). record cs { handlers = slice_set cs.handlers p o })
    (rebuilt (context_at cs.handlers p) c h)
    ∙ ap (λ (hs : List (Option (HandlerContext C))). record cs { handlers = hs }) (set_back cs.handlers p)

-- what is told of a context that is kept
pub context_by : {C : Type 0} (awaits : Bool) (c : C) → context_held (held_by awaits c) ≡ c
context_by true c = refl
context_by false c = refl

pub stretched_by : {C : Type 0} (M : Meaning C) (body bound : ℕ) (awaits : Bool) (c : C)
    → is_going (Some (held_by awaits c)) ≡ true
    → stretched_from M body bound (Some (held_by awaits c)) ≡ M.stretch body bound c
stretched_by M body bound true c h = absurd (cc h)
stretched_by M body bound false c h = refl

-- a context that goes on is there
pub going_there : {C : Type 0} (o : Option (Held C)) → is_going o ≡ true → IsThere o
going_there None h = absurd (cc h)
going_there (Some c) h = tt

-- the context from which a body goes on
pub going_some : {C : Type 0} (o : Option (Held C)) (c : C) → going_context o ≡ Some c → o ≡ Some (Goes c)
going_some None c h = absurd (cc h)
going_some (Some (Awaits d)) c h = absurd (cc h)
going_some {C} (Some (Goes d)) c h = let e : d ≡ c = cc h in ap (λ (x : C). Some (Goes x)) e

pub going_none : {C : Type 0} (o : Option (Held C)) → going_context o ≡ None → is_going o ≡ true → ⊥
going_none None h k = absurd (cc k)
going_none (Some (Awaits d)) h k = absurd (cc k)
going_none (Some (Goes d)) h k = absurd (cc h)

-- a context that is there is at a place
pub inside : {A : Type 0} (cs : List (Option A)) (i : ℕ) → IsThere (context_at cs i) → i < length cs
inside [] i h = absurd h
inside (c ∷ cs) zero h = omega arith
inside (c ∷ cs) (suc i) h = let k = inside cs i h in omega (arith, k)

pub inside_task : {C : Type 0} (cs : List (Option (Held C))) (i : ℕ) → is_going (context_at cs i) ≡ true → i < length cs
inside_task cs i h = inside cs i (going_there (context_at cs i) h)

pub inside_handler : {C : Type 0} (cs : List (Option (HandlerContext (Held C)))) (i : ℕ)
    → is_going (context_in (context_at cs i)) ≡ true
    → i < length cs
inside_handler cs i h = inside cs i (in_place (context_at cs i) (going_there (context_in (context_at cs i)) h))

-- what was kept of an actor that ends does not matter
pub ended_over : {C : Type 0} (sys : SystemTables) (M : Meaning C) (cs : Contexts (Held C)) (p : ℕ) (who : Caller)
    → contexts_ended sys M (with_context cs p who None) p who ≡ contexts_ended sys M cs p who
ended_over {C} sys M cs p (caller.Task t) =
    ap (λ (ts : List (Option (Held C))). record cs { tasks = ts }) (set_twice cs.tasks t None _)
ended_over {C} sys M cs p (caller.Handler i) =
    ap (λ (hs : List (Option (HandlerContext (Held C)))). record cs { handlers = hs })
    (set_twice cs.handlers p None None)
