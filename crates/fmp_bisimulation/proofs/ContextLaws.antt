-- Contexts that are the same, but for some tasks, stay so by lines.
use Rattle.std.proofs.Common.{◌≡◌, ℕ, zero, suc, List, [], ◌∷◌, Option, Some, None, Bool, true, false, ◌||◌, refl, sym}
use Rattle.std.proofs.Common.{◌∙◌, ap, subst, nat_eq, length, slice_set}
use Rattle.std.proofs.lemmas.Bool.{ne_eqb}
use Rattle.fmp_base.specs.declared.bodies.HandlerContext.{HandlerContext}
use Rattle.fmp_base.specs.declared.bodies.Held.{Held}
use Rattle.fmp_base.specs.declared.calls.Reply.{Reply}
use Rattle.fmp_base.specs.declared.events.Line.{Line}
use Rattle.fmp_base.specs.declared.events.Line.TheVariants as line
use Rattle.fmp_base.specs.declared.states.Caller.{Caller}
use Rattle.fmp_base.specs.declared.states.Caller.TheVariants as caller
use Rattle.fmp_base.specs.Meanings.{Meaning, Contexts, body_in, caller_body, context_at, context_for, context_in}
use Rattle.fmp_base.specs.Meanings.{context_of, contexts_after, contexts_after_all, task_body, told, with_context}
use Rattle.fmp_base.specs.Steps.{contexts_ended}
use Rattle.fmp_base.specs.Systems.{SystemTables}
use Rattle.fmp_bisimulation.proofs.RestLaws.{starts, starts_by}

-- as many, and the same of each of which `on` is true
pub record Agree {A : Type 0} (on : ℕ → Bool) (xs ys : List (Option A)) : Type 0 where
  pub at : (t : ℕ) → on t ≡ true → context_at xs t ≡ context_at ys t
  pub long : length xs ≡ length ys

set_both : {A : Type 0} (xs ys : List (Option A)) → length xs ≡ length ys → (t v : ℕ) (x y : Option A) → (v ≡ t → x ≡ y)
    → ((v ≡ t → ⊥) → context_at xs v ≡ context_at ys v)
    → context_at (slice_set xs t x) v ≡ context_at (slice_set ys t y) v
set_both [] [] e t v x y h k = refl
set_both [] (b ∷ ys) e t v x y h k = cc
set_both (a ∷ xs) [] e t v x y h k = cc
set_both (a ∷ xs) (b ∷ ys) e zero zero x y h k = h refl
set_both (a ∷ xs) (b ∷ ys) e zero (suc v) x y h k = k (λ f. cc)
set_both (a ∷ xs) (b ∷ ys) e (suc t) zero x y h k = k (λ f. cc)
set_both (a ∷ xs) (b ∷ ys) e (suc t) (suc v) x y h k =
    let fewer : length xs ≡ length ys = cc in
    set_both xs ys fewer t v x y (λ f. h (ap (λ (n : ℕ). suc n) f)) (λ n. k (λ f. n cc))

set_long : {A : Type 0} (xs : List (Option A)) (t : ℕ) (x : Option A) → length (slice_set xs t x) ≡ length xs
set_long [] t x = refl
set_long (a ∷ xs) zero x = refl
set_long (a ∷ xs) (suc t) x = ap (λ (n : ℕ). suc n) (set_long xs t x)

both_long : {A : Type 0} (xs ys : List (Option A)) (t : ℕ) (x y : Option A) → length xs ≡ length ys
    → length (slice_set xs t x) ≡ length (slice_set ys t y)
both_long xs ys t x y e = set_long xs t x ∙ e ∙ sym (set_long ys t y)

agree-update : {A : Type 0} (on : ℕ → Bool) (xs ys : List (Option A)) (t : ℕ) (x y : Option A) → Agree on xs ys
    → (on t ≡ true → x ≡ y)
    → Agree on (slice_set xs t x) (slice_set ys t y)
agree-update on xs ys t x y h k =
    record {
      at = λ v e. set_both xs ys h.long t v x y (λ same. k (subst (λ (u : ℕ). on u ≡ true) same e)) (λ n. h.at v e);
      long = both_long xs ys t x y h.long;
    }

other : (a b : Bool) → (a || b) ≡ true → b ≡ false → a ≡ true
other true b h e = refl
other false true h e = sym e
other false false h e = h

agree-set : {A : Type 0} (on : ℕ → Bool) (xs ys : List (Option A)) (t : ℕ) (x : Option A) → Agree on xs ys
    → Agree (λ v. on v || nat_eq v t) (slice_set xs t x) (slice_set ys t x)
agree-set on xs ys t x h =
    record {
      at = λ v e. set_both xs ys h.long t v x x (λ same. refl) (λ n. h.at v
          (other (on v) (nat_eq v t) e (ne_eqb v t n)));
      long = both_long xs ys t x x h.long;
    }

agree-less : {A : Type 0} (on less : ℕ → Bool) (xs ys : List (Option A)) → ((t : ℕ) → less t ≡ true → on t ≡ true)
    → Agree on xs ys
    → Agree less xs ys
agree-less on less xs ys k h = record { at = λ t e. h.at t (k t e); long = h.long }

-- contexts that agree, with the same handlers
pub record Both {A : Type 0} (on : ℕ → Bool) (cs ds : Contexts A) : Type 0 where
  pub tasks : Agree on cs.tasks ds.tasks
  pub handlers : cs.handlers ≡ ds.handlers

plainly : (a : Bool) → (a || false) ≡ true → a ≡ true
plainly true h = refl
plainly false h = h

module _ {C : Type 0} (sys : SystemTables) (M : Meaning C) (on : ℕ → Bool) where
  unstarted : (xs ys : List (Option (Held C))) → Agree on xs ys → Agree (λ t. on t || false) xs ys
  unstarted xs ys h = agree-less on (λ t. on t || false) xs ys (λ t e. plainly (on t) e) h

  -- task t is told a reply
  told-agrees : (xs ys : List (Option (Held C))) (t : ℕ) (reply : Reply) → Agree on xs ys
      → Agree (λ v. on v || false) (slice_set xs t (told M (task_body sys t) reply (context_at xs t)))
      (slice_set ys t (told M (task_body sys t) reply (context_at ys t)))
  told-agrees xs ys t reply h =
      unstarted _ _ (agree-update on xs ys t _ _ h
      (λ e. ap (λ (c : Option (Held C)). told M (task_body sys t) reply c) (h.at t e)))

  line-agrees : (l : Line) (hs : List (Option (HandlerContext (Held C)))) (xs ys : List (Option (Held C)))
      → Agree on xs ys
      → Both (λ t. on t || starts_by t l) (contexts_after sys M (record { tasks = xs; handlers = hs }) l)
      (contexts_after sys M (record { tasks = ys; handlers = hs }) l)
  line-agrees (line.Starts p t) hs xs ys h = record { tasks = agree-set on xs ys t _ h; handlers = refl }
  line-agrees (line.Gets p t reply) hs xs ys h = record { tasks = told-agrees xs ys t reply h; handlers = refl }
  line-agrees (line.Call p (caller.Task t) c (Some reply)) hs xs ys h = record {
    tasks = told-agrees xs ys t reply h;
    handlers = refl;
  }
  line-agrees (line.Call p (caller.Handler i) c (Some reply)) hs xs ys h = record {
    tasks = unstarted xs ys h;
    handlers = refl;
  }
  line-agrees (line.Call p who c None) hs xs ys h = record { tasks = unstarted xs ys h; handlers = refl }
  line-agrees (line.Begins p i) hs xs ys h = record { tasks = unstarted xs ys h; handlers = refl }
  line-agrees l hs xs ys h = record { tasks = unstarted xs ys h; handlers = refl }

  after-agrees : (l : Line) (cs ds : Contexts (Held C)) → Both on cs ds
      → Both (λ t. on t || starts_by t l) (contexts_after sys M cs l) (contexts_after sys M ds l)
  after-agrees l cs ds b =
      subst (λ (hs : List (Option (HandlerContext (Held C)))). Both (λ t. on t || starts_by t l)
      (contexts_after sys M cs l)
      (contexts_after sys M (record { tasks = ds.tasks; handlers = hs }) l)) b.handlers
      (line-agrees l cs.handlers cs.tasks ds.tasks b.tasks)

  -- the caller on p has this context now
  pub with_context-agrees : (cs ds : Contexts (Held C)) (p : ℕ) (who : Caller) (c : Option (Held C)) → Both on cs ds
      → Both on (with_context cs p who c) (with_context ds p who c)
  with_context-agrees cs ds p (caller.Task t) c b =
      record { tasks = agree-update on cs.tasks ds.tasks t c c b.tasks (λ e. refl); handlers = b.handlers }
  with_context-agrees cs ds p (caller.Handler i) c b =
      record {
        tasks = b.tasks;
        handlers = ap (λ (hs : List (Option (HandlerContext (Held C)))). slice_set hs p
            (context_for (body_in (context_at hs p)) c))
            b.handlers;
      }

  pub ended-agrees : (cs ds : Contexts (Held C)) (p : ℕ) (who : Caller) → Both on cs ds
      → Both on (contexts_ended sys M cs p who) (contexts_ended sys M ds p who)
  ended-agrees cs ds p (caller.Task t) b =
      record { tasks = agree-update on cs.tasks ds.tasks t _ _ b.tasks (λ e. refl); handlers = b.handlers }
  ended-agrees cs ds p (caller.Handler i) b =
      record {
        tasks = b.tasks;
        handlers = ap (λ (hs : List (Option (HandlerContext (Held C)))). slice_set hs p None) b.handlers;
      }

  -- the caller is a handler, or a task of which the same is kept
  abbrev pub IsOn : Caller → Type 0
  IsOn (caller.Task t) = on t ≡ true
  IsOn (caller.Handler i) = Unit {0}

  pub context_of-agrees : (cs ds : Contexts (Held C)) (p : ℕ) (who : Caller) → Both on cs ds → IsOn who
      → context_of cs p who ≡ context_of ds p who
  context_of-agrees cs ds p (caller.Task t) b e = b.tasks.at t e
  context_of-agrees cs ds p (caller.Handler i) b e =
      ap (λ (hs : List (Option (HandlerContext (Held C)))). context_in (context_at hs p)) b.handlers

  pub body-agrees : (cs ds : Contexts (Held C)) (p : ℕ) (who : Caller) → Both on cs ds
      → caller_body sys cs p who ≡ caller_body sys ds p who
  body-agrees cs ds p (caller.Task t) b = refl
  body-agrees cs ds p (caller.Handler i) b =
      ap (λ (hs : List (Option (HandlerContext (Held C)))). body_in (context_at hs p)) b.handlers

grouped : (a b c : Bool) → (a || (b || c)) ≡ true → ((a || b) || c) ≡ true
grouped true b c h = refl
grouped false b c h = h

-- after all lines they agree on these tasks, and on those that a line starts
pub all-agree : {C : Type 0} (sys : SystemTables) (M : Meaning C) (on : ℕ → Bool) (ls : List Line)
    (cs ds : Contexts (Held C)) → Both on cs ds
    → Both (λ t. on t || starts t ls) (contexts_after_all sys M cs ls) (contexts_after_all sys M ds ls)
all-agree sys M on [] cs ds b =
    record {
      tasks = agree-less on (λ t. on t || false) cs.tasks ds.tasks (λ t e. plainly (on t) e) b.tasks;
      handlers = b.handlers;
    }
all-agree sys M on (l ∷ ls) cs ds b =
    let r = all-agree sys M (λ t. on t || starts_by t l) ls (contexts_after sys M cs l) (contexts_after sys M ds l)
    (after-agrees sys M on l cs ds b) in
    record {
      tasks = agree-less (λ t. (on t || starts_by t l) || starts t ls) (λ t. on t || (starts_by t l || starts t ls)) _ _
          (λ t e. grouped (on t) (starts_by t l) (starts t ls) e) r.tasks;
      handlers = r.handlers;
    }
