-- Stamps that are counted once more, and what is seen of a kernel then.
use Rattle.std.proofs.Common.{◌≡◌, ℕ, zero, suc, ◌+◌, ◌<◌, ◌≤◌, ◌^◌, List, [], ◌∷◌, Option, Some, None, Bool, true}
use Rattle.std.proofs.Common.{false, ◌||◌, not, nat_lt, length, map, replicate, get_or, refl, sym, ap, ◌∙◌, arith}
use Rattle.std.proofs.Math.ListN.{get_or-eq_default}
use Rattle.std.proofs.lemmas.Bool.Decides.{nat_tests}
use Rattle.std.proofs.lemmas.List.{ext_get_or, length-replicate}
use Rattle.fmp_base.specs.declared.events.Effect.TheVariants as effect
use Rattle.fmp_base.specs.declared.events.Event.{Event}
use Rattle.fmp_base.specs.declared.events.Line.{Line}
use Rattle.fmp_base.specs.declared.states.Caller.{Caller}
use Rattle.fmp_base.specs.declared.states.Caller.TheVariants as caller
use Rattle.fmp_base.specs.declared.states.Handler.{Handler}
use Rattle.fmp_base.specs.declared.states.Handler.TheVariants as handler
use Rattle.fmp_base.specs.Meanings.{Meaning}
use Rattle.fmp_base.specs.Settles.{is_same_task}
use Rattle.fmp_base.specs.Setups.{setup}
use Rattle.fmp_base.specs.States.{KernelState, processor_at, places_from}
use Rattle.fmp_base.specs.Steps.{Done, Reaction, Nothing, Did, Kept, effect_of, actor_of, step}
use Rattle.fmp_base.specs.Systems.{SystemTables}
use Rattle.fmp_worlds.specs.Stamps.{counts as counts_for, is_same_actor, is_same_caller, is_same_handler, one_if}
use Rattle.fmp_worlds.specs.Stamps.{place_run, run_place, counted, stamp, world_after}
use Rattle.fmp_kernel.specs.KernelViews.{RunnerView, KernelView, SameBodies, done_of, done_or, kernel_of, view_after}
use Rattle.fmp_kernel.specs.KernelViews.{view_after_all, view_of_setup}
use Rattle.fmp_kernel.proofs.FrontLemmas.{Names, RanOn, step_names}
use Rattle.fmp_kernel.specs.Stamps.{AreCounted, AreStamps, none_if, stamped, stamped_by, times_counted, times_given}

pub get-places : (f : ℕ → ℕ) (k n i : ℕ) → i < n → get_or (map f (places_from k n)) i 0 ≡ f (k + i)
get-places f k zero i h = absurd (omega (arith, h))
get-places f k (suc n) zero h = let e : k ≡ k + 0 = omega arith in ap f e
get-places f k (suc n) (suc i) h =
    let e : k + 1 + i ≡ k + suc i = omega arith in
    get-places f (k + 1) n i (omega (arith, h)) ∙ ap f e

get_or-same : (n i k : ℕ) → get_or (replicate n k) i k ≡ k
get_or-same zero i k = refl
get_or-same (suc n) zero k = refl
get_or-same (suc n) (suc i) k = get_or-same n i k

pub length-places : (f : ℕ → ℕ) (k n : ℕ) → length (map f (places_from k n)) ≡ n
length-places f k zero = refl
length-places f k (suc n) = let h = length-places f (k + 1) n in omega (arith, h)

-- the stamp of a processor after an event that ran this one, if any, and led from s to u
stamped_at : (ran : Option ℕ) (s u : KernelState) (stamps : List ℕ) (p : ℕ) → p < length stamps
    → get_or (stamped_by ran s u stamps) p 0 ≡ get_or stamps p 0 + one_if (counts_for ran s u p)
stamped_at ran s u stamps p h =
    let z : 0 + p ≡ p = omega arith in get-places f 0 (length stamps) p h ∙ ap f z where
      f : ℕ → ℕ
      f q = get_or stamps q 0 + one_if (counts_for ran s u q)

stamped_long : (ran : Option ℕ) (s u : KernelState) (stamps : List ℕ) → length (stamped_by ran s u stamps)
    ≡ length stamps
stamped_long ran s u stamps = length-places (λ q. get_or stamps q 0 + one_if (counts_for ran s u q)) 0 (length stamps)

small : (b : Bool) → one_if b ≤ 1
small true = omega arith
small false = omega arith

own_handler : (h : Handler) → is_same_handler h h ≡ true
own_handler (handler.Interrupt i) = grind (arith, nat_tests)
own_handler (handler.Cyclic c) = grind (arith, nat_tests)

pub own_actor : (a : Option Caller) → is_same_actor a a ≡ true
own_actor None = refl
own_actor (Some (caller.Task t)) = grind (arith, nat_tests)
own_actor (Some (caller.Handler h)) = own_handler h

-- how often a change from s to u gives q another actor
abbrev pub changes : ℕ → KernelState → KernelState → ℕ
changes q s u = one_if (not (is_same_actor (actor_of (processor_at s q)) (actor_of (processor_at u q))))

-- where the lines tell which processors have another actor, they are counted as the states are
times_is : (ran : Option ℕ) (s u : KernelState) (lines : List Line) (q : ℕ)
    → (is_same_task ran (Some q) ≡ false → times_given q lines ≡ changes q s u)
    → times_counted ran lines q ≡ one_if (counts_for ran s u q)
times_is ran s u lines q h = by_test (is_same_task ran (Some q)) refl where
  by_test : (b : Bool) → is_same_task ran (Some q) ≡ b → times_counted ran lines q ≡ one_if (counts_for ran s u q)
  by_test true e =
      let left : times_counted ran lines q ≡ 1 = ap (λ (b : Bool). one_if b + none_if b (times_given q lines)) e in
      let right : one_if (counts_for ran s u q) ≡ 1 =
      ap (λ (b : Bool). one_if (b || not (is_same_actor (actor_of (processor_at s q)) (actor_of (processor_at u q)))))
      e in
      left ∙ sym right
  by_test false e =
      let left : times_counted ran lines q ≡ one_if false + none_if false (times_given q lines) =
      ap (λ (b : Bool). one_if b + none_if b (times_given q lines)) e in
      let right : one_if (counts_for ran s u q) ≡ changes q s u =
      ap (λ (b : Bool). one_if (b || not (is_same_actor (actor_of (processor_at s q)) (actor_of (processor_at u q)))))
      e in
      let told : times_given q lines ≡ changes q s u = h e in
      omega (arith, left, right, told)

-- the stamps that were counted by these lines are those after the event
pub stamped_is : (old new : List ℕ) (ran : Option ℕ) (s u : KernelState) (lines : List Line)
    → ((q : ℕ) → is_same_task ran (Some q) ≡ false → times_given q lines ≡ changes q s u)
    → AreCounted old new ran lines → new ≡ stamped_by ran s u old
stamped_is old new ran s u lines h c =
    ext_get_or 0 new (stamped_by ran s u old) (c.long ∙ sym (stamped_long ran s u old)) each where
      each : (i : ℕ) → i < length new → get_or new i 0 ≡ get_or (stamped_by ran s u old) i 0
      each i l =
          let inside : i < length old = omega (arith, l, c.long) in
          c.each i inside ∙ ap (λ (n : ℕ). get_or old i 0 + n) (times_is ran s u lines i (h i))
          ∙ sym (stamped_at ran s u old i inside)

-- and those after an event that kept a place
pub kept_is : (old new : List ℕ) (ran : Option ℕ) (s u : KernelState) → u ≡ s → AreCounted old new ran [] → new
    ≡ stamped_by ran s u old
kept_is old new ran s u e c = stamped_is old new ran s u [] (λ q f. sym (none q)) c where
  none : (q : ℕ) → changes q s u ≡ zero
  none q =
      ap (λ (v : KernelState). changes q s v) e ∙ ap (λ (b : Bool). one_if (not b))
      (own_actor (actor_of (processor_at s q)))

-- stamps that are all 0
pub stamps_begin : (stamps : List ℕ) (processors : ℕ) → stamps ≡ replicate processors 0 → AreStamps stamps processors 0
stamps_begin stamps processors e =
    record { many = ap (λ (xs : List ℕ). length xs) e ∙ length-replicate processors 0; few = none } where
      none : (p : ℕ) → get_or stamps p 0 ≤ 0
      none p =
          let zero_here : ℕ = 0 in
          let h : get_or stamps p 0 ≡ zero_here = ap (λ (xs : List ℕ). get_or xs p 0) e ∙ get_or-same processors p 0 in
          omega (arith, h)

pub below : (stamps : List ℕ) (processors taken : ℕ) → AreStamps stamps processors taken → taken < 2 ^ 31 → (p : ℕ)
    → get_or stamps p 0 < 2 ^ 31
below stamps processors taken a l p = let h = a.few p in omega (arith, h, l)

pub stamps_after : (old new : List ℕ) (processors taken : ℕ) (ran : Option ℕ) (s u : KernelState)
    → AreStamps old processors taken
    → new ≡ stamped_by ran s u old → AreStamps new processors (taken + 1)
stamps_after old new processors taken ran s u a e =
    record { many = long ∙ a.many; few = λ p. by_test p (nat_lt p (length old)) refl } where
      long : length new ≡ length old
      long = ap (λ (xs : List ℕ). length xs) e ∙ stamped_long ran s u old

      by_test : (p : ℕ) (t : Bool) → nat_lt p (length old) ≡ t → get_or new p 0 ≤ taken + 1
      by_test p true t =
          let l : p < length old = grind (arith, nat_tests, t) in
          let h : get_or new p 0 ≡ get_or old p 0 + one_if (counts_for ran s u p) =
          ap (λ (xs : List ℕ). get_or xs p 0) e ∙ stamped_at ran s u old p l in
          let k = a.few p in
          let one = small (counts_for ran s u p) in
          omega (arith, h, k, one)
      by_test p false t =
          let l : length new ≤ p = grind (arith, nat_tests, t, long) in
          let h = get_or-eq_default new 0 l in
          omega (arith, h)

-- a kernel by what its last event left
abbrev made : {B C : Type 0} → B → ℕ → SystemTables → Done C → List ℕ → ℕ → ℕ → KernelView B C
made body bound system d stamps done taken =
    record {
      body = body;
      bound = bound;
      system = system;
      world = d.world;
      lines = d.lines;
      done = done;
      taken = taken;
      stamps = stamps;
    }

same_made : {B C : Type 0} (old new : RunnerView B C) (d : Done C) (stamps : List ℕ) (n m : ℕ) → SameBodies old new
    → done_of new ≡ d
    → kernel_of new stamps n m ≡ made old.body old.bound old.system d stamps n m
same_made {B} {C} old new d stamps n m b h =
    ap (λ (x : B). made x new.bound new.system (done_of new) stamps n m) b.body
    ∙ ap (λ (x : ℕ). made old.body x new.system (done_of new) stamps n m) b.bound
    ∙ ap (λ (x : SystemTables). made old.body old.bound x (done_of new) stamps n m) b.system
    ∙ ap (λ (x : Done C). made old.body old.bound old.system x stamps n m) h

-- what is seen of a kernel after an event that is done
pub view_done : {B C : Type 0} (x : Reaction C) (old new : RunnerView B C) (stamps later : List ℕ) (n m : ℕ)
    → effect.Done ≡ effect_of x
    → done_of new ≡ done_or (done_of old) x → SameBodies old new → later
    ≡ stamped new.lines old.world.state new.world.state stamps
    → kernel_of new later (n + 1) (m + 1) ≡ view_after (kernel_of old stamps n m) x
view_done Nothing old new stamps later n m e h b k = absurd (cc e)
view_done {B} {C} (Did d) old new stamps later n m e h b k =
    let same : later ≡ stamped d.lines old.world.state d.world.state stamps =
    k ∙ ap (λ (f : Done C). stamped f.lines old.world.state f.world.state stamps) h in
    same_made old new d later (n + 1) (m + 1) b h
    ∙ ap (λ (l : List ℕ). made old.body old.bound old.system d l (n + 1) (m + 1)) same
view_done (Kept p w) old new stamps later n m e h b k = absurd (cc e)

-- after one that kept a place
pub view_kept : {B C : Type 0} (x : Reaction C) (old new : RunnerView B C) (stamps later : List ℕ) (n m : ℕ)
    (ran : Option ℕ)
    → effect.Kept ≡ effect_of x → RanOn ran x → done_of new ≡ done_or (done_of old) x → SameBodies old new
    → later ≡ stamped_by ran old.world.state new.world.state stamps
    → kernel_of new later n (m + 1) ≡ view_after (kernel_of old stamps n m) x
view_kept Nothing old new stamps later n m ran e o h b k = absurd (cc e)
view_kept (Did d) old new stamps later n m ran e o h b k = absurd (cc e)
view_kept {B} {C} (Kept p w) old new stamps later n m ran e o h b k =
    let d : Done C = record (done_of old) { world = w } in
    let same : later ≡ stamped_by (Some p) old.world.state w.state stamps =
    k ∙ ap (λ (f : Done C). stamped_by ran old.world.state f.world.state stamps) h
    ∙ ap (λ (q : Option ℕ). stamped_by q old.world.state w.state stamps) o in
    same_made old new d later n (m + 1) b h ∙ ap (λ (l : List ℕ). made old.body old.bound old.system d l n (m + 1)) same

-- and after one that did nothing
pub view_same : {B C : Type 0} (x : Reaction C) (old new : RunnerView B C) (stamps : List ℕ) (n m : ℕ)
    → effect.Nothing ≡ effect_of x
    → done_of new ≡ done_or (done_of old) x → SameBodies old new → kernel_of new stamps n m ≡ kernel_of old stamps n m
view_same Nothing old new stamps n m e h b = same_made old new (done_of old) stamps n m b h
view_same (Did d) old new stamps n m e h b = absurd (cc e)
view_same (Kept p w) old new stamps n m e h b = absurd (cc e)

view_nothing_by : {B C : Type 0} (x : Reaction C) (k : KernelView B C) → effect.Nothing ≡ effect_of x → k
    ≡ view_after k x
view_nothing_by Nothing k e = refl
view_nothing_by (Did d) k e = absurd (cc e)
view_nothing_by (Kept p w) k e = absurd (cc e)

pub view_nothing : {B C : Type 0} (x : Reaction C) (old new : RunnerView B C) (stamps : List ℕ) (n m : ℕ)
    → effect.Nothing ≡ effect_of x
    → done_of new ≡ done_or (done_of old) x → SameBodies old new → kernel_of new stamps n m
    ≡ view_after (kernel_of old stamps n m) x
view_nothing x old new stamps n m e h b = view_same x old new stamps n m e h b
    ∙ view_nothing_by x (kernel_of old stamps n m) e

-- the stamp of a processor after events counts those that ran it or left it another actor
more_counted : {B C : Type 0} (meaning : B → Meaning C) (k : KernelView B C) (e : Event) (es : List Event) (p : ℕ)
    (r : Reaction C) → p < length k.stamps
    → Names (run_place e) r
    → ((v : KernelView B C) → p < length v.stamps
    → get_or (view_after_all meaning v es).stamps p 0 ≡ get_or v.stamps p 0
    + stamp v.system (meaning v.body) v.bound v.world es p)
    → get_or (view_after_all meaning (view_after k r) es).stamps p 0
    ≡ get_or k.stamps p 0 + (counted e k.world r p + stamp k.system (meaning k.body) k.bound
    (world_after k.world r) es p)
more_counted meaning k e es p Nothing h n ih = let same = ih k h in omega (arith, same)
more_counted {B} {C} meaning k e es p (Did d) h n ih =
    let s : KernelState = k.world.state in
    let u : KernelState = d.world.state in
    let after : List ℕ = stamped_by (place_run d.lines) s u k.stamps in
    let long : length after ≡ length k.stamps = stamped_long (place_run d.lines) s u k.stamps in
    let here : get_or after p 0 ≡ get_or k.stamps p 0 + one_if (counts_for (run_place e) s u p) =
    stamped_at (place_run d.lines) s u k.stamps p h
    ∙ ap (λ (o : Option ℕ). get_or k.stamps p 0 + one_if (counts_for o s u p)) n in
    let rest : ℕ = stamp k.system (meaning k.body) k.bound d.world es p in
    let sum : get_or (view_after_all meaning (view_after k (Did d)) es).stamps p 0 ≡ get_or after p 0 + rest =
    ih (view_after k (Did d)) (omega (arith, h, long)) in
    omega (arith, sum, here)
more_counted {B} {C} meaning k e es p (Kept q w) h n ih =
    let s : KernelState = k.world.state in
    let u : KernelState = w.state in
    let after : List ℕ = stamped_by (Some q) s u k.stamps in
    let long : length after ≡ length k.stamps = stamped_long (Some q) s u k.stamps in
    let here : get_or after p 0 ≡ get_or k.stamps p 0 + one_if (counts_for (run_place e) s u p) =
    stamped_at (Some q) s u k.stamps p h
    ∙ ap (λ (o : Option ℕ). get_or k.stamps p 0 + one_if (counts_for o s u p)) (sym n) in
    let rest : ℕ = stamp k.system (meaning k.body) k.bound w es p in
    let sum : get_or (view_after_all meaning (view_after k (Kept q w)) es).stamps p 0 ≡ get_or after p 0 + rest =
    ih (view_after k (Kept q w)) (omega (arith, h, long)) in
    omega (arith, sum, here)

pub all_counted : {B C : Type 0} (meaning : B → Meaning C) (k : KernelView B C) (es : List Event) (p : ℕ)
    → p < length k.stamps
    → get_or (view_after_all meaning k es).stamps p 0 ≡ get_or k.stamps p 0
    + stamp k.system (meaning k.body) k.bound k.world es p
all_counted meaning k [] p h = omega arith
all_counted meaning k (e ∷ es) p h =
    more_counted meaning k e es p (step k.system (meaning k.body) k.bound k.world e) h
    (step_names k.system (meaning k.body) k.bound k.world e) (λ v l. all_counted meaning v es p l)

-- the same from setup, where all are 0
pub counted_from_setup : {B C : Type 0} (meaning : B → Meaning C) (body : B) (n : ℕ) (sys : SystemTables)
    (es : List Event) (p : ℕ) → p < sys.processors
    → get_or (view_after_all meaning (view_of_setup body n sys (setup sys (meaning body))) es).stamps p 0
    ≡ stamp sys (meaning body) n (setup sys (meaning body)).world es p
counted_from_setup meaning body n sys es p h =
    let zeros : List ℕ = replicate sys.processors 0 in
    let long : length zeros ≡ sys.processors = length-replicate sys.processors 0 in
    let none : ℕ = 0 in
    let zero_at : get_or zeros p 0 ≡ none = get_or-same sys.processors p 0 in
    let all = all_counted meaning (view_of_setup body n sys (setup sys (meaning body))) es p (omega (arith, h, long)) in
    omega (arith, all, zero_at)
