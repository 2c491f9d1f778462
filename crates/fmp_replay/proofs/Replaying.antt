-- The replay of one more event.
use Rattle.std.proofs.Common.{◌≡◌, ℕ, ◌+◌, ◌<◌, ◌≤◌, List, [], ◌∷◌, ◌++◌, Some, length, map, get_or, refl, ap, ◌∙◌, sym}
use Rattle.std.proofs.Common.{arith, length-append}
use Rattle.fmp_base.specs.declared.events.Event.{Event}
use Rattle.fmp_base.specs.Meanings.{Meaning, World}
use Rattle.fmp_base.specs.Runs.{done_events, done_on, run, run_on, taken_events, taken_on}
use Rattle.fmp_base.specs.Setups.{setup}
use Rattle.fmp_base.specs.States.{places_from}
use Rattle.fmp_base.specs.Steps.{Done, Reaction, step, Nothing, Did, Kept, IsTaken}
use Rattle.fmp_base.specs.Systems.{SystemTables}
use Rattle.fmp_instructions.specs.declared.instructions.MachineContext.{MachineContext}
use Rattle.fmp_instructions.specs.Instructions.{BodyTables}
use Rattle.fmp_instructions.specs.Machine.{code_meaning}
use Rattle.fmp_image_bytes.specs.Images.{ImageTables}
use Rattle.fmp_kernel.specs.KernelViews.{KernelView, done_or, view_after, view_of_setup}
use Rattle.fmp_kernel.specs.Stamps.{stamped, stamped_by}
use Rattle.fmp_kernel.proofs.StampLists.{kept-stamps, stamp-at, stamped-stamps, stamps-none}
use Rattle.fmp_worlds.specs.Stamps.{stamp}
use Rattle.fmp_replay.specs.Replays.{IsLegal, done_after, done_count, kernel_after, reaction, replay, stamps_after}

-- how many are done of one event
abbrev one_of : {C : Type 0} → Reaction C → ℕ
one_of Nothing = 0
one_of (Did d) = 1
one_of (Kept p v) = 0

module _ {C : Type 0} (sys : SystemTables) (M : Meaning C) (bound : ℕ) where
  after_last : (d : Done C) (es : List Event) (e : Event)
      → done_after sys M bound d (es ++ e ∷ []) ≡ done_or (done_after sys M bound d es)
      (step sys M bound (done_after sys M bound d es).world e)
  after_last d [] e = refl
  after_last d (x ∷ es) e = after_last (done_or d (step sys M bound d.world x)) es e

  -- its world is that of the run
  done-world : (d : Done C) (es : List Event) → (done_after sys M bound d es).world ≡ (run sys M bound d.world es).world
  done-world d [] = refl
  done-world d (e ∷ es) = by_reaction (step sys M bound d.world e) (λ n. done-world n es) where
    by_reaction : (x : Reaction C) → ((n : Done C) → (done_after sys M bound n es).world
        ≡ (run sys M bound n.world es).world)
        → (done_after sys M bound (done_or d x) es).world ≡ (run_on d.world x (λ v. run sys M bound v es)).world
    by_reaction Nothing rest = rest d
    by_reaction (Did n) rest = rest n
    by_reaction (Kept p v) rest = rest (record d { world = v })

  on_first : (d : Done C) (x : Event) (es : List Event) (e : Event) (r : Reaction C)
      → ((n : Done C) → done_events sys M bound n.world (es ++ e ∷ []) ≡ done_events sys M bound n.world es
      ++ done_events sys M bound (done_after sys M bound n es).world (e ∷ []))
      → done_on d.world x r (λ v. done_events sys M bound v (es ++ e ∷ []))
      ≡ done_on d.world x r (λ v. done_events sys M bound v es)
      ++ done_events sys M bound (done_after sys M bound (done_or d r) es).world (e ∷ [])
  on_first d x es e Nothing h = h d
  on_first d x es e (Did n) h = ap (λ (xs : List Event). x ∷ xs) (h n)
  on_first d x es e (Kept p v) h = h (record d { world = v })

  done_last : (d : Done C) (es : List Event) (e : Event)
      → done_events sys M bound d.world (es ++ e ∷ []) ≡ done_events sys M bound d.world es
      ++ done_events sys M bound (done_after sys M bound d es).world (e ∷ [])
  done_last d [] e = refl
  done_last d (x ∷ es) e = on_first d x es e (step sys M bound d.world x) (λ n. done_last n es e)

  taken_first : (d : Done C) (x : Event) (es : List Event) (e : Event) (r : Reaction C)
      → ((n : Done C) → taken_events sys M bound n.world (es ++ e ∷ []) ≡ taken_events sys M bound n.world es
      ++ taken_events sys M bound (done_after sys M bound n es).world (e ∷ []))
      → taken_on d.world x r (λ v. taken_events sys M bound v (es ++ e ∷ []))
      ≡ taken_on d.world x r (λ v. taken_events sys M bound v es)
      ++ taken_events sys M bound (done_after sys M bound (done_or d r) es).world (e ∷ [])
  taken_first d x es e Nothing h = h d
  taken_first d x es e (Did n) h = ap (λ (xs : List Event). x ∷ xs) (h n)
  taken_first d x es e (Kept p v) h = ap (λ (xs : List Event). x ∷ xs) (h (record d { world = v }))

  taken_last : (d : Done C) (es : List Event) (e : Event)
      → taken_events sys M bound d.world (es ++ e ∷ []) ≡ taken_events sys M bound d.world es
      ++ taken_events sys M bound (done_after sys M bound d es).world (e ∷ [])
  taken_last d [] e = refl
  taken_last d (x ∷ es) e = taken_first d x es e (step sys M bound d.world x) (λ n. taken_last n es e)

  one_taken : (w : World C) (e : Event) (r : Reaction C) → IsTaken r → taken_on w e r (λ v. []) ≡ e ∷ []
  one_taken w e Nothing t = absurd t
  one_taken w e (Did d) t = refl
  one_taken w e (Kept p v) t = refl

  all_taken : (d : Done C) (es : List Event) (e : Event) (r : Reaction C) → taken_events sys M bound d.world es ≡ es
      → step sys M bound (done_after sys M bound d es).world e ≡ r → IsTaken r
      → taken_events sys M bound d.world (es ++ e ∷ []) ≡ es ++ e ∷ []
  all_taken d es e r all h t =
      taken_last d es e
      ∙ ap (λ (xs : List Event). xs ++ taken_events sys M bound (done_after sys M bound d es).world (e ∷ [])) all
      ∙ ap (λ (x : Reaction C). es ++ taken_on (done_after sys M bound d es).world e x (λ v. [])) h
      ∙ ap (λ (xs : List Event). es ++ xs) (one_taken (done_after sys M bound d es).world e r t)

  one_done : (w : World C) (e : Event) (r : Reaction C) → length (done_on w e r (λ v. [])) ≡ one_of r
  one_done w e Nothing = refl
  one_done w e (Did d) = refl
  one_done w e (Kept p v) = refl

  more_done : (d : Done C) (es : List Event) (e : Event) (r : Reaction C)
      → step sys M bound (done_after sys M bound d es).world e ≡ r
      → length (done_events sys M bound d.world es) + one_of r ≡ length (done_events sys M bound d.world (es ++ e ∷ []))
  more_done d es e r h =
      let w : World C = (done_after sys M bound d es).world in
      let all : length (done_events sys M bound d.world (es ++ e ∷ []))
      ≡ length (done_events sys M bound d.world es ++ done_on w e (step sys M bound w e) (λ v. [])) =
      ap (λ (xs : List Event). length xs) (done_last d es e) in
      let both = length-append (done_events sys M bound d.world es) (done_on w e (step sys M bound w e) (λ v. [])) in
      let one : length (done_on w e (step sys M bound w e) (λ v. [])) ≡ one_of r =
      one_done w e (step sys M bound w e) ∙ ap (λ (x : Reaction C). one_of x) h in
      omega (arith, all, both, one)

  few_on : (w : World C) (x : Event) (r : Reaction C) (n : ℕ) (rest : World C → List Event)
      → ((v : World C) → length (rest v) ≤ n)
      → length (done_on w x r rest) ≤ n + 1
  few_on w x Nothing n rest h = let few = h w in omega (arith, few)
  few_on w x (Did d) n rest h = let few = h d.world in omega (arith, few)
  few_on w x (Kept p v) n rest h = let few = h v in omega (arith, few)

  few_done : (w : World C) (es : List Event) → length (done_events sys M bound w es) ≤ length es
  few_done w [] = omega arith
  few_done w (x ∷ es) =
      let few = few_on w x (step sys M bound w x) (length es) (λ v. done_events sys M bound v es)
      (λ v. few_done v es) in omega (arith, few)

-- the kernel after setup is the replay of no event
pub setup_replays : (i : ImageTables) (n : ℕ) → view_of_setup i.code n i.system (setup i.system (code_meaning i.code))
    ≡ kernel_after i n []
unfolding replay done_count stamps_after
setup_replays i n =
    let d = setup i.system (code_meaning i.code) in
    let with : List ℕ → KernelView (List BodyTables) MachineContext =
    λ xs. record {
      body = i.code;
      bound = n;
      system = i.system;
      world = d.world;
      lines = d.lines;
      done = 0;
      taken = 0;
      stamps = xs;
    } in
    ap with (stamps-none i.system (code_meaning i.code) n d.world i.system.processors)

pub begun : (i : ImageTables) (n : ℕ) (code : List BodyTables) (system : SystemTables)
    (k : KernelView (List BodyTables) MachineContext) → code ≡ i.code → system ≡ i.system
    → k ≡ view_of_setup code n system (setup system (code_meaning code)) → k ≡ kernel_after i n []
begun i n code system k code_is system_is is =
    is
    ∙ ap (λ (xs : List BodyTables). view_of_setup xs n system (setup system (code_meaning xs))) code_is
    ∙ ap (λ (t : SystemTables). view_of_setup i.code n t (setup t (code_meaning i.code))) system_is ∙ setup_replays i n

pub none_legal : (i : ImageTables) (n : ℕ) → IsLegal i n []
none_legal i n = record { all_taken = refl }

-- the step of a kernel that is a replay
pub step_of_replay : (i : ImageTables) (n : ℕ) (es : List Event) (e : Event)
    (k : KernelView (List BodyTables) MachineContext)
    → k ≡ kernel_after i n es → step k.system (code_meaning k.body) k.bound k.world e ≡ reaction i n es e
unfolding reaction
step_of_replay i n es e k h = ap (λ (v : KernelView (List BodyTables) MachineContext). step v.system
    (code_meaning v.body) v.bound v.world e) h

-- one more event, in its place
pub replay_last : (i : ImageTables) (n : ℕ) (es : List Event) (e : Event) → replay i n (es ++ e ∷ [])
    ≡ done_or (replay i n es) (reaction i n es e)
unfolding replay reaction
replay_last i n es e = after_last i.system (code_meaning i.code) n (setup i.system (code_meaning i.code)) es e

-- the world of a replay is that of the run
pub world_of : (i : ImageTables) (n : ℕ) (es : List Event)
    → (replay i n es).world ≡ (run i.system (code_meaning i.code) n (setup i.system (code_meaning i.code)).world
    es).world
unfolding replay
world_of i n es = done-world i.system (code_meaning i.code) n (setup i.system (code_meaning i.code)) es

-- the stamp of a processor after a replay
pub stamp_of : (i : ImageTables) (n : ℕ) (es : List Event) (p : ℕ) → p < i.system.processors
    → get_or (stamps_after i n es) p 0 ≡ stamp i.system (code_meaning i.code) n
    (setup i.system (code_meaning i.code)).world es p
unfolding stamps_after
stamp_of i n es p l = stamp-at i.system (code_meaning i.code) n (setup i.system (code_meaning i.code)).world es
    i.system.processors p l

-- the stamps after one more event that is done
stamps_follow : (i : ImageTables) (n : ℕ) (es : List Event) (e : Event) (d : Done MachineContext) → reaction i n es e
    ≡ Did d
    → stamped d.lines (replay i n es).world.state d.world.state (stamps_after i n es) ≡ stamps_after i n (es ++ e ∷ [])
unfolding reaction stamps_after
stamps_follow i n es e d h =
    let sys = i.system in
    let M = code_meaning i.code in
    let w = (setup sys M).world in
    let was : List ℕ = map (stamp sys M n w es) (places_from 0 sys.processors) in
    ap (λ (v : World MachineContext). stamped d.lines v.state d.world.state was) (world_of i n es)
    ∙ stamped-stamps sys M n w es e d sys.processors (ap (λ (v : World MachineContext). step sys M n v e)
    (sym (world_of i n es)) ∙ h)

-- and after one that keeps a place
stamps_kept : (i : ImageTables) (n : ℕ) (es : List Event) (e : Event) (p : ℕ) (v : World MachineContext)
    → reaction i n es e ≡ Kept p v
    → stamped_by (Some p) (replay i n es).world.state v.state (stamps_after i n es) ≡ stamps_after i n (es ++ e ∷ [])
unfolding reaction stamps_after
stamps_kept i n es e p v h =
    let sys = i.system in
    let M = code_meaning i.code in
    let w = (setup sys M).world in
    let was : List ℕ = map (stamp sys M n w es) (places_from 0 sys.processors) in
    ap (λ (u : World MachineContext). stamped_by (Some p) u.state v.state was) (world_of i n es)
    ∙ kept-stamps sys M n w es e p v sys.processors (ap (λ (u : World MachineContext). step sys M n u e)
    (sym (world_of i n es)) ∙ h)

-- how many are done of one more event
count_last : (i : ImageTables) (n : ℕ) (es : List Event) (e : Event) (x : Reaction MachineContext) → reaction i n es e
    ≡ x
    → done_count i n es + one_of x ≡ done_count i n (es ++ e ∷ [])
unfolding replay reaction done_count
count_last i n es e x h = more_done i.system (code_meaning i.code) n (setup i.system (code_meaning i.code)) es e x h

-- no more are done than there are
pub done_few : (i : ImageTables) (n : ℕ) (es : List Event) → done_count i n es ≤ length es
unfolding done_count
done_few i n es = few_done i.system (code_meaning i.code) n (setup i.system (code_meaning i.code)).world es

pub legal_last : (i : ImageTables) (n : ℕ) (es : List Event) (e : Event) (x : Reaction MachineContext)
    → IsLegal i n es → reaction i n es e ≡ x
    → IsTaken x → IsLegal i n (es ++ e ∷ [])
unfolding replay reaction
legal_last i n es e x l h t =
    record {
      all_taken = all_taken i.system (code_meaning i.code) n (setup i.system
          (code_meaning i.code)) es e x l.all_taken h t;
    }

-- the kernel after it is the replay
abbrev replayed : ImageTables → (n : ℕ) → Done MachineContext → (done taken : ℕ) → List ℕ
    → KernelView (List BodyTables) MachineContext
replayed i n d done taken stamps =
    record {
      body = i.code;
      bound = n;
      system = i.system;
      world = d.world;
      lines = d.lines;
      done = done;
      taken = taken;
      stamps = stamps;
    }

replayed_last : (i : ImageTables) (n : ℕ) (es : List Event) (e : Event) (x : Reaction MachineContext) (done : ℕ)
    (stamps : List ℕ) → reaction i n es e ≡ x
    → done ≡ done_count i n (es ++ e ∷ []) → stamps ≡ stamps_after i n (es ++ e ∷ [])
    → replayed i n (done_or (replay i n es) x) done (length es + 1) stamps ≡ kernel_after i n (es ++ e ∷ [])
replayed_last i n es e x done stamps h c s =
    let more : length es + 1 ≡ length (es ++ e ∷ []) = omega (arith, length-append es (e ∷ [])) in
    let now : replay i n (es ++ e ∷ []) ≡ done_or (replay i n es) x = replay_last i n es e
    ∙ ap (λ (r : Reaction MachineContext). done_or (replay i n es) r) h in
    ap (λ (d : Done MachineContext). replayed i n d done (length es + 1) stamps) (sym now)
    ∙ ap (λ (k : ℕ). replayed i n (replay i n (es ++ e ∷ [])) k (length es + 1) stamps) c
    ∙ ap (λ (k : ℕ). replayed i n (replay i n (es ++ e ∷ [])) (done_count i n (es ++ e ∷ [])) k stamps) more
    ∙ ap (λ (xs : List ℕ). replayed i n (replay i n (es ++ e ∷ [])) (done_count i n (es ++ e ∷ []))
    (length (es ++ e ∷ [])) xs) s

pub kernel_last : (i : ImageTables) (n : ℕ) (es : List Event) (e : Event) (x : Reaction MachineContext)
    → reaction i n es e ≡ x → IsTaken x
    → view_after (kernel_after i n es) x ≡ kernel_after i n (es ++ e ∷ [])
kernel_last i n es e Nothing h t = absurd t
kernel_last i n es e (Did d) h t =
    let count = count_last i n es e (Did d) h in
    replayed_last i n es e (Did d) (done_count i n es + 1) (stamped d.lines (replay i n es).world.state d.world.state
    (stamps_after i n es)) h count (stamps_follow i n es e d h)
kernel_last i n es e (Kept p v) h t =
    let count : done_count i n es + 0 ≡ done_count i n (es ++ e ∷ []) = count_last i n es e (Kept p v) h in
    replayed_last i n es e (Kept p v) (done_count i n es) (stamped_by (Some p) (replay i n es).world.state v.state
    (stamps_after i n es)) h (omega (arith, count)) (stamps_kept i n es e p v h)
