-- The text of events, and the kernel that took them, with one event more.
use Rattle.std.proofs.Common.{◌≡◌, ℕ, ◌+◌, ◌≤◌, List, [], ◌∷◌, ◌++◌, length, refl, ap, ◌∙◌, sym, arith, append_assoc}
use Rattle.fmp_base.specs.declared.events.Event.{Event}
use Rattle.fmp_base.specs.Meanings.{Meaning, World}
use Rattle.fmp_base.specs.Runs.{run, run_on}
use Rattle.fmp_base.specs.Setups.{setup}
use Rattle.fmp_base.specs.Steps.{Done, Reaction, Nothing, Did, Kept, step}
use Rattle.fmp_base.specs.Systems.{SystemTables}
use Rattle.fmp_base.specs.Texts.{events_text, lines_text, states_text, whole_text}
use Rattle.fmp_instructions.specs.declared.instructions.MachineContext.{MachineContext}
use Rattle.fmp_instructions.specs.Instructions.{BodyTables}
use Rattle.fmp_instructions.specs.Machine.{code_meaning}
use Rattle.fmp_image_bytes.specs.Images.{ImageTables}
use Rattle.fmp_kernel.specs.KernelViews.{KernelView, view_after, view_after_all, view_of_setup}
use Rattle.fmp_hostrun.specs.Followers.{followed_text, kernel_over, reaction_text}

pub nothing_after : (xs : List ℕ) → xs ++ [] ≡ xs
nothing_after [] = refl
nothing_after (x ∷ xs) = ap (λ (ys : List ℕ). x ∷ ys) (nothing_after xs)

module _ {B C : Type 0} (meaning : B → Meaning C) where
  -- the text of the events of a list that are done on a kernel
  abbrev pub text_of : KernelView B C → List Event → List ℕ
  text_of k es = events_text k.system (k.done + 1) (run k.system (meaning k.body) k.bound k.world es).events

  -- and of what it does at one more after them
  abbrev pub next_of : KernelView B C → List Event → Event → List ℕ
  next_of k es e =
      let v = view_after_all meaning k es in
      reaction_text k.system (v.done + 1) (step k.system (meaning k.body) k.bound v.world e)

  of_one : (sys : SystemTables) (number : ℕ) (w : World C) (r : Reaction C)
      → events_text sys number (run_on w r (λ v. record { world = v; events = [] })).events ≡ reaction_text sys number r
  of_one sys number w Nothing = refl
  of_one sys number w (Did d) = nothing_after (lines_text sys number d.lines)
  of_one sys number w (Kept p v) = refl

  of_first : (k : KernelView B C) (es : List Event) (e : Event) (r : Reaction C)
      → ((v : KernelView B C) → text_of v (es ++ e ∷ []) ≡ text_of v es ++ next_of v es e)
      → events_text k.system (k.done + 1) (run_on k.world r (λ w. run k.system (meaning k.body) k.bound w
      (es ++ e ∷ []))).events
      ≡ events_text k.system (k.done + 1) (run_on k.world r (λ w. run k.system (meaning k.body) k.bound w es)).events
      ++ next_of (view_after k r) es e
  of_first k es e Nothing h = h k
  of_first k es e (Did d) h =
      let first : List ℕ = lines_text k.system (k.done + 1) d.lines in
      let v : KernelView B C = view_after k (Did d) in
      ap (λ (xs : List ℕ). first ++ xs) (h v) ∙ sym (append_assoc first (text_of v es) (next_of v es e))
  of_first k es e (Kept p w) h = h (view_after k (Kept p w))

  same_next : (k : KernelView B C) (r : Reaction C) (es : List Event) (e : Event)
      → next_of (view_after k r) es e
      ≡ (let v = view_after_all meaning (view_after k r) es in
      reaction_text k.system (v.done + 1) (step k.system (meaning k.body) k.bound v.world e))
  same_next k Nothing es e = refl
  same_next k (Did d) es e = refl
  same_next k (Kept p w) es e = refl

  pub text_last : (k : KernelView B C) (es : List Event) (e : Event) → text_of k (es ++ e ∷ []) ≡ text_of k es
      ++ next_of k es e
  text_last k [] e =
      of_one k.system (k.done + 1) k.world (step k.system (meaning k.body) k.bound k.world e)
  text_last k (x ∷ es) e =
      let r : Reaction C = step k.system (meaning k.body) k.bound k.world x in
      of_first k es e r (λ v. text_last v es e) ∙ ap (λ (xs : List ℕ). text_of k (x ∷ es) ++ xs) (same_next k r es e)

  pub view_last : (k : KernelView B C) (es : List Event) (e : Event)
      → (let v = view_after_all meaning k es in
      view_after_all meaning k (es ++ e ∷ []) ≡ view_after v (step v.system (meaning v.body) v.bound v.world e))
  view_last k [] e = refl
  view_last k (x ∷ es) e = view_last (view_after k (step k.system (meaning k.body) k.bound k.world x)) es e

  -- a kernel keeps its bodies, its bound and its system
  pub record SameRun (k v : KernelView B C) : Type 0 where
    pub body : v.body ≡ k.body
    pub bound : v.bound ≡ k.bound
    pub system : v.system ≡ k.system

  same_first : (k v : KernelView B C) (r : Reaction C) → SameRun (view_after k r) v → SameRun k v
  same_first k v Nothing s = s
  same_first k v (Did d) s = record { body = s.body; bound = s.bound; system = s.system }
  same_first k v (Kept p w) s = record { body = s.body; bound = s.bound; system = s.system }

  pub same_run : (k : KernelView B C) (es : List Event) → SameRun k (view_after_all meaning k es)
  same_run k [] = record { body = refl; bound = refl; system = refl }
  same_run k (x ∷ es) =
      let r : Reaction C = step k.system (meaning k.body) k.bound k.world x in
      same_first k _ r (same_run (view_after k r) es)

  taken_first : (k v : KernelView B C) (r : Reaction C) (n : ℕ) → v.taken ≤ (view_after k r).taken + n
      → v.taken ≤ k.taken + (n + 1)
  taken_first k v Nothing n h = omega (arith, h)
  taken_first k v (Did d) n h = omega (arith, h)
  taken_first k v (Kept p w) n h = omega (arith, h)

  -- no more events were taken than there are
  pub taken_few : (k : KernelView B C) (es : List Event) → (view_after_all meaning k es).taken ≤ k.taken + length es
  taken_few k [] = omega arith
  taken_few k (x ∷ es) =
      let r : Reaction C = step k.system (meaning k.body) k.bound k.world x in
      let more : length (x ∷ es) ≡ length es + 1 = omega arith in
      let all : (view_after_all meaning k (x ∷ es)).taken ≤ k.taken + (length es + 1) =
      taken_first k (view_after_all meaning k (x ∷ es)) r (length es) (taken_few (view_after k r) es) in
      omega (arith, all, more)

  world_first : (k : KernelView B C) (es : List Event) (r : Reaction C)
      → ((v : KernelView B C) → (run v.system (meaning v.body) v.bound v.world es).world
      ≡ (view_after_all meaning v es).world)
      → (run_on k.world r (λ w. run k.system (meaning k.body) k.bound w es)).world
      ≡ (view_after_all meaning (view_after k r) es).world
  world_first k es Nothing h = h k
  world_first k es (Did d) h = h (view_after k (Did d))
  world_first k es (Kept p w) h = h (view_after k (Kept p w))

  -- the world at the end of a run is that of the kernel
  pub same_world : (k : KernelView B C) (es : List Event)
      → (run k.system (meaning k.body) k.bound k.world es).world ≡ (view_after_all meaning k es).world
  same_world k [] = refl
  same_world k (x ∷ es) =
      world_first k es (step k.system (meaning k.body) k.bound k.world x) (λ v. same_world v es)

-- the text over one more event
pub followed_last : (i : ImageTables) (n : ℕ) (es : List Event) (e : Event)
    → followed_text i n (es ++ e ∷ [])
    ≡ followed_text i n es
    ++ reaction_text i.system ((kernel_over i n es).done + 1) (step i.system (code_meaning i.code) n
    (kernel_over i n es).world e)
unfolding followed_text kernel_over
followed_last i n es e =
    let d : Done MachineContext = setup i.system (code_meaning i.code) in
    let k : KernelView (List BodyTables) MachineContext = view_of_setup i.code n i.system d in
    let first : List ℕ = lines_text i.system 0 d.lines in
    ap (λ (xs : List ℕ). first ++ xs) (text_last code_meaning k es e)
    ∙ sym (append_assoc first (text_of code_meaning k es) (next_of code_meaning k es e))

-- the text over no event is that of setup's lines
pub followed_none : (i : ImageTables) (n : ℕ) → followed_text i n []
    ≡ lines_text i.system 0 (setup i.system (code_meaning i.code)).lines
unfolding followed_text
followed_none i n = nothing_after (lines_text i.system 0 (setup i.system (code_meaning i.code)).lines)

-- what a system prints is the text over the events, and then the states
pub front : (i : ImageTables) (n : ℕ) (es : List Event)
    → whole_text i.system (code_meaning i.code) n es ≡ followed_text i n es
    ++ states_text i.system (kernel_over i n es).world.state
unfolding followed_text kernel_over
front i n es =
    let d : Done MachineContext = setup i.system (code_meaning i.code) in
    let k : KernelView (List BodyTables) MachineContext = view_of_setup i.code n i.system d in
    let first : List ℕ = lines_text i.system 0 d.lines in
    let events : List ℕ = text_of code_meaning k es in
    ap (λ (w : World MachineContext). first ++ (events ++ states_text i.system w.state)) (same_world code_meaning k es)
    ∙ sym (append_assoc first events (states_text i.system (kernel_over i n es).world.state))
