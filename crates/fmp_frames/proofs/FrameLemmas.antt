-- One event of a run, between the frames that stand and those still to come.
use Rattle.std.proofs.Common.{◌≡◌, refl, ℕ, ℤ, Option, Some, Bool, ◌+◌, ◌<◌, List, [], ◌∷◌, ◌++◌, subst, sym, ap, ◌∙◌}
use Rattle.std.proofs.Common.{append_assoc, map, get_or, drop, length}
use Rattle.std.proofs.lemmas.List.{map-append}
use Rattle.fmp_base.specs.declared.events.Effect.TheVariants as effect
use Rattle.fmp_base.specs.declared.events.Event.{Event}
use Rattle.fmp_base.specs.declared.events.Line.{Line}
use Rattle.fmp_base.specs.declared.events.TaskState.{TaskState}
use Rattle.fmp_base.specs.declared.states.Processor.{Processor}
use Rattle.fmp_base.specs.declared.states.TaskBlock.{TaskBlock}
use Rattle.fmp_base.specs.Meanings.{Meaning}
use Rattle.fmp_base.specs.Steps.{Reaction, Nothing, Did, Kept, effect_of}
use Rattle.fmp_kernel.specs.Comings.{IsPlaceOf, reaction_of}
use Rattle.fmp_kernel.proofs.Comings.{cut}
use Rattle.fmp_kernel.specs.KernelViews.{KernelView, view_after}
use Rattle.fmp_why.specs.declared.obstacles.SpinWait.{SpinWait}
use Rattle.fmp_frames.specs.Frames.{FrameTable, frame_of, framed, framed_on, frames, frames_of_each, kept_frame}
use Rattle.fmp_frames.specs.Showing.{HasShown}

-- a map over a list with one more
pub map_push : {A B : Type 0} (f : A → B) (xs ys : List A) (x : A) → ys ≡ xs ++ x ∷ [] → map f ys ≡ map f xs ++ f x ∷ []
map_push f xs ys x e = ap (map f) e ∙ map-append f xs (x ∷ [])

abbrev made : List Line → Option ℕ → ℕ → List TaskState → List TaskBlock → List Processor → List (Option SpinWait)
    → List ℕ → List ℕ → List ℕ
    → List ℕ → List ℤ → List Bool → List Bool → FrameTable
made l k c s b p z m f q x w y i =
    record {
      lines = l;
      kept = k;
      clock = c;
      states = s;
      blocks = b;
      processors = p;
      spins = z;
      semaphores = m;
      flags = f;
      data_queues = q;
      mailboxes = x;
      shared_words = w;
      pending_cyclics = y;
      pending_interrupts = i;
    }

-- a frame is known by its parts
pub same-frame : (a b : FrameTable) → a.lines ≡ b.lines → a.kept ≡ b.kept → a.clock ≡ b.clock → a.states ≡ b.states
    → a.blocks ≡ b.blocks
    → a.processors ≡ b.processors → a.spins ≡ b.spins → a.semaphores ≡ b.semaphores → a.flags ≡ b.flags
    → a.data_queues ≡ b.data_queues
    → a.mailboxes ≡ b.mailboxes → a.shared_words ≡ b.shared_words → a.pending_cyclics ≡ b.pending_cyclics
    → a.pending_interrupts ≡ b.pending_interrupts → a ≡ b
same-frame a b e1 e0 e2 e3 e4 e5 e13 e6 e7 e8 e9 e10 e11 e12 =
    ap (λ (x : List Line). made x a.kept a.clock a.states a.blocks a.processors a.spins a.semaphores a.flags
    a.data_queues a.mailboxes a.shared_words a.pending_cyclics a.pending_interrupts) e1
    ∙ ap (λ (x : Option ℕ). made b.lines x a.clock a.states a.blocks a.processors a.spins a.semaphores a.flags
    a.data_queues a.mailboxes a.shared_words a.pending_cyclics a.pending_interrupts) e0
    ∙ ap (λ (x : ℕ). made b.lines b.kept x a.states a.blocks a.processors a.spins a.semaphores a.flags a.data_queues
    a.mailboxes a.shared_words a.pending_cyclics a.pending_interrupts) e2
    ∙ ap (λ (x : List TaskState). made b.lines b.kept b.clock x a.blocks a.processors a.spins a.semaphores a.flags
    a.data_queues a.mailboxes a.shared_words a.pending_cyclics a.pending_interrupts) e3
    ∙ ap (λ (x : List TaskBlock). made b.lines b.kept b.clock b.states x a.processors a.spins a.semaphores a.flags
    a.data_queues a.mailboxes a.shared_words a.pending_cyclics a.pending_interrupts) e4
    ∙ ap (λ (x : List Processor). made b.lines b.kept b.clock b.states b.blocks x a.spins a.semaphores a.flags
    a.data_queues a.mailboxes a.shared_words a.pending_cyclics a.pending_interrupts) e5
    ∙ ap (λ (x : List (Option SpinWait)). made b.lines b.kept b.clock b.states b.blocks b.processors x a.semaphores
    a.flags a.data_queues a.mailboxes a.shared_words a.pending_cyclics a.pending_interrupts) e13
    ∙ ap (λ (x : List ℕ). made b.lines b.kept b.clock b.states b.blocks b.processors b.spins x a.flags a.data_queues
    a.mailboxes a.shared_words a.pending_cyclics a.pending_interrupts) e6
    ∙ ap (λ (x : List ℕ). made b.lines b.kept b.clock b.states b.blocks b.processors b.spins b.semaphores x
    a.data_queues a.mailboxes a.shared_words a.pending_cyclics a.pending_interrupts) e7
    ∙ ap (λ (x : List ℕ). made b.lines b.kept b.clock b.states b.blocks b.processors b.spins b.semaphores b.flags x
    a.mailboxes a.shared_words a.pending_cyclics a.pending_interrupts) e8
    ∙ ap (λ (x : List ℕ). made b.lines b.kept b.clock b.states b.blocks b.processors b.spins b.semaphores b.flags
    b.data_queues x a.shared_words a.pending_cyclics a.pending_interrupts) e9
    ∙ ap (λ (x : List ℤ). made b.lines b.kept b.clock b.states b.blocks b.processors b.spins b.semaphores b.flags
    b.data_queues b.mailboxes x a.pending_cyclics a.pending_interrupts) e10
    ∙ ap (λ (x : List Bool). made b.lines b.kept b.clock b.states b.blocks b.processors b.spins b.semaphores b.flags
    b.data_queues b.mailboxes b.shared_words x a.pending_interrupts) e11
    ∙ ap (λ (x : List Bool). made b.lines b.kept b.clock b.states b.blocks b.processors b.spins b.semaphores b.flags
    b.data_queues b.mailboxes b.shared_words b.pending_cyclics x) e12

module _ {B C X : Type 0} (meaning : B → Meaning C) (reaction : KernelView B C → X → Reaction C) where
  -- the frames that a kernel has still to give
  abbrev pub frames_of : KernelView B C → List X → List FrameTable
  frames_of k xs = frames_of_each meaning reaction k xs

  abbrev pub last_of : KernelView B C → FrameTable
  last_of k = frame_of k.system (meaning k.body) k.bound k.world k.lines

  -- the frame of what kept a place
  abbrev pub kept_of : KernelView B C → Option ℕ → FrameTable
  kept_of k ran = kept_frame k.system (meaning k.body) k.bound k.world ran

  kept_here : (k : KernelView B C) (rest : List FrameTable) (ran : Option ℕ) (o : Reaction C) → effect.Kept
      ≡ effect_of o → IsPlaceOf ran o
      → framed meaning k o rest ≡ kept_of (view_after k o) ran ∷ rest
  kept_here k rest ran Nothing h n = absurd (cc h)
  kept_here k rest ran (Did d) h n = absurd (cc h)
  kept_here k rest ran (Kept p v) h n =
      ap (λ (r : Option ℕ). kept_frame k.system (meaning k.body) k.bound v r ∷ rest) (sym n)

  done_here : (k : KernelView B C) (rest : List FrameTable) (o : Reaction C) → effect.Done ≡ effect_of o
      → framed meaning k o rest ≡ last_of (view_after k o) ∷ rest
  done_here k rest Nothing h = absurd (cc)
  done_here k rest (Did d) h = refl
  done_here k rest (Kept p v) h = absurd (cc h)

  nothing_here : (k : KernelView B C) (rest : List FrameTable) (o : Reaction C) → effect.Nothing ≡ effect_of o
      → framed meaning k o rest ≡ rest
  nothing_here k rest Nothing h = refl
  nothing_here k rest (Did d) h = absurd (cc)
  nothing_here k rest (Kept p v) h = absurd (cc h)

  -- one whose frame stands
  frames-more : (k k' : KernelView B C) (xs : List X) (i : ℕ) (x : X) (f : FrameTable)
      (all more total : List FrameTable)
      → i < length xs → x ≡ get_or xs i x → k' ≡ view_after k (reaction k x)
      → frames_of k (x ∷ drop (i + 1) xs)
      ≡ f ∷ frames_of (view_after k (reaction k x)) (drop (i + 1) xs)
      → more ≡ all ++ f ∷ [] → all ++ frames_of k (drop i xs) ≡ total → more ++ frames_of k' (drop (i + 1) xs) ≡ total
  frames-more k k' xs i x f all more total lt is h one m so_far =
      let rest : List X = drop (i + 1) xs in
      let here : frames_of k (drop i xs) ≡ f ∷ frames_of (view_after k (reaction k x)) rest =
      ap (λ (ys : List X). frames_of k ys) (cut xs i x lt is) ∙ one in
      let named : f ∷ frames_of (view_after k (reaction k x)) rest ≡ f ∷ frames_of k' rest =
      ap (λ (v : KernelView B C). f ∷ frames_of v rest) (sym h) in
      ap (λ (q : List FrameTable). q ++ frames_of k' rest) m
      ∙ append_assoc all (f ∷ []) (frames_of k' rest)
      ∙ ap (λ (q : List FrameTable). all ++ q) (sym (here ∙ named)) ∙ so_far

  -- one that is done
  pub frames-done : (k k' : KernelView B C) (xs : List X) (i : ℕ) (x : X) (all more total : List FrameTable)
      → i < length xs → x ≡ get_or xs i x → effect.Done ≡ effect_of (reaction k x) → k' ≡ view_after k (reaction k x)
      → more ≡ all ++ last_of k' ∷ [] → all ++ frames_of k (drop i xs) ≡ total → more
      ++ frames_of k' (drop (i + 1) xs) ≡ total
  frames-done k k' xs i x all more total lt is e h m so_far =
      let o : Reaction C = reaction k x in
      let rest : List FrameTable = frames_of (view_after k o) (drop (i + 1) xs) in
      frames-more k k' xs i x (last_of k') all more total lt is h
      (done_here k rest o e ∙ ap (λ (v : KernelView B C). last_of v ∷ rest) (sym h)) m so_far

  -- and one that keeps a place
  pub frames-kept : (k k' : KernelView B C) (xs : List X) (i : ℕ) (x : X) (ran : Option ℕ)
      (all more total : List FrameTable)
      → i < length xs → x ≡ get_or xs i x → effect.Kept ≡ effect_of (reaction k x) → IsPlaceOf ran (reaction k x)
      → k' ≡ view_after k (reaction k x)
      → more ≡ all ++ kept_of k' ran ∷ [] → all ++ frames_of k (drop i xs) ≡ total → more
      ++ frames_of k' (drop (i + 1) xs) ≡ total
  frames-kept k k' xs i x ran all more total lt is e names h m so_far =
      let o : Reaction C = reaction k x in
      let rest : List FrameTable = frames_of (view_after k o) (drop (i + 1) xs) in
      frames-more k k' xs i x (kept_of k' ran) all more total lt is h
      (kept_here k rest ran o e names ∙ ap (λ (v : KernelView B C). kept_of v ran ∷ rest) (sym h)) m so_far

  -- one that did nothing
  pub frames-nothing : (k k' : KernelView B C) (xs : List X) (i : ℕ) (x : X) (all total : List FrameTable)
      → i < length xs → x ≡ get_or xs i x → effect.Nothing ≡ effect_of (reaction k x) → k' ≡ view_after k (reaction k x)
      → all ++ frames_of k (drop i xs) ≡ total → all ++ frames_of k' (drop (i + 1) xs) ≡ total
  frames-nothing k k' xs i x all total lt is e h so_far =
      let o : Reaction C = reaction k x in
      let here : frames_of k (drop i xs) ≡ frames_of (view_after k o) (drop (i + 1) xs) =
      ap (λ (ys : List X). frames_of k ys) (cut xs i x lt is)
      ∙ nothing_here k (frames_of (view_after k o) (drop (i + 1) xs)) o e in
      ap (λ (v : KernelView B C). all ++ frames_of v (drop (i + 1) xs)) h
      ∙ ap (λ (q : List FrameTable). all ++ q) (sym here) ∙ so_far

  -- to be shown all frames from one on that did something is to be shown its frame and then those after it
  pub shown-done : {V : Type 0} (shown : V → FrameTable → V → Type 0) (k k' : KernelView B C) (xs : List X) (i : ℕ)
      (x : X) (v u last : V)
      → i < length xs → x ≡ get_or xs i x → effect.Done ≡ effect_of (reaction k x) → k' ≡ view_after k (reaction k x)
      → shown v (last_of k') u → HasShown shown u (frames_of k' (drop (i + 1) xs)) last
      → HasShown shown v (frames_of k (drop i xs)) last
  shown-done shown k k' xs i x v u last lt is e h one rest =
      subst (λ (fs : List FrameTable). HasShown shown v fs last)
      (frames-done k k' xs i x [] (last_of k' ∷ []) (frames_of k (drop i xs)) lt is e h refl refl) (u, one, rest)

  -- the same from one on that kept a place
  pub shown-kept : {V : Type 0} (shown : V → FrameTable → V → Type 0) (k k' : KernelView B C) (xs : List X) (i : ℕ)
      (x : X) (ran : Option ℕ) (v u last : V)
      → i < length xs → x ≡ get_or xs i x → effect.Kept ≡ effect_of (reaction k x) → IsPlaceOf ran (reaction k x)
      → k' ≡ view_after k (reaction k x)
      → shown v (kept_of k' ran) u → HasShown shown u (frames_of k' (drop (i + 1) xs)) last
      → HasShown shown v (frames_of k (drop i xs)) last
  shown-kept shown k k' xs i x ran v u last lt is e r h one rest =
      subst (λ (fs : List FrameTable). HasShown shown v fs last)
      (frames-kept k k' xs i x ran [] (kept_of k' ran ∷ []) (frames_of k (drop i xs)) lt is e r h refl refl)
      (u, one, rest)

  -- and from one on that did nothing
  pub shown-nothing : {V : Type 0} (shown : V → FrameTable → V → Type 0) (k k' : KernelView B C) (xs : List X) (i : ℕ)
      (x : X) (v last : V)
      → i < length xs → x ≡ get_or xs i x → effect.Nothing ≡ effect_of (reaction k x) → k' ≡ view_after k (reaction k x)
      → HasShown shown v (frames_of k' (drop (i + 1) xs)) last → HasShown shown v (frames_of k (drop i xs)) last
  shown-nothing shown k k' xs i x v last lt is e h rest =
      subst (λ (fs : List FrameTable). HasShown shown v fs last)
      (frames-nothing k k' xs i x [] (frames_of k (drop i xs)) lt is e h refl) rest

-- the frames of what comes as events are those of the run
module _ {B C : Type 0} (meaning : B → Meaning C) where
  framed_so : (k : KernelView B C) (o : Reaction C) (es : List Event)
      → ((v : KernelView B C) → frames_of_each meaning (reaction_of meaning) v es
      ≡ frames v.system (meaning v.body) v.bound v.world es)
      → framed meaning k o (frames_of_each meaning (reaction_of meaning) (view_after k o) es)
      ≡ framed_on k.system (meaning k.body) k.bound k.world o (λ w. frames k.system (meaning k.body) k.bound w es)
  framed_so k Nothing es rest = rest k
  framed_so k (Did d) es rest =
      ap (λ (fs : List FrameTable). frame_of k.system (meaning k.body) k.bound d.world d.lines ∷ fs)
      (rest (view_after k (Did d)))
  framed_so k (Kept p w) es rest =
      ap (λ (fs : List FrameTable). kept_frame k.system (meaning k.body) k.bound w (Some p) ∷ fs)
      (rest (view_after k (Kept p w)))

  pub same_frames : (k : KernelView B C) (es : List Event)
      → frames_of_each meaning (reaction_of meaning) k es ≡ frames k.system (meaning k.body) k.bound k.world es
  same_frames k [] = refl
  same_frames k (e ∷ es) = framed_so k (reaction_of meaning k e) es (λ v. same_frames v es)
