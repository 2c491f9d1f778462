-- One event of a run, between the turns that were idle and those still to come.
use Rattle.std.proofs.Common.{◌≡◌, ℕ, suc, ◌+◌, ◌-◌, ◌<◌, List, [], ◌∷◌, ◌++◌, length, drop, get_or, slice_get}
use Rattle.std.proofs.Common.{Bool, true, false, cond, Option, Some}
use Rattle.std.proofs.Common.{None, append-nil, append_assoc, refl, ap, sym, subst}
use Rattle.std.proofs.Common.{◌∙◌, arith}
use Rattle.std.specs.List.{dedup, dedup_from}
use Rattle.fmp_base.specs.declared.events.Effect.TheVariants as effect
use Rattle.fmp_base.specs.Steps.{Reaction, Nothing, Did, Kept, effect_of}
use Rattle.fmp_kernel.proofs.Comings.{cut}
use Rattle.fmp_kernel.specs.KernelViews.{KernelView, view_after}
use Rattle.fmp_frames.specs.declared.turns.IdleTurn.{IdleTurn}
use Rattle.fmp_frames.specs.Turns.{AreIdle, Runs, idle_turn, is_same_by, is_same_turn, with_idle, with_turn}

-- a turn after others that begin with one
last_same : (k z : IdleTurn) (zs : List IdleTurn)
    → slice_get (k ∷ z ∷ zs) (length (k ∷ z ∷ zs) - 1) ≡ slice_get (z ∷ zs) (length (z ∷ zs) - 1)
last_same k z zs =
    let shift : length (k ∷ z ∷ zs) - 1 ≡ suc (length (z ∷ zs) - 1) = omega arith in
    ap (λ (i : ℕ). slice_get (k ∷ z ∷ zs) i) shift

into : (b : Bool) (k : IdleTurn) (xs ys : List IdleTurn) → cond b (k ∷ xs) (k ∷ ys) ≡ k ∷ cond b xs ys
into true k xs ys = refl
into false k xs ys = refl

with_turn_cons : (k : IdleTurn) (ys : List IdleTurn) (t : IdleTurn) → 0 < length ys
    → with_turn (k ∷ ys) t ≡ k ∷ with_turn ys t
with_turn_cons k [] t h = absurd (omega (arith, h))
with_turn_cons k (z ∷ zs) t h =
    ap (λ (o : Option IdleTurn). cond (is_same_by t o) (k ∷ z ∷ zs) (k ∷ z ∷ zs ++ t ∷ [])) (last_same k z zs)
    ∙ into (is_same_by t (slice_get (z ∷ zs) (length (z ∷ zs) - 1))) k (z ∷ zs) (z ∷ zs ++ t ∷ [])

some_by : (b : Bool) (k : IdleTurn) (xs ys : List IdleTurn) → 0 < length xs → 0 < length (cond b xs (k ∷ ys))
some_by true k xs ys h = h
some_by false k xs ys h = omega arith

some_left : (k : IdleTurn) (xs : List IdleTurn) → 0 < length (dedup_from is_same_turn k xs)
some_left k [] = omega arith
some_left k (x ∷ xs) =
    some_by (is_same_turn x k) k (dedup_from is_same_turn k xs) (dedup_from is_same_turn x xs) (some_left k xs)

either : (b : Bool) (k x t : IdleTurn) (xs : List IdleTurn)
    → dedup_from is_same_turn k (xs ++ t ∷ []) ≡ with_turn (dedup_from is_same_turn k xs) t
    → dedup_from is_same_turn x (xs ++ t ∷ []) ≡ with_turn (dedup_from is_same_turn x xs) t
    → cond b (dedup_from is_same_turn k (xs ++ t ∷ [])) (k ∷ dedup_from is_same_turn x (xs ++ t ∷ []))
    ≡ with_turn (cond b (dedup_from is_same_turn k xs) (k ∷ dedup_from is_same_turn x xs)) t
either true k x t xs e f = e
either false k x t xs e f =
    ap (λ (ys : List IdleTurn). k ∷ ys) f
    ∙ sym (with_turn_cons k (dedup_from is_same_turn x xs) t (some_left x xs))

dedup_from_more : (k : IdleTurn) (xs : List IdleTurn) (t : IdleTurn)
    → dedup_from is_same_turn k (xs ++ t ∷ []) ≡ with_turn (dedup_from is_same_turn k xs) t
dedup_from_more k [] t = refl
dedup_from_more k (x ∷ xs) t = either (is_same_turn x k) k x t xs (dedup_from_more k xs t) (dedup_from_more x xs t)

-- of equal turns in succession the first, with one more
dedup_more : (xs : List IdleTurn) (t : IdleTurn)
    → dedup is_same_turn (xs ++ t ∷ []) ≡ with_turn (dedup is_same_turn xs) t
dedup_more [] t = refl
dedup_more (x ∷ xs) t = dedup_from_more x xs t

module _ {B C X : Type 0} (reaction : KernelView B C → X → Reaction C) where
  -- these turns stand, of equal ones in succession the first, where a kernel has still to take what is left
  abbrev pub StandBefore : (first now : KernelView B C) → (xs left : List X) → List IdleTurn → Type 0
  StandBefore first now xs left turns =
      (seen : List IdleTurn) × (turns ≡ dedup is_same_turn seen)
      × ((rest : List IdleTurn) → AreIdle reaction now left rest → AreIdle reaction first xs (seen ++ rest))

  -- at the beginning none stands
  pub none_yet : (first : KernelView B C) (xs left : List X) (turns : List IdleTurn) → left ≡ xs → turns ≡ []
      → StandBefore first first xs left turns
  none_yet first xs left turns is none =
      ([], none, λ rest h. subst (λ (ys : List X). AreIdle reaction first ys rest) is h)

  -- one more
  further : (first k k' : KernelView B C) (xs : List X) (i : ℕ) (x : X) (place : Option ℕ) (seen : List IdleTurn)
      → i < length xs → x ≡ get_or xs i x → Runs reaction x place → k' ≡ view_after k (reaction k x)
      → ((rest : List IdleTurn) → AreIdle reaction k (drop i xs) rest → AreIdle reaction first xs (seen ++ rest))
      → (rest : List IdleTurn) → AreIdle reaction k' (drop (i + 1) xs) rest
      → AreIdle reaction first xs ((seen ++ idle_turn k.done place (reaction k x)) ++ rest)
  further first k k' xs i x place seen lt is runs after before rest h =
      let here : List IdleTurn = idle_turn k.done place (reaction k x) in
      let left : List X = drop (i + 1) xs in
      let those : AreIdle reaction (view_after k (reaction k x)) left rest =
      subst (λ (v : KernelView B C). AreIdle reaction v left rest) after h in
      let all : AreIdle reaction k (x ∷ left) (here ++ rest) = (place, rest, runs, refl, those) in
      let from : AreIdle reaction k (drop i xs) (here ++ rest) =
      subst (λ (ys : List X). AreIdle reaction k ys (here ++ rest)) (sym (cut xs i x lt is)) all in
      subst (λ (turns : List IdleTurn). AreIdle reaction first xs turns) (sym (append_assoc seen here rest))
      (before (here ++ rest) from)

  no_turn : (event : ℕ) (place : Option ℕ) (o : Reaction C) → effect.Done ≡ effect_of o
      → idle_turn event place o ≡ []
  no_turn event place Nothing h = absurd (cc)
  no_turn event None (Did d) h = refl
  no_turn event (Some p) (Did d) h = refl
  no_turn event place (Kept p v) h = absurd (cc h)

  no_kept : (event : ℕ) (place : Option ℕ) (o : Reaction C) → effect.Kept ≡ effect_of o
      → idle_turn event place o ≡ []
  no_kept event place Nothing h = absurd (cc h)
  no_kept event place (Did d) h = absurd (cc h)
  no_kept event None (Kept p v) h = refl
  no_kept event (Some q) (Kept p v) h = refl

  one_turn : (k : KernelView B C) (place : Option ℕ) (o : Reaction C) (seen : List IdleTurn)
      → effect.Nothing ≡ effect_of o
      → with_idle (dedup is_same_turn seen) (view_after k o).done place
      ≡ dedup is_same_turn (seen ++ idle_turn k.done place o)
  one_turn k None Nothing seen h = ap (λ (xs : List IdleTurn). dedup is_same_turn xs) (sym (append-nil seen))
  one_turn k (Some p) Nothing seen h = sym (dedup_more seen (record { event = k.done; processor = p }))
  one_turn k place (Did d) seen h = absurd (cc)
  one_turn k place (Kept p v) seen h = absurd (cc h)

  -- an event that did nothing
  pub stand-nothing : (first k k' : KernelView B C) (xs : List X) (i : ℕ) (x : X) (place : Option ℕ)
      (turns more : List IdleTurn)
      → i < length xs → x ≡ get_or xs i x → Runs reaction x place → effect.Nothing ≡ effect_of (reaction k x)
      → k' ≡ view_after k (reaction k x) → more ≡ with_idle turns k'.done place
      → StandBefore first k xs (drop i xs) turns → StandBefore first k' xs (drop (i + 1) xs) more
  stand-nothing first k k' xs i x place turns more lt is runs e after m before =
      let o : Reaction C = reaction k x in
      let seen : List IdleTurn = before.0 in
      let stands : more ≡ dedup is_same_turn (seen ++ idle_turn k.done place o) =
      m ∙ ap (λ (v : KernelView B C). with_idle turns v.done place) after
      ∙ ap (λ (ts : List IdleTurn). with_idle ts (view_after k o).done place) before.1
      ∙ one_turn k place o seen e in
      (seen ++ idle_turn k.done place o, stands, further first k k' xs i x place seen lt is runs after before.2)

  -- and one that did something
  others : (first k k' : KernelView B C) (xs : List X) (i : ℕ) (x : X) (place : Option ℕ) (turns : List IdleTurn)
      → i < length xs → x ≡ get_or xs i x → Runs reaction x place → k' ≡ view_after k (reaction k x)
      → idle_turn k.done place (reaction k x) ≡ []
      → StandBefore first k xs (drop i xs) turns → StandBefore first k' xs (drop (i + 1) xs) turns
  others first k k' xs i x place turns lt is runs after none before =
      let here : List IdleTurn = idle_turn k.done place (reaction k x) in
      let seen : List IdleTurn = before.0 in
      let same : seen ≡ seen ++ here = sym (append-nil seen) ∙ ap (λ (ys : List IdleTurn). seen ++ ys) (sym none) in (
        seen ++ here,
        before.1 ∙ ap (λ (ys : List IdleTurn). dedup is_same_turn ys) same,
        further first k k' xs i x place seen lt is runs after before.2,
      )

  pub stand-done : (first k k' : KernelView B C) (xs : List X) (i : ℕ) (x : X) (place : Option ℕ)
      (turns : List IdleTurn)
      → i < length xs → x ≡ get_or xs i x → Runs reaction x place → effect.Done ≡ effect_of (reaction k x)
      → k' ≡ view_after k (reaction k x)
      → StandBefore first k xs (drop i xs) turns → StandBefore first k' xs (drop (i + 1) xs) turns
  stand-done first k k' xs i x place turns lt is runs e after before =
      others first k k' xs i x place turns lt is runs after (no_turn k.done place (reaction k x) e) before

  pub stand-kept : (first k k' : KernelView B C) (xs : List X) (i : ℕ) (x : X) (place : Option ℕ)
      (turns : List IdleTurn)
      → i < length xs → x ≡ get_or xs i x → Runs reaction x place → effect.Kept ≡ effect_of (reaction k x)
      → k' ≡ view_after k (reaction k x)
      → StandBefore first k xs (drop i xs) turns → StandBefore first k' xs (drop (i + 1) xs) turns
  stand-kept first k k' xs i x place turns lt is runs e after before =
      others first k k' xs i x place turns lt is runs after (no_kept k.done place (reaction k x) e) before

  -- where nothing is left, all stand
  pub all_stand : (first now : KernelView B C) (xs left : List X) (turns : List IdleTurn) → left ≡ []
      → StandBefore first now xs left turns
      → (all : List IdleTurn) × AreIdle reaction first xs all × (turns ≡ dedup is_same_turn all)
  all_stand first now xs left turns none before =
      let seen : List IdleTurn = before.0 in
      let end : AreIdle reaction now left [] =
      subst (λ (ys : List X). AreIdle reaction now ys []) (sym none) refl in
      let whole : AreIdle reaction first xs seen =
      subst (λ (ts : List IdleTurn). AreIdle reaction first xs ts) (append-nil seen) (before.2 [] end) in
      (seen, whole, before.1)
