-- What is told of a run, one after the other that comes.
use Rattle.std.proofs.Common.{◌≡◌, ◌∙◌, ℕ, ◌+◌, ◌<◌, List, [], ◌∷◌, length, drop, get_or, refl, ap, sym}
use Rattle.fmp_base.specs.declared.events.Effect.TheVariants as effect
use Rattle.fmp_base.specs.declared.events.Event.{Event}
use Rattle.fmp_base.specs.Meanings.{Meaning}
use Rattle.fmp_base.specs.Runs.{run, run_on}
use Rattle.fmp_base.specs.Steps.{Reaction, Nothing, Did, Kept, effect_of}
use Rattle.fmp_kernel.specs.Comings.{reaction_of}
use Rattle.fmp_kernel.proofs.Comings.{cut}
use Rattle.fmp_kernel.specs.KernelViews.{KernelView, view_after}
use Rattle.fmp_base.specs.declared.events.Line.{Line}
use Rattle.fmp_monitors.specs.Meaning.{OfLine}
use Rattle.fmp_expect.specs.Meaning.{Told, with_lines}
use Rattle.fmp_expect.specs.Runs.{events_told, last_told, lines_told, rest_told, told_after, with_events}

-- the one at a place
pub told_step : {B C X : Type 0} (reaction : KernelView B C → X → Reaction C) (k k' : KernelView B C) (xs : List X)
    (i : ℕ) (x : X)
    (told all : List Told) → i < length xs → x ≡ get_or xs i x → k' ≡ view_after k (reaction k x)
    → rest_told reaction k (drop i xs) told ≡ all
    → rest_told reaction k' (drop (i + 1) xs) (told_after k (reaction k x) told) ≡ all
told_step {B} {C} {X} reaction k k' xs i x told all h is e so_far =
    let r = reaction k x in
    let rest : List X = drop (i + 1) xs in
    ap (λ (v : KernelView B C). rest_told reaction v rest (told_after k r told)) e
    ∙ ap (λ (ys : List X). rest_told reaction k ys told) (sym (cut xs i x h is)) ∙ so_far

lines_with : (n : ℕ) (ls : List Line) (told : List Told)
    → lines_told (with_lines n ls told) ≡ with_lines n ls (lines_told told)
lines_with n [] told = refl
lines_with n (l ∷ ls) told = lines_with n ls (record { event = n; seen = OfLine l } ∷ told)

-- the lines that are told of what comes as events are those of their run
module _ {B C : Type 0} (meaning : B → Meaning C) where
  told_so : (k : KernelView B C) (es : List Event) (told : List Told) (o : Reaction C)
      → ((v : KernelView B C) (ts : List Told) → lines_told (rest_told (reaction_of meaning) v es ts)
      ≡ events_told meaning v es (lines_told ts))
      → lines_told (rest_told (reaction_of meaning) (view_after k o) es (told_after k o told))
      ≡ with_events (k.done + 1) (run_on k.world o (λ w. run k.system (meaning k.body) k.bound w es)).events
      (lines_told told)
  told_so k es told Nothing rest = rest k told
  told_so k es told (Did d) rest =
      rest (view_after k (Did d)) (told_after k (Did d) told)
      ∙ ap (λ (ts : List Told). events_told meaning (view_after k (Did d)) es ts) (lines_with (k.done + 1) d.lines told)
  told_so k es told (Kept p w) rest = rest (view_after k (Kept p w)) told

  pub same_told : (k : KernelView B C) (es : List Event) (told : List Told)
      → lines_told (rest_told (reaction_of meaning) k es told) ≡ events_told meaning k es (lines_told told)
  same_told k [] told = refl
  same_told k (e ∷ es) told = told_so k es told (reaction_of meaning k e) (λ v ts. same_told v es ts)

module _ {B C : Type 0} (k : KernelView B C) (told : List Told) where
  -- what an event that was done shows
  pub told_done : (x : Reaction C) → effect.Done ≡ effect_of x → last_told (view_after k x) told ≡ told_after k x told
  told_done Nothing h = absurd (cc)
  told_done (Did d) h = refl
  told_done (Kept p w) h = absurd (cc)

  pub told_kept : (x : Reaction C) → effect.Kept ≡ effect_of x → told ≡ told_after k x told
  told_kept Nothing h = absurd (cc)
  told_kept (Did d) h = absurd (cc)
  told_kept (Kept p w) h = refl

  pub told_nothing : (x : Reaction C) → effect.Nothing ≡ effect_of x → told ≡ told_after k x told
  told_nothing Nothing h = refl
  told_nothing (Did d) h = absurd (cc)
  told_nothing (Kept p w) h = absurd (cc)
