-- Each step keeps a hosted system in step with the text.
use Rattle.std.proofs.Common.{◌≡◌, ◌∙◌, ap, sym, subst, refl, ℕ, ◌+◌, List, [], ◌∷◌, Option, Some, None, Ok, length}
use Rattle.std.proofs.Common.{pos, arith}
use Rattle.fmp_base.specs.declared.events.Event.{Event}
use Rattle.fmp_base.specs.declared.events.Line.{Line}
use Rattle.fmp_base.specs.Meanings.{Meaning, World}
use Rattle.fmp_base.specs.Runs.{Trace, run, run_on}
use Rattle.fmp_base.specs.Setups.{setup}
use Rattle.fmp_base.specs.Steps.{Reaction, Nothing, Did, Kept, step}
use Rattle.fmp_base.specs.Systems.{SystemTables}
use Rattle.fmp_base.specs.TieLaws.{setup-tied}
use Rattle.fmp_base.specs.Ties.{WorldTied}
use Rattle.fmp_instructions.specs.declared.instructions.MachineContext.{MachineContext}
use Rattle.fmp_instructions.specs.Machine.{code_meaning}
use Rattle.fmp_image_bytes.specs.Images.{ImageTables}
use Rattle.fmp_kernel.specs.KernelViews.{KernelView, view_after, view_after_all, view_of_setup}
use Rattle.fmp_outside.specs.declared.given.Given.{Given}
use Rattle.fmp_outside.specs.Outside.{outside_run}
use Rattle.fmp_outside.proofs.KeptPlaces.{follows-tied}
use Rattle.fmp_outside.proofs.OutsideRuns.{RunsAgree, keeps_anyhow}
use Rattle.fmp_foreign.specs.declared.foreign.LastTold.{LastTold}
use Rattle.fmp_foreign.specs.declared.foreign.LastTold.TheVariants as told
use Rattle.fmp_foreign.specs.declared.hosted.HostedSystem.{HostedSystem}
use Rattle.fmp_foreign.specs.declared.requests.Refusal.{Refusal}
use Rattle.fmp_foreign.specs.Following.{HasFollowed}
use Rattle.fmp_foreign.specs.Foreign.{foreign_meaning}
use Rattle.fmp_foreign.specs.Hosting.{ForeignKernel, after, after_unless, reaction, refused}
use Rattle.fmp_checked.specs.Checking.{Anyhow, InStep, IsHostedBy, IsTextOf, TextKernel}

-- the lines of the last event of a run, or those before it
abbrev last_or : List Line → List (List Line) → List Line
last_or lines [] = lines
last_or lines (ls ∷ rest) = last_or ls rest

-- what a run makes of a kernel
record HasRun {B C : Type 0} (k u : KernelView B C) (r : Trace C) : Type 0 where
  system : u.system ≡ k.system
  world : u.world ≡ r.world
  lines : u.lines ≡ last_or k.lines r.events
  done : u.done ≡ k.done + length r.events

-- a run of no event
abbrev alone : {C : Type 0} → World C → Trace C
alone w = record { world = w; events = [] }

module _ {B C : Type 0} where
  no_event : (k : KernelView B C) → HasRun k k (alone k.world)
  no_event k = record { system = refl; world = refl; lines = refl; done = omega arith }

  one_event : (k : KernelView B C) (r : Reaction C) → HasRun k (view_after k r) (run_on k.world r alone)
  one_event k Nothing = no_event k
  one_event k (Did d) = record { system = refl; world = refl; lines = refl; done = omega arith }
  one_event k (Kept p w) = record { system = refl; world = refl; lines = refl; done = omega arith }

  module _ (meaning : B → Meaning C) where
    all_events : (k : KernelView B C) (es : List Event)
        → HasRun k (view_after_all meaning k es) (run k.system (meaning k.body) k.bound k.world es)
    all_events k [] = no_event k
    all_events k (e ∷ es) =
        by_reaction (step k.system (meaning k.body) k.bound k.world e) (λ i. all_events i es) where
          by_reaction : (r : Reaction C)
              → ((i : KernelView B C)
              → HasRun i (view_after_all meaning i es) (run i.system (meaning i.body) i.bound i.world es))
              → HasRun k (view_after_all meaning (view_after k r) es)
              (run_on k.world r (λ v. run k.system (meaning k.body) k.bound v es))
          by_reaction Nothing rest = rest k
          by_reaction (Did d) rest =
              let h = rest (view_after k (Did d)) in
              let count = h.done in
              record { system = h.system; world = h.world; lines = h.lines; done = omega (arith, count) }
          by_reaction (Kept p w) rest =
              let h = rest (view_after k (Kept p w)) in
              record { system = h.system; world = h.world; lines = h.lines; done = h.done }

-- the context that is handed in with an act
abbrev handed : LastTold
handed = told.Starts (pos 0)

module _ (k new : ForeignKernel) (t u : TextKernel) where
  -- where the text has followed, and these came to the kernel too, both are in step again
  together : (gs : List Given) → InStep k t → HasFollowed code_meaning t gs u
      → HasRun k new (outside_run k.system (foreign_meaning k.body) k.bound handed k.world gs) → InStep new u
  together gs h f r =
      let F : Meaning LastTold = foreign_meaning k.body in
      let M : Meaning MachineContext = code_meaning t.body in
      let o : Trace LastTold = outside_run k.system F k.bound handed k.world gs in
      let e : Trace MachineContext = run t.system M t.bound t.world f.events in
      let agree : RunsAgree t.system F k.bound handed M t.bound o e =
      subst
      (λ (s : SystemTables). RunsAgree t.system F k.bound handed M t.bound
      (outside_run s F k.bound handed k.world gs) e)
      (sym h.system)
      (follows-tied t.system F k.bound handed M t.bound k.world t.world gs f.events h.worlds f.follows) in
      let v = all_events code_meaning t f.events in
      let system : u.system ≡ t.system = ap (λ (i : TextKernel). i.system) f.kernel ∙ v.system in
      let world : u.world ≡ e.world = ap (λ (i : TextKernel). i.world) f.kernel ∙ v.world in
      let lines : u.lines ≡ last_or t.lines e.events = ap (λ (i : TextKernel). i.lines) f.kernel ∙ v.lines in
      let done : u.done ≡ t.done + length e.events = ap (λ (i : TextKernel). i.done) f.kernel ∙ v.done in
      let same : length o.events ≡ length e.events = ap (λ (xs : List (List Line)). length xs) agree.0 in
      let before = h.done in
      let here = r.done in
      let tied : WorldTied t.system Anyhow Anyhow o.world e.world = agree.1 in
      let left : WorldTied t.system Anyhow Anyhow new.world e.world =
      subst (λ (w : World LastTold). WorldTied t.system Anyhow Anyhow w e.world) (sym r.world) tied in
      let right : WorldTied t.system Anyhow Anyhow new.world u.world =
      subst (λ (w : World MachineContext). WorldTied t.system Anyhow Anyhow new.world w) (sym world) left in
      record {
        system = r.system ∙ h.system ∙ sym system;
        lines = r.lines ∙ ap (λ (ls : List Line). last_or ls o.events) h.lines
            ∙ ap (λ (xs : List (List Line)). last_or t.lines xs) agree.0 ∙ sym lines;
        done = omega (arith, before, here, same, done);
        worlds = subst (λ (s : SystemTables). WorldTied s Anyhow Anyhow new.world u.world) (sym system) right;
      }

-- what came was done by both
pub stepped : (h new : HostedSystem) (t u : TextKernel) (g : Given) → refused h.kernel g ≡ None → new ≡ after h (Ok g)
    → HasFollowed code_meaning t (g ∷ []) u → InStep h.kernel t → InStep new.kernel u
stepped h new t u g free is f s =
    let r : Reaction LastTold = reaction h.kernel g in
    let now : new.kernel ≡ view_after h.kernel r =
    ap (λ (i : HostedSystem). i.kernel) is ∙ ap (λ (o : Option Refusal). after_unless o h.kernel r) free in
    together h.kernel new.kernel t u (g ∷ []) s f
    (subst (λ (i : ForeignKernel). HasRun h.kernel i (run_on h.kernel.world r alone)) (sym now) (one_event h.kernel r))

-- the text has only gone on within a stretch
pub gone_on : (k : ForeignKernel) (t u : TextKernel) → HasFollowed code_meaning t [] u → InStep k t → InStep k u
gone_on k t u f s = together k k t u [] s f (no_event k)

-- after setup
pub begun : (i : ImageTables) (bound : ℕ) (h : HostedSystem) (t : TextKernel) → IsHostedBy i h → IsTextOf i bound t
    → InStep h.kernel t
begun i bound h t hosted text =
    let sys : SystemTables = i.system in
    let F : Meaning LastTold = foreign_meaning h.kernel.body in
    let M : Meaning MachineContext = code_meaning i.code in
    let both = setup-tied sys Anyhow F 1 M bound (keeps_anyhow sys F 1 handed M bound) in
    let first : InStep (view_of_setup h.kernel.body 1 sys (setup sys F))
    (view_of_setup i.code bound sys (setup sys M)) =
    record { system = refl; lines = both.0; done = refl; worlds = both.1 } in
    let kernel : h.kernel ≡ view_of_setup h.kernel.body 1 sys (setup sys F) =
    hosted.kernel ∙ ap (λ (s : SystemTables). view_of_setup h.kernel.body 1 s (setup s F)) hosted.system in
    subst (λ (k : ForeignKernel). InStep k t) (sym kernel)
    (subst (λ (v : TextKernel). InStep (view_of_setup h.kernel.body 1 sys (setup sys F)) v) (sym text) first)
