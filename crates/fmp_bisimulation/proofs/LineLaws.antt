-- Lines that differ in the number of the clock at most, and what an event's own lines change.
use Rattle.std.proofs.Common.{◌≡◌, ℕ, List, [], ◌∷◌, ◌++◌, Option, Some, None, true, false, refl, ◌∙◌, ap, length, cond}
use Rattle.std.proofs.lemmas.List.{append_assoc}
use Rattle.fmp_base.specs.declared.bodies.Held.{Held}
use Rattle.fmp_base.specs.declared.events.Line.{Line}
use Rattle.fmp_base.specs.declared.events.Line.TheVariants as line
use Rattle.fmp_base.specs.declared.states.Handler.{Handler}
use Rattle.fmp_base.specs.declared.states.Processor.{Processor}
use Rattle.fmp_base.specs.Meanings.{Meaning, Contexts, contexts_after, contexts_after_all}
use Rattle.fmp_base.specs.Queues.{top}
use Rattle.fmp_base.specs.Settles.{all_settled, dispatch_lines, dispatched, handler_to_begin, is_dispatch_held}
use Rattle.fmp_base.specs.Settles.{is_same_task, settled, settled_on, settled_with, without_pending}
use Rattle.fmp_base.specs.States.{KernelState, Progress, places_from, processor_at, with_processor}
use Rattle.fmp_base.specs.Systems.{SystemTables}
use Rattle.fmp_bisimulation.specs.Closed.{timeless, all_timeless}

pub timeless-append : (xs ys : List Line) → all_timeless (xs ++ ys) ≡ all_timeless xs ++ all_timeless ys
timeless-append [] ys = refl
timeless-append (x ∷ xs) ys = ap (λ (ls : List Line). timeless x ∷ ls) (timeless-append xs ys)

-- contexts do not see the number of the clock
after-timeless : {C : Type 0} (sys : SystemTables) (M : Meaning C) (cs : Contexts (Held C)) (l : Line)
    → contexts_after sys M cs l ≡ contexts_after sys M cs (timeless l)
after-timeless sys M cs (line.Tick clock) = refl
after-timeless sys M cs l = refl

pub after_all-timeless : {C : Type 0} (sys : SystemTables) (M : Meaning C) (cs : Contexts (Held C)) (ls : List Line)
    → contexts_after_all sys M cs ls ≡ contexts_after_all sys M cs (all_timeless ls)
after_all-timeless sys M cs [] = refl
after_all-timeless {C} sys M cs (l ∷ ls) =
    ap (λ (ds : Contexts (Held C)). contexts_after_all sys M ds ls) (after-timeless sys M cs l)
    ∙ after_all-timeless sys M (contexts_after sys M cs (timeless l)) ls

-- these lines first
abbrev pub behind : List Line → Progress → Progress
behind own g = record { state = g.state; lines = own ++ g.lines }

regrouped : (own : List Line) (s : KernelState) (ls ms : List Line)
    → record { state = s; lines = (own ++ ls) ++ ms } ≡ behind own (record { state = s; lines = ls ++ ms })
regrouped own s ls ms = ap (λ (l : List Line). behind [] (record { state = s; lines = l })) (append_assoc own ls ms)

dispatched-behind : (own : List Line) (g : Progress) (p : ℕ) (cpu : Processor) (t : Option ℕ)
    → dispatched (behind own g) p cpu t ≡ behind own (dispatched g p cpu t)
dispatched-behind own g p cpu t =
    regrouped own (with_processor g.state p (record cpu { run = t })) g.lines
    (dispatch_lines (is_same_task cpu.run t) p t)

settled_with-behind : (b : Option Handler) (own : List Line) (g : Progress) (p : ℕ) (cpu : Processor)
    → settled_with b (behind own g) p cpu ≡ behind own (settled_with b g p cpu)
settled_with-behind (Some h) own g p cpu =
    regrouped own (with_processor (without_pending g.state h) p (record cpu { handler = Some h })) g.lines
    (line.Begins p h ∷ [])
settled_with-behind None own g p cpu =
    elim (is_dispatch_held cpu) as (λ b. cond b (behind own g) (dispatched (behind own g) p cpu (top g.state p))
    ≡ behind own (cond b g (dispatched g p cpu (top g.state p)))) [
      | true ↦ refl
      | false ↦ dispatched-behind own g p cpu (top g.state p)
    ]

all_settled-behind : (sys : SystemTables) (own : List Line) (g : Progress) (ps : List ℕ)
    → all_settled sys (behind own g) ps ≡ behind own (all_settled sys g ps)
all_settled-behind sys own g [] = refl
all_settled-behind sys own g (p ∷ ps) =
    let cpu = processor_at g.state p in
    ap (λ (z : Progress). all_settled sys z ps) (settled_with-behind (handler_to_begin sys g.state p cpu) own g p cpu)
    ∙ all_settled-behind sys own (settled_on sys g p cpu) ps

-- settling goes on behind the lines that there are
pub settled-behind : (sys : SystemTables) (own : List Line) (g : Progress) → settled sys (behind own g)
    ≡ behind own (settled sys g)
settled-behind sys own g = all_settled-behind sys own g (places_from 0 (length g.state.processors))
