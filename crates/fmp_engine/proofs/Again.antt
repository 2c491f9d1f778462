-- A simulation over the steps text of a journal that threads made prints the same.
use Rattle.std.proofs.Common.{◌≡◌, ℕ, ◌+◌, ◌<◌, ◌≤◌, List, [], ◌∷◌, Ok, nat_le, true, sym, subst, arith}
use Rattle.std.proofs.lemmas.Bool.{leb-true}
use Rattle.std.proofs.lemmas.List.Elements.{All-tail}
use Rattle.std.specs.List.{All, AllByRecursion}
use Rattle.fmp_base.specs.declared.events.Event.{Event}
use Rattle.fmp_base.specs.declared.events.Event.TheVariants.{Run, Tick, Int}
use Rattle.fmp_hostrun.specs.Counts.{IsEventOf}
use Rattle.fmp_hostrun.specs.declared.turns.Load.{Load}
use Rattle.fmp_image_bytes.proofs.Names.{and_true}
use Rattle.fmp_image_bytes.specs.Fields.{in_range}
use Rattle.fmp_trace.specs.Steps.{steps_of, steps_text}
use Rattle.fmp_trace.specs.StepsLaws.{IsStep, PrintedStepsReadBack}
use Rattle.fmp_engine.specs.declared.counts.EventCounts.{EventCounts}
use Rattle.fmp_engine.specs.declared.hosting.Workload.{Workload}
use Rattle.fmp_engine.specs.Hosting.{Hosts, IsWorkload, load_for}
use Rattle.fmp_engine.specs.Simulations.{Simulates}

a_step : (load : Load) (e : Event) → 1 ≤ load.interrupt → load.interrupt ≤ 32 → IsEventOf load e
    → IsStep load.processors e
a_step load (Run p) low high is = is
a_step load Tick low high is = tt
a_step load (Int i) low high is = (omega (arith, is, low), omega (arith, is, high))

all_steps : (load : Load) (es : List Event) → 1 ≤ load.interrupt → load.interrupt ≤ 32 → All (IsEventOf load) es
    → AllByRecursion (IsStep load.processors) es
all_steps load [] low high all = tt
all_steps load (e ∷ es) low high all = (
  a_step load e low high (all 0 e (omega arith)),
  all_steps load es low high (All-tail (IsEventOf load) e es all),
)

few_processors : (n : ℕ) → in_range 1 8 n ≡ true → n < 256
few_processors n fits = let high : n ≤ 8 = leb-true n 8 (and_true (nat_le 1 n) (nat_le n 8) fits).1 in omega
    (arith, high)

pub simulates_again : (image : List ℕ) (work : Workload) (file out : List ℕ) (counts : EventCounts)
    → PrintedStepsReadBack → IsWorkload work → Hosts image work file out counts → Simulates image file work.bound [] out
simulates_again image work file out counts law w h =
    let processors : ℕ = h.loaded.system.processors in
    let read : steps_of processors (steps_text h.journal) ≡ Ok h.journal =
    law processors h.journal (few_processors processors h.spelled.lawful.processors)
    (all_steps (load_for h.loaded work) h.journal w.interrupt_low w.interrupt_high h.made.counted.each)
    (omega (arith, h.made.count, h.made.fits.most)) in
    record {
      loaded = h.loaded;
      spelled = h.spelled;
      events = h.journal;
      read = subst (λ (text : List ℕ). steps_of processors text ≡ Ok h.journal) (sym h.steps) read;
      text = h.text;
    }
