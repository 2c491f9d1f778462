-- What is answered to what comes.
use Rattle.std.proofs.Common.{◌≡◌, ◌∙◌, ap, sym, subst, refl, [], ◌∷◌, Option, Some, None, Result, Ok, Err}
use Rattle.fmp_base.specs.declared.events.Effect.{Effect}
use Rattle.fmp_base.specs.States.{KernelState}
use Rattle.fmp_base.specs.Steps.{effect_of}
use Rattle.fmp_instructions.specs.Machine.{code_meaning}
use Rattle.fmp_outside.specs.declared.given.Given.{Given}
use Rattle.fmp_foreign.specs.declared.requests.Refusal.{Refusal}
use Rattle.fmp_foreign.specs.Following.{HasFollowed}
use Rattle.fmp_foreign.specs.declared.hosted.HostedSystem.{HostedSystem}
use Rattle.fmp_foreign.specs.Hosting.{ForeignKernel, after, reaction, refused, restarted}
use Rattle.fmp_kernel.specs.Restarts.{counts_restarted}
use Rattle.fmp_tasks.specs.Restarts.{clock_restarted}
use Rattle.fmp_checked.specs.declared.following.Objection.{Objection}
use Rattle.fmp_checked.specs.declared.following.Objection.TheVariants as objection
use Rattle.fmp_checked.specs.Checking.{InStep, IsChecked, IsJudged, IsObjection, TextKernel, hosted_after}
use Rattle.fmp_checked.proofs.Steps.{gone_on}

module _ (k : ForeignKernel) (t u : TextKernel) (g : Given) where
  pub is_refused : (why : Refusal) (o : Option Refusal) → o ≡ refused k g → o ≡ Some why
      → IsChecked (refused k g) k t g t (Err (objection.Refused why))
  is_refused why o e some =
      subst (λ (x : Option Refusal). IsChecked x k t g t (Err (objection.Refused why))) (sym some ∙ e) (refl, refl)

  pub is_objected : (why : Objection) (o : Option Refusal) → o ≡ refused k g → o ≡ None → IsObjection t g u why
      → IsChecked (refused k g) k t g u (Err why)
  is_objected why o e none j = subst (λ (x : Option Refusal). IsChecked x k t g u (Err why)) (sym none ∙ e) j

  pub objected_step : (why : Objection) → IsObjection t g u why → InStep k t → InStep k u
  objected_step (objection.Refused w) j s = absurd j
  objected_step objection.Differs j s = gone_on k t u j.0 s
  objected_step objection.Long j s = gone_on k t u j.0 s
  objected_step objection.Full j s = gone_on k t u j.0 s

  pub is_followed : (a : Result Effect Objection) → refused k g ≡ None → a ≡ Ok (effect_of (reaction k g))
      → HasFollowed code_meaning t (g ∷ []) u → IsChecked (refused k g) k t g u a
  is_followed a free e f =
      subst (λ (x : Option Refusal). IsChecked x k t g u a) (sym free)
      (subst (λ (b : Result Effect Objection). IsJudged k t g u b) (sym e) (refl, f))

pub is_hosted : (h new : HostedSystem) (g : Given) (e : Effect) (a : Result Effect Objection) → a ≡ Ok e → new
    ≡ after h (Ok g)
    → new ≡ hosted_after h g a
is_hosted h new g e a done is = is ∙ sym (ap (λ (b : Result Effect Objection). hosted_after h g b) done)

-- both stay in step where the counts of both begin again
both_restarted : (k : ForeignKernel) (t : TextKernel) → InStep k t → InStep (counts_restarted k) (counts_restarted t)
both_restarted k t s =
    record {
      system = s.system;
      lines = s.lines;
      done = refl;
      worlds = record {
        states = ap (λ (x : KernelState). clock_restarted x) s.worlds.states;
        contexts = s.worlds.contexts;
      };
    }

pub restarted_step : (h new : HostedSystem) (t u : TextKernel) → new ≡ restarted h → u ≡ counts_restarted t
    → InStep h.kernel t
    → InStep new.kernel u
restarted_step h new t u system text s =
    subst (λ (x : HostedSystem). InStep x.kernel u) (sym system)
    (subst (λ (x : TextKernel). InStep (restarted h).kernel x) (sym text) (both_restarted h.kernel t s))
