-- What a machine makes of what came, and the first machine of an image.
use Rattle.std.proofs.Common.{◌≡◌, ◌∙◌, ap, sym, subst, refl, ℕ, List, [], ◌∷◌, Option, Some, None, IfSome, Result, Ok}
use Rattle.std.proofs.Common.{Err}
use Rattle.fmp_base.specs.declared.events.Effect.{Effect}
use Rattle.fmp_base.specs.Steps.{effect_of}
use Rattle.fmp_instructions.specs.Machine.{code_meaning}
use Rattle.fmp_checked.specs.declared.following.Objection.{Objection}
use Rattle.fmp_checked.specs.declared.following.Objection.TheVariants as objection
use Rattle.fmp_checked.specs.Checking.{CheckedView, InStep, IsBegun, IsChecked, TextKernel}
use Rattle.fmp_checked.proofs.Steps.{stepped}
use Rattle.fmp_foreign.specs.declared.requests.Refusal.{Refusal}
use Rattle.fmp_foreign.specs.Following.{HasFollowed}
use Rattle.fmp_foreign.specs.declared.hosted.HostedSystem.{HostedSystem}
use Rattle.fmp_foreign.specs.Hosting.{IsNew, after, answer, answer_unless, reaction, refused}
use Rattle.fmp_image_bytes.specs.Images.{ImageTables, image_at}
use Rattle.fmp_image_bytes.specs.Fields.{Fails}
use Rattle.fmp_image_bytes.specs.declared.fault.LoadFault.{LoadFault}
use Rattle.fmp_image_bytes.specs.declared.fault.LoadFault.TheVariants as load_fault
use Rattle.fmp_outside.specs.declared.given.Given.{Given}
use Rattle.fmp_c.specs.declared.machine.Machine.{Machine}
use Rattle.fmp_c.specs.declared.records.FmpOutcome.{FmpOutcome}
use Rattle.fmp_c.specs.Exports.{HasAgreed, HasObjected, IsCheckedMachine, IsConsulted, IsFirst, IsFirstChecked}
use Rattle.fmp_c.specs.Exports.{IsFirstOf, IsTakenBy, IsTakenChecked, answered, checked_number, last_by, machine_after}
use Rattle.fmp_c.specs.Exports.{outcome_of}
use Rattle.fmp_c.specs.Records.{answer_number}

-- where there is no text, or it agrees
module _ (old new last : Machine) (g : Given) (p : ℕ) (out : FmpOutcome) (number : ℕ) where
  pub agreed_taken : (x : Option TextKernel) (o : Option Objection) → IsConsulted x old g new o → o ≡ None
      → last ≡ machine_after new (Ok g)
      → out ≡ outcome_of (machine_after new (Ok g)).hosted.kernel p (answer new.hosted.kernel (Ok g))
      → number ≡ answer_number (answer new.hosted.kernel (Ok g)) → IsTakenBy x old g p (Some last) out number
  agreed_taken None None same none is told n = (
    ap (λ (m : Machine). Some m) is ∙ ap (λ (m : Machine). Some (machine_after m (Ok g))) same,
    told ∙ ap
        (λ (m : Machine). outcome_of (machine_after m (Ok g)).hosted.kernel p (answer m.hosted.kernel (Ok g))) same,
    n ∙ ap (λ (m : Machine). answer_number (answer m.hosted.kernel (Ok g))) same,
  )
  agreed_taken None (Some why) h none is told n = absurd h
  agreed_taken (Some t) (Some why) h none is told n = absurd (cc none)
  agreed_taken (Some t) None a none is told n =
      let k = old.hosted.kernel in
      let r = reaction k g in
      let asked : Machine = record old { text = Some a.text } in
      let free : answer k (Ok g) ≡ Ok (effect_of r) = ap (λ (x : Option Refusal). answer_unless x r) a.free in
      let done : HostedSystem = after old.hosted (Ok g) in
      record {
        text = a.text;
        answer = Ok (effect_of r);
        checked =
            subst (λ (x : Option Refusal). IsChecked x k t g a.text (Ok (effect_of r))) (sym a.free) (refl, a.followed);
        step = λ s. stepped old.hosted done t a.text g a.free refl a.followed s;
        machine = ap (λ (m : Machine). Some m)
            (is ∙ ap (λ (m : Machine). machine_after m (Ok g)) a.machine
            ∙ ap
            (λ (x : Result Effect Refusal). record asked { hosted = done; last = last_by x g old.last }) free);
        outcome = told
            ∙ ap
            (λ (m : Machine). outcome_of (machine_after m (Ok g)).hosted.kernel p (answer m.hosted.kernel (Ok g)))
            a.machine
            ∙ ap (λ (x : Result Effect Refusal). outcome_of done.kernel p x) free;
        number_is = n ∙ ap (λ (m : Machine). answer_number (answer m.hosted.kernel (Ok g))) a.machine
            ∙ ap (λ (x : Result Effect Refusal). answer_number x) free;
      }

-- what an objection leaves as the last that came
still : (why : Objection) (g : Given) (before : Option Given) → before ≡ last_by (answered (Err why)) g before
still (objection.Refused w) g before = refl
still objection.Differs g before = refl
still objection.Long g before = refl
still objection.Full g before = refl

-- where it objects
module _ (old new : Machine) (g : Given) (p : ℕ) (out : FmpOutcome) (number : ℕ) where
  objected : (t : TextKernel) (why : Objection) → HasObjected t old g new why
      → out ≡ outcome_of new.hosted.kernel p (answered (Err why)) → number ≡ checked_number (Err why)
      → IsTakenChecked t old g p (Some new) out number
  objected t why h told n =
      record {
        text = h.text;
        answer = Err why;
        checked = h.checked;
        step = h.step;
        machine = ap (λ (m : Machine). Some m)
            (h.machine
            ∙ ap (λ (l : Option Given). record old { text = Some h.text; last = l }) (still why g old.last));
        outcome = told
            ∙ ap (λ (m : Machine). outcome_of m.hosted.kernel p (answered (Err why))) h.machine;
        number_is = n;
      }

  pub objected_taken : (x : Option TextKernel) (o : Option Objection) (why : Objection) → IsConsulted x old g new o
      → o ≡ Some why → out ≡ outcome_of new.hosted.kernel p (answered (Err why)) → number ≡ checked_number (Err why)
      → IsTakenBy x old g p (Some new) out number
  objected_taken None None why h some told n = absurd (cc some)
  objected_taken None (Some w) why h some told n = absurd h
  objected_taken (Some t) None why h some told n = absurd (cc some)
  objected_taken (Some t) (Some w) why h some told n =
      objected t why (subst (λ (v : Objection). HasObjected t old g new v) (cc some) h) told n

-- what the text of a machine says
module _ (old new : Machine) (g : Given) (t u : TextKernel) where
  pub consulted : (o : Option Objection) → old.text ≡ Some t → new ≡ record old { text = Some u }
      → (o ≡ None → refused old.hosted.kernel g ≡ None) → (o ≡ None → HasFollowed code_meaning t (g ∷ []) u)
      → IfSome o (λ why. IsChecked (refused old.hosted.kernel g) old.hosted.kernel t g u (Err why))
      → IfSome o (λ why. InStep old.hosted.kernel t → InStep old.hosted.kernel u) → IsConsulted old.text old g new o
  consulted None some is free followed checked step =
      subst (λ (x : Option TextKernel). IsConsulted x old g new None) (sym some)
      (record { text = u; free = free refl; followed = followed refl; machine = is })
  consulted (Some why) some is free followed checked step =
      subst (λ (x : Option TextKernel). IsConsulted x old g new (Some why)) (sym some)
      (record { text = u; checked = checked; step = step; machine = is })

  pub none_consulted : old.text ≡ None → new ≡ old → IsConsulted old.text old g new None
  none_consulted none is = subst (λ (x : Option TextKernel). IsConsulted x old g new None) (sym none) is

pub first_plain : (text : List ℕ) (h : HostedSystem) (m b : Machine) → IsNew text h → m.hosted ≡ h → m.text ≡ None
    → m.last ≡ None
    → b ≡ m → IsFirst text b
first_plain text h m b new is none last same =
    subst (λ (x : Machine). IsFirst text x) (sym same)
    (subst (λ (x : HostedSystem). IsNew text x) (sym is) new, none, last)

pub first_of : (bound : ℕ) (i : ImageTables) (c : CheckedView) (m : Machine) → IsBegun i bound c.hosted c.text
    → IsCheckedMachine c.hosted c.text m → IsFirstOf i bound m
first_of bound i c m begun machine = record { hosted = c.hosted; text = c.text; begun = begun; machine = machine }

pub first_boxed : (bound : ℕ) (i : ImageTables) (m b : Machine) → IsFirstOf i bound m → b ≡ m → IsFirstOf i bound b
first_boxed bound i m b first same = subst (λ (x : Machine). IsFirstOf i bound x) (sym same) first

pub first_checked : (bytes : List ℕ) (bound : ℕ) (i : ImageTables) (m : Machine) → image_at bytes ≡ Ok i
    → IsFirstOf i bound m
    → IsFirstChecked bytes bound m
first_checked bytes bound i m spelled first = record { image = i; spelled = spelled; first = first }

pub memory_fails : (bytes : List ℕ) (fault : LoadFault) → fault ≡ load_fault.Memory → Fails fault (image_at bytes)
memory_fails bytes fault is = subst (λ (f : LoadFault). Fails f (image_at bytes)) (sym is) tt
