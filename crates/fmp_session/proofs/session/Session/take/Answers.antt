use Rattle.std.proofs.Common.{ℕ, ◌≡◌, ◌∙◌, List, [], ◌∷◌, length, length-append, ap, ap₂, arith, refl, rules, sym, take}
use Rattle.std.proofs.Common.{vec_len}
use Rattle.std.proofs.Math.Seq.{take-append_seam}
use Rattle.fmp_base.specs.declared.events.Event.{Event}
use Rattle.fmp_base.specs.Steps.{IsTaken}
use Rattle.fmp_replay.proofs.Replaying.{step_of_replay}
use Rattle.fmp_session.specs.declared.session.TakenEvent.TheVariants as taken
use Rattle.fmp_session.specs.Sessions.{taken_by}
use Rattle.fmp_session.proofs.Following.{Kernels, done_taken, kept_taken, kernel_more, legal_more, step_on, taken_done}
use Rattle.fmp_session.proofs.Following.{taken_kept, taken_nothing}
use Rattle.fmp_session.proofs.Taking.{event_taken, nothing_taken}
use Rattle.fmp_session.proofs.session.Session.take.Goals as goal

pub returns-in-Done-clause-session : goal.returns-in-Done-clause-session
returns-in-Done-clause-session c =
    let s = c.args.self.now in
    let es = s.events.items in
    let does : IsTaken (step_on s.kernel c.args.e) = done_taken _ (sym c.in-Done.is ∙ c.step.ensures.effect) in
    let was : s.kernel.taken ≡ length es = ap (λ (k : Kernels). k.taken) c.requires.kernel in
    record {
      few = rw c.in_ok-push.ensures.items
          (omega (arith, length-append es (c.args.e ∷ []), c.taken.ensures.value, was, c.if-taken-ge-MOST.false));
      legal = rw c.in_ok-push.ensures.items
          (legal_more s.image.now s.bound es c.args.e s.kernel c.step.new.self c.requires.legal c.requires.kernel does
          c.step.ensures.state);
      kernel = rw c.in_ok-push.ensures.items
          (kernel_more s.image.now s.bound es c.args.e s.kernel c.step.new.self c.requires.legal c.requires.kernel
          does c.step.ensures.state);
    }

pub returns-in-Done-clause-exact : goal.returns-in-Done-clause-exact
returns-in-Done-clause-exact c =
    let s = c.args.self.now in
    taken_done (step_on s.kernel c.args.e) (sym c.in-Done.is ∙ c.step.ensures.effect)
    ∙ ap taken_by (step_of_replay s.image.now s.bound s.events.items c.args.e s.kernel c.requires.kernel)

pub returns-in-Kept-clause-session : goal.returns-in-Kept-clause-session
returns-in-Kept-clause-session c =
    let s = c.args.self.now in
    let es = s.events.items in
    let does : IsTaken (step_on s.kernel c.args.e) = kept_taken _ (sym c.in-Kept.is ∙ c.step.ensures.effect) in
    let was : s.kernel.taken ≡ length es = ap (λ (k : Kernels). k.taken) c.requires.kernel in
    record {
      few = rw c.in_ok-push.ensures.items
          (omega (arith, length-append es (c.args.e ∷ []), c.taken.ensures.value, was, c.if-taken-ge-MOST.false));
      legal = rw c.in_ok-push.ensures.items
          (legal_more s.image.now s.bound es c.args.e s.kernel c.step.new.self c.requires.legal c.requires.kernel does
          c.step.ensures.state);
      kernel = rw c.in_ok-push.ensures.items
          (kernel_more s.image.now s.bound es c.args.e s.kernel c.step.new.self c.requires.legal c.requires.kernel
          does c.step.ensures.state);
    }

pub returns-in-Kept-clause-exact : goal.returns-in-Kept-clause-exact
returns-in-Kept-clause-exact c =
    let s = c.args.self.now in
    taken_kept (step_on s.kernel c.args.e) (sym c.in-Kept.is ∙ c.step.ensures.effect)
    ∙ ap taken_by (step_of_replay s.image.now s.bound s.events.items c.args.e s.kernel c.requires.kernel)

pub returns-in-Nothing-clause-exact : goal.returns-in-Nothing-clause-exact
returns-in-Nothing-clause-exact c =
    let s = c.args.self.now in
    taken_nothing (step_on s.kernel c.args.e) (sym c.in-Nothing.is ∙ c.step.ensures.effect)
    ∙ ap taken_by (step_of_replay s.image.now s.bound s.events.items c.args.e s.kernel c.requires.kernel)

pub returns-in-Done-clause-takes : goal.returns-in-Done-clause-takes
returns-in-Done-clause-takes c =
    record {
      image = refl;
      bound = refl;
      events =
          event_taken c.args.self.now c.args.e c.push.new.self.items taken.Done (returns-in-Done-clause-exact c)
          c.in_ok-push.ensures.items (returns-in-Done-clause-session c).few;
    }

pub returns-in-Kept-clause-takes : goal.returns-in-Kept-clause-takes
returns-in-Kept-clause-takes c =
    record {
      image = refl;
      bound = refl;
      events =
          event_taken c.args.self.now c.args.e c.push.new.self.items taken.Kept (returns-in-Kept-clause-exact c)
          c.in_ok-push.ensures.items (returns-in-Kept-clause-session c).few;
    }

pub returns-in-Nothing-clause-takes : goal.returns-in-Nothing-clause-takes
returns-in-Nothing-clause-takes c =
    let s = c.args.self.now in
    let count : vec_len s.events ≡ length s.events.items = search rules in
    let same : c.truncate.new.self.items ≡ s.events.items =
    c.truncate.ensures.items ∙ ap₂ (λ (n : ℕ) (es : List Event). take n es) (c.len-count.ensures ∙ count)
    c.in_ok-push.ensures.items ∙ take-append_seam s.events.items (c.args.e ∷ []) in
    record {
      image = refl;
      bound = refl;
      events =
          nothing_taken s.image.now s.bound s.events.items c.truncate.new.self.items c.args.e
          (returns-in-Nothing-clause-exact c) same;
    }
