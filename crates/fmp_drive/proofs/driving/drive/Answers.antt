use Rattle.std.proofs.Common.{◌≡◌, ◌∙◌, ℕ, Bool, List, [], ap, arith, refl, rules, subst, sym}
use Rattle.std.proofs.lemmas.List.{length_push}
use Rattle.std.specs.List.{AllByRecursion}
use Rattle.fmp_base.specs.declared.events.Event.{Event}
use Rattle.fmp_base.specs.declared.events.Line.{Line}
use Rattle.fmp_base.specs.Meanings.{Meaning}
use Rattle.fmp_kernel.specs.KernelViews.{KernelView}
use Rattle.fmp_trace.specs.StepsLaws.{IsStep}
use Rattle.fmp_drive.specs.Driving.{Course, HasRun, course_of, turn_after}
use Rattle.fmp_drive.specs.Plans.{waits_after_all}
use Rattle.fmp_drive.proofs.DriveLemmas.{all_more, run_more, run_none}
use Rattle.fmp_drive.proofs.TurnLemmas.{drive_more, no_turns, quiet_at, starts, turns_go_on}
use Rattle.fmp_drive.proofs.driving.drive.Goals as goal

none_yet : {B C : Type 0} (meaning : B → Meaning C) (k : KernelView B C) (es : List Event) → es ≡ []
    → HasRun meaning k k es
none_yet {B} {C} meaning k es e = subst (λ (xs : List Event). HasRun meaning k k xs) (sym e) (run_none meaning k)

no_steps : (processors : ℕ) (es : List Event) → es ≡ [] → AllByRecursion (IsStep processors) es
no_steps processors es e = subst (λ (xs : List Event). AllByRecursion (IsStep processors) xs) (sym e) tt

pub loop-turn-init : goal.loop-turn-init
loop-turn-init g c =
    let empty : c.new-steps.result.items ≡ [] = search rules in
    record {
      ran = none_yet g.B.Body.meaning c.args.kernel.now _ empty;
      steps = no_steps c.args.processors _ empty;
      count = omega arith;
      course = starts g.B.Body.meaning c.args.processors _ _ empty;
      random = λ none. none;
      stirred = refl;
      turns = λ none quiet. no_turns g.B.Body.meaning c.args.processors c.args.tasks _ _ empty;
    }

pub next-requires-clause-few : goal.next-requires-clause-few
next-requires-clause-few g c = omega (arith, c.loop-turn.invariant.ran.taken, c.loop-turn.invariant.count)

pub next-requires-clause-tasks : goal.next-requires-clause-tasks
next-requires-clause-tasks g c = rw c.loop-turn.invariant.ran.system c.requires.tasks

pub loop-turn-preserved : goal.loop-turn-preserved
loop-turn-preserved g c =
    let xs = c.loop-turn.steps.items in
    record {
      ran =
          rw c.in_ok-push.ensures.items
          (run_more g.B.Body.meaning c.args.kernel.now c.loop-turn.kernel c.next.new.kernel xs c.in-Some.e
          c.loop-turn.invariant.ran c.in-Some.ensures.taken.0);
      steps =
          rw c.in_ok-push.ensures.items
          (all_more (IsStep c.args.processors) xs c.in-Some.e c.loop-turn.invariant.steps c.in-Some.ensures.taken.1);
      count = rw c.in_ok-push.ensures.items (omega (arith, length_push xs c.in-Some.e, c.loop-turn.invariant.count));
      course =
          rw c.in_ok-push.ensures.items
          (drive_more g.B.Body.meaning c.args.processors (course_of c.args.kernel.now c.args.plan.now) xs c.in-Some.e
          c.loop-turn.kernel c.next.new.kernel c.loop-turn.plan c.done.new.self c.loop-turn.invariant.course
          c.in-Some.ensures.taken.0
          (c.done.ensures.turn ∙ ap (λ (n : ℕ). turn_after n c.args.processors c.in-Some.e) c.in-Some.ensures.turn)
          (c.done.ensures.ending
          ∙ ap (λ (ls : List Line). waits_after_all c.next.new.plan.ending.items ls) c.lines.ensures
          ∙ ap (λ (bs : List Bool). waits_after_all bs c.next.new.kernel.lines) c.in-Some.ensures.ending));
      random = λ none. c.done.ensures.random ∙ c.in-Some.ensures.random (c.loop-turn.invariant.random none);
      stirred = c.done.ensures.stirred ∙ c.in-Some.ensures.stirred ∙ c.loop-turn.invariant.stirred;
      turns = λ none quiet.
          rw c.in_ok-push.ensures.items
          (turns_go_on g.B.Body.meaning c.args.processors c.args.tasks (course_of c.args.kernel.now c.args.plan.now)
          (course_of c.loop-turn.kernel c.loop-turn.plan) xs c.in-Some.e c.loop-turn.invariant.course
          (c.loop-turn.invariant.turns none quiet)
          (c.in-Some.ensures.next (c.loop-turn.invariant.random none) (c.loop-turn.invariant.stirred ∙ quiet)));
    }

pub returns-in-None : goal.returns-in-None
returns-in-None g c =
    record {
      ran = rw c.in-None.ensures.taken.1 c.loop-turn.invariant.ran;
      steps = c.loop-turn.invariant.steps;
      few = omega (arith, c.loop-turn.invariant.count);
      kernel =
          c.in-None.ensures.taken.1
          ∙ ap (λ (x : Course g.row.B.Denot g.row.B-Ctx.Denot). x.kernel) c.loop-turn.invariant.course;
      turns = c.loop-turn.invariant.turns;
      stopped =
          quiet_at g.B.Body.meaning c.args.processors c.args.tasks c.args.plan.now.stirred c.loop-turn.kernel
          c.next.new.kernel c.loop-turn.plan _ c.loop-turn.invariant.course c.loop-turn.invariant.stirred
          c.in-None.ensures.taken c.in-None.ensures.none;
    }

pub returns : goal.returns
returns g c =
    record {
      ran = c.loop-turn.invariant.ran;
      steps = c.loop-turn.invariant.steps;
      few = omega (arith, c.loop-turn.invariant.count);
      kernel = ap (λ (x : Course g.row.B.Denot g.row.B-Ctx.Denot). x.kernel) c.loop-turn.invariant.course;
      turns = c.loop-turn.invariant.turns;
      stopped = omega (arith, c.loop-turn.invariant.count);
    }
