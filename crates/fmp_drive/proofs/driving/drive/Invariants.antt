use Rattle.std.proofs.Common.{◌≡◌, None, false, length}
use Rattle.std.specs.List.{AllByRecursion}
use Rattle.fmp_trace.specs.StepsLaws.{IsStep}
use Rattle.fmp_drive.specs.Driving.{AreInTurn, HasRun, course_after_all, course_of}
use Rattle.fmp_drive.proofs.driving.drive.Given as goal

abbrev pub invariant-loop-turn : goal.invariant-loop-turn
invariant-loop-turn g l =
    record {
      ran : HasRun g.B.Body.meaning l.fn.kernel l.kernel l.steps.items;
      steps : AllByRecursion (IsStep l.processors) l.steps.items;
      count : length l.steps.items ≡ l._turn;
      course :
          course_of l.kernel l.plan
          ≡ course_after_all g.B.Body.meaning l.processors (course_of l.fn.kernel l.fn.plan) l.steps.items;
      random : l.fn.plan.random ≡ None → l.plan.random ≡ None;
      stirred : l.plan.stirred ≡ l.fn.plan.stirred;
      turns :
          l.fn.plan.random ≡ None → l.fn.plan.stirred ≡ false
          → AreInTurn g.B.Body.meaning l.processors l.tasks (course_of l.fn.kernel l.fn.plan) l.steps.items;
    }
