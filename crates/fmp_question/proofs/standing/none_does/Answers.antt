use Rattle.std.proofs.Common.{◌≡◌, IsTrue, refl, rules, subst, sym, true}
use Rattle.fmp_drive.specs.Driving.{AllStand}
use Rattle.fmp_drive.specs.declared.trying.EventSource.TheVariants.{Interrupt}
use Rattle.fmp_question.proofs.StandLemmas.{none_does_of}
use Rattle.fmp_question.proofs.standing.none_does.Goals as goal

pub returns-then-not-interrupts : goal.returns-then-not-interrupts
returns-then-not-interrupts g c =
    let yes : IsTrue c.all_stand.result = search rules in (
      λ _. none_does_of g.B.Body.meaning c.args.kernel.now c.all_stand.new.kernel c.args.processors c.args.interrupts
          (c.all_stand.ensures.same yes) (c.all_stand.ensures.stand.0 yes) (λ t. absurd (cc)),
      λ _. refl,
    )

pub returns : goal.returns
returns g c =
    let yes : IsTrue c.all_stand.result = search rules in
    let more : c.args.interrupts ≡ true = search rules in
    let same = c.all_stand.ensures.same yes in (
      λ last. none_does_of g.B.Body.meaning c.args.kernel.now c.all_stand.new.kernel c.args.processors
          c.args.interrupts same (c.all_stand.ensures.stand.0 yes) (λ _. c.all_stand-2.ensures.stand.0 last),
      λ none. c.all_stand-2.ensures.stand.1 (subst (λ k. AllStand g.B.Body.meaning k Interrupt 1 33) (sym same)
          (none.requests more)),
    )
