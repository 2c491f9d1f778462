use Rattle.std.proofs.Common.{◌≡◌, ◌∙◌, List, ap, subst, sym}
use Rattle.fmp_expect.specs.Meaning.{Told}
use Rattle.fmp_expect.specs.Runs.{last_told, told_after}
use Rattle.fmp_expect.specs.Watches.{AreTold}
use Rattle.fmp_expect.proofs.Events.{told_done, told_kept, told_nothing}
use Rattle.fmp_expect.proofs.running.tell_one.Goals as goal

pub take-requires : goal.take-requires
take-requires g c = c.requires

pub returns-in-Done : goal.returns-in-Done
returns-in-Done g c =
    let k = c.args.kernel.now in
    let r = g.T.Coming.reaction k c.args.e in
    record {
      state = c.take.ensures.state;
      told = λ xs told are.
          let all : last_told c.take.new.kernel told ≡ told_after k r told =
          ap (λ v. last_told v told) c.take.ensures.state ∙ told_done k told r (sym c.in-Done.is ∙ c.take.ensures.effect) in
          subst (λ (ts : List Told). AreTold xs ts c.tell_last.new.checker) all (c.tell_last.ensures xs told are);
    }

pub returns-in-Kept : goal.returns-in-Kept
returns-in-Kept g c =
    let k = c.args.kernel.now in
    let r = g.T.Coming.reaction k c.args.e in
    record {
      state = c.take.ensures.state;
      told = λ xs told are.
          subst (λ (ts : List Told). AreTold xs ts c.args.checker.now)
          (told_kept k told r (sym c.in-Kept.is ∙ c.take.ensures.effect)) are;
    }

pub returns-in-Nothing : goal.returns-in-Nothing
returns-in-Nothing g c =
    let k = c.args.kernel.now in
    let r = g.T.Coming.reaction k c.args.e in
    record {
      state = c.take.ensures.state;
      told = λ xs told are.
          subst (λ (ts : List Told). AreTold xs ts c.args.checker.now)
          (told_nothing k told r (sym c.in-Nothing.is ∙ c.take.ensures.effect)) are;
    }
