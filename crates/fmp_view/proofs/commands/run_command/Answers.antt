use Rattle.std.proofs.Common.{sym, ◌∙◌}
use Rattle.fmp_view.proofs.CommandLemmas.{ends_look, no_look}
use Rattle.fmp_view.specs.declared.asking.Asked.TheVariants as look
use Rattle.fmp_view.proofs.commands.run_command.Goals as goal

pub returns-in-Explore-clause-explore : goal.returns-in-Explore-clause-explore
returns-in-Explore-clause-explore g c = λ rows asks zero.
    record {
      exploring = c.in-Explore.exploring;
      is = rw c.in-Explore.is at asks;
      holds = c.run_explore.ensures.holds zero;
    }

pub returns-in-Look-clause-explore : goal.returns-in-Look-clause-explore
returns-in-Look-clause-explore g c = λ rows asks zero. absurd (rw c.in-Look.is at asks)

pub returns-in-Look-clause-diff : goal.returns-in-Look-clause-diff
returns-in-Look-clause-diff g c = λ rows asks done.
    let same = sym c.in-Look.is ∙ asks.1 in
    record {
      runs = asks.0;
      asked = asks.2;
      ends = ends_look _ c.in-Look.asked (look.Diff asks.0) _ _ _ same (c.run_look.ensures done);
    }

pub returns-in-Look-clause-why : goal.returns-in-Look-clause-why
returns-in-Look-clause-why g c = λ rows asks done.
    let same = sym c.in-Look.is ∙ asks.3 in
    record {
      run = asks.0;
      is_run = asks.4;
      why = record { at = asks.1; form = asks.2 };
      number = asks.5;
      form = asks.6;
      ends = ends_look _ c.in-Look.asked (look.Why asks.0 asks.1 asks.2) _ _ _ same (c.run_look.ensures done);
    }

pub returns-in-Look-clause-expect : goal.returns-in-Look-clause-expect
returns-in-Look-clause-expect g c = λ rows asks done.
    let same = sym c.in-Look.is ∙ asks.2 in
    record {
      run = asks.0;
      is_run = asks.3;
      expecting = asks.1;
      asked = asks.4;
      ends = ends_look _ c.in-Look.asked (look.Expect asks.0 asks.1) _ _ _ same (c.run_look.ensures done);
    }

pub returns-in-Look-clause-tests : goal.returns-in-Look-clause-tests
returns-in-Look-clause-tests g c = λ rows asks done.
    let same = sym c.in-Look.is ∙ asks.1 in
    record {
      testing = asks.0;
      asked = asks.2;
      ends = ends_look _ c.in-Look.asked (look.Test asks.0) _ _ _ same (c.run_look.ensures done);
    }

pub returns-in-Explore-clause-diff : goal.returns-in-Explore-clause-diff
returns-in-Explore-clause-diff g c = λ rows asks done. absurd (no_look _ _ (sym c.in-Explore.is ∙ asks.1))

pub returns-in-Explore-clause-why : goal.returns-in-Explore-clause-why
returns-in-Explore-clause-why g c = λ rows asks done. absurd (no_look _ _ (sym c.in-Explore.is ∙ asks.3))

pub returns-in-Explore-clause-expect : goal.returns-in-Explore-clause-expect
returns-in-Explore-clause-expect g c = λ rows asks done. absurd (no_look _ _ (sym c.in-Explore.is ∙ asks.2))

pub returns-in-Explore-clause-tests : goal.returns-in-Explore-clause-tests
returns-in-Explore-clause-tests g c = λ rows asks done. absurd (no_look _ _ (sym c.in-Explore.is ∙ asks.1))

pub returns-in-Explore-clause-explores : goal.returns-in-Explore-clause-explores
returns-in-Explore-clause-explores g c = λ rows asks.
    record {
      exploring = c.in-Explore.exploring;
      is = rw c.in-Explore.is at asks;
      keeps = c.run_explore.ensures.keeps;
      prints = c.run_explore.ensures.shown;
    }

pub returns-in-Look-clause-explores : goal.returns-in-Look-clause-explores
returns-in-Look-clause-explores g c = λ rows asks. absurd (rw c.in-Look.is at asks)
