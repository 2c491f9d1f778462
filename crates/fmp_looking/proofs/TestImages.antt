-- A test of a system, from that of its texts.
use Rattle.std.proofs.Common.{◌≡◌, ℕ, List, Option, Some, IfOk, Result, Ok, Err, ap, subst, sym}
use Rattle.std.specs.Prelude.{IsOkAnd}
use Rattle.fmp_base.specs.Systems.{tables_of}
use Rattle.fmp_files.specs.Deeds.{Deed}
use Rattle.fmp_files.specs.Outside.{Files}
use Rattle.fmp_looking.specs.declared.built_system.BuiltSystem.{BuiltSystem}
use Rattle.fmp_looking.specs.declared.testing.TestSources.{TestSources}
use Rattle.fmp_looking.specs.declared.wanted.ImageTest.{ImageTest}
use Rattle.fmp_looking.specs.declared.wanted.ReadTest.{ReadTest}
use Rattle.fmp_looking.specs.declared.wanted.Testing.{Testing}
use Rattle.fmp_looking.specs.Rates.{rates_named}
use Rattle.fmp_looking.specs.TestDeeds.{EndsTest, IsTestOf, IsTested, IsTextOf, SaysSome}
use Rattle.fmp_trials.specs.declared.choices.InterruptRate.{InterruptRate}

-- the text of a file, by other names of both
text_so : (files : Files) (name other text same : List ℕ) → name ≡ other → text ≡ same → IsTextOf files other same
    → IsTextOf files name text
text_so files name other text same is is_too h = rw is (rw is_too h)

pub ends_test : {E : Type 0} (files : Files) (built : BuiltSystem) (asked : Testing) (rates : List InterruptRate)
    (test : ImageTest) (sources : Result TestSources E) (before said after : Option (List Deed)) (status : ℕ)
    → rates_named (tables_of built.configured.now) asked.rates.now ≡ Some rates → IsTestOf built asked rates test
    → IfOk sources (λ s. IsTextOf files test.testing.src.now s.src.items)
    → IfOk sources (λ s. IsTextOf files test.expect.now s.expectations.items) → SaysSome before said
    → IsOkAnd sources (λ s. (read : ReadTest) × (read.test.now ≡ test) × (read.texts.src.now ≡ s.src.items)
    × (read.texts.expectations.now ≡ s.expectations.items) × IsTested read said after status)
    → EndsTest files built asked before after status
ends_test files built asked rates test (Ok s) before said after status named is src text says h =
    record {
      read = h.0;
      rates = rates;
      named = named;
      is_test = subst (λ (t : ImageTest). IsTestOf built asked rates t) (sym h.1) is;
      is_read =
          record {
            src = text_so files _ _ _ _ (ap (λ (t : ImageTest). t.testing.src.now) h.1) h.2 src;
            expectations = text_so files _ _ _ _ (ap (λ (t : ImageTest). t.expect.now) h.1) h.3 text;
          };
      said = said;
      says = says;
      tested = h.4;
    }
ends_test files built asked rates test (Err e) before said after status named is src text says h =
    absurd h
