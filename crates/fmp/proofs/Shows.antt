-- How a run ends of a command that writes no file.
use Rattle.std.proofs.Common.{◌≡◌, ℕ, refl, sym, subst, ◌∙◌, append-nil, Bool, IsTrue, List, [], Option, None, IfSome}
use Rattle.std.proofs.Common.{true≢false}
use Rattle.std.specs.Prelude.{codes}
use Rattle.fmp.specs.declared.asking.Cmd.{Cmd}
use Rattle.fmp.specs.declared.asking.Cmd.TheVariants as command
use Rattle.fmp_engine.specs.Counts.{CountsSteps}
use Rattle.fmp_engine.specs.declared.counts.EventCounts.{EventCounts}
use Rattle.fmp_files.specs.Deeds.{Deed, Does}
use Rattle.fmp_files.specs.declared.failure.Failure.{Failure}
use Rattle.fmp_files.specs.Endings.{IsFailureOf, SaysFailure, all_printed, some_printed}
use Rattle.fmp_files.specs.Outside.{Files}
use Rattle.fmp_files.specs.Prints.{Prints}
use Rattle.fmp_files.specs.PrintsLaws.{does_nothing}
use Rattle.fmp.specs.Commands.{inputs_of, output_of}
use Rattle.fmp.specs.declared.perform.Exit.{Exit}
use Rattle.fmp.specs.declared.perform.Exit.TheVariants.{Failed}
use Rattle.fmp.specs.Messages.{SaysExit}
use Rattle.fmp.specs.Performed.{IsWhyNot, status_of}
use Rattle.fmp.specs.Printing.{PrintsFront}
use Rattle.fmp.specs.Runs.{AreInputs, CarriedOut, EndsCommand, IsNoneOf, KeepsInputs, done, failed, faulty, unread}
use Rattle.fmp.specs.Runs.{SaysWhatCame, tells, writes_to}
use Rattle.fmp.proofs.Entering.{some≢none}

no_events : EventCounts
no_events = record { runs = 0; ticks = 0; interrupts = 0 }

-- where no file is written, nothing came
nothing_told : (asked : Cmd) → output_of asked ≡ None → (after : Option (List Deed))
    → SaysWhatCame asked no_events after after
nothing_told (command.Check config tasks) fileless after = refl
nothing_told (command.Build config tasks image) fileless after = refl
nothing_told (command.Sim image steps bound) fileless after = refl
nothing_told (command.Host image journal turns ticks bound tick_us interrupt) fileless after =
    absurd (some≢none _ fileless)
nothing_told command.Stored fileless after = refl

-- and no events are told
none_counted : (asked : Cmd) → output_of asked ≡ None → IsTrue (tells asked) → CountsSteps [] no_events
none_counted (command.Check config tasks) fileless told = absurd (true≢false (sym told))
none_counted (command.Build config tasks image) fileless told = absurd (true≢false (sym told))
none_counted (command.Sim image steps bound) fileless told = absurd (true≢false (sym told))
none_counted (command.Host image journal turns ticks bound tick_us interrupt) fileless told =
    absurd (some≢none _ fileless)
none_counted command.Stored fileless told = absurd (true≢false (sym told))

module _ (files : Files) (can_fail : Bool) (before : Option (List Deed)) (cmd : Cmd)
    (fileless : output_of cmd ≡ None) where
  -- it writes over nothing that it reads
  pub kept : KeepsInputs files cmd
  kept = subst (λ (o : Option (List ℕ)). IfSome o (IsNoneOf files (inputs_of cmd))) (sym fileless) tt

  no_file : Does before (writes_to (output_of cmd) []) before
  no_file = subst (λ (o : Option (List ℕ)). Does before (writes_to o []) before) (sym fileless) (does_nothing before)

  module _ (inputs : List (List ℕ)) (read : AreInputs files cmd inputs) where
    carried : (after : Option (List Deed)) (left : List ℕ) (p : PrintsFront cmd inputs before after left)
        → CarriedOut files cmd before before p.text no_events
    carried after left p = record {
      file = [];
      performed = record { inputs = inputs; read = read; made = p.made };
      written = no_file;
      counted = none_counted cmd fileless;
    }

    -- all of it is printed
    pub ends_all : (after : Option (List Deed)) (status : ℕ) → PrintsFront cmd inputs before after [] → status ≡ 0
        → EndsCommand files can_fail cmd before after status
    ends_all after status p zero =
        done p.text no_events before after kept (carried after [] p)
        (all_printed (subst (λ (bytes : List ℕ). Prints before bytes after)
        (sym (p.text_is ∙ append-nil p.front)) p.printed) zero) (nothing_told cmd fileless after)

    -- standard output has failed
    pub ends_cut : (between after : Option (List Deed)) (left : List ℕ) (status : ℕ) → IsTrue can_fail
        → PrintsFront cmd inputs before between left → SaysFailure (codes "-") between after → status ≡ 3
        → EndsCommand files can_fail cmd before after status
    ends_cut between after left status fails p said three =
        done p.text no_events before after kept (carried between left p)
        (some_printed fails p.front left p.text_is between p.printed said three) (nothing_told cmd fileless after)

    -- it is not carried out
    pub ends_refused : (exit : Exit) (between after : Option (List Deed)) (status : ℕ) → IsWhyNot cmd inputs exit
        → Does before [] between → SaysExit exit between after → status ≡ status_of exit
        → EndsCommand files can_fail cmd before after status
    ends_refused exit between after status why nothing said same = failed exit between kept
        (faulty inputs read why nothing) said same

  -- a file could not be read, or memory ran out
  pub ends_failed : (failure : Failure) (after : Option (List Deed)) (status : ℕ)
      → IsFailureOf files (inputs_of cmd) failure
      → SaysExit (Failed failure) before after → status ≡ 3 → EndsCommand files can_fail cmd before after status
  ends_failed failure after status of said same =
      failed (Failed failure) before kept (unread of (does_nothing before)) said same
