-- How a test ends: its statuses, and texts that are said one after the other.
use Rattle.std.proofs.Common.{◌≡◌, ◌++◌, ◌⊎◌, ℕ, List, [], ◌∷◌, Option, None, Some, Bool, true, false, arith, map}
use Rattle.std.proofs.Common.{IfNone, IfSome, Result, Ok, Err, inl, inr, length, option_map, subst, sym}
use Rattle.std.specs.Prelude.{◌<◌, MatchResult}
use Rattle.std.specs.Str.Lossy.{utf8_lossy}
use denote.Ref.{Bor}
use Rattle.std.proofs.lemmas.List.{map-append}
use Rattle.fmp_base.specs.Systems.{tables_of}
use Rattle.fmp_engine.specs.declared.fault.SimFault.TheVariants as sim
use Rattle.fmp_files.specs.Deeds.{Deed, Does, Says, said, wrote}
use Rattle.fmp_files.specs.Endings.{EndsPrinting, all_printed, some_printed}
use Rattle.fmp_files.specs.Prints.{Prints}
use Rattle.fmp_files.specs.PrintsLaws.{does_nothing, prints_nothing}
use Rattle.fmp_lex.specs.declared.fault.BuildFault.TheVariants as build
use Rattle.fmp_recording.specs.declared.faults.RecordingFault.TheVariants as recording
use Rattle.fmp_looking.specs.declared.exit.ViewExit.{ViewExit}
use Rattle.fmp_looking.specs.declared.exit.ViewExit.TheVariants.{Sim, Misplaced, OtherText, Configuration, Recording}
use Rattle.fmp_looking.specs.declared.exit.ViewExit.TheVariants.{LastEvents, Picture, Expect, Failed}
use Rattle.fmp_looking.specs.Exits.{status_of}
use Rattle.fmp_looking.specs.declared.reporting.FailedTest.{FailedTest}
use Rattle.fmp_looking.specs.declared.wanted.ReadTest.{ReadTest}
use Rattle.fmp_looking.specs.Judgements.{IsTestReport}
use Rattle.fmp_looking.specs.TestDeeds.{Covers, IsDone, IsRefusal, Reports, SaysSome, TellsLines}
use Rattle.fmp_looking.proofs.WrittenLemmas.{does_then}

one : IsRefusal 1
one = (omega arith, omega arith)

two : IsRefusal 2
two = (omega arith, omega arith)

three : IsRefusal 3
three = (omega arith, omega arith)

-- why a test is not made is never told with the status of one that is made
pub exit_refuses : (e : ViewExit) → IsRefusal (status_of e)
exit_refuses (Sim sim.Memory) = three
exit_refuses (Sim (sim.Load fault)) = one
exit_refuses (Sim (sim.Steps fault)) = one
exit_refuses (Misplaced file) = one
exit_refuses OtherText = one
exit_refuses (Configuration build.Memory) = three
exit_refuses (Configuration (build.At file position kind)) = one
exit_refuses (Recording recording.Memory) = three
exit_refuses (Recording (recording.Line n)) = one
exit_refuses (Recording (recording.Range n)) = one
exit_refuses (Recording (recording.TooMany n)) = one
exit_refuses LastEvents = one
exit_refuses (Picture fault) = two
exit_refuses (Expect text) = one
exit_refuses (Failed failure) = three

pub refusal_by : (status other : ℕ) → status ≡ other → IsRefusal other → IsRefusal status
refusal_by status other is h = (omega (arith, is, h.0), omega (arith, is, h.1))

pub three_refuses : (status : ℕ) → status ≡ 3 → IsRefusal status
three_refuses status is = refusal_by status 3 is three

pub two_refuses : (status : ℕ) → status ≡ 2 → IsRefusal status
two_refuses status is = refusal_by status 2 is two

pub not_done : (status : ℕ) → IsRefusal status → IsDone status → ⊥
not_done status h done = elim done [
  | inl is ↦ omega (arith, is, h.0)
  | inr is ↦ omega (arith, is, h.1)
]

-- printing ends with status 0 where all is printed, and else with 3
pub printing_ends : (bytes : List ℕ) (can_fail : Bool) (before after : Option (List Deed)) (status : ℕ)
    → EndsPrinting bytes can_fail before after status → ((status ≡ 0) × Prints before bytes after) ⊎ (status ≡ 3)
printing_ends bytes can_fail before after status (all_printed prints is) = inl (is, prints)
printing_ends bytes can_fail before after status (some_printed can front left whole between prints says is) = inr is

pub printed_all : (bytes : List ℕ) (can_fail : Bool) (before after : Option (List Deed)) (status : ℕ)
    → EndsPrinting bytes can_fail before after status → status ≡ 0 → Prints before bytes after
printed_all bytes can_fail before after status ends is = elim (printing_ends _ _ _ _ _ ends) [
  | inl all ↦ all.1
  | inr failed ↦ absurd (omega (arith, failed, is))
]

-- a status that is not 0
pub printing_refuses : (bytes : List ℕ) (can_fail : Bool) (before after : Option (List Deed)) (status : ℕ)
    → EndsPrinting bytes can_fail before after status → (status ≡ 0 → ⊥) → IsRefusal status
printing_refuses bytes can_fail before after status ends not = elim (printing_ends _ _ _ _ _ ends) [
  | inl all ↦ absurd (not all.0)
  | inr failed ↦ three_refuses status failed
]

-- texts that are said one after the other
pub says_none : (done : Option (List Deed)) → SaysSome done done
says_none done = ([], does_nothing done)

pub says_one : (before after : Option (List Deed)) → Says before after → SaysSome before after
says_one before after h = (h.0 ∷ [], h.1)

pub says_more : (a b c : Option (List Deed)) → SaysSome a b → SaysSome b c → SaysSome a c
says_more a b c h k = (
  h.0 ++ k.0,
  subst (λ (ds : List Deed). Does a ds c) (sym (map-append said h.0 k.0))
      (does_then a b c (map said h.0) (map said k.0) h.1 k.1),
)

pub says_two : (a b c : Option (List Deed)) → Says a b → Says b c → SaysSome a c
says_two a b c h k = says_more a b c (says_one a b h) (says_one b c k)

-- ---- what is written and told where nothing is asked for

pub covers_none : (r : ReadTest) (runs : ℕ) (done : Option (List Deed)) → r.test.now.testing.files.lcov ≡ None
    → r.test.now.testing.files.coverage ≡ None → Covers r runs done done
covers_none r runs done is is_too =
    record {
      tracefile = [];
      table = [];
      lcov = rw is tt;
      coverage = rw is_too tt;
      done = rw is (rw is_too (does_nothing done));
    }

pub reports_none : (r : ReadTest) (found : Option FailedTest) (done : Option (List Deed))
    → r.test.now.testing.junit ≡ None → Reports r found done done
reports_none r found done is = record { report = []; is = rw is tt; done = rw is (does_nothing done) }

pub reports_some : (r : ReadTest) (found : Option FailedTest) (name : Bor (List ℕ)) (report : List ℕ)
    (before after : Option (List Deed)) → r.test.now.testing.junit ≡ Some name
    → IsTestReport (tables_of r.test.now.configured.now) r.test.now.expect.now r.texts.expectations.now
    (option_map (λ f. f.trial.run.broken) found) report
    → Does before (wrote name.now report ∷ []) after → Reports r found before after
reports_some r found name report before after is told done =
    record { report = report; is = rw is told; done = rw is done }

pub lines_none : (json : Bool) (lines : List ℕ) (deeds : Option (List Deed)) → length lines ≡ 0
    → TellsLines json lines deeds deeds
lines_none true [] deeds is = prints_nothing deeds
lines_none true (b ∷ bs) deeds is = cc
lines_none false [] deeds is = does_nothing deeds
lines_none false (b ∷ bs) deeds is = cc

pub lines_some : (lines : List ℕ) (before after : Option (List Deed)) → 0 < length lines
    → Does before (said (utf8_lossy lines) ∷ []) after → TellsLines false lines before after
lines_some [] before after some h = absurd (omega (arith, some))
lines_some (b ∷ bs) before after some h = h

-- two texts that are said one after the other
pub says_both : (a b c : Option (List Deed)) (x y : List ℕ) → Does a (said x ∷ []) b → Does b (said y ∷ []) c
    → Does a (said x ∷ said y ∷ []) c
says_both a b c x y h k = does_then a b c (said x ∷ []) (said y ∷ []) h k

-- a report of a run that is borrowed
pub report_of_borrowed : (r : ReadTest) (failed : Option (Bor FailedTest)) (report : List ℕ)
    → IsTestReport (tables_of r.test.now.configured.now) r.test.now.expect.now r.texts.expectations.now
    (option_map (λ f. f.now.trial.run.broken) failed) report
    → IsTestReport (tables_of r.test.now.configured.now) r.test.now.expect.now r.texts.expectations.now
    (option_map (λ f. f.trial.run.broken) (option_map (λ f. f.now) failed)) report
report_of_borrowed r None report told = told
report_of_borrowed r (Some f) report told = told

-- ---- values that may be there

pub if_some : {A : Type 0} (P : Type 0) (value : Option A) → P → IfSome value (λ _. P)
if_some P None h = tt
if_some P (Some x) h = h

pub if_none : {A : Type 0} (P : Type 0) (value : Option A) → IfNone value P → value ≡ None → P
if_none P None h is = h
if_none P (Some x) h is = cc

pub mistake_refuses : {A E : Type 0} (mistake : Result A E) (status : ℕ)
    → MatchResult mistake (λ _. status ≡ 2) (λ _. status ≡ 3) → IsRefusal status
mistake_refuses (Ok x) status h = two_refuses status h
mistake_refuses (Err e) status h = three_refuses status h
