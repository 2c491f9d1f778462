-- How the program ends where words have been parsed.
use Rattle.std.proofs.Common.{ℕ, ◌≡◌, ◌⊎◌, ◌∙◌, IfSome, List, Option, None, Some, ap₂, arith, is_some, drop, map, refl}
use Rattle.std.proofs.Common.{string_bytes, subst, sym, take, true}
use Rattle.std.specs.Prelude.{String}
use Rattle.std.specs.declared.alloc.Global.{Global}
use Rattle.std.proofs.lemmas.List.{drop-map, take-map}
use Rattle.clap.specs.Words.{Row, Text}
use Rattle.clap.specs.declared.error.kind.ErrorKind.{ErrorKind}
use Rattle.fmp_files.specs.Deeds.{Deed}
use Rattle.fmp_files.specs.Endings.{IsShown}
use Rattle.fmp_files.specs.Outside.{Files}
use Rattle.fmp_files.specs.Prints.{Prints}
use Rattle.fmp_arguments.specs.Joined.{joined}
use Rattle.fmp_arguments.specs.Settings.{texts_of}
use Rattle.fmp_looking.specs.TestDeeds.{IsRefusal}
use Rattle.fmp_looking.proofs.TestEnds.{refusal_by, three_refuses}
use Rattle.fmp_view.specs.declared.settings.Added.{Added}
use Rattle.fmp_view.specs.declared.settings.SettingsExit.{SettingsExit}
use Rattle.fmp_view.specs.declared.settings.SettingsExit.TheVariants as exit
use Rattle.fmp_view.specs.Ends.{ComesTo, Ends, IsOfSettings, RunsCommand, Shows, Tells, alone, with_settings}
use Rattle.fmp_view.specs.Form.{IsEntered, IsRefused}
use Rattle.fmp_view.specs.Settings.{status_of}

-- words that are refused
pub shows : (words : List Text) (before after : Option (List Deed)) (kind : ErrorKind) → IsRefused words kind
    → IsShown kind × ((text : List ℕ) × Prints before text after) → Shows words before after
shows words before after kind refused h =
    record { kind = kind; refused = refused; shown = h.0; text = h.1.0; printed = h.1.1 }

module _ (files : Files) (words : List Text) (before after : Option (List Deed)) (status : ℕ) where
  -- the command that parsed words enter was carried out
  pub runs_command : (entered : Option (Text × List Row)) → IfSome entered (IsEntered words) → is_some entered ≡ true
      → ComesTo files entered before after status → RunsCommand files words before after status
  runs_command None is some comes = absurd (cc (some))
  runs_command (Some e) is some comes = record { entered = e; is = is; comes = comes }

  -- with no settings
  pub ends_alone : Shows words before after ⊎ RunsCommand files words before after status
      → Ends files words before after status
  ends_alone how = record { between = before; words = words; takes = alone refl refl; ends = how }

-- with those of settings
pub ends_added : (files files_then : Files) (typed : List (String Global)) (words : List Text) (a : Added)
    (before between after : Option (List Deed)) (status : ℕ)
    → files_then ≡ files → IsOfSettings files a → Tells a before between
    → words ≡ joined (map string_bytes (take 2 typed)) (texts_of a.words) (map string_bytes (drop 2 typed))
    → Shows words between after ⊎ RunsCommand files_then words between after status
    → Ends files (map string_bytes typed) before after status
ends_added files files_then typed words a before between after status same of tells is how =
    record {
      between = between;
      words = words;
      takes =
          with_settings a of tells
          (is ∙ ap₂ (λ (names rest : List Text). joined names (texts_of a.words) rest)
          (sym (take-map string_bytes 2 typed))
          (sym (drop-map string_bytes 2 typed)));
      ends = subst (λ (f : Files). Shows words between after ⊎ RunsCommand f words between after status) same how;
    }

-- settings that are not used end the program with a refusal
pub unused_refuses : (why : SettingsExit) (status : ℕ) → status ≡ status_of why → IsRefusal status
unused_refuses (exit.Refused text) status is = refusal_by status 1 is (omega arith, omega arith)
unused_refuses (exit.Failed failure) status is = three_refuses status is
