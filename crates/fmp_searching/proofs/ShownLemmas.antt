-- What was printed, whatever the status.
use Rattle.std.proofs.Common.{◌≡◌, ◌⊎◌, List, ℕ, Option, inl, inr}
use Rattle.fmp_base.specs.Systems.{SystemTables}
use Rattle.fmp_files.specs.Deeds.{Deed}
use Rattle.fmp_files.specs.Outside.{Files}
use Rattle.fmp_image_bytes.specs.Images.{ImageTables}
use Rattle.fmp_warnings.specs.declared.verdicts.FileNames.{FileNames}
use Rattle.fmp_warnings.specs.declared.verdicts.Form.TheVariants as form
use Rattle.fmp_searching.specs.Claimed.{HasShown, OfFiles, OfImage, OfTexts, PrintsNothing}
use Rattle.fmp_searching.specs.Deeds.{GivesNothing, SaysOnly, TellsOnly}
use Rattle.fmp_searching.specs.Shown.{PrintsOfFiles, PrintsOfTexts, ShowsFault, ShowsTexts}
use Rattle.fmp_searching.specs.Sources.{SourceTables}
use Rattle.fmp_searching.specs.declared.sources.Exploring.{Exploring}
use Rattle.fmp_searching.proofs.Doing.{idle_writes, only_then, says_idle, says_quiet}
use Rattle.fmp_searching.proofs.Idle.{told_quiet}
use Rattle.fmp_searching.proofs.Printing.{quiet_then}

of_image : {P Q : SourceTables → Type 0} (i : ImageTables) (configured : SystemTables) (src said : List ℕ)
    (e : Exploring) → ((s : SourceTables) → P s → Q s) → OfImage i configured src said e P
    → OfImage i configured src said e Q
of_image i configured src said e f h =
    record {
      bodies = h.bodies;
      are = h.are;
      question = h.question;
      asks = h.asks;
      holds = record { names = h.holds.names; so = f _ h.holds.so };
    }

-- texts were only said before
pub shown_after : (i : ImageTables) (configured : SystemTables) (src said : List ℕ) (e : Exploring)
    (a b c : Option (List Deed)) → SaysOnly a b
    → GivesNothing b c ⊎ OfImage i configured src said e (λ s. HasShown e s b c)
    → GivesNothing a c ⊎ OfImage i configured src said e (λ s. HasShown e s a c)
shown_after i configured src said e a b c says h = elim h [
  | inl none ↦ inl (only_then a b c (says_idle a b says) none)
  | inr shown ↦
      inr
      (of_image i configured src said e
      (λ s k. record {
        explored = k.explored;
        is = k.is;
        before = k.before;
        quiet = quiet_then a b k.before (says_quiet a b says) k.quiet;
        prints = k.prints;
        writes = only_then a b c (idle_writes e s.out k.explored a b (says_idle a b says)) k.writes;
      }) shown)
]

module _ (files : Files) (e : Exploring) (before after : Option (List Deed)) where
  -- of what is shown of texts with a fault
  pub fault_shown : (names : FileNames) → TellsOnly before after
      → PrintsNothing before after ⊎ ShowsTexts files form.Text names before after → names.cfg.now ≡ e.cfg.now
      → names.src.now ≡ e.src.now → GivesNothing before after ⊎ ShowsFault files e before after
  fault_shown names tells h is_cfg is_src = elim h [
    | inl quiet ↦ inl (told_quiet before after tells quiet)
    | inr shows ↦ inr (record { names = names; is_cfg = is_cfg; is_src = is_src; shows = shows })
  ]

  -- of texts with a fault
  pub fault_of_texts : (cfg src said : List ℕ) → TellsOnly before after
      → GivesNothing before after ⊎ ShowsFault files e before after → PrintsOfTexts files cfg src said e before after
  fault_of_texts cfg src said tells h = elim h [ inl none ↦ inl none | inr fault ↦ inr (inr (fault, tells)) ]

  -- of the texts of files
  pub of_files : (cfg src said : List ℕ)
      → (OfTexts cfg src said e (λ s. HasShown e s before after) → OfFiles files e (λ s. HasShown e s before after))
      → PrintsOfTexts files cfg src said e before after → PrintsOfFiles files e before after
  of_files cfg src said f h = elim h [
    | inl none ↦ inl none
    | inr some ↦ inr (elim some [ inl shown ↦ inl (f shown) | inr fault ↦ inr fault ])
  ]
