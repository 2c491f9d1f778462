-- What an exploration prints, whatever its status.
use Rattle.std.specs.Prelude.{ℕ, ◌≡◌, ◌⊎◌, List, Option}
use Rattle.clap.specs.Words.{Row}
use Rattle.fmp_diagnosis.specs.declared.sentence.Texts.{Texts}
use Rattle.fmp_files.specs.Deeds.{Deed}
use Rattle.fmp_files.specs.Outside.{Files}
use Rattle.fmp_warnings.specs.declared.verdicts.FileNames.{FileNames}
use Rattle.fmp_warnings.specs.declared.verdicts.Form.{Form}
use Rattle.fmp_warnings.specs.declared.verdicts.Form.TheVariants as form
use Rattle.fmp_warnings.specs.declared.verdicts.Shown.{Shown}
use Rattle.fmp_warnings.specs.declared.verdicts.Shown.TheVariants as shown
use Rattle.fmp_warnings.specs.Verdicts.{IsShown}
use Rattle.fmp_searching.specs.Claimed.{HasShown, IsFile, IsNamedFile, OfFiles, OfTexts, PrintsOnly}
use Rattle.fmp_searching.specs.Deeds.{GivesNothing, KeepsFiles, TellsOnly}
use Rattle.fmp_searching.specs.Explored.{IsExploring}
use Rattle.fmp_searching.specs.declared.sources.Exploring.{Exploring}

abbrev pub text_of : Shown → List ℕ
text_of (shown.Faulty text) = text.items
text_of (shown.Sound text) = text.items

-- this is shown of two texts, and of the steps of a file, if it has a name
pub record IsShownOver (files : Files) (form : Form) (names : FileNames) (texts : Texts) (shown : Shown) : Type 0 where
  pub steps : List ℕ
  pub is_steps : IsNamedFile files names.steps.now steps
  pub is : IsShown form names texts steps shown

-- this is shown of the texts of files
pub record IsShownIn (files : Files) (form : Form) (names : FileNames) (shown : Shown) : Type 0 where
  pub texts : Texts
  pub is_cfg : IsFile files names.cfg.now texts.cfg.now
  pub is_src : IsFile files names.src.now texts.src.now
  pub is : IsShownOver files form names texts shown

-- what is shown of the texts of files was printed, as far as that works, and nothing else
pub record ShowsTexts (files : Files) (form : Form) (names : FileNames) (before after : Option (List Deed)) :
    Type 0 where
  pub shown : Shown
  pub is : IsShownIn files form names shown
  pub prints : PrintsOnly (text_of shown) before after

-- the same of the texts of an exploration
pub record ShowsFault (files : Files) (e : Exploring) (before after : Option (List Deed)) : Type 0 where
  pub names : FileNames
  pub is_cfg : names.cfg.now ≡ e.cfg.now
  pub is_src : names.src.now ≡ e.src.now
  pub shows : ShowsTexts files form.Text names before after

-- an exploration of two texts printed and wrote nothing, or what its search came to, as far as that works; or it
-- printed what is shown of the texts; and nothing else
abbrev pub PrintsOfTexts : Files → (cfg src said : List ℕ) → Exploring → (before after : Option (List Deed)) → Type 0
PrintsOfTexts files cfg src said e before after =
    GivesNothing before after
    ⊎ (OfTexts cfg src said e (λ s. HasShown e s before after)
    ⊎ (ShowsFault files e before after × TellsOnly before after))

-- the same of the texts of files
abbrev pub PrintsOfFiles : Files → Exploring → (before after : Option (List Deed)) → Type 0
PrintsOfFiles files e before after =
    GivesNothing before after
    ⊎ (OfFiles files e (λ s. HasShown e s before after) ⊎ (ShowsFault files e before after × TellsOnly before after))

-- what an exploration of these words did, whatever its status
pub record ExploresWords (files : Files) (rows : List Row) (before after : Option (List Deed)) : Type 0 where
  pub exploring : Exploring
  pub is : IsExploring rows exploring
  pub keeps : KeepsFiles exploring before after
  pub prints : PrintsOfFiles files exploring before after
