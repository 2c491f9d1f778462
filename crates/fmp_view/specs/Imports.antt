-- What `import` writes or prints.
use Rattle.std.specs.Prelude.{ℕ, List, [], ◌∷◌, Ok, Option, Some, None, IfSome}
use Rattle.std.specs.List.{AllByRecursion}
use denote.Ref.{Bor}
use Rattle.fmp_files.specs.Deeds.{Deed, Does, Says, wrote}
use Rattle.fmp_files.specs.Outside.{Files}
use Rattle.fmp_files.specs.Prints.{Prints}
use Rattle.fmp_import.specs.declared.importing.Imported.{Imported}
use Rattle.fmp_import.specs.Imports.{IsImported}
use Rattle.fmp_searching.specs.Claimed.{IsFile}
use Rattle.fmp_view.specs.Apart.{AreApart}
use Rattle.fmp_view.specs.declared.importing.Importing.{Importing}

-- a text was written to a file, or printed where no file is named
abbrev pub Gives : (out : Option (Bor (List ℕ))) → (text : List ℕ) → (before after : Option (List Deed)) → Type 0
Gives None text before after = Prints before text after
Gives (Some out) text before after = Does before (wrote out.now text ∷ []) after

-- notes were said, and the configuration that a text becomes was given
pub record HasImportedText (text : List ℕ) (out : Option (Bor (List ℕ))) (before after : Option (List Deed)) : Type 0
  where
    pub imported : Imported
    pub is : IsImported text (Ok imported)
    pub noted : Option (List Deed)
    pub notes : Says before noted
    pub gives : Gives out imported.configuration.items noted after

-- the file that is written, if one is named, is none of these
abbrev pub AreApartFrom : Files → (out : Option (Bor (List ℕ))) → (names : List (List ℕ)) → Type 0
AreApartFrom files out names = IfSome out (λ out. AllByRecursion (AreApart files out.now) names)

-- the same, and none of these files is written
pub record HasImportedSource (files : Files) (included : List (List ℕ)) (text : List ℕ) (out : Option (Bor (List ℕ)))
    (before after : Option (List Deed)) : Type 0 where
  pub apart : AreApartFrom files out included
  pub has : HasImportedText text out before after

-- the same of the text of a file, and of the files that it is found to include
pub record HasImportedFile (files : Files) (x : Importing) (before after : Option (List Deed)) : Type 0 where
  pub text : List ℕ
  pub is_text : IsFile files x.cfg.now text
  pub included : List (List ℕ)
  pub has : HasImportedSource files included text x.out before after

-- the same, and the file that is written is not the one that is read
pub record HasImported (files : Files) (x : Importing) (before after : Option (List Deed)) : Type 0 where
  pub apart : IfSome x.out (λ out. AreApart files out.now x.cfg.now)
  pub has : HasImportedFile files x before after
