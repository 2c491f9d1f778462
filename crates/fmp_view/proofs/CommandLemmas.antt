-- How a command ends that compares or judges runs, by what it asks for.
use Rattle.std.proofs.Common.{◌≡◌, ℕ, List, Option, subst}
use Rattle.fmp_files.specs.Deeds.{Deed}
use Rattle.fmp_files.specs.Outside.{Files}
use Rattle.fmp_searching.specs.declared.sources.Exploring.{Exploring}
use Rattle.fmp_view.specs.declared.asking.Asked.{Asked}
use Rattle.fmp_view.specs.declared.asking.Cmd.TheVariants as cmd
use Rattle.fmp_view.specs.Commands.{EndsLook}

pub no_look : (e : Exploring) (a : Asked) → cmd.Explore e ≡ cmd.Look a → ⊥
no_look e a is = cc

same_look : (a b : Asked) → cmd.Look a ≡ cmd.Look b → a ≡ b
same_look a b e = cc

pub ends_look : (files : Files) (a b : Asked) (before after : Option (List Deed)) (status : ℕ)
    → cmd.Look a ≡ cmd.Look b → EndsLook files a before after status → EndsLook files b before after status
ends_look files a b before after status is h =
    subst (λ (x : Asked). EndsLook files x before after status) (same_look a b is) h
