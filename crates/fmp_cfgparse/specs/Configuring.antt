-- The second pass: the static APIs are carried out in order of text. A fault stands at the place of a token.
use Rattle.std.specs.Prelude.{◌≡◌, ℕ, List, [], ◌∷◌, Option, Some, None, Result, Ok, Err, if◌then◌else◌}
use Rattle.fmp_base.specs.Names.{name_text}
use Rattle.fmp_base.specs.Systems.{without_objects}
use Rattle.fmp_lex.specs.declared.fault.FaultKind.{FaultKind}
use Rattle.fmp_lex.specs.declared.fault.FaultKind.TheVariants as fault
use Rattle.fmp_cfgparse.specs.declared.objects.MakingStop.{MakingStop}
use Rattle.fmp_cfgparse.specs.declared.objects.MakingStop.TheVariants as stop
use Rattle.fmp_cfgparse.specs.declared.places.ClassProcessors.{ClassProcessors}
use Rattle.fmp_cfgparse.specs.declared.making.Making as declared
use Rattle.fmp_cfgparse.specs.Apis.{Making, class_of, api_fault, made}
use Rattle.fmp_cfgparse.specs.Making.{making_of}
use Rattle.fmp_cfgparse.specs.Trees.{ApiTree, ClassTree, ConfigurationTree}
use Rattle.fmp_cfgparse.specs.Values.{between, held}

-- a fault and the place of its token
pub record Offence : Type 0 where
  pub at : ℕ
  pub why : FaultKind

-- the fault at this place, if there is one, else what comes then
abbrev pub unless : {A : Type 0} → ℕ → Option FaultKind → Result A Offence → Result A Offence
unless at None then_ = then_
unless at (Some why) then_ = Err (record { at = at; why = why })

-- the APIs of a class, one after another
abbrev pub walk_apis : ClassProcessors → List ApiTree → Making → Result Making Offence
walk_apis c [] g = Ok g
walk_apis c (a ∷ more) g = unless a.at (api_fault a g) (walk_apis c more (made c a g))

-- the APIs of a known class
abbrev pub walk_class : ℕ → Option ClassProcessors → List ApiTree → Making → Result Making Offence
walk_class at None apis g = Err (record { at = at; why = fault.UnknownName })
walk_class at (Some c) apis g = walk_apis c apis g

abbrev pub and_then : {A B : Type 0} → Result A Offence → (A → Result B Offence) → Result B Offence
and_then (Ok a) next = next a
and_then (Err e) next = Err e

-- the classes, one after another
abbrev pub walk_classes : ℕ → List ClassTree → Making → Result Making Offence
walk_classes processors [] g = Ok g
walk_classes processors (c ∷ more) g =
    and_then (walk_class c.at (class_of processors (name_text c.name)) c.apis g) (walk_classes processors more)

-- no object yet, and no name
abbrev pub nothing_made : ℕ → Making
nothing_made processors = record { tables = without_objects processors; names = [] }

-- what a configuration makes, or its first offence: there are 1 to 8 processors, and no API has a fault
abbrev pub configured : ConfigurationTree → Result Making Offence
configured t =
    if between 1 8 t.processors then walk_classes (held 255 t.processors) t.classes
    (nothing_made (held 255 t.processors))
    else Err (record { at = t.at; why = fault.Limit })

-- what the code answers is what the walk gives, unless memory ran out
abbrev pub IsWalk : {R : Type 0} → Result Making Offence → Result R MakingStop → Making → Type 0
IsWalk w (Ok r) g = w ≡ Ok g
IsWalk w (Err stop.Memory) g = Unit {0}
IsWalk w (Err (stop.Fault at why)) g = w ≡ Err (record { at = at; why = why })

abbrev pub IsConfigured : Result Making Offence → Result declared.Making MakingStop → Type 0
IsConfigured w (Ok m) = w ≡ Ok (making_of m)
IsConfigured w (Err stop.Memory) = Unit {0}
IsConfigured w (Err (stop.Fault at why)) = w ≡ Err (record { at = at; why = why })
