-- The bodies that static APIs name as entries, and what is wrong with one.
use Rattle.std.specs.Prelude.{◌≡◌, ℕ, ◌*◌, List, [], ◌∷◌, map, Option, Some, None, Result, Ok, Err, Bool, true, false}
use Rattle.std.specs.Prelude.{not, nat_le, if◌then◌else◌}
use Rattle.fmp_base.specs.declared.names.Name.{Name}
use Rattle.fmp_base.specs.Names.{name_text}
use Rattle.fmp_lex.specs.declared.fault.BuildFault.{BuildFault}
use Rattle.fmp_lex.specs.declared.fault.BuildFault.TheVariants as build
use Rattle.fmp_lex.specs.declared.fault.FaultKind.{FaultKind}
use Rattle.fmp_lex.specs.declared.fault.FaultKind.TheVariants as fault
use Rattle.fmp_lex.specs.declared.fault.TextFile.TheVariants as file
use Rattle.fmp_lex.specs.declared.token.Token.{Token}
use Rattle.fmp_tasklang.specs.declared.trees.BodyKind.{BodyKind}
use Rattle.fmp_tasklang.specs.declared.trees.BodyKind.TheVariants.{Task, Handler}
use Rattle.fmp_tasklang.specs.Trees.{BodyTree}
use Rattle.fmp_tasklang.specs.Scopes.{place_of}
use Rattle.fmp_tasklang.specs.Texts.{body_at}
use Rattle.fmp_scopes.specs.declared.entries.EntryUse.{EntryUse}
use Rattle.fmp_scopes.specs.declared.offences.Offence.{Offence}
use Rattle.fmp_scopes.specs.Depths.{body_depth}
use Rattle.fmp_scopes.specs.Naming.{at_token, fault_in, first_offence}

-- the place of the body of a name
abbrev pub body_place : List BodyTree → Name → Option ℕ
body_place bodies name = place_of (name_text name) (map (λ b. b.name.name) bodies)

abbrev pub is_kind : BodyKind → BodyKind → Bool
is_kind Task Task = true
is_kind Task Handler = false
is_kind Handler Task = false
is_kind Handler Handler = true

-- a stack has four bytes for each operand; handlers have none of their own
abbrev pub holds : Option ℕ → ℕ → Bool
holds None depth = true
holds (Some stack) depth = nat_le (4 * depth) stack

abbrev pub body_fault : EntryUse → BodyTree → Option FaultKind
body_fault u body =
    if not (is_kind body.kind u.kind) then Some fault.WrongEntryKind
    else (if not (holds u.stack (body_depth body)) then Some fault.StackTooSmall else None)

-- the fault of an entry, where this is the place of its body
abbrev pub entry_fault : List BodyTree → EntryUse → Option ℕ → Option FaultKind
entry_fault bodies u None = Some fault.UnknownName
entry_fault bodies u (Some k) = body_fault u (body_at bodies k)

-- the first fault of entries, in order of their APIs in the text
abbrev pub entries_offence : List BodyTree → List EntryUse → Option Offence
entries_offence bodies [] = None
entries_offence bodies (u ∷ us) =
    first_offence (at_token u.at (entry_fault bodies u (body_place bodies u.name))) (entries_offence bodies us)

-- what checking entries answers: none has a fault, or the first fault, where these are the tokens of the configuration
abbrev pub IsChecked : {R : Type 0} → List Token → List BodyTree → List EntryUse → Result R BuildFault → Type 0
IsChecked ts bodies entries (Ok r) = entries_offence bodies entries ≡ None
IsChecked ts bodies entries (Err build.Memory) = Unit {0}
IsChecked ts bodies entries (Err (build.At f place why)) =
    (o : Offence) × (entries_offence bodies entries ≡ Some o)
    × (build.At f place why ≡ fault_in file.Configuration ts o)
