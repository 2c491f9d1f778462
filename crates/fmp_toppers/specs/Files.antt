-- The files of a system and its bodies for TOPPERS/FMP.
use Rattle.std.specs.Prelude.{◌≡◌, ℕ, List, [], ◌∷◌, map, Option, Some, None, Result, Ok, Err}
use Rattle.fmp_base.specs.declared.names.Name.{Name}
use Rattle.fmp_base.specs.declared.systems.MailboxConfig.{MailboxConfig}
use Rattle.fmp_base.specs.Systems.{SystemTables}
use Rattle.fmp_lex.specs.declared.fault.BuildFault.{BuildFault}
use Rattle.fmp_lex.specs.declared.token.Token.{Token}
use Rattle.fmp_lex.specs.Faults.{Spells}
use Rattle.fmp_tasklang.specs.Grammar.{Bodies}
use Rattle.fmp_tasklang.specs.Reading.{IsRead}
use Rattle.fmp_tasklang.specs.Trees.{BodyTree}
use Rattle.fmp_toppers.specs.declared.files.RefusedObjects.{RefusedObjects}
use Rattle.fmp_toppers.specs.declared.files.ToppersFiles.{ToppersFiles}
use Rattle.fmp_toppers.specs.declared.files.ToppersRefusal.{ToppersRefusal}
use Rattle.fmp_toppers.specs.declared.files.ToppersRefusal.TheVariants as refusal
use Rattle.fmp_toppers.specs.declared.target.Target.{Target}
use Rattle.fmp_toppers.specs.declared.target.Target.TheVariants as target
use Rattle.fmp_toppers.specs.Configuration.{configuration_file}
use Rattle.fmp_toppers.specs.Declarations.{bodies_file, header_file}
use Rattle.fmp_toppers.specs.Names.{known_names, known_object}

-- the first object that the kernel has no equal for
abbrev pub without_equal : Target → List MailboxConfig → Option ToppersRefusal
without_equal target.Fmp1 ms = None
without_equal target.Fmp3 [] = None
without_equal target.Fmp3 (m ∷ ms) = Some (refusal.Mailbox m.name)

abbrev pub refused_first : Option Name → Option ToppersRefusal → Option ToppersRefusal
refused_first (Some name) second = Some (refusal.Name name)
refused_first None second = second

-- why there are no files for a configuration
abbrev pub refusal_for : Target → SystemTables → Option ToppersRefusal
refusal_for k s = refused_first (known_object s) (without_equal k s.mailboxes)

-- the mailboxes that the kernel has no equal for
abbrev pub mailboxes_without : Target → List MailboxConfig → List Name
mailboxes_without target.Fmp1 ms = []
mailboxes_without target.Fmp3 ms = map (λ m. m.name) ms

-- all objects for which there are no files
abbrev pub AreRefused : Target → SystemTables → RefusedObjects → Type 0
AreRefused k s r = (r.names.items ≡ known_names s) × (r.mailboxes.items ≡ mailboxes_without k s.mailboxes)

abbrev pub AreFiles : Target → SystemTables → List BodyTree → ToppersFiles → Type 0
AreFiles k s bodies e =
    (e.configuration.items ≡ configuration_file k s bodies)
    × (e.header.items ≡ header_file k s bodies)
    × (e.bodies.items ≡ bodies_file k s bodies)

-- the files of the bodies that the text spells, or the fault of a text that spells none
abbrev pub IsWritten : Target → SystemTables → List ℕ → Result ToppersFiles BuildFault → Type 0
IsWritten k s text (Ok e) =
    (ts : List Token) × (bodies : List BodyTree) × Spells Bodies text ts bodies × AreFiles k s bodies e
IsWritten k s text (Err f) = IsRead text (Err f)

-- the files of a system that is not refused, or why there are none
abbrev pub IsExported : Target → SystemTables → List ℕ → Result ToppersFiles ToppersRefusal → Type 0
IsExported k s text (Ok e) = (refusal_for k s ≡ None) × IsWritten k s text (Ok e)
IsExported k s text (Err (refusal.Fault f)) = (refusal_for k s ≡ None) × IsWritten k s text (Err f)
IsExported k s text (Err (refusal.Name name)) = refusal_for k s ≡ Some (refusal.Name name)
IsExported k s text (Err (refusal.Mailbox name)) = refusal_for k s ≡ Some (refusal.Mailbox name)
