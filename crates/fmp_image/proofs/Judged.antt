-- What each step of building has judged, said of the texts.
use Rattle.std.proofs.Common.{◌≡◌, ℕ, List, [], None, Result, Ok, Err, inl, inr, refl, sym, ap, ◌∙◌, subst}
use Rattle.std.specs.Prelude.{IfErr}
use Rattle.std.specs.Result.{IsErrAnd}
use Rattle.fmp_base.specs.Systems.{SystemTables, tables_of}
use Rattle.fmp_lex.specs.declared.fault.BuildFault.{BuildFault}
use Rattle.fmp_lex.specs.declared.fault.BuildFault.TheVariants as build
use Rattle.fmp_lex.specs.declared.fault.TextFile.TheVariants as file
use Rattle.fmp_lex.specs.declared.token.Token.{Token}
use Rattle.fmp_cfgparse.specs.Configured.{ReadConfiguration, Reads}
use Rattle.fmp_cfgparse.specs.Configurations as configuration
use Rattle.fmp_cfgparse.specs.Tables.{IsConfiguration}
use Rattle.fmp_cfgparse.specs.Trees.{configuration_view}
use Rattle.fmp_cfgparse.proofs.Tables.{made_keeps}
use Rattle.fmp_tasklang.specs.Trees.{BodyTree}
use Rattle.fmp_scopes.specs.declared.entries.EntryUse.{EntryUse}
use Rattle.fmp_codegen.specs.declared.texts.CompiledText.{CompiledText}
use Rattle.fmp_codegen.specs.Compiling.{bodies_offence, IsAccepted}
use Rattle.fmp_scopes.specs.Entries.{entries_offence, IsChecked}
use Rattle.fmp_scopes.specs.Naming.{fault_in}
use Rattle.fmp_codegen.specs.Texts.{IsTextCompiled}
use Rattle.fmp_image_bytes.specs.Images.{ImageTables}
use Rattle.fmp_cfgparse.specs.declared.reading.Configured.{Configured}
use Rattle.fmp_image.specs.Building.{ReadTasks, built_image, Builds, IsBuildFault, of_memory, of_configuration}
use Rattle.fmp_image.specs.Building.{of_tasks, of_bodies, of_entries}
use Rattle.fmp_image.specs.Entries.{entry_uses}

-- what `?` hands on is the fault itself
pub err_is : {T E : Type 0} (P : E → Type 0) (r : Result T E) (x : E) → IsErrAnd r (λ y. y ≡ x) → P x → IfErr r P
err_is P (Ok t) x h p = tt
err_is P (Err y) x h p = subst P (sym h) p

pub read_keeps : (cfg : List ℕ) (c : ReadConfiguration cfg) → IsConfiguration c.making.tables
read_keeps cfg c = made_keeps cfg c.tokens c.tree c.making c.spelled c.makes

pub configuration_refused : (cfg src : List ℕ) (f : BuildFault) → configuration.IsRead cfg (Err f)
    → IsBuildFault cfg src f
configuration_refused cfg src build.Memory h = of_memory refl
configuration_refused cfg src (build.At f place why) h = of_configuration h

module _ (cfg src : List ℕ) (configured : Configured) (reads : Reads cfg configured) where
  abbrev tables : SystemTables
  tables = tables_of configured.system

  -- a text that is refused
  pub text_refused : (f : BuildFault) → IsTextCompiled tables src (Err f) → IsBuildFault cfg src f
  text_refused build.Memory h = of_memory refl
  text_refused (build.At f place why) (inl h) = of_tasks reads.configuration h
  text_refused (build.At f place why) (inr h) =
      of_bodies reads.configuration (record { tokens = h.0; bodies = h.1; spelled = h.2 }) h.3
      (ap (λ (t : SystemTables). bodies_offence t [] h.1) reads.tables ∙ h.4) h.5

  module _ (text : CompiledText) (made : IsTextCompiled tables src (Ok text)) where
    abbrev pub bodies : List BodyTree
    bodies = made.1

    abbrev written : ReadTasks src
    written = record { tokens = made.0; bodies = made.1; spelled = made.2 }

    accepts : IsAccepted reads.configuration.making.tables bodies
    accepts = ap (λ (t : SystemTables). bodies_offence t [] bodies) reads.tables ∙ made.3

    -- the entries that the code has collected
    pub collected :
        (now uses : List EntryUse) → now ≡ uses →
        uses ≡ entry_uses (configuration_view configured.parsed.tree) →
        now ≡ entry_uses reads.configuration.tree
    collected now uses same are =
        same ∙ are ∙ ap entry_uses (sym reads.tree)

    module _ (entries : List EntryUse) (are : entries ≡ entry_uses reads.configuration.tree) where
      pub entries_refused : (f : BuildFault) → IsChecked {R = Unit {0}} configured.parsed.list.tokens bodies entries
          (Err f) → IsBuildFault cfg src f
      entries_refused build.Memory h = of_memory refl
      entries_refused (build.At f place why) h =
          of_entries reads.configuration written h.0 accepts
          (ap (entries_offence bodies) (sym are) ∙ h.1)
          (h.2 ∙ ap (λ (ts : List Token). fault_in file.Configuration ts h.0) (sym reads.tokens))

      pub builds : (i : ImageTables) → entries_offence bodies entries ≡ None → i ≡ built_image tables bodies
          → Builds cfg src i
      builds i none is = record {
        configuration = reads.configuration;
        tasks = written;
        accepted = accepts;
        entered = ap (entries_offence bodies) (sym are) ∙ none;
        image = is ∙ ap (λ (t : SystemTables). built_image t bodies) (sym reads.tables);
      }
