-- What the report of a search speaks of.
use Rattle.std.specs.Prelude.{ℕ, List, ◌++◌, Bool, codes, decimal}
use Rattle.fmp_expect.specs.declared.call_sentences.CallSentence.{CallSentence}
use Rattle.fmp_expect.specs.declared.expectation.Expected.{Expected}
use Rattle.fmp_frames.specs.declared.call_positions.CallPosition.{CallPosition}
use Rattle.fmp_warnings.specs.declared.verdicts.Form.{Form}
use Rattle.fmp_searching.specs.Claims.{ClaimTables, claim_tables}
use Rattle.fmp_searching.specs.Sites.{positions_of}
use Rattle.fmp_searching.specs.declared.naming.LocalNames.{LocalNames}
use Rattle.fmp_searching.specs.declared.sources.ExploredSources.{ExploredSources}

-- what can be claimed, where the calls of the bodies stand in their text, and the names of their locals; the names of
-- the files of the bodies, of the steps and of the sentences; whether answers are told, whether a sentence that says
-- nothing counts, and whether a report of tests is made; the form; and the sentences: how many sections stand before
-- those of the file, these, those about calls, and how many answers at calls the command line forbids
pub record SourceTables : Type 0 where
  pub claim : ClaimTables
  pub positions : List (List CallPosition)
  pub names : LocalNames
  pub src : List ℕ
  pub out : List ℕ
  pub file : List ℕ
  pub answers : Bool
  pub strict : Bool
  pub report : Bool
  pub form : Form
  pub sections : ℕ
  pub expected : List Expected
  pub call_sentences : List CallSentence
  pub nevers_at : ℕ

abbrev pub source_tables : ExploredSources → SourceTables
source_tables s =
    record {
      claim = claim_tables s.claim;
      positions = positions_of s.claim.lines.now;
      names = s.names.now;
      src = s.named.src.now;
      out = s.named.out.now;
      file = s.sentences.file.now;
      answers = s.named.answers;
      strict = s.named.strict;
      report = s.named.report;
      form = s.named.form;
      sections = s.sentences.sections;
      expected = s.sentences.expected.now;
      call_sentences = s.sentences.call_sentences.now;
      nevers_at = s.sentences.nevers_at;
    }

-- the name of the file of steps of this number
unfoldable pub steps_name : (out : List ℕ) → (number : ℕ) → List ℕ
steps_name out number = out ++ (codes "." ++ decimal number)
