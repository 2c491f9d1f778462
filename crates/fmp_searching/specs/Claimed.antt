-- What the status 0 of `explore` claims, and what it prints.
use Rattle.std.specs.Prelude.{◌≡◌, ℕ, List, [], ◌∷◌, ◌++◌, ◌&&◌, All, Bool, IfSome, None, Option, Result, Ok, Err}
use Rattle.std.specs.Prelude.{Some, false, is_some, length, map, option_map, true, unwrap_or}
use Rattle.std.specs.List.{AllByRecursion, list_any}
use Rattle.clap.specs.Words.{Row}
use Rattle.fmp_base.specs.declared.systems.System.{System}
use Rattle.fmp_base.specs.Systems.{SystemTables, tables_of}
use Rattle.fmp_cfgparse.specs.Configurations.{Describes}
use Rattle.fmp_expect.specs.CallSentences.{call_sentences_of, other_sentences_of}
use Rattle.fmp_expect.specs.declared.expectation.Expected.{Expected}
use Rattle.fmp_expect.specs.declared.fault.ExpectFault.{ExpectFault}
use Rattle.fmp_files.specs.Deeds.{Deed, Does, printed}
use Rattle.fmp_files.specs.Endings.{EndsPrinting}
use Rattle.fmp_files.specs.Outside.{Files}
use Rattle.fmp_files.specs.Prints.{Prints}
use Rattle.fmp_frames.specs.CallPositions.{AreBodiesOf, TextBody}
use Rattle.fmp_image.specs.Building.{Builds}
use Rattle.fmp_image_bytes.specs.Images.{ImageTables}
use Rattle.fmp_question.specs.declared.question.Question.{Question}
use Rattle.fmp_witness.specs.declared.finding.Finding.{Finding}
use Rattle.fmp_witness.specs.Findings.{IsFound}
use Rattle.fmp_trace.specs.Steps.{steps_text}
use Rattle.fmp_explore.specs.declared.exploring.Report.{Report}
use Rattle.fmp_explore.specs.Searching.{NothingIsFound}
use Rattle.fmp_searching.specs.Claims.{ClaimTables, ending_text, is_done, status_of}
use Rattle.fmp_searching.specs.Deeds.{DoesOnly, WritesResult}
use Rattle.fmp_searching.specs.Extent.{extent_text}
use Rattle.fmp_searching.specs.Files.{IsApart, RemovesSteps, files_written, out_name, report_written, steps_names}
use Rattle.fmp_searching.specs.Findings.{finding_text}
use Rattle.fmp_searching.specs.Lines.{numbered}
use Rattle.fmp_searching.specs.Questions.{IsQuestionOf, codes_in, nevers_at_in}
use Rattle.fmp_searching.specs.Records.{IsReportRecords}
use Rattle.fmp_searching.specs.Seen.{AreSeen}
use Rattle.fmp_searching.specs.Sites.{positions_of}
use Rattle.fmp_searching.specs.Sources.{SourceTables}
use Rattle.fmp_searching.specs.Tests.{IsTestReport}
use Rattle.fmp_searching.specs.Unsaid.{has_unsaid}
use Rattle.fmp_searching.specs.declared.naming.LocalNames.{LocalNames}
use Rattle.fmp_searching.specs.declared.seen.Seen.{Seen}
use Rattle.fmp_warnings.specs.declared.verdicts.Form.{Form}
use Rattle.fmp_warnings.specs.declared.verdicts.Form.TheVariants as form
use Rattle.fmp_searching.specs.declared.sources.Exploring.{Exploring}
use Rattle.fmp_searching.specs.declared.exploring.Explored.{Explored}
use Rattle.fmp_searching.specs.Explored.{IsExploring}

-- what is printed of a report: first its findings, then what is claimed of this question or why the search ended, and
-- what the search saw
abbrev pub IsReportText : SourceTables → Report → List Seen → (text : List ℕ) → Type 0
IsReportText s r seen text =
    text
    ≡ numbered (λ number f x. finding_text s number f x) 1 r.findings.items seen
    ++ (ending_text s.claim r ++ extent_text s r)

-- a search found nothing, has looked for stuck tasks too, and claims what holds; where it is strict, each sentence says
-- something
pub record IsClean (strict : Bool) (q : Question) (r : Report) : Type 0 where
  pub none : r.findings.items ≡ []
  pub holds : r.holds ≡ true
  pub looked : is_done r.stuck_search ≡ true
  pub said : (strict && has_unsaid q r) ≡ false

-- the steps text of a finding
abbrev pub text_of : Finding → List ℕ
text_of f = steps_text f.steps.items

-- the same in a form: for readers, or as objects of JSON
abbrev pub IsReportIn : Form → SourceTables → Report → List Seen → List ℕ → Type 0
IsReportIn form.Text s r seen text = IsReportText s r seen text
IsReportIn form.Json s r seen text = IsReportRecords s r seen text

-- what is printed, the steps of the findings, the report of tests if one is asked for, and the status, are those of
-- this report
pub record Tells (s : SourceTables) (r : Report) (e : Explored) : Type 0 where
  pub seen : List Seen
  pub are_seen : AreSeen s r.findings.items seen
  pub text : IsReportIn s.form s r seen e.text.items
  pub steps : map (λ text. text.items) e.steps.items ≡ map text_of r.findings.items
  pub report : IfSome e.report (λ out. IsTestReport s r seen out.items)
  pub asked : is_some e.report ≡ s.report
  pub status : e.status ≡ status_of (s.strict && has_unsaid s.claim.question r) r
  pub clean : e.status ≡ 0 → IsClean s.strict s.claim.question r

-- they are those of a report that finds what is so, and claims what holds
pub record IsExplored (s : SourceTables) (e : Explored) : Type 0 where
  pub report : Report
  pub tells : Tells s report e
  pub found : All (IsFound s.claim.image s.claim.bound s.claim.question) report.findings.items
  pub nothing : report.holds ≡ true → NothingIsFound s.claim.image s.claim.bound s.claim.question

abbrev pub is_print : Deed → Bool
is_print (printed bytes) = true
is_print _ = false

-- nothing was printed: files were written, and texts were said
pub record PrintsNothing (before after : Option (List Deed)) : Type 0 where
  pub deeds : List Deed
  pub none : list_any is_print deeds ≡ false
  pub done : Does before deeds after

-- a text was printed, as far as that works, and then nothing more
pub record PrintsOnly (text : List ℕ) (before after : Option (List Deed)) : Type 0 where
  pub between : Option (List Deed)
  pub can_fail : Bool
  pub status : ℕ
  pub printed : EndsPrinting text can_fail before between status
  pub then : PrintsNothing between after

-- all of a text was printed, and then nothing more
pub record PrintsAll (text : List ℕ) (before after : Option (List Deed)) : Type 0 where
  pub between : Option (List Deed)
  pub printed : Prints before text between
  pub then : PrintsNothing between after

-- nothing was printed but what a search came to, whatever that is, as far as that works, and each file that was written
-- has what it came to, or a beginning of that
pub record HasShown (e : Exploring) (s : SourceTables) (begun done : Option (List Deed)) : Type 0 where
  pub explored : Explored
  pub is : IsExplored s explored
  pub before : Option (List Deed)
  pub quiet : PrintsNothing begun before
  pub prints : PrintsOnly explored.text.items before done
  pub writes : DoesOnly (WritesResult e s.out explored) begun done

-- what was printed last is all of what a search came to
pub record HasShownAll (s : SourceTables) (done : Option (List Deed)) : Type 0 where
  pub explored : Explored
  pub is : IsExplored s explored
  pub before : Option (List Deed)
  pub prints : PrintsAll explored.text.items before done

-- the last that was done is to print this text
abbrev pub HasPrinted : (text : List ℕ) → (done : Option (List Deed)) → Type 0
HasPrinted text done = (before : Option (List Deed)) × Prints before text done

-- of an image nothing is found that a question asks about, and this was printed of it last
pub record HasClaimed (s : SourceTables) (done : Option (List Deed)) : Type 0 where
  pub nothing : NothingIsFound s.claim.image s.claim.bound s.claim.question
  pub report : Report
  pub clean : IsClean s.strict s.claim.question report
  pub seen : List Seen
  pub text : List ℕ
  pub is : IsReportIn s.form s report seen text
  pub printed : HasPrinted text done

-- what a search came to was printed, and then the steps texts were written, to files that are not read
pub record Gives (e : Exploring) (out : List ℕ) (x : Explored) (before after : Option (List Deed)) : Type 0 where
  pub printed : Option (List Deed)
  pub prints : Prints before x.text.items printed
  pub apart : AllByRecursion (IsApart e) (steps_names out (length x.steps.items))
  pub writes :
      Does printed
      (files_written (steps_names out (length x.steps.items)) (map (λ text. text.items) x.steps.items)) after

-- what a search came to: files of steps of an earlier one were removed, the report of tests was written, if one is
-- asked for, and what it came to was printed; this is its status
pub record HasEnded (e : Exploring) (s : SourceTables) (status : ℕ) (done : Option (List Deed)) : Type 0 where
  pub explored : Explored
  pub is : IsExplored s explored
  pub status_is : status ≡ explored.status
  pub searched : Option (List Deed)
  pub cleared : Option (List Deed)
  pub clears : RemovesSteps e s.out (length explored.steps.items) searched cleared
  pub reported : Option (List Deed)
  pub reports :
      Does cleared
      (report_written (option_map (λ name. name.now) e.junit) (option_map (λ out. out.items) explored.report))
      reported
  pub gives : Gives e s.out explored reported done
  pub claimed : status ≡ 0 → HasClaimed s done

-- what an exploration claims of an image, of its system as it is configured, of the bodies of its text, and of a
-- question
abbrev pub claim_of : ImageTables → (configured : SystemTables) → List TextBody → Question → Exploring → ClaimTables
claim_of i configured bodies q e =
    record { image = i; configured = configured; bodies = bodies; question = q; bound = e.bound }

-- the sentences of a text that are not about calls; none of a text with a flaw
abbrev pub sentences_in : Result (List Expected) ExpectFault → List Expected
sentences_in (Ok expected) = expected
sentences_in (Err fault) = []

-- what the report of an exploration speaks of, by what it claims, the names of locals, and the text of its sentences
abbrev pub sources_of : ClaimTables → LocalNames → (said : List ℕ) → Exploring → SourceTables
sources_of c names said e =
    record {
      claim = c;
      positions = positions_of c.bodies;
      names = names;
      src = e.src.now;
      out = out_name e.cfg.now (option_map (λ name. name.now) e.out);
      file = unwrap_or (option_map (λ name. name.now) e.expect) [];
      answers = e.answers;
      strict = e.strict;
      report = is_some e.junit;
      form = e.form;
      sections = length e.asked.alone.now;
      expected = sentences_in (other_sentences_of c.configured said);
      call_sentences = call_sentences_of c.configured said;
      nevers_at = length (nevers_at_in c.image.code c.bodies (codes_in e.asked.nevers.now));
    }

-- something is so of what the report of an exploration speaks of
pub record OfQuestion (c : ClaimTables) (said : List ℕ) (e : Exploring) (P : SourceTables → Type 0) : Type 0 where
  pub names : LocalNames
  pub so : P (sources_of c names said e)

-- the same of an image, and of what the words and a text of sentences ask, which is read for the system as its
-- configuration describes it
pub record OfImage (i : ImageTables) (configured : SystemTables) (src said : List ℕ) (e : Exploring)
    (P : SourceTables → Type 0) : Type 0 where
  pub bodies : List TextBody
  pub are : AreBodiesOf src bodies
  pub question : Question
  pub asks : IsQuestionOf e.asked said configured i.system i.code bodies question
  pub holds : OfQuestion (claim_of i configured bodies question e) said e P

-- the same of the image that two texts build
pub record OfTexts (cfg src said : List ℕ) (e : Exploring) (P : SourceTables → Type 0) : Type 0 where
  pub image : ImageTables
  pub builds : Builds cfg src image
  pub configured : System
  pub described : Describes cfg configured
  pub holds : OfImage image (tables_of configured) src said e P

-- a file has these bytes, where they are known
abbrev pub IsFile : Files → (name bytes : List ℕ) → Type 0
IsFile files name bytes = IfSome (files.bytes name) (λ all. bytes ≡ all)

-- the same of a name; where there is none, there are no bytes
abbrev pub IsNamedFile : Files → (name bytes : List ℕ) → Type 0
IsNamedFile files [] bytes = bytes ≡ []
IsNamedFile files (letter ∷ name) bytes = IsFile files (letter ∷ name) bytes

-- a file of sentences has this text, where there is one; else there are none
abbrev pub IsSaid : Files → (name : Option (List ℕ)) → (said : List ℕ) → Type 0
IsSaid files None said = said ≡ []
IsSaid files (Some name) said = IsFile files name said

-- the same of two texts, and of the sentences of a file
pub record OfBoth (files : Files) (cfg src : List ℕ) (e : Exploring) (P : SourceTables → Type 0) : Type 0 where
  pub said : List ℕ
  pub is_said : IsSaid files (option_map (λ name. name.now) e.expect) said
  pub holds : OfTexts cfg src said e P

-- the same of the texts of files
pub record OfFiles (files : Files) (e : Exploring) (P : SourceTables → Type 0) : Type 0 where
  pub cfg : List ℕ
  pub is_cfg : IsFile files e.cfg.now cfg
  pub src : List ℕ
  pub is_src : IsFile files e.src.now src
  pub holds : OfBoth files cfg src e P

-- nothing is found of the texts of files, and this was claimed last
abbrev pub HoldsOfFiles : Files → Exploring → (done : Option (List Deed)) → Type 0
HoldsOfFiles files e done = OfFiles files e (λ s. HasClaimed s done)

-- a search of the texts of files has ended with this status
abbrev pub EndsOfFiles : Files → Exploring → (status : ℕ) → (done : Option (List Deed)) → Type 0
EndsOfFiles files e status done = OfFiles files e (λ s. HasEnded e s status done)

-- the same of what these words ask for
pub record HoldsOfWords (files : Files) (rows : List Row) (done : Option (List Deed)) : Type 0 where
  pub exploring : Exploring
  pub is : IsExploring rows exploring
  pub holds : HoldsOfFiles files exploring done
