-- What is printed of a finding.
use Rattle.std.specs.Prelude.{ℕ, List, [], ◌++◌, Option, Some, None, codes, decimal, length, nat_eq, option_map}
use Rattle.std.specs.Prelude.{slice_get, if◌then◌else◌}
use Rattle.fmp_question.specs.declared.site.CallSite.{CallSite}
use Rattle.fmp_witness.specs.declared.finding.Finding.{Finding}
use Rattle.fmp_witness.specs.declared.finding.FindingKind.{FindingKind}
use Rattle.fmp_witness.specs.declared.finding.FindingKind.TheVariants as finding
use Rattle.fmp_searching.specs.Claims.{ClaimTables}
use Rattle.fmp_searching.specs.Sites.{line_of}
use Rattle.fmp_searching.specs.Sources.{SourceTables, steps_name}
use Rattle.fmp_searching.specs.declared.seen.Seen.{Seen}

-- a line of a file, if it is known
abbrev pub position_text : (file : List ℕ) → Option ℕ → List ℕ
position_text file None = file
position_text file (Some line) = file ++ (codes ":" ++ decimal line)

-- the line of the head of a body
abbrev pub head_line : ClaimTables → CallSite → Option ℕ
head_line c site = option_map (λ b. b.head) (slice_get c.bodies site.body)

-- the line of a finding: that of its call; of a body that goes on for ever that of its head
abbrev pub finding_line : ClaimTables → FindingKind → CallSite → Option ℕ
finding_line c (finding.Endless p) site = head_line c site
finding_line c _ site = line_of c.image.code c.bodies site

abbrev pub site_text : SourceTables → FindingKind → Option CallSite → List ℕ
site_text s k None = []
site_text s k (Some site) = position_text s.src (finding_line s.claim k site) ++ codes ": "

unfoldable pub steps_word : ℕ → List ℕ
steps_word n = if nat_eq n 1 then codes " step" else codes " steps"

-- how many steps lead to the finding of a number, and where they are
unfoldable pub steps_text : (out : List ℕ) → (number count : ℕ) → List ℕ
steps_text out number count =
    codes ": after "
    ++ (decimal count ++ (steps_word count ++ (codes ", in " ++ (steps_name out number ++ codes "\n"))))

-- a finding by its call and what is seen of it
abbrev pub seen_text : SourceTables → Finding → Seen → List ℕ
seen_text s f x = site_text s f.kind x.site ++ x.text.items

abbrev pub finding_text : SourceTables → (number : ℕ) → Finding → Seen → List ℕ
finding_text s number f x = seen_text s f x ++ steps_text s.out number (length f.steps.items)
