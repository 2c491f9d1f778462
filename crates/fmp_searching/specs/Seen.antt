-- What findings break.
use Rattle.std.specs.Prelude.{ℕ, ◌≡◌, ◌+◌, ◌==◌, ◌⊎◌, ◌++◌, Bool, true, false, ◌&&◌, ◌||◌, List, [], ◌∷◌, map, nat_eq}
use Rattle.std.specs.Prelude.{nat_lt, option_and_then, slice_get, take, Option, None, Some, is_some, position}
use Rattle.std.specs.Prelude.{if◌then◌else◌}
use Rattle.std.specs.List.{AllZip, list_all, list_any}
use Rattle.fmp_base.specs.declared.calls.Reply.{Reply}
use Rattle.fmp_base.specs.declared.events.Line.{Line}
use Rattle.fmp_base.specs.declared.events.Line.TheVariants as line
use Rattle.fmp_base.specs.declared.states.Caller.{Caller}
use Rattle.fmp_base.specs.declared.states.Caller.TheVariants as caller
use Rattle.fmp_expect.specs.declared.call_sentences.CallSentence.{CallSentence}
use Rattle.fmp_question.specs.Forbidden.{is_same_code, tells}
use Rattle.fmp_question.specs.declared.question.NeverAt.{NeverAt}
use Rattle.fmp_question.specs.declared.site.CallSite.{CallSite}
use Rattle.fmp_base.specs.Systems.{SystemTables}
use Rattle.fmp_replay.specs.Replays.{done_count, replay}
use Rattle.fmp_witness.specs.declared.finding.Finding.{Finding}
use Rattle.fmp_witness.specs.declared.finding.FindingKind.{FindingKind}
use Rattle.fmp_witness.specs.declared.finding.FindingKind.TheVariants as finding
use Rattle.fmp_witness.specs.declared.finding.Left.{Left}
use Rattle.fmp_witness.specs.declared.started.Started.{Started}
use Rattle.fmp_searching.specs.Claims.{ClaimTables}
use Rattle.fmp_searching.specs.Said.{first_broken, left_text}
use Rattle.fmp_searching.specs.Sites.{line_of}
use Rattle.fmp_searching.specs.Sources.{SourceTables}
use Rattle.fmp_searching.specs.Stuck.{IsHeldUp, stuck_text}
use Rattle.fmp_searching.specs.declared.call_sentences.Answer.{Answer}
use Rattle.fmp_searching.specs.declared.seen.Broken.{Broken}
use Rattle.fmp_searching.specs.declared.seen.Seen.{Seen}
use Rattle.fmp_searching.specs.declared.seen.SeenKind.{SeenKind}
use Rattle.fmp_searching.specs.declared.seen.SeenKind.TheVariants as kind
use Rattle.fmp_searching.specs.declared.stuck.HeldUp.{HeldUp}
use Rattle.fmp_searching.specs.declared.stuck.Spun.{Spun}

abbrev pub is_same : SeenKind → SeenKind → Bool
is_same kind.Never kind.Never = true
is_same kind.Fault kind.Fault = true
is_same (kind.Alone p) (kind.Alone other) = p == other
is_same (kind.Sentence p) (kind.Sentence other) = p == other
is_same (kind.CallSentence p) (kind.CallSentence other) = p == other
is_same kind.Deadlock kind.Deadlock = true
is_same kind.Endless kind.Endless = true
is_same kind.Stuck kind.Stuck = true
is_same a b = false

-- the sentence about calls at a place is one of these
abbrev pub is_broken_call_sentence : SeenKind → (broken : List ℕ) → Bool
is_broken_call_sentence (kind.CallSentence p) broken = list_any (λ other. p == other) broken
is_broken_call_sentence k broken = false

-- what is asked is broken, as what a finding breaks, or as one of the sentences about calls that it breaks
abbrev pub is_broken : (asked : SeenKind) → Seen → Bool
is_broken asked s = is_same asked s.kind || is_broken_call_sentence asked s.call_sentences.items

-- what is broken where the sentence at a place is, of which the first are those of sections
abbrev pub kind_at : (sections place : ℕ) → SeenKind
kind_at sections place = if nat_lt place sections then kind.Alone place else kind.Sentence place

-- a line tells what must never come, as a fault
abbrev pub is_line : SeenKind → Bool
is_line kind.Never = true
is_line (kind.CallSentence place) = true
is_line kind.Fault = true
is_line other = false

-- a finding breaks this
abbrev pub breaks : (sections : ℕ) → FindingKind → SeenKind → Bool
breaks sections (finding.Line place) k = is_line k
breaks sections finding.Deadlock k = is_same kind.Deadlock k
breaks sections (finding.Endless p) k = is_same kind.Endless k
breaks sections (finding.Breach b) k = is_same (kind_at sections b.monitor) k
breaks sections (finding.State place) k = is_same (kind_at sections place) k
breaks sections (finding.Stuck t) k = is_same kind.Stuck k

abbrev pub is_fitting : (sections : ℕ) → Seen → Bool
is_fitting sections s = breaks sections s.found s.kind

-- ---- sentences about calls

abbrev pub task_of : Caller → Option ℕ
task_of (caller.Task t) = Some t
task_of (caller.Handler h) = None

abbrev pub answer_of : Caller → Option Reply → Option Answer
answer_of who None = None
answer_of who (Some reply) = Some (record { code = reply.code; task = task_of who })

-- the answer that a line tells, and the task that gets it
abbrev pub answer_told : Line → Option Answer
answer_told (line.Call p who made reply) = answer_of who reply
answer_told (line.Gets p t reply) = Some (record { code = reply.code; task = Some t })
answer_told _ = None

-- the answers to this task are meant, if it is a task and some task's are
abbrev pub is_meant : (by task : Option ℕ) → Bool
is_meant None task = true
is_meant (Some t) (Some other) = nat_eq t other
is_meant (Some t) None = false

-- a sentence forbids an answer to a call in this line
abbrev pub forbids_answer : (line : ℕ) → Answer → CallSentence → Bool
forbids_answer line a s = nat_eq s.at line && (is_same_code s.code a.code && is_meant s.by a.task)

-- the places of the sentences that forbid an answer, where the first has this place
abbrev pub forbidding : (line : ℕ) → Answer → (place : ℕ) → List CallSentence → List ℕ
forbidding line a place [] = []
forbidding line a place (s ∷ ss) =
    (if forbids_answer line a s then place ∷ [] else []) ++ forbidding line a (place + 1) ss

abbrev pub forbidding_at : Option Answer → (line : Option ℕ) → List CallSentence → List ℕ
forbidding_at None line ss = []
forbidding_at (Some a) None ss = []
forbidding_at (Some a) (Some line) ss = forbidding line a 0 ss

-- the line of the trace that a finding is about, of those that its last step told, if it is about one
abbrev pub line_found : FindingKind → List Line → Option Line
line_found (finding.Line place) told = slice_get told place
line_found _ told = None

abbrev pub call_line : ClaimTables → Finding → Option ℕ
call_line c f = option_and_then (λ site. line_of c.image.code c.bodies site) f.site

-- the places of the sentences about calls that a finding breaks whose last step told these lines
abbrev pub broken_sentences : SourceTables → Finding → (told : List Line) → List ℕ
broken_sentences s f told =
    forbidding_at (option_and_then answer_told (line_found f.kind told)) (call_line s.claim f) s.call_sentences

-- ---- what the command line forbids

abbrev pub is_same_site : CallSite → CallSite → Bool
is_same_site a b = nat_eq a.body b.body && nat_eq a.pc b.pc

-- one of these answers at calls is this one
abbrev pub is_among : List NeverAt → CallSite → Answer → Bool
is_among nevers site a = list_any (λ n. is_same_code n.code a.code && is_same_site n.site site) nevers

abbrev pub is_at_call : List NeverAt → Option CallSite → Option Answer → Bool
is_at_call nevers (Some site) (Some a) = is_among nevers site a
is_at_call nevers (Some site) None = false
is_at_call nevers None a = false

abbrev pub is_line_forbidden : SourceTables → Option CallSite → Option Line → Bool
is_line_forbidden s site None = false
is_line_forbidden s site (Some l) =
    is_some (position (λ never. tells never l) s.claim.question.nevers.items)
    || is_at_call (take s.nevers_at s.claim.question.nevers_at.items) site (answer_told l)

-- the command line forbids what a finding tells whose last step told these lines
abbrev pub is_forbidden : SourceTables → Finding → (told : List Line) → Bool
is_forbidden s f told = is_line_forbidden s f.site (line_found f.kind told)

-- ---- what a finding breaks

-- what a line breaks: a fault is one; else what only a sentence about calls forbids breaks that
abbrev pub line_kind : Option Line → (sentence : Option ℕ) → SeenKind
line_kind (Some (line.Fault p who fault)) sentence = kind.Fault
line_kind l (Some place) = kind.CallSentence place
line_kind l None = kind.Never

abbrev pub kind_by : (sections : ℕ) → FindingKind → (told : List Line) → (sentence : Option ℕ) → SeenKind
kind_by sections (finding.Line place) told sentence = line_kind (slice_get told place) sentence
kind_by sections finding.Deadlock told sentence = kind.Deadlock
kind_by sections (finding.Endless p) told sentence = kind.Endless
kind_by sections (finding.Breach b) told sentence = kind_at sections b.monitor
kind_by sections (finding.State place) told sentence = kind_at sections place
kind_by sections (finding.Stuck t) told sentence = kind.Stuck

-- the first sentence about calls that a finding breaks, if the command line does not forbid the same
abbrev pub sentence_alone : SourceTables → Finding → (told : List Line) → Option ℕ
sentence_alone s f told = if is_forbidden s f told then None else slice_get (broken_sentences s f told) 0

abbrev pub kind_of : SourceTables → Finding → (told : List Line) → SeenKind
kind_of s f told = kind_by s.sections f.kind told (sentence_alone s f told)

-- these are the lines of the last step of a finding, or they are not known
abbrev pub AreTold : ClaimTables → Finding → (told : List Line) → Type 0
AreTold c f told = (told ≡ []) ⊎ (told ≡ (replay c.image c.bound f.steps.items).lines)

-- what a finding breaks whose last step told these lines
pub record IsBroken (s : SourceTables) (f : Finding) (told : List Line) (b : Broken) : Type 0 where
  pub fits : breaks s.sections f.kind b.kind ≡ true
  pub kind : b.kind ≡ kind_of s f told
  pub sentences : b.sentences.items ≡ broken_sentences s f told

-- ---- what is said of a finding

-- the steps of a finding leave this, or it is not known
pub record IsShown (c : ClaimTables) (f : Finding) (left : Left) : Type 0 where
  pub lines : AreTold c f left.lines.items
  pub number : (left.lines.items ≡ []) ⊎ (left.number ≡ done_count c.image c.bound f.steps.items)

abbrev pub is_stuck : FindingKind → Bool
is_stuck (finding.Stuck t) = true
is_stuck _ = false

-- the call and the text of a finding whose last step told these lines: the text tells the number of that step in the
-- trace, the tasks that are started then, and the first sentence about calls that is broken
pub record IsLeftSaid (s : SourceTables) (f : Finding) (told : List Line) (site : Option CallSite) (text : List ℕ) :
    Type 0 where
  pub call : site ≡ f.site
  pub number : ℕ
  pub counted : (told ≡ []) ⊎ (number ≡ done_count s.claim.image s.claim.bound f.steps.items)
  pub started : List Started
  pub is : text ≡ left_text s f.kind number told started ++ first_broken s (broken_sentences s f told)

-- the call by which a task spins, or else its last one
abbrev pub held_site : Option Spun → (last : Option CallSite) → Option CallSite
held_site None last = last
held_site (Some spun) last = Some spun.site

abbrev pub held_lock : Option Spun → Option ℕ
held_lock None = None
held_lock (Some spun) = Some spun.lock

abbrev pub held_text : SystemTables → (t : ℕ) → HeldUp → List ℕ
held_text sys t held = stuck_text sys t held.block (held_lock held.spun)

-- the call and the text of a finding that is the stuck task t, which stands so after its steps
pub record IsHeldSaid (s : SourceTables) (f : Finding) (t : ℕ) (site : Option CallSite) (text : List ℕ) : Type 0 where
  pub held : HeldUp
  pub stands : IsHeldUp s.claim.image s.claim.bound f.steps.items t held
  pub call : site ≡ held_site held.spun f.site
  pub is : text ≡ held_text s.claim.image.system t held

-- the same, or nothing where there is no such task
abbrev pub IsStuckSaid : SourceTables → Finding → (t : ℕ) → Option CallSite → List ℕ → Type 0
IsStuckSaid s f t site text = ((site ≡ None) × (text ≡ [])) ⊎ IsHeldSaid s f t site text

-- the call and the text of a finding of this kind
abbrev pub IsSaid : SourceTables → Finding → FindingKind → (told : List Line) → Option CallSite → List ℕ → Type 0
IsSaid s f (finding.Stuck t) told site text = IsStuckSaid s f t site text
IsSaid s f _ told site text = IsLeftSaid s f told site text

-- what is seen of a finding
pub record IsSeen (s : SourceTables) (f : Finding) (x : Seen) : Type 0 where
  pub found : x.found ≡ f.kind
  pub broken : is_fitting s.sections x ≡ true
  pub told : List Line
  pub are_told : AreTold s.claim f told
  pub kind : x.kind ≡ kind_of s f told
  pub sentences : x.call_sentences.items ≡ broken_sentences s f told
  pub said : IsSaid s f f.kind told x.site x.text.items

-- what is seen of each of these findings, in order
pub record AreSeen (s : SourceTables) (findings : List Finding) (seen : List Seen) : Type 0 where
  pub found : map (λ x. x.found) seen ≡ map (λ f. f.kind) findings
  pub broken : list_all (λ x. is_fitting s.sections x) seen ≡ true
  pub each : AllZip (IsSeen s) findings seen
