-- What is claimed of all schedules, and how a search ended, as they are printed.
use Rattle.std.specs.Prelude.{ℕ, List, [], ◌∷◌, ◌++◌, length, drop, Bool, true, false, not, ◌&&◌, ◌||◌, Option, Some}
use Rattle.std.specs.Prelude.{None, is_some, codes, decimal, slice_get, nat_eq, nat_lt, unwrap_or, if◌then◌else◌}
use Rattle.std.specs.Fmt.{signed_decimal}
use Rattle.std.specs.List.{flat_map, list_any}
use Rattle.fmp_base.specs.Codes.{code_name}
use Rattle.fmp_base.specs.Names.{name_text}
use Rattle.fmp_base.specs.Services.{service_name}
use Rattle.fmp_base.specs.Systems.{SystemTables, tables_of}
use Rattle.fmp_base.specs.Texts.{fault_text, task_name}
use Rattle.fmp_base.specs.declared.bodies.Fault.{Fault}
use Rattle.fmp_base.specs.declared.bodies.Fault.TheVariants.{Overflow, Division, Index}
use Rattle.fmp_base.specs.declared.services.Service.{Service}
use Rattle.fmp_base.specs.declared.systems.TaskConfig.{TaskConfig}
use Rattle.fmp_explore.specs.declared.exploring.Report.{Report}
use Rattle.fmp_explore.specs.declared.exploring.StuckSearch.{StuckSearch}
use Rattle.fmp_explore.specs.declared.exploring.StuckSearch.TheVariants as stuck
use Rattle.fmp_explore.specs.declared.searching.Ending.{Ending}
use Rattle.fmp_explore.specs.declared.searching.Ending.TheVariants as ending
use Rattle.fmp_explore.specs.declared.stuck.SearchLimit.{SearchLimit}
use Rattle.fmp_explore.specs.declared.stuck.SearchLimit.TheVariants as limit
use Rattle.fmp_witness.specs.declared.finding.Finding.{Finding}
use Rattle.fmp_witness.specs.declared.finding.FindingKind.{FindingKind}
use Rattle.fmp_witness.specs.declared.finding.FindingKind.TheVariants as kind
use Rattle.fmp_image_bytes.specs.Images.{ImageTables}
use Rattle.fmp_instructions.specs.declared.instructions.Instruction.{Instruction}
use Rattle.fmp_instructions.specs.declared.instructions.Instruction.TheVariants as instruction
use Rattle.fmp_instructions.specs.Instructions.{BodyTables, instructions_at}
use Rattle.fmp_question.specs.declared.question.Never.{Never}
use Rattle.fmp_question.specs.declared.question.Never.TheVariants as never
use Rattle.fmp_question.specs.declared.question.NeverAt.{NeverAt}
use Rattle.fmp_question.specs.declared.question.Question.{Question}
use Rattle.fmp_question.specs.declared.question.Ticks.{Ticks}
use Rattle.fmp_question.specs.declared.question.Ticks.TheVariants as ticks
use Rattle.fmp_question.specs.declared.site.CallSite.{CallSite}
use Rattle.fmp_question.specs.Forbidden.{is_same_fault}
use Rattle.fmp_searching.specs.Limits.{limits_text}
use Rattle.fmp_searching.specs.Sentences.{monitors_text}
use Rattle.fmp_frames.specs.CallPositions.{TextBody}
use Rattle.fmp_searching.specs.Sites.{line_of}
use Rattle.fmp_searching.specs.declared.sources.Claim.{Claim}

-- what a claim is about: an image, its system as the configuration describes it, the bodies of its text, a question,
-- and a bound
pub record ClaimTables : Type 0 where
  pub image : ImageTables
  pub configured : SystemTables
  pub bodies : List TextBody
  pub question : Question
  pub bound : ℕ

abbrev pub claim_tables : Claim → ClaimTables
claim_tables c =
    record {
      image = c.image.now;
      configured = tables_of c.configured.now;
      bodies = c.lines.now;
      question = c.question.now;
      bound = c.bound;
    }

-- stuck tasks were looked for
abbrev pub is_done : StuckSearch → Bool
is_done stuck.Done = true
is_done stuck.Skipped = false
is_done (stuck.Stopped at) = false

-- the status of a search: 4 where something was found, or what is unsaid counts so; 0 where the report holds and stuck
-- tasks were looked for; else 5
abbrev pub status_of : (unsaid : Bool) → Report → ℕ
status_of unsaid r =
    if unsaid || nat_lt 0 (length r.findings.items) then 4 else (if r.holds && is_done r.stuck_search then 0 else 5)

-- what must never happen; of a fault it is said at the end
unfoldable pub never_text : SystemTables → Never → List ℕ
never_text sys (never.Answer code) = codes "never " ++ (code_name code ++ codes ", ")
never_text sys (never.Put value) = codes "never put(" ++ (signed_decimal value ++ codes "), ")
never_text sys (never.Acts t) = codes "never " ++ (task_name sys t ++ codes " acts, ")
never_text sys (never.Fault fault) = []

abbrev pub service_of : Option Instruction → Option Service
service_of (Some (instruction.Call service out result)) = Some service
service_of _ = None

-- the service that is called at a position of the code, if one is
abbrev pub service_at : List BodyTables → CallSite → Option Service
service_at code site = service_of (slice_get (instructions_at code site.body) site.pc)

-- a call by its name and its line; else by its position
unfoldable pub call_text : CallSite → (service : Option Service) → (line : Option ℕ) → List ℕ
call_text site (Some service) (Some line) = service_name service ++ (codes " in line " ++ decimal line)
call_text site _ _ = codes "the call at " ++ (decimal site.pc ++ (codes " of body " ++ decimal site.body))

abbrev pub site_text : List BodyTables → List TextBody → CallSite → List ℕ
site_text code bodies site =
    call_text site (service_at code site) (line_of code bodies site)

-- whose answers are meant, if that matters
abbrev pub of_task : SystemTables → Option ℕ → List ℕ
of_task sys None = []
of_task sys (Some t) = codes " by " ++ task_name sys t

-- an answer that must never be given to a call
unfoldable pub never_at_text : SystemTables → List BodyTables → List TextBody → NeverAt → List ℕ
never_at_text sys code bodies n =
    codes "never "
    ++ (code_name n.code ++ (of_task sys n.by ++ (codes " of " ++ (site_text code bodies n.site ++ codes ", "))))

unfoldable pub rest_text : TaskConfig → List ℕ
rest_text task = codes ", " ++ (name_text task.name ++ codes " may rest")

-- the tasks that may rest, by these marks
abbrev pub rests_text : List TaskConfig → List Bool → List ℕ
rests_text [] rest = []
rests_text (task ∷ tasks) [] = []
rests_text (task ∷ tasks) (rests ∷ more) = (if rests then rest_text task else []) ++ rests_text tasks more

-- no interrupt may come if there may be none of any
abbrev pub may_come : Option ℕ → Bool
may_come None = true
may_come (Some most) = nat_lt 0 most

-- why a state is no deadlock though no task goes on, each after `, `: a cyclic handler goes on, an interrupt may come,
-- a task may rest
unfoldable pub reasons_text : SystemTables → Question → List ℕ
reasons_text sys q =
    (if nat_lt 0 (length sys.cyclics) then codes ", a cyclic handler goes on" else [])
    ++ ((if nat_lt 0 (length sys.interrupts) && may_come q.interrupts then codes ", an interrupt may come" else [])
    ++ rests_text sys.tasks q.rest.items)

-- the same in brackets, without the first `, `
unfoldable pub in_brackets : List ℕ → List ℕ
in_brackets reasons = if nat_lt 2 (length reasons) then codes " (" ++ (drop 2 reasons ++ codes ")") else []

abbrev pub is_fault_never : Fault → Never → Bool
is_fault_never fault (never.Fault f) = is_same_fault f fault
is_fault_never fault _ = false

-- no body may stop with this fault
abbrev pub forbids_fault : List Never → Fault → Bool
forbids_fault nevers fault = list_any (λ n. is_fault_never fault n) nevers

unfoldable pub one_fault_text : List Never → Fault → List ℕ
one_fault_text nevers fault = if forbids_fault nevers fault then codes ", never " ++ fault_text fault else []

abbrev pub forbids_all : List Never → Bool
forbids_all nevers = forbids_fault nevers Overflow && forbids_fault nevers Division && forbids_fault nevers Index

unfoldable pub faults_text : List Never → List ℕ
faults_text nevers =
    if forbids_all nevers
    then codes ", no fault"
    else one_fault_text nevers Overflow ++ (one_fault_text nevers Division ++ one_fault_text nevers Index)

unfoldable pub interrupt_word : ℕ → List ℕ
interrupt_word n = if nat_eq n 1 then codes " interrupt" else codes " interrupts"

unfoldable pub most_text : ℕ → List ℕ
most_text n = codes " with at most " ++ decimal n

-- at most this many interrupts
unfoldable pub count_text : ℕ → List ℕ
count_text n = most_text n ++ interrupt_word n

unfoldable pub interrupts_text : Option ℕ → List ℕ
interrupts_text None = []
interrupts_text (Some n) = count_text n

-- when the clock ticks; `,` stands in front where interrupts are limited
unfoldable pub ticks_text : Ticks → (limited : Bool) → List ℕ
ticks_text ticks.Any limited = []
ticks_text ticks.Idle limited =
    (if limited then codes "," else []) ++ codes " in which the clock ticks only where no processor can do anything"

-- what stands before how much is queued: `and` after when the clock ticks, else as before that
unfoldable pub joint_text : Ticks → (limited : Bool) → List ℕ
joint_text ticks.Any limited = (if limited then codes "," else []) ++ codes " in which"
joint_text ticks.Idle limited = codes " and"

unfoldable pub activations_word : ℕ → List ℕ
activations_word n = if nat_eq n 1 then codes " activation and " else codes " activations and "

unfoldable pub wakeups_word : ℕ → List ℕ
wakeups_word n = if nat_eq n 1 then codes " wakeup" else codes " wakeups"

unfoldable pub activations_text : ℕ → List ℕ
activations_text n = decimal n ++ activations_word n

unfoldable pub wakeups_text : ℕ → List ℕ
wakeups_text n = decimal n ++ wakeups_word n

-- at most this many activations and wakeups are queued
unfoldable pub queue_text : ℕ → List ℕ
queue_text n = codes " at most " ++ (activations_text n ++ (wakeups_text n ++ codes " of a task are queued"))

-- how much may be queued, after when the clock ticks
unfoldable pub queued_text : Option ℕ → Ticks → (limited : Bool) → List ℕ
queued_text None ticks limited = []
queued_text (Some n) ticks limited = joint_text ticks limited ++ queue_text n

-- which events the lists have
unfoldable pub rules_text : Question → List ℕ
rules_text q =
    interrupts_text q.interrupts
    ++ (ticks_text q.ticks (is_some q.interrupts) ++ queued_text q.queued q.ticks (is_some q.interrupts))

unfoldable pub bound_text : ℕ → List ℕ
bound_text bound = codes ", at bound " ++ (decimal bound ++ codes "\n")

-- over which lists of events, at which bound
unfoldable pub lists_text : Question → (bound : ℕ) → List ℕ
lists_text q bound =
    codes ": over all lists of events" ++ (rules_text q ++ (limits_text q.monitors.items ++ bound_text bound))

unfoldable pub nevers_text : SystemTables → List Never → List ℕ
nevers_text sys nevers = flat_map (λ n. never_text sys n) nevers

unfoldable pub nevers_at_text : SystemTables → List BodyTables → List TextBody → List NeverAt → List ℕ
nevers_at_text sys code bodies nevers = flat_map (λ n. never_at_text sys code bodies n) nevers

-- what the words ask for
unfoldable pub asked_text : ClaimTables → List ℕ
asked_text c =
    nevers_text c.image.system c.question.nevers.items
    ++ (nevers_at_text c.image.system c.image.code c.bodies c.question.nevers_at.items
    ++ monitors_text c.configured c.question.monitors.items)

-- no deadlock, and why a state is none though no task goes on
unfoldable pub deadlock_text : SystemTables → Question → List ℕ
deadlock_text sys q = codes "no deadlock" ++ in_brackets (reasons_text sys q)

-- what no list of events comes to
unfoldable pub parts_text : ClaimTables → List ℕ
parts_text c = asked_text c ++ (deadlock_text c.image.system c.question ++ faults_text c.question.nevers.items)

-- the line of a claim: what no list of events comes to, over which lists, at which bound
unfoldable pub claim_text : ClaimTables → List ℕ
claim_text c = parts_text c ++ lists_text c.question c.bound

abbrev pub is_of_stuck : FindingKind → Bool
is_of_stuck (kind.Stuck t) = true
is_of_stuck _ = false

abbrev pub is_stuck : Finding → Bool
is_stuck f = is_of_stuck f.kind

-- nothing is said beside findings
abbrev pub unconfirmed_text : (found : Bool) → List ℕ
unconfirmed_text true = []
unconfirmed_text false =
    codes "nothing was found, and nothing is claimed: what seemed to be found could not be confirmed\n"

unfoldable pub state_word : ℕ → List ℕ
state_word n = if nat_eq n 1 then codes " state (--states)\n" else codes " states (--states)\n"

unfoldable pub second_word : ℕ → List ℕ
second_word n = if nat_eq n 1 then codes " second (--time)\n" else codes " seconds (--time)\n"

unfoldable pub states_limit : ℕ → List ℕ
states_limit n = decimal n ++ state_word n

unfoldable pub seconds_limit : ℕ → List ℕ
seconds_limit n = decimal n ++ second_word n

-- the limit at which a search for a question stopped
unfoldable pub limit_text : Question → SearchLimit → List ℕ
limit_text q limit.States = states_limit q.states
limit_text q limit.Time = seconds_limit (unwrap_or q.seconds 0)
limit_text q limit.Memory = codes "out of memory\n"

-- the search for stuck tasks stopped at this limit
unfoldable pub stopped_text : Question → SearchLimit → List ℕ
stopped_text q at = codes "stuck tasks were not looked for: " ++ limit_text q at

-- why stuck tasks were not looked for; nothing if they were
unfoldable pub unlooked_text : Question → StuckSearch → List ℕ
unlooked_text q stuck.Done = []
unlooked_text q stuck.Skipped = codes "stuck tasks were not looked for\n"
unlooked_text q (stuck.Stopped at) = stopped_text q at

-- what is said of stuck tasks beside the claim of a search for a question
unfoldable pub stuck_note : Question → Report → List ℕ
stuck_note q r =
    if not (is_done r.stuck_search)
    then unlooked_text q r.stuck_search
    else (if list_any (λ f. is_stuck f) r.findings.items
    then []
    else codes "no stuck task was found (searched, not proved)\n")

unfoldable pub states_text : ℕ → List ℕ
states_text n = codes "stopped at " ++ states_limit n

unfoldable pub seconds_text : ℕ → List ℕ
seconds_text n = codes "stopped after " ++ seconds_limit n

-- how a search ended that claims nothing
unfoldable pub end_text : Question → Ending → (found : Bool) → List ℕ
end_text q ending.StateLimit found = states_text q.states
end_text q ending.TimeLimit found = seconds_text (unwrap_or q.seconds 0)
end_text q ending.OutOfMemory found = codes "stopped: out of memory\n"
end_text q ending.Complete found = unconfirmed_text found
end_text q ending.Found found = unconfirmed_text found

-- what a search says at its end: its claim, if its report holds, or why it claims nothing
unfoldable pub ending_text : ClaimTables → Report → List ℕ
ending_text c r =
    if r.holds
    then claim_text c ++ stuck_note c.question r
    else end_text c.question r.ending (nat_lt 0 (length r.findings.items))
