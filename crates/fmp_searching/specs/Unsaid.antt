-- Sentences that say nothing of a search: what they speak of never came.
use Rattle.std.specs.Prelude.{List, [], ◌∷◌, Bool, true, false, not, ◌&&◌, ◌||◌}
use Rattle.fmp_explore.specs.declared.exploring.Report.{Report}
use Rattle.fmp_explore.specs.declared.searching.Ending.{Ending}
use Rattle.fmp_explore.specs.declared.searching.Ending.TheVariants as ending
use Rattle.fmp_monitors.specs.Monitors.{has_premise}
use Rattle.fmp_question.specs.declared.question.Question.{Question}
use Rattle.fmp_schedules.specs.declared.monitor.Monitor.{Monitor}
use Rattle.fmp_schedules.specs.declared.monitor.MonitorSubject.{MonitorSubject}
use Rattle.fmp_schedules.specs.declared.monitor.MonitorSubject.TheVariants as subject

-- what a monitor watches says nothing, by whether what it speaks of came
abbrev pub is_unsaid : MonitorSubject → (came : Bool) → Bool
is_unsaid (subject.Sentence e) came = not came && has_premise e
is_unsaid (subject.Limit x) came = false

-- one of these monitors says nothing
abbrev pub is_one_unsaid : List Monitor → (premises : List Bool) → Bool
is_one_unsaid [] premises = false
is_one_unsaid (m ∷ ms) [] = false
is_one_unsaid (m ∷ ms) (came ∷ more) = is_unsaid m.subject came || is_one_unsaid ms more

abbrev pub is_complete : Ending → Bool
is_complete ending.Complete = true
is_complete ending.Found = false
is_complete ending.StateLimit = false
is_complete ending.TimeLimit = false
is_complete ending.OutOfMemory = false

-- a search that has examined every state has shown that a sentence of the question says nothing
abbrev pub has_unsaid : Question → Report → Bool
has_unsaid q r = is_complete r.ending && is_one_unsaid q.monitors.items r.premises.items
