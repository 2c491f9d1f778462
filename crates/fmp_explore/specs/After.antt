-- What a search that begins after events shows.
use Rattle.std.specs.Prelude.{ℕ, ◌≡◌, List, [], ◌∷◌, false}
use Rattle.fmp_base.specs.declared.events.Event.{Event}
use Rattle.fmp_base.specs.Runs.{run}
use Rattle.fmp_question.specs.declared.question.Never.TheVariants as kind
use Rattle.fmp_question.specs.declared.question.Question.{Question}
use Rattle.fmp_question.specs.Forbidden.{forbids}
use Rattle.fmp_question.specs.Rules.{rules_of}
use Rattle.fmp_schedules.specs.Schedules.{is_told, reached}
use Rattle.fmp_schedules.specs.Stuck.{MayFollow, acts}
use Rattle.fmp_witness.specs.Asked.{Asked, meaning_of}

-- where nothing is watched, whatever events follow those after which a search begins, as the rules let them come, no
-- forbidden line is told
abbrev pub NoneFollows : Asked → Type 0
NoneFollows asked =
    asked.question.monitors.items ≡ [] → (more : List Event) →
    MayFollow (rules_of asked.question) asked.image.system (meaning_of asked) asked.bound
    asked.question.after.items more →
    is_told (forbids asked.question.nevers.items)
    (run asked.image.system (meaning_of asked) asked.bound
    (reached asked.image.system (meaning_of asked) asked.bound asked.question.after.items) more).events ≡ false

-- whatever events follow these, as the rules of a question let them come, the task does not act
abbrev pub NeverActs : Asked → List Event → (t : ℕ) → Type 0
NeverActs asked es t =
    (more : List Event) →
    MayFollow (rules_of asked.question) asked.image.system (meaning_of asked) asked.bound es more →
    is_told (acts t)
    (run asked.image.system (meaning_of asked) asked.bound
    (reached asked.image.system (meaning_of asked) asked.bound es) more).events ≡ false

-- a question asks whether task t acts after these events, by the rules of another one without limits of single
-- interrupts
pub record IsAbout (q : Question) (es : List Event) (t : ℕ) (about : Question) : Type 0 where
  pub nevers : about.nevers.items ≡ kind.Acts t ∷ []
  pub monitors : about.monitors.items ≡ []
  pub ticks : about.ticks ≡ q.ticks
  pub interrupts : about.interrupts ≡ q.interrupts
  pub queued : about.queued ≡ q.queued
  pub after : about.after.items ≡ es
