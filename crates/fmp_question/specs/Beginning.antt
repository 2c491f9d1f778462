-- Searches that begin after events.
use Rattle.std.specs.Prelude.{◌≡◌, ◌<◌, ◌⊎◌, [], count_by}
use Rattle.fmp_question.specs.declared.question.Question.{Question}
use Rattle.fmp_schedules.specs.Deadlocks.{is_interrupt}

-- a search can begin after the events of a question: at setup, or where nothing is watched
pub record CanBegin (q : Question) : Type 0 where
  pub few : count_by is_interrupt q.after.items < 256
  pub alone : (q.after.items ≡ []) ⊎ (q.monitors.items ≡ [])
