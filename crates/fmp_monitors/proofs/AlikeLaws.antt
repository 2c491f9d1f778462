-- A condition is the same in alike states.
use Rattle.std.proofs.Common.{◌≡◌, ◌∙◌, ℕ, ℤ, pos, List, [], ◌∷◌, Bool, not, ◌&&◌, ◌||◌, ap, get_or, length, refl}
use Rattle.std.specs.Prelude.{if◌then◌else◌}
use Rattle.fmp_base.specs.declared.events.StateWord.{StateWord}
use Rattle.fmp_base.specs.declared.states.TaskBlock.{TaskBlock}
use Rattle.fmp_base.specs.DataQueueCalls.{words_at}
use Rattle.fmp_base.specs.FlagCalls.{pattern_at}
use Rattle.fmp_base.specs.MailboxCalls.{messages_at}
use Rattle.fmp_base.specs.States.{KernelState, processor_at, task_at}
use Rattle.fmp_base.specs.Systems.{SystemTables}
use Rattle.fmp_bisimulation.specs.Alike.{AlikeStates}
use Rattle.fmp_bisimulation.proofs.TimeLaws.{blocks-at}
use Rattle.fmp_monitors.specs.declared.condition.Condition.{Condition}
use Rattle.fmp_monitors.specs.declared.condition.ConditionTest.{ConditionTest}
use Rattle.fmp_monitors.specs.declared.condition.Measure.{Measure}
use Rattle.fmp_monitors.specs.declared.condition.Measure.TheVariants as measure
use Rattle.fmp_monitors.specs.declared.condition.TestedFact.{TestedFact}
use Rattle.fmp_monitors.specs.declared.condition.TestedFact.TheVariants as fact
use Rattle.fmp_monitors.specs.Conditions.{compares, holds, is_same_task, is_so, measured, passes, passes_all, passes_one}
use Rattle.fmp_monitors.specs.Conditions.{tests_of, word_at, word_in}
use Rattle.fmp_monitors.specs.Happenings.{is_state}

module _ (sys : SystemTables) (s u : KernelState) (h : AlikeStates sys s u) where
  measured-same : (m : Measure) → measured m s ≡ measured m u
  measured-same (measure.SharedWord i) = ap (λ (k : KernelState). get_or k.shared_words i (pos 0)) h.rest
  measured-same (measure.Count i) = ap (λ (k : KernelState). pos (get_or k.semaphores i 0)) h.rest
  measured-same (measure.Pattern i) = ap (λ (k : KernelState). pos (pattern_at k i)) h.rest
  measured-same (measure.Words i) = ap (λ (k : KernelState). pos (length (words_at k i))) h.rest
  measured-same (measure.Messages i) = ap (λ (k : KernelState). pos (length (messages_at k i))) h.rest
  measured-same (measure.Priority t) =
      let b = blocks-at s.clock u.clock s.tasks u.tasks h.tasks t in ap (λ (x : TaskBlock). pos x.priority) b.rest

  word-same : (t : ℕ) → word_at s t ≡ word_at u t
  word-same t =
      let b = blocks-at s.clock u.clock s.tasks u.tasks h.tasks t in
      ap (λ (x : TaskBlock). word_in s t x) b.rest
      ∙ ap (λ (k : KernelState). word_in k t (task_at u.tasks t)) h.rest

  so-same : (f : TestedFact) → is_so f s ≡ is_so f u
  so-same (fact.Compares m r v) = ap (λ (n : ℤ). compares r n v) (measured-same m)
  so-same (fact.Is t w) = ap (λ (v : StateWord). is_state w v) (word-same t)
  so-same (fact.Runs p who) = ap (λ (k : KernelState). is_same_task (processor_at k p).run who) h.rest

  passes-same : (t : ConditionTest) → passes t s ≡ passes t u
  passes-same t = ap (λ (b : Bool). if t.negated then not b else b) (so-same t.fact)

  all-same : (ts : List ConditionTest) → passes_all ts s ≡ passes_all ts u
  all-same [] = refl
  all-same (t ∷ ts) =
      ap (λ (b : Bool). t.alternative || (b && passes_all ts s)) (passes-same t)
      ∙ ap (λ (b : Bool). t.alternative || (passes t u && b)) (all-same ts)

  one-same : (ts : List ConditionTest) → passes_one ts s ≡ passes_one ts u
  one-same [] = refl
  one-same (t ∷ ts) =
      ap (λ (b : Bool). (t.alternative && (b && passes_all ts s)) || passes_one ts s) (passes-same t)
      ∙ ap (λ (b : Bool). (t.alternative && (passes t u && b)) || passes_one ts s) (all-same ts)
      ∙ ap (λ (b : Bool). (t.alternative && (passes t u && passes_all ts u)) || b) (one-same ts)

  pub holds-same : (c : Condition) → holds c s ≡ holds c u
  holds-same c = one-same (tests_of c)
