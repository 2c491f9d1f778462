-- A sentence by the states between events.
use Rattle.std.proofs.Common.{◌≡◌, ◌∙◌, ℕ, ◌+◌, List, [], ◌∷◌, Bool, true, false, ap, refl, sym}
use Rattle.std.specs.Prelude.{◌||◌, is_some}
use Rattle.std.specs.List.{list_any}
use Rattle.fmp_base.specs.declared.events.Event.{Event}
use Rattle.fmp_base.specs.declared.events.Line.{Line}
use Rattle.fmp_base.specs.declared.events.TaskState.{TaskState}
use Rattle.fmp_base.specs.Meanings.{Meaning}
use Rattle.fmp_base.specs.States.{KernelState}
use Rattle.fmp_base.specs.Steps.{Reaction, Nothing, Did, Kept}
use Rattle.fmp_expect.specs.declared.expectation.Expected.{Expected}
use Rattle.fmp_expect.specs.Meaning.{Told, breaks_at_end, failure, if_broken, outcome, seen_in, with_lines, with_state}
use Rattle.fmp_expect.specs.Runs.{last_told, rest_told, run_told, told_after}
use Rattle.fmp_kernel.specs.Comings.{reaction_of, view_after_each}
use Rattle.fmp_kernel.specs.KernelViews.{KernelView, view_after}
use Rattle.fmp_monitors.specs.declared.sentence.Sentence.{Sentence}
use Rattle.fmp_monitors.specs.declared.sentence.Sentence.TheVariants as sentence
use Rattle.fmp_monitors.specs.Meaning.{Seen, OfLine, OfState, breaks}
use Rattle.fmp_schedules.specs.Monitors.{at_open, is_broken_in}
use Rattle.fmp_trials.specs.Lines.{goes_by_states, states_after, with_state_after}
use Rattle.fmp_trials.specs.Verdicts.{states_in, verdict}
use Rattle.fmp_trials.proofs.AlongLaws.{fails_also, or_assoc, or_false, some_broken, some_if, some_or}

line_breaks : (e : Sentence) → goes_by_states e ≡ true → (before : List Seen) (l : Line)
    → breaks e before (OfLine l) ≡ false
line_breaks (sentence.Always c) is before l = refl
line_breaks (sentence.Never h) is before l = absurd (cc)
line_breaks (sentence.Before a b) is before l = absurd (cc)
line_breaks (sentence.NeverAfter h a b) is before l = absurd (cc)
line_breaks (sentence.Within r n t) is before l = absurd (cc)
line_breaks (sentence.OneAtATime a b) is before l = absurd (cc)
line_breaks (sentence.Rests t) is before l = absurd (cc)
line_breaks (sentence.End s t) is before l = absurd (cc)

state_breaks : (e : Sentence) → goes_by_states e ≡ true → (before : List Seen) (s : KernelState)
    → breaks e before (OfState s) ≡ is_broken_in (at_open e) s
state_breaks (sentence.Always c) is before s = refl
state_breaks (sentence.Never h) is before s = absurd (cc)
state_breaks (sentence.Before a b) is before s = absurd (cc)
state_breaks (sentence.NeverAfter h a b) is before s = absurd (cc)
state_breaks (sentence.Within r n t) is before s = absurd (cc)
state_breaks (sentence.OneAtATime a b) is before s = absurd (cc)
state_breaks (sentence.Rests t) is before s = absurd (cc)
state_breaks (sentence.End x t) is before s = absurd (cc)

end_breaks : (e : Sentence) → goes_by_states e ≡ true → (states : List TaskState) → breaks_at_end e states ≡ false
end_breaks (sentence.Always c) is states = refl
end_breaks (sentence.Never h) is states = absurd (cc)
end_breaks (sentence.Before a b) is states = absurd (cc)
end_breaks (sentence.NeverAfter h a b) is states = absurd (cc)
end_breaks (sentence.Within r n t) is states = absurd (cc)
end_breaks (sentence.OneAtATime a b) is states = absurd (cc)
end_breaks (sentence.Rests t) is states = absurd (cc)
end_breaks (sentence.End x t) is states = absurd (cc)

module _ (e : Sentence) (is : goes_by_states e ≡ true) where
  abbrev fails : List Told → Bool
  fails told = is_some (failure e told)

  abbrev breaks_it : KernelState → Bool
  breaks_it s = is_broken_in (at_open e) s

  -- lines break nothing
  lines_fail : (n : ℕ) (ls : List Line) (told : List Told) → fails (with_lines n ls told) ≡ fails told
  lines_fail n [] told = refl
  lines_fail n (l ∷ ls) told =
      lines_fail n ls (record { event = n; seen = OfLine l } ∷ told)
      ∙ fails_also e n (OfLine l) told
      ∙ ap (λ (b : Bool). fails told || b) (line_breaks e is (seen_in told) l)
      ∙ or_false (fails told)

  -- a state after lines
  state_fails : (n : ℕ) (s : KernelState) (ls : List Line) (told : List Told)
      → fails (with_state n s (with_lines n ls told)) ≡ (fails told || breaks_it s)
  state_fails n s ls told =
      fails_also e n (OfState s) (with_lines n ls told)
      ∙ ap (λ (b : Bool). fails (with_lines n ls told) || b) (state_breaks e is (seen_in (with_lines n ls told)) s)
      ∙ ap (λ (b : Bool). b || breaks_it s) (lines_fail n ls told)

  module _ {B C : Type 0} (meaning : B → Meaning C) where
    rest_fails : (k : KernelView B C) (es : List Event) (told : List Told)
        → fails (rest_told (reaction_of meaning) k es told)
        ≡ (fails told || list_any breaks_it (states_after meaning k es))
    rest_fails k [] told = sym (or_false (fails told))
    rest_fails k (x ∷ es) told = by_reaction (reaction_of meaning k x) (λ v ts. rest_fails v es ts) where
      by_reaction : (r : Reaction C)
          → ((v : KernelView B C) (ts : List Told) → fails (rest_told (reaction_of meaning) v es ts)
          ≡ (fails ts || list_any breaks_it (states_after meaning v es)))
          → fails (rest_told (reaction_of meaning) (view_after k r) es (told_after k r told))
          ≡ (fails told || list_any breaks_it (with_state_after r (states_after meaning (view_after k r) es)))
      by_reaction Nothing h = h k told
      by_reaction (Did d) h =
          let after : KernelView B C = view_after k (Did d) in
          let n : ℕ = k.done + 1 in
          let rest : Bool = list_any breaks_it (states_after meaning after es) in
          h after (with_state n d.world.state (with_lines n d.lines told))
          ∙ ap (λ (b : Bool). b || rest) (state_fails n d.world.state d.lines told)
          ∙ sym (or_assoc (fails told) (breaks_it d.world.state) rest)
      by_reaction (Kept p w) h = h (view_after k (Kept p w)) told

    all_fail : (k : KernelView B C) (es : List Event)
        → fails (run_told (reaction_of meaning) k es)
        ≡ list_any breaks_it (k.world.state ∷ states_after meaning k es)
    all_fail k es =
        rest_fails k es (last_told k [])
        ∙ ap (λ (b : Bool). b || list_any breaks_it (states_after meaning k es))
        (state_fails k.done k.world.state k.lines [])

-- a run fails what a state of it breaks
pub judged_in_states : {B C : Type 0} (meaning : B → Meaning C) (k : KernelView B C) (es : List Event) (x : Expected)
    → goes_by_states x.sentence ≡ true
    → is_some (verdict (reaction_of meaning) k es (x ∷ []))
    ≡ list_any (is_broken_in (at_open x.sentence)) (k.world.state ∷ states_after meaning k es)
judged_in_states {B} {C} meaning k es x is =
    let e : Sentence = x.sentence in
    let told : List Told = run_told (reaction_of meaning) k es in
    let last : KernelView B C = view_after_each (reaction_of meaning) k es in
    some_broken x (outcome e told (states_in last) last.done)
    ∙ some_or (failure e told) (if_broken (breaks_at_end e (states_in last)) last.done)
    ∙ ap (λ (b : Bool). is_some (failure e told) || b)
    (some_if (breaks_at_end e (states_in last)) last.done ∙ end_breaks e is (states_in last))
    ∙ or_false (is_some (failure e told))
    ∙ all_fail e is meaning k es
