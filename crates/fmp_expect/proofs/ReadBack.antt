-- The words of a sentence are read as that sentence.
use Rattle.std.proofs.Common.{ℕ, suc, zero, ◌≡◌, ◌+◌, ◌-◌, ◌<◌, ◌≤◌, ◌^◌, List, [], ◌∷◌, ◌++◌, Bool, true, false, cond}
use Rattle.std.proofs.Common.{Option, Some, None, Result, Ok, Err, codes, length, nat_eq, decimal, refl, ap, sym, subst}
use Rattle.std.proofs.Common.{◌∙◌, arith}
use Rattle.std.proofs.lemmas.Bool.{eqb-true}
use Rattle.std.proofs.lemmas.Bool.Decides.{nat_tests}
use Rattle.std.specs.Fmt.{signed_decimal}
use Rattle.std.specs.List.{AllByRecursion}
use Rattle.std.specs.Prelude.{ℤ, bytes_eq, option_map}
use Rattle.fmp_base.specs.Codes.{code_name}
use Rattle.fmp_base.specs.Names.{name_text}
use Rattle.fmp_base.specs.Systems.{SystemTables}
use Rattle.fmp_base.specs.Texts.{fault_text, task_name, word_text}
use Rattle.fmp_base.specs.declared.codes.Er.TheVariants as er
use Rattle.fmp_base.specs.declared.events.StateWord.{StateWord}
use Rattle.fmp_base.specs.declared.events.StateWord.TheVariants as word
use Rattle.fmp_base.specs.declared.names.Name.{Name}
use Rattle.fmp_base.specs.declared.bodies.Fault.TheVariants as stopped
use Rattle.fmp_monitors.specs.declared.condition.Condition.{Condition}
use Rattle.fmp_monitors.specs.declared.condition.ConditionTest.{ConditionTest}
use Rattle.fmp_monitors.specs.declared.condition.Measure.{Measure}
use Rattle.fmp_monitors.specs.declared.condition.Measure.TheVariants as measure
use Rattle.fmp_monitors.specs.declared.condition.Relation.{Relation}
use Rattle.fmp_monitors.specs.declared.condition.Relation.TheVariants as relation
use Rattle.fmp_monitors.specs.declared.condition.TestedFact.{TestedFact}
use Rattle.fmp_monitors.specs.declared.condition.TestedFact.TheVariants as fact
use Rattle.fmp_monitors.specs.declared.happening.ExpectedActor.{ExpectedActor}
use Rattle.fmp_monitors.specs.declared.happening.ExpectedDeed.{ExpectedDeed}
use Rattle.fmp_monitors.specs.declared.happening.ExpectedDeed.TheVariants as deed
use Rattle.fmp_monitors.specs.declared.happening.ExpectedResponse.{ExpectedResponse}
use Rattle.fmp_monitors.specs.declared.happening.ExpectedResponse.TheVariants as response
use Rattle.fmp_monitors.specs.declared.happening.ExpectedTrigger.{ExpectedTrigger}
use Rattle.fmp_monitors.specs.declared.happening.ExpectedTrigger.TheVariants as trigger
use Rattle.fmp_monitors.specs.declared.happening.Happening.{Happening}
use Rattle.fmp_monitors.specs.declared.sentence.Sentence.{Sentence}
use Rattle.fmp_monitors.specs.declared.sentence.Sentence.TheVariants as sentence
use Rattle.fmp_monitors.specs.Conditions.{tests_of as tests_in}
use Rattle.fmp_expect.specs.declared.fault.ExpectationFlaw.{ExpectationFlaw}
use Rattle.fmp_expect.specs.declared.fault.Expects.{Expects}
use Rattle.fmp_expect.specs.declared.fault.Expects.TheVariants as expects
use Rattle.fmp_expect.specs.Conditions.{comparison_of, condition_of, condition_with, fact_of, in_front, is_of}
use Rattle.fmp_expect.specs.Conditions.{measure_named}
use Rattle.fmp_expect.specs.Conditions.{measure_of, next_tests, object_of, on_of, priority_of, relation_of, test_of}
use Rattle.fmp_expect.specs.Conditions.{test_with}
use Rattle.fmp_expect.specs.Conditions.{tests_of, value_of, who_of}
use Rattle.fmp_expect.specs.Grammar.{alone_of, and_after, end_after, never_rest, of_of, opened_of, order_of, order_rest}
use Rattle.fmp_expect.specs.Grammar.{rests_of}
use Rattle.fmp_expect.specs.Grammar.{runs_of, sentence_of, told_by_first, trigger_end, trigger_of, within_of}
use Rattle.fmp_expect.specs.Parts.{Read, actor_expected, actor_of, after_first, after_word, and_then, begins, by_of}
use Rattle.fmp_expect.specs.Parts.{deed_named}
use Rattle.fmp_expect.specs.Parts.{found_or, happening_of, interrupt_expected, interrupt_named, is_found, number_in}
use Rattle.fmp_expect.specs.Parts.{number_of_handler}
use Rattle.fmp_expect.specs.Parts.{or_else, read, somebody, state_of, task_named, task_of, whole}
use Rattle.fmp_expect.specs.Written.{IsActor, IsBy, IsCondition, IsDeed, IsFact, IsHappening, IsMeasure, IsPlain}
use Rattle.fmp_expect.specs.Written.{IsResponse}
use Rattle.fmp_expect.specs.Written.{begins_alternative, joint_word, measure_name, measured_words, named_text}
use Rattle.fmp_expect.specs.Written.{relation_word, runner_word}
use Rattle.fmp_expect.specs.Written.{IsRunner, IsTask, IsTrigger, IsUntil, IsValue, IsWritable, actor_text, by_words}
use Rattle.fmp_expect.specs.Written.{deed_word, fact_words}
use Rattle.fmp_expect.specs.Written.{handler_name, happening_words, interrupt_by, is_number, more_tests, response_words}
use Rattle.fmp_expect.specs.Written.{sentence_words, test_words, tests_words, trigger_words, until_words}
use Rattle.fmp_expect.proofs.WrittenNumbers.{number_of-decimal, put_value-decimal, signed_number-decimal}

-- ---- deeds

-- a deed begins with E, F or p
deed_begins : (P : List ℕ → Type 0) → ((bs : List ℕ) → P (69 ∷ bs)) → ((bs : List ℕ) → P (70 ∷ bs))
    → ((bs : List ℕ) → P (112 ∷ bs)) → (d : ExpectedDeed) → P (deed_word d)
deed_begins P e f p (deed.Answer er.Ok) = e _
deed_begins P e f p (deed.Answer er.Sys) = e _
deed_begins P e f p (deed.Answer er.Nospt) = e _
deed_begins P e f p (deed.Answer er.Rsatr) = e _
deed_begins P e f p (deed.Answer er.Par) = e _
deed_begins P e f p (deed.Answer er.Id) = e _
deed_begins P e f p (deed.Answer er.Ctx) = e _
deed_begins P e f p (deed.Answer er.Iluse) = e _
deed_begins P e f p (deed.Answer er.Obj) = e _
deed_begins P e f p (deed.Answer er.Qovr) = e _
deed_begins P e f p (deed.Answer er.Rlwai) = e _
deed_begins P e f p (deed.Answer er.Tmout) = e _
deed_begins P e f p (deed.Stop stopped.Overflow) = f _
deed_begins P e f p (deed.Stop stopped.Division) = f _
deed_begins P e f p (deed.Stop stopped.Index) = f _
deed_begins P e f p (deed.Put v) = p _

-- the word of a deed is none of these
pub record IsNoWord (w : List ℕ) : Type 0 where
  pub runs : bytes_eq w (codes "runs") ≡ false
  pub rests : bytes_eq w (codes "rests") ≡ false
  pub never : bytes_eq w (codes "never") ≡ false
  pub always : bytes_eq w (codes "always") ≡ false
  pub between : bytes_eq w (codes "between") ≡ false
  pub end : bytes_eq w (codes "end") ≡ false
  pub int : bytes_eq w (codes "int") ≡ false

no_word : (d : ExpectedDeed) → IsNoWord (deed_word d)
no_word =
    deed_begins IsNoWord
    (λ bs. record { runs = refl; rests = refl; never = refl; always = refl; between = refl; end = refl; int = refl })
    (λ bs. record { runs = refl; rests = refl; never = refl; always = refl; between = refl; end = refl; int = refl })
    (λ bs. record { runs = refl; rests = refl; never = refl; always = refl; between = refl; end = refl; int = refl })

deed_is : (d : ExpectedDeed) → IsDeed d → deed_named (deed_word d) ≡ Some d
deed_is (deed.Answer er.Ok) h = refl
deed_is (deed.Answer er.Sys) h = refl
deed_is (deed.Answer er.Nospt) h = refl
deed_is (deed.Answer er.Rsatr) h = refl
deed_is (deed.Answer er.Par) h = refl
deed_is (deed.Answer er.Id) h = refl
deed_is (deed.Answer er.Ctx) h = refl
deed_is (deed.Answer er.Iluse) h = refl
deed_is (deed.Answer er.Obj) h = refl
deed_is (deed.Answer er.Qovr) h = refl
deed_is (deed.Answer er.Rlwai) h = refl
deed_is (deed.Answer er.Tmout) h = refl
deed_is (deed.Stop stopped.Overflow) h = refl
deed_is (deed.Stop stopped.Division) h = refl
deed_is (deed.Stop stopped.Index) h = refl
deed_is (deed.Put v) h = ap (option_map (λ v. deed.Put v)) (put_value-decimal v h)

found : (d : ExpectedDeed) → IsDeed d → is_found (deed_named (deed_word d)) ≡ true
found d h = ap is_found (deed_is d h)

module _ (sys : SystemTables) where
  task_read : (t : ℕ) (rest : List (List ℕ)) → IsTask sys t → task_of sys (task_name sys t ∷ rest) ≡ read t rest
  task_read t rest h = ap (found_or expects.Task (task_name sys t ∷ rest) rest) h

  actor_read : (who : ExpectedActor) (rest : List (List ℕ)) → IsActor sys who
      → actor_of sys (actor_text sys who ∷ rest) ≡ read who rest
  actor_read who rest h = ap (found_or (actor_expected sys) (actor_text sys who ∷ rest) rest) h

  by_read : (by : Option ExpectedActor) (rest : List (List ℕ)) → begins (codes "by") rest ≡ false → IsBy sys by
      → by_of sys (by_words sys by rest) ≡ read by rest
  by_read None [] n h = refl
  by_read None (w ∷ ws) n h = ap (λ t. cond t (and_then (actor_of sys ws) somebody) (read None (w ∷ ws))) n
  by_read (Some who) rest n h =
      ap (λ (r : Result (Read ExpectedActor) ExpectationFlaw). and_then r somebody) (actor_read who rest h)

  happening_read : (h : Happening) (rest : List (List ℕ)) → begins (codes "by") rest ≡ false → IsHappening sys h
      → happening_of sys (happening_words sys h rest) ≡ read h rest
  happening_read h rest n w = rw (deed_is h.deed w.0, by_read h.by rest n w.1)

  -- ---- sentences that their first word tells

  -- what stands after the deed of a happening
  second : (by : Option ExpectedActor) (word w : List ℕ) (rest : List (List ℕ)) → bytes_eq (codes "by") word ≡ false
      → bytes_eq w word ≡ false → begins word (by_words sys by (w ∷ rest)) ≡ false
  second None word w rest a b = b
  second (Some who) word w rest a b = a

  by_first : (ws : List (List ℕ)) → begins (codes "runs") (after_first ws) ≡ false
      → begins (codes "rests") (after_first ws) ≡ false → sentence_of sys ws ≡ told_by_first sys ws
  by_first ws a b =
      ap (λ t. cond t (runs_of sys ws) (cond (begins (codes "rests") (after_first ws)) (rests_of sys ws)
      (told_by_first sys ws))) a
      ∙ ap (λ t. cond t (rests_of sys ws) (told_by_first sys ws)) b

  -- a sentence of which a happening is the second part
  by_word : (word : List ℕ) (h : Happening) (rest : List (List ℕ))
      → sentence_of sys (word ∷ happening_words sys h rest) ≡ told_by_first sys (word ∷ happening_words sys h rest)
  by_word word h rest = let n = no_word h.deed in by_first (word ∷ happening_words sys h rest) n.runs n.rests

  by_deed : (h : Happening) (rest : List (List ℕ)) → IsHappening sys h
      → told_by_first sys (happening_words sys h rest) ≡ order_of sys (happening_words sys h rest)
  by_deed h rest w =
      let n = no_word h.deed in rw (n.never, n.always, n.between, n.end, found h.deed w.0)

  never_read : (h : Happening) → IsHappening sys h
      → sentence_of sys (sentence_words sys (sentence.Never h)) ≡ Ok (sentence.Never h)
  never_read h w =
      by_word (codes "never") h []
      ∙ ap (λ (r : Result (Read Happening) ExpectationFlaw). and_then r (λ x. never_rest sys x.value x.rest))
      (happening_read h [] refl w)

  no_by : (b : Option Happening) → begins (codes "by") (until_words sys b) ≡ false
  no_by None = refl
  no_by (Some c) = refl

  opened_read : (h a : Happening) (b : Option Happening) → IsUntil sys b
      → opened_of sys h a (until_words sys b) ≡ Ok (sentence.NeverAfter h a b)
  opened_read h a None w = refl
  opened_read h a (Some c) w =
      ap (λ (r : Result (Read Happening) ExpectationFlaw). and_then r (λ x. whole (end_after x.value.by)
      (sentence.NeverAfter h a (Some x.value)) x.rest)) (happening_read c [] refl w)

  never_after_read : (h a : Happening) (b : Option Happening) → IsWritable sys (sentence.NeverAfter h a b)
      → sentence_of sys (sentence_words sys (sentence.NeverAfter h a b)) ≡ Ok (sentence.NeverAfter h a b)
  never_after_read h a b (w, v, u) =
      let after = happening_words sys a (until_words sys b) in
      by_word (codes "never") h (codes "after" ∷ after)
      ∙ ap (λ (r : Result (Read Happening) ExpectationFlaw). and_then r (λ x. never_rest sys x.value x.rest))
      (happening_read h (codes "after" ∷ after) refl w)
      ∙ ap (λ (r : Result (Read Happening) ExpectationFlaw). and_then r (λ x. opened_of sys h x.value x.rest))
      (happening_read a (until_words sys b) (no_by b) v)
      ∙ opened_read h a b u

  -- ---- a happening begins a sentence

  ordered : (h : Happening) (w : List ℕ) (rest : List (List ℕ)) → bytes_eq w (codes "runs") ≡ false
      → bytes_eq w (codes "rests") ≡ false → bytes_eq w (codes "by") ≡ false → IsHappening sys h
      → sentence_of sys (happening_words sys h (w ∷ rest)) ≡ order_rest sys h (w ∷ rest)
  ordered h w rest runs rests by said =
      by_first (happening_words sys h (w ∷ rest)) (second h.by (codes "runs") w rest refl runs)
      (second h.by (codes "rests") w rest refl rests)
      ∙ by_deed h (w ∷ rest) said
      ∙ ap (λ (r : Result (Read Happening) ExpectationFlaw). and_then r (λ x. order_rest sys x.value x.rest))
      (happening_read h (w ∷ rest) by said)

  before_read : (a b : Happening) → IsWritable sys (sentence.Before a b)
      → sentence_of sys (sentence_words sys (sentence.Before a b)) ≡ Ok (sentence.Before a b)
  before_read a b (w, v) =
      ordered a (codes "before") (happening_words sys b []) refl refl refl w
      ∙ ap (λ (r : Result (Read Happening) ExpectationFlaw). and_then r (λ x. whole (end_after x.value.by)
      (sentence.Before a x.value) x.rest)) (happening_read b [] refl v)

  -- ---- times

  same_number : (found : Option ℕ) (n : ℕ) → is_number found n ≡ true → found ≡ Some n
  same_number None n e = absurd (cc)
  same_number (Some m) n e = ap (λ k. Some k) (eqb-true m n e)

  by_number : (n : ℕ) → 1 ≤ n → n ≤ 32 → interrupt_named sys (decimal n) ≡ Some n
  by_number n low high =
      ap (λ (o : Option ℕ). or_else o (number_of_handler (decimal n) sys.interrupts))
      (number_of-decimal 1 32 n low high (omega (arith, high)))

  by_name : (n : ℕ) (name : List ℕ) (is : Bool) → is_number (interrupt_named sys name) n ≡ is → 1 ≤ n → n ≤ 32
      → interrupt_named sys (cond is name (decimal n)) ≡ Some n
  by_name n name true e low high = same_number (interrupt_named sys name) n e
  by_name n name false e low high = by_number n low high

  numbered : (n : ℕ) (name : Option Name) → 1 ≤ n → n ≤ 32 → interrupt_named sys (interrupt_by sys n name) ≡ Some n
  numbered n None low high = by_number n low high
  numbered n (Some name) low high =
      by_name n (name_text name) (is_number (interrupt_named sys (name_text name)) n) refl low high

  trigger_read : (t : ExpectedTrigger) → IsTrigger sys t → trigger_of sys (trigger_words sys t) ≡ read t []
  trigger_read (trigger.Interrupt i) h =
      let word = interrupt_by sys (i + 1) (handler_name sys (i + 1)) in
      ap (λ (o : Option ℕ). and_then (found_or (interrupt_expected sys) (word ∷ []) [] o)
      (λ x. read (trigger.Interrupt (x.value - 1)) x.rest))
      (numbered (i + 1) (handler_name sys (i + 1)) (omega arith) (omega (arith, h)))
      ∙ ap (λ (k : ℕ). read (trigger.Interrupt k) []) (omega arith)
  trigger_read (trigger.Happens h) w =
      let n = no_word h.deed in
      rw (n.int, found h.deed w.0)
      (ap (λ (r : Result (Read Happening) ExpectationFlaw). and_then r (λ x. read (trigger.Happens x.value) x.rest))
      (happening_read h [] refl w))

  within_read : (r : ExpectedResponse) (n : ℕ) (t : ExpectedTrigger) → n < 2 ^ 31 → IsTrigger sys t
      → within_of sys r (decimal n ∷ codes "ticks" ∷ codes "of" ∷ trigger_words sys t) ≡ Ok (sentence.Within r n t)
  within_read r n t few h =
      let rest = codes "ticks" ∷ codes "of" ∷ trigger_words sys t in
      ap (λ (o : Option ℕ). and_then (found_or expects.Count (decimal n ∷ rest) rest o)
      (λ x. of_of sys r x.value x.rest))
      (number_of-decimal 0 2147483647 n (omega arith) (omega (arith, few)) (omega (arith, few)))
      ∙ ap (λ (x : Result (Read ExpectedTrigger) ExpectationFlaw). and_then x (λ y. whole (trigger_end y.value)
      (sentence.Within r n y.value) y.rest)) (trigger_read t h)

  response_read : (r : ExpectedResponse) (n : ℕ) (t : ExpectedTrigger) → IsWritable sys (sentence.Within r n t)
      → sentence_of sys (sentence_words sys (sentence.Within r n t)) ≡ Ok (sentence.Within r n t)
  response_read (response.Runs who) n t (w, few, h) =
      let rest =
      codes "runs" ∷ codes "within" ∷ decimal n ∷ codes "ticks" ∷ codes "of" ∷ trigger_words sys t in
      ap (λ (r : Result (Read ExpectedActor) ExpectationFlaw). and_then r (λ x.
      and_then (after_word expects.Runs (codes "runs") x.rest) (λ rest.
      and_then (after_word expects.Within (codes "within") rest) (λ rest.
      within_of sys (response.Runs x.value) rest)))) (actor_read who rest w)
      ∙ within_read (response.Runs who) n t few h
  response_read (response.Happens h) n t (w, few, is) =
      ordered h (codes "within") (decimal n ∷ codes "ticks" ∷ codes "of" ∷ trigger_words sys t) refl refl refl w
      ∙ within_read (response.Happens h) n t few is

  -- ---- one task at a time, and tasks at rest or at the end

  between_read : (a b : Happening) → IsWritable sys (sentence.OneAtATime a b)
      → sentence_of sys (sentence_words sys (sentence.OneAtATime a b)) ≡ Ok (sentence.OneAtATime a b)
  between_read a b (w, v) =
      let last = codes "one" ∷ codes "at" ∷ codes "a" ∷ codes "time" ∷ [] in
      let rest = codes "and" ∷ happening_words sys b last in
      by_word (codes "between") a rest
      ∙ ap (λ (r : Result (Read Happening) ExpectationFlaw). and_then r (λ x.
      and_then (after_word (and_after x.value.by) (codes "and") x.rest) (λ rest.
      and_then (happening_of sys rest) (λ y. alone_of x.value y.value y.rest)))) (happening_read a rest refl w)
      ∙ ap (λ (r : Result (Read Happening) ExpectationFlaw). and_then r (λ y. alone_of a y.value y.rest))
      (happening_read b last refl v)

  rests_read : (t : ℕ) → IsTask sys t
      → sentence_of sys (sentence_words sys (sentence.Rests t)) ≡ Ok (sentence.Rests t)
  rests_read t h =
      ap (λ (r : Result (Read ℕ) ExpectationFlaw). and_then r (λ x. whole expects.End (sentence.Rests x.value)
      (after_first x.rest))) (task_read t (codes "rests" ∷ []) h)

  state_read : (w : StateWord) (rest : List (List ℕ)) → state_of (word_text w ∷ rest) ≡ read w rest
  state_read word.Running rest = refl
  state_read word.Ready rest = refl
  state_read word.Waiting rest = refl
  state_read word.Suspended rest = refl
  state_read word.WaitingSuspended rest = refl
  state_read word.Dormant rest = refl

  no_state : (w : StateWord) → (bytes_eq (word_text w) (codes "runs") ≡ false)
      × (bytes_eq (word_text w) (codes "rests") ≡ false)
  no_state word.Running = (refl, refl)
  no_state word.Ready = (refl, refl)
  no_state word.Waiting = (refl, refl)
  no_state word.Suspended = (refl, refl)
  no_state word.WaitingSuspended = (refl, refl)
  no_state word.Dormant = (refl, refl)

  end_read : (w : StateWord) (t : ℕ) → IsTask sys t
      → sentence_of sys (sentence_words sys (sentence.End w t)) ≡ Ok (sentence.End w t)
  end_read w t h =
      let last = task_name sys t ∷ [] in
      by_first (codes "end" ∷ word_text w ∷ last) (no_state w).0 (no_state w).1
      ∙ ap (λ (r : Result (Read StateWord) ExpectationFlaw). and_then r (λ s. and_then (task_of sys s.rest) (λ x.
      whole expects.End (sentence.End s.value x.value) x.rest))) (state_read w last)
      ∙ ap (λ (r : Result (Read ℕ) ExpectationFlaw). and_then r (λ x. whole expects.End (sentence.End w x.value) x.rest))
      (task_read t [] h)

  -- ---- conditions

  relation_read : (r : Relation) (rest : List (List ℕ)) → relation_of (relation_word r ∷ rest) ≡ read r rest
  relation_read relation.Less rest = refl
  relation_read relation.LessOrEqual rest = refl
  relation_read relation.Equal rest = refl
  relation_read relation.Unequal rest = refl
  relation_read relation.Greater rest = refl
  relation_read relation.GreaterOrEqual rest = refl

  no_relation : (r : Relation) → (bytes_eq (relation_word r) (codes "is") ≡ false)
      × (bytes_eq (relation_word r) (codes "runs") ≡ false)
  no_relation relation.Less = (refl, refl)
  no_relation relation.LessOrEqual = (refl, refl)
  no_relation relation.Equal = (refl, refl)
  no_relation relation.Unequal = (refl, refl)
  no_relation relation.Greater = (refl, refl)
  no_relation relation.GreaterOrEqual = (refl, refl)

  value_read : (v : ℤ) (rest : List (List ℕ)) → IsValue v → value_of (signed_decimal v ∷ rest) ≡ read v rest
  value_read v rest h =
      ap (found_or expects.Value (signed_decimal v ∷ rest) rest) (signed_number-decimal v h)

  -- the object of a name
  object_read : (name : List ℕ) (m : Measure) (rest : List (List ℕ)) → IsPlain name → measure_named sys name ≡ Some m
      → measure_of sys (name ∷ rest) ≡ read m rest
  object_read name m rest plain h =
      ap (λ t. cond t (priority_of sys rest) (object_of sys (name ∷ rest))) plain.priority
      ∙ ap (found_or expects.Test (name ∷ rest) rest) h

  measure_read : (m : Measure) (rest : List (List ℕ)) → IsMeasure sys m
      → measure_of sys (measured_words sys m rest) ≡ read m rest
  measure_read (measure.SharedWord i) rest h = object_read _ (measure.SharedWord i) rest h.0 h.1
  measure_read (measure.Count i) rest h = object_read _ (measure.Count i) rest h.0 h.1
  measure_read (measure.Pattern i) rest h = object_read _ (measure.Pattern i) rest h.0 h.1
  measure_read (measure.Words i) rest h = object_read _ (measure.Words i) rest h.0 h.1
  measure_read (measure.Messages i) rest h = object_read _ (measure.Messages i) rest h.0 h.1
  measure_read (measure.Priority t) rest h =
      let name = named_text (measure_name sys (measure.Priority t)) in
      ap (λ (o : Option ℕ). and_then (found_or expects.Task (name ∷ rest) rest o)
      (λ x. read (measure.Priority x.value) x.rest)) h.1

  comparison_read : (m : Measure) (r : Relation) (v : ℤ) (rest : List (List ℕ)) → IsMeasure sys m → IsValue v
      → comparison_of sys (fact_words sys (fact.Compares m r v) rest) ≡ read (fact.Compares m r v) rest
  comparison_read m r v rest h few =
      ap (λ (x : Result (Read Measure) ExpectationFlaw). and_then x (λ m.
      and_then (relation_of m.rest) (λ r. and_then (value_of r.rest) (λ v.
      read (fact.Compares m.value r.value v.value) v.rest))))
      (measure_read m (relation_word r ∷ signed_decimal v ∷ rest) h)
      ∙ ap (λ (x : Result (Read Relation) ExpectationFlaw). and_then x (λ r. and_then (value_of r.rest) (λ v.
      read (fact.Compares m r.value v.value) v.rest))) (relation_read r (signed_decimal v ∷ rest))
      ∙ ap (λ (x : Result (Read ℤ) ExpectationFlaw). and_then x (λ v. read (fact.Compares m r v.value) v.rest))
      (value_read v rest few)

  -- words of which the second is none of these are a comparison
  by_second : (ws : List (List ℕ)) → begins (codes "is") (after_first ws) ≡ false
      → begins (codes "runs") (after_first ws) ≡ false → fact_of sys ws ≡ comparison_of sys ws
  by_second ws a b =
      ap (λ t. cond t (is_of sys ws) (cond (begins (codes "runs") (after_first ws)) (on_of sys ws)
      (comparison_of sys ws))) a
      ∙ ap (λ t. cond t (on_of sys ws) (comparison_of sys ws)) b

  second_plain : (m : Measure) (r : Relation) (rest : List (List ℕ)) → IsMeasure sys m
      → (begins (codes "is") (after_first (measured_words sys m (relation_word r ∷ rest))) ≡ false)
      × (begins (codes "runs") (after_first (measured_words sys m (relation_word r ∷ rest))) ≡ false)
  second_plain (measure.SharedWord i) r rest h = no_relation r
  second_plain (measure.Count i) r rest h = no_relation r
  second_plain (measure.Pattern i) r rest h = no_relation r
  second_plain (measure.Words i) r rest h = no_relation r
  second_plain (measure.Messages i) r rest h = no_relation r
  second_plain (measure.Priority t) r rest h = (h.0.is, h.0.runs)

  who_read : (who : Option ℕ) (rest : List (List ℕ)) → IsRunner sys who
      → who_of sys (runner_word sys who ∷ rest) ≡ read who rest
  who_read None rest h = refl
  who_read (Some t) rest h =
      ap (λ b. cond b (read None rest) (and_then (task_of sys (task_name sys t ∷ rest)) (λ x.
      read (Some x.value) x.rest))) h.0.nobody
      ∙ ap (λ (x : Result (Read ℕ) ExpectationFlaw). and_then x (λ x. read (Some x.value) x.rest))
      (task_read t rest h.1)

  on_read : (p : ℕ) (who : Option ℕ) (rest : List (List ℕ)) → IsFact sys (fact.Runs p who)
      → on_of sys (fact_words sys (fact.Runs p who) rest) ≡ read (fact.Runs p who) rest
  on_read p who rest (runner, inside, few) =
      let on = codes "runs" ∷ codes "on" ∷ decimal (p + 1) ∷ rest in
      ap (λ (x : Result (Read (Option ℕ)) ExpectationFlaw). and_then x (λ who.
      and_then (after_word expects.On (codes "on") (after_first who.rest)) (λ rest.
      and_then (number_in expects.Processor 1 sys.processors rest) (λ p.
      read (fact.Runs (p.value - 1) who.value) p.rest)))) (who_read who on runner)
      ∙ ap (λ (o : Option ℕ). and_then (found_or expects.Processor (decimal (p + 1) ∷ rest) rest o) (λ p.
      read (fact.Runs (p.value - 1) who) p.rest))
      (number_of-decimal 1 sys.processors (p + 1) (omega arith) (omega (arith, inside)) (omega (arith, inside, few)))
      ∙ ap (λ (k : ℕ). read (fact.Runs k who) rest) (omega arith)

  fact_read : (f : TestedFact) (rest : List (List ℕ)) → IsFact sys f
      → fact_of sys (fact_words sys f rest) ≡ read f rest
  fact_read (fact.Compares m r v) rest h =
      let second = second_plain m r (signed_decimal v ∷ rest) h.0 in
      by_second (fact_words sys (fact.Compares m r v) rest) second.0 second.1 ∙ comparison_read m r v rest h.0 h.1
  fact_read (fact.Is t w) rest h =
      ap (λ (x : Result (Read ℕ) ExpectationFlaw). and_then x (λ t. and_then (state_of (after_first t.rest)) (λ s.
      read (fact.Is t.value s.value) s.rest))) (task_read t (codes "is" ∷ word_text w ∷ rest) h.1)
      ∙ ap (λ (x : Result (Read StateWord) ExpectationFlaw). and_then x (λ s. read (fact.Is t s.value) s.rest))
      (state_read w rest)
  fact_read (fact.Runs p who) rest h = on_read p who rest h

  -- a fact does not begin with `not`, and no condition with `runs` or `rests`
  measure_begins : (m : Measure) (rest : List (List ℕ)) → IsMeasure sys m
      → (begins (codes "not") (measured_words sys m rest) ≡ false)
      × (begins (codes "runs") (measured_words sys m rest) ≡ false)
      × (begins (codes "rests") (measured_words sys m rest) ≡ false)
  measure_begins (measure.SharedWord i) rest h = (h.0.not_not, h.0.runs, h.0.rests)
  measure_begins (measure.Count i) rest h = (h.0.not_not, h.0.runs, h.0.rests)
  measure_begins (measure.Pattern i) rest h = (h.0.not_not, h.0.runs, h.0.rests)
  measure_begins (measure.Words i) rest h = (h.0.not_not, h.0.runs, h.0.rests)
  measure_begins (measure.Messages i) rest h = (h.0.not_not, h.0.runs, h.0.rests)
  measure_begins (measure.Priority t) rest h = (refl, refl, refl)

  runner_begins : (who : Option ℕ) → IsRunner sys who → (bytes_eq (runner_word sys who) (codes "not") ≡ false)
      × (bytes_eq (runner_word sys who) (codes "runs") ≡ false)
      × (bytes_eq (runner_word sys who) (codes "rests") ≡ false)
  runner_begins None h = (refl, refl, refl)
  runner_begins (Some t) h = (h.0.not_not, h.0.runs, h.0.rests)

  fact_begins : (f : TestedFact) (rest : List (List ℕ)) → IsFact sys f
      → (begins (codes "not") (fact_words sys f rest) ≡ false)
      × (begins (codes "runs") (fact_words sys f rest) ≡ false)
      × (begins (codes "rests") (fact_words sys f rest) ≡ false)
  fact_begins (fact.Compares m r v) rest h = measure_begins m (relation_word r ∷ signed_decimal v ∷ rest) h.0
  fact_begins (fact.Is t w) rest h = (h.0.not_not, h.0.runs, h.0.rests)
  fact_begins (fact.Runs p who) rest h = runner_begins who h.0

  tested : (f : TestedFact) (negated alternative : Bool) (rest : List (List ℕ)) → IsFact sys f
      → test_of sys alternative (cond negated (codes "not" ∷ fact_words sys f rest) (fact_words sys f rest))
      ≡ read (record { fact = f; negated = negated; alternative = alternative }) rest
  tested f true alternative rest h = ap (test_with true alternative) (fact_read f rest h)
  tested f false alternative rest h =
      let ws = fact_words sys f rest in
      ap (λ t. cond t (test_with true alternative (fact_of sys (after_first ws)))
      (test_with false alternative (fact_of sys ws))) (fact_begins f rest h).0
      ∙ ap (test_with false alternative) (fact_read f rest h)

  test_begins : (f : TestedFact) (negated : Bool) (rest : List (List ℕ)) → IsFact sys f
      → (begins (codes "runs") (cond negated (codes "not" ∷ fact_words sys f rest) (fact_words sys f rest)) ≡ false)
      × (begins (codes "rests") (cond negated (codes "not" ∷ fact_words sys f rest) (fact_words sys f rest)) ≡ false)
  test_begins f true rest h = (refl, refl)
  test_begins f false rest h = let b = fact_begins f rest h in (b.1, b.2)

  joint_read : (more : Bool → List (List ℕ) → Result (List ConditionTest) ExpectationFlaw) (alternative : Bool)
      (rest : List (List ℕ)) → next_tests more (joint_word alternative ∷ rest) ≡ more alternative rest
  joint_read more true rest = refl
  joint_read more false rest = refl

  tests_read : (room : ℕ) (t : ConditionTest) (ts : List ConditionTest) → length ts < room
      → AllByRecursion (λ t. IsFact sys t.fact) (t ∷ ts)
      → tests_of sys room t.alternative (test_words sys t (more_tests sys ts)) ≡ Ok (t ∷ ts)
  unfolding tests_of
  tests_read zero t ts few all = absurd (omega (arith, few))
  tests_read (suc room) t [] few all =
      ap (λ (x : Result (Read ConditionTest) ExpectationFlaw). and_then x (λ x.
      in_front x.value (next_tests (tests_of sys room) x.rest)))
      (tested t.fact t.negated t.alternative [] all.0)
  tests_read (suc room) t (u ∷ us) few all =
      let rest = test_words sys u (more_tests sys us) in
      ap (λ (x : Result (Read ConditionTest) ExpectationFlaw). and_then x (λ x.
      in_front x.value (next_tests (tests_of sys room) x.rest)))
      (tested t.fact t.negated t.alternative (joint_word u.alternative ∷ rest) all.0)
      ∙ ap (in_front t)
      (joint_read (tests_of sys room) u.alternative rest ∙ tests_read room u us (omega (arith, few)) all.1)

  all_read : (c : Condition) (ts : List ConditionTest) → tests_in c ≡ ts → IsCondition sys c
      → sentence_of sys (codes "always" ∷ tests_words sys ts) ≡ Ok (sentence.Always c)
  unfolding condition_of
  all_read c [] e h = let wrong : false ≡ true = ap begins_alternative (sym e) ∙ h.first in absurd (cc)
  all_read c (t ∷ ts) e h =
      let facts : AllByRecursion (λ t. IsFact sys t.fact) (t ∷ ts) = subst (AllByRecursion (λ t. IsFact sys t.fact)) e h.facts in
      let few : length (t ∷ ts) ≤ 8 = subst (λ ts. length ts ≤ 8) e h.few in
      let first : t.alternative ≡ true = ap begins_alternative (sym e) ∙ h.first in
      let ws = test_words sys t (more_tests sys ts) in
      let begin = test_begins t.fact t.negated (more_tests sys ts) facts.0 in
      by_first (codes "always" ∷ ws) begin.0 begin.1
      ∙ ap (λ (x : Result (List ConditionTest) ExpectationFlaw). and_then (and_then x (λ ts. Ok (condition_with ts)))
      (λ c. Ok (sentence.Always c)))
      (ap (λ a. tests_of sys 8 a ws) (sym first) ∙ tests_read 8 t ts (omega (arith, few)) facts)
      ∙ ap (λ c. Ok (sentence.Always c)) (ap condition_with (sym e) ∙ sym h.is)

  pub read_back : (e : Sentence) → IsWritable sys e → sentence_of sys (sentence_words sys e) ≡ Ok e
  read_back (sentence.Never h) w = never_read h w
  read_back (sentence.Before a b) w = before_read a b w
  read_back (sentence.NeverAfter h a b) w = never_after_read h a b w
  read_back (sentence.Within r n t) w = response_read r n t w
  read_back (sentence.OneAtATime a b) w = between_read a b w
  read_back (sentence.Always c) w = all_read c (tests_in c) refl w
  read_back (sentence.Rests t) w = rests_read t w
  read_back (sentence.End s t) w = end_read s t w
