-- A sentence is printed in its words, with a blank between two.
use Rattle.std.proofs.Common.{ℕ, ◌≡◌, ◌∙◌, ◌+◌, ◌-◌, List, [], ◌∷◌, ◌++◌, Bool, true, false, cond, Option, Some, None}
use Rattle.std.proofs.Common.{codes}
use Rattle.std.proofs.Common.{append_assoc, length, take, ap, sym, refl, arith, decimal}
use Rattle.std.proofs.Math.Seq.{take-append_seam}
use Rattle.std.proofs.lemmas.Bool.Decides.{nat_tests}
use Rattle.std.proofs.lemmas.List.{append-nil, length-append}
use Rattle.std.specs.Fmt.{signed_decimal}
use Rattle.std.specs.List.{flat_map}
use Rattle.std.specs.Prelude.{ℤ, is_some, nat_lt, not, ◌&&◌}
use Rattle.fmp_base.specs.Systems.{SystemTables}
use Rattle.fmp_base.specs.Texts.{task_name, word_text}
use Rattle.fmp_expect.specs.Written.{by_words, deed_word, fact_words, happening_words, joint_word, measured_words}
use Rattle.fmp_expect.specs.Written.{more_tests}
use Rattle.fmp_expect.specs.Written.{actor_text, handler_name, interrupt_by, measure_name, named_text, tests_words}
use Rattle.fmp_expect.specs.Written.{begins_alternative, relation_word, runner_word, sentence_words, spaced}
use Rattle.fmp_expect.specs.Written.{spaced_more}
use Rattle.fmp_expect.specs.Written.{trigger_words, until_words}
use Rattle.fmp_monitors.specs.Conditions.{tests_of}
use Rattle.fmp_monitors.specs.declared.condition.ConditionTest.{ConditionTest}
use Rattle.fmp_monitors.specs.declared.condition.Measure.{Measure}
use Rattle.fmp_monitors.specs.declared.condition.Measure.TheVariants as measure
use Rattle.fmp_monitors.specs.declared.condition.Relation.{Relation}
use Rattle.fmp_monitors.specs.declared.condition.Relation.TheVariants as relation
use Rattle.fmp_monitors.specs.declared.condition.TestedFact.{TestedFact}
use Rattle.fmp_monitors.specs.declared.condition.TestedFact.TheVariants as fact
use Rattle.fmp_monitors.specs.declared.happening.ExpectedActor.{ExpectedActor}
use Rattle.fmp_monitors.specs.declared.happening.ExpectedDeed.{ExpectedDeed}
use Rattle.fmp_monitors.specs.declared.happening.ExpectedDeed.TheVariants as deed
use Rattle.fmp_monitors.specs.declared.happening.ExpectedResponse.{ExpectedResponse}
use Rattle.fmp_monitors.specs.declared.happening.ExpectedResponse.TheVariants as response
use Rattle.fmp_monitors.specs.declared.happening.ExpectedTrigger.{ExpectedTrigger}
use Rattle.fmp_monitors.specs.declared.happening.ExpectedTrigger.TheVariants as trigger
use Rattle.fmp_monitors.specs.declared.happening.Happening.{Happening}
use Rattle.fmp_monitors.specs.declared.sentence.Sentence.{Sentence}
use Rattle.fmp_monitors.specs.declared.sentence.Sentence.TheVariants as sentence
use Rattle.fmp_searching.specs.Extent.{words_of}
use Rattle.fmp_searching.specs.Sentences as printed
use Rattle.fmp_searching.specs.Sentences.{always_text, before_text, between_text, by_text, deed_text, fact_text}
use Rattle.fmp_searching.specs.Sentences.{happening_text}
use Rattle.fmp_searching.specs.Sentences.{is_worded, never_after_text, never_text, response_text, sentence_text}
use Rattle.fmp_searching.specs.Sentences.{test_text}
use Rattle.fmp_searching.specs.Sentences.{tests_text, trigger_text, until_text, within_text, without_or}

module _ (sys : SystemTables) where
  deed_is : (d : ExpectedDeed) → printed.deed_text d ≡ deed_word d
  unfolding deed_text
  deed_is (deed.Answer code) = refl
  deed_is (deed.Put value) = refl
  deed_is (deed.Stop fault) = refl

  by_is : (by : Option ExpectedActor) (rest : List (List ℕ))
      → spaced_more (by_words sys by rest) ≡ printed.by_text sys by ++ spaced_more rest
  unfolding by_text
  by_is None rest = refl
  by_is (Some who) rest = refl

  happening_is : (h : Happening) (rest : List (List ℕ))
      → spaced (happening_words sys h rest) ≡ printed.happening_text sys h ++ spaced_more rest
  unfolding happening_text
  happening_is h rest =
      ap (λ t. deed_word h.deed ++ t) (by_is h.by rest)
      ∙ ap (λ t. t ++ (printed.by_text sys h.by ++ spaced_more rest)) (sym (deed_is h.deed))
      ∙ sym (append_assoc (printed.deed_text h.deed) (printed.by_text sys h.by) (spaced_more rest))

  -- the same after another word
  happening_after : (h : Happening) (rest : List (List ℕ))
      → spaced_more (happening_words sys h rest) ≡ 32 ∷ (printed.happening_text sys h ++ spaced_more rest)
  happening_after h rest = ap (λ t. 32 ∷ t) (happening_is h rest)

  last_happening : (h : Happening)
      → spaced_more (happening_words sys h []) ++ codes ", " ≡ 32 ∷ (printed.happening_text sys h ++ codes ", ")
  last_happening h =
      ap (λ t. t ++ codes ", ") (happening_after h [])
      ∙ ap (λ t. 32 ∷ (t ++ codes ", ")) (append-nil (printed.happening_text sys h))

  never_is : (h : Happening) → spaced (sentence_words sys (sentence.Never h)) ++ codes ", " ≡ printed.never_text sys h
  unfolding never_text
  never_is h = ap (λ t. codes "never" ++ t) (last_happening h)

  before_is : (a b : Happening)
      → spaced (sentence_words sys (sentence.Before a b)) ++ codes ", " ≡ printed.before_text sys a b
  unfolding before_text
  before_is a b =
      ap (λ t. t ++ codes ", ") (happening_is a (codes "before" ∷ happening_words sys b []))
      ∙ append_assoc (printed.happening_text sys a) (spaced_more (codes "before" ∷ happening_words sys b []))
      (codes ", ")
      ∙ ap (λ t. printed.happening_text sys a ++ (codes " before" ++ t)) (last_happening b)

  until_is : (b : Option Happening) → spaced_more (until_words sys b) ++ codes ", "
      ≡ printed.until_text sys b ++ codes ", "
  unfolding until_text
  until_is None = refl
  until_is (Some h) = ap (λ t. codes " until" ++ t) (last_happening h)

  never_after_is : (h a : Happening) (b : Option Happening)
      → spaced (sentence_words sys (sentence.NeverAfter h a b)) ++ codes ", " ≡ printed.never_after_text sys h a b
  unfolding never_after_text
  never_after_is h a b =
      let more = happening_words sys a (until_words sys b) in
      ap (λ t. codes "never" ++ (t ++ codes ", ")) (happening_after h (codes "after" ∷ more))
      ∙ ap (λ t. codes "never " ++ t)
      (append_assoc (printed.happening_text sys h) (spaced_more (codes "after" ∷ more)) (codes ", ")
      ∙ ap (λ t. printed.happening_text sys h ++ (codes " after" ++ t))
      (ap (λ t. t ++ codes ", ") (happening_after a (until_words sys b))
      ∙ ap (λ t. 32 ∷ t)
      (append_assoc (printed.happening_text sys a) (spaced_more (until_words sys b)) (codes ", ")
      ∙ ap (λ t. printed.happening_text sys a ++ t) (until_is b))))

  -- ---- times

  trigger_is : (t : ExpectedTrigger)
      → spaced_more (trigger_words sys t) ++ codes ", " ≡ 32 ∷ (printed.trigger_text sys t ++ codes ", ")
  unfolding trigger_text
  trigger_is (trigger.Interrupt i) =
      let word = interrupt_by sys (i + 1) (handler_name sys (i + 1)) in
      ap (λ t. codes " int " ++ (t ++ codes ", ")) (append-nil word)
  trigger_is (trigger.Happens h) = last_happening h

  within_is : (text : List ℕ) (n : ℕ) (t : ExpectedTrigger)
      → (text ++ spaced_more (codes "within" ∷ decimal n ∷ codes "ticks" ∷ codes "of" ∷ trigger_words sys t))
      ++ codes ", "
      ≡ text ++ (codes " within " ++ (decimal n ++ (codes " ticks of " ++ (printed.trigger_text sys t ++ codes ", "))))
  within_is text n t =
      let last = spaced_more (codes "ticks" ∷ codes "of" ∷ trigger_words sys t) in
      append_assoc text (codes " within " ++ (decimal n ++ last)) (codes ", ")
      ∙ ap (λ x. text ++ (codes " within " ++ x))
      (append_assoc (decimal n) last (codes ", ") ∙ ap (λ x. decimal n ++ (codes " ticks of" ++ x)) (trigger_is t))

  response_is : (r : ExpectedResponse) (n : ℕ) (t : ExpectedTrigger)
      → spaced (sentence_words sys (sentence.Within r n t)) ++ codes ", " ≡ printed.within_text sys r n t
  unfolding response_text within_text
  response_is (response.Runs who) n t =
      let rest = spaced_more (codes "within" ∷ decimal n ∷ codes "ticks" ∷ codes "of" ∷ trigger_words sys t) in
      ap (λ x. x ++ codes ", ") (sym (append_assoc (actor_text sys who) (codes " runs") rest))
      ∙ within_is (actor_text sys who ++ codes " runs") n t
  response_is (response.Happens h) n t =
      ap (λ x. x ++ codes ", ")
      (happening_is h (codes "within" ∷ decimal n ∷ codes "ticks" ∷ codes "of" ∷ trigger_words sys t))
      ∙ within_is (printed.happening_text sys h) n t

  between_is : (a b : Happening)
      → spaced (sentence_words sys (sentence.OneAtATime a b)) ++ codes ", " ≡ printed.between_text sys a b
  unfolding between_text
  between_is a b =
      let last = codes "one" ∷ codes "at" ∷ codes "a" ∷ codes "time" ∷ [] in
      let more = happening_words sys b last in
      ap (λ t. codes "between" ++ (t ++ codes ", ")) (happening_after a (codes "and" ∷ more))
      ∙ ap (λ t. codes "between " ++ t)
      (append_assoc (printed.happening_text sys a) (spaced_more (codes "and" ∷ more)) (codes ", ")
      ∙ ap (λ t. printed.happening_text sys a ++ (codes " and" ++ t))
      (ap (λ t. t ++ codes ", ") (happening_after b last)
      ∙ ap (λ t. 32 ∷ t) (append_assoc (printed.happening_text sys b) (spaced_more last) (codes ", "))))

  -- ---- conditions

  relation_is : (r : Relation) (text : List ℕ) → 32 ∷ (relation_word r ++ (32 ∷ text)) ≡ printed.relation_text r ++ text
  relation_is relation.Less text = refl
  relation_is relation.LessOrEqual text = refl
  relation_is relation.Equal text = refl
  relation_is relation.Unequal text = refl
  relation_is relation.Greater text = refl
  relation_is relation.GreaterOrEqual text = refl

  named_is : (name : List ℕ) (r : Relation) (v : ℤ) (rest : List (List ℕ))
      → spaced (name ∷ relation_word r ∷ signed_decimal v ∷ rest)
      ≡ (name ++ (printed.relation_text r ++ signed_decimal v)) ++ spaced_more rest
  named_is name r v rest =
      ap (λ t. name ++ t) (relation_is r (signed_decimal v ++ spaced_more rest)
      ∙ sym (append_assoc (printed.relation_text r) (signed_decimal v) (spaced_more rest)))
      ∙ sym (append_assoc name (printed.relation_text r ++ signed_decimal v) (spaced_more rest))

  compared_is : (m : Measure) (r : Relation) (v : ℤ) (rest : List (List ℕ))
      → spaced (measured_words sys m (relation_word r ∷ signed_decimal v ∷ rest))
      ≡ (printed.measure_word m ++ (named_text (measure_name sys m) ++ (printed.relation_text r ++ signed_decimal v)))
      ++ spaced_more rest
  compared_is (measure.SharedWord i) r v rest = named_is _ r v rest
  compared_is (measure.Count i) r v rest = named_is _ r v rest
  compared_is (measure.Pattern i) r v rest = named_is _ r v rest
  compared_is (measure.Words i) r v rest = named_is _ r v rest
  compared_is (measure.Messages i) r v rest = named_is _ r v rest
  compared_is (measure.Priority t) r v rest = ap (λ t. codes "priority " ++ t) (named_is _ r v rest)

  runner_is : (who : Option ℕ) → runner_word sys who ≡ printed.runner_text sys who
  runner_is None = refl
  runner_is (Some t) = refl

  fact_is : (f : TestedFact) (rest : List (List ℕ))
      → spaced (fact_words sys f rest) ≡ printed.fact_text sys f ++ spaced_more rest
  unfolding fact_text
  fact_is (fact.Compares m r v) rest = compared_is m r v rest
  fact_is (fact.Is t w) rest =
      ap (λ x. task_name sys t ++ x) (sym (append_assoc (codes " is ") (word_text w) (spaced_more rest)))
      ∙ sym (append_assoc (task_name sys t) (codes " is " ++ word_text w) (spaced_more rest))
  fact_is (fact.Runs p who) rest =
      ap (λ x. x ++ (codes " runs on " ++ (decimal (p + 1) ++ spaced_more rest))) (runner_is who)
      ∙ sym (append_assoc (printed.runner_text sys who) (codes " runs on " ++ decimal (p + 1)) (spaced_more rest))

  -- words that follow another one have a blank before them
  measured_after : (m : Measure) (rest : List (List ℕ))
      → spaced_more (measured_words sys m rest) ≡ 32 ∷ spaced (measured_words sys m rest)
  measured_after (measure.SharedWord i) rest = refl
  measured_after (measure.Count i) rest = refl
  measured_after (measure.Pattern i) rest = refl
  measured_after (measure.Words i) rest = refl
  measured_after (measure.Messages i) rest = refl
  measured_after (measure.Priority t) rest = refl

  fact_after : (f : TestedFact) (rest : List (List ℕ))
      → spaced_more (fact_words sys f rest) ≡ 32 ∷ spaced (fact_words sys f rest)
  fact_after (fact.Compares m r v) rest = measured_after m (relation_word r ∷ signed_decimal v ∷ rest)
  fact_after (fact.Is t w) rest = refl
  fact_after (fact.Runs p who) rest = refl

  negated_is : (negated : Bool) (f : TestedFact) (rest : List (List ℕ))
      → spaced_more (cond negated (codes "not" ∷ fact_words sys f rest) (fact_words sys f rest))
      ≡ 32 ∷ ((cond negated (codes "not ") [] ++ printed.fact_text sys f) ++ spaced_more rest)
  negated_is true f rest = ap (λ t. codes " not" ++ t) (fact_after f rest ∙ ap (λ t. 32 ∷ t) (fact_is f rest))
  negated_is false f rest = fact_after f rest ∙ ap (λ t. 32 ∷ t) (fact_is f rest)

  joint_is : (alternative : Bool) (text : List ℕ)
      → 32 ∷ (joint_word alternative ++ (32 ∷ text)) ≡ printed.joint_text alternative ++ text
  joint_is true text = refl
  joint_is false text = refl

  more_is : (ts : List ConditionTest) → spaced_more (more_tests sys ts) ≡ flat_map (λ t. test_text sys t) ts
  unfolding test_text
  more_is [] = refl
  more_is (t ∷ ts) =
      let said = cond t.negated (codes "not ") [] ++ printed.fact_text sys t.fact in
      let rest = spaced_more (more_tests sys ts) in
      ap (λ x. 32 ∷ (joint_word t.alternative ++ x)) (negated_is t.negated t.fact (more_tests sys ts))
      ∙ joint_is t.alternative (said ++ rest)
      ∙ sym (append_assoc (printed.joint_text t.alternative) said rest)
      ∙ ap (λ x. (printed.joint_text t.alternative ++ said) ++ x) (more_is ts)

  after_or : (text : List ℕ) → without_or (codes " or " ++ text) ≡ text
  unfolding without_or
  after_or [] = refl
  after_or (b ∷ text) =
      let long : nat_lt 4 (length (codes " or " ++ b ∷ text)) ≡ true = grind (arith, nat_tests) in
      ap (λ x. cond x (b ∷ text) []) long

  -- tests of which the first begins an alternative
  tests_is : (ts : List ConditionTest) → begins_alternative ts ≡ true
      → codes "always" ++ spaced_more (tests_words sys ts)
      ≡ codes "always " ++ without_or (flat_map (λ t. test_text sys t) ts)
  unfolding test_text
  tests_is [] h = absurd (cc)
  tests_is (t ∷ ts) h =
      let said = cond t.negated (codes "not ") [] ++ printed.fact_text sys t.fact in
      let rest = flat_map (λ t. test_text sys t) ts in
      ap (λ x. codes "always" ++ x) (negated_is t.negated t.fact (more_tests sys ts))
      ∙ ap (λ x. codes "always " ++ (said ++ x)) (more_is ts)
      ∙ ap (λ x. codes "always " ++ x) (sym (after_or (said ++ rest)))
      ∙ ap (λ x. codes "always " ++ without_or x) (sym (append_assoc (codes " or ") said rest))
      ∙ ap (λ b. codes "always " ++ without_or ((printed.joint_text b ++ said) ++ rest)) (sym h)

  -- ---- sentences

  section_is : (a b : Happening) → is_worded (sentence.OneAtATime a b) ≡ true
      → sentence_text sys (sentence.OneAtATime a b) ≡ printed.between_text sys a b
  section_is a b h = by_values (printed.put_of a.deed a.by) (printed.put_of b.deed b.by) h
    where
      by_values : (x y : Option ℤ) → not (is_some x && is_some y) ≡ true
          → printed.section_text sys a b x y ≡ printed.between_text sys a b
      by_values None y h = refl
      by_values (Some v) None h = refl
      by_values (Some v) (Some w) h = absurd (cc)

  worded : (e : Sentence) → is_worded e ≡ true → sentence_text sys e ≡ spaced (sentence_words sys e) ++ codes ", "
  unfolding always_text
  worded (sentence.Never h) w = sym (never_is h)
  worded (sentence.Before a b) w = sym (before_is a b)
  worded (sentence.NeverAfter h a b) w = sym (never_after_is h a b)
  worded (sentence.Within r n t) w = sym (response_is r n t)
  worded (sentence.OneAtATime a b) w = section_is a b w ∙ sym (between_is a b)
  worded (sentence.Always c) w =
      sym (append_assoc (codes "always ") (without_or (tests_text sys c)) (codes ", "))
      ∙ ap (λ x. x ++ codes ", ") (sym (tests_is (tests_of c) w))
  worded (sentence.Rests t) w = absurd (cc)
  worded (sentence.End s t) w = absurd (cc)

  -- a sentence without its comma is its words
  pub words_are : (e : Sentence) → is_worded e ≡ true → words_of sys e ≡ spaced (sentence_words sys e)
  words_are e w =
      let words = spaced (sentence_words sys e) in
      let short : length (words ++ codes ", ") - 2 ≡ length words = omega (arith, length-append words (codes ", ")) in
      ap (λ text. take (length text - 2) text) (worded e w)
      ∙ ap (λ n. take n (words ++ codes ", ")) short
      ∙ take-append_seam words (codes ", ")
