-- Whose turn it is in a drive, event by event.
use Rattle.std.proofs.Common.{◌≡◌, ℕ, ◌+◌, ◌||◌, Bool, true, false, List, [], ◌∷◌, ◌++◌, Option, Some, None, max, refl}
use Rattle.std.proofs.Common.{subst, sym, ap, arith, inl, inr, ◌∙◌, ◌⊎◌}
use Rattle.std.specs.Prelude.{IfNone, IfSome, MatchOption}
use Rattle.fmp_base.specs.declared.events.Event.{Event}
use Rattle.fmp_base.specs.declared.events.Event.TheVariants as event
use Rattle.fmp_base.specs.Meanings.{Meaning}
use Rattle.fmp_base.specs.States.{KernelState}
use Rattle.fmp_kernel.specs.KernelViews.{KernelView, view_after}
use Rattle.fmp_trace.specs.StepsLaws.{IsStep}
use Rattle.fmp_drive.specs.declared.plan.Plan.{Plan}
use Rattle.fmp_drive.specs.declared.plan.Wish.{Wish}
use Rattle.fmp_drive.specs.declared.plan.Wish.TheVariants as wish
use Rattle.fmp_drive.specs.declared.trying.EventSource.TheVariants.{Processor}
use Rattle.fmp_drive.specs.Driving.{AllStand, AreIdle, AreInTurn, Course, HasTaken, IsFirstInTurn, IsNext, IsQuiet}
use Rattle.fmp_drive.specs.Driving.{IsStirred, TakesFirst, course_after, course_after_all, course_of, reaction}
use Rattle.fmp_drive.specs.Driving.{turn_after}
use Rattle.fmp_drive.specs.Plans.{can_tick, is_due, waits_after_all}

-- two plans that know the same of waits and interrupts are due together
due_alike : (plan plan' : Plan) (s : KernelState) (tasks : ℕ) → plan'.stirred ≡ plan.stirred
    → plan'.ending.items ≡ plan.ending.items → is_due plan' s tasks ≡ is_due plan s tasks
due_alike plan plan' s tasks stirred ending =
    ap (λ (b : Bool). b || can_tick plan'.ending.items s tasks) stirred
    ∙ ap (λ (xs : List Bool). plan.stirred || can_tick xs s tasks) ending

-- where no interrupt comes at random, what is due by the plan is due by the clock
due_by_clock : (plan : Plan) (s : KernelState) (tasks : ℕ) → plan.stirred ≡ false → is_due plan s tasks ≡ true
    → can_tick plan.ending.items s tasks ≡ true
due_by_clock plan s tasks quiet h =
    subst (λ (b : Bool). (b || can_tick plan.ending.items s tasks) ≡ true) quiet h

-- the course of these parts
abbrev course_at : {B C : Type 0} → KernelView B C → (turn : ℕ) → (ending : List Bool) → Course B C
course_at k turn ending = record { kernel = k; turn = turn; ending = ending }

module _ {B C : Type 0} (meaning : B → Meaning C) where
  -- what the first from 1 on does where none from the turn on could
  pub taken_in_turn : (r : Option Event) (k0 k k' : KernelView B C) (processors : ℕ) → k ≡ k0
      → TakesFirst meaning k k' Processor 1 (processors + 1) r → IfSome r (IsStep processors)
      → MatchOption r (AreIdle meaning k0 processors × (k' ≡ k0))
      (λ e. HasTaken meaning k0 k' e × IsStep processors e)
  taken_in_turn None k0 k k' processors same m s =
      (subst (λ (x : KernelView B C). AreIdle meaning x processors) same m.0, m.1 ∙ same)
  taken_in_turn (Some e) k0 k k' processors same m s =
      (subst (λ (x : KernelView B C). HasTaken meaning x k' e) same m.0, s)

  pub first_in_turn : (r : Option Event) (k0 k k' : KernelView B C) (first processors : ℕ)
      → AllStand meaning k0 Processor first (processors + 1) × (k ≡ k0)
      → TakesFirst meaning k k' Processor 1 (processors + 1) r → IfSome r (IsFirstInTurn meaning k0 first processors)
  first_in_turn None k0 k k' first processors a m = tt
  first_in_turn (Some e) k0 k k' first processors a m =
      subst (λ (x : KernelView B C). AllStand meaning x Processor first (processors + 1)
      → IsFirstInTurn meaning x first processors e) a.1 (λ stand. inr (stand, m.1)) a.0

  -- the clock where no processor could do anything
  pub tick_in_turn : (r : Option Event) (k0 k : KernelView B C) (plan : Plan) (first processors tasks : ℕ)
      → AreIdle meaning k0 processors × (k ≡ k0)
      → IfSome r (λ e. (e ≡ event.Tick) × (is_due plan k.world.state tasks ≡ true))
      → IfSome r (λ e. IsFirstInTurn meaning k0 first processors e
      ⊎ ((e ≡ event.Tick) × AreIdle meaning k0 processors × (is_due plan k0.world.state tasks ≡ true)))
  tick_in_turn None k0 k plan first processors tasks a h = tt
  tick_in_turn (Some e) k0 k plan first processors tasks a h =
      inr (h.0, a.0, subst (λ (x : KernelView B C). is_due plan x.world.state tasks ≡ true) a.1 h.1)

  -- nothing is wished from outside where a processor has its turn
  pub not_stirred : (k k' : KernelView B C) (w : Wish) (turn : ℕ) (e : Event) → w ≡ wish.Run turn
      → IsStirred meaning k k' w (Some e) → ⊥
  not_stirred k k' w turn e is h =
      cc (subst (λ (x : Wish). IsStirred meaning k k' x (Some e)) is h).0

  -- what a processor or the clock does in turn is what comes next
  pub next_in_turn : (r : Option Event) (k0 k : KernelView B C) (plan plan' : Plan) (first processors tasks : ℕ)
      → k ≡ k0 → plan'.stirred ≡ plan.stirred → plan'.ending.items ≡ plan.ending.items → plan.stirred ≡ false
      → first ≡ max plan.turn 1
      → IfSome r (λ e. IsFirstInTurn meaning k first processors e
      ⊎ ((e ≡ event.Tick) × AreIdle meaning k processors × (is_due plan' k.world.state tasks ≡ true)))
      → IfSome r (IsNext meaning processors tasks (course_of k0 plan))
  next_in_turn None k0 k plan plan' first processors tasks same stirred ending quiet is h = tt
  next_in_turn (Some e) k0 k plan plan' first processors tasks same stirred ending quiet is h =
      let there = subst (λ (x : KernelView B C). IsFirstInTurn meaning x first processors e
      ⊎ ((e ≡ event.Tick) × AreIdle meaning x processors × (is_due plan' x.world.state tasks ≡ true))) same h in
      elim there [
        | inl runs ↦ inl (subst (λ (n : ℕ). IsFirstInTurn meaning k0 n processors e) is runs)
        | inr ticks ↦
            inr (
              ticks.0,
              ticks.1,
              due_by_clock plan k0.world.state tasks quiet
                  (sym (due_alike plan plan' k0.world.state tasks stirred ending) ∙ ticks.2),
            )
      ]

  -- one event more of a course
  course_more : (processors : ℕ) (c : Course B C) (es : List Event) (e : Event)
      → course_after_all meaning processors c (es ++ e ∷ [])
      ≡ course_after meaning processors (course_after_all meaning processors c es) e
  course_more processors c [] e = refl
  course_more processors c (x ∷ xs) e = course_more processors (course_after meaning processors c x) xs e

  turn_stays : (turn processors : ℕ) (e : Event) → max (turn_after turn processors e) 1
      ≡ turn_after (max turn 1) processors e
  turn_stays turn processors (event.Run p) = omega arith
  turn_stays turn processors event.Tick = refl
  turn_stays turn processors (event.Int i) = refl

  -- a drive goes on from where it stands
  pub drive_more : (processors : ℕ) (c : Course B C) (es : List Event) (e : Event) (k k' : KernelView B C)
      (plan plan' : Plan)
      → course_of k plan ≡ course_after_all meaning processors c es → HasTaken meaning k k' e
      → plan'.turn ≡ turn_after plan.turn processors e
      → plan'.ending.items ≡ waits_after_all plan.ending.items k'.lines
      → course_of k' plan' ≡ course_after_all meaning processors c (es ++ e ∷ [])
  drive_more processors c es e k k' plan plan' is taken turn ending =
      let after : KernelView B C = view_after k (reaction meaning k e) in
      let turn_is : max plan'.turn 1 ≡ turn_after (max plan.turn 1) processors e =
      ap (λ (n : ℕ). max n 1) turn ∙ turn_stays plan.turn processors e in
      let ending_is : plan'.ending.items ≡ waits_after_all plan.ending.items after.lines =
      ending ∙ ap (λ (x : KernelView B C). waits_after_all plan.ending.items x.lines) taken.view in
      let one : course_of k' plan' ≡ course_after meaning processors (course_of k plan) e =
      ap (λ (x : KernelView B C). course_at x (max plan'.turn 1) plan'.ending.items) taken.view
      ∙ ap (λ (n : ℕ). course_at after n plan'.ending.items) turn_is
      ∙ ap (λ (xs : List Bool). course_at after (turn_after (max plan.turn 1) processors e) xs) ending_is in
      one ∙ ap (λ (x : Course B C). course_after meaning processors x e) is ∙ sym (course_more processors c es e)

  -- one more event that is the next
  turns_more : (processors tasks : ℕ) (c : Course B C) (es : List Event) (e : Event)
      → AreInTurn meaning processors tasks c es
      → IsNext meaning processors tasks (course_after_all meaning processors c es) e
      → AreInTurn meaning processors tasks c (es ++ e ∷ [])
  turns_more processors tasks c [] e all h = (h, tt)
  turns_more processors tasks c (x ∷ xs) e all h =
      (all.0, turns_more processors tasks (course_after meaning processors c x) xs e all.1 h)

  -- one more that is the next where the drive stands
  pub turns_go_on : (processors tasks : ℕ) (c d : Course B C) (es : List Event) (e : Event)
      → d ≡ course_after_all meaning processors c es → AreInTurn meaning processors tasks c es
      → IsNext meaning processors tasks d e → AreInTurn meaning processors tasks c (es ++ e ∷ [])
  turns_go_on processors tasks c d es e is all h =
      turns_more processors tasks c es e all
      (subst (λ (x : Course B C). IsNext meaning processors tasks x e) is h)

  -- a drive that has taken nothing
  pub no_turns : (processors tasks : ℕ) (c : Course B C) (es : List Event) → es ≡ []
      → AreInTurn meaning processors tasks c es
  no_turns processors tasks c es e =
      subst (λ (xs : List Event). AreInTurn meaning processors tasks c xs) (sym e) tt

  pub starts : (processors : ℕ) (c : Course B C) (es : List Event) → es ≡ []
      → c ≡ course_after_all meaning processors c es
  starts processors c es e =
      subst (λ (xs : List Event). c ≡ course_after_all meaning processors c xs) (sym e) refl

  -- what is quiet where the drive stands
  pub quiet_at : (processors tasks : ℕ) (stirred : Bool) (k k' : KernelView B C) (plan : Plan) (d : Course B C)
      → course_of k plan ≡ d → plan.stirred ≡ stirred → AreIdle meaning k processors × (k' ≡ k)
      → is_due plan k.world.state tasks ≡ false → IsQuiet meaning processors tasks stirred d
  quiet_at processors tasks stirred k k' plan d is same idle due =
      subst (λ (x : Course B C). IsQuiet meaning processors tasks stirred x) is (
        idle.0,
        subst (λ (b : Bool). (b || can_tick plan.ending.items k.world.state tasks) ≡ false) same due,
      )

-- what is not due on the same kernel, by a plan that knows the same, is not due
pub not_due_before : {B C : Type 0} (r : Option Event) (k0 k : KernelView B C) (plan : Plan) (tasks : ℕ) → k ≡ k0
    → IfNone r (is_due plan k.world.state tasks ≡ false) → IfNone r (is_due plan k0.world.state tasks ≡ false)
not_due_before {B} {C} r k0 k plan tasks same h =
    subst (λ (x : KernelView B C). IfNone r (is_due plan x.world.state tasks ≡ false)) same h

pub still_not_due : {B C : Type 0} (r : Option Event) (k0 k : KernelView B C) (plan plan' : Plan) (tasks : ℕ) → k ≡ k0
    → plan'.stirred ≡ plan.stirred → plan'.ending.items ≡ plan.ending.items
    → IfNone r (is_due plan' k.world.state tasks ≡ false) → IfNone r (is_due plan k0.world.state tasks ≡ false)
still_not_due {B} {C} r k0 k plan plan' tasks same stirred ending h =
    subst (λ (b : Bool). IfNone r (b ≡ false)) (due_alike plan plan' k0.world.state tasks stirred ending)
    (not_due_before r k0 k plan' tasks same h)
