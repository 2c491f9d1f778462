-- Actors that were drawn after a beginning of a journal, and their stretches.
use Rattle.std.proofs.Common.{◌≡◌, ◌≢◌, ℕ, zero, suc, ◌<◌, ◌≤◌, List, [], ◌∷◌, ◌++◌, Option, Some, None, Bool, true}
use Rattle.std.proofs.Common.{false, nat_eq, MatchBool, get_or, length, refl, sym, ap, ◌∙◌, subst, arith}
use Rattle.std.proofs.lemmas.Bool.{eqb-true}
use Rattle.std.proofs.lemmas.Bool.Decides.{nat_tests}
use Rattle.std.proofs.lemmas.Option.{slice_get_past}
use Rattle.fmp_base.specs.declared.events.Event.{Event}
use Rattle.fmp_base.specs.declared.events.Event.TheVariants.{Run}
use Rattle.fmp_base.specs.Runs.{run}
use Rattle.fmp_base.specs.Setups.{setup}
use Rattle.fmp_base.specs.States.{idle}
use Rattle.fmp_base.specs.Systems.{found}
use Rattle.fmp_base.specs.declared.states.Processor.{Processor}
use Rattle.fmp_base.specs.Steps.{actor_of, step}
use Rattle.fmp_base.specs.Stretches.{Ending, Over}
use Rattle.fmp_base.specs.Contexts.{stopped}
use Rattle.fmp_base.specs.declared.stop.StretchStop.{StretchStop}
use Rattle.fmp_base.specs.declared.stop.StretchStop.TheVariants as stop
use Rattle.fmp_instructions.specs.declared.instructions.MachineContext.{MachineContext}
use Rattle.fmp_instructions.specs.Instructions.{BodyTables}
use Rattle.fmp_instructions.specs.Machine.{code_meaning}
use Rattle.fmp_image_bytes.specs.Images.{ImageTables}
use Rattle.fmp_kernel.specs.declared.actors.Actor.{Actor}
use Rattle.fmp_kernel.specs.KernelViews.{HasNoActor, KernelView, actor_in, stamp_of as stamp_in, with_stamp}
use Rattle.fmp_journal.specs.declared.entry.JournalEntry.{JournalEntry}
use Rattle.fmp_journal.specs.Seats.{events}
use Rattle.fmp_worlds.specs.Stamps.{EndsSo, Going, actor_at, applied, stamp}
use Rattle.fmp_worlds.proofs.SettledLaws.{run-settled, setup-settled}
use Rattle.fmp_worlds.proofs.StampLaws.{applied-runs, equal_stamps}
use Rattle.fmp_journal.specs.Stamps.{is_current}
use Rattle.fmp_board.specs.Boards.{IsReplay}
use Rattle.fmp_board.specs.Outcomes.{HasNoActorAfter, TicketState, IsDrawn, IsTicketOf, OutcomeState, IsOutcome}
use Rattle.fmp_board.specs.Outcomes.{actor_after, stamp_after, stamp_at}
use Rattle.fmp_replay.specs.Replays.{kernel_after, reaction, replay, stamps_after}
use Rattle.fmp_replay.proofs.Replaying.{stamp_of, step_of_replay, world_of}

abbrev Kernels : Type 0
Kernels = KernelView (List BodyTables) MachineContext

events-append : (xs ys : List JournalEntry) → events (xs ++ ys) ≡ events xs ++ events ys
events-append [] ys = refl
events-append (x ∷ xs) ys = ap (λ (es : List Event). x.event ∷ es) (events-append xs ys)

-- an actor without its stamp
abbrev going_of : Actor MachineContext → Going MachineContext
going_of a = record { entry = a.entry; context = a.context }

-- what an actor with a stamp was made of
record IsStamped (stamp : ℕ) (o : Option (Going MachineContext)) (a : Actor MachineContext) : Type 0 where
  goes : o ≡ Some (going_of a)
  stamp_is : stamp ≡ a.stamp

is_stamped : (stamp : ℕ) (o : Option (Going MachineContext)) (a : Actor MachineContext) → with_stamp stamp o ≡ Some a
    → IsStamped stamp o a
is_stamped stamp None a h = cc
is_stamped stamp (Some g) a h =
    let made : Actor MachineContext = record { entry = g.entry; context = g.context; stamp = stamp } in
    let same : made ≡ a = cc in
    record {
      goes = ap (λ (x : Actor MachineContext). Some (going_of x)) same;
      stamp_is = ap (λ (x : Actor MachineContext). x.stamp) same;
    }

-- an actor that has a stamp
pub stamp_found : (o : Option (Actor MachineContext)) (stamp : ℕ) → stamp_in o ≡ Some stamp
    → (a : Actor MachineContext) × (o ≡ Some a) × (a.stamp ≡ stamp)
stamp_found None stamp h = absurd (cc h)
stamp_found (Some a) stamp h = (a, refl, cc h)

pub no_stamp : (o : Option (Actor MachineContext)) → stamp_in o ≡ None → o ≡ None
no_stamp None h = refl
no_stamp (Some a) h = absurd (cc h)

-- to hand in the stretch of the actor of a processor is to run the processor
applied_runs : (k : Kernels) (p : ℕ) (a : Actor MachineContext) (x : Ending MachineContext) → actor_in k p ≡ Some a
    → x ≡ (code_meaning k.body).stretch a.entry k.bound a.context
    → applied k.system (code_meaning k.body) k.world p x ≡ step k.system (code_meaning k.body) k.bound k.world (Run p)
applied_runs k zero a x h e = absurd (cc)
applied_runs k (suc q) a x h e =
    let s = is_stamped (get_or k.stamps q 0) (actor_at k.system k.world q) a h in
    applied-runs k.system (code_meaning k.body) k.bound k.world q x
    (subst (λ (o : Option (Going MachineContext)). EndsSo (code_meaning k.body) k.bound x o) (sym s.goes) e)

-- the kernel that is the replay of a journal has the actors after it
pub actor_there : (i : ImageTables) (n k m : ℕ) (kernel : Kernels) (journal : List JournalEntry) (p : ℕ)
    → IsReplay i n k m kernel journal
    → actor_in kernel p ≡ actor_after i n journal p
actor_there i n k m kernel journal p r = ap (λ (v : Kernels). actor_in v p) r.kernel_is

-- and no actor where it has none
pub no_actor_there : (i : ImageTables) (n k m : ℕ) (kernel : Kernels) (journal : List JournalEntry) (p : ℕ)
    → IsReplay i n k m kernel journal
    → HasNoActor kernel p → HasNoActorAfter i n journal p
no_actor_there i n k m kernel journal p r none = subst (λ (v : Kernels). HasNoActor v p) r.kernel_is none

-- there is no actor past the last processor
pub past_last : (kernel : Kernels) (p : ℕ) → length kernel.world.state.processors < p → HasNoActor kernel p
past_last kernel zero past = tt
past_last kernel (suc q) past =
    ap (λ (o : Option Processor). actor_of (found idle o)) (slice_get_past kernel.world.state.processors q
    (omega (arith, past)))

pub outcome_runs : (i : ImageTables) (n k m : ℕ) (kernel : Kernels) (journal : List JournalEntry) (o : OutcomeState)
    → IsReplay i n k m kernel journal
    → IsOutcome o → IsTicketOf i n o.ticket → actor_after i n journal o.ticket.processor ≡ Some o.ticket.actor
    → applied kernel.system (code_meaning kernel.body) kernel.world o.ticket.processor o.ending
    ≡ reaction i n (events journal) (Run o.ticket.processor)
outcome_runs i n k m kernel journal o r is of here =
    let body : kernel.body ≡ o.ticket.image.code = ap (λ (v : Kernels). v.body) r.kernel_is
    ∙ sym (ap (λ (x : ImageTables). x.code) of.image_is) in
    let bound : kernel.bound ≡ o.ticket.bound = ap (λ (v : Kernels). v.bound) r.kernel_is ∙ sym of.bound_is in
    let ends : o.ending ≡ (code_meaning kernel.body).stretch o.ticket.actor.entry kernel.bound o.ticket.actor.context =
    is.ending_is
    ∙ ap (λ (c : List BodyTables). (code_meaning c).stretch o.ticket.actor.entry o.ticket.bound
    o.ticket.actor.context) (sym body)
    ∙ ap (λ (b : ℕ). (code_meaning kernel.body).stretch o.ticket.actor.entry b o.ticket.actor.context) (sym bound) in
    applied_runs kernel o.ticket.processor o.ticket.actor o.ending (actor_there i n k m kernel journal
    o.ticket.processor r ∙ here) ends
    ∙ step_of_replay i n (events journal) (Run o.ticket.processor) kernel r.kernel_is

-- the stamp of an actor is that of its processor
pub stamp_of_actor : (i : ImageTables) (n : ℕ) (journal : List JournalEntry) (p : ℕ) (a : Actor MachineContext)
    → actor_after i n journal p ≡ Some a
    → stamp_after i n journal p ≡ a.stamp
stamp_of_actor i n journal zero a h = absurd (cc)
stamp_of_actor i n journal (suc q) a h =
    let s = is_stamped (get_or (stamps_after i n (events journal)) q 0)
    (actor_at i.system (replay i n (events journal)).world q) a h in
    s.stamp_is

-- where the stamp of the processor at place q is that of an actor that was drawn before, it still has this actor
same_place : (i : ImageTables) (n : ℕ) (es fs : List Event) (q : ℕ) (a : Actor MachineContext) → q < i.system.processors
    → actor_in (kernel_after i n es) (suc q) ≡ Some a → get_or (stamps_after i n (es ++ fs)) q 0 ≡ a.stamp
    → actor_in (kernel_after i n (es ++ fs)) (suc q) ≡ Some a
same_place i n es fs q a lt was same =
    let sys = i.system in
    let M = code_meaning i.code in
    let w = (setup sys M).world in
    let s = is_stamped (get_or (stamps_after i n es) q 0) (actor_at sys (replay i n es).world q) a was in
    let then : actor_at sys (run sys M n w es).world q ≡ Some (going_of a) =
    sym (ap (λ v. actor_at sys v q) (world_of i n es)) ∙ s.goes in
    let counts : stamp sys M n w (es ++ fs) q ≡ stamp sys M n w es q =
    sym (stamp_of i n (es ++ fs) q lt) ∙ same ∙ sym s.stamp_is ∙ stamp_of i n es q lt in
    let now : actor_at sys (replay i n (es ++ fs)).world q ≡ Some (going_of a) =
    ap (λ v. actor_at sys v q) (world_of i n (es ++ fs))
    ∙ equal_stamps sys M n w es fs q (going_of a) (run-settled sys M n w es (setup-settled sys M)) counts then in
    ap (λ (o : Option (Going MachineContext)). with_stamp (get_or (stamps_after i n (es ++ fs)) q 0) o) now
    ∙ ap (λ (k : ℕ). with_stamp k (Some (going_of a))) same

by_number : (i : ImageTables) (n : ℕ) (es fs : List Event) (p : ℕ) (a : Actor MachineContext) → p ≤ i.system.processors
    → actor_in (kernel_after i n es) p ≡ Some a → stamp_at p (stamps_after i n (es ++ fs)) ≡ a.stamp
    → actor_in (kernel_after i n (es ++ fs)) p ≡ Some a
by_number i n es fs zero a le was same = absurd (cc)
by_number i n es fs (suc q) a le was same = same_place i n es fs q a (omega (arith, le)) was same

-- an actor that was drawn is the present one where its stamp is
drawn_now : (i : ImageTables) (n : ℕ) (journal : List JournalEntry) (t : TicketState) → IsDrawn i n journal t
    → stamp_after i n journal t.processor ≡ t.actor.stamp → actor_after i n journal t.processor ≡ Some t.actor
drawn_now i n journal t d same =
    let rest = d.begins.0 in
    let all : events journal ≡ events d.begin ++ events rest = sym (ap events d.begins.1)
    ∙ events-append d.begin rest in
    ap (λ (es : List Event). actor_in (kernel_after i n es) t.processor) all
    ∙ by_number i n (events d.begin) (events rest) t.processor t.actor d.is_of.is_processor d.actor_is
    (sym (ap (λ (es : List Event). stamp_at t.processor (stamps_after i n es)) all) ∙ same)

-- whether a processor has the stamp of an actor that was drawn before, by its present actor
pub stamp_test : (i : ImageTables) (n k m : ℕ) (kernel : Kernels) (journal : List JournalEntry) (t : TicketState)
    (a : Actor MachineContext) → IsReplay i n k m kernel journal
    → IsDrawn i n journal t → actor_in kernel t.processor ≡ Some a
    → MatchBool (nat_eq a.stamp t.actor.stamp) (actor_after i n journal t.processor ≡ Some t.actor)
    (stamp_after i n journal t.processor ≢ t.actor.stamp)
stamp_test i n k m kernel journal t a r d h = by_test (nat_eq a.stamp t.actor.stamp) refl where
  now : stamp_after i n journal t.processor ≡ a.stamp
  now = stamp_of_actor i n journal t.processor a (sym (actor_there i n k m kernel journal t.processor r) ∙ h)

  by_test : (b : Bool) → nat_eq a.stamp t.actor.stamp ≡ b
      → MatchBool b (actor_after i n journal t.processor ≡ Some t.actor)
      (stamp_after i n journal t.processor ≢ t.actor.stamp)
  by_test true e = drawn_now i n journal t d (now ∙ eqb-true a.stamp t.actor.stamp e)
  by_test false e = λ same. absurd (let other : a.stamp ≡ t.actor.stamp = sym now
      ∙ same in grind (arith, nat_tests, other, e))

-- a processor without an actor has none of its stamps
pub none_test : (i : ImageTables) (n k m : ℕ) (kernel : Kernels) (journal : List JournalEntry) (t : TicketState)
    → IsReplay i n k m kernel journal
    → IsDrawn i n journal t → actor_in kernel t.processor ≡ None → stamp_after i n journal t.processor ≢ t.actor.stamp
none_test i n k m kernel journal t r d h = λ same.
    let there : Some t.actor ≡ None = sym (drawn_now i n journal t d same)
    ∙ sym (actor_there i n k m kernel journal t.processor r) ∙ h in
    absurd (cc)

-- a ticket is that of its processor as long as its stamp is the processor's
pub current_test : (i : ImageTables) (n k m : ℕ) (kernel : Kernels) (journal : List JournalEntry) (t : TicketState)
    → IsReplay i n k m kernel journal
    → IsDrawn i n journal t
    → MatchBool (is_current (stamp_in (actor_in kernel t.processor)) t.actor.stamp)
    (actor_after i n journal t.processor ≡ Some t.actor) (stamp_after i n journal t.processor ≢ t.actor.stamp)
current_test i n k m kernel journal t r d = by_actor (actor_in kernel t.processor) refl where
  by_actor : (o : Option (Actor MachineContext)) → actor_in kernel t.processor ≡ o
      → MatchBool (is_current (stamp_in o) t.actor.stamp) (actor_after i n journal t.processor ≡ Some t.actor)
      (stamp_after i n journal t.processor ≢ t.actor.stamp)
  by_actor None e = none_test i n k m kernel journal t r d e
  by_actor (Some a) e = stamp_test i n k m kernel journal t a r d e

-- the context of a stretch that is not made yet
pub waits_at : {C : Type 0} (s : StretchStop) (c d : C) → stopped s c ≡ Over (Some d) → c ≡ d
waits_at (stop.Call made) c d h = absurd (cc h)
waits_at stop.End c d h = absurd (cc h)
waits_at (stop.Fault fault) c d h = absurd (cc h)
waits_at stop.Over c d h = cc h
