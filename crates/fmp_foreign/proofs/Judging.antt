-- What the text of an actor does next.
use Rattle.std.proofs.Common.{◌≡◌, ◌≢◌, ◌∙◌, ℕ, zero, suc, Option, Some, None, ap, sym, subst, get_or}
use Rattle.fmp_base.specs.declared.bodies.Stretch.{Stretch}
use Rattle.fmp_base.specs.declared.bodies.Stretch.TheVariants as made
use Rattle.fmp_base.specs.Meanings.{Meaning}
use Rattle.fmp_base.specs.Stretches.{Ending, ending}
use Rattle.fmp_base.specs.Stretches as ends
use Rattle.fmp_kernel.specs.declared.actors.Actor.{Actor}
use Rattle.fmp_kernel.specs.KernelViews.{KernelView, actor_in, with_stamp}
use Rattle.fmp_worlds.specs.Stamps.{Going, actor_at, actor_at_number}
use Rattle.fmp_outside.specs.declared.given.Act.{Act}
use Rattle.fmp_outside.specs.declared.given.Given.{Given}
use Rattle.fmp_outside.specs.declared.given.Given.TheVariants as given
use Rattle.fmp_outside.specs.Outside.{ActsSo, IsOfText, act_of}
use Rattle.fmp_foreign.specs.Following.{ActsOtherwise, DoesOtherwise, GoesOn, IsOver, act_at_end, act_on}
use Rattle.fmp_foreign.specs.Following.{stretch_of, stretch_on}

no_stamp : {C : Type 0} (stamp : ℕ) (o : Option (Going C)) → with_stamp stamp o ≡ None → o ≡ None
no_stamp stamp None e = cc
no_stamp stamp (Some g) e = cc

by_stamp : {C : Type 0} (stamp : ℕ) (o : Option (Going C)) (a : Actor C) → with_stamp stamp o ≡ Some a
    → o ≡ Some (record { entry = a.entry; context = a.context })
by_stamp stamp None a e = cc
by_stamp {C} stamp (Some g) a e =
    let s : record { entry = g.entry; context = g.context; stamp = stamp } ≡ a = cc in
    ap (λ (x : Actor C). Some (record { entry = x.entry; context = x.context })) s

module _ {B C : Type 0} (meaning : B → Meaning C) (k : KernelView B C) where
  pub no_stretch : (p : ℕ) → actor_in k p ≡ None → stretch_on meaning k p ≡ None
  no_stretch zero e = cc
  no_stretch (suc p) e =
      ap (λ (o : Option (Going C)). stretch_of (meaning k.body) k.bound o)
      (no_stamp (get_or k.stamps p 0) (actor_at k.system k.world p) e)

  pub its_stretch : (p : ℕ) (a : Actor C) (x : Ending C) → actor_in k p ≡ Some a
      → x ≡ (meaning k.body).stretch a.entry k.bound a.context → stretch_on meaning k p ≡ Some x
  its_stretch zero a x e s = cc
  its_stretch (suc p) a x e s =
      ap (λ (o : Option (Going C)). stretch_of (meaning k.body) k.bound o)
      (by_stamp (get_or k.stamps p 0) (actor_at k.system k.world p) a e)
      ∙ ap (λ (y : Ending C). Some y) (sym s)

module _ {C : Type 0} (M : Meaning C) (n : ℕ) where
  nobody_acts : (a : Act) (o : Option (Going C)) → stretch_of M n o ≡ None → ActsSo M n a o
  nobody_acts a None e = tt
  nobody_acts a (Some g) e = cc

  same_acts : (a : Act) (x : Ending C) (o : Option (Going C)) → stretch_of M n o ≡ Some x → act_of x ≡ Some a
      → ActsSo M n a o
  same_acts a x None e s = tt
  same_acts a x (Some g) e s =
      let q : M.stretch g.entry n g.context ≡ x = cc in
      ap (λ (y : Ending C). act_of y) q ∙ s

  other_acts : (a b : Act) (x : Ending C) (o : Option (Going C)) → stretch_of M n o ≡ Some x → act_of x ≡ Some b
      → b ≢ a → ActsOtherwise M n a o
  other_acts a b x None e s d = cc
  other_acts a b x (Some g) e s d =
      let q : M.stretch g.entry n g.context ≡ x = cc in
      (b, ap (λ (y : Ending C). act_of y) q ∙ s, d)

  other_at_end : (a : Act) (o : Option (Going C)) → ActsOtherwise M n a o
      → (b : Act) × (act_at_end (stretch_of M n o) ≡ Some b) × (b ≢ a)
  other_at_end a None h = absurd h
  other_at_end a (Some g) h = h

  over_of : (s : Stretch C) (o : Option (Going C)) → stretch_of M n o ≡ Some (ending s) → act_of (ending s) ≡ None
      → IsOver M n o
  over_of s None e h = cc
  over_of (made.Call c call) (Some g) e h = cc
  over_of (made.End c) (Some g) e h = cc
  over_of (made.Fault c fault) (Some g) e h = cc
  over_of (made.Over c) (Some g) e h =
      let q : M.stretch g.entry n g.context ≡ ends.Over (Some c) = cc in
      (c, q)

module _ {B C : Type 0} (meaning : B → Meaning C) (k : KernelView B C) where
  pub nobody_follows : (p : ℕ) (a : Act) (g : Given) → g ≡ given.Act p a → stretch_on meaning k p ≡ None
      → IsOfText k.system (meaning k.body) k.bound k.world g
  nobody_follows p a g q e =
      subst (λ (h : Given). IsOfText k.system (meaning k.body) k.bound k.world h) (sym q)
      (nobody_acts (meaning k.body) k.bound a (actor_at_number k.system k.world p) e)

  pub same_follows : (p : ℕ) (a : Act) (x : Ending C) (g : Given) → g ≡ given.Act p a → stretch_on meaning k p ≡ Some x
      → act_of x ≡ Some a → IsOfText k.system (meaning k.body) k.bound k.world g
  same_follows p a x g q e s =
      subst (λ (h : Given). IsOfText k.system (meaning k.body) k.bound k.world h) (sym q)
      (same_acts (meaning k.body) k.bound a x (actor_at_number k.system k.world p) e s)

  pub other_differs : (p : ℕ) (a b : Act) (x : Ending C) (g : Given) → g ≡ given.Act p a
      → stretch_on meaning k p ≡ Some x → act_of x ≡ Some b → b ≢ a → DoesOtherwise meaning k g
  other_differs p a b x g q e s d =
      subst (λ (h : Given). DoesOtherwise meaning k h) (sym q)
      (other_acts (meaning k.body) k.bound a b x (actor_at_number k.system k.world p) e s d)

  pub over_goes_on : (p : ℕ) (a : Act) (s : Stretch C) (g : Given) → g ≡ given.Act p a
      → stretch_on meaning k p ≡ Some (ending s) → act_of (ending s) ≡ None → GoesOn meaning k g
  over_goes_on p a s g q e h =
      subst (λ (i : Given). GoesOn meaning k i) (sym q)
      (over_of (meaning k.body) k.bound s (actor_at_number k.system k.world p) e h)

  pub other_next : (p : ℕ) (a : Act) → DoesOtherwise meaning k (given.Act p a)
      → (b : Act) × (act_on meaning k p ≡ Some b) × (b ≢ a)
  other_next p a h = other_at_end (meaning k.body) k.bound a (actor_at_number k.system k.world p) h
