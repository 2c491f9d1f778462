-- What it means that no processor can do anything.
use Rattle.std.proofs.Common.{◌≡◌, ◌+◌, ◌≤◌, ◌<◌, ◌≢◌, ℕ, zero, suc, Bool, true, false, ◌&&◌, refl, sym, ap, subst}
use Rattle.std.proofs.Common.{nat_eq, arith}
use Rattle.std.proofs.lemmas.Bool.{eqb-true, eqb-false}
use Rattle.fmp_base.specs.declared.events.Event.TheVariants as event
use Rattle.fmp_base.specs.Meanings.{Meaning, World}
use Rattle.fmp_base.specs.Steps.{Reaction, Nothing, Did, Kept, step}
use Rattle.fmp_base.specs.Systems.{SystemTables}
use Rattle.fmp_schedules.specs.Schedules.{is_nothing, none_runs}

nothing-is : {C : Type 0} (x : Reaction C) → is_nothing x ≡ true → x ≡ Nothing
nothing-is Nothing h = refl
nothing-is (Did d) h = cc
nothing-is (Kept p w) h = cc

pub and-first : (a b : Bool) → (a && b) ≡ true → a ≡ true
and-first true b h = refl
and-first false b h = h

pub and-second : (a b : Bool) → (a && b) ≡ true → b ≡ true
and-second true b h = h
and-second false b h = cc

and-both : (a b : Bool) → a ≡ true → b ≡ true → (a && b) ≡ true
and-both true b h k = k
and-both false b h k = h

module _ {C : Type 0} (sys : SystemTables) (M : Meaning C) (n : ℕ) (w : World C) where
  abbrev runs_nothing : ℕ → Type 0
  runs_nothing p = step sys M n w (event.Run p) ≡ Nothing

  by_last : (k p : ℕ) (b : Bool) → nat_eq p (suc k) ≡ b → p < suc k + 1 → runs_nothing (suc k)
      → (p < k + 1 → runs_nothing p) → runs_nothing p
  by_last k p true e to last earlier = subst (λ (q : ℕ). runs_nothing q) (sym (eqb-true p (suc k) e)) last
  by_last k p false e to last earlier =
      let apart : p ≢ suc k = eqb-false p (suc k) e in
      let below : p < k + 1 = omega arith in
      earlier below

  pub none-each : (processors : ℕ) → none_runs sys M n w processors ≡ true → (p : ℕ) → 1 ≤ p → p < processors + 1
      → runs_nothing p
  none-each zero h p from to = absurd (omega (arith, from, to))
  none-each (suc k) h p from to =
      by_last k p (nat_eq p (suc k)) refl to
      (nothing-is (step sys M n w (event.Run (suc k))) (and-first _ (none_runs sys M n w k) h))
      (λ below. none-each k (and-second (is_nothing (step sys M n w (event.Run (suc k)))) _ h) p from below)

  pub each-none : (processors : ℕ) → ((p : ℕ) → 1 ≤ p → p < processors + 1 → runs_nothing p)
      → none_runs sys M n w processors ≡ true
  each-none zero h = refl
  each-none (suc k) h =
      and-both _ _
      (ap (λ (x : Reaction C). is_nothing x) (h (suc k) (omega arith) (omega arith)))
      (each-none k (λ p from to. h p from (omega (arith, to))))
