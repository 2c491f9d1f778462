-- Starts, ends and releases of tasks are made of changes.
use Rattle.std.proofs.Common.{◌≡◌, ◌+◌, ◌<◌, ℕ, zero, suc, pos, List, [], ◌∷◌, ◌++◌, Option, None, Bool, true, false}
use Rattle.std.proofs.Common.{◌&&◌, ◌||◌, not, refl, sym, ◌∙◌, ap, subst, length}
use Rattle.fmp_base.specs.declared.calls.Reply.{Reply}
use Rattle.fmp_base.specs.declared.events.Line.TheVariants as line
use Rattle.fmp_base.specs.declared.states.Phase.{Phase}
use Rattle.fmp_base.specs.declared.states.Phase.TheVariants.{Dormant, Ready}
use Rattle.fmp_base.specs.declared.states.TaskBlock.{TaskBlock}
use Rattle.fmp_base.specs.Changes.{ended, ended_block, ended_by, released, released_state, started, started_block}
use Rattle.fmp_base.specs.FlagCalls.{is_satisfied, walked, walk}
use Rattle.fmp_base.specs.Outcomes.{given}
use Rattle.fmp_base.specs.Queues.{is_ready_phase}
use Rattle.fmp_base.specs.States.{Progress, task_at}
use Rattle.fmp_base.specs.Systems.{SystemTables}
use Rattle.fmp_tasks.specs.Homes.{is_waiting}
use Rattle.fmp_reachable.specs.Numbers.{IsAhead}
use Rattle.fmp_reachable.proofs.Changes.{Change, IsFair, Moves, Out, Pattern, Says, ToEnd, changed}
use Rattle.fmp_reachable.proofs.Stands.{off, said, satisfied-waits, there, waits-on}
use Rattle.fmp_reachable.specs.Sound.{IsFineBlock}

module _ (sys : SystemTables) (P : Progress → Type 0)
    (go : (g : Progress) (c : Change) → P g → IsFair sys g.state c → P (changed c g)) where
  pub started-comes : (g : Progress) (t : ℕ) (x : TaskBlock) → P g → t < length g.state.tasks → P (started sys g t x)
  started-comes g t x h l =
      let y = started_block sys t x in
      go (changed (Moves ToEnd t y) g) (Says (line.Starts y.processor t ∷ []))
      (go g (Moves ToEnd t y) h (record {
        there = l;
        fine = record { rest = λ e. refl; calm = λ e. refl; ahead = tt };
        placed = refl;
        waits = λ e. off e;
      }))
      (said g.state.tasks t y refl l)

  ended_by-comes : (n : ℕ) (g : Progress) (t : ℕ) (y : TaskBlock) → P g → t < length g.state.tasks
      → y.phase ≡ Dormant → y.deadline ≡ None
      → y.suspended ≡ false → P (ended_by n sys g t y)
  ended_by-comes zero g t y h l p d b =
      go g (Moves Out t y) h (record {
        there = l;
        fine = record {
          rest = λ e. d;
          calm = λ e. b;
          ahead = subst (λ (o : Option ℕ). IsAhead
              (g.state.clock + 1) o) (sym d) tt;
        };
        placed = ap (λ (q : Phase). (is_ready_phase q && not y.suspended) || is_waiting q) p;
        waits = λ e. off (sym (ap is_waiting p) ∙ e);
      })
  ended_by-comes (suc n) g t y h l p d b = started-comes g t (record y { activations = n }) h l

  pub ended-comes : (g : Progress) (t : ℕ) (x : TaskBlock) → P g → t < length g.state.tasks → P (ended sys g t x)
  ended-comes g t x h l = ended_by-comes x.activations g t (ended_block sys t x) h l refl refl refl

  pub released-comes : (g : Progress) (t : ℕ) (x : TaskBlock) (reply : Reply) → P g → t < length g.state.tasks
      → P (released g t x reply)
  released-comes g t x reply h l = by_order x.suspended refl where
    y : TaskBlock
    y = record x { phase = Ready; deadline = None }

    fine : IsFineBlock (g.state.clock + 1) y
    fine = record { rest = λ e. refl; calm = λ e. off e; ahead = tt }

    by_order : (b : Bool) → x.suspended ≡ b
        → P (record { state = released_state b g.state t y; lines = g.lines ++ line.Gets x.processor t reply ∷ [] })
    by_order true e =
        go (changed (Moves Out t y) g) (Says (line.Gets x.processor t reply ∷ []))
        (go g (Moves Out t y) h (record {
          there = l;
          fine = fine;
          placed = ap (λ (b : Bool). not b || false) e;
          waits = λ e. off e;
        }))
        (said g.state.tasks t y refl l)
    by_order false e =
        go (changed (Moves ToEnd t y) g) (Says (line.Gets x.processor t reply ∷ []))
        (go g (Moves ToEnd t y) h (record {
          there = l;
          fine = fine;
          placed = ap (λ (b : Bool). not b || false) e;
          waits = λ e. off e;
        }))
        (said g.state.tasks t y refl l)

  pub walk-comes : (clears : Bool) (f bits : ℕ) (ts : List ℕ) (g : Progress) → P g → P (walk clears f bits ts g)
  walk-comes clears f bits [] g h = h
  walk-comes clears f bits (t ∷ ts) g h =
      let x = task_at g.state.tasks t in
      by_test (is_satisfied x.phase bits) refl clears (λ i k. walk-comes clears f bits ts i k) where
        freed : is_satisfied (task_at g.state.tasks t).phase bits ≡ true
            → P (released g t (task_at g.state.tasks t) (given (pos bits)))
        freed e =
            released-comes g t (task_at g.state.tasks t) (given (pos bits)) h
            (there g.state.tasks t (waits-on (task_at g.state.tasks t).phase
            (satisfied-waits (task_at g.state.tasks t).phase bits e)))

        by_test : (b : Bool) → is_satisfied (task_at g.state.tasks t).phase bits ≡ b → (c : Bool)
            → ((i : Progress) → P i → P (walk clears f bits ts i))
            → P (walked b c f g (released g t (task_at g.state.tasks t) (given (pos bits)))
            (λ z. walk clears f bits ts z))
        by_test false e c rest = rest g h
        by_test true e false rest = rest _ (freed e)
        by_test true e true rest = go _ (Pattern f 0) (freed e) tt
