-- What a run that keeps the places of long stretches finishes, in the words of the texts.
use Rattle.std.specs.Prelude.{ℕ, ◌+◌, ◌*◌, ◌≤◌, ◌≡◌, refl, true, List, length, take, Some, None}
use Rattle.std.proofs.Common.{sym, ◌∙◌, arith}
use Rattle.fmp_base.specs.declared.events.Effect.{Effect}
use Rattle.fmp_base.specs.declared.events.Event.{Event}
use Rattle.fmp_base.specs.KeptTimes.{KeptTimes, counted, OnceMore, AtCall, After, counted_begins, counted_keeps}
use Rattle.fmp_base.specs.KeptTimes.{nothing_text}
use Rattle.fmp_base.specs.CountedRuns.{Same, keeps_same, plainly}
use Rattle.fmp_base.specs.Finishes.{Finishes, IsComplete}
use Rattle.fmp_base.specs.FinishLaws.{finished-like, done_events-first, IsComplete-agrees}
use Rattle.fmp_base.specs.KeptTies.{Handed, Follows}
use Rattle.fmp_base.specs.Meanings.{Meaning}
use Rattle.fmp_base.specs.NothingLaws.{step-nothing}
use Rattle.fmp_base.specs.Runs.{Trace, run, done_events, effects, complete_run}
use Rattle.fmp_base.specs.Setups.{setup}
use Rattle.fmp_base.specs.Stretches.{Ending, is_over}
use Rattle.fmp_base.specs.Stretches as ends
use Rattle.fmp_base.specs.Systems.{SystemTables}
use Rattle.fmp_base.specs.TieLaws.{setup-tied, setup_run-tied}
use Rattle.fmp_base.specs.Ties.{StretchTied, over, kept, call, end_, fault, Any, KeepsTie}

-- What a run after setup over these events, which answers this to each of them, finishes where each stretch of at most
-- n units keeps its place: with q events, these are a complete run of their own at n * q turns. An event that is
-- answered Nothing does nothing at its place at any number of turns; one that is answered Kept keeps its actor's place
-- once more. Where the meaning completes the first k events of the list within t turns, (t + 1) * size up to n, these
-- are the first k that are finished.
pub record IsFinished {C : Type 0} (sys : SystemTables) (M : Meaning C) (n size : ℕ) (es : List Event)
    (xs : List Effect) (ds : List Event) (r : Trace C) : Type 0 where
  pub counted_trace : Trace (KeptTimes C)
  pub each : Finishes sys (counted M) (OnceMore M n size) (n * length es) (setup sys (counted M)).world es xs ds
      counted_trace
  pub complete : complete_run sys M (n * length es) (setup sys M).world ds ≡ Some r
  pub first : (k t : ℕ) → (t + 1) * size ≤ n → IsComplete (complete_run sys M t (setup sys M).world (take k es))
      → take k ds ≡ take k es

-- what the run of a machine finishes, with the same lines and the same state at the end
pub record FinishedAs {C D : Type 0} (sys : SystemTables) (M : Meaning D) (n size : ℕ) (es : List Event)
    (xs : List Effect) (ds : List Event) (s : Trace C) : Type 0 where
  pub trace : Trace D
  pub finished : IsFinished sys M n size es xs ds trace
  pub events : trace.events ≡ s.events
  pub state : trace.world.state ≡ s.world.state

module _ {C D : Type 0} (sys : SystemTables) (R S : ℕ → C → D → Type 0) (N : Meaning C) (M : Meaning D) (size : ℕ)
    (f : Follows R S N M size) (n : ℕ) (one : 1 ≤ n) where
  -- the tie of a start and of a call, seen from the other side
  abbrev pub Turned : ℕ → D → C → Type 0
  Turned body d c = R body c d

  abbrev pub NoWay : ℕ → C → C → Type 0
  NoWay body c e = ⊥

  -- what never hands over a context keeps no place
  ended_back : (body : ℕ) (K : D → Type 0) (y : Ending D) (x : Ending C) → (is_over y ≡ true → y ≡ ends.Over None)
      → StretchTied (λ d c. R body c d) (λ d c. S body c d) Handed y x
      → StretchTied (λ d c. R body c d) Any K y x
  ended_back body K _ _ e (over x) = over x
  ended_back body K _ _ e (kept d x h) = absurd (cc (e refl))
  ended_back body K _ _ e (call d c made h) = call d c made h
  ended_back body K _ _ e (end_ d c h) = end_ d c tt
  ended_back body K _ _ e (fault d c w h) = fault d c w tt

  keeps_back : (t : ℕ) → (t + 1) * size ≤ n → KeepsTie Turned Turned Turned NoWay M t N n
  keeps_back t le =
      record {
        grows = λ body d c h. h;
        starts = λ body exinf. f.starts body exinf;
        delivers = λ body d c reply h. f.delivers body c d reply h;
        stretches = λ body d c h.
            ended_back body (λ k. (e : C) × NoWay body c e × Turned body k e) (M.stretch body t d) (N.stretch body n c)
            (λ o. f.text_over body t d o) (f.back body t n c d one le h);
      }

  -- what the text completes within few enough turns is done without a place being kept
  pub first_done : (es : List Event) (k t : ℕ) → (t + 1) * size ≤ n
      → IsComplete (complete_run sys M t (setup sys M).world (take k es))
      → take k (done_events sys N n (setup sys N).world es) ≡ take k es
  first_done es k t le h =
      done_events-first sys N n (setup sys N).world es k
      (IsComplete-agrees (complete_run sys M t (setup sys M).world (take k es))
      (complete_run sys N n (setup sys N).world (take k es))
      (setup_run-tied sys Turned M t N n (keeps_back t le) (take k es)) h)

-- bodies that follow others finish the same from setup on
pub kept_run : {C D : Type 0} (sys : SystemTables) (R S : ℕ → C → D → Type 0) (N : Meaning C) (M : Meaning D) (size : ℕ)
    → Follows R S N M size → (n : ℕ) → 1 ≤ n → (es : List Event)
    → FinishedAs sys M n size es (effects sys N n (setup sys N).world es)
    (done_events sys N n (setup sys N).world es) (run sys N n (setup sys N).world es)
kept_run sys R S N M size f n one es =
    let q = length es in
    let t = n * q in
    let l = finished-like sys (AtCall R S N M size f n q one) (After R S N M size f n q one) (counted M) t N n q
    (OnceMore M n size) (counted_keeps R S N M size f n q one)
    (λ i w v e lt h nothing turns. step-nothing sys (AtCall R S N M size f n q one) (After R S N M size f n q one i)
    N n (counted M) turns (nothing_text R S N M size f n q one i turns) w v e h nothing)
    0 (setup sys N).world (setup sys (counted M)).world es (omega arith)
    (setup-tied sys (After R S N M size f n q one 0) N n (counted M) t (counted_begins R S N M size f n q one)).1 in
    let p = plainly sys M n size t (setup sys (counted M)).world es (effects sys N n (setup sys N).world es)
    (done_events sys N n (setup sys N).world es) l.trace l.finishes (setup sys M).world
    (setup-tied sys (Same sys M n size t) (counted M) t M t (keeps_same sys M n size t)).1 in
    record {
      trace = p.trace;
      finished = record {
        counted_trace = l.trace;
        each = l.finishes;
        complete = p.complete;
        first = first_done sys R S N M size f n one es;
      };
      events = sym p.events ∙ l.events;
      state = sym p.state ∙ l.state;
    }
