-- Monitors do not look at the number of the clock.
use Rattle.std.proofs.Common.{◌≡◌, ◌∙◌, ℕ, Option, Some, None, Bool, ◌&&◌, ◌||◌, not, ap, refl}
use Rattle.fmp_base.specs.declared.events.Line.{Line}
use Rattle.fmp_base.specs.declared.events.Line.TheVariants as line
use Rattle.fmp_bisimulation.specs.Closed.{timeless}
use Rattle.fmp_monitors.specs.declared.happening.ExpectedResponse.{ExpectedResponse}
use Rattle.fmp_monitors.specs.declared.happening.ExpectedResponse.TheVariants as response
use Rattle.fmp_monitors.specs.declared.happening.ExpectedTrigger.{ExpectedTrigger}
use Rattle.fmp_monitors.specs.declared.happening.ExpectedTrigger.TheVariants as trigger
use Rattle.fmp_monitors.specs.declared.happening.Happening.{Happening}
use Rattle.fmp_monitors.specs.declared.sentence.Sentence.{Sentence}
use Rattle.fmp_monitors.specs.declared.sentence.Sentence.TheVariants as sentence
use Rattle.fmp_monitors.specs.declared.standing.Standing.{Standing}
use Rattle.fmp_monitors.specs.Happenings.{answers, asks, is_tick, staying, tells_any}
use Rattle.fmp_monitors.specs.Monitors.{breaks_by_line, held_if, inside, inside_of, is_held, next_by_line}
use Rattle.fmp_monitors.specs.Monitors.{next_wait}

any_tick : (b : Option Happening) (m n : ℕ) → tells_any b (line.Tick m) ≡ tells_any b (line.Tick n)
any_tick None m n = refl
any_tick (Some h) m n = refl

answers_tick : (r : ExpectedResponse) (m n : ℕ) → answers r (line.Tick m) ≡ answers r (line.Tick n)
answers_tick (response.Runs a) m n = refl
answers_tick (response.Happens h) m n = refl

asks_tick : (t : ExpectedTrigger) (m n : ℕ) → asks t (line.Tick m) ≡ asks t (line.Tick n)
asks_tick (trigger.Interrupt i) m n = refl
asks_tick (trigger.Happens h) m n = refl

staying_tick : (b : Happening) (o : Option ℕ) (m n : ℕ) → staying b o (line.Tick m) ≡ staying b o (line.Tick n)
staying_tick b None m n = refl
staying_tick b (Some t) m n = refl

next_tick : (e : Sentence) (s : Standing) (m n : ℕ)
    → next_by_line e s (line.Tick m) ≡ next_by_line e s (line.Tick n)
next_tick (sentence.Never h) s m n = refl
next_tick (sentence.Before a b) s m n = refl
next_tick (sentence.NeverAfter h a b) s m n = ap (λ c. held_if (not c && is_held s)) (any_tick b m n)
next_tick (sentence.Within r k t) s m n =
    ap (λ a. next_wait a (asks t (line.Tick m)) (is_tick (line.Tick m)) k s) (answers_tick r m n)
    ∙ ap (λ a. next_wait (answers r (line.Tick n)) a (is_tick (line.Tick m)) k s) (asks_tick t m n)
next_tick (sentence.OneAtATime a b) s m n = ap inside_of (staying_tick b (inside s) m n)
next_tick (sentence.Always c) s m n = refl
next_tick (sentence.Rests t) s m n = refl
next_tick (sentence.End w t) s m n = refl

breaks_tick : (e : Sentence) (s : Standing) (m n : ℕ)
    → breaks_by_line e s (line.Tick m) ≡ breaks_by_line e s (line.Tick n)
breaks_tick (sentence.Never h) s m n = refl
breaks_tick (sentence.Before a b) s m n = refl
breaks_tick (sentence.NeverAfter h a b) s m n = refl
breaks_tick (sentence.Within r k t) s m n = refl
breaks_tick (sentence.OneAtATime a b) s m n = refl
breaks_tick (sentence.Always c) s m n = refl
breaks_tick (sentence.Rests t) s m n = refl
breaks_tick (sentence.End w t) s m n = refl

pub next_timeless : (e : Sentence) (s : Standing) (l : Line) → next_by_line e s (timeless l) ≡ next_by_line e s l
next_timeless e s (line.Tick clock) = next_tick e s 0 clock
next_timeless e s (line.Int i) = refl
next_timeless e s (line.Call p who made reply) = refl
next_timeless e s (line.End p who) = refl
next_timeless e s (line.Fault p who told) = refl
next_timeless e s (line.Gets p t reply) = refl
next_timeless e s (line.Starts p t) = refl
next_timeless e s (line.Pends p c) = refl
next_timeless e s (line.Begins p h) = refl
next_timeless e s (line.Runs p t) = refl

pub breaks_timeless : (e : Sentence) (s : Standing) (l : Line)
    → breaks_by_line e s (timeless l) ≡ breaks_by_line e s l
breaks_timeless e s (line.Tick clock) = breaks_tick e s 0 clock
breaks_timeless e s (line.Int i) = refl
breaks_timeless e s (line.Call p who made reply) = refl
breaks_timeless e s (line.End p who) = refl
breaks_timeless e s (line.Fault p who told) = refl
breaks_timeless e s (line.Gets p t reply) = refl
breaks_timeless e s (line.Starts p t) = refl
breaks_timeless e s (line.Pends p c) = refl
breaks_timeless e s (line.Begins p h) = refl
breaks_timeless e s (line.Runs p t) = refl
