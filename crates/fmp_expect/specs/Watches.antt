-- What is kept of expectations while a run goes on.
use Rattle.std.specs.Prelude.{ℕ, ◌≡◌, List, [], ◌∷◌, Option, None, Bool, ◌&&◌, ◌||◌, ◌++◌, if◌then◌else◌, map, not}
use Rattle.fmp_base.specs.declared.events.Line.{Line}
use Rattle.fmp_base.specs.declared.events.TaskState.{TaskState}
use Rattle.fmp_monitors.specs.Meaning.{Seen, OfLine, by_line, has_come}
use Rattle.fmp_monitors.specs.Monitors.{has_premise, is_broken_by, is_premise, next_standing, standing_of}
use Rattle.fmp_expect.specs.declared.checker.BrokenExpectation.{BrokenExpectation}
use Rattle.fmp_expect.specs.declared.checker.Watch.{Watch}
use Rattle.fmp_expect.specs.declared.expectation.Expected.{Expected}
use Rattle.fmp_expect.specs.Parts.{or_else}
use Rattle.fmp_expect.specs.Meaning.{Told, breaks_at_end, broken_at, failure, if_broken, seen_in}

-- an expectation after this was shown
abbrev pub watch_of : List Told → Expected → Watch
watch_of told x =
    record {
      expected = x;
      standing = standing_of x.sentence (seen_in told);
      failed = failure x.sentence told;
      came = has_come (is_premise x.sentence) (seen_in told);
    }

-- these are expectations after this was shown
abbrev pub AreTold : List Expected → List Told → List Watch → Type 0
AreTold xs told ws = ws ≡ map (watch_of told) xs

-- the event in which an expectation failed, where event n may break it
abbrev pub failed_by : Option ℕ → (broken : Bool) → (n : ℕ) → Option ℕ
failed_by failed broken n = or_else failed (if_broken broken n)

-- an expectation after one more thing is shown in event n
abbrev pub next_watch : (n : ℕ) → Seen → Watch → Watch
next_watch n x w =
    let e = w.expected.sentence in
    record {
      expected = w.expected;
      standing = next_standing e w.standing x;
      failed = failed_by w.failed (is_broken_by e w.standing x) n;
      came = by_line (is_premise e) x || w.came;
    }

-- expectations after the lines of event n
abbrev pub next_watches : (n : ℕ) → List Line → List Watch → List Watch
next_watches n [] ws = ws
next_watches n (l ∷ ls) ws = next_watches n ls (map (next_watch n (OfLine l)) ws)

abbrev pub watch_outcome : Watch → List TaskState → (n : ℕ) → Option ℕ
watch_outcome w states n = failed_by w.failed (breaks_at_end w.expected.sentence states) n

abbrev pub first_failed : List Watch → List TaskState → (n : ℕ) → Option BrokenExpectation
first_failed [] states n = None
first_failed (w ∷ ws) states n = broken_at w.expected (watch_outcome w states n) (first_failed ws states n)

abbrev pub is_empty : Watch → Bool
is_empty w = has_premise w.expected.sentence && not w.came

abbrev pub empty_line : Watch → List ℕ
empty_line w = if is_empty w then w.expected.line ∷ [] else []

abbrev pub lines_of_empty : List Watch → List ℕ
lines_of_empty [] = []
lines_of_empty (w ∷ ws) = empty_line w ++ lines_of_empty ws
