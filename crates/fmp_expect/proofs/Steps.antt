-- What is kept of an expectation is what was shown so far comes to.
use Rattle.std.proofs.Common.{◌≡◌, ◌∙◌, ℕ, List, [], ◌∷◌, Option, Bool, true, false, ◌||◌, ◌++◌, cond, filter, if◌then◌else◌, map}
use Rattle.std.proofs.Common.{refl, ap}
use Rattle.fmp_base.specs.declared.events.Line.{Line}
use Rattle.fmp_base.specs.declared.events.TaskState.{TaskState}
use Rattle.fmp_base.specs.States.{KernelState}
use Rattle.fmp_monitors.specs.declared.standing.Standing.{Standing}
use Rattle.fmp_monitors.specs.Meaning.{OfLine, OfState, by_line, has_come}
use Rattle.fmp_monitors.specs.Monitors.{is_broken_by, is_empty_claim, is_premise, standing_of}
use Rattle.fmp_monitors.proofs.MonitorLaws.{breaks_is, next_is}
use Rattle.fmp_expect.specs.declared.checker.Watch.{Watch}
use Rattle.fmp_expect.specs.declared.expectation.Expected.{Expected}
use Rattle.fmp_expect.specs.Meaning.{Told, broken_at, empty_lines, failure, first_broken, outcome, seen_in, with_lines}
use Rattle.fmp_expect.specs.Meaning.{with_state}
use Rattle.fmp_expect.specs.Watches.{AreTold, failed_by, first_failed, lines_of_empty, next_watch}
use Rattle.fmp_expect.specs.Watches.{next_watches, watch_of}

abbrev watch_with : Expected → Standing → Option ℕ → Bool → Watch
watch_with x s f c = record { expected = x; standing = s; failed = f; came = c }

-- one more thing that is shown
watch_next : (t : Told) (told : List Told) (x : Expected)
    → next_watch t.event t.seen (watch_of told x) ≡ watch_of (t ∷ told) x
watch_next t told x =
    let e = x.sentence in
    let before = seen_in told in
    let came : Bool = by_line (is_premise e) t.seen || has_come (is_premise e) before in
    ap (λ (s : Standing). watch_with x s
    (failed_by (failure e told) (is_broken_by e (standing_of e before) t.seen) t.event) came) (next_is e before t.seen)
    ∙ ap (λ (b : Bool). watch_with x (standing_of e (t.seen ∷ before)) (failed_by (failure e told) b t.event) came)
    (breaks_is e before t.seen)

watch_step : (t : Told) (told : List Told) (xs : List Expected)
    → map (next_watch t.event t.seen) (map (watch_of told) xs) ≡ map (watch_of (t ∷ told)) xs
watch_step t told [] = refl
watch_step t told (x ∷ xs) =
    ap (λ (w : Watch). w ∷ map (next_watch t.event t.seen) (map (watch_of told) xs)) (watch_next t told x)
    ∙ ap (λ (ws : List Watch). watch_of (t ∷ told) x ∷ ws) (watch_step t told xs)

-- the lines of an event
pub told_more : (n : ℕ) (ls : List Line) (xs : List Expected) (told : List Told) (ws : List Watch) → AreTold xs told ws
    → next_watches n ls ws ≡ map (watch_of (with_lines n ls told)) xs
told_more n [] xs told ws are = are
told_more n (l ∷ ls) xs told ws are =
    told_more n ls xs (record { event = n; seen = OfLine l } ∷ told) (map (next_watch n (OfLine l)) ws)
    (ap (map (next_watch n (OfLine l))) are ∙ watch_step (record { event = n; seen = OfLine l }) told xs)

-- the state after an event
pub told_state : (n : ℕ) (s : KernelState) (xs : List Expected) (told : List Told) (ws : List Watch)
    → AreTold xs told ws → map (next_watch n (OfState s)) ws ≡ map (watch_of (with_state n s told)) xs
told_state n s xs told ws are =
    ap (map (next_watch n (OfState s))) are ∙ watch_step (record { event = n; seen = OfState s }) told xs

-- the end
verdict_step : (states : List TaskState) (n : ℕ) (xs : List Expected) (told : List Told)
    → first_failed (map (watch_of told) xs) states n ≡ first_broken xs told states n
verdict_step states n [] told = refl
verdict_step states n (x ∷ xs) told =
    ap (λ others. broken_at x (outcome x.sentence told states n) others) (verdict_step states n xs told)

pub verdict_is : (states : List TaskState) (n : ℕ) (xs : List Expected) (told : List Told) (ws : List Watch)
    → AreTold xs told ws → first_failed ws states n ≡ first_broken xs told states n
verdict_is states n xs told ws are = ap (λ vs. first_failed vs states n) are ∙ verdict_step states n xs told

-- the claims that are empty
empty_one : (b : Bool) (told : List Told) (x : Expected) (xs : List Expected)
    → lines_of_empty (map (watch_of told) xs) ≡ empty_lines xs told
    → (if b then x.line ∷ [] else []) ++ lines_of_empty (map (watch_of told) xs)
    ≡ map (λ (y : Expected). y.line) (cond b (x ∷ filter (λ y. is_empty_claim y.sentence (seen_in told)) xs)
    (filter (λ y. is_empty_claim y.sentence (seen_in told)) xs))
empty_one true told x xs rest = ap (λ (ls : List ℕ). x.line ∷ ls) rest
empty_one false told x xs rest = rest

empty_step : (xs : List Expected) (told : List Told)
    → lines_of_empty (map (watch_of told) xs) ≡ empty_lines xs told
empty_step [] told = refl
empty_step (x ∷ xs) told =
    empty_one (is_empty_claim x.sentence (seen_in told)) told x xs (empty_step xs told)

pub empty_is : (xs : List Expected) (told : List Told) (ws : List Watch) → AreTold xs told ws
    → lines_of_empty ws ≡ empty_lines xs told
empty_is xs told ws are = ap lines_of_empty are ∙ empty_step xs told
