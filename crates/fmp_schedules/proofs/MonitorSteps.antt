-- A monitor after one more line.
use Rattle.std.proofs.Common.{◌≡◌, ◌+◌, ◌<◌, ◌∙◌, ℕ, List, [], ◌∷◌, ◌++◌, Option, None, Bool, true, false, ◌||◌, ap}
use Rattle.std.proofs.Common.{get_or, is_some, length, refl, sym, take}
use Rattle.std.proofs.lemmas.List.{take_more}
use Rattle.fmp_base.specs.declared.events.Line.{Line}
use Rattle.fmp_monitors.specs.declared.standing.Standing.{Standing}
use Rattle.fmp_schedules.specs.declared.monitor.Monitor.{Monitor}
use Rattle.fmp_schedules.specs.Monitors.{is_broken, breaks, monitor_after, monitor_on}

at-end : (b : Bool) → (b || false) ≡ (false || b)
at-end true = refl
at-end false = refl

regroup : (a b c : Bool) → (a || (b || c)) ≡ ((a || b) || c)
regroup true b c = refl
regroup false b c = refl

pub monitor_push : (s : Monitor) (ls : List Line) (l : Line)
    → monitor_after s (ls ++ l ∷ []) ≡ monitor_on (monitor_after s ls) l
monitor_push s [] l = refl
monitor_push s (m ∷ ls) l = monitor_push (monitor_on s m) ls l

-- a line that does not break the sentence
pub unbroken : (s : Monitor) (l : Line) (ls : List Line) (broken : Option Standing)
    → is_some broken ≡ breaks s l → broken ≡ None
    → is_broken (monitor_on s l) ls ≡ is_broken s (l ∷ ls)
unbroken s l ls broken same none =
    ap (λ (b : Bool). b || is_broken (monitor_on s l) ls) (sym (ap (λ (o : Option Standing). is_some o) none) ∙ same)

-- the monitor after one more of these lines
pub monitor_step : (first s r : Monitor) (ls : List Line) (i : ℕ) (d : Line) → i < length ls
    → r ≡ monitor_on s (get_or ls i d) → s ≡ monitor_after first (take i ls)
    → r ≡ monitor_after first (take (i + 1) ls)
monitor_step first s r ls i d low on is =
    on ∙ ap (λ (x : Monitor). monitor_on x (get_or ls i d)) is
    ∙ sym (ap (λ (xs : List Line). monitor_after first xs) (take_more ls i d low)
    ∙ monitor_push first (take i ls) (get_or ls i d))

broken_push : (s : Monitor) (ls : List Line) (l : Line)
    → is_broken s (ls ++ l ∷ []) ≡ (is_broken s ls || breaks (monitor_after s ls) l)
broken_push s [] l = at-end (breaks s l)
broken_push s (m ∷ ls) l =
    ap (λ (b : Bool). breaks s m || b) (broken_push (monitor_on s m) ls l)
    ∙ regroup (breaks s m) (is_broken (monitor_on s m) ls) (breaks (monitor_after (monitor_on s m) ls) l)

-- one more of these lines does not break the sentence
pub unbroken_step : (first s : Monitor) (ls : List Line) (i : ℕ) (d : Line) (broken : Option Standing) → i < length ls
    → s ≡ monitor_after first (take i ls) → is_some broken ≡ breaks s (get_or ls i d) → broken ≡ None
    → is_broken first (take i ls) ≡ false → is_broken first (take (i + 1) ls) ≡ false
unbroken_step first s ls i d broken low is same none was =
    let l : Line = get_or ls i d in
    let holds : breaks s l ≡ false = sym same ∙ ap (λ (o : Option Standing). is_some o) none in
    ap (λ (xs : List Line). is_broken first xs) (take_more ls i d low)
    ∙ broken_push first (take i ls) l
    ∙ ap (λ (b : Bool). b || breaks (monitor_after first (take i ls)) l) was
    ∙ ap (λ (m : Monitor). breaks m l) (sym is)
    ∙ holds
