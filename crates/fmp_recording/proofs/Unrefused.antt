-- What stands in a recording of a system is refused by no new kernel of it.
use Rattle.std.proofs.Common.{◌≡◌, ◌∙◌, ◌+◌, ◌<◌, ◌≤◌, ◌^◌, ℕ, ℤ, pos, negsuc, List, [], ◌∷◌, Option, Some, None}
use Rattle.std.proofs.Common.{Result, Ok, Err, Bool, true, false, cond, length, nat_le, ap, arith, refl, subst}
use Rattle.std.proofs.lemmas.Bool.{leb-true, lt-ltb}
use Rattle.std.specs.List.{AllByRecursion}
use Rattle.std.specs.Str.{bytes_eq}
use Rattle.std.specs.Prelude.{codes}
use Rattle.fmp_base.specs.declared.systems.System.{System}
use Rattle.fmp_base.specs.Steps.{Reaction, Nothing, Did, Kept}
use Rattle.fmp_base.specs.Systems.{tables_of}
use Rattle.fmp_foreign.specs.declared.foreign.LastTold.{LastTold}
use Rattle.fmp_foreign.specs.declared.requests.Refusal.{Refusal}
use Rattle.fmp_foreign.specs.declared.requests.Refusal.TheVariants as refusal
use Rattle.fmp_foreign.specs.Hosting.{ForeignKernel, is_number, reaction, refused, refused_number}
use Rattle.fmp_kernel.specs.KernelViews.{view_after}
use Rattle.fmp_kernel.specs.Restarts.{counts_restarted}
use Rattle.fmp_outside.specs.declared.given.Act.{Act}
use Rattle.fmp_outside.specs.declared.given.Given.{Given}
use Rattle.fmp_outside.specs.declared.given.Given.TheVariants as given
use Rattle.fmp_recording.specs.declared.faults.RecordingFlaw.{RecordingFlaw}
use Rattle.fmp_recording.specs.declared.faults.RecordingFlaw.TheVariants as flaw
use Rattle.fmp_recording.specs.declared.faults.RecordingFault.{RecordingFault}
use Rattle.fmp_recording.specs.declared.faults.RecordingFault.TheVariants as recording_fault
use Rattle.fmp_recording.specs.declared.recorded.RecordedLine.{RecordedLine}
use Rattle.fmp_recording.specs.declared.recorded.RecordedLine.TheVariants as recorded
use Rattle.fmp_recording.specs.Recordings.{act_in, came_by, cut, fault_at, given_act, given_int, given_in, in_front}
use Rattle.fmp_recording.specs.Recordings.{int_in, is_restart, line_meaning, said_before, time_after, time_position}
use Rattle.fmp_recording.specs.Recordings.{with_time, number_of, number_up_to, recorded_at, recorded_from, recorded_in}
use Rattle.fmp_recording.specs.Recordings.{recorded_of, run_in, tick_in}
use Rattle.fmp_recording.specs.Replaying.{first_refusal, new_kernel, or_else}
use Rattle.fmp_trace.specs.Steps.{lines_of}

-- its numbers are those of a system with this number of processors
abbrev Fits : (processors : ℕ) → Given → Type 0
Fits processors (given.Act p a) = is_number processors p ≡ true
Fits processors given.Tick = Unit {0}
Fits processors (given.Int i) = is_number 32 i ≡ true

by_test : (most m n : ℕ) (t : Bool) → is_number most m ≡ t → ◌≡◌ {A = Result ℕ RecordingFlaw}
    (cond t (Ok m) (Err flaw.Range)) (Ok n)
    → is_number most n ≡ true
by_test most m n true h e = let same : m ≡ n = cc in subst (λ (x : ℕ). is_number most x ≡ true) same h
by_test most m n false h e = cc

number_fits : (most : ℕ) (o : Option ℤ) (n : ℕ) → number_up_to most o ≡ Ok n → is_number most n ≡ true
number_fits most None n e = cc
number_fits most (Some (negsuc m)) n e = cc
number_fits most (Some (pos m)) n e = by_test most m n (is_number most m) refl e

act_fits : (processors : ℕ) (r : Result ℕ RecordingFlaw) (o : Option Act) (g : Given)
    → ((n : ℕ) → r ≡ Ok n → is_number processors n ≡ true) → given_act r o ≡ Ok g → Fits processors g
act_fits processors (Err f) o g h e = absurd cc
act_fits processors (Ok p) None g h e = absurd cc
act_fits processors (Ok p) (Some a) g h e =
    let same : given.Act p a ≡ g = cc in subst (λ (x : Given). Fits processors x) same (h p refl)

int_fits : (processors : ℕ) (r : Result ℕ RecordingFlaw) (g : Given) → ((n : ℕ) → r ≡ Ok n → is_number 32 n ≡ true)
    → given_int r ≡ Ok g → Fits processors g
int_fits processors (Err f) g h e = absurd cc
int_fits processors (Ok i) g h e =
    let same : given.Int i ≡ g = cc in subst (λ (x : Given). Fits processors x) same (h i refl)

after_run : (processors : ℕ) (rest : List ℕ) (g : Given) → run_in processors rest ≡ Ok g → Fits processors g
after_run processors [] g e = absurd cc
after_run processors (b ∷ bs) g e =
    act_fits processors (number_up_to processors (number_of (cut bs).word)) (act_in (cut bs).rest) g
    (λ n h. number_fits processors (number_of (cut bs).word) n h) e

after_int : (processors : ℕ) (rest : List ℕ) (g : Given) → int_in rest ≡ Ok g → Fits processors g
after_int processors [] g e = absurd cc
after_int processors (b ∷ bs) g e =
    int_fits processors (number_up_to 32 (number_of bs)) g (λ n h. number_fits 32 (number_of bs) n h) e

after_tick : (processors : ℕ) (rest : List ℕ) (g : Given) → tick_in rest ≡ Ok g → Fits processors g
after_tick processors [] g e = let same : given.Tick ≡ g = cc in subst (λ (x : Given). Fits processors x) same tt
after_tick processors (b ∷ bs) g e = absurd cc

by_word : (processors : ℕ) (rest : List ℕ) (g : Given) (run int tick : Bool)
    → cond run (run_in processors rest) (cond int (int_in rest) (cond tick (tick_in rest) (Err flaw.Form))) ≡ Ok g
    → Fits processors g
by_word processors rest g true int tick e = after_run processors rest g e
by_word processors rest g false true tick e = after_int processors rest g e
by_word processors rest g false false true e = after_tick processors rest g e
by_word processors rest g false false false e = absurd cc

text_fits : (processors : ℕ) (line : List ℕ) (g : Given) → given_in processors line ≡ Ok g → Fits processors g
text_fits processors line g e =
    by_word processors (cut line).rest g (bytes_eq (cut line).word (codes "run"))
    (bytes_eq (cut line).word (codes "int"))
    (bytes_eq (cut line).word (codes "tick")) e

without_its_time : (r : Result Given RecordingFlaw) (t : Result (Option ℕ) RecordingFlaw) (g : Given) → with_time r t
    ≡ Ok g → r ≡ Ok g
without_its_time (Err f) t g e = absurd cc
without_its_time (Ok h) (Err f) g e = absurd cc
without_its_time (Ok h) (Ok t) g e = e

line_fits : (processors : ℕ) (line : List ℕ) (g : Given) → line_meaning processors line ≡ Ok g → Fits processors g
line_fits processors line g e =
    let said = said_before (time_position line) line in
    text_fits processors said g (without_its_time (given_in processors said) (time_after (time_position line) line) g e)

abbrev LineFits : (processors : ℕ) → RecordedLine → Type 0
LineFits processors (recorded.Came g) = Fits processors g
LineFits processors recorded.Restart = Unit {0}

came_fits : (processors : ℕ) (m : Result Given RecordingFlaw) (r : RecordedLine)
    → ((g : Given) → m ≡ Ok g → Fits processors g)
    → came_by m ≡ Ok r → LineFits processors r
came_fits processors (Err f) r h e = absurd cc
came_fits processors (Ok g) r h e =
    let same : recorded.Came g ≡ r = cc in subst (λ (x : RecordedLine). LineFits processors x) same (h g refl)

by_restart : (processors : ℕ) (line : List ℕ) (r : RecordedLine) (t : Bool)
    → cond t (Ok recorded.Restart) (came_by (line_meaning processors line)) ≡ Ok r → LineFits processors r
by_restart processors line r true e =
    let same : recorded.Restart ≡ r = cc in subst (λ (x : RecordedLine). LineFits processors x) same tt
by_restart processors line r false e =
    came_fits processors (line_meaning processors line) r (λ g h. line_fits processors line g h) e

unfaulty : (n : ℕ) (m : Result RecordedLine RecordingFlaw) (r : RecordedLine) → fault_at n m ≡ Ok r → m ≡ Ok r
unfaulty n (Ok h) r e = cc
unfaulty n (Err flaw.Form) r e = cc
unfaulty n (Err flaw.Range) r e = cc

record IsLine (processors n : ℕ) (r : RecordedLine) : Type 0 where
  few : n ≤ 2 ^ 31
  fits : LineFits processors r

numbered : (processors n : ℕ) (line : List ℕ) (r : RecordedLine) (t : Bool) → nat_le n (2 ^ 31) ≡ t
    → cond t (fault_at n (recorded_in processors line)) (Err (recording_fault.TooMany n)) ≡ Ok r → IsLine processors n r
numbered processors n line r true h e =
    record {
      few = leb-true n (2 ^ 31) h;
      fits = by_restart processors line r (is_restart line) (unfaulty n (recorded_in processors line) r e);
    }
numbered processors n line r false h e = absurd cc

record AreLines (processors n : ℕ) (rs : List RecordedLine) : Type 0 where
  few : n + length rs ≤ 2 ^ 31 + 1
  fit : AllByRecursion (LineFits processors) rs

lined_up : (processors n : ℕ) (line : List ℕ) (r : Result RecordedLine RecordingFault)
    (s : Result (List RecordedLine) RecordingFault) (rs : List RecordedLine) → recorded_at processors n line ≡ r
    → ((ss : List RecordedLine) → n ≤ 2 ^ 31 → s ≡ Ok ss → AreLines processors (n + 1) ss) → in_front r s ≡ Ok rs
    → AreLines processors n rs
lined_up processors n line (Err f) s rs q rest e = absurd cc
lined_up processors n line (Ok r) (Err f) rs q rest e = absurd cc
lined_up processors n line (Ok r) (Ok ss) rs q rest e =
    let same : r ∷ ss ≡ rs = cc in
    let first = numbered processors n line r (nat_le n (2 ^ 31)) refl q in
    let others = rest ss first.few refl in
    let few = others.few in
    subst (λ (xs : List RecordedLine). AreLines processors n xs) same
    (record { few = omega (arith, few); fit = (first.fits, others.fit) })

recorded_fit : (processors n : ℕ) (lines : List (List ℕ)) (rs : List RecordedLine) → n ≤ 2 ^ 31 + 1
    → recorded_from processors n lines ≡ Ok rs → AreLines processors n rs
recorded_fit processors n [] rs few e =
    let none : [] ≡ rs = cc in
    subst (λ (xs : List RecordedLine). AreLines processors n xs) none (record { few = omega (arith, few); fit = tt })
recorded_fit processors n (line ∷ lines) rs few e =
    lined_up processors n line (recorded_at processors n line) (recorded_from processors (n + 1) lines) rs refl
    (λ ss low h. recorded_fit processors (n + 1) lines ss (omega (arith, low)) h) e

in_range : (k : ForeignKernel) (g : Given) → Fits k.system.processors g → refused_number k g ≡ None
in_range k (given.Act p a) h = ap (λ (t : Bool). cond t None (Some refusal.Processor)) h
in_range k given.Tick h = refl
in_range k (given.Int i) h = ap (λ (t : Bool). cond t None (Some refusal.Interrupt)) h

not_refused : (k : ForeignKernel) (g : Given) → k.taken < 2 ^ 31 → Fits k.system.processors g → refused k g ≡ None
not_refused k g low h =
    ap (λ (t : Bool). cond t (refused_number k g) (Some refusal.Full)) (lt-ltb k.taken (2 ^ 31) low) ∙ in_range k g h

on_from : (k : ForeignKernel) (rs : List RecordedLine) (r : Reaction LastTold)
    → AllByRecursion (LineFits k.system.processors) rs → k.taken + 1 + length rs ≤ 2 ^ 31
    → ((j : ForeignKernel) → AllByRecursion (LineFits j.system.processors) rs → j.taken + length rs ≤ 2 ^ 31
    → first_refusal j rs ≡ None) → first_refusal (view_after k r) rs ≡ None
on_from k rs Nothing all few rest = rest k all (omega (arith, few))
on_from k rs (Did d) all few rest = rest (view_after k (Did d)) all few
on_from k rs (Kept p w) all few rest = rest (view_after k (Kept p w)) all few

unrefused : (k : ForeignKernel) (rs : List RecordedLine) → AllByRecursion (LineFits k.system.processors) rs
    → k.taken + length rs ≤ 2 ^ 31 → first_refusal k rs ≡ None
unrefused k [] all few = refl
unrefused k (recorded.Came g ∷ rs) all few =
    ap (λ (o : Option Refusal). or_else o (first_refusal (view_after k (reaction k g)) rs))
    (not_refused k g (omega (arith, few)) all.0)
    ∙ on_from k rs (reaction k g) all.1 (omega (arith, few)) (λ j a f. unrefused j rs a f)
unrefused k (recorded.Restart ∷ rs) all few = unrefused (counts_restarted k) rs all.1 (omega (arith, few))

pub never_refused : (system : System) (recording : List ℕ) (rs : List RecordedLine)
    → recorded_of system.processors recording ≡ Ok rs → first_refusal (new_kernel (tables_of system)) rs ≡ None
never_refused system recording rs e =
    let fit = recorded_fit system.processors 1 (lines_of recording) rs (omega arith) e in
    let few = fit.few in
    unrefused (new_kernel (tables_of system)) rs fit.fit (omega (arith, few))
