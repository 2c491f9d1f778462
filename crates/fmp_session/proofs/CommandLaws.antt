-- Lines that say the same.
use Rattle.std.proofs.Common.{ℕ, ◌≡◌, ◌∙◌, ◌+◌, ◌<◌, ◌++◌, Bool, true, false, List, [], ◌∷◌, Option, Some, None, Ok}
use Rattle.std.proofs.Common.{ap, ap₂}
use Rattle.std.proofs.Common.{arith, codes, cond, drop, length, nat_eq, nat_lt, not, refl, suc, sym, true≢false}
use Rattle.std.proofs.Math.Seq.{take-append_seam}
use Rattle.std.proofs.lemmas.Bool.{lt-ltb}
use Rattle.std.proofs.lemmas.List.{length-append}
use Rattle.std.proofs.lemmas.List.Sums.{prefix_len-le-length}
use Rattle.std.specs.List.{prefix_len}
use Rattle.fmp_base.specs.declared.events.Event.{Event}
use Rattle.fmp_session.specs.Commands.{blank_of, by_word, command_of, event_of, number_of, once_or, rest_after}
use Rattle.fmp_session.specs.Commands.{rest_of}
use Rattle.fmp_session.specs.Commands.{run_by, run_of, times_after, word_before, word_of}
use Rattle.fmp_session.specs.declared.command.Command.TheVariants as command
use Rattle.fmp_session.specs.declared.interrupts.NamedInterrupt.{NamedInterrupt}

-- a line of a steps text is its event, once
pub steps_once : (processors : ℕ) (interrupts : List NamedInterrupt) (line : List ℕ) (e : Event)
    → event_of processors line ≡ Some e → command_of processors interrupts line ≡ Ok (command.Take e 1)
steps_once processors interrupts line e is =
    ap (λ (o : Option Event). once_or o (by_word processors interrupts (word_of line) (rest_of line))) is

abbrev is_other : ℕ → Bool
is_other b = not (nat_eq b 32)

-- how many bytes stand before the first blank
abbrev before : List ℕ → ℕ
before text = prefix_len is_other text

before_blank : (text more : List ℕ) → before text ≡ length text → before (text ++ 32 ∷ more) ≡ length text
before_blank [] more all = refl
before_blank (b ∷ bs) more all = go (is_other b) (before_blank bs more) all
  where
    go : (other : Bool) → (before bs ≡ length bs → before (bs ++ 32 ∷ more) ≡ length bs)
        → cond other (1 + before bs) 0 ≡ suc (length bs)
        → cond other (1 + before (bs ++ 32 ∷ more)) 0 ≡ suc (length bs)
    go true rest e =
        let short : before bs ≡ length bs = omega (arith, e) in
        let long = rest short in
        omega (arith, long)
    go false rest e = absurd (omega (arith, e))

no_blank : (text : List ℕ) → blank_of text ≡ None → before text ≡ length text
no_blank text none =
    let few = prefix_len-le-length is_other text in
    let past : nat_lt (before text) (length text) ≡ false = go (nat_lt (before text) (length text)) none in
    let most = not_less (before text) (length text) past in
    omega (arith, few, most)
  where
    go : (less : Bool) → cond less (Some (before text)) None ≡ None → less ≡ false
    go true e = cc
    go false e = refl

    not_less : (a b : ℕ) → nat_lt a b ≡ false → a < b → ⊥
    not_less a b isnt less = absurd (true≢false (sym (lt-ltb a b less) ∙ isnt))

-- the first blank stands after a text that has none
blank_after : (text more : List ℕ) → blank_of text ≡ None → blank_of (text ++ 32 ∷ more) ≡ Some (length text)
blank_after text more none =
    let at = before_blank text more (no_blank text none) in
    let long : length text < length (text ++ 32 ∷ more) = omega (arith, length-append text (32 ∷ more)) in
    ap (λ (n : ℕ). cond (nat_lt n (length (text ++ 32 ∷ more))) (Some n) None) at
    ∙ ap (λ (less : Bool). cond less (Some (length text)) None) (lt-ltb _ _ long)

drop_past : (text more : List ℕ) → drop (length text + 1) (text ++ 32 ∷ more) ≡ more
drop_past [] more = refl
drop_past (b ∷ bs) more =
    let next : suc (length bs) + 1 ≡ suc (length bs + 1) = omega arith in
    ap (λ (n : ℕ). drop n (b ∷ (bs ++ 32 ∷ more))) next ∙ drop_past bs more

-- once is what is meant where nothing is said
pub run_once : (processors : ℕ) (text : List ℕ) → blank_of text ≡ None
    → run_of processors (text ++ codes " x1") ≡ run_of processors text
run_once processors text none =
    let more : List ℕ = codes "x1" in
    let at = blank_after text more none in
    let word : word_of (text ++ 32 ∷ more) ≡ text =
    ap (λ (o : Option ℕ). word_before o (text ++ 32 ∷ more)) at ∙ take-append_seam text (32 ∷ more) in
    let rest : rest_of (text ++ 32 ∷ more) ≡ Some more =
    ap (λ (o : Option ℕ). rest_after o (text ++ 32 ∷ more)) at ∙ ap Some (drop_past text more) in
    let same : word_of text ≡ text = ap (λ (o : Option ℕ). word_before o text) none in
    let alone : rest_of text ≡ None = ap (λ (o : Option ℕ). rest_after o text) none in
    ap₂ (λ (w : List ℕ) (r : Option (List ℕ)). run_by (number_of processors w) (times_after r)) word rest
    ∙ sym (ap₂ (λ (w : List ℕ) (r : Option (List ℕ)). run_by (number_of processors w) (times_after r)) same alone)
