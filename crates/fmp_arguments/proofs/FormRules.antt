-- What an argument's rule keeps where the argument gets rules on other arguments.
use Rattle.std.proofs.Common.{ℕ, ◌≡◌, ◌∙◌, ◌+◌, ◌<◌, ◌&&◌, ◌++◌, [], ◌∷◌, Bool, true, false, List, ap, ap₂, arith}
use Rattle.std.proofs.Common.{length, map, ne_eqb, not, refl, slice_index_or, suc, sym, take}
use Rattle.std.proofs.Math.Seq.{take-suc}
use Rattle.std.proofs.lemmas.List.{map-append}
use Rattle.std.specs.Borrow.{Bor}
use Rattle.clap.specs.Adds.{AddsConflicts}
use Rattle.clap.specs.Walk.{is_empty, is_free_arg}
use Rattle.clap.specs.Words.{App, Rule, Text, rule_of, with_rule}
use Rattle.clap.specs.declared.builder.arg.Arg.{Arg}
use Rattle.fmp_arguments.specs.declared.arguments.Argument.{Argument}
use Rattle.fmp_arguments.specs.Forms.{command, rule_of_argument}

is_more : {A : Type 0} (xs : List A) (x : A) → is_empty (xs ++ x ∷ []) ≡ false
is_more [] x = refl
is_more (y ∷ ys) x = ne_eqb _ _ (λ none. omega arith)

second : (a b rest : Bool) → b ≡ false → a && (b && rest) ≡ false
second true true rest e = cc
second true false rest e = refl
second false b rest e = refl

-- an argument that does not go with another one
pub rule_without : (old new : Arg) (other : Bor Text) → AddsConflicts old new (other ∷ [])
    → rule_of new ≡ record (rule_of old) { is_free = false }
rule_without old new other adds =
    let last : is_empty new.conflicts.items ≡ false =
    ap is_empty adds.1 ∙ is_more old.conflicts.items other in
    ap rule_of adds.0 ∙ ap (λ (free : Bool). record (rule_of old) { is_free = free })
    (second (not old.exclusive) (is_empty new.conflicts.items) _ last)

-- one more argument
pub one_more : (name : Text) (arguments : List Argument) (i : ℕ) (d : Argument) (made grown : App) (rule : Rule)
    → i < length arguments → made ≡ command name (map rule_of_argument (take i arguments))
    → rule ≡ rule_of_argument (slice_index_or arguments i d) → grown ≡ with_rule made rule
    → grown ≡ command name (map rule_of_argument (take (i + 1) arguments))
one_more name arguments i d made grown rule within is same grows =
    let next : i + 1 ≡ suc i = omega arith in
    let taken : map rule_of_argument (take (i + 1) arguments)
    ≡ map rule_of_argument (take i arguments) ++ rule_of_argument (slice_index_or arguments i d) ∷ [] =
    ap (λ (n : ℕ). map rule_of_argument (take n arguments)) next
    ∙ ap (map rule_of_argument) (take-suc arguments i d within)
    ∙ map-append rule_of_argument (take i arguments) (slice_index_or arguments i d ∷ []) in
    grows ∙ ap₂ (λ (a : App) (r : Rule). with_rule a r) is same
    ∙ ap (command name) (sym taken)
