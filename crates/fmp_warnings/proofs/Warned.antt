-- Warnings that are added one after another.
use Rattle.std.proofs.Common.{◌≡◌, ◌∙◌, ◌+◌, ◌<◌, ℕ, List, [], ◌∷◌, ◌++◌, ap, append_assoc, get_or, length, refl, subst}
use Rattle.std.proofs.Common.{sym, take}
use Rattle.std.proofs.lemmas.List.{append-nil, take_more}
use Rattle.fmp_warnings.specs.declared.found.FoundWarnings.{FoundWarnings}
use Rattle.fmp_warnings.specs.declared.found.Warning.{Warning}
use Rattle.fmp_warnings.specs.Warned.{Adds, AddsOne, ArePicked, none, picked, passed}

-- the first n places and the next one
next_place : {X : Type 0} (seen places : List X) (n : ℕ) (d : X) → seen ≡ places → n < length seen
    → take n places ++ get_or seen n d ∷ [] ≡ take (n + 1) places
next_place seen places n d same within =
    ap (λ l. take n places ++ get_or l n d ∷ []) same
    ∙ sym (take_more places n d (subst (λ l. n < length l) same within))

-- of no place
pub adds_nothing : {X : Type 0} (Rule : X → Warning → Type 0) (found : FoundWarnings) → Adds Rule [] found found
adds_nothing Rule found = ([], none, refl, sym (append-nil found.list.items))

-- one place more of which the rule holds
pub adds_warned : {X : Type 0} (Rule : X → Warning → Type 0) (P : Warning → Type 0) (seen places : List X) (n : ℕ)
    (d : X) (old mid new : FoundWarnings) → seen ≡ places → n < length seen → Adds Rule (take n places) old mid
    → AddsOne P mid new → ((w : Warning) → P w → Rule (get_or seen n d) w) → Adds Rule (take (n + 1) places) old new
adds_warned Rule P seen places n d old mid new same within so one holds =
    subst (λ ps. Adds Rule ps old new) (next_place seen places n d same within) (
      so.0 ++ one.0 ∷ [],
      picked (get_or seen n d) one.0 so.1 (holds one.0 one.1),
      one.2 ∙ so.2,
      one.3 ∙ ap (λ l. l ++ one.0 ∷ []) so.3 ∙ append_assoc old.list.items so.0 (one.0 ∷ []),
    )

-- one place more of which it does not hold
pub adds_passed : {X : Type 0} (Rule : X → Warning → Type 0) (seen places : List X) (n : ℕ) (d : X)
    (old mid : FoundWarnings) → seen ≡ places → n < length seen → Adds Rule (take n places) old mid
    → ((w : Warning) → Rule (get_or seen n d) w → ⊥) → Adds Rule (take (n + 1) places) old mid
adds_passed Rule seen places n d old mid same within so none_holds =
    subst (λ ps. Adds Rule ps old mid) (next_place seen places n d same within)
    (so.0, passed (get_or seen n d) so.1 none_holds, so.2, so.3)

-- all that were added to none
pub all_picked : {X : Type 0} (Rule : X → Warning → Type 0) (places : List X) (old new : FoundWarnings)
    → Adds Rule places old new → old.list.items ≡ [] → ArePicked Rule places new.list.items
all_picked Rule places old new so empty =
    subst (λ ws. ArePicked Rule places ws) (sym (so.3 ∙ ap (λ ws. ws ++ so.0) empty)) so.1
