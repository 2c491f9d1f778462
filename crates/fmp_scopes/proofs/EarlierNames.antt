-- A name stands among the first ones of a list if its first place is one of theirs.
use Rattle.std.proofs.Common.{◌≡◌, ℕ, zero, suc, ◌+◌, Bool, true, false, cond, List, [], ◌∷◌, Option, Some, None, take}
use Rattle.std.proofs.Common.{map, refl, sym, ap, ◌∙◌, arith, ⊎_elim}
use Rattle.std.specs.Prelude.{is_some, nat_lt}
use Rattle.std.specs.Str.{bytes_eq}
use Rattle.std.proofs.lemmas.Bool.{cases_lt, le-ltb, lt-ltb}
use Rattle.std.proofs.lemmas.List.{take-map}
use Rattle.fmp_base.specs.declared.names.Name.{Name}
use Rattle.fmp_base.specs.Names.{name_text}
use Rattle.fmp_tasklang.specs.declared.trees.Declaration.{Declaration}
use Rattle.fmp_tasklang.specs.Scopes.{place_of}
use Rattle.fmp_scopes.proofs.Positions.{raised, place_of-cons}

-- whether a place is one of the first ones
abbrev pub is_before : Option ℕ → ℕ → Bool
is_before None at = false
is_before (Some place) at = nat_lt place at

none-first : (o : Option ℕ) → false ≡ is_before o 0
none-first None = refl
none-first (Some k) = sym (le-ltb k 0 (omega arith))

raised-some : (o : Option ℕ) → is_some (raised o) ≡ is_some o
raised-some None = refl
raised-some (Some k) = refl

raised-before : (o : Option ℕ) (at : ℕ) → is_before (raised o) (suc at) ≡ is_before o at
raised-before None at = refl
raised-before (Some k) at =
    ⊎_elim
    (λ lt. lt-ltb (k + 1) (suc at) (omega (arith, lt)) ∙ sym (lt-ltb k at lt))
    (λ le. le-ltb (k + 1) (suc at) (omega (arith, le)) ∙ sym (le-ltb k at le))
    (cases_lt k at)

one-more :
    (here : Bool) (first all : Option ℕ) (at : ℕ) → is_some first ≡ is_before all at →
    is_some (cond here (Some 0) (raised first)) ≡ is_before (cond here (Some 0) (raised all)) (suc at)
one-more true first all at h = sym (lt-ltb 0 (suc at) (omega arith))
one-more false first all at h = raised-some first ∙ h ∙ sym (raised-before all at)

among-first :
    (text : List ℕ) (ns : List Name) (at : ℕ) → is_some (place_of text (take at ns)) ≡ is_before (place_of text ns) at
among-first text [] zero = refl
among-first text [] (suc at) = refl
among-first text (n ∷ ns) zero = none-first (place_of text (n ∷ ns))
among-first text (n ∷ ns) (suc at) =
    ap is_some (place_of-cons text n (take at ns))
    ∙ one-more (bytes_eq text (name_text n)) (place_of text (take at ns)) (place_of text ns) at (among-first text ns at)
    ∙ sym (ap (λ o. is_before o (suc at)) (place_of-cons text n ns))

abbrev pub declared : List Declaration → List Name
declared vars = map (λ d. d.name.name) vars

pub named-before :
    (text : List ℕ) (vars : List Declaration) (at : ℕ) (place : Option ℕ) → place ≡ place_of text (declared vars) →
    is_before place at ≡ is_some (place_of text (declared (take at vars)))
named-before text vars at place is =
    ap (λ o. is_before o at) is ∙ sym (among-first text (declared vars) at)
    ∙ ap (λ ns. is_some (place_of text ns)) (take-map (λ (d : Declaration). d.name.name) at vars)
