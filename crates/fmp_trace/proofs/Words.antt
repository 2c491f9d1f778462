-- Texts that begin with a word.
use Rattle.std.proofs.Common.{ℕ, ◌≡◌, ◌≢◌, List, [], ◌∷◌, ◌++◌, Bool, true, false, Option, Some, None, MatchOption}
use Rattle.std.proofs.Common.{nat_eq, refl, ap, ◌∙◌}
use Rattle.std.proofs.lemmas.Bool.{eqb-true}
use denote.Ref.{Bor}
use Rattle.std.proofs.Common.{eq-eqb}
use Rattle.fmp_trace.specs.Steps.{behind, if_same}

-- behind a front stands the rest
pub behind-append : (front rest : List ℕ) → behind front (front ++ rest) ≡ Some rest
behind-append [] rest = refl
behind-append (c ∷ cs) rest =
    ap (λ t. if_same t (behind cs (cs ++ rest))) (eq-eqb c c refl) ∙ behind-append cs rest

behind-unlike : (t : Bool) (b c : ℕ) (bs cs : List ℕ) → nat_eq b c ≡ t → ((rest : List ℕ) → (b ∷ bs) ≢ (c ∷ cs) ++ rest)
    → (((rest : List ℕ) → bs ≢ cs ++ rest) → behind cs bs ≡ None) → if_same t (behind cs bs) ≡ None
behind-unlike false b c bs cs e h more = refl
behind-unlike true b c bs cs e h more =
    more (λ rest same. h rest (ap (λ x. x ∷ bs) (eqb-true b c e) ∙ ap (λ xs. c ∷ xs) same))

-- nothing stands behind a front that a text does not begin with
pub behind-none : (front text : List ℕ) → ((rest : List ℕ) → text ≢ front ++ rest) → behind front text ≡ None
behind-none [] text h = absurd (h text refl)
behind-none (c ∷ cs) [] h = refl
behind-none (c ∷ cs) (b ∷ bs) h = behind-unlike (nat_eq b c) b c bs cs refl h (behind-none cs bs)

-- what a call says that strips a front
pub behind_by : (front text : List ℕ) (r : Option (Bor (List ℕ)))
    → MatchOption r ((rest : List ℕ) → text ≢ front ++ rest) (λ x. text ≡ front ++ x.now)
    → MatchOption r (behind front text ≡ None) (λ x. behind front text ≡ Some x.now)
behind_by front text None h = behind-none front text h
behind_by front text (Some x) h = ap (behind front) h ∙ behind-append front x.now
