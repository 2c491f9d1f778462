-- Texts that begin with a word.
use Rattle.std.proofs.Common.{ℕ, ◌≡◌, ◌≢◌, List, [], ◌∷◌, ◌++◌, Bool, true, false, Option, Some, None, MatchOption}
use Rattle.std.proofs.Common.{nat_eq, refl, ap, ◌∙◌}
use Rattle.std.proofs.lemmas.Bool.{eqb-true}
use denote.Ref.{Bor}
use Rattle.std.proofs.Common.{eq-eqb}
use Rattle.fmp_expect.specs.Words.{after_front, if_same}

-- after a front stands the rest
pub after_front-append : (front rest : List ℕ) → after_front front (front ++ rest) ≡ Some rest
after_front-append [] rest = refl
after_front-append (c ∷ cs) rest =
    ap (λ t. if_same t (after_front cs (cs ++ rest))) (eq-eqb c c refl) ∙ after_front-append cs rest

after_front-unlike : (t : Bool) (b c : ℕ) (bs cs : List ℕ) → nat_eq b c ≡ t → ((rest : List ℕ) → (b ∷ bs) ≢ (c ∷ cs) ++ rest)
    → (((rest : List ℕ) → bs ≢ cs ++ rest) → after_front cs bs ≡ None) → if_same t (after_front cs bs) ≡ None
after_front-unlike false b c bs cs e h more = refl
after_front-unlike true b c bs cs e h more =
    more (λ rest same. h rest (ap (λ x. x ∷ bs) (eqb-true b c e) ∙ ap (λ xs. c ∷ xs) same))

-- nothing stands after a front that a text does not begin with
pub after_front-none : (front text : List ℕ) → ((rest : List ℕ) → text ≢ front ++ rest) → after_front front text ≡ None
after_front-none [] text h = absurd (h text refl)
after_front-none (c ∷ cs) [] h = refl
after_front-none (c ∷ cs) (b ∷ bs) h = after_front-unlike (nat_eq b c) b c bs cs refl h (after_front-none cs bs)

-- what a call says that strips a front
pub after_front_by : (front text : List ℕ) (r : Option (Bor (List ℕ)))
    → MatchOption r ((rest : List ℕ) → text ≢ front ++ rest) (λ x. text ≡ front ++ x.now)
    → MatchOption r (after_front front text ≡ None) (λ x. after_front front text ≡ Some x.now)
after_front_by front text None h = after_front-none front text h
after_front_by front text (Some x) h = ap (after_front front) h ∙ after_front-append front x.now
