-- What comes of parts, the first of which is looked at.
use Rattle.std.proofs.Common.{◌≡◌, ◌∙◌, ◌<◌, List, [], ◌∷◌, Option, Some, None, Result, Ok, Err, All, IfOk, IfSome}
use Rattle.std.proofs.Common.{ap, arith, get_or, length, refl, sym}
use Rattle.std.proofs.lemmas.List.Elements.{All-head, All-tail}
use Rattle.std.specs.List.{remove}
use Rattle.fmp_trials.specs.Parts.{first_of}

-- what holds of all that is found holds of what is found first
pub first_meets : {A E : Type 0} (P : A → Type 0) (parts : List (Result (Option A) E))
    → All (λ part. IfOk part (λ found. IfSome found P)) parts → IfOk (first_of parts) (λ found. IfSome found P)
first_meets P [] h = tt
first_meets P (Ok None ∷ parts) h = first_meets P parts (All-tail (λ part. IfOk part (λ found. IfSome found P)) _ _ h)
first_meets P (Ok (Some x) ∷ parts) h = All-head (λ part. IfOk part (λ found. IfSome found P)) _ _ h
first_meets P (Err e ∷ parts) h = tt

module _ {A E : Type 0} where
  -- nothing is found in the first part
  pub goes_on : (parts : List (Result (Option A) E)) (x : Result (Option A) E) → 0 < length parts
      → x ≡ get_or parts 0 x → x ≡ Ok None → first_of (remove parts 0) ≡ first_of parts
  goes_on [] x some there is = absurd (omega (arith, some))
  goes_on (part ∷ parts) x some there is =
      sym (ap (λ (p : Result (Option A) E). first_of (p ∷ parts)) (sym there ∙ is))

  -- something is found there
  pub stops : (parts : List (Result (Option A) E)) (x : Result (Option A) E) (found : A) → 0 < length parts
      → x ≡ get_or parts 0 x → x ≡ Ok (Some found) → Ok (Some found) ≡ first_of parts
  stops [] x found some there is = absurd (omega (arith, some))
  stops (part ∷ parts) x found some there is =
      sym (ap (λ (p : Result (Option A) E). first_of (p ∷ parts)) (sym there ∙ is))

  -- it gives up there
  pub gives_up : (parts : List (Result (Option A) E)) (x : Result (Option A) E) (e : E) → 0 < length parts
      → x ≡ get_or parts 0 x → x ≡ Err e → Err e ≡ first_of parts
  gives_up [] x e some there is = absurd (omega (arith, some))
  gives_up (part ∷ parts) x e some there is =
      sym (ap (λ (p : Result (Option A) E). first_of (p ∷ parts)) (sym there ∙ is))

  -- there are no parts
  pub is_over : (parts : List (Result (Option A) E)) → length parts ≡ 0 → Ok None ≡ first_of parts
  is_over [] none = refl
  is_over (part ∷ parts) none = absurd (omega (arith, none))
