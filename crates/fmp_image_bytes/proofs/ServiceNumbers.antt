-- The service of a number stands at the place before it in the list of services.
use Rattle.std.proofs.Common.{◌≡◌, ℕ, ◌<◌, ◌-◌, ◌∙◌, Bool, true, false, cond, ◌&&◌, nat_eq, nat_le, length, get_or}
use Rattle.std.proofs.Common.{Option, Some, None, refl, sym, ap}
use Rattle.std.proofs.lemmas.Bool.{agree_below_at, eqb-true}
use Rattle.fmp_base.specs.declared.services.Service.{Service}
use Rattle.fmp_base.specs.declared.services.Service.TheVariants.{Put}
use Rattle.fmp_base.specs.declared.services.TheConstants.{SERVICES}
use Rattle.fmp_base.specs.Services.{service_number}
use Rattle.fmp_image_bytes.specs.Instructions.{service_of_number}
use Rattle.fmp_image_bytes.proofs.InstructionLaws.{service_again}

abbrev is_numbered : ℕ → Bool
is_numbered n = nat_le 1 n && nat_le n (length SERVICES)

abbrev placed : Bool → ℕ → Option Service
placed numbered n = cond numbered (Some (get_or SERVICES (n - 1) Put)) None

abbrev same : Option Service → Option Service → Bool
same None None = true
same None (Some t) = false
same (Some s) None = false
same (Some s) (Some t) = nat_eq (service_number s) (service_number t)

same_is : (a b : Option Service) → same a b ≡ true → a ≡ b
same_is None None e = refl
same_is None (Some t) e = absurd cc
same_is (Some s) None e = absurd cc
same_is (Some s) (Some t) e = sym (service_again s) ∙ ap service_of_number (eqb-true _ _ e) ∙ service_again t

-- each number of a byte is held against the list, by computing
by_place : (n : ℕ) → n < 256 → placed (is_numbered n) n ≡ service_of_number n
unfolding service_of_number
by_place n lt =
    same_is _ _ (agree_below_at (λ k. same (placed (is_numbered k) k) (service_of_number k)) (λ k. true) 256 n refl lt)

pub numbered : (n : ℕ) → is_numbered n ≡ true → n < 256 → Some (get_or SERVICES (n - 1) Put) ≡ service_of_number n
numbered n e lt = ap (λ (b : Bool). placed b n) (sym e) ∙ by_place n lt

pub not_numbered : (n : ℕ) → is_numbered n ≡ false → n < 256 → None ≡ service_of_number n
not_numbered n e lt = ap (λ (b : Bool). placed b n) (sym e) ∙ by_place n lt
