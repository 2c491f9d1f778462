-- A name of an object in an image of version 1 or 2 is none of the words that the first 58 services gave the texts.
use Rattle.std.proofs.Common.{◌≡◌, ℕ, ◌≤◌, Bool, true, false, List, Option, Some, None, refl, ap, arith, nat_le}
use Rattle.std.specs.Prelude.{length, not, is_some, ◌&&◌, ◌||◌}
use Rattle.std.proofs.lemmas.Bool.{leb-true}
use Rattle.fmp_base.specs.declared.services.Service.{Service}
use Rattle.fmp_base.specs.declared.services.Service.TheVariants.{MrotRdq}
use Rattle.fmp_base.specs.Services.{service_number}
use Rattle.fmp_base.specs.Words.{constant_named, api_named, service_named, keyword_named}
use Rattle.fmp_image_bytes.specs.Keys.{begins_and_goes_on, is_service_of, is_name}
use Rattle.fmp_image_bytes.specs.Versions.{has_service}
use Rattle.fmp_image_bytes.specs.OlderImages.{is_first, is_name_among_first}

too_new : (version : ℕ) → version ≤ 2 → (b : Bool) → nat_le 3 version ≡ b → b ≡ false
too_new version old true e = let at_least = leb-true 3 version e in absurd (omega arith)
too_new version old false e = refl

first_service : (version : ℕ) → version ≤ 2 → (s : Service) → has_service version s ≡ nat_le (service_number s) 58
first_service version old MrotRdq = too_new version old (nat_le 3 version) refl
first_service version old _ = refl

first_word : (version : ℕ) → version ≤ 2 → (o : Option Service) → is_service_of version o ≡ is_first 58 o
first_word version old None = refl
first_word version old (Some s) = first_service version old s

pub same_names : (version : ℕ) (text : List ℕ) → version ≤ 2 → is_name version text ≡ is_name_among_first 58 text
unfolding is_name
same_names version text old =
    ap (λ (b : Bool). nat_le (length text) 31 && begins_and_goes_on text
    && not (is_some (constant_named text) || is_some (api_named text) || b || is_some (keyword_named text)))
    (first_word version old (service_named text))
