-- Every constant, static API and service stands at its place of a table.
use Rattle.std.proofs.Common.{◌≡◌, ℕ, ◌+◌, ◌-◌, ◌*◌, ◌%◌, List, Option, Some, None, length, slice_index_or, refl, sym}
use Rattle.std.proofs.Common.{subst}
use Rattle.std.specs.Prelude.{slice_get}
use Rattle.fmp_base.specs.declared.codes.Er.TheVariants as er
use Rattle.fmp_base.specs.declared.services.Service.{Service}
use Rattle.fmp_base.specs.declared.services.Service.TheVariants as service
use Rattle.fmp_base.specs.declared.services.TheConstants.{SERVICES}
use Rattle.fmp_base.specs.Services.{service_name}
use Rattle.fmp_base.specs.declared.words.Api.{Api}
use Rattle.fmp_base.specs.declared.words.Api.TheVariants as api
use Rattle.fmp_base.specs.declared.words.Constant.{Constant}
use Rattle.fmp_base.specs.declared.words.Constant.TheVariants as constant
use Rattle.fmp_base.specs.declared.words.TheConstants.{CONSTANTS, APIS}
use Rattle.fmp_base.specs.Words.{constant_name, constant_named, api_name, api_named, service_named}
use Rattle.fmp_lex.specs.declared.finding.TheConstants.{CONSTANT_PLACES, API_PLACES, SERVICE_PLACES}
use Rattle.fmp_lex.proofs.Names.{found_named}

abbrev constant_sum : List ℕ → ℕ
constant_sum w = 4 * slice_index_or w 2 0 + 4 * slice_index_or w 3 0 + slice_index_or w (length w - 2) 0

abbrev pub constant_placed : List ℕ → Option Constant
constant_placed w = slice_get CONSTANTS (slice_index_or CONSTANT_PLACES (constant_sum w % 64) 0)

pub constant_stands : (k : Constant) → constant_placed (constant_name k) ≡ Some k
constant_stands (constant.Code er.Ok) = refl
constant_stands (constant.Code _) = refl
constant_stands constant.TaNull = refl
constant_stands _ = refl

abbrev api_sum : List ℕ → ℕ
api_sum w = 8 * slice_index_or w 4 0 + slice_index_or w 5 0

abbrev pub api_placed : List ℕ → Option Api
api_placed w = slice_get APIS (slice_index_or API_PLACES (api_sum w % 16) 0)

pub api_stands : (a : Api) → api_placed (api_name a) ≡ Some a
api_stands api.CreTsk = refl
api_stands _ = refl

abbrev service_sum : List ℕ → ℕ
service_sum w =
    32 * (slice_index_or w 0 0 + slice_index_or w 1 0) + 3 * slice_index_or w 2 0
    + 4 * slice_index_or w (length w - 1) 0

abbrev pub service_placed : List ℕ → Option Service
service_placed w = slice_get SERVICES (slice_index_or SERVICE_PLACES (service_sum w % 256) 0)

pub service_stands : (s : Service) → service_placed (service_name s) ≡ Some s
service_stands service.Put = refl
service_stands _ = refl

constant_found : (k : Constant) → constant_named (constant_name k) ≡ Some k
unfolding constant_named
constant_found (constant.Code er.Ok) = refl
constant_found (constant.Code _) = refl
constant_found constant.TaNull = refl
constant_found _ = refl

api_found : (a : Api) → api_named (api_name a) ≡ Some a
unfolding api_named
api_found api.CreTsk = refl
api_found _ = refl

service_found : (s : Service) → service_named (service_name s) ≡ Some s
unfolding service_named
service_found service.Put = refl
service_found _ = refl

-- what a look-up finds, where a table gives the only word that may have the name
none_found :
    {X : Type 0} (may named : Option X) (name : X → List ℕ) (word : List ℕ) →
    ((x : X) → word ≡ name x → may ≡ Some x) → ((x : X) → named ≡ Some x → word ≡ name x) → may ≡ None → None ≡ named
none_found may None name word stands is e = refl
none_found may (Some x) name word stands is e = let some : may ≡ Some x = stands x (is x refl) in cc

other_found :
    {X : Type 0} (may named : Option X) (name : X → List ℕ) (word : List ℕ) (y : X) →
    ((x : X) → word ≡ name x → may ≡ Some x) → ((x : X) → named ≡ Some x → word ≡ name x) → may ≡ Some y →
    (word ≡ name y → ⊥) → None ≡ named
other_found may None name word y stands is e not = refl
other_found may (Some x) name word y stands is e not =
    let some : may ≡ Some x = stands x (is x refl) in
    let same : x ≡ y = cc in
    absurd (not (subst (λ z. word ≡ name z) same (is x refl)))

pub no_constant : (word : List ℕ) (may : Option Constant) → ((x : Constant) → word ≡ constant_name x → may ≡ Some x)
    → may ≡ None →
    None ≡ constant_named word
unfolding constant_named
no_constant word may stands e = none_found may (constant_named word) constant_name word stands
    (λ x. found_named constant_name word x CONSTANTS) e

pub other_constant : (word : List ℕ) (may : Option Constant) (y : Constant)
    → ((x : Constant) → word ≡ constant_name x → may ≡ Some x) →
    may ≡ Some y → (word ≡ constant_name y → ⊥) → None ≡ constant_named word
unfolding constant_named
other_constant word may y stands e not =
    other_found may (constant_named word) constant_name word y stands (λ x. found_named constant_name word x
    CONSTANTS) e not

pub this_constant : (word : List ℕ) (y : Constant) → word ≡ constant_name y → Some y ≡ constant_named word
this_constant word y e = rw e (sym (constant_found y))

pub no_api : (word : List ℕ) (may : Option Api) → ((x : Api) → word ≡ api_name x → may ≡ Some x) → may ≡ None →
    None ≡ api_named word
unfolding api_named
no_api word may stands e = none_found may (api_named word) api_name word stands
    (λ x. found_named api_name word x APIS) e

pub other_api : (word : List ℕ) (may : Option Api) (y : Api) → ((x : Api) → word ≡ api_name x → may ≡ Some x) →
    may ≡ Some y → (word ≡ api_name y → ⊥) → None ≡ api_named word
unfolding api_named
other_api word may y stands e not =
    other_found may (api_named word) api_name word y stands (λ x. found_named api_name word x APIS) e not

pub this_api : (word : List ℕ) (y : Api) → word ≡ api_name y → Some y ≡ api_named word
this_api word y e = rw e (sym (api_found y))

pub no_service : (word : List ℕ) (may : Option Service) → ((x : Service) → word ≡ service_name x → may ≡ Some x) → may
    ≡ None →
    None ≡ service_named word
unfolding service_named
no_service word may stands e = none_found may (service_named word) service_name word stands
    (λ x. found_named service_name word x SERVICES) e

pub other_service : (word : List ℕ) (may : Option Service) (y : Service)
    → ((x : Service) → word ≡ service_name x → may ≡ Some x) →
    may ≡ Some y → (word ≡ service_name y → ⊥) → None ≡ service_named word
unfolding service_named
other_service word may y stands e not =
    other_found may (service_named word) service_name word y stands (λ x. found_named service_name word x SERVICES) e
    not

pub this_service : (word : List ℕ) (y : Service) → word ≡ service_name y → Some y ≡ service_named word
this_service word y e = rw e (sym (service_found y))
