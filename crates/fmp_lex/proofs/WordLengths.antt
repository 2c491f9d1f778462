-- The table of lengths knows every word: what it does not know is none. Constants, static
-- APIs and services are known by their first bytes too.
use Rattle.std.proofs.Common.{◌≡◌, ℕ, List, [], ◌∷◌, Bool, true, false, Option, Some, None, ◌&&◌, ◌/◌, ◌^◌, length}
use Rattle.std.proofs.Common.{nat_eq, nat_lt, bit_and, slice_index_or, refl, ap}
use Rattle.std.specs.Prelude.{slice_get}
use Rattle.fmp_base.specs.declared.codes.Er.TheVariants as er
use Rattle.fmp_base.specs.declared.services.Service.{Service}
use Rattle.fmp_base.specs.declared.services.Service.TheVariants as service
use Rattle.fmp_base.specs.Services.{service_name}
use Rattle.fmp_base.specs.declared.words.Constant.{Constant}
use Rattle.fmp_base.specs.declared.words.Constant.TheVariants as constant
use Rattle.fmp_base.specs.declared.words.Api.{Api}
use Rattle.fmp_base.specs.declared.words.Api.TheVariants as api
use Rattle.fmp_base.specs.declared.words.Keyword.{Keyword}
use Rattle.fmp_base.specs.declared.words.Keyword.TheVariants as keyword
use Rattle.fmp_base.specs.declared.words.TheConstants.{CONSTANTS, APIS}
use Rattle.fmp_base.specs.declared.services.TheConstants.{SERVICES}
use Rattle.fmp_base.specs.Words.{constant_name, constant_named, api_name, api_named, service_named, keyword_name}
use Rattle.fmp_lex.specs.declared.lengths.TheConstants.{LENGTHS}
use Rattle.fmp_lex.specs.declared.token.TokenKind.{TokenKind}
use Rattle.fmp_lex.specs.declared.token.TokenKind.TheVariants as kind
use Rattle.fmp_lex.specs.Beginnings.{begins}
use Rattle.fmp_lex.specs.Cutting.{word_kind}
use Rattle.fmp_lex.specs.Laws.{IsWord}
use Rattle.fmp_lex.proofs.Names.{found_named, reads_words}

-- the table has this length at the byte
abbrev has_length : ℕ → ℕ → Bool
has_length b n = nat_eq (bit_and (slice_index_or LENGTHS b 0 / 2 ^ n) 1) 1

abbrev fits : List ℕ → Bool
fits [] = false
fits (b ∷ bs) = nat_lt (length (b ∷ bs)) 16 && has_length b (length (b ∷ bs))

constant_fits : (c : Constant) → fits (constant_name c) ≡ true
constant_fits (constant.Code er.Ok) = refl
constant_fits (constant.Code _) = refl
constant_fits constant.TaNull = refl
constant_fits _ = refl

api_fits : (a : Api) → fits (api_name a) ≡ true
api_fits api.CreTsk = refl
api_fits _ = refl

service_fits : (s : Service) → fits (service_name s) ≡ true
service_fits service.Put = refl
service_fits _ = refl

keyword_fits : (k : Keyword) → fits (keyword_name k) ≡ true
keyword_fits keyword.NumPrc = refl
keyword_fits _ = refl

word_fits : (word : List ℕ) (k : TokenKind) → IsWord word k → fits word ≡ true
word_fits word (kind.Constant c) e = rw e (constant_fits c)
word_fits word (kind.Api a) e = rw e (api_fits a)
word_fits word (kind.Service s) e = rw e (service_fits s)
word_fits word (kind.Keyword k) e = rw e (keyword_fits k)
word_fits word (kind.Number n) e = absurd e
word_fits word (kind.Name n) e = absurd e
word_fits word (kind.Symbol s) e = absurd e
word_fits word (kind.Bad f) e = absurd e

none_where : (word : List ℕ) (found : Option TokenKind) → word_kind word ≡ found → fits word ≡ false → found ≡ None
none_where word None e n = refl
none_where word (Some k) e n = let yes = word_fits word k ((reads_words word k).0 e) in cc

unfit : (word : List ℕ) → fits word ≡ false → word_kind word ≡ None
unfit word n = none_where word (word_kind word) refl n

and_no : (a b : Bool) → b ≡ false → (a && b) ≡ false
and_no true b e = e
and_no false b e = refl

-- no word is empty
pub no_first : (word : List ℕ) → slice_get word 0 ≡ None → word_kind word ≡ None
no_first [] e = unfit [] refl
no_first (b ∷ bs) e = cc

-- no word is longer than 15 bytes
pub not_short : (word : List ℕ) → nat_lt (length word) 16 ≡ false → word_kind word ≡ None
not_short [] long = unfit [] refl
not_short (b ∷ bs) long = unfit (b ∷ bs) (rw long refl)

-- no word that begins with the byte has this length
pub no_length : (word : List ℕ) (b : ℕ) → slice_get word 0 ≡ Some b →
    nat_eq (bit_and (slice_index_or LENGTHS b 0 / 2 ^ length word) 1) 1 ≡ false → word_kind word ≡ None
no_length [] b first n = cc
no_length (c ∷ cs) b first n =
    let same : b ≡ c = cc in
    unfit (c ∷ cs) (and_no (nat_lt (length (c ∷ cs)) 16) (has_length c (length (c ∷ cs))) (rw same at n))

constant_begins : (c : Constant) → begins (constant_name c) 69 84 ≡ true
constant_begins (constant.Code er.Ok) = refl
constant_begins (constant.Code _) = refl
constant_begins constant.TaNull = refl
constant_begins _ = refl

api_begins : (a : Api) → begins (api_name a) 67 68 ≡ true
api_begins api.CreTsk = refl
api_begins _ = refl

service_begins : (s : Service) → begins (service_name s) 97 122 ≡ true
service_begins service.Put = refl
service_begins _ = refl

none_named :
    {X : Type 0} (found : Option X) (name : X → List ℕ) (word : List ℕ) (low high : ℕ) →
    ((x : X) → found ≡ Some x → word ≡ name x) → ((x : X) → begins (name x) low high ≡ true) →
    begins word low high ≡ false → None ≡ found
none_named None name word low high is each otherwise = refl
none_named (Some x) name word low high is each otherwise =
    let same : begins word low high ≡ begins (name x) low high = ap (λ w. begins w low high) (is x refl) in
    let yes : begins (name x) low high ≡ true = each x in
    cc

-- a word that begins otherwise is no constant, no static API, no service
pub no_constant : (word : List ℕ) → begins word 69 84 ≡ false → None ≡ constant_named word
unfolding constant_named
no_constant word otherwise =
    none_named (constant_named word) constant_name word 69 84 (λ x. found_named constant_name word x CONSTANTS)
    constant_begins otherwise

pub no_api : (word : List ℕ) → begins word 67 68 ≡ false → None ≡ api_named word
unfolding api_named
no_api word otherwise = none_named (api_named word) api_name word 67 68
    (λ x. found_named api_name word x APIS) api_begins otherwise

pub no_service : (word : List ℕ) → begins word 97 122 ≡ false → None ≡ service_named word
unfolding service_named
no_service word otherwise =
    none_named (service_named word) service_name word 97 122 (λ x. found_named service_name word x SERVICES)
    service_begins otherwise
