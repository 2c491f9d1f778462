-- The words are read by their names.
use Rattle.std.proofs.Common.{◌≡◌, ℕ, List, [], ◌∷◌, Bool, true, false, Option, Some, None, option_map, find, cond}
use Rattle.std.proofs.Common.{refl, sym, subst}
use Rattle.std.specs.Option.{option_or}
use Rattle.std.specs.Str.{bytes_eq}
use Rattle.std.proofs.lemmas.Slice.Eq.{bytes_eq-Decides}
use Rattle.fmp_base.specs.declared.codes.Er.TheVariants as er
use Rattle.fmp_base.specs.declared.services.Service.{Service}
use Rattle.fmp_base.specs.declared.services.Service.TheVariants as service
use Rattle.fmp_base.specs.Services.{service_name}
use Rattle.fmp_base.specs.declared.words.Constant.{Constant}
use Rattle.fmp_base.specs.declared.words.Constant.TheVariants as constant
use Rattle.fmp_base.specs.declared.words.Api.{Api}
use Rattle.fmp_base.specs.declared.words.Api.TheVariants as api
use Rattle.fmp_base.specs.declared.words.Keyword.{Keyword}
use Rattle.fmp_base.specs.declared.words.Keyword.TheVariants as keyword
use Rattle.fmp_base.specs.declared.words.TheConstants.{CONSTANTS, APIS, KEYWORDS}
use Rattle.fmp_base.specs.declared.services.TheConstants.{SERVICES}
use Rattle.fmp_lex.specs.declared.token.TokenKind.{TokenKind}
use Rattle.fmp_lex.specs.declared.token.TokenKind.TheVariants as kind
use Rattle.fmp_base.specs.Words.{constant_name, api_name, keyword_name, constant_named, api_named, service_named}
use Rattle.fmp_base.specs.Words.{keyword_named}
use Rattle.fmp_lex.specs.Cutting.{word_kind}
use Rattle.fmp_lex.specs.Laws.{IsWord, ReadsWords}

constant_read : (c : Constant) → word_kind (constant_name c) ≡ Some (kind.Constant c)
unfolding constant_named api_named service_named keyword_named
constant_read (constant.Code er.Ok) = refl
constant_read (constant.Code er.Sys) = refl
constant_read (constant.Code er.Nospt) = refl
constant_read (constant.Code er.Rsatr) = refl
constant_read (constant.Code er.Par) = refl
constant_read (constant.Code er.Id) = refl
constant_read (constant.Code er.Ctx) = refl
constant_read (constant.Code er.Iluse) = refl
constant_read (constant.Code er.Obj) = refl
constant_read (constant.Code er.Qovr) = refl
constant_read (constant.Code er.Rlwai) = refl
constant_read (constant.Code er.Tmout) = refl
constant_read constant.TaNull = refl
constant_read constant.TaHlng = refl
constant_read constant.TaTfifo = refl
constant_read constant.TaTpri = refl
constant_read constant.TaMfifo = refl
constant_read constant.TaMpri = refl
constant_read constant.TaAct = refl
constant_read constant.TaWsgl = refl
constant_read constant.TaWmul = refl
constant_read constant.TaClr = refl
constant_read constant.TaSta = refl
constant_read constant.TwfAndw = refl
constant_read constant.TwfOrw = refl
constant_read constant.TmoPol = refl
constant_read constant.TmoFevr = refl
constant_read constant.TskSelf = refl
constant_read constant.TpriIni = refl
constant_read constant.TpriSelf = refl

api_read : (a : Api) → word_kind (api_name a) ≡ Some (kind.Api a)
unfolding constant_named api_named service_named keyword_named
api_read api.CreTsk = refl
api_read api.CreSem = refl
api_read api.CreFlg = refl
api_read api.CreDtq = refl
api_read api.CreMbx = refl
api_read api.CreMsg = refl
api_read api.CreShr = refl
api_read api.CreSpn = refl
api_read api.CreCyc = refl
api_read api.DefInh = refl

service_read : (s : Service) → word_kind (service_name s) ≡ Some (kind.Service s)
unfolding constant_named api_named service_named keyword_named
service_read service.Put = refl
service_read _ = refl

keyword_read : (k : Keyword) → word_kind (keyword_name k) ≡ Some (kind.Keyword k)
unfolding constant_named api_named service_named keyword_named
keyword_read keyword.NumPrc = refl
keyword_read keyword.Class = refl
keyword_read keyword.Null = refl
keyword_read keyword.Task = refl
keyword_read keyword.Handler = refl
keyword_read keyword.Var = refl
keyword_read keyword.If = refl
keyword_read keyword.Else = refl
keyword_read keyword.While = refl
keyword_read keyword.Break = refl
keyword_read keyword.Continue = refl
keyword_read keyword.Return = refl

-- what a look-up by name finds has that name
found_step : {X : Type 0} (name : X → List ℕ) (word : List ℕ) (x y : X) (b : Bool) (rest : Option X)
    → bytes_eq (name y) word ≡ b →
    (rest ≡ Some x → word ≡ name x) → cond b (Some y) rest ≡ Some x → word ≡ name x
found_step name word x y true rest same later e =
    let it : y ≡ x = cc in
    let equal : name y ≡ word = (bytes_eq-Decides (name y) word).0 same in
    subst (λ z. word ≡ name z) it (sym equal)
found_step name word x y false rest same later e = later e

pub found_named : {X : Type 0} (name : X → List ℕ) (word : List ℕ) (x : X) (xs : List X)
    → find (λ y. bytes_eq (name y) word) xs ≡ Some x → word ≡ name x
found_named name word x [] e = cc
found_named name word x (y ∷ ys) e =
    found_step name word x y (bytes_eq (name y) word) (find (λ z. bytes_eq (name z) word) ys) refl
    (found_named name word x ys) e

chosen : (word : List ℕ) (k : TokenKind) (a : Option Constant) (b : Option Api) (c : Option Service)
    (d : Option Keyword) →
    ((x : Constant) → a ≡ Some x → word ≡ constant_name x) → ((x : Api) → b ≡ Some x → word ≡ api_name x) →
    ((x : Service) → c ≡ Some x → word ≡ service_name x) → ((x : Keyword) → d ≡ Some x → word ≡ keyword_name x) →
    option_or (option_map kind.Constant a) (option_or (option_map kind.Api b)
    (option_or (option_map kind.Service c) (option_map kind.Keyword d))) ≡ Some k →
    IsWord word k
chosen word k (Some x) b c d f g h i e = let it : kind.Constant x ≡ k = cc in subst (λ z. IsWord word z) it (f x refl)
chosen word k None (Some x) c d f g h i e = let it : kind.Api x ≡ k = cc in subst (λ z. IsWord word z) it (g x refl)
chosen word k None None (Some x) d f g h i e = let it : kind.Service x
    ≡ k = cc in subst (λ z. IsWord word z) it (h x refl)
chosen word k None None None (Some x) f g h i e = let it : kind.Keyword x
    ≡ k = cc in subst (λ z. IsWord word z) it (i x refl)
chosen word k None None None None f g h i e = cc

read_is_word : (word : List ℕ) (k : TokenKind) → word_kind word ≡ Some k → IsWord word k
unfolding constant_named api_named service_named keyword_named
read_is_word word k e =
    chosen word k (constant_named word) (api_named word) (service_named word) (keyword_named word)
    (λ x. found_named constant_name word x CONSTANTS) (λ x. found_named api_name word x APIS)
    (λ x. found_named service_name word x SERVICES) (λ x. found_named keyword_name word x KEYWORDS) e

word_is_read : (word : List ℕ) (k : TokenKind) → IsWord word k → word_kind word ≡ Some k
word_is_read word (kind.Constant c) e = rw e (constant_read c)
word_is_read word (kind.Api a) e = rw e (api_read a)
word_is_read word (kind.Service s) e = rw e (service_read s)
word_is_read word (kind.Keyword k) e = rw e (keyword_read k)
word_is_read word (kind.Number n) e = absurd e
word_is_read word (kind.Name n) e = absurd e
word_is_read word (kind.Symbol s) e = absurd e
word_is_read word (kind.Bad f) e = absurd e

pub reads_words : ReadsWords
reads_words word k = (read_is_word word k, word_is_read word k)
