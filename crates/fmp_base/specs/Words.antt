-- The words of both texts: constants, API names, service names and keywords; and the bytes of which words and names are
-- made.
use Rattle.std.specs.Prelude.{ℤ, pos, negsuc, ℕ, Bool, false, ◌==◌, ◌&&◌, ◌||◌, nat_eq, nat_le, List, [], ◌∷◌, Option}
use Rattle.std.specs.Prelude.{codes, find}
use Rattle.std.specs.Str.{bytes_eq}
use Rattle.fmp_base.specs.declared.services.Service.{Service}
use Rattle.fmp_base.specs.Codes.{code_of, code_name}
use Rattle.fmp_base.specs.Services.{service_name}
use Rattle.fmp_base.specs.declared.words.Constant.{Constant}
use Rattle.fmp_base.specs.declared.words.Constant.TheVariants as constant
use Rattle.fmp_base.specs.declared.words.Api.{Api}
use Rattle.fmp_base.specs.declared.words.Api.TheVariants as api
use Rattle.fmp_base.specs.declared.words.Keyword.{Keyword}
use Rattle.fmp_base.specs.declared.words.Keyword.TheVariants as keyword
use Rattle.fmp_base.specs.declared.words.TheConstants.{CONSTANTS, APIS, KEYWORDS}
use Rattle.fmp_base.specs.declared.services.TheConstants.{SERVICES}

-- `0` to `9`
abbrev pub is_digit : ℕ → Bool
is_digit b = nat_le 48 b && nat_le b 57

-- `A` to `Z`, `a` to `z`, `_`
abbrev pub is_letter : ℕ → Bool
is_letter b = (nat_le 65 b && nat_le b 90) || (nat_le 97 b && nat_le b 122) || (b == 95)

-- a byte of a name after its first one
abbrev pub is_word : ℕ → Bool
is_word b = is_letter b || is_digit b

-- the number that a constant stands for: `negsuc n` is the number -(n + 1)
abbrev pub constant_value : Constant → ℤ
constant_value (constant.Code code) = code_of code
constant_value constant.TaNull = pos 0
constant_value constant.TaHlng = pos 0
constant_value constant.TaTfifo = pos 0
constant_value constant.TaTpri = pos 1
constant_value constant.TaMfifo = pos 0
constant_value constant.TaMpri = pos 2
constant_value constant.TaAct = pos 2
constant_value constant.TaWsgl = pos 0
constant_value constant.TaWmul = pos 2
constant_value constant.TaClr = pos 4
constant_value constant.TaSta = pos 2
constant_value constant.TwfAndw = pos 0
constant_value constant.TwfOrw = pos 1
constant_value constant.TmoPol = pos 0
constant_value constant.TmoFevr = negsuc 0
constant_value constant.TskSelf = pos 0
constant_value constant.TpriIni = pos 0
constant_value constant.TpriSelf = pos 0

-- the constant as the texts write it
abbrev pub constant_name : Constant → List ℕ
constant_name (constant.Code code) = code_name code
constant_name constant.TaNull = codes "TA_NULL"
constant_name constant.TaHlng = codes "TA_HLNG"
constant_name constant.TaTfifo = codes "TA_TFIFO"
constant_name constant.TaTpri = codes "TA_TPRI"
constant_name constant.TaMfifo = codes "TA_MFIFO"
constant_name constant.TaMpri = codes "TA_MPRI"
constant_name constant.TaAct = codes "TA_ACT"
constant_name constant.TaWsgl = codes "TA_WSGL"
constant_name constant.TaWmul = codes "TA_WMUL"
constant_name constant.TaClr = codes "TA_CLR"
constant_name constant.TaSta = codes "TA_STA"
constant_name constant.TwfAndw = codes "TWF_ANDW"
constant_name constant.TwfOrw = codes "TWF_ORW"
constant_name constant.TmoPol = codes "TMO_POL"
constant_name constant.TmoFevr = codes "TMO_FEVR"
constant_name constant.TskSelf = codes "TSK_SELF"
constant_name constant.TpriIni = codes "TPRI_INI"
constant_name constant.TpriSelf = codes "TPRI_SELF"

-- the static API as the configuration writes it
abbrev pub api_name : Api → List ℕ
api_name api.CreTsk = codes "CRE_TSK"
api_name api.CreSem = codes "CRE_SEM"
api_name api.CreFlg = codes "CRE_FLG"
api_name api.CreDtq = codes "CRE_DTQ"
api_name api.CreMbx = codes "CRE_MBX"
api_name api.CreMsg = codes "CRE_MSG"
api_name api.CreShr = codes "CRE_SHR"
api_name api.CreSpn = codes "CRE_SPN"
api_name api.CreCyc = codes "CRE_CYC"
api_name api.DefInh = codes "DEF_INH"

-- the keyword as the texts write it
abbrev pub keyword_name : Keyword → List ℕ
keyword_name keyword.NumPrc = codes "NUM_PRC"
keyword_name keyword.Class = codes "CLASS"
keyword_name keyword.Null = codes "NULL"
keyword_name keyword.Task = codes "task"
keyword_name keyword.Handler = codes "handler"
keyword_name keyword.Var = codes "var"
keyword_name keyword.If = codes "if"
keyword_name keyword.Else = codes "else"
keyword_name keyword.While = codes "while"
keyword_name keyword.Break = codes "break"
keyword_name keyword.Continue = codes "continue"
keyword_name keyword.Return = codes "return"

-- whether a word begins with this byte
abbrev pub begins_with : ℕ → List ℕ → Bool
begins_with b [] = false
begins_with b (c ∷ cs) = nat_eq b c

-- the constant of this name, if there is one; likewise for the other words
unfoldable pub constant_named : List ℕ → Option Constant
constant_named word = find (λ c. bytes_eq (constant_name c) word) CONSTANTS

unfoldable pub api_named : List ℕ → Option Api
api_named word = find (λ a. bytes_eq (api_name a) word) APIS

unfoldable pub service_named : List ℕ → Option Service
service_named word = find (λ s. bytes_eq (service_name s) word) SERVICES

unfoldable pub keyword_named : List ℕ → Option Keyword
keyword_named word = find (λ k. bytes_eq (keyword_name k) word) KEYWORDS
