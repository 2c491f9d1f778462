-- What is written: the configuration, and the list of what was left out or changed.
use Rattle.std.specs.Prelude.{ℕ, List, [], ◌∷◌, ◌++◌, ◌==◌, ◌||◌, nat_lt, if◌then◌else◌, Bool, true, false, codes}
use Rattle.std.specs.Prelude.{decimal, map, Option, Some, None}
use Rattle.std.specs.Fmt.{signed_decimal}
use Rattle.fmp_base.specs.declared.words.Api.{Api}
use Rattle.fmp_base.specs.declared.words.Constant.{Constant}
use Rattle.fmp_base.specs.Words.{api_name, constant_name}
use Rattle.fmp_import.specs.declared.plan.Block as declared
use Rattle.fmp_import.specs.declared.plan.SourceClass.{SourceClass}
use Rattle.fmp_import.specs.declared.plan.PlanItem.{PlanItem}
use Rattle.fmp_import.specs.declared.plan.PlanItem.TheVariants as item
use Rattle.fmp_import.specs.declared.plan.Record as held
use Rattle.fmp_import.specs.Words.{word_text}

-- an object, and the objects of a class, as plain data
pub record ObjectPlan : Type 0 where
  pub api : Api
  pub subject : PlanItem
  pub attribute : PlanItem
  pub rest : List PlanItem

pub record ClassPlan : Type 0 where
  pub class : SourceClass
  pub objects : List ObjectPlan

abbrev pub record_view : held.Record → ObjectPlan
record_view r = record { api = r.api; subject = r.subject; attribute = r.attribute; rest = r.rest.items }

abbrev pub block_view : declared.Block → ClassPlan
block_view b = record { class = b.class; objects = map record_view b.records.items }

-- a further constant of an attribute
abbrev pub or_text : Option Constant → List ℕ
or_text None = []
or_text (Some c) = codes " | " ++ constant_name c

-- what a static API is given at one place: a name is a whole word of the source, and `_` where it is a word of this
-- project
abbrev pub item_text : (source : List ℕ) → PlanItem → List ℕ
item_text source (item.Name s) = word_text source s
item_text source (item.Escaped s) = word_text source s ++ codes "_"
item_text source (item.Number k) = signed_decimal k
item_text source (item.Attribute a b c) = constant_name a ++ (or_text b ++ or_text c)
item_text source item.Null = codes "NULL"

-- what stands after the attribute
unfoldable pub further_text : (source : List ℕ) → PlanItem → List ℕ
further_text source i = codes ", " ++ item_text source i

abbrev pub more_text : (source : List ℕ) → List PlanItem → List ℕ
more_text source [] = []
more_text source (i ∷ is) = further_text source i ++ more_text source is

unfoldable pub front_text : (source : List ℕ) → ObjectPlan → List ℕ
front_text source r =
    codes "    " ++ (api_name r.api ++ (codes "(" ++ (item_text source r.subject ++ codes ", { ")))

-- an object: API(subject, { attribute, .. });
unfoldable pub record_text : (source : List ℕ) → ObjectPlan → List ℕ
record_text source r =
    front_text source r ++ (item_text source r.attribute ++ (more_text source r.rest ++ codes " });\n"))

abbrev pub records_text : (source : List ℕ) → List ObjectPlan → List ℕ
records_text source [] = []
records_text source (r ∷ rs) = record_text source r ++ records_text source rs

abbrev pub only_text : Bool → List ℕ
only_text true = codes "_ONLY"
only_text false = []

-- the name of a class
unfoldable pub class_text : SourceClass → List ℕ
class_text c = codes "TCL_" ++ (decimal c.processor ++ only_text c.only)

-- the objects of a class
unfoldable pub block_text : (source : List ℕ) → ClassPlan → List ℕ
block_text source b =
    codes "CLASS(" ++ (class_text b.class ++ (codes ") {\n" ++ (records_text source b.objects ++ codes "}\n")))

abbrev pub blocks_text : (source : List ℕ) → List ClassPlan → List ℕ
blocks_text source [] = []
blocks_text source (b ∷ bs) = block_text source b ++ blocks_text source bs

-- a configuration
unfoldable pub plan_text : (source : List ℕ) (processors : ℕ) → List ClassPlan → List ℕ
plan_text source processors bs =
    codes "NUM_PRC(" ++ (decimal processors ++ (codes ");\n" ++ blocks_text source bs))

-- a byte as it is shown: `?` for a control byte
abbrev pub shown_byte : ℕ → ℕ
shown_byte b = if nat_lt b 32 || (b == 127) then 63 else b

-- where a note stands: cfg:LINE: `WORD
unfoldable pub note_front : (line : ℕ) (word : List ℕ) → List ℕ
note_front line word = codes "cfg:" ++ (decimal line ++ (codes ": `" ++ map shown_byte word))

abbrev pub note_end : (says why : List ℕ) → List ℕ
note_end says why = codes "`" ++ (says ++ (why ++ codes "\n"))

-- a line of the list: cfg:LINE: `WORD` and what is said of the word
unfoldable pub note_text : (line : ℕ) (word says why : List ℕ) → List ℕ
note_text line word says why = note_front line word ++ note_end says why

-- cfg:LINE: `WORD` is left out: `NAME` and why
unfoldable pub lacking_text : (line : ℕ) (word name why : List ℕ) → List ℕ
lacking_text line word name why =
    note_front line word
    ++ (codes "` is left out: `" ++ (map shown_byte name ++ note_end (codes " ") why))
