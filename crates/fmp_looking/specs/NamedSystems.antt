-- The names of the bodies of a text, and a system in which the handlers of interrupts have them.
use Rattle.std.specs.Prelude.{ℕ, ◌≡◌, ◌<◌, ◌≤◌, ◌⊎◌, List, [], ◌∷◌, ◌++◌, Option, Some, None, Bool, true, false}
use Rattle.std.specs.Prelude.{length, map, option_map, slice_get, unwrap_or}
use Rattle.fmp_base.specs.declared.names.Name.{Name}
use Rattle.fmp_base.specs.declared.systems.Entry.{Entry}
use Rattle.fmp_base.specs.declared.systems.Entry.TheVariants as entry
use Rattle.fmp_base.specs.declared.systems.InterruptConfig.{InterruptConfig}
use Rattle.fmp_base.specs.Systems.{SystemTables}
use Rattle.fmp_frames.specs.CallPositions.{is_head}
use Rattle.fmp_lex.specs.declared.token.Token.{Token}
use Rattle.fmp_lex.specs.declared.token.TokenKind.{TokenKind}
use Rattle.fmp_lex.specs.declared.token.TokenKind.TheVariants as kind
use Rattle.fmp_lex.specs.Cutting.{Cuts}
use Rattle.fmp_lex.specs.Faults.{text_max}

-- the name that a token is, if it stands after one that begins a body
abbrev pub name_here : (after_head : Bool) → TokenKind → List Name
name_here true (kind.Name name) = name ∷ []
name_here _ _ = []

abbrev pub name_at : (after_head : Bool) → List Token → (at : ℕ) → List Name
name_at h ts i = unwrap_or (option_map (λ t. name_here h t.kind) (slice_get ts i)) []

-- the names of the bodies that begin in tokens, after one that begins a body or not
abbrev pub names_after : (after_head : Bool) → List Token → List Name
names_after h [] = []
names_after h (t ∷ ts) = name_here h t.kind ++ names_after (is_head t.kind) ts

-- these are the names of the bodies of a text, by its tokens; of one that is too long to be read they are none
abbrev pub AreNamesOf : (text : List ℕ) → List Name → Type 0
AreNamesOf text names =
    ((length text ≤ text_max) × ((ts : List Token) × Cuts text 0 ts × (names ≡ names_after false ts)))
    ⊎ ((text_max < length text) × (names ≡ []))

-- an entry by the name of its body
abbrev pub named_by : Option Name → Entry → Entry
named_by None e = e
named_by (Some name) e = entry.Named name

abbrev pub named_entry : List Name → Entry → Entry
named_entry names (entry.Body k) = named_by (slice_get names k) (entry.Body k)
named_entry names (entry.Named name) = entry.Named name

abbrev pub named_interrupt : List Name → InterruptConfig → InterruptConfig
named_interrupt names x = record x { entry = named_entry names x.entry }

-- a system whose handlers of interrupts have these names for their bodies
abbrev pub with_names : List Name → SystemTables → SystemTables
with_names names sys = record sys { interrupts = map (λ x. named_interrupt names x) sys.interrupts }

-- the same by the names of a text
pub record IsNamedBy (text : List ℕ) (sys named : SystemTables) : Type 0 where
  pub names : List Name
  pub are : AreNamesOf text names
  pub same : named ≡ with_names names sys
