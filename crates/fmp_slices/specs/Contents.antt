-- The data of a page, as tokens of JSON.
use Rattle.std.specs.Prelude.{◌≡◌, ℕ, zero, suc, ◌+◌, ◌-◌, ◌^◌, List, [], ◌∷◌, ◌++◌, ◌&&◌, if◌then◌else◌}
use Rattle.std.specs.Prelude.{codes, decimal}
use Rattle.std.specs.Prelude.{drop, length, map, min, nat_le, slice_get, slice_range, take}
use Rattle.std.specs.Option.{option_map_or}
use Rattle.std.specs.Str.Lossy.{utf8_lossy}
use Rattle.json.specs.Token.{Token, key, number, string}
use Rattle.fmp_json.specs.Members.{list_begin, list_end, number_member}
use Rattle.fmp_timeline.specs.declared.page.PicturePage.{PicturePage}
use Rattle.fmp_timeline.specs.declared.run.Note.{Note}
use Rattle.fmp_timeline.specs.declared.run.Run.{Run}

-- some tokens begin with these
pub record BeginsWith (front all : List Token) : Type 0 where
  pub more : List Token
  pub whole : all ≡ front ++ more

-- which events are drawn, and where: the first event of a panel stands at `left`
abbrev pub places_members : PicturePage → List Token
places_members page =
    number_member (codes "first") page.first
    ++ (number_member (codes "last") page.last
    ++ (number_member (codes "left") (min (page.gutter + page.lead) (2 ^ 32 - 1))
    ++ (number_member (codes "column") page.column ++ number_member (codes "panel") page.per_panel)))

-- what is known of the events that are drawn
abbrev pub drawn : PicturePage → Run → List Note
drawn page run = drop page.first (take (page.last + 1) run.notes.items)

-- the clock after each of them
abbrev pub clock_numbers : List Note → List Token
clock_numbers notes = map (λ n. number (decimal n.clock)) notes

abbrev pub clocks_members : PicturePage → Run → List Token
clocks_members page run = list_begin (codes "clocks") ++ (clock_numbers (drawn page run) ++ list_end)

-- where the lines of an event end
abbrev pub end_of : Run → (event : ℕ) → ℕ
end_of run event = option_map_or (λ n. n.end) (slice_get run.notes.items event) 0

-- and those of the events before it
abbrev pub end_before : Run → (event : ℕ) → ℕ
end_before run zero = 0
end_before run (suc before) = end_of run before

-- a part of a text; nothing where the text has no such part
abbrev pub part_of : (text : List ℕ) → (from to : ℕ) → List ℕ
part_of text from to = if nat_le from to && nat_le to (length text) then slice_range text from to else []

-- the lines of the events that are drawn
abbrev pub lines_members : PicturePage → Run → List Token
lines_members page run =
    key (codes "lines")
    ∷ string (utf8_lossy (part_of run.text.items (end_before run page.first) (end_of run page.last)))
    ∷ []

-- what was written stays in front of what is
abbrev pub Keeps : (old new : List Token) → Type 0
Keeps old new = (front : List Token) → BeginsWith front old → BeginsWith front new
