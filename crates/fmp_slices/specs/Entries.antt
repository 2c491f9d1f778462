-- The entries of a trace, in the Trace Event Format: an object of JSON a line, after a comma.
use Rattle.std.specs.Prelude.{ℕ, ◌-◌, List, [], ◌∷◌, ◌++◌, codes}
use Rattle.std.specs.Str.Lossy.{utf8_lossy}
use Rattle.json.specs.Token.{Token, begin_object, end_object, key}
use Rattle.fmp_json.specs.Members.{number_member, object_line, text_member}
use Rattle.fmp_slices.specs.declared.lanes.Lane.{Lane}

-- the phase of an entry, and its track
abbrev pub lane_members : (phase : List ℕ) → Lane → List Token
lane_members phase lane =
    text_member (codes "ph") phase
    ++ (number_member (codes "pid") lane.group ++ number_member (codes "tid") lane.number)

abbrev pub name_member : (name : List ℕ) → List Token
name_member name = text_member (codes "name") (utf8_lossy name)

-- an entry of a phase on a track, with these members more
abbrev pub entry_text : (phase : List ℕ) → Lane → List Token → List ℕ
entry_text phase lane members = 44 ∷ object_line (lane_members phase lane ++ members)

-- a slice from a time to another
abbrev pub slice_text : Lane → (from to : ℕ) → (name : List ℕ) → List ℕ
slice_text lane from to name =
    entry_text (codes "X") lane
    (number_member (codes "ts") from ++ (number_member (codes "dur") (to - from) ++ name_member name))

-- what happened at a time
abbrev pub instant_text : Lane → (time : ℕ) → (name : List ℕ) → List ℕ
instant_text lane time name =
    entry_text (codes "i") lane
    (number_member (codes "ts") time ++ (text_member (codes "s") (codes "t") ++ name_member name))

-- the number and the name of an arrow, at a time
abbrev pub flow_members : (time number : ℕ) → (name : List ℕ) → List Token
flow_members time number name =
    number_member (codes "ts") time
    ++ (number_member (codes "id") number
    ++ (text_member (codes "cat") (codes "flow") ++ text_member (codes "name") name))

-- an arrow leaves a track
abbrev pub flow_start_text : Lane → (time number : ℕ) → (name : List ℕ) → List ℕ
flow_start_text lane time number name = entry_text (codes "s") lane (flow_members time number name)

-- an arrow reaches the slice of a track that begins or lasts at its time
abbrev pub flow_end_text : Lane → (time number : ℕ) → (name : List ℕ) → List ℕ
flow_end_text lane time number name =
    entry_text (codes "f") lane (text_member (codes "bp") (codes "e") ++ flow_members time number name)

-- the name of a track or of its group
abbrev pub title_text : Lane → (what name : List ℕ) → List ℕ
title_text lane what name =
    entry_text (codes "M") lane
    (text_member (codes "name") what ++ (key (codes "args") ∷ begin_object ∷ name_member name ++ end_object ∷ []))
