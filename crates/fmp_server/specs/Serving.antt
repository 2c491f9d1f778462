-- What a server reads and writes.
use Rattle.std.specs.Prelude.{◌≡◌, ℕ, List, flat_map}
use Rattle.fmp_server.specs.declared.server.Server.{Server}
use Rattle.fmp_server.specs.Framing.{Part, fed, framed, part_of}
use Rattle.fmp_server.specs.Workspaces.{AreTaken}

-- how far the stream of messages was read
abbrev pub reading_of : Server → Part
reading_of s = part_of s.framing

-- messages, one after the other, each after its header
abbrev pub IsFramed : List ℕ → Type 0
IsFramed bytes = (messages : List (List ℕ)) × (bytes ≡ flat_map framed messages)

-- What a server writes after these bytes: the messages that end among them are taken one after the other, and each that
-- answers them goes after its header.
pub record IsServed (old new : Server) (bytes out : List ℕ) : Type 0 where
  pub answers : List (List ℕ)
  pub taken : AreTaken (fed (reading_of old) bytes).1 old.workspace new.workspace answers
  pub out_is : out ≡ flat_map framed answers
