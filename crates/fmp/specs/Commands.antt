-- The files of a command.
use Rattle.std.specs.Prelude.{ℕ, List, [], ◌∷◌, Option, None, Some, string_bytes}
use Rattle.fmp_lex.specs.Faults.{text_max}
use Rattle.fmp.specs.declared.asking.Cmd.{Cmd}
use Rattle.fmp.specs.declared.asking.Cmd.TheVariants.{Check, Build, Sim, Host, Stored}

-- how many files a command reads
abbrev pub input_count : Cmd → ℕ
input_count (Check _ _) = 2
input_count (Build _ _ _) = 2
input_count (Sim _ _ _) = 2
input_count (Host _ _ _ _ _ _ _) = 1
input_count Stored = 0

-- the names of the files that a command reads, in order of its words
abbrev pub inputs_of : Cmd → List (List ℕ)
inputs_of (Check config tasks) = string_bytes config ∷ string_bytes tasks ∷ []
inputs_of (Build config tasks _) = string_bytes config ∷ string_bytes tasks ∷ []
inputs_of (Sim image steps _) = string_bytes image ∷ string_bytes steps ∷ []
inputs_of (Host image _ _ _ _ _ _) = string_bytes image ∷ []
inputs_of Stored = []

-- texts are read up to one byte past the limit of a text, images and steps to their end
abbrev pub limit_of : Cmd → Option ℕ
limit_of (Check _ _) = Some text_max
limit_of (Build _ _ _) = Some text_max
limit_of (Sim _ _ _) = None
limit_of (Host _ _ _ _ _ _ _) = None
limit_of Stored = None

-- the name of the file that a command writes
abbrev pub output_of : Cmd → Option (List ℕ)
output_of (Check _ _) = None
output_of (Build _ _ image) = Some (string_bytes image)
output_of (Sim _ _ _) = None
output_of (Host _ journal _ _ _ _ _) = Some (string_bytes journal)
output_of Stored = None
