-- What holds of the stream of messages.
use Rattle.std.specs.Prelude.{◌≡◌, ℕ, ◌≤◌, List, [], ◌∷◌, ◌++◌, length}
use Rattle.fmp_server.specs.declared.framing.TheConstants.{MESSAGE_MAX}
use Rattle.fmp_server.specs.Framing.{Part, fed, fed_after, framed, fresh}

-- what comes in parts is read as what comes whole
abbrev pub ReadsParts : Type 0
ReadsParts =
    (p : Part) (a b : List ℕ) → fed p (a ++ b) ≡ (let r = fed p a in fed_after r.0 r.1 b)

-- a message that is framed is read back
abbrev pub ReadsBack : Type 0
ReadsBack =
    (b : ℕ) (bs : List ℕ) → length (b ∷ bs) ≤ MESSAGE_MAX → fed fresh (framed (b ∷ bs)) ≡ (fresh, (b ∷ bs) ∷ [])
