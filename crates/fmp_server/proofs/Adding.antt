-- Tokens that are written one after the other.
use Rattle.std.proofs.Common.{◌≡◌, ◌++◌, ℕ, List, [], ap, ◌∙◌, drop, length}
use Rattle.std.proofs.lemmas.List.{append_assoc, append-nil}
use Rattle.std.proofs.Math.Seq.{drop-append_seam, drop-length}
use Rattle.json.specs.Token.{Token}
use Rattle.fmp_server.specs.declared.messages.RequestId.{RequestId}
use Rattle.fmp_server.specs.Messages.{Adds, IsAnswered, answer, answer_head, ended, notification}
use Rattle.fmp_server.specs.Messages.{notification_head}

pub ruleset adding = (drop-append_seam, drop-length, append_assoc, append-nil)

whole : (head old new : List Token) → old ≡ head → Adds old new → new ≡ head ++ drop (length old) new
whole head old new is adds = adds ∙ ap (λ (h : List Token). h ++ drop (length old) new) is

written : (before bytes : List ℕ) (head old new : List Token) → before ≡ [] → old ≡ head → Adds old new
    → bytes ≡ before ++ ended new → bytes ≡ ended (head ++ drop (length old) new)
written before bytes head old new none is adds e =
    e ∙ ap (λ (b : List ℕ). b ++ ended new) none ∙ ap (λ (t : List Token). ended t) (whole head old new is adds)

-- what was added to the head of an answer is its value
pub answered : (id : RequestId) (before bytes : List ℕ) (old new : List Token) → before ≡ [] → old ≡ answer_head id
    → Adds old new → bytes ≡ before ++ ended new → IsAnswered id bytes
answered id before bytes old new none is adds e =
    (drop (length old) new, written before bytes (answer_head id) old new none is adds e)

-- a value after the head of an answer is its value
pub answered_by : (id : RequestId) (before bytes : List ℕ) (old new value : List Token) → before ≡ []
    → old ≡ answer_head id → new ≡ old ++ value → bytes ≡ before ++ ended new → bytes ≡ answer id value
answered_by id before bytes old new value none is adds e =
    e ∙ ap (λ (b : List ℕ). b ++ ended new) none
    ∙ ap (λ (t : List Token). ended t) (adds ∙ ap (λ (h : List Token). h ++ value) is)

-- what was added to the head of a notification is its value
pub notified : (method before bytes : List ℕ) (old new : List Token) → before ≡ [] → old ≡ notification_head method
    → Adds old new → bytes ≡ before ++ ended new → (value : List Token) × (bytes ≡ notification method value)
notified method before bytes old new none is adds e =
    (drop (length old) new, written before bytes (notification_head method) old new none is adds e)
