-- What a code means.
use Rattle.std.specs.Prelude.{ℕ, ◌≡◌, List, [], Option, Some, None}
use Rattle.fmp_diagnosis.specs.declared.topics.Topic.{Topic}
use Rattle.fmp_diagnosis.specs.Explanations.{IsExplained}

-- what is said of this topic; nothing if there is none
abbrev pub IsMeaning : Option Topic → Option (List ℕ) → Type 0
IsMeaning None text = text ≡ None
IsMeaning (Some topic) None = ⊥
IsMeaning (Some topic) (Some text) = IsExplained topic [] text
