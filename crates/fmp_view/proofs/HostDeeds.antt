-- Of what a system did nothing is known.
use Rattle.std.proofs.Common.{ℕ, List, None, Result, Ok, Err, OnErr, inl}
use Rattle.fmp_files.specs.Deeds.{Begins, Deed}

pub unknown_begins : {A E : Type 0} (result : Result A E) (deed : List ℕ → Deed) (bytes : List ℕ)
    → OnErr result (Begins deed bytes None None)
unknown_begins (Ok value) deed bytes = tt
unknown_begins (Err error) deed bytes = inl tt
