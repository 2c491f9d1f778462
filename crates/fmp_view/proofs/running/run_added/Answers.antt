use Rattle.std.proofs.Common.{◌≡◌, ◌∙◌, ap, map, string_bytes}
use Rattle.fmp_view.proofs.RunEnds.{ends_added}
use Rattle.fmp_view.proofs.running.run_added.Goals as goal

pub returns : goal.returns
returns g c = λ done.
    ends_added _ _ c.args.typed.now _ c.args.added.now _ _ _ _ c.tell_added.ensures.files c.requires
    c.in_ok-tell_added.ensures.tells
    (ap (map string_bytes) c.deref-2.ensures.value ∙ rw c.deref.ensures.value at c.in_ok-words.ensures)
    (c.run_joined.ensures done)
