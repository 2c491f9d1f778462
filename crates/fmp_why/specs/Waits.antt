-- What a wait is for, and what is told of that.
use Rattle.std.specs.Prelude.{ℕ, List, Option, None, Some, codes}
use Rattle.fmp_base.specs.declared.catalogue.ObjectKind.{ObjectKind}
use Rattle.fmp_base.specs.declared.catalogue.ObjectKind.TheVariants as kind
use Rattle.fmp_base.specs.declared.states.WaitCause.{WaitCause}
use Rattle.fmp_base.specs.declared.states.WaitCause.TheVariants as cause
use Rattle.fmp_why.specs.declared.history.ObjectDeed.{ObjectDeed}
use Rattle.fmp_why.specs.declared.history.ObjectTrail.{ObjectTrail}

-- the object that a wait is for
abbrev pub object_of : WaitCause → Option (ObjectKind × ℕ)
object_of cause.Sleep = None
object_of cause.Delay = None
object_of (cause.Semaphore i) = Some (kind.Semaphore, i)
object_of (cause.Flag i pattern mode) = Some (kind.Flag, i)
object_of (cause.Sending i word) = Some (kind.DataQueue, i)
object_of (cause.Receiving i) = Some (kind.DataQueue, i)
object_of (cause.Mailbox i) = Some (kind.Mailbox, i)

-- who set a flag or sent to a queue last, and who took anything else last
abbrev pub deed_for : WaitCause → ObjectTrail → Option ObjectDeed
deed_for cause.Sleep trail = trail.taken
deed_for cause.Delay trail = trail.taken
deed_for (cause.Semaphore i) trail = trail.taken
deed_for (cause.Flag i pattern mode) trail = trail.given
deed_for (cause.Sending i word) trail = trail.given
deed_for (cause.Receiving i) trail = trail.taken
deed_for (cause.Mailbox i) trail = trail.taken

abbrev pub deed_words : WaitCause → List ℕ
deed_words cause.Sleep = codes "; last received by "
deed_words cause.Delay = codes "; last received by "
deed_words (cause.Semaphore i) = codes "; last taken by "
deed_words (cause.Flag i pattern mode) = codes "; last set by "
deed_words (cause.Sending i word) = codes "; last sent by "
deed_words (cause.Receiving i) = codes "; last received by "
deed_words (cause.Mailbox i) = codes "; last received by "
