-- Each topic is found by its word, and each error code by its number.
use Rattle.std.proofs.Common.{◌≡◌, Some, refl}
use Rattle.std.specs.Fmt.{digits}
use Rattle.fmp_base.specs.declared.codes.Er.{Er}
use Rattle.fmp_base.specs.declared.codes.Er.TheVariants as er
use Rattle.fmp_diagnosis.specs.declared.topics.Topic.{Topic}
use Rattle.fmp_diagnosis.specs.declared.topics.Topic.TheVariants as topic
use Rattle.fmp_diagnosis.specs.Topics.{IsCounted, IsFound, topic_asked, topic_named}

pub found_topic : (t : Topic) → IsFound t
unfolding topic_named topic_asked
found_topic (topic.Reply er.Ok) = record { named = refl; asked = refl; lower = refl }
found_topic (topic.Reply er.Sys) = record { named = refl; asked = refl; lower = refl }
found_topic (topic.Reply er.Nospt) = record { named = refl; asked = refl; lower = refl }
found_topic (topic.Reply er.Rsatr) = record { named = refl; asked = refl; lower = refl }
found_topic (topic.Reply er.Par) = record { named = refl; asked = refl; lower = refl }
found_topic (topic.Reply er.Id) = record { named = refl; asked = refl; lower = refl }
found_topic (topic.Reply er.Ctx) = record { named = refl; asked = refl; lower = refl }
found_topic (topic.Reply er.Iluse) = record { named = refl; asked = refl; lower = refl }
found_topic (topic.Reply er.Obj) = record { named = refl; asked = refl; lower = refl }
found_topic (topic.Reply er.Qovr) = record { named = refl; asked = refl; lower = refl }
found_topic (topic.Reply er.Rlwai) = record { named = refl; asked = refl; lower = refl }
found_topic (topic.Reply er.Tmout) = record { named = refl; asked = refl; lower = refl }
found_topic topic.Overflow = record { named = refl; asked = refl; lower = refl }
found_topic topic.Division = record { named = refl; asked = refl; lower = refl }
found_topic topic.Index = record { named = refl; asked = refl; lower = refl }
found_topic topic.Syntax = record { named = refl; asked = refl; lower = refl }
found_topic topic.TwiceNamed = record { named = refl; asked = refl; lower = refl }
found_topic topic.UnknownName = record { named = refl; asked = refl; lower = refl }
found_topic topic.Refused = record { named = refl; asked = refl; lower = refl }
found_topic topic.Limit = record { named = refl; asked = refl; lower = refl }
found_topic topic.StackTooSmall = record { named = refl; asked = refl; lower = refl }
found_topic topic.WrongEntryKind = record { named = refl; asked = refl; lower = refl }
found_topic topic.Shape = record { named = refl; asked = refl; lower = refl }
found_topic topic.ImageShort = record { named = refl; asked = refl; lower = refl }
found_topic topic.ImageMagic = record { named = refl; asked = refl; lower = refl }
found_topic topic.ImageVersion = record { named = refl; asked = refl; lower = refl }
found_topic topic.ImageTable = record { named = refl; asked = refl; lower = refl }
found_topic topic.ImageCode = record { named = refl; asked = refl; lower = refl }
found_topic topic.ImageTrailing = record { named = refl; asked = refl; lower = refl }
found_topic topic.StepForm = record { named = refl; asked = refl; lower = refl }
found_topic topic.StepRange = record { named = refl; asked = refl; lower = refl }
found_topic topic.TooManySteps = record { named = refl; asked = refl; lower = refl }
found_topic topic.HostWork = record { named = refl; asked = refl; lower = refl }
found_topic topic.HostThread = record { named = refl; asked = refl; lower = refl }
found_topic topic.RecordingForm = record { named = refl; asked = refl; lower = refl }
found_topic topic.RecordingRange = record { named = refl; asked = refl; lower = refl }
found_topic topic.RecordingTooLong = record { named = refl; asked = refl; lower = refl }

pub counted_code : (code : Er) → IsCounted code
unfolding topic_named topic_asked digits
counted_code er.Ok = record { signed = refl; unsigned = refl }
counted_code er.Sys = record { signed = refl; unsigned = refl }
counted_code er.Nospt = record { signed = refl; unsigned = refl }
counted_code er.Rsatr = record { signed = refl; unsigned = refl }
counted_code er.Par = record { signed = refl; unsigned = refl }
counted_code er.Id = record { signed = refl; unsigned = refl }
counted_code er.Ctx = record { signed = refl; unsigned = refl }
counted_code er.Iluse = record { signed = refl; unsigned = refl }
counted_code er.Obj = record { signed = refl; unsigned = refl }
counted_code er.Qovr = record { signed = refl; unsigned = refl }
counted_code er.Rlwai = record { signed = refl; unsigned = refl }
counted_code er.Tmout = record { signed = refl; unsigned = refl }
