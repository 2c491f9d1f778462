use Rattle.fmp_diagnosis.proofs.FoundTopics.{counted_code, found_topic}
use Rattle.fmp_diagnosis.proofs.topics.every_topic_is_found.Goals as goal

pub returns : goal.returns
returns c = (found_topic, counted_code)
