use Rattle.fmp_engine.proofs.Again.{simulates_again}
use Rattle.fmp_engine.proofs.Headline.{each_ok, hosts_texts}
use Rattle.fmp_engine.proofs.hosting.host.Goals as goal

pub returns-clause-headline : goal.returns-clause-headline
returns-clause-headline g c = λ cfg src i b spelled.
    each_ok c.host_image.result
    (λ made h. hosts_texts i b.tasks.bodies c.args.image.now c.args.work _ _ _ h spelled
    (λ es. c.built_image_prints_text.ensures cfg src i b c.args.work.bound es c.requires.bound_low))
    c.host_image.ensures.ok

pub returns-clause-again : goal.returns-clause-again
returns-clause-again g c =
    each_ok c.host_image.result (λ made h. simulates_again c.args.image.now c.args.work _ _ _
    c.printed_steps_read_back.ensures c.requires h) c.host_image.ensures.ok
