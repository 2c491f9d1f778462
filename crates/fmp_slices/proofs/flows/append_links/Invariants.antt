use Rattle.std.proofs.Common.{◌≡◌, ◌+◌, ◌++◌, drop}
use Rattle.fmp_base.specs.Systems.{tables_of}
use Rattle.fmp_slices.specs.Traces.{link_text, texts_from}
use Rattle.fmp_slices.proofs.flows.append_links.Given as goal

abbrev pub invariant-loop-link : goal.invariant-loop-link
invariant-loop-link l =
    record {
      number : l.number ≡ l.link-index + 1;
      out :
          l.out.items
          ++ texts_from (link_text (tables_of l.sys) l.clock.times.items) l.number (drop l.link-index l.links)
          ≡ l.initial.out.items ++ texts_from (link_text (tables_of l.sys) l.clock.times.items) 1 l.links;
    }
