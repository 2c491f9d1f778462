use Rattle.fmp_view.proofs.asking.runs_of.Goals as goal

pub returns : goal.returns
returns c = record {
  system = c.word_of.ensures;
  a = c.word_of-2.ensures;
  b = c.word_of-3.ensures;
  recordings = c.flag_of.result;
  flag = c.flag_of.ensures;
  bound = c.pair_bound.ensures;
}
