-- `early::early_words` has the words of the vertices passed.
use Rattle.model.specs.Numbers.{problem_of}
use Rattle.charges.proofs.Filling.{ValuesBelow}
use Rattle.early.specs.Early.{early_by, early_word}
use Rattle.early.proofs.early_words.Given as goal

abbrev pub invariant-loop-v : goal.invariant-loop-v
invariant-loop-v l = ValuesBelow (early_word (problem_of l.l) (early_by (problem_of l.l) l.flags l.fresh)) l.v l.early
