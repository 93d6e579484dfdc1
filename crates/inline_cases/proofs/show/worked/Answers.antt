-- `worked` shows and prices a problem that passed its checks.
use Rattle.lookup.proofs.Places.{facts}
use Rattle.inline_cases.proofs.show.worked.Goals as goal

pub problem-requires : goal.problem-requires
problem-requires g c = facts _ (c.inline_numbers-verdict.ensures.checked c.in-Ok.is)
