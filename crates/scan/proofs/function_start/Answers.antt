-- `function_start` meets its definition, at a function's size and elsewhere.
use Rattle.scan.proofs.Functions.{first_start, other_start}
use Rattle.scan.proofs.function_start.Goals as goal

pub returns-then-c-eq-SIZE : goal.returns-then-c-eq-SIZE
returns-then-c-eq-SIZE c = first_start c.requires c.if-c-eq-SIZE.true _ _

pub returns-else-c-eq-SIZE : goal.returns-else-c-eq-SIZE
returns-else-c-eq-SIZE c = other_start c.requires c.if-c-eq-SIZE.false _ _
