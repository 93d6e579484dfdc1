-- `step_to` looks the step up where v is a vertex.
use borrow.Author.Tests.{lt-ltb, le-ltb}
use Rattle.steps.proofs.step_to.Goals as goal

pub returns-then-v-vertices : goal.returns-then-v-vertices
returns-then-v-vertices c = rw (lt-ltb _ _ c.if-v-vertices.true)

pub returns : goal.returns
returns c = rw (le-ltb _ _ c.if-v-vertices.false)
