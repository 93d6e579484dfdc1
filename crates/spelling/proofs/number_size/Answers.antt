-- `number_size` answers as `numberSize` does, test by test.
use borrow.Author.Tests.{lt-ltb, le-ltb}
use Rattle.model.specs.Spelling.{number_size}
use Rattle.spelling.proofs.number_size.Goals as goal

pub returns-then-value-lt128 : goal.returns-then-value-lt128
unfolding number_size
returns-then-value-lt128 c = simp (lt-ltb _ _ c.if-value-lt128.true)

pub returns-then-value-lt16384 : goal.returns-then-value-lt16384
unfolding number_size
returns-then-value-lt16384 c = simp (le-ltb _ _ c.if-value-lt128.false, lt-ltb _ _ c.if-value-lt16384.true)

pub returns-then-value-lt2097152 : goal.returns-then-value-lt2097152
unfolding number_size
returns-then-value-lt2097152 c = simp (le-ltb _ _ c.if-value-lt128.false, le-ltb _ _ c.if-value-lt16384.false, lt-ltb _ _ c.if-value-lt2097152.true)

pub returns-then-value-lt268435456 : goal.returns-then-value-lt268435456
unfolding number_size
returns-then-value-lt268435456 c = simp (le-ltb _ _ c.if-value-lt128.false, le-ltb _ _ c.if-value-lt16384.false, le-ltb _ _ c.if-value-lt2097152.false, lt-ltb _ _ c.if-value-lt268435456.true)

pub returns : goal.returns
unfolding number_size
returns c = simp (le-ltb _ _ c.if-value-lt128.false, le-ltb _ _ c.if-value-lt16384.false, le-ltb _ _ c.if-value-lt2097152.false, le-ltb _ _ c.if-value-lt268435456.false)
