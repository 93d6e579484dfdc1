-- `read_place` reads the place and the end.
use Rattle.std.proofs.Common.{rules}
use Rattle.model.specs.Decimals.{text}
use Rattle.sentences.specs.Remarks.{after_place}
use Rattle.sentences.proofs.Steps.{counts, placed_so}
use Rattle.sentences.proofs.reading.read_place.Goals as goal

pub returns : goal.returns
unfolding text
returns c =
    counts c.args.text.now c.args.at (after_place c.args.number) _ _ c.read_decimal.ensures c.requires.0 (search rules) (placed_so c.args.text.now c.in_ok-place.end _ _ _ c.numbered-refusal.ensures c.read_end.ensures)
