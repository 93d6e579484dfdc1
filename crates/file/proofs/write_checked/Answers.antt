-- `write_checked` meets Write's definition where the numbers are checked: what `put_file` says of the problem that they are of.
use Rattle.file.proofs.Stages.{own, passes}
use Rattle.file.proofs.write_checked.Goals as goal

pub put_file-requires : goal.put_file-requires
put_file-requires c = passes _ c.requires.fact_1 _ c.file_length-need.ensures

pub returns : goal.returns
returns c =
    let says = c.put_file.ensures _ (own _ c.requires.fact_1 _ c.file_length-need.ensures c.requires.fact_2) in
    record { value = says.answer; buf_after = says.buffer }
