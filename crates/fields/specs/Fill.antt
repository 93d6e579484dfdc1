-- The numbers of the fields that a file has, put into another list: what reading a file leaves there.
use Rattle.std.specs.Prelude.{ℕ, zero, suc, List, cond, get_or, set}
use Rattle.model.specs.declared.Field.{Field}
use Rattle.model.specs.File.{at_end, next_field}

-- From the field c on, at most n fields of the numbers l, put into m.
unfoldable pub fill_from : ℕ → Field → List ℕ → List ℕ → List ℕ
fill_from zero c l m = m
fill_from (suc n) c l m =
    cond (at_end c) m (fill_from n (next_field c (get_or l c.place 0)) l (set m c.place (get_or l c.place 0)))
