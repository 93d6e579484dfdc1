-- What `examiner_write` makes of a file that is read as p: the shortest file of p. And what was written back is written back as it is.
use Prim.Native.Nat.{ℕ, ◌≤◌}
use Rattle.std.specs.Prelude.{Ok}
use mathlib.Core.Path.{◌≡◌, sym, ap, ◌∙◌}
use mathlib.Core.List.{List, ◌++◌}
use lib.ListN.{length, take, drop}
use Rattle.model.specs.declared.Problem.{Problem}
use Rattle.model.specs.Spelling.{Bytes}
use Rattle.model.specs.Operations.{read_file}
use Rattle.roundtrip.specs.Files.{short_file}
use Rattle.roundtrip.proofs.Trip.{Rewritten, read_then_write}
use Rattle.examiner.specs.Exports.{write_out}
use Rattle.examiner.proofs.Alike.{back_by, back_alike}

module _ (s : List ℕ) (byte : Bytes s) (p : Problem) (is_read : read_file s ≡ Ok p) (out : List ℕ)
    (room : length (short_file p) ≤ length out) where
  rewritten : Rewritten p out
  rewritten = read_then_write s byte p is_read out room

  pub written_back : write_out s out ≡ short_file p ++ drop (length (short_file p)) out
  written_back = back_by s (Ok p) is_read out ∙ rewritten.buffer

  -- Writing back the file at the front of `out` is writing back s.
  pub back_twice : (again : List ℕ) → write_out (take (length (short_file p)) (write_out s out)) again ≡ write_out s again
  back_twice again =
      back_alike (take (length (short_file p)) (write_out s out)) s
      (ap (λ (b : List ℕ). read_file (take (length (short_file p)) b)) (back_by s (Ok p) is_read out) ∙ rewritten.again ∙ sym is_read)
      again
