-- The second total's tables: the flags of the visits that are charged a load, and what entering a loop is charged, by its header.
use Rattle.std.specs.Prelude.{ℕ, ◌≤◌, ◌<◌, ◌≡◌, cond, get_or, ltb}
use mathlib.Core.List.{List, Memᴰ}
use Rattle.model.specs.declared.Loop.{Loop}
use Rattle.model.specs.declared.Problem.{Problem}
use Rattle.model.specs.Graph.{loops_of}
use Rattle.model.specs.Charges.{entry_charge}
use Rattle.early.specs.Early.{early_in, first_limit}

-- The flag of v, set too where the chains have no loop that holds v and the words say that v is early.
unfoldable pub second_flag : (loops early flags : List ℕ) → ℕ → ℕ
second_flag loops early flags v = cond (ltb 0 (get_or loops v 0)) (get_or flags v 0) (cond (early_in early v) 1 (get_or flags v 0))

pub record SecondFlags (p : Problem) (loops early flags charged : List ℕ) : Type 0 where
  pub flag : (v : ℕ) → v < p.vertex_count → get_or charged v 0 ≡ second_flag loops early flags v

-- What entering k is charged.
pub record EntryCharged (p : Problem) (early : List ℕ) (k : Loop) (charge : ℕ) : Type 0 where
  pub is : charge ≡ entry_charge p (early_in early) k
  pub small : charge ≤ first_limit

pub record EntriesCharged (p : Problem) (early enter : List ℕ) : Type 0 where
  pub each : (k : Loop) → Memᴰ k (loops_of p) → get_or enter k.header 0 ≡ entry_charge p (early_in early) k
  pub small : (v : ℕ) → get_or enter v 0 ≤ first_limit
