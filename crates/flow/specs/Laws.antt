-- What a flow satisfies, so that it comes to rest at what walks show.
use Rattle.std.specs.Prelude.{ℕ, ◌<◌, ◌≡◌, List, length}
use Rattle.model.specs.declared.Problem.{Problem}
use Rattle.model.specs.Graph.{edges_of}
use Rattle.bits.specs.Words.{Has, Sound}
use Rattle.flow.specs.Rounds.{Flow}
use Rattle.flow.specs.Starts.{from, to}

module _ {p : Problem} (F : Flow p) where
  -- Row u of `after` has no member that it had not in ws.
  abbrev pub NoMore : ℕ → List ℕ → List ℕ → Type 0
  NoMore u ws after = (f b : ℕ) → f < F.width → Has after (F.at u f) b → Has ws (F.at u f) b

  -- Rows lie apart, what edges from u bring depends on the row of u alone, and they bring only good members.
  pub record Laws : Type 0 where
    pub apart : (x v f h : ℕ) → f < F.width → h < F.width → F.at x f ≡ F.at v h → x ≡ v
    pub local : (ws after : List ℕ) (u : ℕ) → NoMore u ws after → (f b : ℕ) → f < F.width → F.Brings after u f b → F.Brings ws u f b
    pub good : (ws : List ℕ) → Sound F.Good ws → (i : ℕ) → i < length (edges_of p) → (f b : ℕ) → f < F.width →
        F.Brings ws (from p i) f b → F.Good (F.at (to p i) f) b
