-- The walk so far, entry by entry: what goes on from its end goes on from vertex 0.
use Prim.Native.Nat.{ℕ, suc, ◌+◌, ◌≤◌, ◌<◌}
use mathlib.Core.Path.{◌≡◌, refl, sym, ap, subst, ◌∙◌}
use mathlib.Core.List.{List, [], ◌∷◌, ◌++◌, append-nil}
use native.Mathlib.Omega.{arith}
use lib.ListN.{length, get_or, set, length-set, length-append}
use lib.Seq.{sets, append_snoc}
use Rattle.model.specs.Numbers.{problem_of}
use Rattle.model.specs.Costs.{function_of}
use Rattle.model.specs.Places.{most_vertices}
use Rattle.model.proofs.Lists.{stored_behind}
use Rattle.lookup.proofs.Places.{facts, some_vertex, vertex_small}
use Rattle.lookup.proofs.Walks.{edge_below}
use Rattle.ways.specs.Ways.{phase_after, no_way, steps, turn, Nearest, Falls}
use Rattle.ways.proofs.Turns.{first_steps}
use Rattle.ways.proofs.Exact.{phase_low, back}
use Rattle.ways.proofs.Known.{edges_small}
use Rattle.following.specs.Following.{Seekable, Lowest, Followable}

module _ {l begins : List ℕ} {f g : ℕ} {d : List ℕ} {phase room : ℕ} (ready : Followable l begins f g d phase room) (base : List ℕ) where
  -- n entries behind vertex 0 stand in the buffer. They lead to u, met in phase s, from where as many steps are left.
  pub record Following (walk : List ℕ) (u s left n : ℕ) : Type 0 where
    pub there : u < (problem_of l).vertex_count
    pub low : s < 2
    pub number : steps d u s ≡ left
    pub whole : n + left ≡ steps d 0 phase
    pub done : List ℕ
    pub count : length done ≡ n
    pub is : walk ≡ sets base 1 done
    pub long : length walk ≡ length base
    pub on : (ws : List ℕ) → Falls (problem_of l) f g d s u ws → Falls (problem_of l) f g d phase 0 (done ++ ws)

  pub follow_begun : {left : ℕ} → left ≡ get_or d phase 0 → Following base 0 phase left 0
  follow_begun all = record {
    there = omega (arith, some_vertex l (facts l ready.leading.checked));
    low = ready.leading.low;
    number = omega (arith, first_steps d phase);
    whole = omega (arith, first_steps d phase);
    done = [];
    count = refl;
    is = refl;
    long = refl;
    on = λ ws falls. falls;
  }

  module _ {walk : List ℕ} {u s left n : ℕ} (following : Following walk u s left n) where
    small : u < most_vertices
    small = vertex_small l (facts l ready.leading.checked) u following.there

    -- The next entry has a place in the buffer, and a low one.
    pub next_inside : 0 < left → (n + 1 < room) × (n + 1 < no_way)
    next_inside more = (omega (arith, following.whole, ready.enough), omega (arith, following.whole, ready.leading.way))

    -- k is the function of u, t the phase after it, and `rest` what is left then.
    module _ {k t rest : ℕ} (is_k : k ≡ function_of (problem_of l) u) (after : t ≡ phase_after f g k s) (one_less : left ≡ suc rest) where
      is_t : t ≡ turn (problem_of l) f g s u
      is_t = after ∙ ap (λ (x : ℕ). phase_after f g x s) is_k

      pub follow_next : Seekable l begins d u t rest
      follow_next =
          let e : steps d u s ≡ suc rest = omega (arith, following.number) in
          let (w, edge, near) =
          back (problem_of l) f g ready.leading.goal d (edges_small l ready.leading.checked) ready.leading.at_rest u s rest small following.low e
          (omega (arith, following.whole, ready.leading.way)) in
          record {
            checked = ready.leading.checked;
            starts = ready.leading.starts;
            there = following.there;
            low = rw is_t (phase_low f g (function_of (problem_of l) u) s following.low);
            leads = (w, edge, rw is_t near);
          }

      module _ {w : ℕ} (lowest : Lowest (problem_of l) d u t rest w) where
        pub next_small : w < most_vertices
        next_small = (edges_small l ready.leading.checked u w lowest.edge).1

        nearest : Nearest (problem_of l) f g d s u w
        nearest = record {
          edge = lowest.edge;
          nearer = omega (arith, following.number, rw is_t at lowest.has);
          least = λ x edge nearer. lowest.least x edge (rw is_t (omega (arith, following.number)));
        }

        pub follow_on : {now : ℕ} → now ≡ rest → Following (set walk (n + 1) w) w t now (n + 1)
        follow_on is_rest = record {
          there = (edge_below ready.leading.checked lowest.edge).1;
          low = rw is_t (phase_low f g (function_of (problem_of l) u) s following.low);
          number = omega (arith, lowest.has);
          whole = omega (arith, following.whole);
          done = following.done ++ (w ∷ []);
          count = omega (arith, length-append following.done (w ∷ []), following.count);
          is =
              stored_behind base walk (set walk (n + 1) w) 1 (n + 1) following.done (w ∷ []) following.is (omega (arith, following.count)) refl;
          long = length-set walk (n + 1) w ∙ following.long;
          on = λ ws falls.
              subst (Falls (problem_of l) f g d phase 0) (sym (append_snoc following.done w ws))
              (following.on (w ∷ ws) (nearest, subst (λ (x : ℕ). Falls (problem_of l) f g d x w ws) is_t falls));
        }

    pub followed : left ≤ 0 → (ws : List ℕ) × Falls (problem_of l) f g d phase 0 ws × (walk ≡ sets base 1 ws)
    followed over =
        (following.done, subst (Falls (problem_of l) f g d phase 0) (append-nil following.done) (following.on [] (omega (arith, following.number))), following.is)

-- Storing an entry leaves as much room.
pub room_kept : {l begins : List ℕ} {f g : ℕ} {d : List ℕ} {phase : ℕ} (walk : List ℕ) (i x : ℕ) → Followable l begins f g d phase (length walk) →
    Followable l begins f g d phase (length (set walk i x))
room_kept {l} {begins} {f} {g} {d} {phase} walk i x = subst (Followable l begins f g d phase) (sym (length-set walk i x))
