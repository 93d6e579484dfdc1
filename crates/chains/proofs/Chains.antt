-- Laws of chains: what the last number below another that passes a test says, and how a table of chains is filled.
use Prim.Native.Nat.{ℕ, zero, suc, ◌+◌, ◌≤◌, ◌<◌}
use mathlib.Core.Path.{◌≡◌, refl, sym, ◌∙◌}
use mathlib.Core.List.{List}
use mathlib.Core.Bool.{Bool, true, false}
use native.Mathlib.Omega.{arith}
use native.Mathlib.Numerals.{add-one}
use lib.ListN.{get_or, replicate, get_or-replicate}
use Rattle.model.specs.Places as places
use Rattle.model.proofs.Cases.{by_bool, by_order, true_not_false}
use Rattle.chains.specs.Chains.{last_below, Chains}

module _ (test : ℕ → Bool) where
  pub last_within : (m : ℕ) → last_below test m ≤ m
  unfolding last_below
  last_within zero = omega arith
  last_within (suc m) = by_bool (test m) (λ e. rw e (omega arith)) (λ e. rw e (omega (arith, last_within m)))

  -- It passes.
  pub last_passes : (m i : ℕ) → last_below test m ≡ suc i → test i ≡ true
  unfolding last_below
  last_passes zero i q = absurd (omega arith)
  last_passes (suc m) i q =
      by_bool (test m)
      (λ e. let h : suc m ≡ suc i = rw e at q in let k : i ≡ m = omega arith in rw (k, e))
      (λ e. last_passes m i (rw e at q))

  -- What those that do not pass leave as it is, is the same at the last that passes.
  pub last_skip : {A : Type 0} (f : ℕ → A) (m : ℕ) → ((i : ℕ) → i < m → test i ≡ false → f (suc i) ≡ f i) → f m ≡ f (last_below test m)
  unfolding last_below
  last_skip f zero same = refl
  last_skip f (suc m) same =
      by_bool (test m) (λ e. rw e) (λ e. rw e (same m (omega arith) e ∙ last_skip f m (λ i h. same i (omega arith))))

  -- None that passes is behind it.
  pub last_least : (m i : ℕ) → i < m → test i ≡ true → i < last_below test m
  unfolding last_below
  last_least zero i h p = absurd (omega arith)
  last_least (suc m) i h p =
      by_bool (test m)
      (λ e. rw e (omega arith))
      (λ e. rw e (last_least m i (by_order i m (λ less. less) (λ more. let q : i ≡ m = omega arith in true_not_false (sym (rw q at p) ∙ e))) p))

  pub last_same : (other : ℕ → Bool) (m : ℕ) → ((i : ℕ) → i < m → test i ≡ other i) → last_below test m ≡ last_below other m
  unfolding last_below
  last_same other zero same = refl
  last_same other (suc m) same = rw (same m (omega arith), last_same other m (λ i h. same i (omega arith)))

module _ {of : ℕ → ℕ → Bool} {at : ℕ → ℕ} where
  pub no_chains : (size : ℕ) → places.most_vertices ≤ size → Chains of at 0 (replicate size 0)
  unfolding last_below
  no_chains size room = record { last = λ v h. get_or-replicate {A = ℕ} size v 0 0 (omega arith); link = λ i h. absurd (omega arith) }

  -- One more thing: it is now the last of the chains that it is in, and goes on where the chain of `at i` began.
  pub one_more_lem : {i : ℕ} {s s' : List ℕ} → Chains of at i s → at i < places.most_vertices
      → ((v : ℕ) → v < places.most_vertices → of v i ≡ true → get_or s' v 0 ≡ i + 1) → ((v : ℕ) → v < places.most_vertices → of v i ≡ false → get_or s' v 0 ≡ get_or s v 0)
      → get_or s' (places.most_vertices + i) 0 ≡ get_or s (at i) 0 → ((j : ℕ) → j < i → get_or s' (places.most_vertices + j) 0 ≡ get_or s (places.most_vertices + j) 0)
      → Chains of at (i + 1) s'
  unfolding last_below
  one_more_lem {i} {s} {s'} chains inside here elsewhere new old =
      record {
        last = λ v h. rw add-one (by_bool (of v i) (λ e. rw e (here v h e ∙ add-one i)) (λ e. rw e (elsewhere v h e ∙ chains.last v h)));
        link = λ j h. by_order j i (λ less. old j less ∙ chains.link j less) (λ more. let q : j ≡ i = omega arith in rw q (new ∙ chains.last (at i) inside));
      }

  pub link_less : {n : ℕ} {s : List ℕ} → Chains of at n s → (i : ℕ) → i < n → get_or s (places.most_vertices + i) 0 < i + 1
  link_less chains i h = omega (arith, chains.link i h, last_within (of (at i)) i)

  pub all_chains : {i n : ℕ} {s : List ℕ} → i ≤ n → n ≤ i → Chains of at i s → Chains of at n s
  all_chains {i} {n} low high chains = let q : i ≡ n = omega arith in rw q at chains
