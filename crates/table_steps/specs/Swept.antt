-- Nodes that are dropped since nothing keeps them alive.
use Rattle.std.specs.Prelude.{ℕ, ◌≡◌, Bool, false, Some, None}
use Rattle.tree.specs.declared.nodes.Node.{Node}
use Rattle.tree.specs.Places.{Lookup, HasChild}

-- nothing keeps the node alive
pub record IsNeedless (at : Lookup) (kept_alive : ℕ → Bool) (n : ℕ) (x : Node) : Type 0 where
  pub not_root : n ≡ 1 → ⊥
  pub count : x.count ≡ 0
  pub unmarked : x.hidden ≡ false
  pub unkept : kept_alive n ≡ false
  pub childless : HasChild at n → ⊥

-- the same nodes, without some that nothing keeps alive any more
pub record IsSwept (kept_alive : ℕ → Bool) (old new : Lookup) : Type 0 where
  pub kept : (n : ℕ) (x : Node) → new n ≡ Some x → old n ≡ Some x
  pub gone : (n : ℕ) (x : Node) → old n ≡ Some x → new n ≡ None → IsNeedless new kept_alive n x
