-- The law of nodes and ledger, as a table maintains it.
use Rattle.std.specs.Prelude.{ℕ, ◌≡◌, ◌≢◌, Bool, Some}
use Rattle.ledger.specs.Periods.{Periods}
use Rattle.ledger.specs.Sums.{IsCarriedOver}
use Rattle.tree.specs.declared.nodes.Node.{Node}
use Rattle.tree.specs.Places.{Lookup, IsTree}
use Rattle.table_law.specs.Law.{AreAlive, AreMarksNamed, HasPlainRoot, HaveReasons, IsBegun, IsBornInOrder, IsCounted}

-- each node except the root was born or carried over in the last period
abbrev pub AreBegun : Lookup → Periods → Type 0
AreBegun at ps = (n : ℕ) (x : Node) → at n ≡ Some x → n ≢ 1 → IsBegun ps n x.generation

-- what the law says about nodes, ledger and what is kept alive, except for the tree and the reasons
pub record IsBooked (at : Lookup) (ps : Periods) (kept : ℕ → Bool) : Type 0 where
  pub root : HasPlainRoot at ps
  pub counted : IsCounted at ps
  pub born : IsBornInOrder at ps
  pub carried : IsCarriedOver ps
  pub begun : AreBegun at ps
  pub marks : AreMarksNamed at
  pub alive : AreAlive at kept

-- the law of an image, and that each node was born or carried over in the last period
pub record IsUpheld (at : Lookup) (ps : Periods) (kept : ℕ → Bool) : Type 0 where
  pub tree : IsTree at
  pub booked : IsBooked at ps kept
  pub reasons : HaveReasons at kept
