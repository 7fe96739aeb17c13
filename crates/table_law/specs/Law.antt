-- The law of a table. It is stated about the node of each number (`at`), the ledger, which numbers are kept alive
-- (those that requests pin and those of open files), and what the requests hold.
use Rattle.std.specs.Prelude.{ℕ, ◌+◌, ◌<◌, ◌≤◌, ◌≡◌, ◌≢◌, ◌⊎◌, Bool, true, false, Some, All, Contains, length, slice_index_or}
use Rattle.table_files.specs.declared.data.OpenFile.{OpenFile}
use Rattle.table_files.specs.declared.listed.OpenEntry.{OpenEntry}
use Rattle.paths.specs.Prefixes.{Names}
use Rattle.holds.specs.declared.held.Held.{Held}
use Rattle.holds.specs.declared.held.GivenPath.{GivenPath}
use Rattle.holds.specs.Conflicts.{IsHeld, IsSomePrefix}
use Rattle.ledger.specs.declared.postings.Posting.{Posting}
use Rattle.ledger.specs.declared.postings.Posting.TheVariants.{Born, Entry, Back, Forget, Opening}
use Rattle.ledger.specs.Periods.{Periods, up_to}
use Rattle.ledger.specs.Sums.{number_of, births_closed, births_of, entries_of, given_back_of, is_opening, IsCarriedOver, IsNeverNegative}
use Rattle.tree.specs.declared.nodes.Key.{Key}
use Rattle.tree.specs.declared.nodes.Node.{Node}
use Rattle.tree.specs.declared.nodes.Place.TheVariants.{Named}
use Rattle.tree.specs.Places.{Lookup, IsAlive, IsPathOf, IsTree, HasChild}

-- ---- the ledger

-- that number and generation was born in the last period, or was carried over into it
abbrev pub IsBegun : Periods → ℕ → ℕ → Type 0
IsBegun ps n g = Contains ps.last (Born n g) ⊎ ((k : ℕ) × Contains ps.last (Opening n g k))

-- openings come first in a period, at most one for each number and generation, and only for one that was born in a
-- closed period
pub record MayOpen (before : Periods) (n g : ℕ) : Type 0 where
  pub first : All (λ p. is_opening p ≡ true) before.last
  pub once : IsBegun before n g → ⊥
  pub known : g < births_closed n before.births

-- a posting may follow those before it: a birth has as its generation the number of earlier births of its number, and
-- everything else comes after the birth or the opening of its number and generation
abbrev pub MayStand : Periods → Posting → Type 0
MayStand before (Born n g) = g ≡ births_of n before
MayStand before (Entry n g) = IsBegun before n g
MayStand before (Back n g) = IsBegun before n g
MayStand before (Forget n g amount) = IsBegun before n g
MayStand before (Opening n g count) = MayOpen before n g

pub record IsOrdered (ps : Periods) : Type 0 where
  pub each : (k : ℕ) (d : Posting) → k < length ps.last → MayStand (up_to k ps) (slice_index_or ps.last k d)

-- ---- nodes and the ledger

-- no node has this number and generation
abbrev pub IsUnborne : Lookup → ℕ → ℕ → Type 0
IsUnborne at n g = (x : Node) → at n ≡ Some x → x.generation ≢ g

pub record IsCounted (at : Lookup) (ps : Periods) : Type 0 where
  -- each lookup count is its entries less what was given back and forgotten
  pub counts : (n : ℕ) (x : Node) → at n ≡ Some x → x.count + given_back_of n x.generation ps ≡ entries_of n x.generation ps
  -- of a number and generation that no node has, nothing is left
  pub others : (n g : ℕ) → IsUnborne at n g → given_back_of n g ps ≡ entries_of n g ps
  -- at no time was more given back and forgotten than entered
  pub never_negative : IsNeverNegative ps

-- no number was born twice with the same generation, and a living node has the last one
pub record IsBornInOrder (at : Lookup) (ps : Periods) : Type 0 where
  pub ordered : IsOrdered ps
  pub generations : (n : ℕ) (x : Node) → at n ≡ Some x → n ≢ 1 → x.generation + 1 ≡ births_of n ps

-- the root is never born, counted or marked
pub record HasPlainRoot (at : Lookup) (ps : Periods) : Type 0 where
  pub plain : (x : Node) → at 1 ≡ Some x → (x.generation ≡ 0) × (x.count ≡ 0) × (x.hidden ≡ false)
  pub unposted : All (λ p. number_of p ≢ 1) ps.last

-- only nodes with a name have a hidden mark
abbrev pub AreMarksNamed : Lookup → Type 0
AreMarksNamed at = (n : ℕ) (x : Node) → at n ≡ Some x → x.hidden ≡ true → (key : Key) × (x.place ≡ Named key)

-- ---- nodes, and what keeps them alive

-- each of these numbers has a living node
abbrev pub AreAlive : Lookup → (ℕ → Bool) → Type 0
AreAlive at kept = (n : ℕ) → kept n ≡ true → IsAlive at n

-- why a node is alive: a lookup count, a hidden mark, a pin or an open file, or a child with a name
abbrev pub HasReason : Lookup → (ℕ → Bool) → ℕ → Node → Type 0
HasReason at kept n x = (0 < x.count) ⊎ (x.hidden ≡ true) ⊎ (kept n ≡ true) ⊎ HasChild at n

-- each node except the root has a reason
abbrev pub HaveReasons : Lookup → (ℕ → Bool) → Type 0
HaveReasons at kept = (n : ℕ) (x : Node) → at n ≡ Some x → n ≢ 1 → HasReason at kept n x

-- the node of the open file is alive, with the generation that it had when the file was opened
pub record HasNode (at : Lookup) (file : OpenFile) : Type 0 where
  pub node : Node
  pub here : at file.number ≡ Some node
  pub generation : node.generation ≡ file.generation

-- in addition, its handle was given out
pub record IsKnownFile (at : Lookup) (last : ℕ) (f : OpenEntry) : Type 0 where
  pub node : HasNode at f.file
  pub given : f.handle ≤ last

-- ---- what requests hold

-- the path recorded for a node leads to it, and the request holds each prefix of it
pub record IsGivenPath (at : Lookup) (held : Held) (lead : GivenPath) : Type 0 where
  pub path : IsPathOf at lead.number lead.path
  pub prefixes : (prefix : Names) → IsSomePrefix prefix lead.path → IsHeld held prefix

-- ---- the law

pub record IsLawful (at : Lookup) (ps : Periods) (kept : ℕ → Bool) : Type 0 where
  -- only the root has no parent and is not cut, names under a parent are distinct, and parents lead to the root
  pub tree : IsTree at
  pub root : HasPlainRoot at ps
  pub counted : IsCounted at ps
  pub born : IsBornInOrder at ps
  -- what is kept of closed periods is consistent
  pub carried : IsCarriedOver ps
  pub marks : AreMarksNamed at
  -- a pin or an open file is always of a living node
  pub alive : AreAlive at kept
  pub reasons : HaveReasons at kept
