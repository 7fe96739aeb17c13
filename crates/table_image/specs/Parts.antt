-- The parts of the law that are decided by one test each, stated about a single node, posting or request.
use Rattle.std.specs.Prelude.{ℕ, ◌+◌, ◌≡◌, ◌≢◌, ◌⊎◌, Bool, true, false, List, Some, All, Any, sum_by}
use Rattle.table_files.specs.declared.listed.OpenEntry.{OpenEntry}
use Rattle.paths.specs.Prefixes.{Name, Names}
use Rattle.holds.specs.declared.held.Held.{Held}
use Rattle.holds.specs.Conflicts.{IsHeld, IsSomePrefix}
use Rattle.ledger.specs.declared.postings.Posting.{Posting}
use Rattle.ledger.specs.declared.births.KeptBirths.{KeptBirths}
use Rattle.ledger.specs.declared.postings.Posting.TheVariants.{Born, Opening}
use Rattle.ledger.specs.Periods.{Periods}
use Rattle.ledger.specs.Shares.{nothing}
use Rattle.ledger.specs.Sums.{births_of, carried_by, entries_of, given_back_of, totals_by, IsCarriedOver}
use Rattle.tree.specs.declared.nodes.Key.{Key}
use Rattle.tree.specs.declared.nodes.Node.{Node}
use Rattle.tree.specs.declared.nodes.Place.TheVariants.{Root, Named}
use Rattle.tree.specs.Places.{Lookup, IsAlive, IsNamed, IsTree, Leads}
use Rattle.table_image.specs.declared.data.Hold.{Hold}
use Rattle.table_image.specs.declared.data.Record.{Record}
use Rattle.table_image.specs.declared.data.ImageStage.TheVariants.{Working}
use Rattle.table_law.specs.Law.{AreAlive, AreMarksNamed, HasPlainRoot, HasReason, HaveReasons, IsBornInOrder, IsCounted, IsUnborne}
use Rattle.table_image.specs.ImageLaw.{IsCountOf, sharers_of, exclusive_of}

-- ---- the tree

-- no node but number 1 is the root
pub record HasOneRoot (at : Lookup) : Type 0 where
  pub only : (n : ℕ) (x : Node) → at n ≡ Some x → x.place ≡ Root → n ≡ 1

abbrev pub IsRootAlone : Node → Type 0
IsRootAlone x = x.place ≡ Root → x.number ≡ 1

-- no two nodes have the same parent and the same name
pub record AreNamesApart (at : Lookup) : Type 0 where
  pub apart : (m n p : ℕ) (name : Name) → IsNamed at m p name → IsNamed at n p name → m ≡ n

-- the two nodes differ in their parent or in their name
pub record StandApart (x y : Node) : Type 0 where
  pub apart : (key : Key) → x.place ≡ Named key → y.place ≡ Named key → ⊥

-- following parents from a node with a name ends at the root
pub record AreAllReached (at : Lookup) : Type 0 where
  pub reached : (n p : ℕ) (name : Name) → IsNamed at n p name → Leads at n

pub record IsReached (at : Lookup) (x : Node) : Type 0 where
  pub leads : (key : Key) → x.place ≡ Named key → Leads at x.number

-- ---- marks

abbrev pub IsMarkNamed : Node → Type 0
IsMarkNamed x = x.hidden ≡ true → (key : Key) × (x.place ≡ Named key)

-- ---- the ledger

-- a ledger with these births and postings, but nothing else posted before: only one part of the law depends on earlier
-- totals
abbrev pub after_closed : List KeptBirths → List Posting → Periods
after_closed births last = record { births = births; totals = nothing; last = last }

-- the sum of all births that are kept
abbrev pub births_summed : List KeptBirths → ℕ
births_summed kept = sum_by (λ (b : KeptBirths). b.count) kept

-- the posting is the birth or the opening of that number and generation
abbrev pub Begins : Posting → ℕ → ℕ → Type 0
Begins p n g = (p ≡ Born n g) ⊎ ((k : ℕ) × (p ≡ Opening n g k))

-- ---- nodes and the ledger

-- the root, if there is one, has generation 0, count 0 and no mark
pub record IsRootPlain (at : Lookup) : Type 0 where
  pub plain : (x : Node) → at 1 ≡ Some x → (x.generation ≡ 0) × (x.count ≡ 0) × (x.hidden ≡ false)

-- each node except the root has the generation of the last birth of its number
pub record BearLastBirths (at : Lookup) (ps : Periods) : Type 0 where
  pub generations : (n : ℕ) (x : Node) → at n ≡ Some x → n ≢ 1 → x.generation + 1 ≡ births_of n ps

pub record BearsLastBirth (ps : Periods) (x : Node) : Type 0 where
  pub generation : x.number ≢ 1 → x.generation + 1 ≡ births_of x.number ps

-- each lookup count is its entries less what was given back and forgotten
pub record AreCountsExact (at : Lookup) (ps : Periods) : Type 0 where
  pub counts : (n : ℕ) (x : Node) → at n ≡ Some x → x.count + given_back_of n x.generation ps ≡ entries_of n x.generation ps

unfoldable pub IsCountExact : Periods → Node → Type 0
IsCountExact ps x = x.count + given_back_of x.number x.generation ps ≡ entries_of x.number x.generation ps

-- of a number and generation that no node has, nothing is left
pub record AreOthersSettled (at : Lookup) (ps : Periods) : Type 0 where
  pub others : (n g : ℕ) → IsUnborne at n g → given_back_of n g ps ≡ entries_of n g ps

-- ---- sums over the whole ledger and all nodes

-- all entries, including those that were left when the period began
abbrev pub entered_in_all : List Posting → ℕ
entered_in_all ps = sum_by (λ p. carried_by p + (totals_by p).entries) ps

-- those of them that were given back or forgotten
abbrev pub given_in_all : List Posting → ℕ
given_in_all ps = sum_by (λ p. (totals_by p).backs + (totals_by p).forgotten) ps

-- all lookup counts
abbrev pub counts_in_all : List Node → ℕ
counts_in_all xs = sum_by (λ (x : Node). x.count) xs

-- ---- requests

-- the two requests have different ids
abbrev pub HaveOtherIds : Record → Record → Type 0
HaveOtherIds r s = r.id ≢ s.id

-- some node has the number
unfoldable pub IsLiving : Lookup → ℕ → Type 0
IsLiving at n = IsAlive at n

-- each number that the request pins has a living node
unfoldable pub PinsLiving : Lookup → Record → Type 0
PinsLiving at r = All (IsLiving at) r.pins

-- the node has that parent
unfoldable pub IsChildOf : ℕ → Node → Type 0
IsChildOf parent x = (name : Name) × (x.place ≡ Named (record { parent = parent; name = name }))

-- the node is the root, or has a reason to be alive
pub record IsReasoned (at : Lookup) (kept : ℕ → Bool) (x : Node) : Type 0 where
  pub reason : x.number ≢ 1 → HasReason at kept x.number x

-- ---- open files

-- the two files have different handles
abbrev pub HaveOtherHandles : OpenEntry → OpenEntry → Type 0
HaveOtherHandles f g = f.handle ≢ g.handle

-- the node of the file is alive
unfoldable pub IsOfLiving : Lookup → OpenEntry → Type 0
IsOfLiving at f = IsAlive at f.file.number

-- ---- what requests hold

-- the numbers of the path are those of the requests, and not both 0
unfoldable pub IsHoldCount : List Record → Hold → Type 0
IsHoldCount records h = IsCountOf (sharers_of records) (exclusive_of records) h

-- the two have different paths
abbrev pub HaveOtherPaths : Hold → Hold → Type 0
HaveOtherPaths h k = h.path ≢ k.path

-- the path is stored
unfoldable pub IsStored : List Hold → Names → Type 0
IsStored holds path = Any (λ h. h.path ≡ path) holds

-- each path that the request holds while it is in progress is stored
pub record AreStored (holds : List Hold) (r : Record) : Type 0 where
  pub shared : r.stage ≡ Working → All (IsStored holds) r.held.shared
  pub exclusive : r.stage ≡ Working → All (IsStored holds) r.held.exclusive

-- the request holds each prefix of the path except the empty one
unfoldable pub ArePrefixesHeld : Held → Names → Type 0
ArePrefixesHeld held path = (prefix : Names) → IsSomePrefix prefix path → IsHeld held prefix

-- ---- the law in two halves

-- what it says about nodes and the ledger
pub record AreBooked (at : Lookup) (ps : Periods) : Type 0 where
  pub root : HasPlainRoot at ps
  pub counted : IsCounted at ps
  pub born : IsBornInOrder at ps
  pub carried : IsCarriedOver ps

-- and what it says about nodes, and what keeps them alive
pub record AreNodesKept (at : Lookup) (kept : ℕ → Bool) : Type 0 where
  pub tree : IsTree at
  pub marks : AreMarksNamed at
  pub alive : AreAlive at kept
  pub reasons : HaveReasons at kept
