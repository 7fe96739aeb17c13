-- What holds while nodes that nothing keeps alive are dropped one by one.
use Rattle.std.specs.Prelude.{ℕ, ◌+◌, ◌≡◌, ◌≢◌, ◌≤◌, ◌⊎◌, Bool, true, List, [], ◌∷◌, Option, Some, None, Contains, length}
use Rattle.table_files.specs.Handles.{AreOpenEntries, Opened}
use Rattle.paths.specs.Prefixes.{Name}
use Rattle.tree.specs.declared.nodes.Node.{Node}
use Rattle.tree.specs.declared.nodes.Place.{Place}
use Rattle.tree.specs.declared.nodes.Place.TheVariants.{Root, Named, Cut}
use Rattle.tree.specs.Places.{Lookup, Nodes, at_in, IsCut, IsNamed, IsTree}
use Rattle.ledger.specs.Postings.{Postings}
use Rattle.ledger.specs.Periods.{Periods}
use Rattle.ledger.specs.Sums.{totals_over}
use Rattle.table_steps.specs.Steps.{files_without}
use Rattle.table_law.specs.Law.{HasReason}
use Rattle.table_steps.specs.Upheld.{IsBooked}

abbrev pub IsAmong : ℕ → List ℕ → Type 0
IsAmong n [] = ⊥
IsAmong n (b ∷ bs) = (n ≡ b) ⊎ IsAmong n bs

-- each node except the root has a reason, or is one of these
abbrev pub HaveReasonsBut : Lookup → (ℕ → Bool) → List ℕ → Type 0
HaveReasonsBut at kept but = (n : ℕ) (x : Node) → at n ≡ Some x → n ≢ 1 → (IsAmong n but → ⊥) → HasReason at kept n x

-- each node except the root has a reason, or is cut and in the list, or is the one that may lack it
pub record HaveReasonsAside (at : Lookup) (kept : ℕ → Bool) (but : Option ℕ) (cuts : List ℕ) : Type 0 where
  pub reasons : (n : ℕ) (x : Node) → at n ≡ Some x → n ≢ 1 → (but ≡ Some n → ⊥) → (x.place ≡ Cut → Contains cuts n → ⊥) → HasReason at kept n x

-- each node that is cut now was cut before or is in the list of newly cut nodes, and that list lost nothing
pub record AreListed (old new : Nodes) : Type 0 where
  pub kept : (n : ℕ) → Contains old.newly_cut n → Contains new.newly_cut n
  pub cut : (n : ℕ) → IsCut (at_in new) n → IsCut (at_in old) n ⊎ Contains new.newly_cut n

-- the one that may lack a reason
abbrev pub listed : Option ℕ → List ℕ
listed None = []
listed (Some n) = n ∷ []

-- the nodes are a tree in which all have a reason, except possibly these
pub record IsPruned (at : Lookup) (kept : ℕ → Bool) (but : List ℕ) : Type 0 where
  pub tree : IsTree at
  pub reasons : HaveReasonsBut at kept but

-- the law, except that some nodes may lack a reason
pub record IsNearly (at : Lookup) (ps : Periods) (kept : ℕ → Bool) (but : List ℕ) : Type 0 where
  pub booked : IsBooked at ps kept
  pub pruned : IsPruned at kept but

-- the number of a place's parent
abbrev pub parent_in : Place → Option ℕ
parent_in Root = None
parent_in (Named key) = Some key.parent
parent_in Cut = None

-- the number of a node's parent, if there is a node
abbrev pub parent_at : Option Node → Option ℕ
parent_at None = None
parent_at (Some x) = parent_in x.place

-- nodes with count 0 were dropped: the sum of the counts and the limit are unchanged, and there is no less room
pub record IsSameRest (old new : Nodes) : Type 0 where
  pub fewer : new.living ≤ old.living
  pub counts : new.counts ≡ old.counts
  pub limit : new.limit ≡ old.limit
  pub room : old.room ≤ new.room

-- the files without the one under the handle, if there is one: used handles stay used, and there is no less room
pub record IsClosed (old : Opened) (handle : Option ℕ) (new : Opened) : Type 0 where
  pub at : new.at ≡ files_without handle old.at
  pub opened : (n : ℕ) → new.opened n ≡ true → old.opened n ≡ true
  pub fewer : new.many ≤ old.many
  pub last : new.last ≡ old.last
  pub room : old.room ≤ new.room
  pub filed : AreOpenEntries new

-- what an entry adds, with or without a birth: one to the sum of the counts, and that many nodes and postings
pub record IsOneMore (born : ℕ) (old : Nodes) (made : Postings) (new : Nodes) (more : Postings) : Type 0 where
  pub living : new.living ≡ old.living + born
  pub room : old.room ≤ new.room + born
  pub counts : new.counts ≡ old.counts + 1
  pub limit : new.limit ≡ old.limit
  pub postings : length more.made.last ≡ length made.made.last + 1 + born
  pub entries : (totals_over more.made).entries ≡ (totals_over made.made).entries + 1
  pub births : (totals_over more.made).born ≡ (totals_over made.made).born + born
  pub posting_room : made.room ≤ more.room + 1 + born
  pub places : made.places ≤ more.places + born
  pub posting_limit : more.limit ≡ made.limit

-- at most one node is born, and none if a node has this name
pub record IsEntered (old : Nodes) (made : Postings) (parent : ℕ) (name : Name) (new : Nodes) (more : Postings) : Type 0 where
  pub born : ℕ
  pub one : born ≤ 1
  pub none : (n : ℕ) → IsNamed (at_in old) n parent name → born ≡ 0
  pub more_is : IsOneMore born old made new more

-- what is taken back: postings replace counts
pub record IsTakenBack (old : Nodes) (made : Postings) (new : Nodes) (more : Postings) : Type 0 where
  pub living : new.living ≡ old.living
  pub room : new.room ≡ old.room
  pub limit : new.limit ≡ old.limit
  pub postings : length more.made.last + new.counts ≤ length made.made.last + old.counts
  pub grows : length made.made.last ≤ length more.made.last
  pub entries : (totals_over more.made).entries ≡ (totals_over made.made).entries
  pub births : (totals_over more.made).born ≡ (totals_over made.made).born
  pub posting_room : made.room + new.counts ≤ more.room + old.counts
  pub whole : length made.made.last + made.room ≤ length more.made.last + more.room
  pub places : more.places ≡ made.places
  pub posting_limit : more.limit ≡ made.limit
