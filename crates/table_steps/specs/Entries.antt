-- Entries that are given to the client, or taken back.
use Rattle.std.specs.Prelude.{ℕ, ◌-◌, ◌+◌, ◌<◌, ◌≡◌, ◌⊎◌, Bool, true, false, List, [], ◌∷◌, ◌++◌, Some, None}
use Rattle.ledger.specs.declared.postings.Posting.TheVariants.{Born, Entry, Back}
use Rattle.ledger.specs.Periods.{Periods, posted}
use Rattle.ledger.specs.Sums.{births_of}
use Rattle.tree.specs.declared.nodes.Node.{Node}
use Rattle.tree.specs.declared.nodes.Place.TheVariants.{Named}
use Rattle.tree.specs.Places.{Lookup, with_node, IsFree}
use Rattle.table_requests.specs.declared.data.Given.{Given}

-- a new node with its first entry
abbrev pub newborn : Given → ℕ → List ℕ → Node
newborn g parent name = record { number = g.number; generation = g.generation; place = Named (record { parent = parent; name = name }); count = 1; hidden = false }

-- one more entry of the node with this name
pub record EntersAgain (at : Lookup) (ps : Periods) (parent : ℕ) (name : List ℕ) (g : Given) (at' : Lookup) (ps' : Periods) : Type 0 where
  pub node : Node
  pub here : at g.number ≡ Some node
  pub named : node.place ≡ Named (record { parent = parent; name = name })
  pub generation : node.generation ≡ g.generation
  pub nodes : at' ≡ with_node at g.number (record node { count = node.count + 1 })
  pub postings : ps' ≡ posted ps (Entry g.number g.generation)

-- if no node has this name, a node is born with a number that no node has, and gets its first entry
pub record Bears (at : Lookup) (ps : Periods) (parent : ℕ) (name : List ℕ) (g : Given) (at' : Lookup) (ps' : Periods) : Type 0 where
  pub free : IsFree at parent name
  -- the number 0 would tell the client that there is no entry
  pub positive : 0 < g.number
  pub fresh : at g.number ≡ None
  pub generation : g.generation ≡ births_of g.number ps
  pub nodes : at' ≡ with_node at g.number (newborn g parent name)
  pub postings : ps' ≡ posted (posted ps (Born g.number g.generation)) (Entry g.number g.generation)

-- an entry for the name is given
abbrev pub Enters : Lookup → Periods → ℕ → List ℕ → Given → Lookup → Periods → Type 0
Enters at ps parent name g at' ps' = EntersAgain at ps parent name g at' ps' ⊎ Bears at ps parent name g at' ps'

-- one entry of the node is taken back, if there is one
pub record TakesBack (at : Lookup) (ps : Periods) (n : ℕ) (at' : Lookup) (ps' : Periods) : Type 0 where
  pub node : Node
  pub here : at n ≡ Some node
  pub counted : 0 < node.count
  pub nodes : at' ≡ with_node at n (record node { count = node.count - 1 })
  pub postings : ps' ≡ posted ps (Back n node.generation)

pub record TakesNone (at : Lookup) (ps : Periods) (n : ℕ) (at' : Lookup) (ps' : Periods) : Type 0 where
  pub uncounted : (x : Node) → at n ≡ Some x → x.count ≡ 0
  pub nodes : at' ≡ at
  pub postings : ps' ≡ ps

-- each entry in turn
abbrev pub TakesAllBack : Lookup → Periods → List ℕ → Lookup → Periods → Type 0
TakesAllBack at ps [] at' ps' = (at' ≡ at) × (ps' ≡ ps)
TakesAllBack at ps (n ∷ ns) at' ps' =
    (mid : Lookup) × (qs : Periods) × (TakesBack at ps n mid qs ⊎ TakesNone at ps n mid qs) × TakesAllBack mid qs ns at' ps'

-- what is taken back: nothing if the reply was taken
abbrev pub untaken_of : Bool → List ℕ → List ℕ
untaken_of true ns = []
untaken_of false ns = ns
