-- Nodes with a hidden mark are at names that the server keeps for itself, and no client's request names one of those.
use Rattle.std.specs.Prelude.{ℕ, ◌<◌, ◌≡◌, ◌↔◌, true, false, List, [], ◌∷◌, Some, All, AllPairs, Contains}
use Rattle.std.specs.List.{AllZip}
use Rattle.paths.specs.Prefixes.{Name, Names}
use Rattle.paths.specs.Hidden.{is_reserved}
use Rattle.tree.specs.declared.nodes.Node.{Node}
use Rattle.tree.specs.Places.{Lookup, IsPathOf}
use Rattle.table_requests.specs.declared.data.Want.{Want}
use Rattle.table_requests.specs.declared.data.Want.TheVariants as wants
use Rattle.table_steps.specs.declared.data.Begin.{Begin}
use Rattle.table_steps.specs.declared.data.Begin.TheVariants.{Go, Busy, Refused}
use Rattle.table_steps.specs.World.{RequestInFlight, RequestsInFlight, IsAtWork, Work, World}
use Rattle.table.specs.Leftovers.{IsHidden}

-- the names that a client gave in a want; those of a page come from the folder and not from the client
abbrev pub names_given : Want → List Name
names_given (wants.Node number handle) = []
names_given (wants.Name parent name) = name ∷ []
names_given (wants.Remove parent name may_hide) = name ∷ []
names_given (wants.Move parent name new_parent new_name keep) = name ∷ new_name ∷ []
names_given (wants.Exchange parent name new_parent new_name) = name ∷ new_name ∷ []
names_given (wants.Page folder names) = []
names_given (wants.Open number access) = []
names_given (wants.Create parent name access) = name ∷ []
names_given (wants.Release number fh) = []
names_given (wants.Link number parent name) = name ∷ []

-- none of them is a name that the server keeps for itself
abbrev pub IsUnreserved : Want → Type 0
IsUnreserved want = All (λ name. is_reserved name ≡ false) (names_given want)

-- a request that begins has such a want
abbrev pub IsBegunUnreserved : Want → Begin → Type 0
IsBegunUnreserved want (Go ticket) = IsUnreserved want
IsBegunUnreserved want Busy = Unit {0}
IsBegunUnreserved want (Refused errno) = Unit {0}

-- each request in progress was begun with such a want
abbrev pub AreUnreserved : RequestsInFlight → Type 0
AreUnreserved flights = (id : ℕ) (f : RequestInFlight) (work : Work) → IsAtWork flights id f work → IsUnreserved work.want

-- each node with a hidden mark is at a name that the server keeps for itself
abbrev pub AreMarksReserved : Lookup → Type 0
AreMarksReserved at = (n : ℕ) (x : Node) → at n ≡ Some x → x.hidden ≡ true → IsHidden x

-- this holds, and no request in progress can change it
pub record KeepsHidden (w : World) : Type 0 where
  pub marks : AreMarksReserved w.at
  pub unreserved : AreUnreserved w.flights

-- the node has a hidden mark, wherever it is
pub record HasMark (at : Lookup) (n : ℕ) : Type 0 where
  pub node : Node
  pub here : at n ≡ Some node
  pub mark : node.hidden ≡ true

-- the paths of all nodes with a hidden mark, sorted by node number
pub record ArePathsOfMarked (at : Lookup) (paths : List Names) : Type 0 where
  pub numbers : List ℕ
  pub rising : AllPairs (λ (m n : ℕ). m < n) numbers
  pub marked : (n : ℕ) → Contains numbers n ↔ HasMark at n
  pub leads : AllZip (IsPathOf at) numbers paths
