-- The result of an entry, for a node that exists or one that is born.
use Rattle.std.proofs.Common.{ℕ, ◌+◌, ◌≡◌, Bool, List, [], ◌∷◌, ◌++◌, Some, None, refl, sym, ap, ◌∙◌, subst}
use Rattle.std.proofs.lemmas.Option.{same_Some}
use Rattle.ledger.specs.Periods.{Periods, posted}
use Rattle.ledger.specs.declared.postings.Posting.TheVariants.{Born, Entry}
use Rattle.ledger.specs.Sums.{births_of}
use Rattle.tree.specs.declared.nodes.Node.{Node}
use Rattle.tree.specs.declared.nodes.Place.TheVariants.{Named}
use Rattle.tree.specs.Places.{Lookup, with_node, IsAlive, IsNamed, IsTree, born_node}
use Rattle.tree.proofs.LookupLemmas.{with_same}
use Rattle.table_steps.specs.Upheld.{IsUpheld}
use Rattle.table_steps.proofs.Lawful.{lawful_entry, lawful_birth}

-- a node that was written exists
pub alive_written : (at new : Lookup) (n : ℕ) (y : Node) → new ≡ with_node at n y → IsAlive new n
alive_written at new n y is = (y, ap (λ (a : Lookup). a n) is ∙ with_same at n y)

-- the node with this name gets another entry
pub law_entered : (at new : Lookup) (ps qs : Periods) (pinned : ℕ → Bool) (n p : ℕ) (name : List ℕ) (x : Node) → IsUpheld at ps pinned → at n ≡ Some x → IsNamed at n p name
    → new ≡ with_node at n (record x { count = x.count + 1 }) → qs ≡ posted ps (Entry n x.generation) → IsTree new → IsUpheld new qs pinned
law_entered at new ps qs pinned n p name x law stood named is made tree =
    let place : x.place ≡ Named (record { parent = p; name = name }) = ap (λ (w : Node). w.place) (same_Some x named.0 (sym stood ∙ named.1)) ∙ named.2 in
    rw (is, made) (lawful_entry at ps pinned n p name x law stood place (subst (λ a. IsTree a) is tree))

-- a node is born and gets an entry
pub law_born : (at one two : Lookup) (ps qs : Periods) (pinned : ℕ → Bool) (n g p : ℕ) (name : List ℕ) → IsUpheld at ps pinned → at n ≡ None → g ≡ births_of n ps
    → one ≡ with_node at n (born_node n g p name) → two ≡ with_node one n (record (born_node n g p name) { count = 1 }) → qs ≡ posted (posted ps (Born n g)) (Entry n g) → IsTree one → IsTree two → IsUpheld two qs pinned
law_born at one two ps qs pinned n g p name law fresh gen is is' made tree tree' =
    let y : Node = born_node n g p name in
    let z : Node = record (born_node n g p name) { count = 1 } in
    let whole : two ≡ with_node (with_node at n y) n z = is' ∙ ap (λ (a : Lookup). with_node a n z) is in
    rw (whole, made) (lawful_birth at ps pinned n y law fresh gen refl refl (subst (λ a. IsTree a) is tree) (subst (λ a. IsTree a) whole tree'))
