-- What is found at a location, and why a location is refused.
use Rattle.std.proofs.Common.{ℕ, ◌≡◌, ◌↔◌, ◌++◌, [], ◌∷◌, Option, Some, None, IfNone, IfSome, sym, ap, ◌∙◌, subst}
use Rattle.std.proofs.lemmas.Option.{none-some, same_Some}
use Rattle.paths.specs.Prefixes.{Name, Names}
use Rattle.tree.specs.declared.nodes.Node.{Node}
use Rattle.tree.specs.declared.nodes.Place.TheVariants as place
use Rattle.tree.specs.declared.nodes.TreeFault.{TreeFault}
use Rattle.tree.specs.declared.nodes.TreeFault.TheVariants as fault
use Rattle.tree.specs.Places.{Lookup, IsFree, IsNamed, IsTree, Leads, Reaches}
use Rattle.tree.specs.Moves.{IsNameFault, IsPathFault}
use Rattle.tree.proofs.Climbing.{climbs_alive, cut_unnamed, path_same}
use Rattle.table_footprints.specs.Asked.{HasPath, IsThere}
use Rattle.table_footprints.specs.Gatherings.{IsBadPath, refusal_of}
use Rattle.table_footprints.specs.Footprints.{Location, AtName, AtNode}

-- a location has one path
pub location_once : (at : Lookup) → IsTree at → (l : Location) (p q : Names) → HasPath at l p → HasPath at l q → p ≡ q
location_once at tree (AtNode n) p q a b = path_same at tree.rooted p q n a b
location_once at tree (AtName parent name) p q a b = a.whole ∙ (ap (λ (up : Names). up ++ name ∷ []) (path_same at tree.rooted a.above b.above parent a.leads b.leads) ∙ sym b.whole)

-- ---- refusals

-- a node with a path is not cut, and a number without a node has no path
pub way_or_cut : (at : Lookup) (n : ℕ) → IsTree at → (names : Names) → Reaches at 1 n names → (x : Node) → at n ≡ Some x → x.place ≡ place.Cut → ⊥
way_or_cut at n tree [] e x stood cut =
    let r = tree.rooted in
    let same : x ≡ r.node = same_Some x r.node (sym stood ∙ (ap at e ∙ r.here)) in
    let bad : place.Cut ≡ place.Root = sym cut ∙ (ap (λ (w : Node). w.place) same ∙ r.root) in
    cc
way_or_cut at n tree (name ∷ up) h x stood cut = cut_unnamed at n x stood cut h.0 name h.1

module _ (at : Lookup) (tree : IsTree at) (n : ℕ) (leads : Leads at n) where
  stands : at n ≡ None → ⊥
  stands gone = let it = climbs_alive at tree.rooted leads.names n leads.climb in none-some it.0 (sym gone ∙ it.1)

  uncut : (x : Node) → at n ≡ Some x → x.place ≡ place.Cut → ⊥
  uncut x stood cut = way_or_cut at n tree leads.names leads.climb x stood cut

  pub node_refused : (e : TreeFault) → IsPathFault at n e → IsBadPath at (AtNode n) (refusal_of e)
  node_refused fault.Unknown bad = stands bad
  node_refused fault.Cut bad = uncut bad.0 bad.1 bad.2
  node_refused fault.Full bad = absurd bad
  node_refused fault.Memory bad = tt
  node_refused fault.PathLong bad = bad

  pub name_refused : (name : Name) (e : TreeFault) → IsNameFault at n name e → IsBadPath at (AtName n name) (refusal_of e)
  name_refused name fault.Unknown bad = stands bad
  name_refused name fault.Cut bad = uncut bad.0 bad.1 bad.2
  name_refused name fault.Full bad = absurd bad
  name_refused name fault.Memory bad = tt
  name_refused name fault.PathLong bad = bad

-- ---- what is there

pub name_found : (at : Lookup) → IsTree at → (parent : ℕ) (name : Name) (o : Option ℕ) → IfNone o (IsFree at parent name) → IfSome o (λ n. IsNamed at n parent name) → (n : ℕ) → (o ≡ Some n) ↔ IsThere at (AtName parent name) n
name_found at tree parent name None none some n = (λ bad. absurd (none-some n bad), λ named. absurd (none n named))
name_found at tree parent name (Some k) none some n = (
  λ e. subst (λ m. IsNamed at m parent name) (same_Some k n e) some,
  λ named. ap (λ m. Some m) (tree.apart k n parent name some named),
)
