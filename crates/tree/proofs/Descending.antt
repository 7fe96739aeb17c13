-- Walking down to a leaf and up again.
use Rattle.std.proofs.Common.{ℕ, ◌+◌, ◌<◌, ◌≡◌, List, [], ◌∷◌, ◌++◌, Some, length, refl, sym, ap, ◌∙◌, subst, inl, inr, arith}
use Rattle.paths.specs.Prefixes.{Name, Names}
use Rattle.tree.specs.declared.nodes.Node.{Node}
use Rattle.tree.specs.declared.nodes.Place.TheVariants.{Cut}
use Rattle.tree.specs.Moves.{cut_node, CutsBelow, ListsCuts}
use Rattle.tree.specs.Places.{Lookup, with_node, IsNamed, Reaches, HasChild}
use Rattle.tree.proofs.Climbing.{cut_unnamed, named_same, place_same, root_unnamed}
use Rattle.tree.proofs.Listing.{lists_cut, named_uncut}
use Rattle.tree.proofs.LookupLemmas.{with_other, with_same}
use Rattle.tree.proofs.Pruning.{IsPruned, IsPruned-step, CutsBelow-pruned}

-- a leaf is not on the way of the nodes above it, so their way does not change
pub way_kept : (at : Lookup) (n m leaf : ℕ) (x : Node) → (HasChild at leaf → ⊥) → (names : Names) → HasChild at m → Reaches at n m names → Reaches (with_node at leaf (cut_node x)) n m names
way_kept at n m leaf x childless [] child h = h
way_kept at n m leaf x childless (y ∷ names) child h =
    let other : leaf ≡ m → ⊥ = λ e. childless (subst (λ k. HasChild at k) (sym e) child) in
    (h.0, (h.1.0, with_other at leaf (cut_node x) m other ∙ h.1.1, h.1.2), way_kept at n h.0 leaf x childless names (m, y, h.1) h.2)

-- a node that has a name now had it before
pub was_named : (old now : Lookup) (n : ℕ) → IsPruned old now n → (m p : ℕ) (name : Name) → IsNamed now m p name → IsNamed old m p name
was_named old now n pruned m p name h = elim (pruned.each m) [
  | inl same ↦ (h.0, sym same ∙ h.1, h.2)
  | inr changed ↦ absurd (cut_unnamed now m (cut_node changed.1.0) changed.1.2 refl p name h)
]

pub way_before : (old now : Lookup) (n : ℕ) → IsPruned old now n → (names : Names) (m : ℕ) → Reaches now n m names → Reaches old n m names
way_before old now n pruned [] m h = h
way_before old now n pruned (y ∷ names) m h = (h.0, was_named old now n pruned m h.0 y h.1, way_before old now n pruned names h.0 h.2)

-- the position of the walk: depth names below n, which still has its name
pub record IsDescended (now : Lookup) (n current depth : ℕ) : Type 0 where
  pub parent : ℕ
  pub name : Name
  pub top : IsNamed now n parent name
  pub names : Names
  pub climb : Reaches now n current names
  pub count : length names ≡ depth

here_named : (now : Lookup) (n p : ℕ) (name : Name) → IsNamed now n p name → (names : Names) (current : ℕ) → Reaches now n current names → (q : ℕ) × (word : Name) × IsNamed now current q word
here_named now n p name top [] current h = (p, name, subst (λ k. IsNamed now k p name) (sym h) top)
here_named now n p name top (y ∷ names) current h = (h.0, y, h.1)

pub current_named : (now : Lookup) (n current depth : ℕ) → IsDescended now n current depth → (q : ℕ) × (word : Name) × IsNamed now current q word
current_named now n current depth d = here_named now n d.parent d.name d.top d.names current d.climb

pub IsDescended-down : (now : Lookup) (n current depth child : ℕ) (word : Name) → IsNamed now child current word → IsDescended now n current depth → IsDescended now n child (depth + 1)
IsDescended-down now n current depth child word named d = record {
  parent = d.parent;
  name = d.name;
  top = d.top;
  names = word ∷ d.names;
  climb = (current, named, d.climb);
  count = omega (arith, d.count);
}

up_by : (now : Lookup) (n current depth parent : ℕ) (x : Node) → (current ≡ n → ⊥) → (HasChild now current → ⊥) → (p : ℕ) (name : Name) → IsNamed now n p name → (word : Name) → IsNamed now current parent word → (names : Names) → Reaches now n current names → length names ≡ depth → (less : ℕ) → depth ≡ less + 1 → IsDescended (with_node now current (cut_node x)) n parent less
up_by now n current depth parent x other childless p name top word named [] h count less e = absurd (other h)
up_by now n current depth parent x other childless p name top word named (y ∷ names) h count less e =
    let same = named_same now current parent h.0 word y named h.1 in
    record {
      parent = p;
      name = name;
      top = (top.0, with_other now current (cut_node x) n other ∙ top.1, top.2);
      names = names;
      climb = way_kept now n parent current x childless names (current, word, named) (subst (λ k. Reaches now n k names) (sym same.0) h.2);
      count = omega (arith, count, e);
    }

pub IsDescended-up : (now : Lookup) (n current depth parent less : ℕ) (x : Node) → (current ≡ n → ⊥) → (HasChild now current → ⊥) → (word : Name) → IsNamed now current parent word → depth ≡ less + 1 → IsDescended now n current depth → IsDescended (with_node now current (cut_node x)) n parent less
IsDescended-up now n current depth parent less x other childless word named e d =
    up_by now n current depth parent x other childless d.parent d.name d.top word named d.names d.climb d.count less e

-- for a node below n other than n the way is not empty
pub deeper : (now : Lookup) (n current depth : ℕ) → (current ≡ n → ⊥) → IsDescended now n current depth → 0 < depth
deeper now n current depth other d = by d.names d.climb d.count
  where
    by : (names : Names) → Reaches now n current names → length names ≡ depth → 0 < depth
    by [] h count = absurd (other h)
    by (y ∷ names) h count = omega (arith, count)

-- n is the last node to be cut
pub cut_last : (old mid now : Lookup) (n : ℕ) (x : Node) → mid n ≡ Some x → (x.place ≡ Cut → ⊥) → now ≡ with_node mid n (cut_node x) → IsPruned old mid n → IsPruned old now n → CutsBelow old now n
cut_last old mid now n x stood whole wrote before pruned = elim (before.each n) [
  | inl same ↦ CutsBelow-pruned old now n x (sym same ∙ stood) whole (ap (λ (a : Lookup). a n) wrote ∙ with_same mid n (cut_node x)) pruned
  | inr changed ↦ absurd (whole (place_same mid n x (cut_node changed.1.0) stood changed.1.2))
]

-- a node on the way without children is cut
module _ (old mid new : Lookup) (n current depth p : ℕ) (word : Name) (h : IsNamed mid current p word) (leaf : HasChild mid current → ⊥) (wrote : new ≡ with_node mid current (cut_node h.0)) (pruned : IsPruned old mid n) (d : IsDescended mid n current depth) where
  pub whole_here : h.0.place ≡ Cut → ⊥
  whole_here e = cut_unnamed mid current h.0 h.1 e p word h

  pub pruned_on : IsPruned old new n
  pruned_on = subst (λ (at : Lookup). IsPruned old at n) (sym wrote)
      (IsPruned-step old mid n current h.0 (λ e. root_unnamed mid pruned.tree.rooted p word (subst (λ k. IsNamed mid k p word) e h)) h.1 whole_here leaf (record { names = d.names; climb = way_before old mid n pruned d.names current d.climb }) pruned)

  pub descended_on : (current ≡ n → ⊥) → (less : ℕ) → depth ≡ less + 1 → IsDescended new n p less
  descended_on other less e = subst (λ (at : Lookup). IsDescended at n p less) (sym wrote) (IsDescended-up mid n current depth p less h.0 other leaf word h e d)

  pub cuts_on : current ≡ n → CutsBelow old new n
  cuts_on e = cut_last old mid new n h.0 (ap mid (sym e) ∙ h.1) whole_here (wrote ∙ ap (λ (k : ℕ). with_node mid k (cut_node h.0)) e) pruned pruned_on

  -- and it is appended to the list
  pub lists_on : (before after : List ℕ) → ListsCuts old mid before after → ListsCuts old new before (after ++ current ∷ [])
  lists_on before after lists = lists_cut old mid new before after current h.0 h.1 whole_here (named_uncut old current p word (was_named old mid n pruned current p word h)) wrote lists
