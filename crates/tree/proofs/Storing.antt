-- What a change of one node does to everything that is stored.
use Rattle.std.proofs.Common.{ℕ, ◌+◌, ◌<◌, ◌≤◌, ◌≡◌, if◌then◌else◌, List, [], Option, Some, None, length, refl, sym, ap, ◌∙◌, subst, inl, inr, arith, is_some}
use Rattle.std.proofs.lemmas.Bool.{cases_eq, cond-false, cond-true, cases_Bool}
use Rattle.std.proofs.lemmas.Option.{none-some, same_Some}
use Rattle.std.proofs.lemmas.List.{get_or_past}
use Rattle.std.proofs.lemmas.Bool.{cases_lt}
use Rattle.indexmap.specs.IndexMap.{IndexMap}
use Rattle.slab.specs.Slab.{Slab, get, with_value}
use Rattle.slab.proofs.SlabLemmas.{Updates-with_value}
use Rattle.std.specs.Prelude.{IfNone, IfSome}
use Rattle.std.specs.Map.{lookup}
use Rattle.collections.specs.Living.{found, joined, living}
use Rattle.paths.specs.Prefixes.{Name}
use Rattle.tree.specs.declared.nodes.Key.{Key}
use Rattle.tree.specs.declared.nodes.Node.{Node}
use Rattle.tree.specs.declared.nodes.Place.{Place}
use Rattle.tree.specs.declared.nodes.Place.TheVariants.{Root, Named, Cut}
use Rattle.tree.specs.Keys.{same_key}
use Rattle.tree.specs.Moves.{cut_node, moved_node}
use Rattle.tree.specs.Places.{Lookup, with_node, IsNamed, IsFree, IsTree}
use Rattle.tree.specs.Stored.{slot_at, IsIndexed, IsStored}
use Rattle.collections.specs.declared.children.Linked.{Linked}
use Rattle.collections.specs.Links.{kin_at, kin_or}
use Rattle.collections.proofs.Written.{kin_kept}
use Rattle.tree.specs.Children.{parents_in, place_parent}
use Rattle.tree.proofs.Relating.{parent_here, parent_same, parents_with, related_as}
use Rattle.tree.proofs.Climbing.{place_same, cut_unnamed}
use Rattle.tree.proofs.Indexing.{IsIndexed-unnamed, IsIndexed-named, IsIndexed-same}
use Rattle.tree.proofs.LookupLemmas.{with_other, with_same}
use Rattle.tree.proofs.Slots.{slot_of, slot_updated, value_or}
use Rattle.tree.proofs.Writing.{IsSamePlace, IsTree-write, named_now, named_was}

-- a write of one node in the slab
module _ (s : Slab (Linked Node)) (n k : ℕ) (l : Linked Node) (y : Node) (e : n ≡ k + 1) (read : get s k ≡ Some l) where
  pub slot_written : slot_at (with_value s k (record l { value = y })) ≡ with_node (slot_at s) n y
  slot_written = let new : Linked Node = record l { value = y } in slot_updated s (with_value s k new) k (Some new) n e (Updates-with_value s k new (ap (λ (o : Option (Linked Node)). is_some o) read))

  pub kin_written : kin_at (with_value s k (record l { value = y })) ≡ kin_at s
  kin_written =
      let new : Linked Node = record l { value = y } in
      kin_kept s (with_value s k new) k n (Some new) e (Updates-with_value s k new (ap (λ (o : Option (Linked Node)). is_some o) read)) (ap kin_or (sym read))

  -- the node that is read
  pub node_read : (x : Node) → slot_at s n ≡ Some x → l.value ≡ x
  node_read x stood = same_Some l.value x (sym (ap value_or read) ∙ (sym (slot_of s n k e) ∙ stood))

-- a node that is found has a key below the capacity
pub within : (s : Slab (Linked Node)) (k bound : ℕ) (l : Linked Node) → length s.slots ≤ bound → get s k ≡ Some l → k < bound
within s k bound l fits h = elim (cases_lt k bound) [
  | inl low ↦ low
  | inr high ↦ absurd (none-some l (sym (get_or_past s.slots k None (omega arith)) ∙ h))
]

-- the node keeps its place
pub stored_written : {S : Type 0} (s s' : Slab (Linked Node)) (m : IndexMap Key (Option ℕ) S) (named n : ℕ) (x y : Node) → slot_at s n ≡ Some x → slot_at s' ≡ with_node (slot_at s) n y → kin_at s' ≡ kin_at s → IsSamePlace x y → IsStored s m named → IsStored s' m named
stored_written s s' m named n x y stood wrote links keeps old = record {
  tree = subst IsTree (sym wrote) (IsTree-write (slot_at s) n x y stood keeps old.tree);
  indexed = record {
    sound = λ k j h. subst (λ (a : Lookup). IsNamed a j k.parent k.name) (sym wrote) (named_now (slot_at s) n x y stood keeps j k.parent k.name (old.indexed.sound k j h));
    whole = λ k j h. old.indexed.whole k j (named_was (slot_at s) n x y stood keeps j k.parent k.name (subst (λ (a : Lookup). IsNamed a j k.parent k.name) wrote h));
  };
  related = related_as (parents_in (slot_at s)) s s'
      (λ j. parents_with (slot_at s) (slot_at s') n y wrote j ∙ sym (parent_same (parents_in (slot_at s)) n (place_parent y.place) (parent_here (slot_at s) n x stood ∙ ap place_parent (sym keeps.place)) j))
      links old.related;
  counted = old.counted;
}

-- a free name is not in the index
pub free_found : {S : Type 0} (at : Lookup) (m : IndexMap Key (Option ℕ) S) (k : Key) → IsIndexed at m → IsFree at k.parent k.name → found same_key m k ≡ None
free_found at m k indexed free = by (found same_key m k) refl
  where
    by : (o : Option ℕ) → found same_key m k ≡ o → found same_key m k ≡ None
    by None e = e
    by (Some n) e = absurd (free n (indexed.sound k n e))

-- a node with a name is in the index
pub place_found : {S : Type 0} (at : Lookup) (m : IndexMap Key (Option ℕ) S) (n : ℕ) (x : Node) → IsIndexed at m → at n ≡ Some x → (k : Key) → x.place ≡ Named k → (j : ℕ) × (found same_key m k ≡ Some j)
place_found at m n x indexed stood k is = (n, indexed.whole k n (x, stood, is))

-- a node without a name now, whatever its place was before
module _ {S : Type 0} (old new : Lookup) (n : ℕ) (m m' : IndexMap Key (Option ℕ) S) (others : (j : ℕ) → (n ≡ j → ⊥) → new j ≡ old j) (gone : (p : ℕ) (name : Name) → IsNamed new n p name → ⊥) where
  unplaced_by : (x : Node) (place : Place) → x.place ≡ place → old n ≡ Some x → IsIndexed old m
      → ((k : Key) → place ≡ Named k → (q : Key) → found same_key m' q ≡ (if same_key k q then None else found same_key m q)) → (((k : Key) → place ≡ Named k → ⊥) → m' ≡ m) → IsIndexed new m'
  unplaced_by x Root is stood indexed taken same =
      let e = same (λ k bad. cc) in
      let unnamed : (p : ℕ) (name : Name) → IsNamed old n p name → ⊥ = λ p name h. let bad : Root ≡ Named (record { parent = p; name = name }) = sym is ∙ (place_same old n x h.0 stood h.1 ∙ h.2) in cc in
      subst (λ (i : IndexMap Key (Option ℕ) S). IsIndexed new i) (sym e) (IsIndexed-same old new n (record { parent = 0; name = [] }) m m others unnamed gone indexed)
  unplaced_by x (Named k) is stood indexed taken same = IsIndexed-unnamed old new n k m m' others (x, stood, is) gone indexed (taken k refl)
  unplaced_by x Cut is stood indexed taken same =
      let e = same (λ k bad. cc) in
      subst (λ (i : IndexMap Key (Option ℕ) S). IsIndexed new i) (sym e) (IsIndexed-same old new n (record { parent = 0; name = [] }) m m others (cut_unnamed old n x stood is) gone indexed)

  pub unplaced : (x : Node) → old n ≡ Some x → IsIndexed old m
      → ((k : Key) → x.place ≡ Named k → (q : Key) → found same_key m' q ≡ (if same_key k q then None else found same_key m q)) → (((k : Key) → x.place ≡ Named k → ⊥) → m' ≡ m) → IsIndexed new m'
  unplaced x stood indexed taken same = unplaced_by x x.place refl stood indexed taken same

-- the same for a node that is cut
pub cut_indexed : {S : Type 0} (old new : Lookup) (n : ℕ) (x : Node) (m m' : IndexMap Key (Option ℕ) S) → old n ≡ Some x → new ≡ with_node old n (cut_node x) → IsIndexed old m
    → ((k : Key) → x.place ≡ Named k → (q : Key) → found same_key m' q ≡ (if same_key k q then None else found same_key m q)) → (((k : Key) → x.place ≡ Named k → ⊥) → m' ≡ m) → IsIndexed new m'
cut_indexed old new n x m m' stood wrote indexed taken same =
    unplaced old new n m m'
    (λ j ne. ap (λ (a : Lookup). a j) wrote ∙ with_other old n (cut_node x) j ne)
    (λ p name h. cut_unnamed new n (cut_node x) (ap (λ (a : Lookup). a n) wrote ∙ with_same old n (cut_node x)) refl p name h)
    x stood indexed taken same

-- a name that was removed from the index, or was not in it, is not in it
pub taken_free : {S : Type 0} (m m' : IndexMap Key (Option ℕ) S) (k q : Key) → found same_key m' q ≡ (if same_key k q then None else found same_key m q) → found same_key m q ≡ None → found same_key m' q ≡ None
taken_free m m' k q taken none = elim (cases_Bool (same_key k q)) [
  | inl hit ↦ taken ∙ cond-true (same_key k q) None (found same_key m q) hit
  | inr miss ↦ taken ∙ (cond-false (same_key k q) None (found same_key m q) miss ∙ none)
]

-- a node that had a name has another one now
pub moved_indexed : {S : Type 0} (old new : Lookup) (n : ℕ) (x : Node) (k k' : Key) (m m' m'' : IndexMap Key (Option ℕ) S) → old n ≡ Some x → x.place ≡ Named k → IsFree old k'.parent k'.name → new ≡ with_node old n (moved_node x k'.parent k'.name) → IsIndexed old m
    → ((q : Key) → found same_key m' q ≡ (if same_key k q then None else found same_key m q)) → ((q : Key) → found same_key m'' q ≡ (if same_key k' q then Some n else found same_key m' q)) → IsIndexed new m''
moved_indexed old new n x k k' m m' m'' stood is free wrote indexed taken put =
    let mid : Lookup = with_node old n (cut_node x) in
    let cut_there : mid n ≡ Some (cut_node x) = with_same old n (cut_node x) in
    let first : IsIndexed mid m' = IsIndexed-unnamed old mid n k m m' (λ j ne. with_other old n (cut_node x) j ne) (x, stood, is) (cut_unnamed mid n (cut_node x) cut_there refl) indexed taken in
    let there : new n ≡ Some (moved_node x k'.parent k'.name) = ap (λ (a : Lookup). a n) wrote ∙ with_same old n (moved_node x k'.parent k'.name) in
    IsIndexed-named mid new n k' m' m''
    (λ j ne. ap (λ (a : Lookup). a j) wrote ∙ (with_other old n (moved_node x k'.parent k'.name) j ne ∙ sym (with_other old n (cut_node x) j ne)))
    (λ j h. elim (cases_eq n j) [
      | inl e ↦ cut_unnamed mid n (cut_node x) cut_there refl k'.parent k'.name (subst (λ i. IsNamed mid i k'.parent k'.name) (sym e) h)
      | inr ne ↦ free j (h.0, sym (with_other old n (cut_node x) j ne) ∙ h.1, h.2)
    ])
    (cut_unnamed mid n (cut_node x) cut_there refl)
    (moved_node x k'.parent k'.name, there, refl)
    first put

-- with the same slots and entries
pub same_slots : (s s' : Slab (Linked Node)) → s'.slots ≡ s.slots → slot_at s' ≡ slot_at s
same_slots s s' e = ap (λ (slots : List (Option (Linked Node))). slot_at (record s { slots = slots })) e

pub same_links : (s s' : Slab (Linked Node)) → s'.slots ≡ s.slots → kin_at s' ≡ kin_at s
same_links s s' e = ap (λ (slots : List (Option (Linked Node))). kin_at (record s { slots = slots })) e

pub stored_same : {S : Type 0} (s s' : Slab (Linked Node)) (m m' : IndexMap Key (Option ℕ) S) (named : ℕ) → s'.slots ≡ s.slots → m'.entries ≡ m.entries → IsStored s m named → IsStored s' m' named
stored_same s s' m m' named slots entries old = record {
  tree = subst IsTree (sym (same_slots s s' slots)) old.tree;
  indexed = record {
    sound = λ k n h. subst (λ (a : Lookup). IsNamed a n k.parent k.name) (sym (same_slots s s' slots)) (old.indexed.sound k n (ap (λ (es : List (Key × Option ℕ)). joined (lookup (same_key k) es)) (sym entries) ∙ h));
    whole = λ k n h. ap (λ (es : List (Key × Option ℕ)). joined (lookup (same_key k) es)) entries ∙ old.indexed.whole k n (subst (λ (a : Lookup). IsNamed a n k.parent k.name) (same_slots s s' slots) h);
  };
  related = related_as (parents_in (slot_at s)) s s' (λ n. ap (λ (a : Lookup). parents_in a n) (same_slots s s' slots)) (same_links s s' slots) old.related;
  counted = old.counted ∙ ap (λ (es : List (Key × Option ℕ)). living es) (sym entries);
}

-- what a search of the index says
pub find_none : {S : Type 0} (at : Lookup) (m : IndexMap Key (Option ℕ) S) (k : Key) → IsIndexed at m → (r : Option ℕ) → r ≡ found same_key m k → IfNone r (IsFree at k.parent k.name)
find_none at m k indexed None e = λ n named. none-some n (e ∙ indexed.whole k n named)
find_none at m k indexed (Some n) e = tt

pub find_some : {S : Type 0} (at : Lookup) (m : IndexMap Key (Option ℕ) S) (k : Key) → IsIndexed at m → (r : Option ℕ) → r ≡ found same_key m k → IfSome r (λ n. IsNamed at n k.parent k.name)
find_some at m k indexed None e = tt
find_some at m k indexed (Some n) e = indexed.sound k n (sym e)
