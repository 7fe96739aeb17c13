-- What is found in a slab of nodes after one was inserted, written or removed.
use Rattle.std.proofs.Common.{ℕ, zero, suc, ◌+◌, ◌-◌, ◌<◌, ◌≤◌, ◌≡◌, ◌==◌, ◌^◌, nat_lt, true, false, if◌then◌else◌, List, [], ◌∷◌, Option, Some, None, is_some, cond, count_by, length, get_or, refl, sym, ap, ◌∙◌, subst, inl, inr, arith}
use Rattle.std.proofs.lemmas.Bool.{cases_eq, cond-false, cond-true, lt-ltb, le-ltb}
use Rattle.std.proofs.lemmas.List.Sums.{sum_by-cons}
use Rattle.std.proofs.lemmas.Option.{none-some}
use Rattle.std.specs.FinMap as map
use Rattle.std.specs.Prelude.{option_map}
use mathlib.Core.Path.{fun_ext}
use Rattle.slab.specs.Slab.{Slab, get, slab_len, Updates}
use Rattle.collections.specs.Sum.{IsSum}
use Rattle.collections.proofs.Changing.{part_of_sum, sum_changed, sum_with, sum_without}
use Rattle.collections.proofs.Once.{sum_once}
use Rattle.collections.specs.declared.children.Linked.{Linked}
use Rattle.collections.specs.Links.{value_of}
use Rattle.collections.proofs.Written.{linked_none, linked_of, value_some, value_updated}
use Rattle.tree.specs.declared.nodes.Node.{Node}
use Rattle.tree.specs.Places.{Lookup, Nodes, at_in, with_node, without, IsTree, IsCensus}
use Rattle.tree.specs.Listed.{node_at, next_of, IsDistinct, IsLeastFree, IsGrown, nodes_of, counts_of}
use Rattle.tree.specs.Stored.{slot_at, listed, next_number}
use Rattle.tree.proofs.Counting.{look}
use Rattle.tree.proofs.Census.{census_of}
use Rattle.tree.proofs.Walking.{next_is}
use Rattle.tree.proofs.LookupLemmas.{with_other, with_same}

-- the value at a key
abbrev pub value_or : Option (Linked Node) → Option Node
value_or o = option_map value_of o

-- the number that belongs to a key
pub slot_of : (s : Slab (Linked Node)) (n k : ℕ) → n ≡ k + 1 → slot_at s n ≡ value_or (get s k)
slot_of s n k e = ap value_or (linked_of s n k e)

pub slot_none : (s : Slab (Linked Node)) (n : ℕ) → n ≡ 0 → slot_at s n ≡ None
slot_none s n e = ap value_or (linked_none s n e)

-- a node that is found has a key
pub key_of : (s : Slab (Linked Node)) (n : ℕ) (x : Node) → slot_at s n ≡ Some x → (k : ℕ) × (n ≡ k + 1) × (l : Linked Node) × (get s k ≡ Some l) × (l.value ≡ x)
key_of s n x h = elim (cases_eq n 0) [
  | inl e ↦ absurd (none-some x (sym (slot_none s n e) ∙ h))
  | inr ne ↦ let e : n ≡ n - 1 + 1 = omega arith in let it = value_some (get s (n - 1)) x (sym (slot_of s n (n - 1) e) ∙ h) in (n - 1, e, it.0, it.1, it.2)
]

-- an occupied key has a node
pub key_alive : (o : Option (Linked Node)) → is_some o ≡ true → (x : Node) × (value_or o ≡ Some x)
key_alive None h = absurd (let bad : false ≡ true = h in cc)
key_alive (Some l) h = (l.value, refl)

pub has_key : (o : Option (Linked Node)) (x : Node) → value_or o ≡ Some x → is_some o ≡ true
has_key None x h = absurd (none-some x h)
has_key (Some l) x h = refl

pub key_dead : (o : Option (Linked Node)) → (is_some o ≡ true → ⊥) → value_or o ≡ None
key_dead None h = refl
key_dead (Some l) h = absurd (h refl)

-- a change of one key
pub slot_updated : (old new : Slab (Linked Node)) (k : ℕ) (o : Option (Linked Node)) (n : ℕ) → n ≡ k + 1 → Updates old new k o → slot_at new ≡ (λ m. if n == m then value_or o else slot_at old m)
slot_updated old new k o n e u = value_updated old new k n o e u

-- ---- the nodes as a list

-- each node has the number that belongs to its key, counted from the first one's number on
abbrev pub Bears : ℕ → List (Option (Linked Node)) → Type 0
Bears first slots = (k : ℕ) (l : Linked Node) → get_or slots k None ≡ Some l → l.value.number ≡ first + k

bears_rest : (first : ℕ) (slot : Option (Linked Node)) (rest : List (Option (Linked Node))) → Bears first (slot ∷ rest) → Bears (first + 1) rest
bears_rest first slot rest h k x e = let it = h (suc k) x e in omega arith

list_low : (first : ℕ) (slots : List (Option (Linked Node))) → Bears first slots → (n : ℕ) → n < first → node_at (listed slots) n ≡ None
list_low first [] h n low = refl
list_low first (None ∷ rest) h n low = list_low (first + 1) rest (bears_rest first None rest h) n (omega arith)
list_low first (Some l ∷ rest) h n low =
    let number = h 0 l refl in
    with_other (node_at (listed rest)) l.value.number l.value n (λ e. omega arith) ∙ list_low (first + 1) rest (bears_rest first (Some l) rest h) n (omega arith)

list_at : (first : ℕ) (slots : List (Option (Linked Node))) → Bears first slots → (k n : ℕ) → n ≡ first + k → node_at (listed slots) n ≡ value_or (get_or slots k None)
list_at first [] h k n e = refl
list_at first (None ∷ rest) h zero n e = list_low (first + 1) rest (bears_rest first None rest h) n (omega arith)
list_at first (None ∷ rest) h (suc k) n e = list_at (first + 1) rest (bears_rest first None rest h) k n (omega arith)
list_at first (Some l ∷ rest) h zero n e =
    let number = h 0 l refl in
    let same : l.value.number ≡ n = omega arith in
    subst (λ m. with_node (node_at (listed rest)) l.value.number l.value m ≡ Some l.value) same (with_same (node_at (listed rest)) l.value.number l.value)
list_at first (Some l ∷ rest) h (suc k) n e =
    let number = h 0 l refl in
    with_other (node_at (listed rest)) l.value.number l.value n (λ same. omega arith) ∙ list_at (first + 1) rest (bears_rest first (Some l) rest h) k n (omega arith)

list_distinct : (first : ℕ) (slots : List (Option (Linked Node))) → Bears first slots → IsDistinct (listed slots)
list_distinct first [] h = tt
list_distinct first (None ∷ rest) h = list_distinct (first + 1) rest (bears_rest first None rest h)
list_distinct first (Some l ∷ rest) h =
    let number = h 0 l refl in
    (list_low (first + 1) rest (bears_rest first (Some l) rest h) l.value.number (omega arith), list_distinct (first + 1) rest (bears_rest first (Some l) rest h))

list_length : (slots : List (Option (Linked Node))) → length (listed slots) ≡ count_by is_some slots
list_length [] = refl
list_length (None ∷ rest) = omega (arith, list_length rest, sum_by-cons (λ (o : Option (Linked Node)). cond (is_some o) 1 0) None rest)
list_length (Some l ∷ rest) = omega (arith, list_length rest, sum_by-cons (λ (o : Option (Linked Node)). cond (is_some o) 1 0) (Some l) rest)

module _ (s : Slab (Linked Node)) (numbered : (n : ℕ) (x : Node) → slot_at s n ≡ Some x → x.number ≡ n) where
  bears : Bears 1 s.slots
  bears k l h = numbered (k + 1) l.value (slot_of s (k + 1) k refl ∙ ap value_or h) ∙ omega arith

  pub length_listed : length (listed s.slots) ≡ slab_len s
  length_listed = list_length s.slots

  pub distinct_listed : IsDistinct (listed s.slots)
  distinct_listed = list_distinct 1 s.slots bears

  pub listed_at : node_at (listed s.slots) ≡ slot_at s
  listed_at = fun_ext (λ n. elim (cases_eq n 0) [
    | inl e ↦ list_low 1 s.slots bears n (omega arith) ∙ sym (slot_none s n e)
    | inr ne ↦ let here : n ≡ n - 1 + 1 = omega arith in list_at 1 s.slots bears (n - 1) n (omega arith) ∙ sym (slot_of s n (n - 1) here)
  ])

  -- what callers see
  pub seen_at : map.get (nodes_of (listed s.slots)) ≡ slot_at s
  seen_at = look (listed s.slots) ∙ listed_at

  pub census_listed : IsCensus (slot_at s) (slab_len s) (counts_of (listed s.slots))
  census_listed = subst (λ (at : Lookup). IsCensus at (slab_len s) (counts_of (listed s.slots))) listed_at (census_of (listed s.slots) (slab_len s) (sym length_listed) distinct_listed)

  pub counts_sum : IsSum (slot_at s) (λ (x : Node). x.count) (counts_of (listed s.slots))
  counts_sum = census_listed.counts_is

pub grown_listed : (s : Slab (Linked Node)) → IsTree (slot_at s) → IsGrown (listed s.slots)
grown_listed s tree = record {
  distinct = distinct_listed s tree.numbered;
  positive = ap (λ (at : Lookup). at 0) (listed_at s tree.numbered);
  tree = subst IsTree (sym (listed_at s tree.numbered)) tree;
}

-- the sum of the counts after a change of one node
module _ (old new : Slab (Linked Node)) (numbered : (n : ℕ) (x : Node) → slot_at old n ≡ Some x → x.number ≡ n) (numbered' : (n : ℕ) (x : Node) → slot_at new n ≡ Some x → x.number ≡ n) where
  pub counts_changed : (n : ℕ) (x y : Node) → slot_at old n ≡ Some x → slot_at new ≡ with_node (slot_at old) n y → counts_of (listed new.slots) + x.count ≡ counts_of (listed old.slots) + y.count
  counts_changed n x y here wrote =
      let s = counts_of (listed old.slots) in
      let bound : x.count ≤ s = part_of_sum (slot_at old) (λ (z : Node). z.count) n x s here (counts_sum old numbered) in
      let t : ℕ = s + y.count - x.count in
      let sum = sum_changed (slot_at old) (λ (z : Node). z.count) n x y s t here (counts_sum old numbered) (omega arith) in
      let e = sum_once (slot_at new) (λ (z : Node). z.count) (counts_of (listed new.slots)) t (counts_sum new numbered') (subst (λ (at : Lookup). IsSum at (λ (z : Node). z.count) t) (sym wrote) sum) in
      omega arith

  -- two nodes change, but not their counts
  pub counts_swapped : (n k : ℕ) (x x' y y' : Node) → (n ≡ k → ⊥) → slot_at old n ≡ Some x → slot_at old k ≡ Some y → x'.count ≡ x.count → y'.count ≡ y.count → slot_at new ≡ with_node (with_node (slot_at old) n x') k y' → counts_of (listed new.slots) ≡ counts_of (listed old.slots)
  counts_swapped n k x x' y y' differ here here' same same' wrote =
      let s = counts_of (listed old.slots) in
      let mid = with_node (slot_at old) n x' in
      let first : IsSum mid (λ (z : Node). z.count) s = sum_changed (slot_at old) (λ (z : Node). z.count) n x x' s s here (counts_sum old numbered) (omega (arith, same)) in
      let second = sum_changed mid (λ (z : Node). z.count) k y y' s s (with_other (slot_at old) n x' k differ ∙ here') first (omega (arith, same')) in
      sum_once (slot_at new) (λ (z : Node). z.count) (counts_of (listed new.slots)) s (counts_sum new numbered') (subst (λ (at : Lookup). IsSum at (λ (z : Node). z.count) s) (sym wrote) second)

  pub counts_born : (n : ℕ) (y : Node) → slot_at old n ≡ None → slot_at new ≡ with_node (slot_at old) n y → counts_of (listed new.slots) ≡ counts_of (listed old.slots) + y.count
  counts_born n y none wrote =
      let s = counts_of (listed old.slots) in
      let sum = sum_with (slot_at old) (λ (z : Node). z.count) n y s none (counts_sum old numbered) in
      sum_once (slot_at new) (λ (z : Node). z.count) (counts_of (listed new.slots)) (s + y.count) (counts_sum new numbered') (subst (λ (at : Lookup). IsSum at (λ (z : Node). z.count) (s + y.count)) (sym wrote) sum)

  pub counts_gone : (n : ℕ) (x : Node) → slot_at old n ≡ Some x → slot_at new ≡ without (slot_at old) n → counts_of (listed new.slots) + x.count ≡ counts_of (listed old.slots)
  counts_gone n x here wrote =
      let s = counts_of (listed old.slots) in
      let bound : x.count ≤ s = part_of_sum (slot_at old) (λ (z : Node). z.count) n x s here (counts_sum old numbered) in
      let t : ℕ = s - x.count in
      let sum = sum_without (slot_at old) (λ (z : Node). z.count) n x s t here (counts_sum old numbered) (omega arith) in
      let e = sum_once (slot_at new) (λ (z : Node). z.count) (counts_of (listed new.slots)) t (counts_sum new numbered') (subst (λ (at : Lookup). IsSum at (λ (z : Node). z.count) t) (sym wrote) sum) in
      omega arith

-- the same for what callers see
pub census_in : (s : Slab (Linked Node)) → ((n : ℕ) (x : Node) → slot_at s n ≡ Some x → x.number ≡ n) → (t : Nodes) (limit room next : ℕ) (cut : List ℕ) → record { nodes = nodes_of (listed s.slots); living = slab_len s; counts = counts_of (listed s.slots); limit = limit; room = room; next = next; newly_cut = cut } ≡ t → IsCensus (at_in t) t.living t.counts
census_in s numbered t limit room next cut view =
    let P : Nodes → Type 0 = λ u. IsCensus (at_in u) u.living u.counts in
    let here : IsCensus (at_in (record { nodes = nodes_of (listed s.slots); living = slab_len s; counts = counts_of (listed s.slots); limit = limit; room = room; next = next; newly_cut = cut })) (slab_len s) (counts_of (listed s.slots)) =
    subst (λ (at : Lookup). IsCensus at (slab_len s) (counts_of (listed s.slots))) (sym (seen_at s numbered)) (census_listed s numbered) in
    subst P view here

-- the number of the next birth
pub next_fits : (s : Slab (Linked Node)) (n : ℕ) → n ≡ s.vacant_key + 1 → n < 2 ^ 64 → n ≡ next_number s
unfolding next_number
next_fits s n e fits =
    let small : nat_lt (s.vacant_key + 1) (2 ^ 64) ≡ true = lt-ltb (s.vacant_key + 1) (2 ^ 64) (omega arith) in
    e ∙ sym (cond-true (nat_lt (s.vacant_key + 1) (2 ^ 64)) (s.vacant_key + 1) (next_of (listed s.slots)) small)

next_same : (s s' : Slab (Linked Node)) → s'.slots ≡ s.slots → s'.vacant_key ≡ s.vacant_key → next_number s' ≡ next_number s
unfolding next_number
next_same s s' slots next = λ i. if nat_lt (next i + 1) (2 ^ 64) then next i + 1 else next_of (listed (slots i))

-- callers do not see the capacity
pub view_same : (s s' : Slab (Linked Node)) → s'.slots ≡ s.slots → s'.vacant_key ≡ s.vacant_key → (limit room : ℕ) (cut cut' : List ℕ) → cut' ≡ cut
    → ◌≡◌ {A = Nodes} (record { nodes = nodes_of (listed s'.slots); living = slab_len s'; counts = counts_of (listed s'.slots); limit = limit; room = room; next = next_number s'; newly_cut = cut' })
    (record { nodes = nodes_of (listed s.slots); living = slab_len s; counts = counts_of (listed s.slots); limit = limit; room = room; next = next_number s; newly_cut = cut })
view_same s s' slots next limit room cut cut' same =
    let number = next_same s s' slots next in
    λ i. record { nodes = nodes_of (listed (slots i)); living = count_by is_some (slots i); counts = counts_of (listed (slots i)); limit = limit; room = room; next = number i; newly_cut = same i }

-- if the slab's next key is the greatest number, the least free number is next
pub next_full : (s : Slab (Linked Node)) (n : ℕ) → 2 ^ 64 ≤ s.vacant_key + 1 → IsDistinct (listed s.slots) → IsLeastFree (listed s.slots) n → n ≡ next_number s
unfolding next_number
next_full s n full distinct least =
    let large : nat_lt (s.vacant_key + 1) (2 ^ 64) ≡ false = le-ltb (s.vacant_key + 1) (2 ^ 64) (omega arith) in
    next_is (listed s.slots) n distinct least ∙ sym (cond-false (nat_lt (s.vacant_key + 1) (2 ^ 64)) (s.vacant_key + 1) (next_of (listed s.slots)) large)
