-- From what holds of each node in a list to what holds of each node that a look-up finds.
use Rattle.std.proofs.Common.{ℕ, ◌<◌, ◌≡◌, zero, suc, List, [], ◌∷◌, Some, length, get_or, sym, ap, ◌∙◌, subst, inl, inr, arith}
use Rattle.std.specs.Prelude.{All, AllPairs}
use Rattle.std.proofs.lemmas.Bool.{cases_order}
use Rattle.paths.specs.Prefixes.{Name}
use Rattle.tree.specs.declared.nodes.Node.{Node}
use Rattle.tree.specs.declared.nodes.Place.TheVariants.{Named}
use Rattle.tree.specs.Places.{IsNamed}
use Rattle.tree.specs.Listed.{node_at, IsDistinct}
use Rattle.tree.proofs.LookupLemmas.{node_at_number, node_at_some, found_node, node_at_found}
use Rattle.table_image.specs.Parts.{AreNamesApart, StandApart}

-- what holds of each node in the list holds of each node found under a number
pub each_led : (P : Node → Type 0) (xs : List Node) → All P xs → (n : ℕ) (x : Node) → node_at xs n ≡ Some x → P x
each_led P xs each n x h = let it = found_node xs n x h in subst P (it.2 x) (each it.0 x it.1)

-- the converse
pub each_listed : (P : Node → Type 0) (xs : List Node) → IsDistinct xs → ((x : Node) → node_at xs x.number ≡ Some x → P x) → All P xs
each_listed P xs distinct each k d within = each (get_or xs k d) (node_at_found xs k d distinct within)

-- two nodes in the list have different numbers
pub numbers_apart : (xs : List Node) (i j : ℕ) (d : Node) → IsDistinct xs → i < j → j < length xs → (get_or xs i d).number ≡ (get_or xs j d).number → ⊥
numbers_apart [] i j d distinct before within same = absurd (omega arith)
numbers_apart (x ∷ xs) i zero d distinct before within same = absurd (omega arith)
numbers_apart (x ∷ xs) zero (suc j) d distinct before within same = node_at_some xs j d (omega arith) (ap (node_at xs) (sym same) ∙ distinct.0)
numbers_apart (x ∷ xs) (suc i) (suc j) d distinct before within same = numbers_apart xs i j d distinct.1 (omega arith) (omega arith) same

same_place : (xs : List Node) (p : ℕ) (name : Name) (i j : ℕ) (x y : Node) → AllPairs StandApart xs → i < j → j < length xs
    → ((d : Node) → get_or xs i d ≡ x) → ((d : Node) → get_or xs j d ≡ y)
    → x.place ≡ Named (record { parent = p; name = name }) → y.place ≡ Named (record { parent = p; name = name }) → ⊥
same_place xs p name i j x y pairs before within at_i at_j one two =
    let apart : StandApart x y = subst (λ (w : Node). StandApart x w) (at_j x) (subst (λ (w : Node). StandApart w (get_or xs j x)) (at_i x) (pairs i j x before within)) in
    apart.apart (record { parent = p; name = name }) one two

names_same : (xs : List Node) → AllPairs StandApart xs → (m n p : ℕ) (name : Name) → IsNamed (node_at xs) m p name → IsNamed (node_at xs) n p name → m ≡ n
names_same xs pairs m n p name one two =
    let it = found_node xs m one.0 one.1 in
    let other = found_node xs n two.0 two.1 in
    elim (cases_order it.0 other.0) [
      | inl e ↦
          let same : one.0 ≡ two.0 = sym (it.2 one.0) ∙ (ap (λ (k : ℕ). get_or xs k one.0) e ∙ other.2 one.0) in
          sym (node_at_number xs m one.0 one.1) ∙ (ap (λ (w : Node). w.number) same ∙ node_at_number xs n two.0 two.1)
      | inr o ↦ elim o [
        | inl before ↦ absurd (same_place xs p name it.0 other.0 one.0 two.0 pairs before other.1 it.2 other.2 one.2 two.2)
        | inr after ↦ absurd (same_place xs p name other.0 it.0 two.0 one.0 pairs after it.1 other.2 it.2 two.2 one.2)
      ]
    ]

-- no two nodes in the list have the same place
pub names_apart : (xs : List Node) → AllPairs StandApart xs → AreNamesApart (node_at xs)
names_apart xs pairs = record { apart = names_same xs pairs }

-- the converse
pub stand_apart : (xs : List Node) → IsDistinct xs → AreNamesApart (node_at xs) → AllPairs StandApart xs
stand_apart xs distinct apart i j d before within = record {
  apart = λ key one two.
      let first = node_at_found xs i d distinct (omega arith) in
      let second = node_at_found xs j d distinct within in
      numbers_apart xs i j d distinct before within
      (apart.apart (get_or xs i d).number (get_or xs j d).number key.parent key.name (get_or xs i d, first, one) (get_or xs j d, second, two));
}
