-- Children as linked siblings: each number has a next newer sibling, a next older one, and a newest child.
use Rattle.std.specs.Prelude.{ℕ, ◌-◌, ◌<◌, ◌≡◌, ◌≢◌, ◌==◌, if◌then◌else◌, Option, Some, None, option_map}
use Rattle.slab.specs.Slab.{Slab, get}
use Rattle.collections.specs.declared.children.Kin.{Kin}
use Rattle.collections.specs.declared.children.Linked.{Linked}

-- no links: 0 means no number, since numbers begin at 1
abbrev pub no_kin : Kin
no_kin = record { newer = 0; older = 0; newest = 0 }

module _ {T : Type 0} where
  abbrev pub value_of : Linked T → T
  value_of l = l.value

  -- the links beside a value, or none if there is no value
  abbrev pub kin_or : Option (Linked T) → Kin
  kin_or None = no_kin
  kin_or (Some l) = l.kin

  -- the value of the number with its links: the slab's keys begin at 0
  abbrev pub linked_at : Slab (Linked T) → ℕ → Option (Linked T)
  linked_at s n = if n == 0 then None else get s (n - 1)

  -- its value
  abbrev pub value_at : Slab (Linked T) → ℕ → Option T
  value_at s n = option_map value_of (linked_at s n)

  -- its links
  abbrev pub kin_at : Slab (Linked T) → ℕ → Kin
  kin_at s n = kin_or (linked_at s n)

  -- the number has a value
  abbrev pub IsThere : Slab (Linked T) → ℕ → Type 0
  IsThere s n = (x : T) × (value_at s n ≡ Some x)

-- the same parents, except that n has this one
abbrev pub with_parent : (ℕ → Option ℕ) → ℕ → Option ℕ → ℕ → Option ℕ
with_parent parents n p = λ m. if n == m then p else parents m

-- m is the next newer sibling of n, and n the next older one of m; both have the same parent
pub record IsNext (parents : ℕ → Option ℕ) (kin : ℕ → Kin) (n m : ℕ) : Type 0 where
  pub parent : ℕ
  pub older_parent : parents n ≡ Some parent
  pub newer_parent : parents m ≡ Some parent
  pub newer : (kin n).newer ≡ m
  pub older : (kin m).older ≡ n

-- the links fit these parents. The later a child was added, the lower its rank
pub record IsLinked (parents : ℕ → Option ℕ) (kin : ℕ → Kin) (rank : ℕ → ℕ) : Type 0 where
  -- 0 has no parent
  pub none : parents 0 ≡ None
  -- a child without a newer sibling is the newest one
  pub first : (n p : ℕ) → parents n ≡ Some p → (kin n).newer ≡ 0 → (kin p).newest ≡ n
  pub newest : (n p : ℕ) → (kin p).newest ≡ n → n ≢ 0 → (parents n ≡ Some p) × ((kin n).newer ≡ 0)
  pub newer : (n m : ℕ) → (kin n).newer ≡ m → m ≢ 0 → IsNext parents kin n m
  pub older : (n m : ℕ) → (kin m).older ≡ n → n ≢ 0 → IsNext parents kin n m
  pub rises : (n m : ℕ) → (kin n).newer ≡ m → m ≢ 0 → rank m < rank n

-- the law of links: each number with a parent has a value, and the links fit these parents
pub record IsLawful {T : Type 0} (parents : ℕ → Option ℕ) (s : Slab (Linked T)) : Type 0 where
  pub there : (n p : ℕ) → parents n ≡ Some p → IsThere s n
  pub rank : ℕ → ℕ
  pub linked : IsLinked parents (kin_at s) rank
