-- What is kept after a call was kept before it, and stands where nothing has changed.
use Rattle.std.proofs.Common.{◌≡◌, ◌⊎◌, Bool, true, false, [], ◌∷◌, ◌++◌, Option, Some, None, length, drop, refl, sym, ap, ◌∙◌, inl, inr, if◌then◌else◌}
use Rattle.std.proofs.lemmas.Option.{none-some}
use Rattle.paths.specs.Prefixes.{Name, Names, is_prefix}
use Rattle.paths.proofs.PrefixLemmas.{drop-append, is_prefix-more, is_prefix-same}
use Rattle.std.specs.Option.{option_map}
use Rattle.std.proofs.lemmas.Bool.{true≢false}
use Rattle.backing.specs.Tree.{Tree, kind_of}
use Rattle.disk.specs.Answers.{Stays}
use Rattle.disk_folder.specs.declared.open_cache.OpenCache.{OpenCache}
use Rattle.disk_folder.specs.Standing.{AllStand}
use Rattle.path_cache.specs.Cache.{IsRelocated, relocated, root_alone, without_all}

if_none : {V : Type 0} (b : Bool) (o : Option V) (w : V) → (if b then None else o) ≡ Some w → (b ≡ false) × (o ≡ Some w)
if_none true o w e = absurd (none-some w e)
if_none false o w e = (refl, e)

-- what is left is not at the path nor below it
pub left_cases : {V : Type 0} (kept : Names → Option V) (q p : Names) (w : V) → without_all kept q p ≡ Some w → (is_prefix q p ≡ false) × (kept p ≡ Some w)
left_cases kept q p w e = if_none (is_prefix q p) (kept p) w e

-- what is left is the root
pub root_cases : {V : Type 0} (kept : Names → Option V) (p : Names) (w : V) → root_alone kept p ≡ Some w → (p ≡ []) × (kept p ≡ Some w)
root_cases kept [] w e = (refl, e)
root_cases kept (name ∷ names) w e = absurd (none-some w e)

-- what was relocated was below the one path, or is elsewhere and was there
relocated_cases : {V : Type 0} (old : Names → Option V) (s t p : Names) (w : V) → relocated old s t p ≡ Some w → ((more : Names) × (p ≡ t ++ more) × (old (s ++ more) ≡ Some w)) ⊎ ((is_prefix t p ≡ false) × (is_prefix s p ≡ false) × (old p ≡ Some w))
relocated_cases {V} old s t p w e = by_test (is_prefix t p) refl e
  where
    by_test : (b : Bool) → is_prefix t p ≡ b → (if b then old (s ++ drop (length t) p) else (if is_prefix s p then None else old p)) ≡ Some w → ((more : Names) × (p ≡ t ++ more) × (old (s ++ more) ≡ Some w)) ⊎ ((is_prefix t p ≡ false) × (is_prefix s p ≡ false) × (old p ≡ Some w))
    by_test true over is =
        let it = is_prefix-more t p over in
        let rest : drop (length t) p ≡ it.0 = ap (λ (q : Names). drop (length t) q) it.1 ∙ drop-append t it.0 in
        inl (it.0, it.1, ap (λ (q : Names). old (s ++ q)) (sym rest) ∙ is)
    by_test false over is = let it = if_none (is_prefix s p) (old p) w is in inr (over, it.0, it.1)

pub relocated_kept : {V : Type 0} (old new : Names → Option V) (s t p : Names) (w : V) → IsRelocated old s t new → new p ≡ Some w → ((more : Names) × (p ≡ t ++ more) × (old (s ++ more) ≡ Some w)) ⊎ ((is_prefix t p ≡ false) × (is_prefix s p ≡ false) × (old p ≡ Some w))
relocated_kept old new s t p w it e = elim it.cases [
  | inl moved ↦ relocated_cases old s t p w (sym (moved p) ∙ e)
  | inr gone ↦
      let one = left_cases (without_all old s) t p w (sym (gone p) ∙ e) in
      let two = left_cases old s p w one.1 in
      inr (one.0, two.0, two.1)
]

-- a path that is not below q is another one
pub other_path : (q p : Names) → is_prefix q p ≡ false → q ≡ p → ⊥
other_path q p far e = true≢false (sym (is_prefix-same q) ∙ (ap (λ (r : Names). is_prefix q r) e ∙ far))

-- a path with a name is below the root
pub below_root : (up : Names) (name : Name) → up ++ name ∷ [] ≡ [] → ⊥
below_root [] name e = cc
below_root (x ∷ up) name e = cc

-- what is open stands where nothing has changed
pub same_stand : {H : Type 0} (at at' : Tree) (olds news : H → Names → Type 0) (c : OpenCache H) → Stays at olds at' news → AllStand at olds c → AllStand at' news c
same_stand at at' olds news c stays all = record {
  each = λ p opened is.
      let it = all.each p opened is in
      record { handle = stays.stay opened.handle p it.handle; kind = ap (λ (t : Tree). option_map kind_of (t p)) stays.tree ∙ it.kind };
}
