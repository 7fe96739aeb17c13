-- What is kept where some entries are left out, or all.
use Rattle.std.proofs.Common.{◌≡◌, ℕ, ◌<◌, ◌⊎◌, inl, inr, [], ◌∷◌, Some, None, sym, ap, ◌∙◌}
use Rattle.std.specs.Option.{option_map}
use Rattle.std.proofs.lemmas.Option.{none-some}
use Rattle.paths.specs.Prefixes.{Name, Names}
use Rattle.path_cache.specs.Walks.{Finds, walk, reached, IsNumbered}
use Rattle.path_cache.specs.Entries.{Entries, found}
use Rattle.path_cache.specs.Cache.{Cache, kept_at, at_root, root_alone}
use Rattle.path_cache.proofs.Walking.{reached-append, reached-root, walk-none}
use Rattle.path_cache.proofs.Changing.{IsPart, part_reached}

-- nothing is found among no entries
abbrev pub FindsNone : {V : Type 0} → Finds V → Type 0
FindsNone find = (n : ℕ) (name : Name) → find n name ≡ None

pub found-empty : {V : Type 0} (es : Entries V) → es ≡ [] → FindsNone (found es)
unfolding found
found-empty es none n name = ap (λ xs. found xs n name) none

pub none_numbered : {V : Type 0} (find : Finds V) (next : ℕ) → FindsNone find → 0 < next → IsNumbered find next
none_numbered find next none begun = record {
  apart = λ n m x y e f at_e at_f same. absurd (none-some e (sym (none n x) ∙ at_e));
  positive = λ n x e at. absurd (none-some e (sym (none n x) ∙ at));
  below = λ n x e at. absurd (none-some e (sym (none n x) ∙ at));
  parents = λ n x e at. absurd (none-some e (sym (none n x) ∙ at));
  begun = begun;
}

pub kept_root : {V : Type 0} (c : Cache V) → kept_at c [] ≡ Some c.root
unfolding kept_at
kept_root c = ap (option_map (λ k. k.value)) (reached-root (found c.entries) c.root)

pub none_kept : {V : Type 0} (c : Cache V) → FindsNone (found c.entries) → (p : Names) → kept_at c p ≡ at_root c.root p
unfolding kept_at
none_kept c none [] = kept_root c
none_kept c none (x ∷ p) =
    ap (option_map (λ k. k.value)) (reached-append (found c.entries) c.root [] (x ∷ p)
    ∙ (ap (λ o. walk (found c.entries) o (x ∷ p)) (reached-root (found c.entries) c.root)
    ∙ (ap (λ o. walk (found c.entries) o p) (none 0 x) ∙ walk-none (found c.entries) p)))

pub alone_kept : {V : Type 0} (old new : Cache V) → new.root ≡ old.root → FindsNone (found new.entries) → (p : Names) → kept_at new p ≡ root_alone (kept_at old) p
alone_kept old new root none [] = kept_root new ∙ (ap (λ r. Some r) root ∙ sym (kept_root old))
alone_kept old new root none (x ∷ p) = none_kept new none (x ∷ p)

pub part_kept : {V : Type 0} (old new : Cache V) → new.root ≡ old.root → IsPart (found old.entries) (found new.entries) → (p : Names) → (kept_at new p ≡ kept_at old p) ⊎ (kept_at new p ≡ None)
unfolding kept_at
part_kept old new root is p = elim (part_reached (found old.entries) (found new.entries) new.root is p) [
  | inl same ↦ inl (ap (option_map (λ k. k.value)) (same ∙ ap (λ r. reached (found old.entries) r p) root))
  | inr gone ↦ inr (ap (option_map (λ k. k.value)) gone)
]
