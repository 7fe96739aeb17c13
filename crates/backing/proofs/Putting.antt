-- The tree of a list after one call.
use Rattle.std.proofs.Common.{ℕ, ◌≡◌, get_or, set, List, ◌++◌, ◌∷◌, [], Option, Some, None, refl, sym, ap, ◌∙◌, subst}
use Rattle.std.specs.List.{remove}
use Rattle.std.proofs.lemmas.Option.{none-some, same_Some, get_or_from_slice_get}
use Rattle.paths.specs.Prefixes.{Names}
use Rattle.backing.specs.declared.entries.Item.{Item}
use Rattle.backing.specs.declared.entries.Item.TheVariants.{Folder, File, Link, Special}
use Rattle.backing.specs.declared.entries.TreeEntry.{TreeEntry}
use Rattle.backing.specs.Tree.{Tree, IsTree, IsFile, Resolves, IsBare, with_item, without}
use Rattle.backing.specs.Entries.{look, tree_of, IsEntryTree, IsFoundAt}
use Rattle.backing.proofs.Looking.{look-push, look-set, look-remove, IsDistinct-push, IsDistinct-set, IsDistinct-remove, tree-with, tree-without, tree-not_root}
use Rattle.backing.proofs.Lawful.{with_new, with_bytes, without_bare}

free_below : (es : List TreeEntry) (p : Names) → tree_of es p ≡ None → p ≡ [] → ⊥
free_below es [] free e = none-some Folder (sym free)
free_below es (x ∷ p) free e = cc

look_free : (es : List TreeEntry) (p : Names) → tree_of es p ≡ None → look es p ≡ None
look_free es [] free = absurd (none-some Folder (sym free))
look_free es (x ∷ p) free = free

pub put_tree : (es : List TreeEntry) (e : TreeEntry) → tree_of es e.path ≡ None → tree_of (es ++ e ∷ []) ≡ with_item (tree_of es) e.path e.item
put_tree es e free = tree-with es (es ++ e ∷ []) e.path e.item (free_below es e.path free) (look-push es e (look_free es e.path free))

pub put_lawful : (es : List TreeEntry) (e : TreeEntry) → IsEntryTree es → Resolves (tree_of es) e.path → tree_of es e.path ≡ None → IsEntryTree (es ++ e ∷ [])
put_lawful es e lawful leads free = record {
  distinct = IsDistinct-push es e lawful.distinct (look_free es e.path free);
  tree = subst (λ (at : Tree). IsTree at) (sym (put_tree es e free)) (with_new (tree_of es) e.path e.item lawful.tree leads free);
}

-- the entry that a look-up found
found_path : (es : List TreeEntry) (p : Names) (i : ℕ) (f : IsFoundAt es p i) (d : TreeEntry) → (get_or es i d).path ≡ p
found_path es p i f d = ap (λ (e : TreeEntry). e.path) (get_or_from_slice_get es i f.entry d f.is) ∙ f.path

pub removed_tree : (es : List TreeEntry) (p : Names) (i : ℕ) → IsEntryTree es → (p ≡ [] → ⊥) → IsFoundAt es p i → tree_of (remove es i) ≡ without (tree_of es) p
removed_tree es p i lawful below f =
    tree-without es (remove es i) p below (look-remove es i f.entry lawful.distinct f.within ∙ ap (λ (q : Names). without (look es) q) (found_path es p i f f.entry))

pub removed_lawful : (es : List TreeEntry) (p : Names) (i : ℕ) → IsEntryTree es → (p ≡ [] → ⊥) → IsFoundAt es p i → IsBare (tree_of es) p → IsEntryTree (remove es i)
removed_lawful es p i lawful below f bare = record {
  distinct = IsDistinct-remove es i f.entry lawful.distinct f.within;
  tree = subst (λ (at : Tree). IsTree at) (sym (removed_tree es p i lawful below f)) (without_bare (tree_of es) p lawful.tree below bare);
}

pub set_tree : (es : List TreeEntry) (p : Names) (i : ℕ) (e : TreeEntry) → IsEntryTree es → (p ≡ [] → ⊥) → IsFoundAt es p i → e.path ≡ p → tree_of (set es i e) ≡ with_item (tree_of es) p e.item
set_tree es p i e lawful below f path =
    let same : (get_or es i e).path ≡ e.path = found_path es p i f e ∙ sym path in
    tree-with es (set es i e) p e.item below (look-set es i e e lawful.distinct f.within same ∙ ap (λ (q : Names). with_item (look es) q e.item) path)

pub set_lawful : (es : List TreeEntry) (p : Names) (i : ℕ) (e : TreeEntry) (before after : List ℕ) → IsEntryTree es → (p ≡ [] → ⊥) → IsFoundAt es p i → e.path ≡ p → tree_of es p ≡ Some (File before) → e.item ≡ File after → IsEntryTree (set es i e)
set_lawful es p i e before after lawful below f path file item = record {
  distinct = IsDistinct-set es i e e lawful.distinct f.within (found_path es p i f e ∙ sym path);
  tree = subst (λ (at : Tree). IsTree at) (sym (set_tree es p i e lawful below f path ∙ ap (λ (x : Item). with_item (tree_of es) p x) item)) (with_bytes (tree_of es) p before after lawful.tree file);
}

pub some_file : (o : Option Item) → IsFile o → (bytes : List ℕ) × (o ≡ Some (File bytes))
some_file None file = absurd file
some_file (Some Folder) file = absurd file
some_file (Some (File bytes)) file = (bytes, refl)
some_file (Some (Link text)) file = absurd file
some_file (Some (Special special)) file = absurd file

pub file_below : (es : List TreeEntry) (p : Names) (bytes : List ℕ) → tree_of es p ≡ Some (File bytes) → p ≡ [] → ⊥
file_below es [] bytes file e = cc
file_below es (x ∷ p) bytes file e = cc

-- a file whose bytes have changed, at its entry
pub file_changed : (es fs : List TreeEntry) (p : Names) (i : ℕ) (change : Item → Item) (before after : List ℕ) → IsEntryTree es → IsFoundAt es p i → tree_of es p ≡ Some (File before) → change (File before) ≡ File after
    → ((d : TreeEntry) → fs ≡ set es i (record (get_or es i d) { item = change (get_or es i d).item }))
    → (tree_of fs ≡ with_item (tree_of es) p (File after)) × IsEntryTree fs
file_changed es fs p i change before after lawful f file does h =
    let below = file_below es p before file in
    let old = get_or es i f.entry in
    let is : old ≡ f.entry = get_or_from_slice_get es i f.entry f.entry f.is in
    let item : f.entry.item ≡ File before = same_Some f.entry.item (File before) (sym f.stands ∙ (sym (tree-not_root es p below) ∙ file)) in
    let e : TreeEntry = record old { item = change old.item } in
    let path : e.path ≡ p = found_path es p i f f.entry in
    let becomes : e.item ≡ File after = ap (λ (x : TreeEntry). change x.item) is ∙ (ap change item ∙ does) in
    let tree = set_tree es p i e lawful below f path ∙ ap (λ (x : Item). with_item (tree_of es) p x) becomes in (
      ap (λ (xs : List TreeEntry). tree_of xs) (h f.entry) ∙ tree,
      subst (λ (xs : List TreeEntry). IsEntryTree xs) (sym (h f.entry)) (set_lawful es p i e before after lawful below f path file becomes),
    )
