-- What a change of one file's bytes makes of the list.
use Rattle.std.proofs.Common.{ℕ, ◌≡◌, ◌<◌, ◌==◌, suc, zero, cond, length, take, get_or, set, List, [], ◌∷◌, Option, Some, refl, sym, ap, ◌∙◌, subst, arith}
use Rattle.std.proofs.Math.ListN.{get_or-map}
use Rattle.std.proofs.lemmas.List.{length-map, map-set}
use Rattle.std.proofs.lemmas.Option.{slice_get-get_or, get_or_from_slice_get, same_Some}
use Rattle.paths.specs.Prefixes.{Names}
use Rattle.backing.specs.declared.entries.Item.{Item}
use Rattle.backing.specs.declared.entries.Item.TheVariants as items
use Rattle.backing.specs.declared.entries.TreeEntry.{TreeEntry}
use Rattle.backing.specs.Tree.{Tree, IsTree, with_item}
use Rattle.backing.specs.Entries.{look, IsDistinct}
use Rattle.backing.proofs.Looking.{look-set, IsDistinct-set}
use Rattle.backing.proofs.Lawful.{with_bytes}
use Rattle.disk.specs.declared.spot.Content.{Content}
use Rattle.disk.specs.declared.spot.Spot.{Spot}
use Rattle.backing.specs.Files.{written, resized}
use Rattle.disk.specs.Answers.{AllStay, WritesPart, CutsFile}
use Rattle.disk.specs.ReachedLemmas.{tree_of_is_tree, tree_of_entries}
use Rattle.disk.specs.Spots.{item_of, entry_of, entries_of, tree_of, path_of, stands_in, IsNumbered, IsLawful, IsSpotAt, LeadsTo, NoneComes, ChangesBytes, ChangesAt}

pub changes_at : (spots : List Spot) (i : ℕ) (spot : Spot) (content : Content) (change : List ℕ → List ℕ) → i < length spots → spot ≡ get_or spots i spot → ChangesBytes spot.content change content → ChangesAt spots i change (set spots i (record spot { content = content }))
changes_at spots i spot content change within is changes = record {
  spot = spot;
  is = slice_get-get_or spots i spot within ∙ ap (λ (s : Spot). Some s) (sym is);
  content = content;
  changes = changes;
  set = refl;
}

-- a list of spots and the tree that it is
pub record Becomes (new : List Spot) (at : Tree) : Type 0 where
  pub lawful : IsLawful new
  pub tree : tree_of new ≡ at

pub becomes : (new : List Spot) (at : Tree) → IsDistinct (entries_of new) → IsNumbered new → path_of new 0 ≡ Some [] → IsTree at → look (entries_of new) ≡ at → Becomes new at
becomes new at distinct numbered root tree is =
    let whole : IsTree (look (entries_of new)) = subst (λ (t : Tree). IsTree t) (sym is) tree in
    record {
      lawful = record { distinct = distinct; numbered = numbered; tree = whole; root = root };
      tree = tree_of_entries new whole ∙ is;
    }

-- another spot of the same number and path
pub path-set : (spots : List Spot) (i : ℕ) (x d : Spot) → x.number ≡ (get_or spots i d).number → x.path ≡ (get_or spots i d).path → (n : ℕ) → path_of (set spots i x) n ≡ path_of spots n
path-set [] i x d number path n = refl
path-set (y ∷ spots) zero x d number path n =
    ap (λ (k : ℕ). cond (k == n) (Some x.path) (path_of spots n)) number ∙ ap (λ (p : Names). cond (y.number == n) (Some p) (path_of spots n)) path
path-set (y ∷ spots) (suc i) x d number path n = ap (λ (o : Option Names). cond (y.number == n) (Some y.path) o) (path-set spots i x d number path n)

numbered-set : (spots : List Spot) (i : ℕ) (x d : Spot) → x.number ≡ (get_or spots i d).number → x.path ≡ (get_or spots i d).path → IsNumbered spots → IsNumbered (set spots i x)
numbered-set [] i x d number path apart = tt
numbered-set (y ∷ spots) zero x d number path apart = (ap (λ (n : ℕ). path_of spots n) number ∙ apart.0, apart.1)
numbered-set (y ∷ spots) (suc i) x d number path apart = (path-set spots i x d number path y.number ∙ apart.0, numbered-set spots i x d number path apart.1)

-- the file at p has other bytes, and every number leads where it led
pub record Changed (old new : List Spot) (p : Names) (change : List ℕ → List ℕ) : Type 0 where
  pub bytes : List ℕ
  pub stands : tree_of old p ≡ Some (items.File bytes)
  pub becomes : Becomes new (with_item (tree_of old) p (items.File (change bytes)))
  pub leads : (n : ℕ) → path_of new n ≡ path_of old n

pub changed : (old new : List Spot) (p : Names) (i : ℕ) (change : List ℕ → List ℕ) → IsLawful old → IsSpotAt old p i → ChangesAt old i change new → Changed old new p change
changed old new p i change lawful it changes =
    let spot = changes.spot in
    let bytes = changes.changes.bytes in
    let same : it.spot ≡ spot = same_Some it.spot spot (sym it.is ∙ changes.is) in
    let is : get_or old i spot ≡ spot = get_or_from_slice_get old i spot spot changes.is in
    let path : spot.path ≡ p = ap (λ (s : Spot). s.path) (sym same) ∙ it.path in
    let stands : tree_of old p ≡ Some (items.File bytes) = it.stands ∙ (ap (λ (s : Spot). Some (item_of s.content)) same ∙ ap (λ (c : Content). Some (item_of c)) changes.changes.was) in
    let x : Spot = record spot { content = changes.content } in
    let es = entries_of old in
    let item : item_of x.content ≡ items.File (change bytes) = ap item_of changes.changes.is in
    let at : get_or es i (entry_of spot) ≡ entry_of spot = get_or-map entry_of old i spot ∙ ap entry_of is in
    let path' : (get_or es i (entry_of spot)).path ≡ (entry_of x).path = ap (λ (e : TreeEntry). e.path) at in
    let within : i < length es = let w = it.within in omega (arith, w, length-map old entry_of) in
    let entries : entries_of new ≡ set es i (entry_of x) = ap entries_of changes.set ∙ map-set entry_of old i x in
    let looked : look (entries_of new) ≡ with_item (look es) spot.path (item_of x.content) = ap (λ (l : List TreeEntry). look l) entries ∙ look-set es i (entry_of x) (entry_of spot) lawful.distinct within path' in
    let tree : look (entries_of new) ≡ with_item (tree_of old) p (items.File (change bytes)) =
    looked ∙ (ap (λ (q : Names). with_item (look es) q (item_of x.content)) path ∙ (ap (λ (y : Item). with_item (look es) p y) item ∙ ap (λ (t : Tree). with_item t p (items.File (change bytes))) (sym (tree_of_entries old lawful.tree)))) in
    let leads : (n : ℕ) → path_of new n ≡ path_of old n = λ n. ap (λ (l : List Spot). path_of l n) changes.set ∙ path-set old i x spot (ap (λ (s : Spot). s.number) (sym is)) (ap (λ (s : Spot). s.path) (sym is)) n in
    record {
      bytes = bytes;
      stands = stands;
      becomes = becomes new (with_item (tree_of old) p (items.File (change bytes)))
          (subst (λ (l : List TreeEntry). IsDistinct l) (sym entries) (IsDistinct-set es i (entry_of x) (entry_of spot) lawful.distinct within path'))
          (subst (λ (l : List Spot). IsNumbered l) (sym changes.set) (numbered-set old i x spot (ap (λ (s : Spot). s.number) (sym is)) (ap (λ (s : Spot). s.path) (sym is)) lawful.numbered))
          (leads 0 ∙ lawful.root)
          (with_bytes (tree_of old) p bytes (change bytes) (tree_of_is_tree old) stands)
          tree;
      leads = leads;
    }

-- a number leads where it led
pub none_comes : (old new : List Spot) (p : Names) (change : List ℕ → List ℕ) → Changed old new p change → NoneComes old new
none_comes old new p change it n none = it.leads n ∙ none

pub leads_on : (old new : List Spot) (p : Names) (change : List ℕ → List ℕ) → Changed old new p change → AllStay (stands_in old) (stands_in new)
leads_on old new p change it handle q stands = it.leads handle.number ∙ stands

-- the number leads to one path alone
pub one_path : (spots : List Spot) (n : ℕ) (p q : Names) → path_of spots n ≡ Some p → path_of spots n ≡ Some q → p ≡ q
one_path spots n p q one two = same_Some p q (sym one ∙ two)

pub changed_of : (old new : List Spot) (number i : ℕ) (change : List ℕ → List ℕ) → IsLawful old → (found : LeadsTo old number i) → ChangesAt old i change new → Changed old new found.path change
changed_of old new number i change lawful found changes = changed old new found.path i change lawful found.at changes

pub writes_part : (old new : List Spot) (number : ℕ) (p q : Names) (offset n : ℕ) (bytes : List ℕ) → 0 < n → path_of old number ≡ Some q → path_of old number ≡ Some p → Changed old new q (λ (was : List ℕ). written was offset (take n bytes)) → WritesPart (tree_of old) (stands_in old) p offset bytes n (tree_of new) (stands_in new)
writes_part old new number p q offset n bytes some one two it =
    let same : q ≡ p = one_path old number q p one two in
    record {
      some = some;
      bytes = it.bytes;
      stands = ap (tree_of old) (sym same) ∙ it.stands;
      tree = it.becomes.tree ∙ ap (λ (r : Names). with_item (tree_of old) r (items.File (written it.bytes offset (take n bytes)))) same;
      stay = leads_on old new q (λ (was : List ℕ). written was offset (take n bytes)) it;
    }

pub cuts_file : (old new : List Spot) (number : ℕ) (p q : Names) (size : ℕ) → path_of old number ≡ Some q → path_of old number ≡ Some p → Changed old new q (λ (was : List ℕ). resized size was) → CutsFile (tree_of old) (stands_in old) p size (tree_of new) (stands_in new)
cuts_file old new number p q size one two it =
    let same : q ≡ p = one_path old number q p one two in
    record {
      bytes = it.bytes;
      stands = ap (tree_of old) (sym same) ∙ it.stands;
      tree = it.becomes.tree ∙ ap (λ (r : Names). with_item (tree_of old) r (items.File (resized size it.bytes))) same;
      stay = leads_on old new q (λ (was : List ℕ). resized size was) it;
    }
