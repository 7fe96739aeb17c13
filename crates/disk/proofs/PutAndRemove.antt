-- What a spot that comes or goes makes of the list.
use Rattle.std.proofs.Common.{ℕ, ◌≡◌, ◌<◌, ◌==◌, ◌⊎◌, suc, zero, cond, length, map, get_or, List, [], ◌∷◌, ◌++◌, Option, Some, None, refl, sym, ap, ◌∙◌, subst, arith, inl, inr}
use Rattle.std.specs.List.{remove}
use Rattle.std.proofs.Math.ListN.{get_or-map}
use Rattle.std.proofs.lemmas.Bool.{cases_eq}
use Rattle.std.proofs.lemmas.List.{length-map, map-append}
use Rattle.std.proofs.lemmas.Option.{get_or_from_slice_get, none-some, same_Some}
use Rattle.paths.specs.Prefixes.{Names}
use Rattle.payload.specs.declared.attributes.Special.{Special}
use Rattle.backing.specs.declared.entries.Item.{Item}
use Rattle.backing.specs.declared.entries.Item.TheVariants.{Folder}
use Rattle.backing.specs.declared.entries.TreeEntry.{TreeEntry}
use Rattle.backing.specs.Tree.{Tree, Resolves, IsFolder, IsOther, IsBare, with_item, without}
use Rattle.backing.specs.Entries.{look, IsDistinct}
use Rattle.backing.proofs.PathLemmas.{is_path-false}
use Rattle.backing.proofs.Looking.{look-push, look-remove, IsDistinct-push, IsDistinct-remove}
use Rattle.backing.proofs.Lawful.{with_new, without_bare, other_bare}
use Rattle.disk.specs.declared.spot.Content.{Content}
use Rattle.disk.specs.declared.spot.Content.TheVariants as contents
use Rattle.disk.specs.declared.spot.Spot.{Spot}
use Rattle.disk.specs.Answers.{AllStayBut, MakesItem, RemovesFile, RemovesFolder}
use Rattle.disk.specs.ReachedLemmas.{tree_of_is_tree, tree_of_entries}
use Rattle.disk.specs.Spots.{item_of, entry_of, entries_of, tree_of, path_of, stands_in, IsNumbered, IsLawful, IsSpotAt, NoneComes}
use Rattle.disk.proofs.Spotting.{path_same, path_other, item_at}
use Rattle.disk.proofs.Changing.{Becomes, becomes}

-- a number that is pushed leads to its path, and the others as before
pub path-push_other : (spots : List Spot) (x : Spot) (n : ℕ) → (x.number ≡ n → ⊥) → path_of (spots ++ x ∷ []) n ≡ path_of spots n
path-push_other [] x n ne = path_other x [] n ne
path-push_other (y ∷ spots) x n ne = ap (λ (o : Option Names). cond (y.number == n) (Some y.path) o) (path-push_other spots x n ne)

pub path-push_same : (spots : List Spot) (x : Spot) → path_of spots x.number ≡ None → path_of (spots ++ x ∷ []) x.number ≡ Some x.path
path-push_same [] x fresh = path_same x [] x.number refl
path-push_same (y ∷ spots) x fresh = elim (cases_eq y.number x.number) [
  | inl e ↦ absurd (none-some y.path (sym fresh ∙ path_same y spots x.number e))
  | inr ne ↦ path_other y (spots ++ x ∷ []) x.number ne ∙ path-push_same spots x (sym (path_other y spots x.number ne) ∙ fresh)
]

numbered-push : (spots : List Spot) (x : Spot) → IsNumbered spots → path_of spots x.number ≡ None → IsNumbered (spots ++ x ∷ [])
numbered-push [] x apart fresh = (refl, tt)
numbered-push (y ∷ spots) x apart fresh = elim (cases_eq y.number x.number) [
  | inl e ↦ absurd (none-some y.path (sym fresh ∙ path_same y spots x.number e))
  | inr ne ↦ (path-push_other spots x y.number (λ e. ne (sym e)) ∙ apart.0, numbered-push spots x apart.1 (sym (path_other y spots x.number ne) ∙ fresh))
]

-- a spot that is new
pub record Pushed (old : List Spot) (x : Spot) : Type 0 where
  pub becomes : Becomes (old ++ x ∷ []) (with_item (tree_of old) x.path (item_of x.content))
  pub leads : path_of (old ++ x ∷ []) x.number ≡ Some x.path
  pub others : (n : ℕ) → (x.number ≡ n → ⊥) → path_of (old ++ x ∷ []) n ≡ path_of old n

pub pushed : (old : List Spot) (x : Spot) → IsLawful old → Resolves (tree_of old) x.path → tree_of old x.path ≡ None → path_of old x.number ≡ None → Pushed old x
pushed old x lawful led free fresh =
    let es = entries_of old in
    let new = old ++ x ∷ [] in
    let none : look es x.path ≡ None = sym (item_at old x.path lawful) ∙ free in
    let entries : entries_of new ≡ es ++ entry_of x ∷ [] = map-append entry_of old (x ∷ []) in
    let tree : look (entries_of new) ≡ with_item (tree_of old) x.path (item_of x.content) =
    ap (λ (l : List TreeEntry). look l) entries ∙ (look-push es (entry_of x) none ∙ ap (λ (t : Tree). with_item t x.path (item_of x.content)) (sym (tree_of_entries old lawful.tree))) in
    let not_root : x.number ≡ 0 → ⊥ = λ e. none-some [] (sym (subst (λ (n : ℕ). path_of old n ≡ None) e fresh) ∙ lawful.root) in
    record {
      becomes = becomes new (with_item (tree_of old) x.path (item_of x.content))
          (subst (λ (l : List TreeEntry). IsDistinct l) (sym entries) (IsDistinct-push es (entry_of x) lawful.distinct none))
          (numbered-push old x lawful.numbered fresh)
          (path-push_other old x 0 not_root ∙ lawful.root)
          (with_new (tree_of old) x.path (item_of x.content) (tree_of_is_tree old) led free)
          tree;
      leads = path-push_same old x fresh;
      others = path-push_other old x;
    }

pub makes_item : (old : List Spot) (x : Spot) → tree_of old x.path ≡ None → path_of old x.number ≡ None → Pushed old x → MakesItem (tree_of old) (stands_in old) x.path (item_of x.content) (tree_of (old ++ x ∷ [])) (stands_in (old ++ x ∷ []))
makes_item old x free fresh it = record {
  free = free;
  tree = it.becomes.tree;
  stay = λ handle p stands. it.others handle.number (λ e. none-some p (sym (subst (λ (n : ℕ). path_of old n ≡ None) e fresh) ∙ stands)) ∙ stands;
}

-- without the spot of that index
path-remove : (spots : List Spot) (i : ℕ) (d : Spot) (n : ℕ) (p : Names) → i < length spots → path_of spots n ≡ Some p → ((get_or spots i d).path ≡ p → ⊥) → path_of (remove spots i) n ≡ Some p
path-remove [] i d n p within h ne = absurd (omega arith)
path-remove (x ∷ spots) zero d n p within h ne = elim (cases_eq x.number n) [
  | inl e ↦ absurd (ne (same_Some x.path p (sym (path_same x spots n e) ∙ h)))
  | inr far ↦ sym (path_other x spots n far) ∙ h
]
path-remove (x ∷ spots) (suc i) d n p within h ne = elim (cases_eq x.number n) [
  | inl e ↦ path_same x (remove spots i) n e ∙ (sym (path_same x spots n e) ∙ h)
  | inr far ↦ path_other x (remove spots i) n far ∙ path-remove spots i d n p (omega arith) (sym (path_other x spots n far) ∙ h) ne
]

path-remove_none : (spots : List Spot) (i n : ℕ) → path_of spots n ≡ None → path_of (remove spots i) n ≡ None
path-remove_none [] zero n h = refl
path-remove_none [] (suc i) n h = refl
path-remove_none (x ∷ spots) zero n h = elim (cases_eq x.number n) [
  | inl e ↦ absurd (none-some x.path (sym h ∙ path_same x spots n e))
  | inr far ↦ sym (path_other x spots n far) ∙ h
]
path-remove_none (x ∷ spots) (suc i) n h = elim (cases_eq x.number n) [
  | inl e ↦ absurd (none-some x.path (sym h ∙ path_same x spots n e))
  | inr far ↦ path_other x (remove spots i) n far ∙ path-remove_none spots i n (sym (path_other x spots n far) ∙ h)
]

numbered-remove : (spots : List Spot) (i : ℕ) → IsNumbered spots → IsNumbered (remove spots i)
numbered-remove [] zero apart = tt
numbered-remove [] (suc i) apart = tt
numbered-remove (x ∷ spots) zero apart = apart.1
numbered-remove (x ∷ spots) (suc i) apart = (path-remove_none spots i x.number apart.0, numbered-remove spots i apart.1)

pub map-remove : {A B : Type 0} (f : A → B) (xs : List A) (i : ℕ) → map f (remove xs i) ≡ remove (map f xs) i
map-remove f [] zero = refl
map-remove f [] (suc i) = refl
map-remove f (x ∷ xs) zero = refl
map-remove {B = B} f (x ∷ xs) (suc i) = ap (λ (ys : List B). f x ∷ ys) (map-remove f xs i)

-- a spot that is gone
pub record Removed (old : List Spot) (p : Names) (i : ℕ) : Type 0 where
  pub becomes : Becomes (remove old i) (without (tree_of old) p)
  pub stay : (n : ℕ) (q : Names) → (p ≡ q → ⊥) → path_of old n ≡ Some q → path_of (remove old i) n ≡ Some q
  pub none : NoneComes old (remove old i)

pub removed : (old : List Spot) (p : Names) (i : ℕ) → IsLawful old → IsSpotAt old p i → (p ≡ [] → ⊥) → IsBare (tree_of old) p → Removed old p i
removed old p i lawful it low bare =
    let es = entries_of old in
    let new = remove old i in
    let spot = it.spot in
    let within = it.within in
    let is : get_or old i spot ≡ spot = get_or_from_slice_get old i spot spot it.is in
    let path : (get_or old i spot).path ≡ p = ap (λ (s : Spot). s.path) is ∙ it.path in
    let within' : i < length es = omega (arith, within, length-map old entry_of) in
    let path' : (get_or es i (entry_of spot)).path ≡ p = ap (λ (e : TreeEntry). e.path) (get_or-map entry_of old i spot) ∙ path in
    let entries : entries_of new ≡ remove es i = map-remove entry_of old i in
    let tree : look (entries_of new) ≡ without (tree_of old) p =
    ap (λ (l : List TreeEntry). look l) entries ∙ (look-remove es i (entry_of spot) lawful.distinct within' ∙ (ap (λ (q : Names). without (look es) q) path' ∙ ap (λ (t : Tree). without t p) (sym (tree_of_entries old lawful.tree)))) in
    let stay : (n : ℕ) (q : Names) → (p ≡ q → ⊥) → path_of old n ≡ Some q → path_of new n ≡ Some q = λ n q ne h. path-remove old i spot n q within h (λ e. ne (sym path ∙ e)) in
    record {
      becomes = becomes new (without (tree_of old) p)
          (subst (λ (l : List TreeEntry). IsDistinct l) (sym entries) (IsDistinct-remove es i (entry_of spot) lawful.distinct within'))
          (numbered-remove old i lawful.numbered)
          (stay 0 [] low lawful.root)
          (without_bare (tree_of old) p (tree_of_is_tree old) low bare)
          tree;
      stay = stay;
      none = path-remove_none old i;
    }

pub stay_but : (old : List Spot) (p : Names) (i : ℕ) → Removed old p i → AllStayBut p (stands_in old) (stands_in (remove old i))
stay_but old p i it handle q far stands = it.stay handle.number q (is_path-false p q far) stands

-- what a new spot makes of the list, where it goes by its path and not by the copy of it
pub record Made (old new : List Spot) (number : ℕ) (p : Names) (item : Item) : Type 0 where
  pub made : MakesItem (tree_of old) (stands_in old) p item (tree_of new) (stands_in new)
  pub number_leads : path_of new number ≡ Some p
  pub lawful : IsLawful new
  pub others : (n : ℕ) → (n ≡ number → ⊥) → path_of old n ≡ None → path_of new n ≡ None

pub made_spot : (old new : List Spot) (x : Spot) (p : Names) → new ≡ old ++ x ∷ [] → x.path ≡ p → IsLawful old → Resolves (tree_of old) p → tree_of old p ≡ None → path_of old x.number ≡ None → Made old new x.number p (item_of x.content)
made_spot old new x p is path lawful led free fresh =
    let free' : tree_of old x.path ≡ None = ap (tree_of old) path ∙ free in
    let it = pushed old x lawful (subst (λ (q : Names). Resolves (tree_of old) q) (sym path) led) free' fresh in
    let all : Made old (old ++ x ∷ []) x.number x.path (item_of x.content) = record {
      made = makes_item old x free' fresh it;
      number_leads = it.leads;
      lawful = it.becomes.lawful;
      others = λ n ne none. it.others n (λ e. ne (sym e)) ∙ none;
    } in
    subst (λ (l : List Spot). Made old l x.number p (item_of x.content)) (sym is) (subst (λ (q : Names). Made old (old ++ x ∷ []) x.number q (item_of x.content)) path all)

pub record RemovedFile (old new : List Spot) (p : Names) : Type 0 where
  pub removes : RemovesFile (tree_of old) (stands_in old) p (tree_of new) (stands_in new)
  pub lawful : IsLawful new
  pub none : NoneComes old new

other_no_folder : (o : Option Item) → IsOther o → IsFolder o → ⊥
other_no_folder None other folder = other
other_no_folder (Some Folder) other folder = other
other_no_folder (Some item) other folder = folder

-- a file, a link or what is special
pub other_content : (content : Content) → ((bytes : List ℕ) × (content ≡ contents.File bytes)) ⊎ (((text : List ℕ) × (content ≡ contents.Link text)) ⊎ ((special : Special) × (content ≡ contents.Special special))) → IsOther (Some (item_of content))
other_content content (inl file) = subst (λ (c : Content). IsOther (Some (item_of c))) (sym file.1) tt
other_content content (inr (inl link)) = subst (λ (c : Content). IsOther (Some (item_of c))) (sym link.1) tt
other_content content (inr (inr special)) = subst (λ (c : Content). IsOther (Some (item_of c))) (sym special.1) tt

pub removed_file : (old new : List Spot) (p : Names) (i : ℕ) → IsLawful old → IsSpotAt old p i → (p ≡ [] → ⊥) → IsOther (tree_of old p) → new ≡ remove old i → RemovedFile old new p
removed_file old new p i lawful at low other is =
    let it = removed old p i lawful at low (other_bare (tree_of old) p (tree_of_is_tree old) (other_no_folder (tree_of old p) other)) in
    subst (λ (l : List Spot). RemovedFile old l p) (sym is) (record {
      removes = record { other = other; tree = it.becomes.tree; stay = stay_but old p i it };
      lawful = it.becomes.lawful;
      none = it.none;
    })

pub record RemovedFolder (old new : List Spot) (p : Names) : Type 0 where
  pub removes : RemovesFolder (tree_of old) (stands_in old) p (tree_of new) (stands_in new)
  pub lawful : IsLawful new
  pub none : NoneComes old new

pub removed_folder : (old new : List Spot) (p : Names) (i : ℕ) → IsLawful old → IsSpotAt old p i → (p ≡ [] → ⊥) → tree_of old p ≡ Some Folder → IsBare (tree_of old) p → new ≡ remove old i → RemovedFolder old new p
removed_folder old new p i lawful at low stands bare is =
    let it = removed old p i lawful at low bare in
    subst (λ (l : List Spot). RemovedFolder old l p) (sym is) (record {
      removes = record { folder = subst (λ (o : Option Item). IsFolder o) (sym stands) tt; bare = bare; tree = it.becomes.tree; stay = stay_but old p i it };
      lawful = it.becomes.lawful;
      none = it.none;
    })
