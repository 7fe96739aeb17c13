-- What a rename makes of the list.
use Rattle.std.proofs.Common.{ℕ, ◌≡◌, ◌<◌, suc, length, drop, map, List, [], ◌∷◌, ◌++◌, Option, Some, None, IfNone, IfSome, refl, sym, ap, ◌∙◌, subst, arith, inl, inr}
use mathlib.Core.Path.{fun_ext}
use Rattle.std.specs.List.{remove}
use Rattle.std.specs.Option.{option_map}
use Rattle.std.proofs.lemmas.Bool.{cond-true, cond-false, cases_Bool, cases_eq, true≢false}
use Rattle.paths.specs.Prefixes.{Names, is_prefix}
use Rattle.paths.proofs.PrefixLemmas.{is_prefix-same}
use Rattle.backing.specs.declared.entries.TreeEntry.{TreeEntry}
use Rattle.backing.specs.Tree.{Tree, Resolves, IsBare, moved}
use Rattle.backing.specs.Entries.{look, IsDistinct}
use Rattle.backing.specs.Moves.{moved_path}
use Rattle.backing.specs.Moves as entries
use Rattle.backing.proofs.Looking.{without_same}
use Rattle.backing.proofs.Lawful.{cases_Option, no_item, stands_above}
use Rattle.backing.proofs.Relocating.{all_moved, relocated_all, Outside, outside, look-moved_below, look-moved_gone, look-moved_else, distinct_moved, moved_below, moved_gone, moved_else, three_ways, moved-without, moved_tree, prefix_of_root}
use Rattle.disk.specs.declared.spot.Spot.{Spot}
use Rattle.disk.specs.Answers.{AreApart, new_path}
use Rattle.disk.specs.ReachedLemmas.{tree_of_is_tree, tree_of_entries}
use Rattle.disk.specs.Spots.{entry_of, entries_of, tree_of, path_of, IsNumbered, IsLawful, IsSpotAt, NoneComes, Clears, MovesAll, renamed, with_path, with_paths}
use Rattle.disk.proofs.Spotting.{path_same, path_other, item_at}
use Rattle.disk.proofs.Changing.{becomes}
use Rattle.disk.proofs.PutAndRemove.{removed, map-remove}

abbrev pub all_renamed : Names → Names → List Spot → List Spot
all_renamed s t spots = map (λ (x : Spot). renamed s t x) spots

paths_all : (s t : Names) (spots : List Spot) → with_paths spots (map (λ (x : Spot). new_path s t x.path) spots) ≡ all_renamed s t spots
paths_all s t [] = refl
paths_all s t (x ∷ spots) = ap (λ (xs : List Spot). renamed s t x ∷ xs) (paths_all s t spots)

-- a spot and its entry go to one path
entry_moves : (s t : Names) (x : Spot) → entry_of (renamed s t x) ≡ entries.with_path (entry_of x) (moved_path s t x.path)
entry_moves s t x = elim (cases_Bool (is_prefix s x.path)) [
  | inl h ↦
      let one : new_path s t x.path ≡ t ++ drop (length s) x.path = cond-true (is_prefix s x.path) (t ++ drop (length s) x.path) x.path h in
      let two : moved_path s t x.path ≡ Some (t ++ drop (length s) x.path) = cond-true (is_prefix s x.path) (Some (t ++ drop (length s) x.path)) None h in
      ap (λ (p : Names). entry_of (with_path x p)) one ∙ sym (ap (λ (o : Option Names). entries.with_path (entry_of x) o) two)
  | inr h ↦
      let one : new_path s t x.path ≡ x.path = cond-false (is_prefix s x.path) (t ++ drop (length s) x.path) x.path h in
      let two : moved_path s t x.path ≡ None = cond-false (is_prefix s x.path) (Some (t ++ drop (length s) x.path)) None h in
      ap (λ (p : Names). entry_of (with_path x p)) one ∙ sym (ap (λ (o : Option Names). entries.with_path (entry_of x) o) two)
]

entries_move : (s t : Names) (spots : List Spot) → entries_of (all_renamed s t spots) ≡ entries.with_paths (entries_of spots) (map (λ (e : TreeEntry). moved_path s t e.path) (entries_of spots))
entries_move s t [] = refl
entries_move s t (x ∷ spots) =
    ap (λ (e : TreeEntry). e ∷ entries_of (all_renamed s t spots)) (entry_moves s t x) ∙ ap (λ (es : List TreeEntry). entries.with_path (entry_of x) (moved_path s t x.path) ∷ es) (entries_move s t spots)

entries_moved : (s t : Names) (spots : List Spot) → entries_of (all_renamed s t spots) ≡ all_moved s t (entries_of spots)
entries_moved s t spots = entries_move s t spots ∙ relocated_all s t (entries_of spots)

look_moved : (s t : Names) (es : List TreeEntry) → Outside t es → look (all_moved s t es) ≡ moved (look es) s t
look_moved s t es out = fun_ext (λ q. three_ways (λ (r : Names). look (all_moved s t es) r ≡ moved (look es) s t r) s t q
    (λ more. look-moved_below s t es more out ∙ sym (moved_below (look es) s t more))
    (λ above below. look-moved_gone s t es q above below ∙ sym (moved_gone (look es) s t q above below))
    (λ above below. look-moved_else s t es q above below ∙ sym (moved_else (look es) s t q above below)))

-- where the numbers lead
path_renamed : (s t : Names) (spots : List Spot) (n : ℕ) → path_of (all_renamed s t spots) n ≡ option_map (λ (p : Names). new_path s t p) (path_of spots n)
path_renamed s t [] n = refl
path_renamed s t (x ∷ spots) n = elim (cases_eq x.number n) [
  | inl e ↦ path_same (renamed s t x) (all_renamed s t spots) n e ∙ sym (ap (λ (o : Option Names). option_map (λ (p : Names). new_path s t p) o) (path_same x spots n e))
  | inr ne ↦ path_other (renamed s t x) (all_renamed s t spots) n ne ∙ (path_renamed s t spots n ∙ sym (ap (λ (o : Option Names). option_map (λ (p : Names). new_path s t p) o) (path_other x spots n ne)))
]

path_renamed_some : (s t : Names) (spots : List Spot) (n : ℕ) (p : Names) → path_of spots n ≡ Some p → path_of (all_renamed s t spots) n ≡ Some (new_path s t p)
path_renamed_some s t spots n p h = path_renamed s t spots n ∙ ap (λ (o : Option Names). option_map (λ (q : Names). new_path s t q) o) h

path_renamed_none : (s t : Names) (spots : List Spot) → NoneComes spots (all_renamed s t spots)
path_renamed_none s t spots n h = path_renamed s t spots n ∙ ap (λ (o : Option Names). option_map (λ (q : Names). new_path s t q) o) h

numbered-renamed : (s t : Names) (spots : List Spot) → IsNumbered spots → IsNumbered (all_renamed s t spots)
numbered-renamed s t [] apart = tt
numbered-renamed s t (x ∷ spots) apart = (path_renamed_none s t spots x.number apart.0, numbered-renamed s t spots apart.1)

-- the list once nothing stands at t
record Cleared (old cs : List Spot) (s t : Names) : Type 0 where
  lawful : IsLawful cs
  nothing : tree_of cs t ≡ None
  tree : moved (tree_of cs) s t ≡ moved (tree_of old) s t
  stay : (n : ℕ) (p : Names) → (t ≡ p → ⊥) → path_of old n ≡ Some p → path_of cs n ≡ Some p
  none : NoneComes old cs

cleared : (old : List Spot) (s t : Names) (i : ℕ) → IsLawful old → (t ≡ [] → ⊥) → AreApart s t → IsBare (tree_of old) t → IsSpotAt old t i → Cleared old (remove old i) s t
cleared old s t i lawful low apart bare at =
    let it = removed old t i lawful at low bare in
    record {
      lawful = it.becomes.lawful;
      nothing = ap (λ (tree : Tree). tree t) it.becomes.tree ∙ without_same (tree_of old) t;
      tree = ap (λ (tree : Tree). moved tree s t) it.becomes.tree ∙ moved-without (tree_of old) s t apart.not_into;
      stay = it.stay;
      none = it.none;
    }

free_of : (old : List Spot) (s t : Names) → IsLawful old → tree_of old t ≡ None → Cleared old old s t
free_of old s t lawful nothing = record { lawful = lawful; nothing = nothing; tree = refl; stay = λ n p ne h. h; none = λ n h. h }

outside_of : (cs : List Spot) (t : Names) → IsLawful cs → tree_of cs t ≡ None → Outside t (entries_of cs)
outside_of cs t lawful nothing = outside t (entries_of cs) (λ more. elim (cases_Option (tree_of cs (t ++ more))) [
  | inl none ↦ sym (item_at cs (t ++ more) lawful) ∙ none
  | inr some ↦ absurd (no_item (tree_of cs t) nothing (stands_above (tree_of cs) (tree_of_is_tree cs) t more some))
])

pub record Renamed (old new : List Spot) (s t : Names) : Type 0 where
  pub moves : MovesAll old s t new
  pub lawful : IsLawful new

renamed_all : (old cs : List Spot) (s t : Names) → (s ≡ [] → ⊥) → (t ≡ [] → ⊥) → AreApart s t → Resolves (tree_of old) t → Cleared old cs s t → Renamed old (all_renamed s t cs) s t
renamed_all old cs s t low_s low_t apart led it =
    let new = all_renamed s t cs in
    let out = outside_of cs t it.lawful it.nothing in
    let entries : entries_of new ≡ all_moved s t (entries_of cs) = entries_moved s t cs in
    let tree : look (entries_of new) ≡ moved (tree_of old) s t =
    ap (λ (es : List TreeEntry). look es) entries ∙ (look_moved s t (entries_of cs) out ∙ (ap (λ (at : Tree). moved at s t) (sym (tree_of_entries cs it.lawful.tree)) ∙ it.tree)) in
    let stays : new_path s t [] ≡ [] = cond-false (is_prefix s []) (t ++ drop (length s) []) [] (prefix_of_root s low_s) in
    let root : path_of new 0 ≡ Some [] = path_renamed_some s t cs 0 [] it.lawful.root ∙ ap (λ (p : Names). Some p) stays in
    let b = becomes new (moved (tree_of old) s t)
    (subst (λ (es : List TreeEntry). IsDistinct es) (sym entries) (distinct_moved s t (entries_of cs) it.lawful.distinct out))
    (numbered-renamed s t cs it.lawful.numbered)
    root
    (moved_tree (tree_of old) s t (tree_of_is_tree old) low_s low_t led apart.not_into)
    tree in
    record {
      moves = record {
        tree = b.tree;
        stay = λ n p far h. path_renamed_some s t cs n p (it.stay n p (λ e. true≢false (sym (is_prefix-same t) ∙ (ap (λ (q : Names). is_prefix t q) e ∙ far))) h);
        none = λ n h. path_renamed_none s t cs n (it.none n h);
      };
      lawful = b.lawful;
    }

-- the list of a rename, where the target's place is known
pub renames : (old mid new : List Spot) (paths : List Names) (s t : Names) (target : Option ℕ) → IsLawful old → (s ≡ [] → ⊥) × (t ≡ [] → ⊥) → AreApart s t → Resolves (tree_of old) t → IsBare (tree_of old) t
    → IfNone target (tree_of old t ≡ None) → IfSome target (λ i. IsSpotAt old t i) → paths ≡ map (λ (x : Spot). new_path s t x.path) old → mid ≡ with_paths old paths → Clears mid target new → Renamed old new s t
renames old mid new paths s t None lawful low apart led bare none some all set clears =
    let is : new ≡ all_renamed s t old = clears ∙ (set ∙ (ap (λ (ps : List Names). with_paths old ps) all ∙ paths_all s t old)) in
    subst (λ (l : List Spot). Renamed old l s t) (sym is) (renamed_all old old s t low.0 low.1 apart led (free_of old s t lawful none))
renames old mid new paths s t (Some i) lawful low apart led bare none some all set clears =
    let is : mid ≡ all_renamed s t old = set ∙ (ap (λ (ps : List Names). with_paths old ps) all ∙ paths_all s t old) in
    let gone : new ≡ all_renamed s t (remove old i) = clears ∙ (ap (λ (l : List Spot). remove l i) is ∙ sym (map-remove (λ (x : Spot). renamed s t x) old i)) in
    subst (λ (l : List Spot). Renamed old l s t) (sym gone) (renamed_all old (remove old i) s t low.0 low.1 apart led (cleared old s t i lawful low.1 apart bare some))

length_with : (spots : List Spot) (ps : List Names) → length (with_paths spots ps) ≡ length spots
length_with [] ps = refl
length_with (x ∷ spots) [] = refl
length_with (x ∷ spots) (p ∷ ps) = ap suc (length_with spots ps)

-- the target's place is one of the list then
pub place_within : (old mid : List Spot) (paths : List Names) (t : Names) (target : Option ℕ) → IfSome target (λ i. IsSpotAt old t i) → mid ≡ with_paths old paths → IfSome target (λ i. i < length mid)
place_within old mid paths t None some set = tt
place_within old mid paths t (Some i) some set =
    let same : length mid ≡ length old = ap (λ (l : List Spot). length l) set ∙ length_with old paths in
    let within = some.within in
    omega arith
