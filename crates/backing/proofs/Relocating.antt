-- What a rename does to a list of entries, and to the tree.
use Rattle.std.proofs.Common.{◌≡◌, length, drop, map, true, false, cond, List, ◌++◌, ◌∷◌, [], Option, Some, None, IsSome, refl, sym, ap, ◌∙◌, subst, ◌⊎◌, inl, inr, append_assoc, append-nil}
use mathlib.Core.Path.{fun_ext}
use Rattle.std.proofs.lemmas.Bool.{cond-true, cond-false, true≢false, cases_Bool}
use Rattle.std.proofs.lemmas.Option.{none-some}
use Rattle.std.proofs.lemmas.List.{same_from_push}
use Rattle.paths.specs.Prefixes.{Name, Names, is_prefix}
use Rattle.paths.proofs.PrefixLemmas.{is_prefix-more, is_prefix-append, is_prefix-same, is_prefix-trans, not_over_parent, drop-append}
use Rattle.backing.specs.declared.entries.Item.{Item}
use Rattle.backing.specs.declared.entries.Item.TheVariants.{Folder}
use Rattle.backing.specs.declared.entries.TreeEntry.{TreeEntry}
use Rattle.backing.specs.Tree.{Tree, IsTree, Resolves, is_path, with_item, without, moved}
use Rattle.backing.specs.Entries.{look, tree_of, IsDistinct}
use Rattle.backing.specs.Moves.{moved_path, with_path, with_paths}
use Rattle.backing.proofs.PathLemmas.{same_path}
use Rattle.backing.proofs.Looking.{with_same, with_other, without_other}
use Rattle.backing.proofs.Lawful.{no_item, parent_leads}

-- the new path of a path
pub moved_in : (s t more : Names) → moved_path s t (s ++ more) ≡ Some (t ++ more)
moved_in s t more =
    cond-true (is_prefix s (s ++ more)) (Some (t ++ drop (length s) (s ++ more))) None (is_prefix-append s more)
    ∙ ap (λ (r : Names). Some (t ++ r)) (drop-append s more)

pub moved_out : (s t p : Names) → is_prefix s p ≡ false → moved_path s t p ≡ None
moved_out s t p no_prefix = cond-false (is_prefix s p) (Some (t ++ drop (length s) p)) None no_prefix

-- an entry with its new path
pub relocated : Names → Names → TreeEntry → TreeEntry
relocated s t entry = with_path entry (moved_path s t entry.path)

relocated_out : (s t : Names) (e : TreeEntry) → is_prefix s e.path ≡ false → relocated s t e ≡ e
unfolding relocated
relocated_out s t e far = ap (λ (o : Option Names). with_path e o) (moved_out s t e.path far)

relocated_in : (s t more : Names) (e : TreeEntry) → e.path ≡ s ++ more → (relocated s t e).path ≡ t ++ more
unfolding relocated
relocated_in s t more e path = ap (λ (o : Option Names). (with_path e o).path) (ap (λ (p : Names). moved_path s t p) path ∙ moved_in s t more)

relocated_item : (s t : Names) (e : TreeEntry) → (relocated s t e).item ≡ e.item
unfolding relocated
relocated_item s t e = elim (cases_Bool (is_prefix s e.path)) [
  | inl h ↦ ap (λ (o : Option Names). (with_path e o).item) (cond-true (is_prefix s e.path) (Some (t ++ drop (length s) e.path)) None h)
  | inr h ↦ ap (λ (o : Option Names). (with_path e o).item) (moved_out s t e.path h)
]

pub relocated_all : (s t : Names) (es : List TreeEntry) → with_paths es (map (λ (e : TreeEntry). moved_path s t e.path) es) ≡ map (λ (e : TreeEntry). relocated s t e) es
unfolding relocated
relocated_all s t [] = refl
relocated_all s t (e ∷ es) = ap (λ (xs : List TreeEntry). with_path e (moved_path s t e.path) ∷ xs) (relocated_all s t es)

abbrev pub all_moved : Names → Names → List TreeEntry → List TreeEntry
all_moved s t es = map (λ (e : TreeEntry). relocated s t e) es

-- no entry is at t or below it
abbrev pub Outside : Names → List TreeEntry → Type 0
Outside t [] = Unit {0}
Outside t (e ∷ es) = (is_prefix t e.path ≡ false) × Outside t es

pub outside : (t : Names) (es : List TreeEntry) → ((more : Names) → look es (t ++ more) ≡ None) → Outside t es
outside t [] none = tt
outside t (e ∷ es) none =
    let apart : (more : Names) → e.path ≡ t ++ more → ⊥ = λ more same. none-some e.item (sym (none more) ∙ subst (λ (q : Names). look (e ∷ es) q ≡ Some e.item) same (with_same (look es) e.path e.item)) in
    let head : is_prefix t e.path ≡ false = elim (cases_Bool (is_prefix t e.path)) [
      | inl h ↦ let it = is_prefix-more t e.path h in absurd (apart it.0 it.1)
      | inr h ↦ h
    ] in
    (head, outside t es (λ more. sym (with_other (look es) e.path e.item (t ++ more) (apart more)) ∙ none more))

-- a path at or below s, as s followed by more names
pub prefix_cases : (s p : Names) → ((more : Names) × (p ≡ s ++ more)) ⊎ (is_prefix s p ≡ false)
prefix_cases s p = elim (cases_Bool (is_prefix s p)) [
  | inl h ↦ inl (is_prefix-more s p h)
  | inr h ↦ inr h
]

pub no_prefix : (s p more : Names) → is_prefix s p ≡ false → p ≡ s ++ more → ⊥
no_prefix s p more far e = true≢false (sym (is_prefix-append s more) ∙ (sym (ap (λ (q : Names). is_prefix s q) e) ∙ far))

same_rest : (s a b : Names) → s ++ a ≡ s ++ b → a ≡ b
same_rest s a b e = sym (drop-append s a) ∙ (ap (λ (p : Names). drop (length s) p) e ∙ drop-append s b)

-- one step of a look-up
step : (e : TreeEntry) (es : List TreeEntry) (p q : Names) (item : Item) (there : Tree) → e.path ≡ p → e.item ≡ item → look (e ∷ es) q ≡ with_item (look es) p item q
step e es p q item there path same = ap (λ (r : Names). with_item (look es) r e.item q) path ∙ ap (λ (x : Item). with_item (look es) p x q) same

pub look-moved_below : (s t : Names) (es : List TreeEntry) (more : Names) → Outside t es → look (all_moved s t es) (t ++ more) ≡ look es (s ++ more)
look-moved_below s t [] more out = refl
look-moved_below s t (e ∷ es) more out =
    let rest = look-moved_below s t es more out.1 in
    let m = relocated s t e in
    elim (prefix_cases s e.path) [
      | inl (r, path) ↦ elim (same_path r more) [
        | inl same ↦
            let here : look (e ∷ es) (s ++ more) ≡ Some e.item = subst (λ (q : Names). look (e ∷ es) q ≡ Some e.item) (path ∙ ap (λ (x : Names). s ++ x) same) (with_same (look es) e.path e.item) in
            let there : look (m ∷ all_moved s t es) (t ++ more) ≡ Some m.item = subst (λ (q : Names). look (m ∷ all_moved s t es) q ≡ Some m.item) (relocated_in s t r e path ∙ ap (λ (x : Names). t ++ x) same) (with_same (look (all_moved s t es)) m.path m.item) in
            there ∙ (ap (λ (x : Item). Some x) (relocated_item s t e) ∙ sym here)
        | inr other ↦
            with_other (look (all_moved s t es)) m.path m.item (t ++ more) (λ f. other (same_rest t r more (sym (relocated_in s t r e path) ∙ f)))
            ∙ (rest ∙ sym (with_other (look es) e.path e.item (s ++ more) (λ f. other (same_rest s r more (sym path ∙ f)))))
      ]
      | inr far ↦
          let same : m ≡ e = relocated_out s t e far in
          with_other (look (all_moved s t es)) m.path m.item (t ++ more) (λ f. no_prefix t e.path more out.0 (sym (ap (λ (x : TreeEntry). x.path) same) ∙ f))
          ∙ (rest ∙ sym (with_other (look es) e.path e.item (s ++ more) (λ f. no_prefix s e.path more far f)))
    ]

pub look-moved_gone : (s t : Names) (es : List TreeEntry) (q : Names) → is_prefix t q ≡ false → is_prefix s q ≡ true → look (all_moved s t es) q ≡ None
look-moved_gone s t [] q above below = refl
look-moved_gone s t (e ∷ es) q above below =
    let rest = look-moved_gone s t es q above below in
    let m = relocated s t e in
    elim (prefix_cases s e.path) [
      | inl (r, path) ↦ with_other (look (all_moved s t es)) m.path m.item q (λ f. no_prefix t q r above (sym f ∙ relocated_in s t r e path)) ∙ rest
      | inr far ↦ with_other (look (all_moved s t es)) m.path m.item q (λ f. true≢false (sym below ∙ (sym (ap (λ (p : Names). is_prefix s p) (sym (ap (λ (x : TreeEntry). x.path) (relocated_out s t e far)) ∙ f)) ∙ far))) ∙ rest
    ]

pub look-moved_else : (s t : Names) (es : List TreeEntry) (q : Names) → is_prefix t q ≡ false → is_prefix s q ≡ false → look (all_moved s t es) q ≡ look es q
look-moved_else s t [] q above below = refl
look-moved_else s t (e ∷ es) q above below =
    let rest = look-moved_else s t es q above below in
    let m = relocated s t e in
    elim (prefix_cases s e.path) [
      | inl (r, path) ↦
          with_other (look (all_moved s t es)) m.path m.item q (λ f. no_prefix t q r above (sym f ∙ relocated_in s t r e path))
          ∙ (rest ∙ sym (with_other (look es) e.path e.item q (λ f. no_prefix s q r below (sym f ∙ path))))
      | inr far ↦ ap (λ (x : TreeEntry). with_item (look (all_moved s t es)) x.path x.item q) (relocated_out s t e far) ∙ ap (λ (o : Option Item). cond (is_path e.path q) (Some e.item) o) rest
    ]

pub distinct_moved : (s t : Names) (es : List TreeEntry) → IsDistinct es → Outside t es → IsDistinct (all_moved s t es)
distinct_moved s t [] apart out = tt
distinct_moved s t (e ∷ es) apart out =
    let m = relocated s t e in
    let head : look (all_moved s t es) m.path ≡ None = elim (prefix_cases s e.path) [
      | inl (r, path) ↦
          ap (λ (q : Names). look (all_moved s t es) q) (relocated_in s t r e path)
          ∙ (look-moved_below s t es r out.1 ∙ subst (λ (q : Names). look es q ≡ None) path apart.0)
      | inr far ↦
          ap (λ (x : TreeEntry). look (all_moved s t es) x.path) (relocated_out s t e far)
          ∙ (look-moved_else s t es e.path out.0 far ∙ apart.0)
    ] in
    (head, distinct_moved s t es apart.1 out.1)

-- the tree, path by path
pub moved_below : (at : Tree) (s t more : Names) → moved at s t (t ++ more) ≡ at (s ++ more)
moved_below at s t more =
    cond-true (is_prefix t (t ++ more)) (at (s ++ drop (length t) (t ++ more))) (cond (is_prefix s (t ++ more)) None (at (t ++ more))) (is_prefix-append t more)
    ∙ ap (λ (r : Names). at (s ++ r)) (drop-append t more)

pub moved_gone : (at : Tree) (s t q : Names) → is_prefix t q ≡ false → is_prefix s q ≡ true → moved at s t q ≡ None
moved_gone at s t q above below =
    cond-false (is_prefix t q) (at (s ++ drop (length t) q)) (cond (is_prefix s q) None (at q)) above ∙ cond-true (is_prefix s q) None (at q) below

pub moved_else : (at : Tree) (s t q : Names) → is_prefix t q ≡ false → is_prefix s q ≡ false → moved at s t q ≡ at q
moved_else at s t q above below =
    cond-false (is_prefix t q) (at (s ++ drop (length t) q)) (cond (is_prefix s q) None (at q)) above ∙ cond-false (is_prefix s q) None (at q) below

-- every path is one of three kinds
pub three_ways : (P : Names → Type 0) (s t q : Names) → ((more : Names) → P (t ++ more)) → (is_prefix t q ≡ false → is_prefix s q ≡ true → P q) → (is_prefix t q ≡ false → is_prefix s q ≡ false → P q) → P q
three_ways P s t q one two three = elim (prefix_cases t q) [
  | inl (more, e) ↦ subst (λ (r : Names). P r) (sym e) (one more)
  | inr above ↦ elim (cases_Bool (is_prefix s q)) [
    | inl below ↦ two above below
    | inr else ↦ three above else
  ]
]

-- what was at t does not matter
pub moved-without : (at : Tree) (s t : Names) → is_prefix s t ≡ false → moved (without at t) s t ≡ moved at s t
moved-without at s t apart = fun_ext (λ q. three_ways (λ (r : Names). moved (without at t) s t r ≡ moved at s t r) s t q
    (λ more. moved_below (without at t) s t more ∙ (without_other at t (s ++ more) (λ e. no_prefix s t more apart e) ∙ sym (moved_below at s t more)))
    (λ above below. moved_gone (without at t) s t q above below ∙ sym (moved_gone at s t q above below))
    (λ above below. moved_else (without at t) s t q above below ∙ (without_other at t q (λ e. true≢false (sym (is_prefix-same t) ∙ (ap (λ (r : Names). is_prefix t r) e ∙ above))) ∙ sym (moved_else at s t q above below))))

pub prefix_of_root : (s : Names) → (s ≡ [] → ⊥) → is_prefix s [] ≡ false
prefix_of_root [] below = absurd (below refl)
prefix_of_root (x ∷ s) below = refl

tree_at : (es : List TreeEntry) (q : Names) → (q ≡ [] → ⊥) → tree_of es q ≡ look es q
tree_at es [] below = absurd (below refl)
tree_at es (x ∷ q) below = refl

pub longer_root : (s more : Names) → (s ≡ [] → ⊥) → s ++ more ≡ [] → ⊥
longer_root [] more below e = below refl
longer_root (x ∷ s) more below e = cc

pub root_cases : (q : Names) → (q ≡ []) ⊎ (q ≡ [] → ⊥)
root_cases [] = inl refl
root_cases (x ∷ q) = inr (λ e. cc)

pub tree-moved : (s t : Names) (es : List TreeEntry) → (s ≡ [] → ⊥) → (t ≡ [] → ⊥) → Outside t es → tree_of (all_moved s t es) ≡ moved (tree_of es) s t
tree-moved s t es low_s low_t out = fun_ext (λ q. three_ways (λ (r : Names). tree_of (all_moved s t es) r ≡ moved (tree_of es) s t r) s t q
    (λ more. tree_at (all_moved s t es) (t ++ more) (longer_root t more low_t) ∙ (look-moved_below s t es more out ∙ (sym (tree_at es (s ++ more) (longer_root s more low_s)) ∙ sym (moved_below (tree_of es) s t more))))
    (λ above below.
    let low : q ≡ [] → ⊥ = λ e. true≢false (sym below ∙ (ap (λ (r : Names). is_prefix s r) e ∙ prefix_of_root s low_s)) in
    tree_at (all_moved s t es) q low ∙ (look-moved_gone s t es q above below ∙ sym (moved_gone (tree_of es) s t q above below)))
    (λ above below. elim (root_cases q) [
      | inl e ↦ subst (λ (r : Names). tree_of (all_moved s t es) r ≡ moved (tree_of es) s t r) (sym e) (sym (moved_else (tree_of es) s t [] (prefix_of_root t low_t) (prefix_of_root s low_s)))
      | inr low ↦ tree_at (all_moved s t es) q low ∙ (look-moved_else s t es q above below ∙ (sym (tree_at es q low) ∙ sym (moved_else (tree_of es) s t q above below)))
    ]))

up_prefix : (s up : Names) (name : Name) → is_prefix s up ≡ true → is_prefix s (up ++ name ∷ []) ≡ true
up_prefix s up name h = is_prefix-trans s up (up ++ name ∷ []) h (is_prefix-append up (name ∷ []))

up_no_prefix : (s up : Names) (name : Name) → is_prefix s (up ++ name ∷ []) ≡ false → is_prefix s up ≡ false
up_no_prefix s up name far = elim (cases_Bool (is_prefix s up)) [
  | inl h ↦ absurd (true≢false (sym (up_prefix s up name h) ∙ far))
  | inr h ↦ h
]

-- a longer path ends in a name
pub last_of : (x : Name) (more : Names) → (up : Names) × (name : Name) × (x ∷ more ≡ up ++ name ∷ [])
last_of x [] = ([], x, refl)
last_of x (y ∷ more) = let it = last_of y more in (x ∷ it.0, it.1, ap (λ (r : Names). x ∷ r) it.2)

-- the item of a path below t was below s before, and so was its parent
below_parent : (at : Tree) (s t : Names) → IsTree at → (is_prefix s t ≡ false) → Resolves at t → (more up : Names) (name : Name) → up ++ name ∷ [] ≡ t ++ more → IsSome (moved at s t (t ++ more)) → moved at s t up ≡ Some Folder
below_parent at s t tree apart leads [] up name path some =
    let is : up ++ name ∷ [] ≡ t = path ∙ append-nil t in
    let above : is_prefix t up ≡ false = ap (λ (r : Names). is_prefix r up) (sym is) ∙ not_over_parent up name in
    let beside : is_prefix s up ≡ false = up_no_prefix s up name (ap (λ (r : Names). is_prefix s r) is ∙ apart) in
    moved_else at s t up above beside ∙ parent_leads at up name (subst (λ (r : Names). Resolves at r) (sym is) leads)
below_parent at s t tree apart leads (x ∷ more) up name path some =
    let it = last_of x more in
    let whole : up ++ name ∷ [] ≡ (t ++ it.0) ++ it.1 ∷ [] = path ∙ (ap (λ (r : Names). t ++ r) it.2 ∙ sym (append_assoc t it.0 (it.1 ∷ []))) in
    let parts = same_from_push up (t ++ it.0) name it.1 whole in
    let stood : IsSome (at (s ++ (x ∷ more))) = subst (λ (o : Option Item). IsSome o) (moved_below at s t (x ∷ more)) some in
    let stood' : IsSome (at ((s ++ it.0) ++ it.1 ∷ [])) = subst (λ (r : Names). IsSome (at r)) (ap (λ (r : Names). s ++ r) it.2 ∙ sym (append_assoc s it.0 (it.1 ∷ []))) stood in
    ap (λ (r : Names). moved at s t r) parts.0 ∙ (moved_below at s t it.0 ∙ tree.parents (s ++ it.0) it.1 stood')

parent_of : (at : Tree) (s t : Names) → IsTree at → is_prefix s t ≡ false → Resolves at t → (up : Names) (name : Name) (q : Names) → up ++ name ∷ [] ≡ q → IsSome (moved at s t q) → moved at s t up ≡ Some Folder
parent_of at s t tree apart leads up name q path some = three_ways (λ (r : Names). up ++ name ∷ [] ≡ r → IsSome (moved at s t r) → moved at s t up ≡ Some Folder) s t q
    (λ more is stood. below_parent at s t tree apart leads more up name is stood)
    (λ above below is stood. absurd (no_item (moved at s t q) (moved_gone at s t q above below) stood))
    (λ above below is stood.
    let far = up_no_prefix t up name (ap (λ (r : Names). is_prefix t r) is ∙ above) in
    let beside = up_no_prefix s up name (ap (λ (r : Names). is_prefix s r) is ∙ below) in
    let there : IsSome (at (up ++ name ∷ [])) = subst (λ (r : Names). IsSome (at r)) (sym is) (subst (λ (o : Option Item). IsSome o) (moved_else at s t q above below) stood) in
    moved_else at s t up far beside ∙ tree.parents up name there)
    path some

pub moved_tree : (at : Tree) (s t : Names) → IsTree at → (s ≡ [] → ⊥) → (t ≡ [] → ⊥) → Resolves at t → is_prefix s t ≡ false → IsTree (moved at s t)
moved_tree at s t tree low_s low_t leads apart = record {
  root = moved_else at s t [] (prefix_of_root t low_t) (prefix_of_root s low_s) ∙ tree.root;
  parents = λ up name some. parent_of at s t tree apart leads up name (up ++ name ∷ []) refl some;
}
