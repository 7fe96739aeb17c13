-- The names of a folder, as the spots are gone through.
use Rattle.std.proofs.Common.{ℕ, ◌≡◌, ◌<◌, ◌≤◌, ◌+◌, ◌||◌, true, false, Bool, suc, length, take, drop, get_or, List, ◌++◌, ◌∷◌, [], Option, Some, None, is_some, refl, sym, ap, ◌∙◌, subst, arith, ◌⊎◌, inl, inr}
use Rattle.std.proofs.lemmas.Bool.{cases_Bool, true≢false}
use Rattle.std.proofs.lemmas.List.{same_from_push, length-map, take_more, take_all}
use Rattle.std.proofs.Math.ListN.{get_or-map}
use Rattle.paths.specs.Prefixes.{Name, Names, is_name, is_prefix}
use Rattle.paths.proofs.PrefixLemmas.{is_prefix-more, drop-append, is_name-true, is_name-same, is_name-yes, is_name-no}
use Rattle.backing.specs.declared.entries.Item.{Item}
use Rattle.backing.specs.declared.entries.TreeEntry.{TreeEntry}
use Rattle.backing.specs.Tree.{Tree, HasNames, IsBare, with_item}
use Rattle.backing.specs.Entries.{look}
use Rattle.backing.proofs.Looking.{with_same, with_other, look-push}
use Rattle.backing.proofs.Listing.{look-take_none}
use Rattle.backing.proofs.Lawful.{some_item}
use Rattle.disk.specs.declared.spot.Spot.{Spot}
use Rattle.disk.specs.Answers.{is_among, EachOnce, ListsNames}
use Rattle.disk.specs.Spots.{item_of, entry_of, entries_of, tree_of, IsLawful}
use Rattle.disk.proofs.Spotting.{spot_at, item_at}

one_of : (xs : Names) (x : Name) → length xs ≡ 1 → x ≡ get_or xs 0 x → xs ≡ x ∷ []
one_of [] x long is = absurd (omega (arith, long))
one_of (y ∷ []) x long is = ap (λ (z : Name). z ∷ []) (sym is)
one_of (y ∷ z ∷ xs) x long is = absurd (omega (arith, long))

-- a path that is one name longer than its folder's
pub one_longer : (folder path below : Names) (x : Name) → is_prefix folder path ≡ true → below ≡ drop (length folder) path → length below ≡ 1 → x ≡ get_or below 0 x → path ≡ folder ++ x ∷ []
one_longer folder path below x prefix is long at =
    let it = is_prefix-more folder path prefix in
    let rest : below ≡ it.0 = is ∙ (ap (λ (p : Names). drop (length folder) p) it.1 ∙ drop-append folder it.0) in
    it.1 ∙ ap (λ (more : Names). folder ++ more) (sym rest ∙ one_of below x long at)

-- the names of p among these entries
pub record Listed (es : List TreeEntry) (p : Names) (names : List Name) : Type 0 where
  pub stands : (name : Name) → is_among names name ≡ is_some (look es (p ++ name ∷ []))
  pub once : EachOnce names

same_name : (a b : Name) → (a ≡ b) ⊎ (a ≡ b → ⊥)
same_name a b = elim (cases_Bool (is_name a b)) [
  | inl h ↦ inl (is_name-true a b h)
  | inr h ↦ inr (λ e. true≢false (sym (is_name-yes a b e) ∙ h))
]

among_same : (x : Name) (names : List Name) → is_among (x ∷ names) x ≡ true
among_same x names = ap (λ (b : Bool). b || is_among names x) (is_name-same x)

among_other : (x : Name) (names : List Name) (n : Name) → (x ≡ n → ⊥) → is_among (x ∷ names) n ≡ is_among names n
among_other x names n ne = ap (λ (b : Bool). b || is_among names n) (is_name-no x n ne)

-- a name that is pushed is found, and the others as before
among-push_other : (names : List Name) (x n : Name) → (x ≡ n → ⊥) → is_among (names ++ x ∷ []) n ≡ is_among names n
among-push_other [] x n ne = among_other x [] n ne
among-push_other (y ∷ names) x n ne = elim (same_name y n) [
  | inl e ↦ subst (λ (m : Name). is_among (y ∷ (names ++ x ∷ [])) m ≡ is_among (y ∷ names) m) e (among_same y (names ++ x ∷ []) ∙ sym (among_same y names))
  | inr far ↦ among_other y (names ++ x ∷ []) n far ∙ (among-push_other names x n ne ∙ sym (among_other y names n far))
]

among-push_same : (names : List Name) (x : Name) → is_among (names ++ x ∷ []) x ≡ true
among-push_same [] x = among_same x []
among-push_same (y ∷ names) x = elim (same_name y x) [
  | inl e ↦ subst (λ (m : Name). is_among (y ∷ (names ++ x ∷ [])) m ≡ true) e (among_same y (names ++ x ∷ []))
  | inr far ↦ among_other y (names ++ x ∷ []) x far ∙ among-push_same names x
]

EachOnce-push : (names : List Name) (x : Name) → EachOnce names → is_among names x ≡ false → EachOnce (names ++ x ∷ [])
EachOnce-push [] x once fresh = (refl, tt)
EachOnce-push (y ∷ names) x once fresh = elim (same_name y x) [
  | inl e ↦ absurd (true≢false (sym (among_same y names) ∙ subst (λ (m : Name). is_among (y ∷ names) m ≡ false) (sym e) fresh))
  | inr far ↦ (among-push_other names x y (λ e. far (sym e)) ∙ once.0, EachOnce-push names x once.1 (sym (among_other y names x far) ∙ fresh))
]

pub listed_none : (p : Names) → Listed [] p []
listed_none p = record { stands = λ name. refl; once = tt }

pub listed_child : (es : List TreeEntry) (x : TreeEntry) (p : Names) (name : Name) (names : List Name) → look es x.path ≡ None → x.path ≡ p ++ name ∷ [] → Listed es p names → Listed (es ++ x ∷ []) p (names ++ name ∷ [])
listed_child es x p name names fresh path before =
    let pushed : look (es ++ x ∷ []) ≡ with_item (look es) x.path x.item = look-push es x fresh in
    record {
      stands = λ n. elim (same_name name n) [
        | inl e ↦
            let here : look (es ++ x ∷ []) (p ++ name ∷ []) ≡ Some x.item = subst (λ (q : Names). look (es ++ x ∷ []) q ≡ Some x.item) path (ap (λ (at : Tree). at x.path) pushed ∙ with_same (look es) x.path x.item) in
            let one : is_among (names ++ name ∷ []) name ≡ is_some (look (es ++ x ∷ []) (p ++ name ∷ [])) = among-push_same names name ∙ sym (ap (λ (o : Option Item). is_some o) here) in
            subst (λ (m : Name). is_among (names ++ name ∷ []) m ≡ is_some (look (es ++ x ∷ []) (p ++ m ∷ []))) e one
        | inr far ↦
            let apart : x.path ≡ p ++ n ∷ [] → ⊥ = λ e. far (same_from_push p p name n (sym path ∙ e)).1 in
            let there : look (es ++ x ∷ []) (p ++ n ∷ []) ≡ look es (p ++ n ∷ []) = ap (λ (at : Tree). at (p ++ n ∷ [])) pushed ∙ with_other (look es) x.path x.item (p ++ n ∷ []) apart in
            among-push_other names name n far ∙ (before.stands n ∙ ap (λ (o : Option Item). is_some o) (sym there))
      ];
      once = EachOnce-push names name before.once (before.stands name ∙ ap (λ (o : Option Item). is_some o) (subst (λ (q : Names). look es q ≡ None) path fresh));
    }

pub listed_other : (es : List TreeEntry) (x : TreeEntry) (p : Names) (names : List Name) → look es x.path ≡ None → ((name : Name) → x.path ≡ p ++ name ∷ [] → ⊥) → Listed es p names → Listed (es ++ x ∷ []) p names
listed_other es x p names fresh apart before = record {
  stands = λ n.
      let there : look (es ++ x ∷ []) (p ++ n ∷ []) ≡ look es (p ++ n ∷ []) = ap (λ (at : Tree). at (p ++ n ∷ [])) (look-push es x fresh) ∙ with_other (look es) x.path x.item (p ++ n ∷ []) (apart n) in
      before.stands n ∙ ap (λ (o : Option Item). is_some o) (sym there);
  once = before.once;
}

-- one spot more: no earlier one bears its path
pub record OneMore (spots : List Spot) (i : ℕ) (x : Spot) : Type 0 where
  pub fresh : look (take i (entries_of spots)) x.path ≡ None
  pub more : take (i + 1) (entries_of spots) ≡ take i (entries_of spots) ++ entry_of x ∷ []

pub one_more : (spots : List Spot) (i : ℕ) (x : Spot) → IsLawful spots → i < length spots → x ≡ get_or spots i x → OneMore spots i x
one_more spots i x lawful within is =
    let es = entries_of spots in
    let within' : i < length es = omega (arith, length-map spots entry_of) in
    let at : get_or es i (entry_of x) ≡ entry_of x = get_or-map entry_of spots i x ∙ ap entry_of (sym is) in
    record {
      fresh = subst (λ (e : TreeEntry). look (take i es) e.path ≡ None) at (look-take_none es i (entry_of x) lawful.distinct within');
      more = take_more es i (entry_of x) within' ∙ ap (λ (e : TreeEntry). take i es ++ e ∷ []) at;
    }

pub lists_all : (spots : List Spot) (p : Names) (names : List Name) (i : ℕ) → IsLawful spots → length spots ≤ i → Listed (take i (entries_of spots)) p names → ListsNames (tree_of spots) p names
lists_all spots p names i lawful all listed =
    let whole = subst (λ (es : List TreeEntry). Listed es p names) (take_all i (entries_of spots) (omega (arith, length-map spots entry_of))) listed in
    record {
      stands = λ name. whole.stands name ∙ ap (λ (o : Option Item). is_some o) (sym (item_at spots (p ++ name ∷ []) lawful));
      once = whole.once;
    }

look_none : (spots : List Spot) (q : Names) → ((k : ℕ) (d : Spot) → k < length spots → (get_or spots k d).path ≡ q → ⊥) → look (entries_of spots) q ≡ None
look_none [] q none = refl
look_none (x ∷ spots) q none =
    let rest = look_none spots q (λ k d within. none (suc k) d (omega arith)) in
    with_other (look (entries_of spots)) x.path (item_of x.content) q (none 0 x (omega arith)) ∙ rest

-- no spot bears a name in the folder
pub is_bare : (spots : List Spot) (p : Names) → IsLawful spots → ((k : ℕ) (d : Spot) (name : Name) → k < length spots → (get_or spots k d).path ≡ p ++ name ∷ [] → ⊥) → IsBare (tree_of spots) p
is_bare spots p lawful none = record { none = λ name. item_at spots (p ++ name ∷ []) lawful ∙ look_none spots (p ++ name ∷ []) (λ k d within. none k d name within) }

-- one does
pub has_name : (spots : List Spot) (p : Names) (name : Name) (i : ℕ) (d : Spot) → IsLawful spots → i < length spots → (get_or spots i d).path ≡ p ++ name ∷ [] → HasNames (tree_of spots) p
has_name spots p name i d lawful within path =
    let it = spot_at spots i d lawful within in
    record { name = name; stands = some_item (tree_of spots (p ++ name ∷ [])) (item_of it.spot.content) (subst (λ (q : Names). tree_of spots q ≡ Some (item_of it.spot.content)) path it.stands) }
