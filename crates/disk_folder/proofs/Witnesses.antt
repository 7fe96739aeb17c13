-- Trees that refuse a call with a given error.
use Rattle.std.proofs.Common.{ℕ, ℤ, ◌≡◌, ◌<◌, suc, zero, length, take, Bool, true, false, cond, List, ◌++◌, ◌∷◌, [], Option, Some, None, IsSome, refl, sym, ap, ◌∙◌, subst, arith, if◌then◌else◌, inl, inr}
use Rattle.std.proofs.lemmas.Bool.{cond-true, cond-false, true≢false, cases_Bool}
use Rattle.std.proofs.lemmas.List.{length-take-le}
use Rattle.paths.specs.Prefixes.{Name, Names, is_prefix}
use Rattle.paths.proofs.PrefixLemmas.{is_prefix-append, is_prefix-same, is_prefix-trans, not_over_parent, is_name-same}
use Rattle.backing.specs.declared.entries.Item.{Item}
use Rattle.backing.specs.declared.entries.Item.TheVariants.{Folder, File, Link}
use Rattle.errno.specs.declared.TheConstants.{ENOENT, EBUSY, EEXIST, ENOTDIR, EISDIR, EINVAL, ENOTEMPTY}
use Rattle.backing.specs.Tree.{Tree, IsTree, Blocks, IsFolder, IsNeither, IsNoLink, IsOther, Resolves, Stops, IsBare, with_item}
use Rattle.backing.specs.Calls.{Test, AskRemoveDir, BelowRoot, Reached, Present, Free, FileAt, LinkAt, FolderAt, NoFolder, Bare, Refuses}
use Rattle.disk_folder.specs.Explained.{Explained, Explains}
use Rattle.backing.proofs.PathLemmas.{same_path}
use Rattle.backing.proofs.Looking.{with_same, with_other}
use Rattle.backing.proofs.Lawful.{some_item, no_item}

-- the folders on the way down to s, on the way down to t, and these two
abbrev pub two : Names → Names → Tree
two s t = λ q. if is_prefix q s then Some Folder else (if is_prefix q t then Some Folder else None)

pub two_s : (s t q : Names) → is_prefix q s ≡ true → two s t q ≡ Some Folder
two_s s t q h = cond-true (is_prefix q s) (Some Folder) (cond (is_prefix q t) (Some Folder) None) h

pub two_t : (s t q : Names) → is_prefix q t ≡ true → two s t q ≡ Some Folder
two_t s t q h = elim (cases_Bool (is_prefix q s)) [
  | inl yes_s ↦ two_s s t q yes_s
  | inr no_s ↦ cond-false (is_prefix q s) (Some Folder) (cond (is_prefix q t) (Some Folder) None) no_s ∙ cond-true (is_prefix q t) (Some Folder) None h
]

two_none : (s t q : Names) → is_prefix q s ≡ false → is_prefix q t ≡ false → two s t q ≡ None
two_none s t q a b = cond-false (is_prefix q s) (Some Folder) (cond (is_prefix q t) (Some Folder) None) a ∙ cond-false (is_prefix q t) (Some Folder) None b

up_is_prefix : (up : Names) (name : Name) (p : Names) → is_prefix (up ++ name ∷ []) p ≡ true → is_prefix up p ≡ true
up_is_prefix up name p h = is_prefix-trans up (up ++ name ∷ []) p (is_prefix-append up (name ∷ [])) h

pub two_tree : (s t : Names) → IsTree (two s t)
two_tree s t = record {
  root = refl;
  parents = λ up name some. elim (cases_Bool (is_prefix (up ++ name ∷ []) s)) [
    | inl h ↦ two_s s t up (up_is_prefix up name s h)
    | inr a ↦ elim (cases_Bool (is_prefix (up ++ name ∷ []) t)) [
      | inl h ↦ two_t s t up (up_is_prefix up name t h)
      | inr b ↦ absurd (no_item (two s t (up ++ name ∷ [])) (two_none s t (up ++ name ∷ []) a b) some)
    ]
  ];
}

no_up : (up : Names) (name : Name) (p : Names) → is_prefix up p ≡ false → is_prefix (up ++ name ∷ []) p ≡ false
no_up up name p h = elim (cases_Bool (is_prefix (up ++ name ∷ []) p)) [
  | inl yes_p ↦ absurd (true≢false (sym (up_is_prefix up name p yes_p) ∙ h))
  | inr no_p ↦ no_p
]

-- nothing stands below an end that the other path does not lead through
pub two_bare_s : (s t : Names) → is_prefix s t ≡ false → IsBare (two s t) s
two_bare_s s t h = record { none = λ name. two_none s t (s ++ name ∷ []) (not_over_parent s name) (no_up s name t h) }

pub two_bare_t : (s t : Names) → is_prefix t s ≡ false → IsBare (two s t) t
two_bare_t s t h = record { none = λ name. two_none s t (t ++ name ∷ []) (no_up t name s h) (not_over_parent t name) }

-- something else in the place of a folder without names
pub with_leaf : (at : Tree) (p : Names) (leaf : Item) → IsTree at → (p ≡ [] → ⊥) → IsBare at p → IsSome (at p) → IsTree (with_item at p leaf)
with_leaf at p leaf t below bare stands = record {
  root = with_other at p leaf [] below ∙ t.root;
  parents = λ up name some.
      let stood : IsSome (at (up ++ name ∷ [])) = elim (same_path p (up ++ name ∷ [])) [
        | inl e ↦ subst (λ (q : Names). IsSome (at q)) e stands
        | inr far ↦ subst (λ (o : Option Item). IsSome o) (with_other at p leaf (up ++ name ∷ []) far) some
      ] in
      with_other at p leaf up (λ e. no_item (at (up ++ name ∷ [])) (subst (λ (q : Names). at (q ++ name ∷ []) ≡ None) e (bare.none name)) stood) ∙ t.parents up name stood;
}

is_prefix_head : (x : Name) (p q : Names) → is_prefix (x ∷ p) (x ∷ q) ≡ is_prefix p q
is_prefix_head x p q = rw (is_name-same x) refl

take_prefix : (k : ℕ) (p : Names) → is_prefix (take k p) p ≡ true
take_prefix zero p = refl
take_prefix (suc k) [] = refl
take_prefix (suc k) (x ∷ p) = subst (λ (b : Bool). b ≡ true) (sym (is_prefix_head x (take k p) p)) (take_prefix k p)

-- folders on the way down
pub leads : (at : Tree) (p : Names) → ((q : Names) → is_prefix q p ≡ true → (q ≡ p → ⊥) → at q ≡ Some Folder) → Resolves at p
leads at p folders = record {
  down = λ k within.
      let short : length (take k p) ≡ k = length-take-le k p (omega arith) in
      let other : take k p ≡ p → ⊥ = λ e. let l : length (take k p) ≡ length p = ap (λ (q : Names). length q) e in omega arith in
      subst (λ (o : Option Item). IsFolder o) (sym (folders (take k p) (take_prefix k p) other)) tt;
}

pub is_folder : (o : Option Item) → o ≡ Some Folder → IsFolder o
is_folder o e = subst (λ (x : Option Item). IsFolder x) (sym e) tt

pub is_other : (o : Option Item) → o ≡ Some (File []) → IsOther o
is_other o e = subst (λ (x : Option Item). IsOther x) (sym e) tt

is_neither : (o : Option Item) → o ≡ Some (Link []) → IsNeither o
is_neither o e = subst (λ (x : Option Item). IsNeither x) (sym e) tt

is_no_link : (o : Option Item) → o ≡ Some Folder → IsNoLink o
is_no_link o e = subst (λ (x : Option Item). IsNoLink x) (sym e) tt

pub no_folder_other : (o : Option Item) → o ≡ Some Folder → IsOther o → ⊥
no_folder_other o e other = let gone : IsOther (Some Folder) = subst (λ (x : Option Item). IsOther x) e other in gone

blocked : (x y : Name) (p : Names) → Stops (two [] []) (x ∷ y ∷ p) ENOENT
blocked x y p = record {
  depth = 1;
  above_path = omega arith;
  down = λ k within. let first : 0 ≡ k = omega arith in subst (λ (n : ℕ). IsFolder (two [] [] (take n (x ∷ y ∷ p)))) first tt;
  why = refl;
}

-- nothing stands at p
absent : (p : Names) (more : List Test) → (p ≡ [] → ⊥) → Refuses (two [] []) (Reached p ∷ Present p ∷ more) ENOENT
absent [] more below = absurd (below refl)
absent (x ∷ []) more below = inr (record { down = λ k within. let first : 0 ≡ k = omega arith in subst (λ (n : ℕ). IsFolder (two [] [] (take n (x ∷ [])))) first tt }, inl (refl, refl))
absent (x ∷ (y ∷ p)) more below = inl (blocked x y p)

pub low : (x : Name) (p : Names) → x ∷ p ≡ [] → ⊥
low x p e = cc

leaf_tree : (p : Names) (leaf : Item) → (p ≡ [] → ⊥) → IsTree (with_item (two p p) p leaf)
leaf_tree p leaf below = with_leaf (two p p) p leaf (two_tree p p) below (record { none = λ name. two_none p p (p ++ name ∷ []) (not_over_parent p name) (not_over_parent p name) }) (some_item (two p p p) Folder (two_s p p p (is_prefix-same p)))

file_blocks : (x y : Name) (p : Names) → Stops (with_item (two (x ∷ []) (x ∷ [])) (x ∷ []) (File [])) (x ∷ y ∷ p) ENOTDIR
file_blocks x y p =
    let at : Tree = with_item (two (x ∷ []) (x ∷ [])) (x ∷ []) (File []) in
    record {
      depth = 1;
      above_path = omega arith;
      down = λ k within. let first : 0 ≡ k = omega arith in subst (λ (n : ℕ). IsFolder (at (take n (x ∷ y ∷ p)))) first tt;
      why = subst (λ (o : Option Item). Blocks o ENOTDIR) (sym (with_same (two (x ∷ []) (x ∷ [])) (x ∷ []) (File []))) refl;
    }

leaf_leads : (p : Names) (leaf : Item) → Resolves (with_item (two p p) p leaf) p
leaf_leads p leaf = leads (with_item (two p p) p leaf) p (λ q prefix other. with_other (two p p) p leaf q (λ e. other (sym e)) ∙ two_s p p q prefix)

pub folder_leads : (p : Names) → Resolves (two p p) p
folder_leads p = leads (two p p) p (λ q prefix other. two_s p p q prefix)

pub some_folder : (p : Names) → IsSome (two p p p)
some_folder p = some_item (two p p p) Folder (two_s p p p (is_prefix-same p))

some_leaf : (p : Names) (leaf : Item) → IsSome (with_item (two p p) p leaf p)
some_leaf p leaf = some_item (with_item (two p p) p leaf p) leaf (with_same (two p p) p leaf)

pub lost_absent : (p : Names) (more : List Test) → 0 < length p → Explained (Reached p ∷ Present p ∷ more) ENOENT
lost_absent [] more within = absurd (omega arith)
lost_absent (x ∷ p) more within = record { at = two [] []; is_tree = two_tree [] []; refuses = absent (x ∷ p) more (low x p) }

pub lost_blocked : (p : Names) (more : List Test) → 1 < length p → Explained (Reached p ∷ more) ENOTDIR
lost_blocked [] more within = absurd (omega arith)
lost_blocked (x ∷ []) more within = absurd (omega arith)
lost_blocked (x ∷ (y ∷ p)) more within = record { at = with_item (two (x ∷ []) (x ∷ [])) (x ∷ []) (File []); is_tree = leaf_tree (x ∷ []) (File []) (low x []); refuses = inl (file_blocks x y p) }

pub not_there : (p : Names) (more : List Test) → 1 < length p → Explained (Reached p ∷ more) ENOENT
not_there [] more within = absurd (omega arith)
not_there (x ∷ []) more within = absurd (omega arith)
not_there (x ∷ (y ∷ p)) more within = record { at = two [] []; is_tree = two_tree [] []; refuses = inl (blocked x y p) }

pub folder_there : (p : Names) (more : List Test) → Explained (Reached p ∷ Present p ∷ NoFolder p ∷ more) EISDIR
folder_there p more = record { at = two p p; is_tree = two_tree p p; refuses = inr (folder_leads p, inr (some_folder p, inl (is_folder (two p p p) (two_s p p p (is_prefix-same p)), refl))) }

pub no_file_folder : (p : Names) (more : List Test) → Explained (Reached p ∷ Present p ∷ FileAt p ∷ more) EISDIR
no_file_folder p more = record { at = two p p; is_tree = two_tree p p; refuses = inr (folder_leads p, inr (some_folder p, inl (inl (is_folder (two p p p) (two_s p p p (is_prefix-same p)), refl)))) }

-- a link stands at p
pub no_file_neither : (p : Names) (more : List Test) → 0 < length p → Explained (Reached p ∷ Present p ∷ FileAt p ∷ more) EINVAL
no_file_neither [] more within = absurd (omega arith)
no_file_neither (x ∷ p) more within =
    let q = x ∷ p in
    let at : Tree = with_item (two q q) q (Link []) in
    record { at = at; is_tree = leaf_tree q (Link []) (low x p); refuses = inr (leaf_leads q (Link []), inr (some_leaf q (Link []), inl (inr (is_neither (at q) (with_same (two q q) q (Link [])), refl)))) }

-- a folder stands at p
pub no_link : (p : Names) (more : List Test) → Explained (Reached p ∷ Present p ∷ LinkAt p ∷ more) EINVAL
no_link p more = record { at = two p p; is_tree = two_tree p p; refuses = inr (folder_leads p, inr (some_folder p, inl (is_no_link (two p p p) (two_s p p p (is_prefix-same p)), refl))) }

pub no_folder : (p : Names) (more : List Test) → 0 < length p → Explained (Reached p ∷ Present p ∷ FolderAt p ∷ more) ENOTDIR
no_folder [] more within = absurd (omega arith)
no_folder (x ∷ p) more within =
    let q = x ∷ p in
    record { at = with_item (two q q) q (File []); is_tree = leaf_tree q (File []) (low x p); refuses = inr (leaf_leads q (File []), inr (some_leaf q (File []), inl (is_other (with_item (two q q) q (File []) q) (with_same (two q q) q (File [])), refl))) }

pub taken : (p : Names) (more : List Test) → Explained (Reached p ∷ Free p ∷ more) EEXIST
taken p more = record { at = two p p; is_tree = two_tree p p; refuses = inr (folder_leads p, inl (some_folder p, refl)) }

-- behind a test that passes everywhere
pub behind_root : (p : Names) (tests : List Test) (errno : ℤ) → 0 < length p → Explained tests errno → Explained (BelowRoot p ∷ tests) errno
behind_root [] tests errno within it = absurd (omega arith)
behind_root (x ∷ p) tests errno within it = record { at = it.at; is_tree = it.is_tree; refuses = inr (low x p, it.refuses) }

pub dir_root : (p : Names) → length p ≡ 0 → Explains (AskRemoveDir p) EBUSY
dir_root [] none = record { at = two [] []; is_tree = two_tree [] []; refuses = inl (refl, refl) }
dir_root (x ∷ p) none = absurd (omega arith)

pub dir_lost : (p : Names) → 0 < length p → Explains (AskRemoveDir p) ENOENT
dir_lost p within = behind_root p (Reached p ∷ Present p ∷ FolderAt p ∷ Bare p ∷ []) ENOENT within (lost_absent p (FolderAt p ∷ Bare p ∷ []) within)

pub dir_no_folder : (p : Names) → 0 < length p → Explains (AskRemoveDir p) ENOTDIR
dir_no_folder p within = behind_root p (Reached p ∷ Present p ∷ FolderAt p ∷ Bare p ∷ []) ENOTDIR within (no_folder p (Bare p ∷ []) within)

dir_names : (p : Names) → Explained (Reached p ∷ Present p ∷ FolderAt p ∷ Bare p ∷ []) ENOTEMPTY
dir_names p =
    let q = p ++ [] ∷ [] in
    let at : Tree = two q q in
    let folder : at p ≡ Some Folder = two_s q q p (is_prefix-append p ([] ∷ [])) in
    record {
      at = at;
      is_tree = two_tree q q;
      refuses = inr (
        leads at p (λ r prefix other. two_s q q r (is_prefix-trans r p q prefix (is_prefix-append p ([] ∷ [])))),
        inr (
          some_item (at p) Folder folder,
          inr (
            is_folder (at p) folder,
            inl (record { name = []; stands = some_folder q }, refl),
          ),
        ),
      );
    }

pub dir_not_bare : (p : Names) → 0 < length p → Explains (AskRemoveDir p) ENOTEMPTY
dir_not_bare p within = behind_root p (Reached p ∷ Present p ∷ FolderAt p ∷ Bare p ∷ []) ENOTEMPTY within (dir_names p)
