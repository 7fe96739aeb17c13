-- The names of a folder, collected entry by entry.
use Rattle.std.proofs.Common.{ℕ, ◌≡◌, ◌<◌, suc, zero, length, take, get_or, List, ◌++◌, ◌∷◌, [], Option, Some, None, refl, sym, ap, ◌∙◌, subst, arith, ◌⊎◌, inl, inr}
use Rattle.std.specs.Option.{option_map}
use Rattle.std.proofs.lemmas.Bool.{cond-true, cond-false, cases_Bool, true≢false}
use Rattle.std.proofs.lemmas.Option.{none-some}
use Rattle.std.proofs.lemmas.List.{same_from_push}
use Rattle.paths.specs.Prefixes.{Name, Names, is_name}
use Rattle.paths.proofs.PrefixLemmas.{is_name-true, is_name-same, is_name-yes, is_name-no}
use Rattle.backing.specs.declared.call.Child.{Child}
use Rattle.backing.specs.declared.entries.Item.{Item}
use Rattle.backing.specs.declared.entries.TreeEntry.{TreeEntry}
use Rattle.backing.specs.Tree.{Tree, kind_of}
use Rattle.backing.specs.Calls.{Lists, kind_in, EachOnce}
use Rattle.backing.specs.Entries.{look, tree_of, IsDistinct}
use Rattle.backing.proofs.Looking.{with_same, with_other, look-push, look_some, tree-below}

-- the names of p among these entries
pub record Listed (es : List TreeEntry) (p : Names) (cs : List Child) : Type 0 where
  pub stands : (name : Name) → kind_in cs name ≡ option_map kind_of (look es (p ++ name ∷ []))
  pub once : EachOnce cs

pub same_name : (a b : Name) → (a ≡ b) ⊎ (a ≡ b → ⊥)
same_name a b = elim (cases_Bool (is_name a b)) [
  | inl h ↦ inl (is_name-true a b h)
  | inr h ↦ inr (λ e. true≢false (sym (is_name-yes a b e) ∙ h))
]

kind_in_other : (c : Child) (cs : List Child) (name : Name) → (c.name ≡ name → ⊥) → kind_in (c ∷ cs) name ≡ kind_in cs name
kind_in_other c cs name ne = cond-false (is_name c.name name) (Some c.kind) (kind_in cs name) (is_name-no c.name name ne)

kind_in_same : (c : Child) (cs : List Child) → kind_in (c ∷ cs) c.name ≡ Some c.kind
kind_in_same c cs = cond-true (is_name c.name c.name) (Some c.kind) (kind_in cs c.name) (is_name-same c.name)

-- a name that is pushed is found, and the others are found as before
kind_in-push_other : (cs : List Child) (c : Child) (name : Name) → (c.name ≡ name → ⊥) → kind_in (cs ++ c ∷ []) name ≡ kind_in cs name
kind_in-push_other [] c name ne = kind_in_other c [] name ne
kind_in-push_other (x ∷ cs) c name ne = elim (same_name x.name name) [
  | inl e ↦ subst (λ (n : Name). kind_in (x ∷ (cs ++ c ∷ [])) n ≡ kind_in (x ∷ cs) n) e (kind_in_same x (cs ++ c ∷ []) ∙ sym (kind_in_same x cs))
  | inr far ↦ kind_in_other x (cs ++ c ∷ []) name far ∙ (kind_in-push_other cs c name ne ∙ sym (kind_in_other x cs name far))
]

kind_in-push_same : (cs : List Child) (c : Child) → kind_in cs c.name ≡ None → kind_in (cs ++ c ∷ []) c.name ≡ Some c.kind
kind_in-push_same [] c h = kind_in_same c []
kind_in-push_same (x ∷ cs) c h = elim (same_name x.name c.name) [
  | inl e ↦ absurd (none-some x.kind (sym (subst (λ (n : Name). kind_in (x ∷ cs) n ≡ None) (sym e) h) ∙ kind_in_same x cs))
  | inr far ↦ kind_in_other x (cs ++ c ∷ []) c.name far ∙ kind_in-push_same cs c (sym (kind_in_other x cs c.name far) ∙ h)
]

EachOnce-push : (cs : List Child) (c : Child) → EachOnce cs → kind_in cs c.name ≡ None → EachOnce (cs ++ c ∷ [])
EachOnce-push [] c once fresh = (refl, tt)
EachOnce-push (x ∷ cs) c once fresh = elim (same_name x.name c.name) [
  | inl e ↦ absurd (none-some x.kind (sym (subst (λ (n : Name). kind_in (x ∷ cs) n ≡ None) (sym e) fresh) ∙ kind_in_same x cs))
  | inr far ↦ (kind_in-push_other cs c x.name (λ e. far (sym e)) ∙ once.0, EachOnce-push cs c once.1 (sym (kind_in_other x cs c.name far) ∙ fresh))
]

pub listed_none : (p : Names) → Listed [] p []
listed_none p = record { stands = λ name. refl; once = tt }

pub listed_child : (es : List TreeEntry) (x : TreeEntry) (p : Names) (name : Name) (cs : List Child) → look es x.path ≡ None → x.path ≡ p ++ name ∷ [] → Listed es p cs → Listed (es ++ x ∷ []) p (cs ++ (record { name = name; kind = kind_of x.item }) ∷ [])
listed_child es x p name cs fresh path before =
    let c : Child = record { name = name; kind = kind_of x.item } in
    let absent : kind_in cs name ≡ None = before.stands name ∙ ap (λ (o : Option Item). option_map kind_of o) (subst (λ (q : Names). look es q ≡ None) path fresh) in
    record {
      stands = λ n. elim (same_name name n) [
        | inl e ↦
            let one : kind_in (cs ++ c ∷ []) n ≡ Some (kind_of x.item) = subst (λ (m : Name). kind_in (cs ++ c ∷ []) m ≡ Some (kind_of x.item)) e (kind_in-push_same cs c absent) in
            let two : look (es ++ x ∷ []) (p ++ n ∷ []) ≡ Some x.item = subst (λ (m : Name). look (es ++ x ∷ []) (p ++ m ∷ []) ≡ Some x.item) e (subst (λ (q : Names). look (es ++ x ∷ []) q ≡ Some x.item) path (ap (λ (at : Tree). at x.path) (look-push es x fresh) ∙ with_same (look es) x.path x.item)) in
            one ∙ sym (ap (λ (o : Option Item). option_map kind_of o) two)
        | inr far ↦
            let apart : x.path ≡ p ++ n ∷ [] → ⊥ = λ e. far (same_from_push p p name n (sym path ∙ e)).1 in
            let two : look (es ++ x ∷ []) (p ++ n ∷ []) ≡ look es (p ++ n ∷ []) = ap (λ (at : Tree). at (p ++ n ∷ [])) (look-push es x fresh) ∙ with_other (look es) x.path x.item (p ++ n ∷ []) apart in
            kind_in-push_other cs c n far ∙ (before.stands n ∙ ap (λ (o : Option Item). option_map kind_of o) (sym two))
      ];
      once = EachOnce-push cs c before.once absent;
    }

pub listed_other : (es : List TreeEntry) (x : TreeEntry) (p : Names) (cs : List Child) → look es x.path ≡ None → ((name : Name) → x.path ≡ p ++ name ∷ [] → ⊥) → Listed es p cs → Listed (es ++ x ∷ []) p cs
listed_other es x p cs fresh apart before = record {
  stands = λ n.
      let two : look (es ++ x ∷ []) (p ++ n ∷ []) ≡ look es (p ++ n ∷ []) = ap (λ (at : Tree). at (p ++ n ∷ [])) (look-push es x fresh) ∙ with_other (look es) x.path x.item (p ++ n ∷ []) (apart n) in
      before.stands n ∙ ap (λ (o : Option Item). option_map kind_of o) (sym two);
  once = before.once;
}

-- no earlier entry has an entry's path
pub look-take_none : (es : List TreeEntry) (i : ℕ) (d : TreeEntry) → IsDistinct es → i < length es → look (take i es) (get_or es i d).path ≡ None
look-take_none [] i d apart within = absurd (omega arith)
look-take_none (e ∷ es) zero d apart within = refl
look-take_none (e ∷ es) (suc i) d apart within =
    let ne : e.path ≡ (get_or es i d).path → ⊥ = λ f. look_some es i d (omega arith) (subst (λ (q : Names). look es q ≡ None) f apart.0) in
    with_other (look (take i es)) e.path e.item (get_or es i d).path ne ∙ look-take_none es i d apart.1 (omega arith)

pub lists_all : (es : List TreeEntry) (p : Names) (cs : List Child) → Listed es p cs → Lists (tree_of es) p cs
lists_all es p cs all = record {
  stands = λ name. all.stands name ∙ ap (λ (o : Option Item). option_map kind_of o) (sym (tree-below es p name));
  once = all.once;
}
