-- Which nodes a change of names puts into the list of newly cut ones.
use Rattle.std.proofs.Common.{ℕ, ◌≡◌, List, [], ◌∷◌, ◌++◌, if◌then◌else◌, Some, Contains, length, drop, refl, sym, ap, ◌∙◌, subst, ◌⊎◌, inl, inr}
use Rattle.std.proofs.lemmas.Bool.{cases_Bool, cond-true}
use Rattle.std.proofs.lemmas.Option.{none-some, same_Some}
use Rattle.std.proofs.lemmas.List.Elements.{Contains-append_left, Contains-append_right}
use Rattle.paths.specs.Prefixes.{Name, Names, is_prefix}
use Rattle.tree.specs.declared.nodes.Key.{Key}
use Rattle.tree.specs.declared.nodes.Node.{Node}
use Rattle.tree.specs.declared.nodes.Place.{Place}
use Rattle.tree.specs.declared.nodes.Place.TheVariants.{Root, Named, Cut}
use Rattle.tree.specs.Moves.{Exchanges, ExchangesPlaces, ListsCuts, Stands, Where, Writes, after_exchange, at_path}
use Rattle.tree.specs.Places.{Lookup, HasChild, IsCut, IsPathOf, IsTree, Nodes, Reaches, at_in}
use Rattle.tree.proofs.Climbing.{cut_unnamed, path_of_lead, place_same}
use Rattle.tree.proofs.LookupLemmas.{cases_option, with_some}
use Rattle.tree.proofs.Transfers.{cut_pathless}
use Rattle.table_steps.specs.Sweeping.{AreListed}
use Rattle.table_steps.proofs.Placing.{parent_leads}

pub listed_same : (t : Nodes) → AreListed t t
listed_same t = record { kept = λ n h. h; cut = λ n h. inl h }

pub listed_then : (a b c : Nodes) → AreListed a b → AreListed b c → AreListed a c
listed_then a b c first after = record {
  kept = λ n h. after.kept n (first.kept n h);
  cut = λ n h. elim (after.cut n h) [
    | inl was ↦ elim (first.cut n was) [ inl before ↦ inl before | inr among ↦ inr (after.kept n among) ]
    | inr among ↦ inr among
  ];
}

-- a place is that of a cut node, or is not
is_cut : (pl : Place) → (pl ≡ Cut) ⊎ (pl ≡ Cut → ⊥)
is_cut Root = inr (λ e. cc)
is_cut (Named key) = inr (λ e. cc)
is_cut Cut = inl refl

pub was_cut : (at : Lookup) (n : ℕ) → IsCut at n ⊎ (IsCut at n → ⊥)
was_cut at n = elim (cases_option (at n)) [
  | inl none ↦ inr (λ h. none-some h.0 (sym none ∙ h.1))
  | inr (x, stands) ↦ elim (is_cut x.place) [
    | inl e ↦ inl (x, stands, e)
    | inr whole ↦ inr (λ h. whole (ap (λ (w : Node). w.place) (same_Some x h.0 (sym stands ∙ h.1)) ∙ h.2))
  ]
]

-- what the tree says about a cut or a move
pub listed_by : (old new : Nodes) → ListsCuts (at_in old) (at_in new) old.newly_cut new.newly_cut → AreListed old new
listed_by old new lists = record {
  kept = λ n h. subst (λ (l : List ℕ). Contains l n) (sym lists.after_is) (Contains-append_left old.newly_cut lists.more n h);
  cut = λ n h. elim (was_cut (at_in old) n) [
    | inl was ↦ inl was
    | inr uncut ↦ inr (subst (λ (l : List ℕ). Contains l n) (sym lists.after_is) (Contains-append_right old.newly_cut lists.more n ((lists.are_new n).1 (h, uncut))))
  ];
}

-- an exchange maps a path to a path
exchanged_path : (p q r : Names) → (s : Names) × (after_exchange p q (at_path r) ≡ at_path s)
exchanged_path p q r = elim (cases_Bool (is_prefix p r)) [
  | inl prefix ↦ (q ++ drop (length p) r, cond-true (is_prefix p r) (at_path (q ++ drop (length p) r)) (if is_prefix q r then at_path (p ++ drop (length q) r) else at_path r) prefix)
  | inr none ↦ elim (cases_Bool (is_prefix q r)) [
    | inl prefix ↦ (p ++ drop (length q) r, rw (none, prefix) refl)
    | inr none' ↦ (r, rw (none, none') refl)
  ]
]

-- so it cuts nothing
module _ (old new : Lookup) (tree : IsTree old) (tree' : IsTree new) (parent : ℕ) (name : Name) (new_parent : ℕ) (new_name : Name) (exchanges : Exchanges old new parent name new_parent new_name) where
  rooted_uncut : (n : ℕ) (r : Names) → IsPathOf old n r → IsCut new n → ⊥
  rooted_uncut n r h lost =
      let p = exchanges.above ++ name ∷ [] in
      let q = exchanges.new_above ++ new_name ∷ [] in
      let to = exchanged_path p q r in
      cut_pathless new tree' n to.0 lost (subst (λ (w : Where). Stands new n w) to.1 (exchanges.changes.moved n (at_path r) h))

  uncut_by : (n : ℕ) (x : Node) → old n ≡ Some x → (pl : Place) → x.place ≡ pl → IsCut new n → IsCut old n
  uncut_by n x stood Root is lost = absurd (rooted_uncut n [] (tree.only_root n x stood is) lost)
  uncut_by n x stood (Named key) is lost = let it = path_of_lead old n (tree.reached n key.parent key.name (x, stood, is)) in absurd (rooted_uncut n it.0 it.1 lost)
  uncut_by n x stood Cut is lost = (x, stood, is)

  pub exchange_uncut : (n : ℕ) → IsCut new n → IsCut old n
  exchange_uncut n lost = elim (cases_option (old n)) [
    | inl none ↦ absurd (none-some lost.0 (sym (exchanges.changes.none_comes n none) ∙ lost.1))
    | inr (x, stood) ↦ uncut_by n x stood x.place refl lost
  ]

pub listed_exchanged : (old new : Nodes) (parent : ℕ) (name : Name) (new_parent : ℕ) (new_name : Name) → IsTree (at_in old) → IsTree (at_in new) → ExchangesPlaces old parent name new_parent new_name new → AreListed old new
listed_exchanged old new parent name new_parent new_name tree tree' it = record {
  kept = λ n h. subst (λ (l : List ℕ). Contains l n) (sym (ap (λ (t : Nodes). t.newly_cut) it.rest)) h;
  cut = λ n h. inl (exchange_uncut (at_in old) (at_in new) tree tree' parent name new_parent new_name it.exchanges n h);
}

-- a node is written and keeps its place
pub listed_written : (old new : Nodes) (number : ℕ) (x y : Node) → at_in old number ≡ Some x → y.place ≡ x.place → Writes old number x y new → AreListed old new
listed_written old new number x y stood place writes = record {
  kept = λ n h. subst (λ (l : List ℕ). Contains l n) (sym (ap (λ (t : Nodes). t.newly_cut) writes.rest)) h;
  cut = λ n h. inl (elim (with_some (at_in old) number y n h.0 (ap (λ (at : Lookup). at n) (sym writes.nodes) ∙ h.1)) [
    | inl (e, same) ↦ (x, ap (at_in old) (sym e) ∙ stood, sym place ∙ (ap (λ (w : Node). w.place) same ∙ h.2))
    | inr (ne, was) ↦ (h.0, was, h.2)
  ]);
}

pub cut_named : (pl : Place) (key : Key) → pl ≡ Cut → pl ≡ Named key → ⊥
cut_named pl key e f = let bad : Cut ≡ Named key = sym e ∙ f in cc

-- a cut node has no child
pub cut_childless : (at : Lookup) → IsTree at → (n : ℕ) (x : Node) → at n ≡ Some x → x.place ≡ Cut → HasChild at n → ⊥
cut_childless at tree n x stood lost child =
    let leads = parent_leads at tree child.0 n child.1 child.2 in
    no_lead leads.names leads.climb
  where
    root_uncut : tree.rooted.node.place ≡ x.place → ⊥
    root_uncut e = let bad : Root ≡ Cut = sym tree.rooted.root ∙ (e ∙ lost) in cc

    no_lead : (names : Names) → Reaches at 1 n names → ⊥
    no_lead [] e = root_uncut (place_same at 1 tree.rooted.node x tree.rooted.here (ap at (sym e) ∙ stood))
    no_lead (name ∷ up) h = cut_unnamed at n x stood lost h.0 name h.1
