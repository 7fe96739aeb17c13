-- The locations of each footprint are at or under the nodes that it names.
use Rattle.std.proofs.Common.{ℕ, ◌≡◌, ◌&&◌, ◌↔◌, ◌⊎◌, Bool, true, false, List, [], ◌∷◌, Contains, Option, None, Some, refl, sym, ap, ◌∙◌, subst, inl, inr}
use Rattle.std.specs.Prelude.{Any}
use Rattle.std.proofs.lemmas.Bool.{cases_Bool, eq-eqb}
use Rattle.std.proofs.lemmas.List.{length-map}
use Rattle.paths.specs.Prefixes.{Name, is_name}
use Rattle.paths.proofs.PrefixLemmas.{is_name-true, is_name-yes}
use Rattle.tree.specs.declared.nodes.Key.{Key}
use Rattle.table_requests.specs.declared.data.Case.{Case}
use Rattle.table_requests.specs.declared.data.Case.TheVariants as cases
use Rattle.table_requests.specs.declared.data.Want.{Want}
use Rattle.table_requests.specs.declared.data.Want.TheVariants as wants
use Rattle.table_footprints.specs.Laws.{AreOwn, AreSiblings, IsGrounded, base_of}
use Rattle.table_footprints.specs.Footprints.{Location, AtNode, AtName, Opening, Used, are_same, closed_exclusive, closed_at, closed_change, closed_on, closed_footprint, closed_shared, closing, exchange_footprint, link_footprint, used_on, move_footprint, name_footprint, node_footprint, page_names, page_footprint, hidden_in, names_under, removal_footprint, footprint_of}
use Rattle.table_footprints.proofs.Members.{any_first, any_later, cases_in, first_in, in_map, later_in, none_in, only_in}

-- a test of two names says whether they have the same bytes
spelt_same : (b : Bool) (name other : Name) → (b ≡ true) ↔ (name ≡ other) → b ≡ is_name name other
spelt_same true name other h = sym (is_name-yes name other (h.0 refl))
spelt_same false name other h = elim (cases_Bool (is_name name other)) [
  | inl same ↦ h.1 (is_name-true name other same) ∙ sym same
  | inr apart ↦ sym apart
]

-- two names under one node
pub name_same : (parent under : ℕ) (name other : Name) (b : Bool) → parent ≡ under → (b ≡ true) ↔ (name ≡ other) → b ≡ are_same (AtName parent name) (AtName under other)
name_same parent under name other b e h = spelt_same b name other h ∙ ap (λ p. p && is_name name other) (sym (eq-eqb parent under e))

-- the only location is at or under the only node
under_only : (n : ℕ) (l m : Location) → base_of l ≡ n → Contains (l ∷ []) m → Contains (n ∷ []) (base_of m)
under_only n l m base h = subst (λ k. Contains (n ∷ []) k) (sym base ∙ ap base_of (only_in l m h)) (first_in n [])

key_only : (parent : ℕ) (name : Name) (key : Key) → Contains (record { parent = parent; name = name } ∷ []) key → Contains (AtName parent name ∷ []) (AtName key.parent key.name)
key_only parent name key h = subst (λ (k : Key). Contains (AtName parent name ∷ []) (AtName k.parent k.name)) (only_in (record { parent = parent; name = name }) key h) (first_in (AtName parent name) [])

node_is_row : (number : ℕ) (used : Option Used) (opens : Option Opening) → IsGrounded (record (node_footprint number) { used = used; opens = opens })
node_is_row number used opens = record {
  shared = λ l h. under_only number (AtNode number) l refl h;
  exclusive = λ l h. absurd (none_in l h);
  paths = λ l h. under_only number (AtNode number) l refl h;
  covered = λ n h. inl (any_first (λ l. base_of l ≡ n) (AtNode number) [] (only_in number n h));
  entered = inl refl;
  own = tt;
  hidden = λ l h. absurd (none_in l h);
  beside = λ l h. absurd (none_in l h);
}

name_is_row : (parent : ℕ) (name : Name) (c : Case) (opens : Option Opening) → IsGrounded (record (name_footprint parent name c) { opens = opens })
name_is_row parent name c opens = record {
  shared = λ l h. under_only parent (AtName parent name) l refl h;
  exclusive = λ l h. absurd (none_in l h);
  paths = λ l h. under_only parent (AtName parent name) l refl h;
  covered = λ n h. inl (any_first (λ l. base_of l ≡ n) (AtName parent name) [] (only_in parent n h));
  entered = inr (λ key h. key_only parent name key h);
  own = tt;
  hidden = λ l h. absurd (none_in l h);
  beside = λ l h. absurd (none_in l h);
}

-- both locations are at or under the two nodes
link_under : (number parent : ℕ) (name : Name) (l : Location) → Contains (AtNode number ∷ AtName parent name ∷ []) l → Contains (number ∷ parent ∷ []) (base_of l)
link_under number parent name l h = elim (cases_in (AtNode number) (AtName parent name ∷ []) l h) [
  | inl e ↦ subst (λ k. Contains (number ∷ parent ∷ []) k) (ap base_of e) (first_in number (parent ∷ []))
  | inr more ↦ later_in number (parent ∷ []) (base_of l) (under_only parent (AtName parent name) l refl more)
]

link_covered : (number parent : ℕ) (name : Name) (n : ℕ) → Contains (number ∷ parent ∷ []) n → Any (λ l. base_of l ≡ n) (AtNode number ∷ AtName parent name ∷ [])
link_covered number parent name n h = elim (cases_in number (parent ∷ []) n h) [
  | inl e ↦ any_first (λ l. base_of l ≡ n) (AtNode number) (AtName parent name ∷ []) e
  | inr more ↦ any_later (λ l. base_of l ≡ n) (AtNode number) (AtName parent name ∷ []) (any_first (λ l. base_of l ≡ n) (AtName parent name) [] (only_in parent n more))
]

link_is_row : (number parent : ℕ) (name : Name) (c : Case) → IsGrounded (link_footprint number parent name c)
link_is_row number parent name c = record {
  shared = link_under number parent name;
  exclusive = λ l h. absurd (none_in l h);
  paths = link_under number parent name;
  covered = λ n h. inl (link_covered number parent name n h);
  entered = inr (λ key h. later_in (AtNode number) (AtName parent name ∷ []) (AtName key.parent key.name) (key_only parent name key h));
  own = tt;
  hidden = λ l h. absurd (none_in l h);
  beside = λ l h. absurd (none_in l h);
}

-- each candidate is under the same node as the name that is removed or replaced
beside_under : (parent : ℕ) (name : Name) (others : List Name) (l : Location) → Contains (AtName parent name ∷ names_under parent others) l → Contains (parent ∷ []) (base_of l)
beside_under parent name others l h = elim (cases_in (AtName parent name) (names_under parent others) l h) [
  | inl e ↦ subst (λ k. Contains (parent ∷ []) k) (ap base_of e) (first_in parent [])
  | inr more ↦
      let it = in_map (λ (x : Name). AtName parent x) others l more in
      subst (λ k. Contains (parent ∷ []) k) (ap base_of it.2) (first_in parent [])
]

removal_is_row : (parent : ℕ) (name : Name) (others : List Name) → IsGrounded (removal_footprint parent name others)
removal_is_row parent name others = record {
  shared = λ l h. absurd (none_in l h);
  exclusive = beside_under parent name others;
  paths = beside_under parent name others;
  covered = λ n h. inr (any_first (λ l. base_of l ≡ n) (AtName parent name) (names_under parent others) (only_in parent n h));
  entered = inl refl;
  own = first_in (AtName parent name) (names_under parent others);
  hidden = λ l h. later_in (AtName parent name) (names_under parent others) l h;
  beside = λ l h. let it = in_map (λ (x : Name). AtName parent x) others l h in subst (λ m. AreSiblings (AtName parent name) m) it.2 refl;
}

module _ (parent : ℕ) (name : Name) (new_parent : ℕ) (new_name : Name) (hidden : List Name) where
  abbrev others : List Location
  others = names_under new_parent hidden

  pair_under : (l : Location) → Contains (AtName parent name ∷ AtName new_parent new_name ∷ others) l → Contains (parent ∷ new_parent ∷ []) (base_of l)
  pair_under l h = elim (cases_in (AtName parent name) (AtName new_parent new_name ∷ others) l h) [
    | inl e ↦ subst (λ k. Contains (parent ∷ new_parent ∷ []) k) (ap base_of e) (first_in parent (new_parent ∷ []))
    | inr more ↦ later_in parent (new_parent ∷ []) (base_of l) (beside_under new_parent new_name hidden l more)
  ]

  pair_covered : (n : ℕ) → Contains (parent ∷ new_parent ∷ []) n → Any (λ l. base_of l ≡ n) (AtName parent name ∷ AtName new_parent new_name ∷ others)
  pair_covered n h = elim (cases_in parent (new_parent ∷ []) n h) [
    | inl e ↦ any_first (λ l. base_of l ≡ n) (AtName parent name) (AtName new_parent new_name ∷ others) e
    | inr more ↦ any_later (λ l. base_of l ≡ n) (AtName parent name) (AtName new_parent new_name ∷ others) (any_first (λ l. base_of l ≡ n) (AtName new_parent new_name) others (only_in new_parent n more))
  ]

  move_is_row : IsGrounded (move_footprint parent name new_parent new_name hidden)
  move_is_row = record {
    shared = λ l h. absurd (none_in l h);
    exclusive = pair_under;
    paths = pair_under;
    covered = λ n h. inr (pair_covered n h);
    entered = inl refl;
    own = (first_in (AtName parent name) (AtName new_parent new_name ∷ others), later_in (AtName parent name) (AtName new_parent new_name ∷ others) (AtName new_parent new_name) (first_in (AtName new_parent new_name) others));
    hidden = λ l h. later_in (AtName parent name) (AtName new_parent new_name ∷ others) l (later_in (AtName new_parent new_name) others l h);
    beside = λ l h. let it = in_map (λ (x : Name). AtName new_parent x) hidden l h in subst (λ m. AreSiblings (AtName new_parent new_name) m) it.2 refl;
  }

exchange_is_row : (parent : ℕ) (name : Name) (new_parent : ℕ) (new_name : Name) → IsGrounded (exchange_footprint parent name new_parent new_name)
exchange_is_row parent name new_parent new_name = record {
  shared = λ l h. absurd (none_in l h);
  exclusive = pair_under parent name new_parent new_name [];
  paths = pair_under parent name new_parent new_name [];
  covered = λ n h. inr (pair_covered parent name new_parent new_name [] n h);
  entered = inl refl;
  own = (first_in (AtName parent name) (AtName new_parent new_name ∷ []), later_in (AtName parent name) (AtName new_parent new_name ∷ []) (AtName new_parent new_name) (first_in (AtName new_parent new_name) []));
  hidden = λ l h. absurd (none_in l h);
  beside = λ l h. absurd (none_in l h);
}

-- each name of a page is under its folder
page_under : (folder : ℕ) (names : List Name) (l : Location) → Contains (AtNode folder ∷ page_names folder names) l → Contains (folder ∷ []) (base_of l)
page_under folder names l h = elim (cases_in (AtNode folder) (page_names folder names) l h) [
  | inl e ↦ subst (λ k. Contains (folder ∷ []) k) (ap base_of e) (first_in folder [])
  | inr more ↦
      let it = in_map (λ (name : Name). AtName folder name) names l more in
      subst (λ k. Contains (folder ∷ []) k) (ap base_of it.2) (first_in folder [])
]

page_is_row : (folder : ℕ) (names : List Name) → IsGrounded (page_footprint folder names)
page_is_row folder names = record {
  shared = λ l h. under_only folder (AtNode folder) l refl h;
  exclusive = λ l h. absurd (none_in l h);
  paths = page_under folder names;
  covered = λ n h. inl (any_first (λ l. base_of l ≡ n) (AtNode folder) [] (only_in folder n h));
  entered = inl (sym (length-map names (λ (name : Name). let key : Key = record { parent = folder; name = name } in key)));
  own = tt;
  hidden = λ l h. absurd (none_in l h);
  beside = λ l h. absurd (none_in l h);
}

closed_under : (number : ℕ) (c : Case) (l : Location) → Contains (closed_at number c) l → Contains (closed_on number c) (base_of l)
closed_under number cases.Plain l h = under_only number (AtNode number) l refl h
closed_under number cases.Absent l h = under_only number (AtNode number) l refl h
closed_under number cases.Pathless l h = absurd (none_in l h)
closed_under number cases.Last l h = under_only number (AtNode number) l refl h
closed_under number (cases.Hiding m k) l h = absurd (none_in l h)

closed_sharing : (number : ℕ) (c : Case) (l : Location) → Contains (closed_shared number c) l → Contains (closed_on number c) (base_of l)
closed_sharing number cases.Plain l h = under_only number (AtNode number) l refl h
closed_sharing number cases.Absent l h = under_only number (AtNode number) l refl h
closed_sharing number cases.Pathless l h = absurd (none_in l h)
closed_sharing number cases.Last l h = absurd (none_in l h)
closed_sharing number (cases.Hiding m k) l h = absurd (none_in l h)

closed_owning : (number : ℕ) (c : Case) (l : Location) → Contains (closed_exclusive number c) l → Contains (closed_on number c) (base_of l)
closed_owning number cases.Plain l h = absurd (none_in l h)
closed_owning number cases.Absent l h = absurd (none_in l h)
closed_owning number cases.Pathless l h = absurd (none_in l h)
closed_owning number cases.Last l h = under_only number (AtNode number) l refl h
closed_owning number (cases.Hiding m k) l h = absurd (none_in l h)

closed_own : (number : ℕ) (c : Case) → AreOwn (closed_exclusive number c) (closed_change number c)
closed_own number cases.Plain = tt
closed_own number cases.Absent = tt
closed_own number cases.Pathless = tt
closed_own number cases.Last = first_in (AtNode number) []
closed_own number (cases.Hiding m k) = tt

closed_covered : (number : ℕ) (c : Case) (n : ℕ) → Contains (closed_on number c) n → Any (λ l. base_of l ≡ n) (closed_shared number c) ⊎ Any (λ l. base_of l ≡ n) (closed_exclusive number c)
closed_covered number cases.Plain n h = inl (any_first (λ l. base_of l ≡ n) (AtNode number) [] (only_in number n h))
closed_covered number cases.Absent n h = inl (any_first (λ l. base_of l ≡ n) (AtNode number) [] (only_in number n h))
closed_covered number cases.Pathless n h = absurd (none_in n h)
closed_covered number cases.Last n h = inr (any_first (λ l. base_of l ≡ n) (AtNode number) [] (only_in number n h))
closed_covered number (cases.Hiding m k) n h = absurd (none_in n h)

-- closing a file reserves what its node does, or its removal, or nothing
closed_is_row : (number : ℕ) (c : Case) (used : Option Used) (closes : Option ℕ) → IsGrounded (record (closed_footprint number c) { used = used; closes = closes })
closed_is_row number c used closes = record {
  shared = closed_sharing number c;
  exclusive = closed_owning number c;
  paths = closed_under number c;
  covered = closed_covered number c;
  entered = inl refl;
  own = closed_own number c;
  hidden = λ l h. absurd (none_in l h);
  beside = λ l h. absurd (none_in l h);
}

pub are_grounded : (want : Want) (case : Case) → IsGrounded (footprint_of want case)
are_grounded (wants.Node number handle) c = node_is_row number (used_on number handle) None
are_grounded (wants.Name parent name) c = name_is_row parent name c None
are_grounded (wants.Remove parent name may_hide) c = removal_is_row parent name (hidden_in c)
are_grounded (wants.Move parent name new_parent new_name keep) c = move_is_row parent name new_parent new_name (hidden_in c)
are_grounded (wants.Exchange parent name new_parent new_name) c = exchange_is_row parent name new_parent new_name
are_grounded (wants.Page folder names) c = page_is_row folder names
are_grounded (wants.Open number access) c = node_is_row number None (Some (record { target = AtNode number; access = access }))
are_grounded (wants.Create parent name access) c = name_is_row parent name c (Some (record { target = AtName parent name; access = access }))
are_grounded (wants.Release number fh) c = closed_is_row number c (Some (closing number fh)) (Some fh)
are_grounded (wants.Link number parent name) c = link_is_row number parent name c
