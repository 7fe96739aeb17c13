-- What a change of names does to each node: it may be moved, cut or marked.
use Rattle.std.proofs.Common.{ℕ, ◌+◌, ◌&&◌, ◌≡◌, ◌≢◌, Bool, true, false, List, [], ◌∷◌, ◌++◌, append-nil, Some, None, length, drop, reverse, refl, sym, ap, ◌∙◌, subst, inl, inr, arith}
use Rattle.std.proofs.lemmas.Bool.{and_parts, cases_Bool, cases_eq, false≢true, true≢false}
use Rattle.std.proofs.lemmas.List.{reverse-reverse}
use Rattle.std.proofs.lemmas.Option.{none-some, same_Some}
use Rattle.table_files.specs.Handles.{Files}
use Rattle.ledger.specs.Periods.{Periods}
use Rattle.ledger.specs.Sums.{entries_of, given_back_of}
use Rattle.paths.specs.Prefixes.{Names, is_prefix}
use Rattle.paths.proofs.PrefixLemmas.{drop-append, is_prefix-both, is_prefix-same}
use Rattle.tree.specs.declared.nodes.Key.{Key}
use Rattle.tree.specs.declared.nodes.Node.{Node}
use Rattle.tree.specs.declared.nodes.Place.TheVariants as place
use Rattle.tree.specs.Places.{Lookup, IsNamed, IsPathOf, IsTree, Reaches, with_node}
use Rattle.tree.specs.Moves.{Changes, IsChanged, Stands, Where, after_move, at_path, cut, is_cut, is_moved, stays}
use Rattle.tree.proofs.Climbing.{path_under}
use Rattle.tree.proofs.LookupLemmas.{cases_option, with_other, with_same}
use Rattle.tree.proofs.Transfers.{changed_count, changed_generation, changed_mark}
use Rattle.table_footprints.specs.Asked.{HasPath, IsProperPrefix, IsThere}
use Rattle.table_footprints.specs.Footprints.{Location, AtName, AtNode}
use Rattle.table_steps.specs.Steps.{Hides, none_there, one_there}
use Rattle.table_law.specs.Law.{IsBegun}
use Rattle.table_steps.specs.Upheld.{IsBooked}
use Rattle.table_steps.specs.World.{HaveNodes}
use Rattle.table_steps.proofs.Lawful.{named_not_root}

-- ---- one node

abbrev IsMarkNamed : Node → Type 0
IsMarkNamed x = x.hidden ≡ true → (key : Key) × (x.place ≡ place.Named key)

-- a cut node stays cut, any other keeps its mark, and only nodes with a name have marks
pub record IsAltered (x y : Node) : Type 0 where
  pub generation : y.generation ≡ x.generation
  pub count : y.count ≡ x.count
  pub cut : x.place ≡ place.Cut → y.place ≡ place.Cut
  pub marked : (y.place ≡ place.Cut → ⊥) → x.hidden ≡ true → y.hidden ≡ true
  pub named : IsMarkNamed x → IsMarkNamed y

altered_same : (x : Node) → IsAltered x x
altered_same x = record { generation = refl; count = refl; cut = λ e. e; marked = λ whole e. e; named = λ was. was }

altered_then : (x y z : Node) → IsAltered x y → IsAltered y z → IsAltered x z
altered_then x y z a b = record {
  generation = b.generation ∙ a.generation;
  count = b.count ∙ a.count;
  cut = λ e. b.cut (a.cut e);
  marked = λ whole e. b.marked whole (a.marked (λ lost. whole (b.cut lost)) e);
  named = λ was. b.named (a.named was);
}

mark_named : (x y : Node) → IsChanged x y → IsMarkNamed x → IsMarkNamed y
mark_named x y (stays e) was h = let it = was (ap (λ (w : Node). w.hidden) (sym e) ∙ h) in (it.0, ap (λ (w : Node). w.place) e ∙ it.1)
mark_named x y (is_moved p name e) was h = (record { parent = p; name = name }, ap (λ (w : Node). w.place) e)
mark_named x y (is_cut e) was h = absurd (true≢false (sym h ∙ ap (λ (w : Node). w.hidden) e))

altered_by : (x y : Node) → IsChanged x y → (x.place ≡ place.Cut → y.place ≡ place.Cut) → IsAltered x y
altered_by x y changed lost = record {
  generation = changed_generation x y changed;
  count = changed_count x y changed;
  cut = lost;
  marked = λ whole e. changed_mark x y changed whole ∙ e;
  named = mark_named x y changed;
}

altered_mark : (x : Node) (key : Key) → x.place ≡ place.Named key → IsAltered x (record x { hidden = true })
altered_mark x key named = record { generation = refl; count = refl; cut = λ e. e; marked = λ whole e. refl; named = λ was e. (key, named) }

-- ---- all nodes

pub record AltersNodes (old new : Lookup) : Type 0 where
  pub none_comes : (n : ℕ) → old n ≡ None → new n ≡ None
  pub kept : (n : ℕ) (x : Node) → old n ≡ Some x → (y : Node) × (new n ≡ Some y) × IsAltered x y

pub nothing_altered : (at : Lookup) → AltersNodes at at
nothing_altered at = record { none_comes = λ n none. none; kept = λ n x h. (x, h, altered_same x) }

pub alters_then : (old mid new : Lookup) → AltersNodes old mid → AltersNodes mid new → AltersNodes old new
alters_then old mid new a b = record {
  none_comes = λ n none. b.none_comes n (a.none_comes n none);
  kept = λ n x h. let one = a.kept n x h in let two = b.kept n one.0 one.1 in (two.0, two.1, altered_then x one.0 two.0 one.2 two.2);
}

pub alters_by : (f : Where → Where) (old new : Lookup) → f cut ≡ cut → Changes f old new → AltersNodes old new
alters_by f old new fixed c = record {
  none_comes = c.none_comes;
  kept = λ n x h.
      let it = c.kept n x h in (
        it.0,
        it.1,
        altered_by x it.0 it.2 (λ lost.
            let stands = c.moved n cut (x, h, lost) in
            let now : (y : Node) × (new n ≡ Some y) × (y.place ≡ place.Cut) = subst (λ (w : Where). Stands new n w) fixed stands in
            ap (λ (w : Node). w.place) (same_Some it.0 now.0 (sym it.1 ∙ now.1)) ∙ now.2),
      );
}

pub alters_mark : (at : Lookup) (n : ℕ) (x : Node) (key : Key) → at n ≡ Some x → x.place ≡ place.Named key → AltersNodes at (with_node at n (record x { hidden = true }))
alters_mark at n x key here named =
    let y = record x { hidden = true } in
    record {
      none_comes = λ m none. with_other at n y m (λ e. none-some x (sym none ∙ (ap at (sym e) ∙ here))) ∙ none;
      kept = λ m z h. elim (cases_eq n m) [
        | inl e ↦
            let same : x ≡ z = same_Some x z (sym here ∙ (ap at e ∙ h)) in
            (y, subst (λ k. with_node at n y k ≡ Some y) e (with_same at n y), subst (λ (w : Node). IsAltered w y) same (altered_mark x key named))
        | inr ne ↦ (z, with_other at n y m ne ∙ h, altered_same z)
      ];
    }

pub altered_back : (old new : Lookup) → AltersNodes old new → (n : ℕ) (y : Node) → new n ≡ Some y → (x : Node) × (old n ≡ Some x) × IsAltered x y
altered_back old new a n y h = elim (cases_option (old n)) [
  | inl none ↦ absurd (none-some y (sym (a.none_comes n none) ∙ h))
  | inr (x, alive) ↦ let it = a.kept n x alive in (x, alive, subst (λ (w : Node). IsAltered x w) (same_Some it.0 y (sym it.1 ∙ h)) it.2)
]

-- ---- what is kept alive

-- the node of each open file
pub nodes_altered : (files : Files) (old new : Lookup) → AltersNodes old new → HaveNodes old files → HaveNodes new files
nodes_altered files old new a have handle file here =
    let it = have handle file here in
    let now = a.kept file.number it.node it.here in
    record { node = now.0; here = now.1; generation = now.2.generation ∙ it.generation }

module _ (old new : Lookup) (tree : IsTree new) (a : AltersNodes old new) (ps : Periods) (pinned : ℕ → Bool) (booked : IsBooked old ps pinned) where
  marks_named : (n : ℕ) (y : Node) → new n ≡ Some y → IsMarkNamed y
  marks_named n y h = let was = altered_back old new a n y h in was.2.named (booked.marks n was.0 was.1)

  root_unmarked : (y : Node) → new 1 ≡ Some y → y.hidden ≡ false
  root_unmarked y h = elim (cases_Bool y.hidden) [
    | inl marked ↦ let it = marks_named 1 y h marked in absurd (named_not_root new 1 it.0.parent it.0.name tree (y, h, it.1) refl)
    | inr none ↦ none
  ]

  pub IsBooked-altered : IsBooked new ps pinned
  IsBooked-altered = record {
    root = record {
      plain = λ y h.
          let was = altered_back old new a 1 y h in
          let plain = booked.root.plain was.0 was.1 in
          (was.2.generation ∙ plain.0, was.2.count ∙ plain.1, root_unmarked y h);
      unposted = booked.root.unposted;
    };
    counted = record {
      counts = λ n y h.
          let was = altered_back old new a n y h in
          let e = booked.counted.counts n was.0 was.1 in
          let k = was.2.count in
          let P : ℕ → Type 0 = λ i. y.count + given_back_of n i ps ≡ entries_of n i ps in
          subst P (sym was.2.generation) (omega arith);
      others = λ n g unborne. booked.counted.others n g (λ x h is. let it = a.kept n x h in unborne it.0 it.1 (it.2.generation ∙ is));
      never_negative = booked.counted.never_negative;
    };
    born = record {
      ordered = booked.born.ordered;
      generations = λ n y h not_one.
          let was = altered_back old new a n y h in
          ap (λ (i : ℕ). i + 1) was.2.generation ∙ booked.born.generations n was.0 was.1 not_one;
    };
    carried = booked.carried;
    begun = λ n y h not_one.
        let was = altered_back old new a n y h in
        subst (λ (i : ℕ). IsBegun ps n i) (sym was.2.generation) (booked.begun n was.0 was.1 not_one);
    marks = marks_named;
    alive = λ n h. let was = booked.alive n h in let it = a.kept n was.0 was.1 in (it.0, it.1);
  }

-- ---- what is hidden

-- if a move may be made, what was at the source is at the target
moved_there : (p q : Names) → (IsProperPrefix q p → ⊥) → after_move p q (at_path p) ≡ at_path q
moved_there p q apart = elim (cases_Bool (is_prefix p q && is_prefix q p)) [
  | inl both ↦
      let parts = and_parts (is_prefix p q) (is_prefix q p) both in
      let same : p ≡ q = is_prefix-both p q parts.0 parts.1 in
      rw both (ap (λ (r : Names). at_path r) same)
  | inr other ↦ elim (cases_Bool (is_prefix q p)) [
    | inl above ↦
        let one : q ≡ p → ⊥ = λ e. false≢true (sym other ∙ rw (e, is_prefix-same p) refl) in
        absurd (apart (record { begins = above; other = one }))
    | inr none ↦
        let rest : drop (length p) p ≡ [] = ap (λ (r : Names). drop (length p) r) (sym (append-nil p)) ∙ drop-append p [] in
        rw (other, none, is_prefix-same p) (ap (λ (r : Names). at_path (q ++ r)) rest ∙ ap (λ (r : Names). at_path r) (append-nil q))
  ]
]

-- what is at a location has its path
there_path : (at : Lookup) (l : Location) (path : Names) → HasPath at l path → (n : ℕ) → IsThere at l n → IsPathOf at n path
there_path at (AtNode m) path leads n e = subst (λ k. IsPathOf at k path) (sym e) leads
there_path at (AtName parent name) path leads n named = subst (λ p. IsPathOf at n p) (sym leads.whole) (path_under at n parent leads.above name named leads.leads)

-- a node whose path is not the root's has a name
named_way : (at : Lookup) (n : ℕ) (way : Names) → way ≢ [] → Reaches at 1 n way → (key : Key) × IsNamed at n key.parent key.name
named_way at n [] some h = absurd (some refl)
named_way at n (name ∷ up) some h = (record { parent = h.0; name = name }, h.1)

named_path : (at : Lookup) (n : ℕ) (p : Names) → p ≢ [] → IsPathOf at n p → (key : Key) × IsNamed at n key.parent key.name
named_path at n p some h = named_way at n (reverse p) (λ e. some (sym (reverse-reverse p) ∙ ap (λ (r : Names). reverse r) e)) h

pub alters_hidden : (old : Lookup) (l c : Location) (new : Lookup) (it : Hides old l c new) → it.moves.new_path ≢ [] → (IsProperPrefix it.moves.new_path it.moves.path → ⊥) → AltersNodes old new
alters_hidden old l c new it some apart =
    let m = it.moves in
    let moved = alters_by (after_move m.path m.new_path) old it.mid refl m.changes in
    elim it.marks [
      | none_there none same ↦ subst (λ (at : Lookup). AltersNodes old at) (sym same) moved
      | one_there n x there here same ↦
          let stands = m.changes.moved n (at_path m.path) (there_path old l m.path m.leads n there) in
          let path : IsPathOf it.mid n m.new_path = subst (λ (w : Where). Stands it.mid n w) (moved_there m.path m.new_path apart) stands in
          let named = named_path it.mid n m.new_path some path in
          let place : x.place ≡ place.Named named.0 = ap (λ (w : Node). w.place) (same_Some x named.1.0 (sym here ∙ named.1.1)) ∙ named.1.2 in
          subst (λ (at : Lookup). AltersNodes old at) (sym same) (alters_then old it.mid _ moved (alters_mark it.mid n x named.0 here place))
    ]
