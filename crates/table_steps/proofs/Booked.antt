-- What the law says about nodes, ledger and pins, except for the tree and the reasons, and how it is maintained.
use Rattle.std.proofs.Common.{ℕ, ◌+◌, ◌≡◌, ◌≢◌, Bool, false, List, [], ◌∷◌, ◌++◌, Some, None, refl, sym, ap, ◌∙◌, subst, ◌⊎◌, inl, inr, arith}
use Rattle.std.proofs.lemmas.Bool.{cases_eq, true≢false}
use Rattle.std.proofs.lemmas.List.Elements.{All-push, Contains-push}
use Rattle.std.proofs.lemmas.Option.{none-some, same_Some}
use Rattle.ledger.specs.declared.postings.Posting.{Posting}
use Rattle.ledger.specs.Periods.{Periods, posted}
use Rattle.ledger.specs.declared.postings.Posting.TheVariants.{Born}
use Rattle.ledger.specs.Sums.{number_of, births_of, entries_of, given_back_of, IsAllowed}
use Rattle.ledger.proofs.Closed.{carried_with}
use Rattle.ledger.proofs.SumsLemmas.{never_negative-push}
use Rattle.ledger.proofs.Touches.{Touches, cases_pair, entries_of-touched, given_back_of-touched, entries_of-untouched, given_back_of-untouched, births_of-untouched, births_of-born, births_of-born_else, entries_of-born, given_back_of-born}
use Rattle.tree.specs.declared.nodes.Node.{Node}
use Rattle.tree.specs.Places.{Lookup, with_node}
use Rattle.tree.proofs.LookupLemmas.{with_same, with_other, with_some, cases_option}
use Rattle.table_law.specs.Law.{IsBegun, MayStand, IsCounted, IsBornInOrder, HasPlainRoot, AreMarksNamed, AreAlive}
use Rattle.table_steps.specs.Swept.{IsSwept}
use Rattle.table_steps.specs.Upheld.{IsBooked}
use Rattle.table_steps.proofs.Ordered.{IsOrdered-push, begun_more}

-- a pinned number still has a node after a write
pins_write : (at : Lookup) (pinned : ℕ → Bool) (n : ℕ) (y : Node) → AreAlive at pinned → AreAlive (with_node at n y) pinned
pins_write at pinned n y pins m h = elim (cases_eq n m) [
  | inl e ↦ (y, subst (λ k. with_node at n y k ≡ Some y) e (with_same at n y))
  | inr ne ↦ let was = pins m h in (was.0, with_other at n y m ne ∙ was.1)
]

-- the root is not the node that is written
root_write : (at : Lookup) (ps : Periods) (p : Posting) (n : ℕ) (y : Node) → n ≢ 1 → number_of p ≡ n → HasPlainRoot at ps → HasPlainRoot (with_node at n y) (posted ps p)
root_write at ps p n y not_root about root = record {
  plain = λ x h. root.plain x (sym (with_other at n y 1 not_root) ∙ h);
  unposted = All-push (λ q. number_of q ≢ 1) ps.last p root.unposted (λ e. not_root (sym about ∙ e));
}

module _ (at : Lookup) (ps : Periods) (pinned : ℕ → Bool) (n : ℕ) (x : Node) (c : ℕ) (p : Posting) (add take : ℕ) (stood : at n ≡ Some x) (not_root : n ≢ 1) (touches : Touches p n x.generation add take) where
  changed : Node
  changed = record x { count = c }

  count_else : (m h k : ℕ) → (m ≢ n) ⊎ (h ≢ x.generation) → k + given_back_of m h ps ≡ entries_of m h ps → k + given_back_of m h (posted ps p) ≡ entries_of m h (posted ps p)
  count_else m h k ne was = omega (arith, entries_of-untouched ps p n x.generation add take touches m h ne, given_back_of-untouched ps p n x.generation add take touches m h ne)

  -- a node's count changes together with the posting
  counted_post : IsCounted at ps → c + take ≡ x.count + add → IsAllowed ps p → IsCounted (with_node at n (record x { count = c })) (posted ps p)
  counted_post counted change may = record {
    counts = λ m z h. elim (with_some at n (record x { count = c }) m z h) [
      | inl (e, same) ↦
          let P : ℕ → Node → Type 0 = λ k w. w.count + given_back_of k w.generation (posted ps p) ≡ entries_of k w.generation (posted ps p) in
          let here : P n (record x { count = c }) = omega (arith, counted.counts n x stood, entries_of-touched ps p n x.generation add take touches, given_back_of-touched ps p n x.generation add take touches) in
          subst (λ w. P m w) same (subst (λ k. P k (record x { count = c })) e here)
      | inr (ne, was) ↦ count_else m z.generation z.count (inl (λ e. ne (sym e))) (counted.counts m z was)
    ];
    others = λ m h unborne. elim (cases_pair m h n x.generation) [
      | inl (e, f) ↦ absurd (unborne (record x { count = c }) (rw e (with_same at n (record x { count = c }))) (sym f))
      | inr ne ↦
          let was : given_back_of m h ps ≡ entries_of m h ps = counted.others m h (λ z stands is. elim (cases_eq n m) [
            | inl e ↦ unborne (record x { count = c }) (rw (← e) (with_same at n (record x { count = c }))) (ap (λ (w : Node). w.generation) (same_Some x z (sym stood ∙ (ap at e ∙ stands))) ∙ is)
            | inr other ↦ unborne z (with_other at n (record x { count = c }) m other ∙ stands) is
          ]) in
          omega (arith, count_else m h 0 ne (omega arith))
    ];
    never_negative = never_negative-push ps p counted.never_negative may;
  }

  born_post : IsBornInOrder at ps → MayStand ps p → IsBornInOrder (with_node at n (record x { count = c })) (posted ps p)
  born_post born may = record {
    ordered = IsOrdered-push ps p born.ordered may;
    generations = λ m z h not_one. elim (with_some at n (record x { count = c }) m z h) [
      | inl (e, same) ↦
          let P : ℕ → Node → Type 0 = λ k w. w.generation + 1 ≡ births_of k (posted ps p) in
          let here : P n (record x { count = c }) = born.generations n x stood not_root ∙ sym (births_of-untouched ps p n x.generation add take touches n) in
          subst (λ w. P m w) same (subst (λ k. P k (record x { count = c })) e here)
      | inr (ne, was) ↦ born.generations m z was not_one ∙ sym (births_of-untouched ps p n x.generation add take touches m)
    ];
  }

  marks_post : AreMarksNamed at → AreMarksNamed (with_node at n (record x { count = c }))
  marks_post marks m z h marked = elim (with_some at n (record x { count = c }) m z h) [
    | inl (e, same) ↦
        let it = marks n x stood (ap (λ (w : Node). w.hidden) same ∙ marked) in
        (it.0, ap (λ (w : Node). w.place) (sym same) ∙ it.1)
    | inr (ne, was) ↦ marks m z was marked
  ]

  pub IsBooked-post : IsBooked at ps pinned → c + take ≡ x.count + add → IsAllowed ps p → MayStand ps p → IsBooked (with_node at n (record x { count = c })) (posted ps p) pinned
  IsBooked-post booked change may stand = record {
    root = root_write at ps p n (record x { count = c }) not_root touches.about booked.root;
    counted = counted_post booked.counted change may;
    born = born_post booked.born stand;
    carried = carried_with ps p touches.carries_none booked.carried;
    begun = λ m z h other. begun_more ps p m z.generation (elim (with_some at n (record x { count = c }) m z h) [
      | inl (e, same) ↦
          let P : ℕ → Node → Type 0 = λ k w. IsBegun ps k w.generation in
          subst (λ w. P m w) same (subst (λ k. P k (record x { count = c })) e (booked.begun n x stood not_root))
      | inr (ne, was) ↦ booked.begun m z was other
    ]);
    marks = marks_post booked.marks;
    alive = pins_write at pinned n (record x { count = c }) booked.alive;
  }

-- a number that no node has is born
module _ (at : Lookup) (ps : Periods) (pinned : ℕ → Bool) (n : ℕ) (y : Node) (fresh : at n ≡ None) (not_root : n ≢ 1) (gen : y.generation ≡ births_of n ps) (zero_count : y.count ≡ 0) (unmarked : y.hidden ≡ false) where
  counted_born : IsCounted at ps → IsCounted (with_node at n y) (posted ps (Born n y.generation))
  counted_born counted =
      let keeps : (m h c : ℕ) → c + given_back_of m h ps ≡ entries_of m h ps → c + given_back_of m h (posted ps (Born n y.generation)) ≡ entries_of m h (posted ps (Born n y.generation)) = λ m h c was. omega (arith, entries_of-born n y.generation m h ps, given_back_of-born n y.generation m h ps) in
      let fresh_count : given_back_of n y.generation ps ≡ entries_of n y.generation ps = counted.others n y.generation (λ z stands. absurd (none-some z (sym fresh ∙ stands))) in
      record {
        counts = λ m z h. elim (with_some at n y m z h) [
          | inl (e, same) ↦
              let P : ℕ → Node → Type 0 = λ k w. w.count + given_back_of k w.generation (posted ps (Born n y.generation)) ≡ entries_of k w.generation (posted ps (Born n y.generation)) in
              let here : P n y = keeps n y.generation y.count (omega arith) in
              subst (λ w. P m w) same (subst (λ k. P k y) e here)
          | inr (ne, was) ↦ keeps m z.generation z.count (counted.counts m z was)
        ];
        others = λ m h unborne.
            let was : given_back_of m h ps ≡ entries_of m h ps = counted.others m h (λ z stands is. elim (cases_eq n m) [
              | inl e ↦ none-some z (sym fresh ∙ (ap at e ∙ stands))
              | inr other ↦ unborne z (with_other at n y m other ∙ stands) is
            ]) in
            omega (arith, keeps m h 0 (omega arith));
        never_negative = never_negative-push ps (Born n y.generation) counted.never_negative tt;
      }

  born_born : IsBornInOrder at ps → IsBornInOrder (with_node at n y) (posted ps (Born n y.generation))
  born_born born = record {
    ordered = IsOrdered-push ps (Born n y.generation) born.ordered gen;
    generations = λ m z h not_one. elim (with_some at n y m z h) [
      | inl (e, same) ↦
          let P : ℕ → Node → Type 0 = λ k w. w.generation + 1 ≡ births_of k (posted ps (Born n y.generation)) in
          let here : P n y = omega (arith, births_of-born n y.generation ps) in
          subst (λ w. P m w) same (subst (λ k. P k y) e here)
      | inr (ne, was) ↦ born.generations m z was not_one ∙ sym (births_of-born_else n y.generation m ps (λ e. ne (sym e)))
    ];
  }

  marks_born : AreMarksNamed at → AreMarksNamed (with_node at n y)
  marks_born marks m z h marked = elim (with_some at n y m z h) [
    | inl (e, same) ↦ absurd (true≢false (sym marked ∙ (ap (λ (w : Node). w.hidden) (sym same) ∙ unmarked)))
    | inr (ne, was) ↦ marks m z was marked
  ]

  pub IsBooked-born : IsBooked at ps pinned → IsBooked (with_node at n y) (posted ps (Born n y.generation)) pinned
  IsBooked-born booked = record {
    root = root_write at ps (Born n y.generation) n y not_root refl booked.root;
    counted = counted_born booked.counted;
    born = born_born booked.born;
    carried = carried_with ps (Born n y.generation) refl booked.carried;
    begun = λ m z h other. elim (with_some at n y m z h) [
      | inl (e, same) ↦
          let P : ℕ → Node → Type 0 = λ k w. IsBegun (posted ps (Born n y.generation)) k w.generation in
          subst (λ w. P m w) same (subst (λ k. P k y) e (inl (Contains-push ps.last (Born n y.generation))))
      | inr (ne, was) ↦ begun_more ps (Born n y.generation) m z.generation (booked.begun m z was other)
    ];
    marks = marks_born booked.marks;
    alive = pins_write at pinned n y booked.alive;
  }

-- nodes that nothing keeps alive are dropped
pub IsBooked-swept : (old new : Lookup) (ps : Periods) (pinned : ℕ → Bool) → IsSwept pinned old new → IsBooked old ps pinned → IsBooked new ps pinned
IsBooked-swept old new ps pinned swept booked = record {
  root = record { plain = λ x h. booked.root.plain x (swept.kept 1 x h); unposted = booked.root.unposted };
  counted = record {
    counts = λ m z h. booked.counted.counts m z (swept.kept m z h);
    others = λ m h unborne. elim (cases_option (old m)) [
      | inl none ↦ booked.counted.others m h (λ z stands is. none-some z (sym none ∙ stands))
      | inr (x, stood) ↦ elim (cases_eq x.generation h) [
        | inl e ↦ elim (cases_option (new m)) [
          | inl dropped ↦
              let zero : x.count ≡ 0 = (swept.gone m x stood dropped).count in
              let was = booked.counted.counts m x stood in
              let P : ℕ → Type 0 = λ k. given_back_of m k ps ≡ entries_of m k ps in
              subst P e (omega arith)
          | inr (y, stands) ↦ absurd (unborne y stands (ap (λ (w : Node). w.generation) (same_Some y x (sym (swept.kept m y stands) ∙ stood)) ∙ e))
        ]
        | inr ne ↦ booked.counted.others m h (λ z stands is. ne (ap (λ (w : Node). w.generation) (same_Some x z (sym stood ∙ stands)) ∙ is))
      ]
    ];
    never_negative = booked.counted.never_negative;
  };
  born = record { ordered = booked.born.ordered; generations = λ m z h not_one. booked.born.generations m z (swept.kept m z h) not_one };
  carried = booked.carried;
  begun = λ m z h not_one. booked.begun m z (swept.kept m z h) not_one;
  marks = λ m x h marked. booked.marks m x (swept.kept m x h) marked;
  alive = λ m h. elim (cases_option (new m)) [
    | inl none ↦ let was = booked.alive m h in absurd (true≢false (sym h ∙ (swept.gone m was.0 was.1 none).unkept))
    | inr found ↦ found
  ];
}

-- other numbers are pinned, all with living nodes
pub IsBooked-pins : (at : Lookup) (ps : Periods) (old new : ℕ → Bool) → AreAlive at new → IsBooked at ps old → IsBooked at ps new
IsBooked-pins at ps old new pins booked = record { root = booked.root; counted = booked.counted; born = booked.born; carried = booked.carried; begun = booked.begun; marks = booked.marks; alive = pins }
