-- What the parts keep alive, and that open files keep their nodes alive in each step.
use Rattle.std.proofs.Common.{ℕ, ◌+◌, ◌-◌, ◌≡◌, ◌==◌, ◌||◌, Bool, true, false, List, [], ◌∷◌, Option, Some, None, refl, sym, ap, ◌∙◌, subst, ◌⊎◌, inl, inr, arith}
use Rattle.std.proofs.lemmas.Bool.{cases_Bool, cases_eq, cond-false, cond-true, eq-eqb, ne_eqb, true≢false, or_cases, or_left, or_right}
use Rattle.std.proofs.lemmas.Option.{none-some, same_Some}
use mathlib.Core.Path.{fun_ext}
use Rattle.table_files.specs.declared.data.OpenFile.{OpenFile}
use Rattle.table_files.specs.OpenEntry.{Filing, files_of}
use Rattle.table_files.specs.Handles.{Files, AreOpenEntries, Opened, after_close, no_files}
use Rattle.table_requests.specs.declared.data.Given.{Given}
use Rattle.table_requests.specs.Listed.{InFlight, requests_of}
use Rattle.ledger.specs.Periods.{Periods}
use Rattle.tree.specs.declared.nodes.Node.{Node}
use Rattle.tree.specs.Places.{Lookup, with_node}
use Rattle.tree.proofs.LookupLemmas.{with_same, with_other}
use Rattle.table_steps.specs.Entries.{Enters, TakesAllBack, newborn}
use Rattle.table_steps.specs.Keeping.{kept_by}
use Rattle.table_steps.specs.Swept.{IsSwept}
use Rattle.table_steps.specs.World.{HaveNodes}
use Rattle.table_steps.specs.Steps.{files_without}
use Rattle.table_steps.specs.Sweeping.{IsAmong, IsClosed, IsPruned}
use Rattle.table_steps.proofs.Ends.{entry_same}
use Rattle.table_steps.proofs.Reasons.{HaveReasons-unpin}
use Rattle.table_steps.proofs.Remaining.{stays_pinned}

-- ---- what is kept alive

module _ (flights : InFlight) (files : Filing) (n : ℕ) where
  pub cases_kept : kept_by flights files n ≡ true → ((requests_of flights).pinned n ≡ true) ⊎ ((files_of files).opened n ≡ true)
  unfolding kept_by
  cases_kept h = or_cases ((requests_of flights).pinned n) ((files_of files).opened n) h

  pub keeps_pinned : (requests_of flights).pinned n ≡ true → kept_by flights files n ≡ true
  unfolding kept_by
  keeps_pinned h = or_left ((requests_of flights).pinned n) ((files_of files).opened n) h

  pub keeps_open : (files_of files).opened n ≡ true → kept_by flights files n ≡ true
  unfolding kept_by
  keeps_open h = or_right ((requests_of flights).pinned n) ((files_of files).opened n) h

-- more pins keep more alive
pub kept_more : (old new : InFlight) (files : Filing) → ((n : ℕ) → (requests_of old).pinned n ≡ true → (requests_of new).pinned n ≡ true) → (n : ℕ) → kept_by old files n ≡ true → kept_by new files n ≡ true
kept_more old new files more n h = elim (cases_kept old files n h) [
  | inl pin ↦ keeps_pinned new files n (more n pin)
  | inr opened ↦ keeps_open new files n opened
]

-- the same pins and the same open files keep the same alive
pub kept_same : (old new : InFlight) (files now : Filing) → (requests_of new).pinned ≡ (requests_of old).pinned → (files_of now).opened ≡ (files_of files).opened → kept_by new now ≡ kept_by old files
unfolding kept_by
kept_same old new files now e f =
    ap {B = ℕ → Bool} (λ (pinned : ℕ → Bool). λ (n : ℕ). pinned n || (files_of now).opened n) e
    ∙ ap {B = ℕ → Bool} (λ (opened : ℕ → Bool). λ (n : ℕ). (requests_of old).pinned n || opened n) f

-- the node of an open file is kept alive
pub file_kept : (flights : InFlight) (files : Filing) → AreOpenEntries (files_of files) → (handle : ℕ) (file : OpenFile) → (files_of files).at handle ≡ Some file → kept_by flights files file.number ≡ true
file_kept flights files filed handle file here = keeps_open flights files file.number ((filed.opens file.number).1 (record { handle = handle; file = file; here = here; node = refl }))

-- ---- the nodes of open files

module _ (files : Files) where
  -- a node is written with the same generation
  pub nodes_written : (at : Lookup) (n : ℕ) (x y : Node) → at n ≡ Some x → y.generation ≡ x.generation → HaveNodes at files → HaveNodes (with_node at n y) files
  nodes_written at n x y stood same have handle file here =
      let it = have handle file here in
      elim (cases_eq n file.number) [
        | inl e ↦
            let one : it.node ≡ x = same_Some it.node x (sym it.here ∙ (ap at (sym e) ∙ stood)) in
            record {
              node = y;
              here = subst (λ k. with_node at n y k ≡ Some y) e (with_same at n y);
              generation = same ∙ (ap (λ (w : Node). w.generation) (sym one) ∙ it.generation);
            }
        | inr ne ↦ record { node = it.node; here = with_other at n y file.number ne ∙ it.here; generation = it.generation }
      ]

  -- a node is born
  pub nodes_born : (at : Lookup) (n : ℕ) (y : Node) → at n ≡ None → HaveNodes at files → HaveNodes (with_node at n y) files
  nodes_born at n y fresh have handle file here =
      let it = have handle file here in
      record {
        node = it.node;
        here = with_other at n y file.number (λ e. none-some it.node (sym fresh ∙ (ap at e ∙ it.here))) ∙ it.here;
        generation = it.generation;
      }

  pub nodes_entered : (at : Lookup) (ps : Periods) (parent : ℕ) (name : List ℕ) (g : Given) (new : Lookup) (qs : Periods) → Enters at ps parent name g new qs → HaveNodes at files → HaveNodes new files
  nodes_entered at ps parent name g new qs (inl again) have =
      subst (λ a. HaveNodes a files) (sym again.nodes) (nodes_written at g.number again.node (record again.node { count = again.node.count + 1 }) again.here refl have)
  nodes_entered at ps parent name g new qs (inr born) have =
      subst (λ a. HaveNodes a files) (sym born.nodes) (nodes_born at g.number (newborn g parent name) born.fresh have)

  pub nodes_back : (ns : List ℕ) (at new : Lookup) (ps qs : Periods) → TakesAllBack at ps ns new qs → HaveNodes at files → HaveNodes new files
  nodes_back [] at new ps qs h have = subst (λ a. HaveNodes a files) (sym h.0) have
  nodes_back (n ∷ ns) at new ps qs (mid, ms, inl back, rest) have =
      nodes_back ns mid new ms qs rest (subst (λ a. HaveNodes a files) (sym back.nodes) (nodes_written at n back.node (record back.node { count = back.node.count - 1 }) back.here refl have))
  nodes_back (n ∷ ns) at new ps qs (mid, ms, inr none, rest) have = nodes_back ns mid new ms qs rest (subst (λ a. HaveNodes a files) (sym none.nodes) have)

-- nodes that nothing keeps alive are dropped
pub nodes_swept : (flights : InFlight) (files : Filing) → AreOpenEntries (files_of files) → (old new : Lookup) → IsSwept (kept_by flights files) old new → HaveNodes old (files_of files).at → HaveNodes new (files_of files).at
nodes_swept flights files filed old new swept have handle file here =
    let it = have handle file here in
    record {
      node = it.node;
      here = stays_pinned (kept_by flights files) old new file.number it.node swept it.here (file_kept flights files filed handle file here);
      generation = it.generation;
    }

-- if no request is in flight and no file is open, nothing is kept alive
pub none_kept : (flights : InFlight) (files : Filing) → (requests_of flights).pinned ≡ (λ _. false) → AreOpenEntries (files_of files) → (files_of files).at ≡ no_files → kept_by flights files ≡ (λ _. false)
none_kept flights files none filed empty = fun_ext (λ n. elim (cases_Bool (kept_by flights files n)) [
  | inl held ↦ elim (cases_kept flights files n held) [
    | inl pin ↦ absurd (true≢false (sym pin ∙ ap (λ (p : ℕ → Bool). p n) none))
    | inr opened ↦ let it = (filed.opens n).0 opened in absurd (none-some it.file (sym (ap (λ (at : Files). at it.handle) empty) ∙ it.here))
  ]
  | inr left ↦ left
])

-- ---- files that are closed

-- fewer open files keep less alive
pub kept_fewer : (flights : InFlight) (files now : Filing) → ((n : ℕ) → (files_of now).opened n ≡ true → (files_of files).opened n ≡ true) → (n : ℕ) → kept_by flights now n ≡ true → kept_by flights files n ≡ true
kept_fewer flights files now fewer n h = elim (cases_kept flights now n h) [
  | inl pin ↦ keeps_pinned flights files n pin
  | inr opened ↦ keeps_open flights files n (fewer n opened)
]

-- what is still open was open before
pub still_open : (handle : Option ℕ) (files : Files) (k : ℕ) (file : OpenFile) → files_without handle files k ≡ Some file → files k ≡ Some file
still_open None files k file h = h
still_open (Some handle) files k file h = elim (cases_eq handle k) [
  | inl e ↦ absurd (none-some file (sym (cond-true (handle == k) None (files k) (eq-eqb handle k e)) ∙ h))
  | inr ne ↦ sym (cond-false (handle == k) None (files k) (ne_eqb handle k ne)) ∙ h
]

pub nodes_fewer : (at : Lookup) (handle : Option ℕ) (files now : Files) → now ≡ files_without handle files → HaveNodes at files → HaveNodes at now
nodes_fewer at handle files now is have k file here = have k file (still_open handle files k file (ap (λ (fs : Files). fs k) (sym is) ∙ here))

module _ (flights : InFlight) (old new : Filing) (handle : ℕ) (file : OpenFile) (filed : AreOpenEntries (files_of old)) (filed' : AreOpenEntries (files_of new))
    (here : (files_of old).at handle ≡ Some file) (is : files_of new ≡ after_close (files_of old) handle (files_of new).opened) where
  at_is : (files_of new).at ≡ files_without (Some handle) (files_of old).at
  at_is = ap (λ (o : Opened). o.at) is

  pub closed_some : IsClosed (files_of old) (Some handle) (files_of new)
  closed_some = record {
    at = at_is;
    opened = λ n h.
        let it = (filed'.opens n).0 h in
        (filed.opens n).1 (record { handle = it.handle; file = it.file; here = still_open (Some handle) (files_of old).at it.handle it.file (ap (λ (fs : Files). fs it.handle) (sym at_is) ∙ it.here); node = it.node });
    fewer = omega (arith, ap (λ (o : Opened). o.many) is);
    last = ap (λ (o : Opened). o.last) is;
    room = omega (arith, ap (λ (o : Opened). o.room) is);
    filed = filed';
  }

  -- the node may have lost its last reason
  closed_reason : (n : ℕ) (but : List ℕ) → kept_by flights old n ≡ true → (kept_by flights new n ≡ true) ⊎ IsAmong n (file.number ∷ but)
  closed_reason n but h = elim (cases_kept flights old n h) [
    | inl pin ↦ inl (keeps_pinned flights new n pin)
    | inr opened ↦
        let it = (filed.opens n).0 opened in
        elim (cases_eq handle it.handle) [
          | inl e ↦ inr (inl (sym it.node ∙ ap (λ (f : OpenFile). f.number) (same_Some it.file file (sym it.here ∙ (ap (files_of old).at (sym e) ∙ here)))))
          | inr ne ↦
              let still : (files_of new).at it.handle ≡ Some it.file = ap (λ (fs : Files). fs it.handle) at_is ∙ (cond-false (handle == it.handle) None ((files_of old).at it.handle) (ne_eqb handle it.handle ne) ∙ it.here) in
              inl (keeps_open flights new n ((filed'.opens n).1 (record { handle = it.handle; file = it.file; here = still; node = it.node })))
        ]
  ]

  pub closed_pruned : (at : Lookup) (but : List ℕ) → IsPruned at (kept_by flights old) but → IsPruned at (kept_by flights new) (file.number ∷ but)
  closed_pruned at but pruned = record {
    tree = pruned.tree;
    reasons = HaveReasons-unpin at (kept_by flights old) (kept_by flights new) but (file.number ∷ but) (λ n h. closed_reason n but h) (λ n among. inr among) pruned.reasons;
  }

-- a handle that is not open
pub closed_none : (all : Opened) (handle : ℕ) → AreOpenEntries all → all.at handle ≡ None → IsClosed all (Some handle) all
closed_none all handle filed none = record { at = sym (entry_same all.at handle None none); opened = λ n h. h; fewer = omega arith; last = refl; room = omega arith; filed = filed }
