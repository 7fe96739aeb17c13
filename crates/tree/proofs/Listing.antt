-- What a change appends to the list of newly cut nodes.
use Rattle.std.proofs.Common.{ℕ, zero, suc, ◌≡◌, List, [], ◌∷◌, ◌++◌, Some, Contains, refl, sym, ap, ◌∙◌, subst, inl, inr, arith}
use Rattle.std.proofs.lemmas.Bool.{cases_eq}
use Rattle.std.proofs.lemmas.List.{append-nil, append_assoc}
use Rattle.std.proofs.lemmas.List.Elements.{Contains-append_cases, Contains-append_left, Contains-push}
use Rattle.tree.specs.declared.nodes.Node.{Node}
use Rattle.tree.specs.declared.nodes.Place.TheVariants.{Cut}
use Rattle.tree.specs.Moves.{ListsCuts, cut_node}
use Rattle.tree.specs.Places.{Lookup, IsCut, IsNamed, with_node}
use Rattle.tree.proofs.Climbing.{cut_unnamed, place_same}
use Rattle.tree.proofs.LookupLemmas.{with_other, with_same}

none_in : (n : ℕ) → Contains [] n → ⊥
none_in n (k, within, e) = absurd (omega (arith, within))

one_in : (m n : ℕ) → Contains (m ∷ []) n → m ≡ n
one_in m n (zero, within, e) = e
one_in m n (suc k, within, e) = absurd (omega (arith, within))

-- the same nodes are cut
pub lists_same : (old new : Lookup) (list : List ℕ) → new ≡ old → ListsCuts old new list list
lists_same old new list same = record {
  more = [];
  after_is = sym (append-nil list);
  are_new = λ n. (λ none. absurd (none_in n none), λ h. absurd (h.1 (subst (λ (at : Lookup). IsCut at n) same h.0)));
}

-- a node that was not cut is cut, and is appended to the list
pub lists_cut : (old mid new : Lookup) (before after : List ℕ) (n : ℕ) (x : Node) → mid n ≡ Some x → (x.place ≡ Cut → ⊥) → (IsCut old n → ⊥) → new ≡ with_node mid n (cut_node x) → ListsCuts old mid before after → ListsCuts old new before (after ++ n ∷ [])
lists_cut old mid new before after n x stood whole uncut wrote lists =
    let here : new n ≡ Some (cut_node x) = ap (λ (at : Lookup). at n) wrote ∙ with_same mid n (cut_node x) in
    let there : (m : ℕ) → (n ≡ m → ⊥) → new m ≡ mid m = λ m ne. ap (λ (at : Lookup). at m) wrote ∙ with_other mid n (cut_node x) m ne in
    record {
      more = lists.more ++ n ∷ [];
      after_is = ap (λ (l : List ℕ). l ++ n ∷ []) lists.after_is ∙ append_assoc before lists.more (n ∷ []);
      are_new = λ m. (
        λ among. elim (Contains-append_cases lists.more (n ∷ []) m among) [
          | inl earlier ↦
              let was = (lists.are_new m).0 earlier in
              let ne : n ≡ m → ⊥ = λ e. whole (place_same mid n x was.0.0 stood (ap mid e ∙ was.0.1) ∙ was.0.2) in
              ((was.0.0, there m ne ∙ was.0.1, was.0.2), was.1)
          | inr last ↦
              let e = one_in n m last in
              ((cut_node x, ap new (sym e) ∙ here, refl), λ was. uncut (subst (λ k. IsCut old k) (sym e) was))
        ],
        λ h. elim (cases_eq n m) [
          | inl e ↦ subst (λ k. Contains (lists.more ++ n ∷ []) k) e (Contains-push lists.more n)
          | inr ne ↦ Contains-append_left lists.more (n ∷ []) m ((lists.are_new m).1 ((h.0.0, sym (there m ne) ∙ h.0.1, h.0.2), h.1))
        ],
      );
    }

-- a node that was not cut moves to another place
pub lists_moved : (old mid new : Lookup) (before after : List ℕ) (n : ℕ) (x y : Node) → mid n ≡ Some x → (x.place ≡ Cut → ⊥) → (y.place ≡ Cut → ⊥) → new ≡ with_node mid n y → ListsCuts old mid before after → ListsCuts old new before after
lists_moved old mid new before after n x y stood whole still wrote lists =
    let here : new n ≡ Some y = ap (λ (at : Lookup). at n) wrote ∙ with_same mid n y in
    let there : (m : ℕ) → (n ≡ m → ⊥) → new m ≡ mid m = λ m ne. ap (λ (at : Lookup). at m) wrote ∙ with_other mid n y m ne in
    record {
      more = lists.more;
      after_is = lists.after_is;
      are_new = λ m. (
        λ among.
            let was = (lists.are_new m).0 among in
            let ne : n ≡ m → ⊥ = λ e. whole (place_same mid n x was.0.0 stood (ap mid e ∙ was.0.1) ∙ was.0.2) in
            ((was.0.0, there m ne ∙ was.0.1, was.0.2), was.1),
        λ h.
            let ne : n ≡ m → ⊥ = λ e. still (place_same new n y h.0.0 here (ap new e ∙ h.0.1) ∙ h.0.2) in
            (lists.are_new m).1 ((h.0.0, sym (there m ne) ∙ h.0.1, h.0.2), h.1),
      );
    }

-- a node with a name is not cut
pub named_uncut : (at : Lookup) (n p : ℕ) (name : List ℕ) → IsNamed at n p name → IsCut at n → ⊥
named_uncut at n p name named cut = cut_unnamed at n cut.0 cut.1 cut.2 p name named

-- the same for equal nodes and lists
pub lists_as : (old old' new new' : Lookup) (before before' after : List ℕ) → old ≡ old' → new ≡ new' → before ≡ before' → ListsCuts old new before after → ListsCuts old' new' before' after
lists_as old old' new new' before before' after e f g lists =
    subst (λ (at : Lookup). ListsCuts at new' before' after) e (subst (λ (at : Lookup). ListsCuts old at before' after) f (subst (λ (l : List ℕ). ListsCuts old new l after) g lists))
