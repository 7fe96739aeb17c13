-- A node that is not cut keeps its hidden mark under any change of names.
use Rattle.std.proofs.Common.{ℕ, ◌≡◌, Bool, true, false, Some, if◌then◌else◌, refl, sym, ap, ◌∙◌, subst}
use Rattle.std.proofs.lemmas.Option.{same_Some}
use Rattle.paths.specs.Prefixes.{Names}
use Rattle.tree.specs.declared.nodes.Node.{Node}
use Rattle.tree.specs.declared.nodes.Place.TheVariants.{Cut}
use Rattle.tree.specs.Moves.{Changes, Stands, Where, cut}
use Rattle.tree.specs.Places.{Lookup}
use Rattle.tree.proofs.Transfers.{changed_mark}
use Rattle.table_footprints.specs.Footprints.{Change, Location, cuts, exchanges, hides, moves, replaces, stays}
use Rattle.table_steps.specs.Steps.{Alters, Follows, Hides, Replaces, after_follow}
use Rattle.table_steps.proofs.Following.{leads_on}
use Rattle.table_steps.proofs.Landing.{marks_keep}

-- the node is still marked, unless it is cut now
abbrev pub KeepsMark : Lookup → Lookup → ℕ → Type 0
KeepsMark old new n = (x : Node) → old n ≡ Some x → x.hidden ≡ true → (z : Node) → new n ≡ Some z → (z.place ≡ Cut → ⊥) → z.hidden ≡ true

mark_same : (old new : Lookup) (n : ℕ) → new ≡ old → KeepsMark old new n
mark_same old new n same x here marked z here' whole = ap (λ (y : Node). y.hidden) (same_Some z x (sym here' ∙ (ap (λ (at : Lookup). at n) same ∙ here))) ∙ marked

mark_changed : (f : Where → Where) (old new : Lookup) (n : ℕ) → Changes f old new → KeepsMark old new n
mark_changed f old new n changes x here marked z here' whole =
    let it = changes.kept n x here in
    let same : it.0 ≡ z = same_Some it.0 z (sym it.1 ∙ here') in
    ap (λ (y : Node). y.hidden) (sym same) ∙ (changed_mark x it.0 it.2 (λ e. whole (ap (λ (y : Node). y.place) (sym same) ∙ e)) ∙ marked)

-- a node that is not cut now was not cut before
uncut_before : (f : Where → Where) (old new : Lookup) (n : ℕ) → Changes f old new → f cut ≡ cut → (x : Node) → old n ≡ Some x → (z : Node) → new n ≡ Some z → (z.place ≡ Cut → ⊥) → x.place ≡ Cut → ⊥
uncut_before f old new n changes fixed x here z here' whole lost =
    let s = subst (λ (w : Where). Stands new n w) fixed (changes.moved n cut (x, here, lost)) in
    whole (ap (λ (y : Node). y.place) (same_Some z s.0 (sym here' ∙ s.1)) ∙ s.2)

either_cut : (b : Bool) → (if b then cut else cut) ≡ cut
either_cut true = refl
either_cut false = refl

mark_hidden : (l c : Location) (old new : Lookup) (n : ℕ) → Hides old l c new → KeepsMark old new n
mark_hidden l c old new n it x here marked z here' whole =
    let mid = it.moves.changes.kept n x here in
    let on = (marks_keep old it.mid new l it.marks).place n mid.0 mid.1 in
    let same : on.0 ≡ z = same_Some on.0 z (sym on.1 ∙ here') in
    let still = mark_changed _ old it.mid n it.moves.changes x here marked mid.0 mid.1 (λ e. whole (ap (λ (y : Node). y.place) (sym same) ∙ (on.2 ∙ e))) in
    ap (λ (y : Node). y.hidden) (sym same) ∙ on.3 still

mark_followed : (old new : Lookup) (c p t : Names) (moved : Bool) (n : ℕ) → Follows old c p t moved new → KeepsMark old new n
mark_followed old new c p t false n same = mark_same old new n same
mark_followed old new c p t true n changes = mark_changed (after_follow c p t) old new n changes

uncut_followed : (old new : Lookup) (c p t : Names) (moved : Bool) (n : ℕ) → Follows old c p t moved new → (x : Node) → old n ≡ Some x → (z : Node) → new n ≡ Some z → (z.place ≡ Cut → ⊥) → x.place ≡ Cut → ⊥
uncut_followed old new c p t false n same x here z here' whole lost = whole (ap (λ (y : Node). y.place) (same_Some z x (sym here' ∙ (ap (λ (at : Lookup). at n) same ∙ here))) ∙ lost)
uncut_followed old new c p t true n changes x here z here' whole lost = uncut_before (after_follow c p t) old new n changes (either_cut (leads_on c p)) x here z here' whole lost

mark_replaced : (s t c : Location) (moved : Bool) (old new : Lookup) (n : ℕ) → Replaces old s t c moved new → KeepsMark old new n
mark_replaced s t c moved old new n it x here marked z here' whole =
    let mid = it.hides.moves.changes.kept n x here in
    let on = (marks_keep old it.hides.mid it.hidden t it.hides.marks).place n mid.0 mid.1 in
    let uncut = uncut_followed it.hidden new it.hides.moves.new_path it.path it.new_path moved n it.follows on.0 on.1 z here' whole in
    let still = mark_hidden t c old it.hidden n it.hides x here marked on.0 on.1 uncut in
    mark_followed it.hidden new it.hides.moves.new_path it.path it.new_path moved n it.follows on.0 on.1 still z here' whole

pub mark_altered : (change : Change) (old new : Lookup) (n : ℕ) → Alters old change new → KeepsMark old new n
mark_altered stays old new n same = mark_same old new n same
mark_altered (cuts l) old new n it = mark_changed _ old new n it.changes
mark_altered (moves s t) old new n it = mark_changed _ old new n it.changes
mark_altered (exchanges s t) old new n it = mark_changed _ old new n it.changes
mark_altered (hides l c) old new n it = mark_hidden l c old new n it
mark_altered (replaces s t c moved) old new n it = mark_replaced s t c moved old new n it
