-- What was collected, with one more location.
use Rattle.std.proofs.Common.{ℕ, ◌+◌, ◌<◌, ◌≡◌, ◌↔◌, ◌||◌, Bool, true, false, List, [], ◌∷◌, ◌++◌, Option, Some, None, All, Contains, length, get_or, take, refl, sym, ap, ◌∙◌, subst, ◌⊎◌, inl, inr, arith}
use Rattle.std.specs.Prelude.{Any, is_none, map}
use Rattle.std.proofs.lemmas.Bool.{false≢true, true≢false}
use Rattle.std.proofs.lemmas.List.{map-append, take_more}
use Rattle.std.proofs.lemmas.List.Elements.{All-push, Contains-append_cases, Contains-append_left, Contains-append_right}
use Rattle.std.proofs.lemmas.Option.{none-some}
use Rattle.paths.specs.Prefixes.{Names, prefixes}
use Rattle.holds.specs.declared.held.GivenPath.{GivenPath}
use Rattle.holds.specs.Conflicts.{IsSomePrefix}
use Rattle.holds.proofs.Among.{contains_read}
use Rattle.holds.proofs.Prefixing.{prefixes_are}
use Rattle.tree.specs.Places.{Lookup, IsPathOf, IsTree}
use Rattle.table_footprints.specs.declared.gatherings.Gathering.{Gathering}
use Rattle.table_footprints.specs.declared.found.AtLocation.{AtLocation}
use Rattle.table_footprints.specs.declared.refusal.FootprintRefusal.{FootprintRefusal}
use Rattle.table_footprints.specs.declared.refusal.FootprintRefusal.TheVariants as refusal
use Rattle.table_footprints.specs.declared.footprints.HoldMode.{HoldMode}
use Rattle.table_footprints.specs.declared.footprints.HoldMode.TheVariants.{Shared, Exclusive}
use Rattle.table_footprints.specs.declared.footprints.Location as told_location
use Rattle.table_footprints.specs.Asked.{HasPath, IsThere}
use Rattle.table_footprints.specs.Gatherings.{Adds, IsBadPath, IsBadFootprint, IsLongPath, IsGathering, IsFound, IsNoGathering, IsOwnAt, IsPinAt, IsSharedAt, IsShortPath, IsTaken, HasNoNode, location_of, own_paths, shared_path, told}
use Rattle.table_footprints.specs.Laws.{base_of}
use Rattle.table_footprints.specs.Footprints.{Location, AtNode}
use Rattle.table_footprints.proofs.Finding.{location_once}
use Rattle.table_footprints.proofs.Members.{any_in, any_none, any_push, contains_push, first_in, map_in, none_in, only_in, zip_push}

-- ---- lists

-- one more location of those that the code has
pub told_more : (ls : List told_location.Location) (i : ℕ) (l : told_location.Location) → i < length ls → l ≡ get_or ls i l → told (take (i + 1) ls) ≡ told (take i ls) ++ location_of l ∷ []
told_more ls i l within read =
    ap told (take_more ls i l within ∙ ap (λ (x : told_location.Location). take i ls ++ x ∷ []) (sym read)) ∙ map-append (λ x. location_of x) (take i ls) (l ∷ [])

pub told_in : (ls : List told_location.Location) (i : ℕ) (l : told_location.Location) → i < length ls → l ≡ get_or ls i l → Contains (told ls) (location_of l)
told_in ls i l within read = map_in (λ x. location_of x) ls l (contains_read ls i l l within read refl)

-- one of several that is refused
pub bad_row : (at : Lookup) (ls : List Location) (l : Location) (r : FootprintRefusal) → Contains ls l → IsBadPath at l r → IsBadFootprint at ls r
bad_row at ls l refusal.Stale here bad = absurd bad
bad_row at ls l refusal.TooLong here bad = any_in (IsLongPath at) ls l here bad
bad_row at ls l refusal.IntoItself here bad = absurd bad
bad_row at ls l refusal.OntoFolder here bad = absurd bad
bad_row at ls l refusal.Memory here bad = tt

-- membership in one list or the other
pub joined : {X A B : Type 0} → (xs ys : List X) (x : X) → Contains xs x ↔ A → Contains ys x ↔ B → Contains (xs ++ ys) x ↔ (A ⊎ B)
joined xs ys x a b = (
  λ h. elim (Contains-append_cases xs ys x h) [ inl left ↦ inl (a.0 left) | inr right ↦ inr (b.0 right) ],
  λ h. elim h [ inl left ↦ Contains-append_left xs ys x (a.1 left) | inr right ↦ Contains-append_right xs ys x (b.1 right) ],
)

along : {A B C : Type 0} → A ↔ B → C ↔ B → A ↔ C
along f g = (λ a. g.1 (f.0 a), λ c. f.1 (g.0 c))

-- ---- pins

pub pin_one : (xs : List ℕ) (a : ℕ) (o : Option ℕ) → ((n : ℕ) → o ≡ Some n → a ≡ n) → (n : ℕ) → Contains (xs ++ a ∷ []) n ↔ (Contains xs n ⊎ ((a ≡ n) ⊎ (o ≡ Some n)))
pin_one xs a o same n =
    let it = contains_push xs a n in (
      λ h. elim (it.0 h) [ inl before ↦ inl before | inr e ↦ inr (inl e) ],
      λ h. elim h [ inl before ↦ it.1 (inl before) | inr last ↦ elim last [ inl e ↦ it.1 (inr e) | inr e ↦ it.1 (inr (same n e)) ] ],
    )

pub pin_two : (xs : List ℕ) (a b : ℕ) (o : Option ℕ) → ((n : ℕ) → (o ≡ Some n) ↔ (b ≡ n)) → (n : ℕ) → Contains ((xs ++ a ∷ []) ++ b ∷ []) n ↔ (Contains xs n ⊎ ((a ≡ n) ⊎ (o ≡ Some n)))
pin_two xs a b o same n =
    let first = contains_push xs a n in
    let it = contains_push (xs ++ a ∷ []) b n in (
      λ h. elim (it.0 h) [
        | inl before ↦ elim (first.0 before) [ inl older ↦ inl older | inr e ↦ inr (inl e) ]
        | inr e ↦ inr (inr ((same n).1 e))
      ],
      λ h. elim h [
        | inl older ↦ it.1 (inl (first.1 (inl older)))
        | inr last ↦ elim last [ inl e ↦ it.1 (inl (first.1 (inr e))) | inr e ↦ it.1 (inr ((same n).0 e)) ]
      ],
    )

-- ---- what is held for one location

module _ (at : Lookup) (tree : IsTree at) (l : Location) (f : AtLocation) (found : IsFound at l f) where
  shared_here : (hold : HoldMode) (p : Names) → Contains (prefixes (shared_path hold f)) p ↔ IsSharedAt at hold p l
  shared_here Shared p = (
    λ h. record { path = f.path; leads = found.path; begins = (prefixes_are f.path).only p h },
    λ it. (prefixes_are f.path).all p (subst (λ q. IsSomePrefix p q) (location_once at tree l it.path f.path it.leads found.path) it.begins),
  )
  shared_here Exclusive p = (
    λ h. record { path = f.above; leads = found.above; begins = (prefixes_are f.above).only p h },
    λ it. (prefixes_are f.above).all p (subst (λ q. IsSomePrefix p q) (location_once at tree (AtNode (base_of l)) it.path f.above it.leads found.above) it.begins),
  )

  own_here : (hold : HoldMode) (p : Names) → Contains (own_paths hold f) p ↔ IsOwnAt at hold p l
  own_here Shared p = (λ h. none_in p h, λ bad. absurd bad)
  own_here Exclusive p = (
    λ h. subst (λ q. HasPath at l q) (only_in f.path p h) found.path,
    λ leads. subst (λ q. Contains (f.path ∷ []) q) (location_once at tree l f.path p found.path leads) (first_in f.path []),
  )

  module _ (hold : HoldMode) (ls : List Location) where
    vacant_more : (b : Bool) (o : Option ℕ) → (b ≡ true → Any (HasNoNode at) ls) → ((n : ℕ) → (o ≡ Some n) ↔ IsThere at l n) → (b || is_none o) ≡ true → Any (HasNoNode at) (ls ++ l ∷ [])
    vacant_more true o before node is = (any_push (HasNoNode at) ls l).1 (inl (before refl))
    vacant_more false None before node is = (any_push (HasNoNode at) ls l).1 (inr (λ n there. none-some n ((node n).1 there)))
    vacant_more false (Some k) before node is = absurd (false≢true is)

    taken_more : (b : Bool) (o : Option ℕ) → (b ≡ false → All (IsTaken at) ls) → ((n : ℕ) → (o ≡ Some n) ↔ IsThere at l n) → (b || is_none o) ≡ false → All (IsTaken at) (ls ++ l ∷ [])
    taken_more true o before node is = absurd (true≢false is)
    taken_more false None before node is = absurd (true≢false is)
    taken_more false (Some k) before node is = All-push (IsTaken at) ls l (before refl) (k, (node k).0 refl)

    pub draft_more : (old new : Gathering) → IsGathering at hold ls old → Adds old (base_of l) f hold new → IsGathering at hold (ls ++ l ∷ []) new
    draft_more old new is adds = record {
      numbers = ap (λ (leads : List GivenPath). map (λ (lead : GivenPath). lead.number) leads) adds.given
          ∙ (map-append (λ (lead : GivenPath). lead.number) old.given (record { number = base_of l; path = f.above } ∷ [])
          ∙ (ap (λ (ns : List ℕ). ns ++ base_of l ∷ []) is.numbers ∙ sym (map-append (λ x. base_of x) ls (l ∷ []))));
      leads = subst (λ (leads : List GivenPath). All (λ (lead : GivenPath). IsPathOf at lead.number lead.path) leads) (sym adds.given)
          (All-push (λ (lead : GivenPath). IsPathOf at lead.number lead.path) old.given (record { number = base_of l; path = f.above }) is.leads found.above);
      shared = λ p. subst (λ (ps : List Names). Contains ps p ↔ Any (IsSharedAt at hold p) (ls ++ l ∷ [])) (sym adds.shared)
          (along (joined old.shared (prefixes (shared_path hold f)) p (is.shared p) (shared_here hold p)) (any_push (IsSharedAt at hold p) ls l));
      exclusive = λ p. subst (λ (ps : List Names). Contains ps p ↔ Any (IsOwnAt at hold p) (ls ++ l ∷ [])) (sym adds.exclusive)
          (along (joined old.exclusive (own_paths hold f) p (is.exclusive p) (own_here hold p)) (any_push (IsOwnAt at hold p) ls l));
      paths = rw adds.paths (zip_push (IsShortPath at) ls old.paths l f.path is.paths (found.path, found.short));
      pins = λ n. (
        λ h. (any_push (IsPinAt at n) ls l).1 (elim ((adds.pins n).0 h) [
          | inl before ↦ inl ((is.pins n).0 before)
          | inr here ↦ inr (elim here [ inl e ↦ inl e | inr e ↦ inr ((found.node n).0 e) ])
        ]),
        λ h. (adds.pins n).1 (elim ((any_push (IsPinAt at n) ls l).0 h) [
          | inl before ↦ inl ((is.pins n).1 before)
          | inr here ↦ inr (elim here [ inl e ↦ inl e | inr there ↦ inr ((found.node n).1 there) ])
        ]),
      );
      next_free = λ e. vacant_more old.absent f.node is.next_free found.node (sym adds.absent ∙ e);
      taken = λ e. taken_more old.absent f.node is.taken found.node (sym adds.absent ∙ e);
    }

pub draft_none : (at : Lookup) (hold : HoldMode) (room : ℕ) (x : Gathering) → IsNoGathering room x → IsGathering at hold [] x
draft_none at hold room x is = record {
  numbers = ap (λ (leads : List GivenPath). map (λ (lead : GivenPath). lead.number) leads) is.given;
  leads = λ k d within. absurd (omega (arith, within, ap (λ (leads : List GivenPath). length leads) is.given));
  shared = λ p. (λ h. absurd (none_in p (subst (λ (ps : List Names). Contains ps p) is.shared h)), λ h. absurd (any_none (IsSharedAt at hold p) h));
  exclusive = λ p. (λ h. absurd (none_in p (subst (λ (ps : List Names). Contains ps p) is.exclusive h)), λ h. absurd (any_none (IsOwnAt at hold p) h));
  paths = rw is.paths tt;
  pins = λ n. (λ h. absurd (none_in n (subst (λ (ns : List ℕ). Contains ns n) (ap (λ p. p.numbers) is.pins) h)), λ h. absurd (any_none (IsPinAt at n) h));
  next_free = λ e. absurd (true≢false (sym e ∙ is.absent));
  taken = λ e k d within. absurd (omega (arith, within));
}
