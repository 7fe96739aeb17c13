-- What is kept in a cache, and where, after each of its changes.
use Rattle.std.proofs.Common.{◌≡◌, ℕ, [], ◌∷◌, ◌++◌, Option, Some, None, Bor, refl, sym, ap, ◌∙◌, subst}
use Rattle.std.specs.Option.{option_map, IsSome}
use Rattle.std.proofs.lemmas.Option.{none-some, same_Some}
use Rattle.paths.specs.Prefixes.{Name, Names}
use Rattle.path_cache.specs.declared.entries.Entry.{Entry}
use Rattle.path_cache.specs.declared.places.Place.{Place}
use Rattle.path_cache.specs.declared.places.Place.TheVariants as place
use Rattle.path_cache.specs.Places.{number_of}
use Rattle.path_cache.specs.Walks.{Kept, walk, root_of, reached}
use Rattle.path_cache.specs.Entries.{found, entry_in}
use Rattle.path_cache.specs.Cache.{Cache, kept_at, number_at, looked_at, IsAt}
use Rattle.path_cache.proofs.Walking.{reached-append, reached-root}

pub number_some : {V : Type 0} (o : Option (Kept V)) (n : ℕ) → option_map (λ (k : Kept V). k.number) o ≡ Some n → (u : Kept V) × (o ≡ Some u) × (u.number ≡ n)
number_some None n h = absurd (none-some n h)
number_some (Some u) n h = (u, refl, same_Some u.number n h)

no_number : {V : Type 0} (o : Option (Kept V)) → None ≡ option_map (λ (k : Kept V). k.number) o → o ≡ None
no_number None h = refl
no_number (Some u) h = absurd (none-some u.number h)

-- the entry at a place
pub entry_at : {V : Type 0} (c : Cache V) (p : Place) (path : Names) → IsAt c p path → (u : Kept V) × (reached (found c.entries) c.root path ≡ Some u) × (u.number ≡ number_of p)
unfolding number_at
entry_at c place.Root path is = (root_of c.root, ap (reached (found c.entries) c.root) is.leads ∙ reached-root (found c.entries) c.root, refl)
entry_at c (place.Child parent name number) path is = number_some (reached (found c.entries) c.root path) number is.leads.here

-- one name further down
pub down : {V : Type 0} (c : Cache V) (p : Place) (up : Names) (name : Name) → IsAt c p up → reached (found c.entries) c.root (up ++ name ∷ []) ≡ found c.entries (number_of p) name
down c p up name is =
    let (u, at, number) = entry_at c p up is in
    reached-append (found c.entries) c.root up (name ∷ [])
    ∙ (ap (λ o. walk (found c.entries) o (name ∷ [])) at ∙ ap (λ n. found c.entries n name) number)

pub number_down : {V : Type 0} (c : Cache V) (p : Place) (up : Names) (name : Name) → IsAt c p up → number_at c (up ++ name ∷ []) ≡ option_map (λ k. k.number) (found c.entries (number_of p) name)
unfolding number_at
number_down c p up name is = ap (option_map (λ k. k.number)) (down c p up name is)

pub kept_down : {V : Type 0} (c : Cache V) (p : Place) (up : Names) (name : Name) → IsAt c p up → kept_at c (up ++ name ∷ []) ≡ option_map (λ k. k.value) (found c.entries (number_of p) name)
unfolding kept_at
kept_down c p up name is = ap (option_map (λ k. k.value)) (down c p up name is)

pub number_there : {V : Type 0} (c : Cache V) (p : Place) (path : Names) → IsAt c p path → number_at c path ≡ Some (number_of p)
unfolding number_at
number_there c p path is = let (u, at, number) = entry_at c p path is in ap (option_map (λ k. k.number)) at ∙ ap (λ n. Some n) number

-- ---- what is reached tells what is kept, and where

module _ {V : Type 0} (old new : Cache V) where
  abbrev pub SameAt : Names → Type 0
  SameAt p = reached (found new.entries) new.root p ≡ reached (found old.entries) old.root p

  pub same_number : (p : Names) → SameAt p → number_at new p ≡ number_at old p
  unfolding number_at
  same_number p same = ap (option_map (λ k. k.number)) same

  pub same_kept : (p : Names) → SameAt p → kept_at new p ≡ kept_at old p
  unfolding kept_at
  same_kept p same = ap (option_map (λ k. k.value)) same

  -- a place stays where what is reached at its path, and on the way there, is the same
  pub place_stays : (P : Names → Type 0) → ((up : Names) (x : Name) → P (up ++ x ∷ []) → P up) → ((p : Names) → P p → SameAt p) → (other : Place) (q : Names) → P q → IsAt old other q → IsAt new other q
  place_stays P closed same place.Root q here is = record { leads = is.leads }
  place_stays P closed same (place.Child parent name number) q here is =
      let child = is.leads in
      record {
        leads = record {
          up = child.up;
          whole = child.whole;
          above = same_number child.up (same child.up (closed child.up name.now (subst P child.whole here))) ∙ child.above;
          here = same_number q (same q here) ∙ child.here;
        };
      }

  -- all stays where all that is found is the same
  module _ (finds : found new.entries ≡ found old.entries) (root : new.root ≡ old.root) where
    all_same : (p : Names) → SameAt p
    all_same p = ap (λ f. reached f new.root p) finds ∙ ap (λ r. reached (found old.entries) r p) root

    pub all_kept : (p : Names) → kept_at new p ≡ kept_at old p
    all_kept p = same_kept p (all_same p)

    pub all_placed : (other : Place) (q : Names) → IsAt old other q → IsAt new other q
    all_placed other q is = place_stays (λ _. Unit {0}) (λ _ _ _. tt) (λ p _. all_same p) other q tt is

-- nothing is found under the name
pub none_there : {V : Type 0} (c : Cache V) (p : Place) (up : Names) (name : Name) (n : ℕ) → n ≡ number_of p → None ≡ option_map (λ k. k.number) (found c.entries n name) → IsAt c p up → kept_at c (up ++ name ∷ []) ≡ None
none_there {V} c p up name n folder none is =
    let missing : found c.entries n name ≡ None = no_number (found c.entries n name) none in
    kept_down c p up name is ∙ ap (option_map (λ k. k.value)) (ap (λ m. found c.entries m name) (sym folder) ∙ missing)

-- an entry is found under the name, and stays
pub child_there : {V : Type 0} (old new : Cache V) (p : Place) (up : Names) (name : Bor Name) (n number : ℕ) → n ≡ number_of p → Some number ≡ option_map (λ k. k.number) (found old.entries n name.now)
    → found new.entries ≡ found old.entries → new.root ≡ old.root → IsAt old p up → IsAt new (place.Child n name number) (up ++ name.now ∷ [])
child_there old new p up name n number folder there finds root is = record {
  leads = record {
    up = up;
    whole = refl;
    above = same_number old new up (all_same old new finds root up) ∙ (number_there old p up is ∙ ap (λ m. Some m) (sym folder));
    here = same_number old new (up ++ name.now ∷ []) (all_same old new finds root (up ++ name.now ∷ []))
        ∙ (number_down old p up name.now is ∙ (ap (λ m. option_map (λ k. k.number) (found old.entries m name.now)) (sym folder) ∙ sym there));
  };
}

-- ---- when it was seen

pub root_looked : {V : Type 0} (c : Cache V) → looked_at c place.Root ≡ Some c.root_looked
unfolding looked_at
root_looked c = refl

pub child_looked : {V : Type 0} (c : Cache V) (parent : ℕ) (name : Bor Name) (number : ℕ) → looked_at c (place.Child parent name number) ≡ option_map (λ e. e.looked) (entry_in c.entries parent name.now)
unfolding looked_at
child_looked c parent name number = refl

some_looked : {V : Type 0} (o : Option (Entry V)) → IsSome (option_map (λ (e : Entry V). e.looked) o) → IsSome o
some_looked None is = is
some_looked (Some e) is = refl

pub child_was : {V : Type 0} (c : Cache V) (parent : ℕ) (name : Bor Name) (number : ℕ) → IsSome (looked_at c (place.Child parent name number)) → IsSome (entry_in c.entries parent name.now)
unfolding looked_at
child_was c parent name number is = some_looked (entry_in c.entries parent name.now) is
