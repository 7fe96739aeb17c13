-- The export of a lawful table is a lawful image.
use Rattle.std.proofs.Common.{ℕ, zero, suc, ◌+◌, ◌<◌, ◌≤◌, ◌≡◌, ◌≢◌, ◌==◌, ◌||◌, Bool, true, false, List, [], ◌∷◌, ◌++◌, Some, None, length, get_or, refl, sym, ap, ◌∙◌, subst, inl, inr, arith}
use Rattle.std.specs.Prelude.{All, AllPairs}
use Rattle.std.specs.List.{AllZip}
use Rattle.std.specs.List.{list_any}
use Rattle.std.proofs.lemmas.Bool.{cases_eq, cases_lt}
use Rattle.std.proofs.lemmas.List.{get_or_append_left, length-append}
use Rattle.std.proofs.lemmas.List.Elements.{All-push, Contains-push}
use Rattle.std.proofs.lemmas.List.Folds.{list_any-append}
use Rattle.std.proofs.lemmas.List.Quantifiers.{all_pairs_push}
use mathlib.Core.Path.{fun_ext}
use Rattle.ledger.specs.Periods.{Periods}
use Rattle.tree.specs.declared.nodes.Node.{Node}
use Rattle.tree.specs.Places.{Lookup, IsAlive}
use Rattle.tree.specs.Listed.{node_at, IsDistinct}
use Rattle.tree.proofs.LookupLemmas.{with_same, with_other, node_at-push, IsDistinct-push, cases_option}
use Rattle.paths.specs.Prefixes.{Names}
use Rattle.table_image.specs.declared.data.Hold.{Hold}
use Rattle.table_image.specs.declared.data.Image.{Image}
use Rattle.table_image.specs.declared.data.Record.{Record}
use Rattle.table_law.specs.Law.{IsKnownFile, IsLawful}
use Rattle.table_image.specs.ImageLaw.{AreApart, AreHoldsCounted, AreKnown, IsCountOf, IsLawfulImage, is_kept, is_pinned, periods_in}
use Rattle.table_image.specs.Parts.{IsStored}

-- ---- the law, from what is known about each number

-- the law depends only on the node of each number and on which numbers are kept
pub IsLawful-same : (old new : Lookup) (ps : Periods) (p q : ℕ → Bool) → ((n : ℕ) → new n ≡ old n) → ((n : ℕ) → q n ≡ p n) → IsLawful old ps p → IsLawful new ps q
IsLawful-same old new ps p q nodes keeps law =
    let at : old ≡ new = fun_ext (λ n. sym (nodes n)) in
    let kept : p ≡ q = fun_ext (λ n. sym (keeps n)) in
    subst (λ (r : ℕ → Bool). IsLawful new ps r) kept (subst (λ (l : Lookup). IsLawful l ps p) at law)

-- an image has nodes, a ledger, requests, open files and holds that satisfy the law
pub record Shows (image : Image) (at : Lookup) (ps : Periods) (kept : ℕ → Bool) : Type 0 where
  pub distinct : IsDistinct image.nodes
  pub nodes : (n : ℕ) → node_at image.nodes n ≡ at n
  pub ledger : periods_in image ≡ ps
  pub ids : AllPairs (λ r s. r.id ≢ s.id) image.records
  pub handles : AllPairs (λ f g. f.handle ≢ g.handle) image.files
  pub keeps : (n : ℕ) → is_kept image.records image.files n ≡ kept n
  pub files : All (IsKnownFile at image.last_handle) image.files
  pub counted : AreHoldsCounted image.holds image.records
  pub apart : AreApart image.records
  pub known : AreKnown at image.records

-- then it is lawful
pub IsLawfulImage-shows : (image : Image) (at : Lookup) (ps : Periods) (kept : ℕ → Bool) → Shows image at ps kept → IsLawful at ps kept → IsLawfulImage image
IsLawfulImage-shows image at ps kept shows law =
    let same : at ≡ node_at image.nodes = fun_ext (λ n. sym (shows.nodes n)) in
    record {
      numbers = shows.distinct;
      ids = shows.ids;
      handles = shows.handles;
      law =
          let here = IsLawful-same at (node_at image.nodes) ps kept (is_kept image.records image.files) shows.nodes shows.keeps law in
          subst (λ (qs : Periods). IsLawful (node_at image.nodes) qs (is_kept image.records image.files)) (sym shows.ledger) here;
      files = subst (λ (l : Lookup). All (IsKnownFile l image.last_handle) image.files) same shows.files;
      counted = shows.counted;
      apart = shows.apart;
      known = subst (λ (l : Lookup). AreKnown l image.records) same shows.known;
    }

-- ---- nodes listed by rising number

-- the list has the nodes of the numbers below the bound
pub record ListsBelow (at : Lookup) (bound : ℕ) (xs : List Node) : Type 0 where
  pub distinct : IsDistinct xs
  pub below : (n : ℕ) → n < bound → node_at xs n ≡ at n
  pub above : (n : ℕ) → bound ≤ n → node_at xs n ≡ None

pub ListsBelow-none : (at : Lookup) → ListsBelow at 0 []
ListsBelow-none at = record { distinct = tt; below = λ n less. absurd (omega arith); above = λ n le. refl }

-- a number without a node is skipped
pub ListsBelow-skip : (at : Lookup) (bound : ℕ) (xs : List Node) → at bound ≡ None → ListsBelow at bound xs → ListsBelow at (bound + 1) xs
ListsBelow-skip at bound xs none lists = record {
  distinct = lists.distinct;
  below = λ n less. elim (cases_eq n bound) [
    | inl e ↦ lists.above n (omega arith) ∙ (sym none ∙ ap at (sym e))
    | inr ne ↦ lists.below n (omega arith)
  ];
  above = λ n le. lists.above n (omega arith);
}

-- the node of a number is added
pub ListsBelow-push : (at : Lookup) (bound : ℕ) (xs : List Node) (x : Node) → at bound ≡ Some x → x.number ≡ bound → ListsBelow at bound xs → ListsBelow at (bound + 1) (xs ++ x ∷ [])
ListsBelow-push at bound xs x here number lists =
    let fresh : node_at xs x.number ≡ None = lists.above x.number (omega arith) in
    let pushed = node_at-push xs x fresh in
    let read = λ (n : ℕ). ap (λ (l : Lookup). l n) pushed in
    record {
      distinct = IsDistinct-push xs x lists.distinct fresh;
      below = λ n less. elim (cases_eq x.number n) [
        | inl e ↦ ap (node_at (xs ++ x ∷ [])) (sym e) ∙ (read x.number ∙ (with_same (node_at xs) x.number x ∙ (sym here ∙ ap at (sym number ∙ e))))
        | inr ne ↦ read n ∙ (with_other (node_at xs) x.number x n ne ∙ lists.below n (omega arith))
      ];
      above = λ n le. read n ∙ (with_other (node_at xs) x.number x n (λ e. omega arith) ∙ lists.above n (omega arith));
    }

-- if each living number is below the bound, the list has all nodes
pub ListsBelow-all : (at : Lookup) (bound : ℕ) (xs : List Node) → ((n : ℕ) → IsAlive at n → n < bound) → ListsBelow at bound xs → (n : ℕ) → node_at xs n ≡ at n
ListsBelow-all at bound xs all lists n = elim (cases_lt n bound) [
  | inl less ↦ lists.below n less
  | inr le ↦ elim (cases_option (at n)) [
    | inl none ↦ lists.above n le ∙ sym none
    | inr (x, some) ↦ let less = all n (x, some) in absurd (omega arith)
  ]
]

-- ---- requests

or_false : (b : Bool) → (b || false) ≡ b
or_false true = refl
or_false false = refl

-- one more request
pub is_pinned-push : (rs : List Record) (r : Record) (n : ℕ) → is_pinned (rs ++ r ∷ []) n ≡ (is_pinned rs n || list_any (λ m. m == n) r.pins)
is_pinned-push rs r n =
    list_any-append (λ (q : Record). list_any (λ m. m == n) q.pins) rs (r ∷ []) ∙ ap (λ (b : Bool). is_pinned rs n || b) (or_false (list_any (λ m. m == n) r.pins))

pub ids-push : (rs : List Record) (r : Record) → AllPairs (λ (s t : Record). s.id ≢ t.id) rs → ((k : ℕ) (d : Record) → k < length rs → (get_or rs k d).id ≢ r.id) → AllPairs (λ (s t : Record). s.id ≢ t.id) (rs ++ r ∷ [])
ids-push rs r ids fresh = all_pairs_push (λ (s t : Record). s.id ≢ t.id) rs r ids fresh

-- requests of the image that are written for those of a list, with the same ids and pins
abbrev pub Mirrors : {A : Type 0} → (A → ℕ) → (A → List ℕ) → List A → List Record → Type 0
Mirrors id pins fs rs = AllZip (λ f (r : Record). (r.id ≡ id f) × (r.pins ≡ pins f)) fs rs

-- they pin the same numbers
pub is_pinned-mirrors : {A : Type 0} (id : A → ℕ) (pins : A → List ℕ) (fs : List A) (rs : List Record) → Mirrors id pins fs rs
    → (n : ℕ) → is_pinned rs n ≡ list_any (λ f. list_any (λ m. m == n) (pins f)) fs
is_pinned-mirrors id pins [] [] mirrors n = refl
is_pinned-mirrors id pins [] (r ∷ rs) mirrors n = absurd mirrors
is_pinned-mirrors id pins (f ∷ fs) [] mirrors n = absurd mirrors
is_pinned-mirrors id pins (f ∷ fs) (r ∷ rs) mirrors n =
    let one : list_any (λ m. m == n) r.pins ≡ list_any (λ m. m == n) (pins f) = ap (λ (ns : List ℕ). list_any (λ m. m == n) ns) mirrors.0.1 in
    let others = is_pinned-mirrors id pins fs rs mirrors.1 n in
    cc

mirrors_length : {A : Type 0} (id : A → ℕ) (pins : A → List ℕ) (fs : List A) (rs : List Record) → Mirrors id pins fs rs → length rs ≡ length fs
mirrors_length id pins [] [] mirrors = refl
mirrors_length id pins [] (r ∷ rs) mirrors = absurd mirrors
mirrors_length id pins (f ∷ fs) [] mirrors = absurd mirrors
mirrors_length id pins (f ∷ fs) (r ∷ rs) mirrors = let rest = mirrors_length id pins fs rs mirrors.1 in omega arith

mirrors_id : {A : Type 0} (id : A → ℕ) (pins : A → List ℕ) (fs : List A) (rs : List Record) (i : ℕ) (e : A) (d : Record) → Mirrors id pins fs rs → i < length rs
    → (get_or rs i d).id ≡ id (get_or fs i e)
mirrors_id id pins [] [] i e d mirrors within = absurd (omega arith)
mirrors_id id pins [] (r ∷ rs) i e d mirrors within = absurd mirrors
mirrors_id id pins (f ∷ fs) [] i e d mirrors within = absurd mirrors
mirrors_id id pins (f ∷ fs) (r ∷ rs) zero e d mirrors within = mirrors.0.0
mirrors_id id pins (f ∷ fs) (r ∷ rs) (suc i) e d mirrors within = mirrors_id id pins fs rs i e d mirrors.1 (omega arith)

-- their ids are distinct if those of the list are
pub ids-mirrors : {A : Type 0} (id : A → ℕ) (pins : A → List ℕ) (fs : List A) (rs : List Record) → Mirrors id pins fs rs
    → AllPairs (λ f g. id f ≢ id g) fs → AllPairs (λ (r s : Record). r.id ≢ s.id) rs
ids-mirrors id pins [] rs mirrors apart i j d before within same = let none = mirrors_length id pins [] rs mirrors in absurd (omega arith)
ids-mirrors id pins (f ∷ fs) rs mirrors apart i j d before within same =
    let long = mirrors_length id pins (f ∷ fs) rs mirrors in
    let one = mirrors_id id pins (f ∷ fs) rs i f d mirrors (omega arith) in
    let two = mirrors_id id pins (f ∷ fs) rs j f d mirrors within in
    apart i j f before (omega arith) (sym one ∙ (same ∙ two))

-- ---- held paths listed one after another

-- some request shares the path or holds it exclusively
pub record IsHeldBySome (sharers owners : Names → ℕ) (path : Names) : Type 0 where
  pub some : 0 < sharers path + owners path

-- paths that are held, each at most once, with its two numbers
pub record ListsHeld (sharers owners : Names → ℕ) (holds : List Hold) : Type 0 where
  pub once : AllPairs (λ h k. h.path ≢ k.path) holds
  pub each : All (IsCountOf sharers owners) holds

-- what was stored still is, and so are these paths
pub record Stores (old new : List Hold) (paths : List Names) : Type 0 where
  pub kept : (path : Names) → IsStored old path → IsStored new path
  pub stored : All (IsStored new) paths

pub ListsHeld-none : (sharers owners : Names → ℕ) → ListsHeld sharers owners []
ListsHeld-none sharers owners = record { once = λ i j d before within. absurd (omega arith); each = λ k d within. absurd (omega arith) }

-- one more path
pub ListsHeld-push : (sharers owners : Names → ℕ) (hs : List Hold) (h : Hold) → All (λ (k : Hold). k.path ≢ h.path) hs → IsCountOf sharers owners h → ListsHeld sharers owners hs → ListsHeld sharers owners (hs ++ h ∷ [])
ListsHeld-push sharers owners hs h fresh counts lists = record {
  once = all_pairs_push (λ (a b : Hold). a.path ≢ b.path) hs h lists.once fresh;
  each = All-push (IsCountOf sharers owners) hs h lists.each counts;
}

stored_more : (hs : List Hold) (h : Hold) (path : Names) → IsStored hs path → IsStored (hs ++ h ∷ []) path
unfolding IsStored
stored_more hs h path it = (it.0, it.1, omega (arith, it.2, length-append hs (h ∷ [])), get_or_append_left hs (h ∷ []) it.1 it.0 it.2 ∙ it.3, it.4)

stored_last : (hs : List Hold) (h : Hold) → IsStored (hs ++ h ∷ []) h.path
unfolding IsStored
stored_last hs h = let last = Contains-push hs h in (last.0, h, last.1, last.2, refl)

one_stored : (hs : List Hold) (path : Names) → IsStored hs path → All (IsStored hs) (path ∷ [])
one_stored hs path it = All-push (IsStored hs) [] path (λ k d within. absurd (omega arith)) it

pub Stores-push : (hs : List Hold) (h : Hold) → Stores hs (hs ++ h ∷ []) (h.path ∷ [])
Stores-push hs h = record { kept = stored_more hs h; stored = one_stored (hs ++ h ∷ []) h.path (stored_last hs h) }

pub Stores-same : (hs : List Hold) (path : Names) → IsStored hs path → Stores hs hs (path ∷ [])
Stores-same hs path it = record { kept = λ p is. is; stored = one_stored hs path it }

pub Stores-none : (hs : List Hold) → Stores hs hs []
Stores-none hs = record { kept = λ p is. is; stored = λ k d within. absurd (omega arith) }

all_kept : (old new : List Hold) (ps : List Names) → ((path : Names) → IsStored old path → IsStored new path) → All (IsStored old) ps → All (IsStored new) ps
all_kept old new ps kept all k d within = kept (get_or ps k d) (all k d within)

-- one more path was stored
pub Stores-more : (old now new : List Hold) (ps : List Names) (p : Names) → Stores old now ps → Stores now new (p ∷ []) → Stores old new (ps ++ p ∷ [])
Stores-more old now new ps p first second = record {
  kept = λ path is. second.kept path (first.kept path is);
  stored = All-push (IsStored new) ps p (all_kept now new ps second.kept first.stored) (second.stored 0 p (omega arith));
}

-- what the first step stored is still stored after the second, and the other way round
pub Stores-then : (old now new : List Hold) (ps qs : List Names) → Stores old now ps → Stores now new qs → Stores old new ps × Stores old new qs
Stores-then old now new ps qs first second = (
  record { kept = λ path is. second.kept path (first.kept path is); stored = all_kept now new ps second.kept first.stored },
  record { kept = λ path is. second.kept path (first.kept path is); stored = second.stored },
)
