-- What is found among entries after one was promoted, written, put or taken out.
use Rattle.std.proofs.Common.{rules, ◌≡◌, ℕ, zero, suc, ◌-◌, ◌≤◌, Bool, true, false, cond, ◌⊎◌, inl, inr, List, [], ◌∷◌, length, take, Option, Some, None, refl, sym, ap, ◌∙◌, slice_get}
use Rattle.std.specs.Cmp.{IsEquivalence}
use Rattle.std.specs.Cmp.Rules.{comparing}
use Rattle.std.specs.List.{IsDistinct}
use Rattle.std.specs.Option.{option_map, option_map_or, is_some}
use Rattle.std.specs.Map.{keys_of, lookup, lookup_entry, remove_entry, set_value}
use Rattle.std.proofs.lemmas.Bool.{cases_Bool, cond-true, cond-false, true≢false, false_from_ne_true}
use Rattle.std.proofs.lemmas.Option.{none-some, same_Some}
use Rattle.std.proofs.lemmas.Map.{lookup-remove_entry, lookup-set_value}
use Rattle.std.proofs.lemmas.List.{take_all}
use mathlib.Core.Path.{fun_ext}
use Rattle.lru.specs.LruCache.{LruCache, promoted, put_entries}
use Rattle.lru.proofs.CallerLemmas.{Contains-lookup_entry, lookup-put_entries}
use Rattle.paths.specs.Prefixes.{Name}
use Rattle.path_cache.specs.declared.keys.Key.{Key}
use Rattle.path_cache.specs.declared.entries.Entry.{Entry}
use Rattle.path_cache.specs.Keys.{same_key, key_of, is_key, key_is}
use Rattle.path_cache.specs.Walks.{Kept, with_found, without_found}
use Rattle.path_cache.specs.Entries.{Entries, kept_of, entry_in, found}

same_key_equiv : IsEquivalence same_key
same_key_equiv = search (comparing, rules)

-- a query passes one key at most
same_if_both : (q x y : Key) → same_key q x ≡ true → same_key q y ≡ true → x ≡ y
same_if_both q x y a b = sym (key_is q.parent q.name x a) ∙ key_is q.parent q.name y b

module _ {V : Type 0} where
  -- the entry that comes first of all is the one under its key
  pub entry-first : (es : Entries V) (parent : ℕ) (name : Name) (e : Key × Entry V) → slice_get es 0 ≡ Some e → is_key parent name e.0 ≡ true → entry_in es parent name ≡ Some e.1
  entry-first [] parent name e h is = absurd (none-some e h)
  entry-first (x ∷ es) parent name e h is =
      let same : x ≡ e = same_Some x e h in
      cond-true (is_key parent name x.0) (Some x.1) (lookup (is_key parent name) es) (ap (λ (y : Key × Entry V). is_key parent name y.0) same ∙ is)
      ∙ ap (λ (y : Key × Entry V). Some y.1) same

  -- the first entry that passes may as well come first of all
  front : (test q : Key → Bool) → ((x y : Key) → q x ≡ true → q y ≡ true → x ≡ y) → (es : List (Key × V)) (f : Key × V) → lookup_entry test es ≡ Some f → lookup q (f ∷ remove_entry test es) ≡ lookup q es
  front test q one [] f h = absurd (none-some f h)
  front test q one (e ∷ es) f h = elim (cases_Bool (test e.0)) [
    | inl yes_e ↦
        let same : f ≡ e = sym (same_Some e f (sym (cond-true (test e.0) (Some e) (lookup_entry test es) yes_e) ∙ h)) in
        ap (λ (x : Key × V). lookup q (x ∷ remove_entry test (e ∷ es))) same
        ∙ ap (λ (xs : List (Key × V)). lookup q (e ∷ xs)) (cond-true (test e.0) es (e ∷ remove_entry test es) yes_e)
    | inr no_e ↦
        let later : lookup_entry test es ≡ Some f = sym (cond-false (test e.0) (Some e) (lookup_entry test es) no_e) ∙ h in
        let passes : test f.0 ≡ true = (Contains-lookup_entry test es f later).1 in
        let rest = front test q one es f later in
        ap (λ (xs : List (Key × V)). lookup q (f ∷ xs)) (cond-false (test e.0) es (e ∷ remove_entry test es) no_e)
        ∙ (elim (cases_Bool (q f.0)) [
          | inl at_f ↦
              let not_e : q e.0 ≡ false = false_from_ne_true (q e.0) (λ at_e. true≢false (sym passes ∙ (ap test (one f.0 e.0 at_f at_e) ∙ no_e))) in
              cond-true (q f.0) (Some f.1) (lookup q (e ∷ remove_entry test es)) at_f
              ∙ (sym (cond-true (q f.0) (Some f.1) (lookup q (remove_entry test es)) at_f)
              ∙ (rest ∙ sym (cond-false (q e.0) (Some e.1) (lookup q es) not_e)))
          | inr not_f ↦
              cond-false (q f.0) (Some f.1) (lookup q (e ∷ remove_entry test es)) not_f
              ∙ ap (λ (o : Option V). cond (q e.0) (Some e.1) o) (sym (cond-false (q f.0) (Some f.1) (lookup q (remove_entry test es)) not_f) ∙ rest)
        ])
  ]

  front_of : (test q : Key → Bool) → ((x y : Key) → q x ≡ true → q y ≡ true → x ≡ y) → (es : List (Key × V)) (o : Option (Key × V)) → lookup_entry test es ≡ o → lookup q (option_map_or (λ e. e ∷ remove_entry test es) o es) ≡ lookup q es
  front_of test q one es None h = refl
  front_of test q one es (Some f) h = front test q one es f h

  pub lookup-promoted : (test q : Key → Bool) → ((x y : Key) → q x ≡ true → q y ≡ true → x ≡ y) → (es : List (Key × V)) → lookup q (promoted test es) ≡ lookup q es
  lookup-promoted test q one es = front_of test q one es (lookup_entry test es) refl

  pub lookup-take : (q : Key → Bool) (n : ℕ) (es : List (Key × V)) → (lookup q (take n es) ≡ lookup q es) ⊎ (lookup q (take n es) ≡ None)
  lookup-take q zero es = inr refl
  lookup-take q (suc n) [] = inl refl
  lookup-take q (suc n) (e ∷ es) = elim (lookup-take q n es) [
    | inl same ↦ inl (ap (λ (o : Option V). cond (q e.0) (Some e.1) o) same)
    | inr gone ↦ elim (cases_Bool (q e.0)) [
      | inl at_e ↦ inl (cond-true (q e.0) (Some e.1) (lookup q (take n es)) at_e ∙ sym (cond-true (q e.0) (Some e.1) (lookup q es) at_e))
      | inr not_e ↦ inr (cond-false (q e.0) (Some e.1) (lookup q (take n es)) not_e ∙ gone)
    ]
  ]

  put_of : (k : Key) (v : V) (q : Key) (es kept : List (Key × V)) → IsDistinct same_key (keys_of es) → kept ≡ es → (o : Option (Key × V)) → lookup_entry (same_key k) es ≡ o
      → lookup (same_key q) (option_map_or (λ e. (e.0, v) ∷ remove_entry (same_key k) es) o ((k, v) ∷ kept)) ≡ cond (same_key k q) (Some v) (lookup (same_key q) es)
  put_of k v q es kept distinct all None h =
      ap (λ (xs : List (Key × V)). lookup (same_key q) ((k, v) ∷ xs)) all
      ∙ ap (λ b. cond b (Some v) (lookup (same_key q) es)) (same_key_equiv.symm q k)
  put_of k v q es kept distinct all (Some e) h =
      let is : same_key k e.0 ≡ true = (Contains-lookup_entry (same_key k) es e h).1 in
      let key : k ≡ e.0 = key_is k.parent k.name e.0 is in
      let rest = lookup-remove_entry same_key_equiv (same_key k) (same_key_equiv.congr k) q es distinct in
      ap (λ (x : Key). cond (same_key q x) (Some v) (lookup (same_key q) (remove_entry (same_key k) es))) (sym key)
      ∙ (ap (λ b. cond b (Some v) (lookup (same_key q) (remove_entry (same_key k) es))) (same_key_equiv.symm q k)
      ∙ (elim (cases_Bool (same_key k q)) [
        | inl same ↦ cond-true (same_key k q) (Some v) (lookup (same_key q) (remove_entry (same_key k) es)) same ∙ sym (cond-true (same_key k q) (Some v) (lookup (same_key q) es) same)
        | inr other ↦ ap (λ (o : Option V). cond (same_key k q) (Some v) o) (rest ∙ cond-false (same_key k q) None (lookup (same_key q) es) other)
      ]))

  pub lookup-put : (c : LruCache Key V) (k : Key) (v : V) (q : Key) → IsDistinct same_key (keys_of c.entries) → length c.entries ≤ c.cap - 1
      → lookup (same_key q) (put_entries same_key c k v) ≡ cond (same_key k q) (Some v) (lookup (same_key q) c.entries)
  lookup-put c k v q distinct room = put_of k v q c.entries (take (c.cap - 1) c.entries) distinct (take_all (c.cap - 1) c.entries room) (lookup_entry (same_key k) c.entries) refl

pub found-promoted : {V : Type 0} (es : Entries V) (n : ℕ) (name : Name) → found (promoted (is_key n name) es) ≡ found es
unfolding found
found-promoted es n name = fun_ext (λ m. fun_ext (λ other. ap (option_map kept_of) (lookup-promoted (is_key n name) (is_key m other) (same_if_both (key_of m other)) es)))

pub found-take : {V : Type 0} (es : Entries V) (most m : ℕ) (other : Name) → (found (take most es) m other ≡ found es m other) ⊎ (found (take most es) m other ≡ None)
unfolding found
found-take es most m other = elim (lookup-take (is_key m other) most es) [
  | inl same ↦ inl (ap (option_map kept_of) same)
  | inr gone ↦ inr (ap (option_map kept_of) gone)
]

map_cond : {A B : Type 0} (f : A → B) (b : Bool) (x y : Option A) → option_map f (cond b x y) ≡ cond b (option_map f x) (option_map f y)
map_cond f true x y = refl
map_cond f false x y = refl

pub found-put : {V : Type 0} (c : LruCache Key (Entry V)) (n : ℕ) (name : Name) (v : Entry V) → IsDistinct same_key (keys_of c.entries) → length c.entries ≤ c.cap - 1
    → found (put_entries same_key c (key_of n name) v) ≡ with_found (found c.entries) n name (kept_of v)
unfolding found
found-put c n name v distinct room = fun_ext (λ m. fun_ext (λ other.
    ap (option_map kept_of) (lookup-put c (key_of n name) v (key_of m other) distinct room) ∙ map_cond kept_of (is_key n name (key_of m other)) (Some v) (entry_in c.entries m other)))

pub found-removed : {V : Type 0} (es : Entries V) (n : ℕ) (name : Name) → IsDistinct same_key (keys_of es) → found (remove_entry (is_key n name) es) ≡ without_found (found es) n name
unfolding found
found-removed es n name distinct = fun_ext (λ m. fun_ext (λ other.
    ap (option_map kept_of) (lookup-remove_entry same_key_equiv (is_key n name) (same_key_equiv.congr (key_of n name)) (key_of m other) es distinct)
    ∙ map_cond kept_of (is_key n name (key_of m other)) None (entry_in es m other)))

-- what is written under a key has the number and the value that are there
pub found-set_value : {V : Type 0} (es : Entries V) (n : ℕ) (name : Name) (old new : Entry V) → entry_in es n name ≡ Some old → kept_of new ≡ kept_of old → found (set_value (is_key n name) es new) ≡ found es
unfolding found
found-set_value {V} es n name old new there alike = fun_ext (λ m. fun_ext (λ other.
    ap (option_map kept_of) (lookup-set_value same_key_equiv (is_key n name) (same_key_equiv.congr (key_of n name)) (key_of m other) new es (ap is_some there))
    ∙ (map_cond kept_of (is_key n name (key_of m other)) (Some new) (entry_in es m other)
    ∙ (elim (cases_Bool (is_key n name (key_of m other))) [
      | inl same ↦
          let key : key_of n name ≡ key_of m other = key_is n name (key_of m other) same in
          let at : entry_in es m other ≡ Some old = ap (λ (k : Key). lookup (same_key k) es) (sym key) ∙ there in
          cond-true (is_key n name (key_of m other)) (Some (kept_of new)) (option_map kept_of (entry_in es m other)) same ∙ (ap (λ (x : Kept V). Some x) alike ∙ sym (ap (option_map kept_of) at))
      | inr not_same ↦ cond-false (is_key n name (key_of m other)) (Some (kept_of new)) (option_map kept_of (entry_in es m other)) not_same
    ]))))

same_key-refl : (k : Key) → same_key k k ≡ true
same_key-refl k = same_key_equiv.refl k

module _ {V : Type 0} (es : Entries V) (n : ℕ) (name : Name) (old new : Entry V) (there : Some old ≡ entry_in es n name) where
  stays_there : entry_in (promoted (is_key n name) es) n name ≡ Some old
  stays_there = lookup-promoted (is_key n name) (is_key n name) (same_if_both (key_of n name)) es ∙ sym there

  -- an entry that is promoted, and then written with the number and the value that it has
  pub found-written : kept_of new ≡ kept_of old → found (set_value (is_key n name) (promoted (is_key n name) es) new) ≡ found es
  found-written alike = found-set_value (promoted (is_key n name) es) n name old new stays_there alike ∙ found-promoted es n name

  pub entry-written : entry_in (set_value (is_key n name) (promoted (is_key n name) es) new) n name ≡ Some new
  entry-written =
      lookup-set_value same_key_equiv (is_key n name) (same_key_equiv.congr (key_of n name)) (key_of n name) new (promoted (is_key n name) es) (ap is_some stays_there)
      ∙ cond-true (is_key n name (key_of n name)) (Some new) (entry_in (promoted (is_key n name) es) n name) (same_key-refl (key_of n name))

pub entry-put : {V : Type 0} (c : LruCache Key (Entry V)) (n : ℕ) (name : Name) (v : Entry V) → entry_in (put_entries same_key c (key_of n name) v) n name ≡ Some v
entry-put c n name v = lookup-put_entries same_key c (key_of n name) v same_key_equiv
