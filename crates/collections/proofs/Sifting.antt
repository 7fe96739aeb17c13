-- Sifting a map: entries with a value are moved to the front.
use Rattle.std.proofs.Common.{ℕ, ◌+◌, ◌<◌, ◌≤◌, ◌≡◌, Bool, true, List, Option, Some, None, length, get_or, swap, take, is_some, refl, sym, ap, ◌∙◌, subst, inl, inr, arith}
use Rattle.std.proofs.lemmas.Bool.{cases_eq}
use Rattle.std.proofs.lemmas.Bool.Decides.{nat_tests}
use Rattle.std.proofs.lemmas.List.Sorted.{sum_by-IsPermutation}
use Rattle.indexmap.specs.IndexMap.{IndexMap, get, index_map_len, spare, IsReordered, KeepsRoom}
use Rattle.indexmap.proofs.ReorderLemmas.{exchange, get_or-swap}
use Rattle.std.specs.Map.{lookup}
use Rattle.collections.specs.Living.{joined, weight, living, live, found}
use Rattle.collections.proofs.Entries.{found_kept, none_kept, living_kept, living_taken}

none_of : {V : Type 0} (o : Option V) → (is_some o ≡ true → ⊥) → o ≡ None
none_of None h = refl
none_of (Some v) h = absurd (h refl)

module _ {K V : Type 0} where
  -- of the first i entries, those with a value are in front
  pub record IsSifted (es : List (K × Option V)) (i kept : ℕ) : Type 0 where
    pub before : kept ≤ i
    pub front : (j : ℕ) (d : K × Option V) → j < kept → is_some (get_or es j d).1 ≡ true
    pub behind : (j : ℕ) (d : K × Option V) → kept ≤ j → j < i → (get_or es j d).1 ≡ None

  pub IsSifted-start : (es : List (K × Option V)) → IsSifted es 0 0
  IsSifted-start es = record {
    before = omega arith;
    front = λ j d low. absurd (omega arith);
    behind = λ j d low high. absurd (omega arith);
  }

  pub IsSifted-skip : (es : List (K × Option V)) (i kept : ℕ) → ((d : K × Option V) → is_some (get_or es i d).1 ≡ true → ⊥) → IsSifted es i kept → IsSifted es (i + 1) kept
  IsSifted-skip es i kept gone s = record {
    before = let b = s.before in omega arith;
    front = s.front;
    behind = λ j d low high. elim (cases_eq j i) [
      | inl e ↦ none_of (get_or es j d).1 (λ h. gone d (ap (λ (k : ℕ). is_some (get_or es k d).1) (sym e) ∙ h))
      | inr ne ↦ s.behind j d low (omega arith)
    ];
  }

  pub IsSifted-swap : (es : List (K × Option V)) (i kept : ℕ) → i < length es → ((d : K × Option V) → is_some (get_or es i d).1 ≡ true) → IsSifted es i kept → IsSifted (swap es i kept) (i + 1) (kept + 1)
  IsSifted-swap es i kept within lives s =
      let low = s.before in
      let read : (j k : ℕ) (d : K × Option V) → exchange i kept j ≡ k → get_or (swap es i kept) j d ≡ get_or es k d = λ j k d e. get_or-swap es i kept d within (omega arith) j ∙ ap (λ (n : ℕ). get_or es n d) e in
      record {
        before = omega arith;
        front = λ j d below. elim (cases_eq j kept) [
          | inl e ↦ ap (λ (x : K × Option V). is_some x.1) (read j i d (grind (arith, nat_tests))) ∙ lives d
          | inr ne ↦ ap (λ (x : K × Option V). is_some x.1) (read j j d (grind (arith, nat_tests))) ∙ s.front j d (omega arith)
        ];
        behind = λ j d above below. elim (cases_eq j i) [
          | inl e ↦ ap (λ (x : K × Option V). x.1) (read j kept d (grind (arith, nat_tests))) ∙ s.behind kept d (omega arith) (omega arith)
          | inr ne ↦ ap (λ (x : K × Option V). x.1) (read j j d (grind (arith, nat_tests))) ∙ s.behind j d (omega arith) (omega arith)
        ];
      }

-- the loop of a compaction: the map is a permutation of the one at the start
module _ {K V S : Type 0} (eq : K → K → Bool) where
  pub record IsSiftedMap (start now : IndexMap K (Option V) S) (i kept : ℕ) : Type 0 where
    pub sifted : IsSifted now.entries i kept
    pub len : index_map_len now ≡ index_map_len start
    pub same : (q : K) → get eq now q ≡ get eq start q
    pub live : live now ≡ live start
    pub room : spare start ≤ spare now

  pub IsSiftedMap-start : (m : IndexMap K (Option V) S) → IsSiftedMap m m 0 0
  IsSiftedMap-start m = record { sifted = IsSifted-start m.entries; len = refl; same = λ q. refl; live = refl; room = omega arith }

  pub IsSiftedMap-skip : (start now : IndexMap K (Option V) S) (i kept : ℕ) → ((d : K × Option V) → is_some (get_or now.entries i d).1 ≡ true → ⊥) → IsSiftedMap start now i kept → IsSiftedMap start now (i + 1) kept
  IsSiftedMap-skip start now i kept gone s = record { sifted = IsSifted-skip now.entries i kept gone s.sifted; len = s.len; same = s.same; live = s.live; room = s.room }

  pub IsSiftedMap-swap : (start now new : IndexMap K (Option V) S) (i kept : ℕ) → i < index_map_len now → ((d : K × Option V) → is_some (get_or now.entries i d).1 ≡ true) → new.entries ≡ swap now.entries i kept → IsReordered eq now new → KeepsRoom now new
      → IsSiftedMap start now i kept → IsSiftedMap start new (i + 1) (kept + 1)
  IsSiftedMap-swap start now new i kept within lives entries reordered room s = record {
    sifted = subst (λ (es : List (K × Option V)). IsSifted es (i + 1) (kept + 1)) (sym entries) (IsSifted-swap now.entries i kept within lives s.sifted);
    len = reordered.1 ∙ s.len;
    same = λ q. reordered.2 q ∙ s.same q;
    live = sum_by-IsPermutation (λ (e : K × Option V). weight e.1) now.entries new.entries reordered.0 ∙ s.live;
    room = let was = s.room in omega (arith, room.0);
  }

  -- a map that was sifted to its end, and its first entries
  module _ (start now new : IndexMap K (Option V) S) (i kept : ℕ) (all : i ≡ index_map_len now) (s : IsSiftedMap start now i kept) (entries : new.entries ≡ take kept now.entries) where
    within : kept ≤ length now.entries
    within = let b = s.sifted.before in omega arith

    behind : (j : ℕ) (d : K × Option V) → kept ≤ j → j < length now.entries → (get_or now.entries j d).1 ≡ None
    behind j d low inside = s.sifted.behind j d low (omega arith)

    pub kept_live : kept ≡ live start
    kept_live = sym (living_kept now.entries kept within s.sifted.front behind) ∙ s.live

    pub compacted_same : (q : K) → found eq new q ≡ found eq start q
    compacted_same q = ap (λ (es : List (K × Option V)). joined (lookup (eq q) es)) entries ∙ (found_kept (eq q) now.entries kept behind ∙ ap joined (s.same q))

    pub compacted_none : (q : K) → get eq start q ≡ None → get eq new q ≡ None
    compacted_none q h = ap (lookup (eq q)) entries ∙ none_kept (eq q) now.entries kept (s.same q ∙ h)

    pub compacted_live : live new ≡ live start
    compacted_live = ap living entries ∙ (living_taken now.entries kept within s.sifted.front ∙ kept_live)
