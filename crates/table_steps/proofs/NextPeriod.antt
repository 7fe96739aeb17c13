-- The law after the end of a period.
use Rattle.std.proofs.Common.{ℕ, suc, zero, ◌+◌, ◌<◌, ◌≤◌, ◌≡◌, ◌≢◌, ◌⊎◌, inl, inr, Bool, true, false, List, [], ◌∷◌, Option, Some, None, is_some, All, AllPairs, Contains, length, get_or, map, take, refl, sym, ap, ◌∙◌, subst, length-take, arith}
use Rattle.std.specs.Prelude.{option_map, sum_by, unwrap_or, nat_eq}
use Rattle.std.proofs.lemmas.Bool.{cases_eq, false≢true}
use Rattle.std.proofs.lemmas.List.{get_or-map, get_or-take, length-map, take-map}
use Rattle.std.proofs.lemmas.List.Elements.{All-contains, All-head, All-map, All-same, All-tail, Contains-get_or}
use Rattle.std.proofs.lemmas.List.Kept.{AllPairs-cons}
use Rattle.std.proofs.lemmas.List.Sums.{sum_by-cons}
use Rattle.std.proofs.lemmas.Option.{none-some, same_Some}
use Rattle.ledger.specs.declared.births.KeptBirths.{KeptBirths}
use Rattle.ledger.specs.declared.postings.Posting.{Posting}
use Rattle.ledger.specs.declared.postings.Posting.TheVariants.{Born, Opening}
use Rattle.ledger.specs.declared.shares.Totals.{Totals}
use Rattle.ledger.specs.Closing.{AreAllAlive, Closes, opening_of}
use Rattle.ledger.specs.Periods.{Periods, up_to}
use Rattle.ledger.specs.Sums.{births_closed, births_of, count_of, entries_of, generation_of, given_back_of, is_opening, number_of, IsCarriedOver}
use Rattle.ledger.proofs.Closed.{closed_absent, closed_births, closed_given, closed_never, closed_present}
use Rattle.collections.specs.Sum.{IsSum}
use Rattle.collections.proofs.Members.{cases_in, first_in, later_in}
use Rattle.collections.proofs.Once.{sum_once}
use Rattle.tree.specs.declared.nodes.Node.{Node}
use Rattle.tree.specs.Places.{Lookup, IsAlive, IsCensus}
use Rattle.tree.proofs.LookupLemmas.{cases_option}
use Rattle.table_law.specs.Law.{IsBegun, IsOrdered, MayOpen, MayStand}
use Rattle.table_steps.specs.Living.{AreLiving, IsLivingUpTo, AreLivingUpTo, opening_at}
use Rattle.table_steps.specs.Steps.{AreOpenings, IsOpeningOf}
use Rattle.table_steps.specs.Upheld.{IsBooked, IsUpheld}
use Rattle.std.specs.Set.{is_member}
use Rattle.std.specs.Cmp.{nat_eq_equiv}
use Rattle.std.proofs.lemmas.Bool.Decides.{Decides-eqb}
use Rattle.std.proofs.lemmas.Map.Made.{IsDistinct-from_AllPairs, is_member-Decides, length-le_from_is_member}

module _ (at : Lookup) (pairs : List (ℕ × ℕ)) (living : AreLiving at pairs) where
  -- each number comes once
  pub living_once : AllPairs (λ (a b : ℕ × ℕ). a ≢ b) pairs
  living_once i j d before within same =
      let less = living.up_to.rising i j d before within in
      let e = ap (λ (b : ℕ × ℕ). b.0) same in
      omega (arith, less, e)

  -- all nodes except the root
  pub living_there : (n : ℕ) (x : Node) → at n ≡ Some x → n ≢ 1 → Contains pairs (n, x.generation)
  living_there n x here other =
      let within = living.no_more n x here in
      living.up_to.all n x here (omega (arith, within.0, other)) within.1

  -- and no others
  pub living_node : (n g : ℕ) → Contains pairs (n, g) → IsLivingUpTo at living.last (n, g)
  living_node n g there = All-contains (IsLivingUpTo at living.last) pairs (n, g) living.up_to.each there

  pub root_absent : (g : ℕ) → Contains pairs (1, g) → ⊥
  root_absent g there = let it = living_node 1 g there in omega (arith, it.not_root)

-- ---- how many there are

abbrev number_in : ℕ × ℕ → ℕ
number_in a = a.0

module _ (at : Lookup) where
  abbrev weight : ℕ → ℕ
  weight k = unwrap_or (option_map (λ (x : Node). 1) (at k)) 0

  weighs_one : (n : ℕ) (x : Node) → at n ≡ Some x → weight n ≡ 1
  weighs_one n x here = ap (λ (o : Option Node). unwrap_or (option_map (λ (y : Node). 1) o) 0) here

  weigh_all : (last : ℕ) (pairs : List (ℕ × ℕ)) → All (IsLivingUpTo at last) pairs → sum_by weight (map number_in pairs) ≡ length pairs
  weigh_all last [] each = refl
  weigh_all last (a ∷ pairs) each =
      let first = All-head (IsLivingUpTo at last) a pairs each in
      let one = weighs_one a.0 first.node first.here in
      omega (arith, one, weigh_all last pairs (All-tail (IsLivingUpTo at last) a pairs each), sum_by-cons weight a.0 (map number_in pairs))

  abbrev one_if_alive : Option Node → ℕ
  one_if_alive o = unwrap_or (option_map (λ (x : Node). 1) o) 0

  weighs_alive : (o : Option Node) → is_some o ≡ true → one_if_alive o ≡ 1
  weighs_alive None some = absurd (false≢true some)
  weighs_alive (Some x) some = refl

  weigh_keys : (ks : List ℕ) → All (λ k. is_some (at k) ≡ true) ks → sum_by weight ks ≡ length ks
  weigh_keys [] each = refl
  weigh_keys (k ∷ ks) each =
      let one = weighs_alive (at k) (All-head (λ j. is_some (at j) ≡ true) k ks each) in
      omega (arith, one, weigh_keys ks (All-tail (λ j. is_some (at j) ≡ true) k ks each), sum_by-cons weight k ks)

number_at : (pairs : List (ℕ × ℕ)) (i d : ℕ) → i < length pairs → get_or (map number_in pairs) i d ≡ (get_or pairs i (0, 0)).0
number_at pairs i d within = get_or-map number_in pairs i (0, 0) d within

numbered : (pairs : List (ℕ × ℕ)) (n g : ℕ) → Contains pairs (n, g) → Contains (map number_in pairs) n
numbered pairs n g (k, within, is) = (k, omega (arith, within, length-map pairs number_in), get_or-map number_in pairs k (n, g) n within ∙ ap number_in is)

pair_of : (pairs : List (ℕ × ℕ)) (n : ℕ) → Contains (map number_in pairs) n → (a : ℕ × ℕ) × Contains pairs a × (a.0 ≡ n)
pair_of pairs n (k, within, is) =
    let inside : k < length pairs = omega (arith, within, length-map pairs number_in) in
    (get_or pairs k (0, 0), Contains-get_or pairs k (0, 0) inside, sym (number_at pairs k n inside) ∙ is)

module _ (at : Lookup) (last : ℕ) (pairs : List (ℕ × ℕ)) (up_to : AreLivingUpTo at last pairs) (root : IsAlive at 1) where
  abbrev keys : List ℕ
  keys = 1 ∷ map number_in pairs

  keys_apart : AllPairs (λ (j k : ℕ). j ≢ k) keys
  keys_apart = AllPairs-cons (λ (j k : ℕ). j ≢ k) 1 (map number_in pairs)
      (λ i d within same.
      let inside : i < length pairs = omega (arith, within, length-map pairs number_in) in
      let it = up_to.each i (0, 0) inside in
      omega (arith, it.not_root, same, number_at pairs i d inside))
      (λ i j d before within same.
      let inside : j < length pairs = omega (arith, within, length-map pairs number_in) in
      let less = up_to.rising i j (0, 0) before inside in
      omega (arith, less, same, number_at pairs i d (omega arith), number_at pairs j d inside))

  key_lives : (k : ℕ) → Contains keys k → IsAlive at k
  key_lives k there = elim (cases_in 1 (map number_in pairs) k there) [
    | inl first ↦ subst (IsAlive at) first root
    | inr later ↦
        let it = pair_of pairs k later in
        let lives = All-contains (IsLivingUpTo at last) pairs it.0 up_to.each it.1 in
        subst (IsAlive at) it.2 (lives.node, lives.here)
  ]

  is_alive : (k : ℕ) → Contains keys k → is_some (at k) ≡ true
  is_alive k there = let it = key_lives k there in ap (λ (o : Option Node). is_some o) it.1

  -- no more than all nodes except the root
  pub up_to_count : (total counts : ℕ) → IsCensus at total counts → length pairs + 1 ≤ total
  up_to_count total counts census =
      let all = census.living_is in
      let member : (q : ℕ) → is_member nat_eq keys q ≡ true → is_member nat_eq all.keys q ≡ true = λ q h. (is_member-Decides Decides-eqb all.keys q).1 ((all.exact q).1 (is_alive q ((is_member-Decides Decides-eqb keys q).0 h))) in
      let fewer : length keys ≤ length all.keys = length-le_from_is_member nat_eq_equiv keys all.keys (IsDistinct-from_AllPairs Decides-eqb keys keys_apart) member in
      let each : All (λ k. is_some (at k) ≡ true) all.keys = λ i d within. (all.exact (get_or all.keys i d)).0 (Contains-get_or all.keys i d within) in
      omega (arith, fewer, all.total_is, weigh_keys at all.keys each, length-map pairs number_in)

module _ (at : Lookup) (pairs : List (ℕ × ℕ)) (living : AreLiving at pairs) (root : IsAlive at 1) where
  key_there : (k : ℕ) (x : Node) → at k ≡ Some x → Contains (keys at living.last pairs living.up_to root) k
  key_there k x here = elim (cases_eq k 1) [
    | inl e ↦ subst (Contains (keys at living.last pairs living.up_to root)) (sym e) (first_in 1 (map number_in pairs))
    | inr other ↦ later_in 1 (map number_in pairs) k (numbered pairs k x.generation (living_there at pairs living k x here other))
  ]

  living_sum : IsSum at (λ (x : Node). 1) (length pairs + 1)
  living_sum = record {
    keys = keys at living.last pairs living.up_to root;
    apart = keys_apart at living.last pairs living.up_to root;
    exact = λ k. (
      λ there. is_alive at living.last pairs living.up_to root k there,
      λ some. elim (cases_option (at k)) [
        | inl none ↦ absurd (false≢true (sym (ap (λ (o : Option Node). is_some o) none) ∙ some))
        | inr (x, here) ↦ key_there k x here
      ],
    );
    total_is =
        let one = weighs_one at 1 root.0 root.1 in
        omega (arith, one, weigh_all at living.last pairs living.up_to.each, sum_by-cons (weight at) 1 (map number_in pairs));
  }

  -- one for each node except the root
  pub living_count : (total counts : ℕ) → IsCensus at total counts → length pairs + 1 ≡ total
  living_count total counts census = sum_once at (λ (x : Node). 1) (length pairs + 1) total living_sum census.living_is

-- ---- the law

module _ (at : Lookup) (old : Periods) (kept : ℕ → Bool) (pairs : List (ℕ × ℕ)) (law : IsUpheld at old kept) (living : AreLiving at pairs) where
  -- nothing is left of any other number and generation
  others_settled : (n g : ℕ) → (Contains pairs (n, g) → ⊥) → given_back_of n g old ≡ entries_of n g old
  others_settled n g absent = elim (cases_option (at n)) [
    | inl none ↦ law.booked.counted.others n g (λ x here. absurd (none-some x (sym none ∙ here)))
    | inr (x, here) ↦ elim (cases_eq x.generation g) [
      | inl e ↦ elim (cases_eq n 1) [
        | inl one ↦
            let plain = law.booked.root.plain x (ap at (sym one) ∙ here) in
            let was = law.booked.counted.counts n x here in
            subst (λ (h : ℕ). given_back_of n h old ≡ entries_of n h old) e (omega (arith, plain.1, was))
        | inr other ↦ absurd (absent (subst (λ (h : ℕ). Contains pairs (n, h)) e (living_there at pairs living n x here other)))
      ]
      | inr ne ↦ law.booked.counted.others n g (λ y stands is. ne (ap (λ (w : Node). w.generation) (same_Some x y (sym here ∙ stands)) ∙ is))
    ]
  ]

  pub all_alive : AreAllAlive old pairs
  all_alive = record { once = living_once at pairs living; others = others_settled }

  opened_where : (rest : List (ℕ × ℕ)) → All (IsLivingUpTo at living.last) rest → map (opening_at at) rest ≡ map (opening_of old) rest
  opened_where [] each = refl
  opened_where (a ∷ rest) each =
      let it = All-head (IsLivingUpTo at living.last) a rest each in
      let count : unwrap_or (option_map (λ (x : Node). x.count) (at a.0)) 0 ≡ it.node.count = ap (λ (o : Option Node). unwrap_or (option_map (λ (x : Node). x.count) o) 0) it.here in
      let was = law.booked.counted.counts a.0 it.node it.here in
      let left : it.node.count ≡ count_of a.0 a.1 old = subst (λ (g : ℕ). it.node.count ≡ count_of a.0 g old) it.generation (omega (arith, was)) in
      ap (λ (k : ℕ). Opening a.0 a.1 k ∷ map (opening_at at) rest) (count ∙ left) ∙ ap (λ (ps : List Posting). opening_of old a ∷ ps) (opened_where rest (All-tail (IsLivingUpTo at living.last) a rest each))

  -- the openings have what was left of the nodes
  pub opened_same : map (opening_at at) pairs ≡ map (opening_of old) pairs
  opened_same = opened_where pairs living.up_to.each

  module _ (new : Periods) (closes : Closes old pairs new) (carried : IsCarriedOver new) where
    count_stays : (n : ℕ) (x : Node) → at n ≡ Some x → n ≢ 1 → count_of n x.generation old ≡ x.count
    count_stays n x here other = let was = law.booked.counted.counts n x here in omega (arith, was)

    none_left : (n g : ℕ) → (Contains pairs (n, g) → ⊥) → given_back_of n g new ≡ entries_of n g new
    none_left n g absent = closed_given old new pairs closes.last n g ∙ sym (closed_absent old new pairs closes.last n g absent)

    counts_now : (n : ℕ) (x : Node) → at n ≡ Some x → x.count + given_back_of n x.generation new ≡ entries_of n x.generation new
    counts_now n x here = elim (cases_eq n 1) [
      | inl one ↦
          let plain = law.booked.root.plain x (ap at (sym one) ∙ here) in
          let absent : Contains pairs (n, x.generation) → ⊥ = λ there. root_absent at pairs living x.generation (subst (λ (m : ℕ). Contains pairs (m, x.generation)) one there) in
          omega (arith, plain.1, none_left n x.generation absent)
      | inr other ↦
          let there = living_there at pairs living n x here other in
          omega (arith, count_stays n x here other, closed_given old new pairs closes.last n x.generation, closed_present old new pairs (living_once at pairs living) closes.last n x.generation there)
    ]

    unborne_absent : (n g : ℕ) → ((x : Node) → at n ≡ Some x → x.generation ≢ g) → Contains pairs (n, g) → ⊥
    unborne_absent n g unborne there = let it = living_node at pairs living n g there in unborne it.node it.here it.generation

    -- ---- the order of the openings

    abbrev opened : List Posting
    opened = map (opening_of old) pairs

    all_openings : (ps : List (ℕ × ℕ)) → All (λ p. is_opening p ≡ true) (map (opening_of old) ps)
    all_openings ps = All-map (λ p. is_opening p ≡ true) (opening_of old) ps (λ k d within. refl)

    openings_first : (k : ℕ) → All (λ p. is_opening p ≡ true) (take k opened)
    openings_first k = All-same (λ p. is_opening p ≡ true) (take k opened) (map (opening_of old) (take k pairs)) (take-map (opening_of old) k pairs) (all_openings (take k pairs))

    opened_before : (k : ℕ) (d : ℕ × ℕ) → k < length pairs → (begun : Periods) → begun.last ≡ take k opened → IsBegun begun (get_or pairs k d).0 (get_or pairs k d).1 → ⊥
    opened_before k d within begun is (inl born) =
        let first : All (λ p. is_opening p ≡ true) begun.last = All-same (λ p. is_opening p ≡ true) begun.last (take k opened) is (openings_first k) in
        false≢true (All-contains (λ p. is_opening p ≡ true) begun.last (Born (get_or pairs k d).0 (get_or pairs k d).1) first born)
    opened_before k d within begun is (inr (c, there)) =
        let p = Opening (get_or pairs k d).0 (get_or pairs k d).1 c in
        let here : Contains (take k opened) p = subst (λ (l : List Posting). Contains l p) is there in
        let j = here.0 in
        let before : j < k = omega (arith, here.1, length-take k opened) in
        let inside : j < length pairs = omega (arith, before, within) in
        let read : opening_of old (get_or pairs j d) ≡ p = sym (get_or-map (opening_of old) pairs j d p inside) ∙ (sym (get_or-take k opened j p before) ∙ here.2) in
        let same : get_or pairs j d ≡ get_or pairs k d = λ i. (number_of (read i), generation_of (read i)) in
        living_once at pairs living j k d before within same

    may_open : (k : ℕ) (d : ℕ × ℕ) → k < length pairs → (begun : Periods) → begun.births ≡ new.births → begun.last ≡ take k opened → MayStand begun (opening_of old (get_or pairs k d))
    may_open k d within begun births is =
        let a = get_or pairs k d in
        let it = living.up_to.each k d within in
        let born = law.booked.born.generations a.0 it.node it.here (λ one. let far = it.not_root in omega (arith, far, one)) in
        record {
          first = All-same (λ p. is_opening p ≡ true) begun.last (take k opened) is (openings_first k);
          once = opened_before k d within begun is;
          known = let all = ap (λ (bs : List KeptBirths). births_closed a.0 bs) births ∙ closes.births a.0 in omega (arith, all, born, it.generation);
        }

    ordered_now : IsOrdered new
    ordered_now = record {
      each = λ k d within.
          let inside : k < length pairs = omega (arith, within, ap {B = ℕ} length closes.last, length-map pairs (opening_of old)) in
          let read : get_or new.last k d ≡ opening_of old (get_or pairs k (0, 0)) = ap (λ (l : List Posting). get_or l k d) closes.last ∙ get_or-map (opening_of old) pairs k (0, 0) d inside in
          subst (MayStand (up_to k new)) (sym read) (may_open k (0, 0) inside (up_to k new) refl (ap (take k) closes.last));
    }

    opening_there : (n : ℕ) (x : Node) → at n ≡ Some x → n ≢ 1 → Contains new.last (Opening n x.generation x.count)
    opening_there n x here other =
        let there = living_there at pairs living n x here other in
        let p = Opening n x.generation x.count in
        let read : get_or opened there.0 p ≡ p = get_or-map (opening_of old) pairs there.0 (n, x.generation) p there.1 ∙ (ap (opening_of old) there.2 ∙ ap (λ (c : ℕ). Opening n x.generation c) (count_stays n x here other)) in
        subst (λ (l : List Posting). Contains l p) (sym closes.last) (there.0, omega (arith, there.1, length-map pairs (opening_of old)), read)

    pub law_closed : IsUpheld at new kept
    law_closed = record {
      tree = law.tree;
      booked = record {
        root = record {
          plain = law.booked.root.plain;
          unposted = All-same (λ p. number_of p ≢ 1) new.last opened closes.last (All-map (λ p. number_of p ≢ 1) (opening_of old) pairs (λ k d within one. let far = (living.up_to.each k d within).not_root in omega (arith, far, one)));
        };
        counted = record {
          counts = counts_now;
          others = λ n g unborne. none_left n g (unborne_absent n g unborne);
          never_negative = closed_never old new pairs closes.last;
        };
        born = record { ordered = ordered_now; generations = λ n x here other. law.booked.born.generations n x here other ∙ sym (closed_births old new pairs closes n) };
        carried = carried;
        begun = λ n x here other. inr (x.count, opening_there n x here other);
        marks = law.booked.marks;
        alive = law.booked.alive;
      };
      reasons = law.reasons;
    }

    -- ---- the openings as contracts see them

    opening_is : (p : Posting) → Contains new.last p → IsOpeningOf at p
    opening_is p there =
        let here : Contains opened p = subst (λ (l : List Posting). Contains l p) closes.last there in
        let inside : here.0 < length pairs = omega (arith, here.1, length-map pairs (opening_of old)) in
        let a = get_or pairs here.0 (0, 0) in
        let it = living.up_to.each here.0 (0, 0) inside in
        let other : a.0 ≢ 1 = λ one. let far = it.not_root in omega (arith, far, one) in
        let read : p ≡ opening_of old a = sym here.2 ∙ get_or-map (opening_of old) pairs here.0 (0, 0) p inside in
        record {
          number = a.0;
          node = it.node;
          here = it.here;
          not_root = other;
          posting_is = read ∙ (ap (λ (g : ℕ). Opening a.0 g (count_of a.0 g old)) (sym it.generation) ∙ ap (λ (c : ℕ). Opening a.0 it.node.generation c) (count_stays a.0 it.node it.here other));
        }

    pub are_openings : AreOpenings at new.last
    are_openings = record {
      rising = λ i j d before within.
          let inside : j < length pairs = omega (arith, within, ap {B = ℕ} length closes.last, length-map pairs (opening_of old)) in
          let one : get_or new.last i d ≡ opening_of old (get_or pairs i (0, 0)) = ap (λ (l : List Posting). get_or l i d) closes.last ∙ get_or-map (opening_of old) pairs i (0, 0) d (omega arith) in
          let two : get_or new.last j d ≡ opening_of old (get_or pairs j (0, 0)) = ap (λ (l : List Posting). get_or l j d) closes.last ∙ get_or-map (opening_of old) pairs j (0, 0) d inside in
          omega (arith, ap number_of one, ap number_of two, living.up_to.rising i j (0, 0) before inside);
      each = λ p. (opening_is p, λ it. subst (Contains new.last) (sym it.posting_is) (opening_there it.number it.node it.here it.not_root));
    }
