-- The lookup counts add up to what is left in the ledger exactly if nothing is left of dead nodes.
--
-- The proof takes one number and generation after another out of the postings.
use Rattle.std.proofs.Common.{ℕ, ◌+◌, ◌<◌, ◌≤◌, ◌≡◌, ◌≢◌, ◌⊎◌, ◌↔◌, inl, inr, List, [], ◌∷◌, Some, length, get_or, take, length-take, sym, ap, ◌∙◌, subst, arith}
use Rattle.std.proofs.lemmas.Bool.{cases_eq, cases_lt}
use Rattle.std.proofs.lemmas.Option.{none-some}
use Rattle.std.proofs.lemmas.List.Sums.{sum_by-cons, sum_by_more}
use Rattle.std.proofs.lemmas.List.{take_all, take-take}
use Rattle.ledger.specs.declared.postings.Posting.{Posting}
use Rattle.ledger.specs.Periods.{Periods, unclosed, up_to}
use Rattle.ledger.specs.Sums.{IsNeverNegative}
use Rattle.ledger.proofs.Balances.{IsBalanced, IsCovered, balanced_all, balanced_from, covered_all, entered, gift, others, others_rest, rest_covered}
use Rattle.ledger.proofs.SumsLemmas.{given_back_of-le}
use Rattle.ledger.proofs.Touches.{cases_pair}
use Rattle.tree.specs.declared.nodes.Node.{Node}
use Rattle.tree.specs.Listed.{node_at, IsDistinct}
use Rattle.tree.proofs.LookupLemmas.{with_same, with_other}
use Rattle.table_law.specs.Law.{IsUnborne}
use Rattle.table_image.specs.Parts.{AreCountsExact, AreOthersSettled, entered_in_all, given_in_all, counts_in_all}

-- ---- without the postings of living nodes

-- the rest has the postings of the numbers and generations that no node has, and no others
record IsOfOthers (xs : List Node) (ps rest : List Posting) : Type 0 where
  covered : IsCovered rest
  whole : counts_in_all xs + given_in_all ps + entered_in_all rest ≡ entered_in_all ps + given_in_all rest
  forth : AreOthersSettled (node_at xs) (unclosed ps) → IsBalanced rest
  back : IsBalanced rest → AreOthersSettled (node_at xs) (unclosed ps)

-- another number and generation that no node has, also not the nodes after the first
unborne_tail : (x : Node) (xs : List Node) (n g : ℕ) → IsDistinct (x ∷ xs) → IsUnborne (node_at (x ∷ xs)) n g → IsUnborne (node_at xs) n g
unborne_tail x xs n g distinct unborne y here =
    let ne : x.number ≡ n → ⊥ = λ e. none-some y (sym distinct.0 ∙ (ap (node_at xs) e ∙ here)) in
    unborne y (with_other (node_at xs) x.number x n ne ∙ here)

unborne_head : (x : Node) (xs : List Node) (n g : ℕ) → IsUnborne (node_at (x ∷ xs)) n g → (n ≡ x.number) × (g ≡ x.generation) → ⊥
unborne_head x xs n g unborne same =
    let here : node_at (x ∷ xs) n ≡ Some x = ap (node_at (x ∷ xs)) same.0 ∙ with_same (node_at xs) x.number x in
    unborne x here (sym same.1)

unborne_cons : (x : Node) (xs : List Node) (n g : ℕ) → (n ≢ x.number) ⊎ (g ≢ x.generation) → IsUnborne (node_at xs) n g → IsUnborne (node_at (x ∷ xs)) n g
unborne_cons x xs n g ne unborne y here = elim (cases_eq x.number n) [
  | inl e ↦
      let P : ℕ → Type 0 = λ m. node_at (x ∷ xs) m ≡ Some x in
      let first : node_at (x ∷ xs) n ≡ Some x = subst P e (with_same (node_at xs) x.number x) in
      let same : x ≡ y = cc in
      elim ne [
        | inl other ↦ absurd (other (sym e))
        | inr other ↦ λ life. other (sym (ap (λ (w : Node). w.generation) same ∙ life))
      ]
  | inr other ↦ unborne y (sym (with_other (node_at xs) x.number x n other) ∙ here)
]

of_others : (xs : List Node) (ps : List Posting) → IsDistinct xs → IsCovered ps → AreCountsExact (node_at xs) (unclosed ps) → (rest : List Posting) × IsOfOthers xs ps rest
of_others [] ps distinct covered exact = (
  ps,
  record {
    covered = covered;
    whole = omega arith;
    forth = λ settled. record { even = λ n g. settled.others n g (λ y here. absurd (none-some y here)) };
    back = λ balanced. record { others = λ n g unborne. balanced.even n g };
  },
)
of_others (x ∷ xs) ps distinct covered exact =
    let n = x.number in
    let g = x.generation in
    let left = others n g ps in
    let r = others_rest n g ps in
    let own = exact.counts n x (with_same (node_at xs) n x) in
    let exact' : AreCountsExact (node_at xs) (unclosed left) = record {
      counts = λ m y here.
          let ne : n ≡ m → ⊥ = λ e. none-some y (sym distinct.0 ∙ (ap (node_at xs) e ∙ here)) in
          let other : (m ≢ n) ⊎ (y.generation ≢ g) = inl (λ e. ne (sym e)) in
          omega (arith, r.entries_else m y.generation other, r.given_else m y.generation other, exact.counts m y (with_other (node_at xs) n x m ne ∙ here));
    } in
    let it = of_others xs left distinct.1 (rest_covered n g ps left r covered) exact' in (
      it.0,
      record {
        covered = it.1.covered;
        whole = omega (arith, it.1.whole, r.entries, r.gifts, own, sum_by-cons (λ (y : Node). y.count) x xs);
        forth = λ settled. it.1.forth (record {
          others = λ m h unborne. elim (cases_pair m h n g) [
            | inl (e, f) ↦ rw (e, f) (r.none_given ∙ sym r.no_entries)
            | inr ne ↦ omega (arith, r.entries_else m h ne, r.given_else m h ne, settled.others m h (unborne_cons x xs m h ne unborne))
          ];
        });
        back = λ balanced. record {
          others = λ m h unborne. elim (cases_pair m h n g) [
            | inl same ↦ absurd (unborne_head x xs m h unborne same)
            | inr ne ↦ omega (arith, r.entries_else m h ne, r.given_else m h ne, (it.1.back balanced).others m h (unborne_tail x xs m h distinct unborne))
          ];
        };
      },
    )

-- the lookup counts add up to what is left in the ledger exactly if nothing is left of a number and generation that no
-- node has
pub settled_by_sums : (xs : List Node) (ps : Periods) → IsDistinct xs → IsNeverNegative ps → AreCountsExact (node_at xs) ps
    → (counts_in_all xs + given_in_all ps.last ≡ entered_in_all ps.last) ↔ AreOthersSettled (node_at xs) ps
settled_by_sums xs ps distinct never exact =
    let it = of_others xs ps.last distinct (record { within = λ n g. given_back_of-le n g ps never }) (record { counts = exact.counts }) in (
      λ sums. record { others = (it.1.back (balanced_from it.0 it.1.covered (omega (arith, it.1.whole, sums)))).others },
      λ settled. let even = balanced_all it.0 (it.1.forth (record { others = settled.others })) in omega (arith, it.1.whole, even),
    )

-- ---- one posting after another

-- the prefixes of a ledger that was never negative
never_negative-take : (ps : Periods) (k : ℕ) → IsNeverNegative ps → IsNeverNegative (up_to k ps)
never_negative-take ps k never = record {
  within = λ j n g. elim (cases_lt k j) [
    | inl past ↦
        let whole : take j (take k ps.last) ≡ take k ps.last = take_all j (take k ps.last) (omega (arith, length-take k ps.last)) in
        rw whole (never.within k n g)
    | inr within ↦ rw (take-take j k ps.last within) (never.within j n g)
  ];
}

-- the sums with one more posting
pub record AddsOne (ps : List Posting) (i : ℕ) (p : Posting) : Type 0 where
  pub entries : entered_in_all (take (i + 1) ps) ≡ entered_in_all (take i ps) + entered p
  pub gifts : given_in_all (take (i + 1) ps) ≡ given_in_all (take i ps) + gift p
  pub covered : given_in_all (take (i + 1) ps) ≤ entered_in_all (take (i + 1) ps)

pub one_more : (ps : Periods) (i : ℕ) (d : Posting) → i < length ps.last → IsNeverNegative ps → AddsOne ps.last i (get_or ps.last i d)
one_more ps i d within never =
    let before = never_negative-take ps (i + 1) never in
    record {
      entries = sum_by_more entered ps.last i d within;
      gifts = sum_by_more gift ps.last i d within;
      covered = covered_all (take (i + 1) ps.last) (record { within = λ n g. given_back_of-le n g (up_to (i + 1) ps) before });
    }
