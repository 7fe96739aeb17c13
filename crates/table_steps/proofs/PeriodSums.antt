-- The end of a period does not change births and totals.
use Rattle.std.proofs.Common.{ℕ, ◌+◌, ◌≡◌, ◌≤◌, ◌*◌, ◌≢◌, inl, inr, List, Option, Some, None, All, Contains, cond, get_or, length, refl, sym, ap, ◌∙◌, subst, arith}
use Rattle.std.specs.Prelude.{count_by, sum_by}
use Rattle.std.proofs.lemmas.List.Elements.{Contains-get_or}
use Rattle.std.proofs.lemmas.List.Sums.{sum_by-le}
use Rattle.ledger.specs.declared.postings.Posting.{Posting}
use Rattle.ledger.specs.declared.postings.Posting.TheVariants.{Opening}
use Rattle.ledger.specs.declared.shares.Totals.{Totals}
use Rattle.ledger.specs.Shares.{nothing, plus}
use Rattle.ledger.specs.Sums.{births_of, count_of, is_birth, totals_by, totals_of, totals_over}
use Rattle.ledger.proofs.SharesLemmas.{plus-nothing}
use Rattle.std.proofs.lemmas.Bool.{cases_eq}
use Rattle.std.proofs.lemmas.Option.{none-some, same_Some}
use Rattle.tree.specs.declared.nodes.Node.{Node}
use Rattle.tree.specs.Places.{Lookup}
use Rattle.table_steps.specs.Steps.{AreOpenings, ClosesPeriod}
use Rattle.table_steps.specs.World.{IsLawfulWorld, World}

-- what no opening counts is nothing in total
none_of : (at : Lookup) (ps : List Posting) (f : Posting → ℕ) → ((n g k : ℕ) → f (Opening n g k) ≡ 0) → AreOpenings at ps → sum_by f ps ≡ 0
none_of at ps f none openings =
    let each : All (λ p. f p ≤ 0) ps = λ i d within.
    let it = (openings.each (get_or ps i d)).0 (Contains-get_or ps i d within) in
    omega (arith, ap f it.posting_is, none it.number it.node.generation it.node.count) in
    omega (arith, sum_by-le f 0 ps each)

openings_nothing : (at : Lookup) (ps : List Posting) → AreOpenings at ps → totals_of ps ≡ nothing
openings_nothing at ps openings = λ i. record {
  born = none_of at ps (λ p. (totals_by p).born) (λ n g k. refl) openings i;
  entries = none_of at ps (λ p. (totals_by p).entries) (λ n g k. refl) openings i;
  backs = none_of at ps (λ p. (totals_by p).backs) (λ n g k. refl) openings i;
  forgotten = none_of at ps (λ p. (totals_by p).forgotten) (λ n g k. refl) openings i;
}

pub period_totals : (old new : World) (fewer : ℕ) → ClosesPeriod old fewer new → totals_over new.postings ≡ totals_over old.postings
period_totals old new fewer closes =
    ap (plus new.postings.totals) (openings_nothing old.at new.postings.last closes.openings) ∙ (plus-nothing new.postings.totals ∙ closes.totals)

pub period_births : (old new : World) (fewer n : ℕ) → ClosesPeriod old fewer new → births_of n new.postings ≡ births_of n old.postings
period_births old new fewer n closes =
    let none : count_by (is_birth n) new.postings.last ≡ 0 = none_of old.at new.postings.last (λ p. cond (is_birth n p) 1 0) (λ m g k. refl) closes.openings in
    omega (arith, none, closes.births n)

-- each count is that of the node with this number and generation, or nothing
count_where : (old new : World) (n g : ℕ) → IsLawfulWorld old → IsLawfulWorld new → old.at ≡ new.at → (o : Option Node) → old.at n ≡ o → count_of n g new.postings ≡ count_of n g old.postings
count_where old new n g before after same None none =
    let was = before.law.booked.counted.others n g (λ x here. absurd (none-some x (sym none ∙ here))) in
    let now = after.law.booked.counted.others n g (λ x here. absurd (none-some x (sym none ∙ (ap (λ (at : Lookup). at n) same ∙ here)))) in
    omega (arith, was, now)
count_where old new n g before after same (Some x) here = elim (cases_eq x.generation g) [
  | inl e ↦
      let was = before.law.booked.counted.counts n x here in
      let now = after.law.booked.counted.counts n x (sym (ap (λ (at : Lookup). at n) same) ∙ here) in
      subst (λ (h : ℕ). count_of n h new.postings ≡ count_of n h old.postings) e (omega (arith, was, now))
  | inr ne ↦
      let was = before.law.booked.counted.others n g (λ y stands is. ne (ap (λ (w : Node). w.generation) (same_Some x y (sym here ∙ stands)) ∙ is)) in
      let now = after.law.booked.counted.others n g (λ y stands is. ne (ap (λ (w : Node). w.generation) (same_Some x y (sym here ∙ (ap (λ (at : Lookup). at n) same ∙ stands))) ∙ is)) in
      omega (arith, was, now)
]

pub period_counts : (old new : World) (fewer : ℕ) → IsLawfulWorld old → IsLawfulWorld new → ClosesPeriod old fewer new → (n g : ℕ) → count_of n g new.postings ≡ count_of n g old.postings
period_counts old new fewer before after closes n g = count_where old new n g before after (sym (ap (λ (w : World). w.at) closes.new_is)) (old.at n) refl
