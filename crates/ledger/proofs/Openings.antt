-- A period with nothing but openings: they add nothing to the totals, and give nothing back.
use Rattle.std.proofs.Common.{ℕ, ◌≡◌, ◌≤◌, cond, true, List, take, refl, ap, ◌∙◌, arith, All}
use Rattle.std.specs.Prelude.{count_by, sum_by}
use Rattle.std.proofs.lemmas.Bool.{false≢true}
use Rattle.std.proofs.lemmas.List.Elements.{All-take, All-weaker}
use Rattle.std.proofs.lemmas.List.Sums.{sum_by-le}
use Rattle.ledger.specs.declared.postings.Posting.{Posting}
use Rattle.ledger.specs.declared.postings.Posting.TheVariants.{Born, Entry, Back, Forget, Opening}
use Rattle.ledger.specs.Periods.{Periods}
use Rattle.ledger.specs.Shares.{nothing, plus}
use Rattle.ledger.specs.Sums.{IsNeverNegative, births_closed, births_of, given_by, is_birth, is_opening, totals_by, totals_of, totals_over}
use Rattle.ledger.proofs.SharesLemmas.{plus-nothing}

abbrev pub AreOpenings : List Posting → Type 0
AreOpenings ps = All (λ (p : Posting). is_opening p ≡ true) ps

-- what no opening has
opening_none : (f : Posting → ℕ) → ((n g k : ℕ) → f (Opening n g k) ≡ 0) → (p : Posting) → is_opening p ≡ true → f p ≤ 0
opening_none f none (Born n g) is = absurd (false≢true is)
opening_none f none (Entry n g) is = absurd (false≢true is)
opening_none f none (Back n g) is = absurd (false≢true is)
opening_none f none (Forget n g k) is = absurd (false≢true is)
opening_none f none (Opening n g k) is = omega (arith, none n g k)

-- all of them together have none of it
pub none_in : (f : Posting → ℕ) → ((n g k : ℕ) → f (Opening n g k) ≡ 0) → (ps : List Posting) → AreOpenings ps → sum_by f ps ≡ 0
none_in f none ps all = omega (arith, sum_by-le f 0 ps (All-weaker (λ (p : Posting). is_opening p ≡ true) (λ p. f p ≤ 0) (opening_none f none) ps all))

pub openings_count_nothing : (ps : List Posting) → AreOpenings ps → totals_of ps ≡ nothing
openings_count_nothing ps all = λ i. record {
  born = none_in (λ p. (totals_by p).born) (λ n g k. refl) ps all i;
  entries = none_in (λ p. (totals_by p).entries) (λ n g k. refl) ps all i;
  backs = none_in (λ p. (totals_by p).backs) (λ n g k. refl) ps all i;
  forgotten = none_in (λ p. (totals_by p).forgotten) (λ n g k. refl) ps all i;
}

module _ (ps : Periods) (all : AreOpenings ps.last) where
  -- so the totals are those of the closed periods
  pub begun_totals : totals_over ps ≡ ps.totals
  begun_totals = ap (plus ps.totals) (openings_count_nothing ps.last all) ∙ plus-nothing ps.totals

  -- and so are the births
  pub begun_births : (n : ℕ) → births_of n ps ≡ births_closed n ps.births
  begun_births n =
      let none : count_by (is_birth n) ps.last ≡ 0 = none_in (λ p. cond (is_birth n p) 1 0) (λ m g k. refl) ps.last all in
      omega (arith, none)

  pub begun_never : IsNeverNegative ps
  begun_never = record {
    within = λ k n g.
        let none : sum_by (given_by n g) (take k ps.last) ≡ 0 = none_in (given_by n g) (λ m h j. refl) (take k ps.last) (All-take (λ (p : Posting). is_opening p ≡ true) k ps.last all) in
        omega (arith, none);
  }
