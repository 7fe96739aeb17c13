-- An image of an earlier version is lawful exactly if it is so with no period closed.
use Rattle.std.proofs.Common.{ℕ, ◌*◌, ◌≤◌, ◌≡◌, inl, inr, Bool, false, List, [], Contains, length, get_or, take, refl, sym, ◌∙◌, arith}
use Rattle.std.specs.Prelude.{All, sum_by}
use Rattle.std.proofs.lemmas.Bool.{true≢false}
use Rattle.std.proofs.lemmas.List.Elements.{All-contains, All-take}
use Rattle.std.proofs.lemmas.List.Sums.{sum_by-le}
use Rattle.ledger.specs.declared.postings.Posting.{Posting}
use Rattle.ledger.specs.declared.postings.Posting.TheVariants.{Born, Entry, Back, Forget, Opening}
use Rattle.ledger.specs.Periods.{unclosed}
use Rattle.ledger.specs.Shares.{nothing}
use Rattle.ledger.specs.Sums.{births_of, carried_by, is_opening, IsCarriedOver}
use Rattle.tree.specs.Places.{Lookup}
use Rattle.table_image.specs.declared.data.Image.{Image}
use Rattle.table_image.specs.declared.data.ImageOne.{ImageOne}
use Rattle.table_law.specs.Law.{IsBegun, IsLawful, IsOrdered, MayStand}
use Rattle.table_image.specs.ImageLaw.{IsLawfulImage}
use Rattle.table_image.specs.LawOne.{IsLawfulImageOne, IsLawfulOne, IsOrderedOne, MayStandOne, births_among}

-- without closed periods no posting is an opening
unopened : (before : List Posting) (p : Posting) → MayStand (unclosed before) p → is_opening p ≡ false
unopened before (Born n g) may = refl
unopened before (Entry n g) may = refl
unopened before (Back n g) may = refl
unopened before (Forget n g k) may = refl
unopened before (Opening n g k) may = absurd (omega (arith, may.known))

all_unopened : (ps : List Posting) → IsOrdered (unclosed ps) → All (λ p. is_opening p ≡ false) ps
all_unopened ps ordered k d within = unopened (take k ps) (get_or ps k d) (ordered.each k d within)

-- so everything begins with a birth
born_of : (before : List Posting) (n g : ℕ) → All (λ p. is_opening p ≡ false) before → IsBegun (unclosed before) n g → Contains before (Born n g)
born_of before n g none (inl born) = born
born_of before n g none (inr (k, opened)) = absurd (true≢false (All-contains (λ p. is_opening p ≡ false) before (Opening n g k) none opened))

births_same : (n : ℕ) (ps : List Posting) → births_of n (unclosed ps) ≡ births_among n ps
births_same n ps = omega arith

stands_one : (before : List Posting) (p : Posting) → All (λ q. is_opening q ≡ false) before → MayStand (unclosed before) p → MayStandOne before p
stands_one before (Born n g) none may = may ∙ births_same n before
stands_one before (Entry n g) none may = born_of before n g none may
stands_one before (Back n g) none may = born_of before n g none may
stands_one before (Forget n g k) none may = born_of before n g none may
stands_one before (Opening n g k) none may = absurd (omega (arith, may.known))

stands : (before : List Posting) (p : Posting) → MayStandOne before p → MayStand (unclosed before) p
stands before (Born n g) may = may ∙ sym (births_same n before)
stands before (Entry n g) may = inl may
stands before (Back n g) may = inl may
stands before (Forget n g k) may = inl may
stands before (Opening n g k) may = absurd may

ordered_one : (ps : List Posting) → IsOrdered (unclosed ps) → IsOrderedOne ps
ordered_one ps ordered = record {
  each = λ k d within.
      let none : All (λ p. is_opening p ≡ false) (take k ps) = All-take (λ p. is_opening p ≡ false) k ps (all_unopened ps ordered) in
      stands_one (take k ps) (get_or ps k d) none (ordered.each k d within);
}

ordered_from : (ps : List Posting) → IsOrderedOne ps → IsOrdered (unclosed ps)
ordered_from ps ordered = record { each = λ k d within. stands (take k ps) (get_or ps k d) (ordered.each k d within) }

-- nothing is carried over
carries_none : (before : List Posting) (p : Posting) → MayStandOne before p → carried_by p ≡ 0
carries_none before (Born n g) may = refl
carries_none before (Entry n g) may = refl
carries_none before (Back n g) may = refl
carries_none before (Forget n g k) may = refl
carries_none before (Opening n g k) may = absurd may

carried_none : (ps : List Posting) → IsOrderedOne ps → IsCarriedOver (unclosed ps)
carried_none ps ordered =
    let none : sum_by carried_by ps ≤ length ps * 0 = sum_by-le carried_by 0 ps (λ k d within. let zero = carries_none (take k ps) (get_or ps k d) (ordered.each k d within) in omega (arith, zero)) in
    record { births = refl; entered = omega arith; left = omega (arith, none) }

law_one : (at : Lookup) (ps : List Posting) (kept : ℕ → Bool) → IsLawful at (unclosed ps) kept → IsLawfulOne at ps kept
law_one at ps kept law = record {
  tree = law.tree;
  root = law.root;
  counted = law.counted;
  ordered = ordered_one ps law.born.ordered;
  generations = λ n x here other. law.born.generations n x here other ∙ births_same n ps;
  marks = law.marks;
  alive = law.alive;
  reasons = law.reasons;
}

law_from : (at : Lookup) (ps : List Posting) (kept : ℕ → Bool) → IsLawfulOne at ps kept → IsLawful at (unclosed ps) kept
law_from at ps kept law = record {
  tree = law.tree;
  root = law.root;
  counted = law.counted;
  born = record { ordered = ordered_from ps law.ordered; generations = λ n x here other. law.generations n x here other ∙ sym (births_same n ps) };
  carried = carried_none ps law.ordered;
  marks = law.marks;
  alive = law.alive;
  reasons = law.reasons;
}

abbrev pub taken_over : ImageOne → Image
taken_over one = record {
  nodes = one.nodes;
  births = [];
  closed = nothing;
  postings = one.postings;
  records = one.records;
  holds = one.holds;
  files = one.files;
  counter = one.counter;
  last_handle = one.last_handle;
}

pub lawful_one : (one : ImageOne) → IsLawfulImage (taken_over one) → IsLawfulImageOne one
lawful_one one law = record {
  numbers = law.numbers;
  ids = law.ids;
  handles = law.handles;
  law = law_one _ one.postings _ law.law;
  files = law.files;
  counted = law.counted;
  apart = law.apart;
  known = law.known;
}

pub lawful_from_one : (one : ImageOne) → IsLawfulImageOne one → IsLawfulImage (taken_over one)
lawful_from_one one law = record {
  numbers = law.numbers;
  ids = law.ids;
  handles = law.handles;
  law = law_from _ one.postings _ law.law;
  files = law.files;
  counted = law.counted;
  apart = law.apart;
  known = law.known;
}
