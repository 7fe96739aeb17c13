-- Each posting may still come where it does after one more was made.
use Rattle.std.proofs.Common.{ℕ, ◌<◌, ◌≤◌, ◌≡◌, Bool, true, false, [], ◌∷◌, ◌++◌, length, get_or, take, inl, inr, refl, ap, length-append, arith}
use Rattle.std.specs.Prelude.{nat_lt}
use Rattle.std.proofs.lemmas.Bool.Decides.{nat_tests}
use Rattle.std.proofs.lemmas.List.{take_all, take-append-le, get_or_push, get_or_append_left}
use Rattle.std.proofs.lemmas.List.Elements.{Contains-append_left}
use Rattle.ledger.specs.declared.postings.Posting.{Posting}
use Rattle.ledger.specs.declared.postings.Posting.TheVariants.{Born, Opening}
use Rattle.ledger.specs.Periods.{Periods, posted, unclosed, up_to}
use Rattle.table_law.specs.Law.{IsBegun, MayStand, IsOrdered}

stands_push : (ps : Periods) (p : Posting) → IsOrdered ps → MayStand ps p → (i : ℕ) (d : Posting) → i < length (ps.last ++ p ∷ []) → (b : Bool) → nat_lt i (length ps.last) ≡ b
    → MayStand (up_to i (posted ps p)) (get_or (ps.last ++ p ∷ []) i d)
stands_push ps p old may i d within true is =
    let short : i < length ps.last = grind (arith, nat_tests) in
    rw (take-append-le i ps.last (p ∷ []) (omega arith), get_or_append_left ps.last (p ∷ []) d i short) (old.each i d short)
stands_push ps p old may i d within false is =
    let long : length ps.last ≤ i = grind (arith, nat_tests) in
    let last : length ps.last ≡ i = omega (arith, length-append ps.last (p ∷ [])) in
    rw (take-append-le i ps.last (p ∷ []) (omega arith), get_or_push ps.last p d i last, take_all i ps.last (omega arith)) may

pub IsOrdered-empty : IsOrdered (unclosed [])
IsOrdered-empty = record { each = λ i d within. absurd (omega arith) }

pub IsOrdered-push : (ps : Periods) (p : Posting) → IsOrdered ps → MayStand ps p → IsOrdered (posted ps p)
IsOrdered-push ps p old may = record { each = λ i d within. stands_push ps p old may i d within (nat_lt i (length ps.last)) refl }

-- what had a birth or opening still has one
pub begun_more : (ps : Periods) (p : Posting) (n g : ℕ) → IsBegun ps n g → IsBegun (posted ps p) n g
begun_more ps p n g (inl born) = inl (Contains-append_left ps.last (p ∷ []) (Born n g) born)
begun_more ps p n g (inr (k, opened)) = inr (k, Contains-append_left ps.last (p ∷ []) (Opening n g k) opened)
