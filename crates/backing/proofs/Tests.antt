-- Several tests, one after another.
use Rattle.std.proofs.Common.{ℤ, List, ◌++◌, ◌∷◌, [], inl, inr, Result, Ok, Err, OnOk, IfErr}
use Rattle.backing.specs.Tree.{Tree}
use Rattle.backing.specs.Calls.{Test, PassesAll, Refuses}

pub refuses_first : (at : Tree) (tests more : List Test) (errno : ℤ) → Refuses at tests errno → Refuses at (tests ++ more) errno
refuses_first at [] more errno h = absurd h
refuses_first at (test ∷ tests) more errno (inl fails) = inl fails
refuses_first at (test ∷ tests) more errno (inr rest) = inr (rest.0, refuses_first at tests more errno rest.1)

pub refuses_later : (at : Tree) (tests more : List Test) (errno : ℤ) → PassesAll at tests → Refuses at more errno → Refuses at (tests ++ more) errno
refuses_later at [] more errno p h = h
refuses_later at (test ∷ tests) more errno p h = inr (p.0, refuses_later at tests more errno p.1 h)

pub passes_both : (at : Tree) (tests more : List Test) → PassesAll at tests → PassesAll at more → PassesAll at (tests ++ more)
passes_both at [] more p q = q
passes_both at (test ∷ tests) more p q = (p.0, passes_both at tests more p.1 q)

-- what the last of several tests says, if the others passed
pub then_ok : {A E P Q : Type 0} (r : Result A E) → (P → Q) → OnOk r P → OnOk r Q
then_ok (Ok x) then p = then p
then_ok (Err e) then p = tt

pub then_err : {A E : Type 0} (P Q : E → Type 0) (r : Result A E) → ((e : E) → P e → Q e) → IfErr r P → IfErr r Q
then_err P Q (Ok x) then p = tt
then_err P Q (Err e) then p = then e p
