-- Two calls whose work does not matter to one another can be exchanged.
use Rattle.std.proofs.Common.{ℕ, ◌≡◌, Option, Bool, true, false, refl, sym, ◌∙◌, subst, inl, inr}
use mathlib.Core.Path.{fun_ext}
use Rattle.std.proofs.lemmas.Bool.{true≢false, cases_Bool}
use Rattle.paths.specs.Prefixes.{Names}
use Rattle.backing.specs.declared.call.Answer.{Answer}
use Rattle.backing.specs.Tree.{Tree}
use Rattle.backing.specs.Calls.{Asked}
use Rattle.backing.specs.Device.{Device, Performs}
use Rattle.laws.specs.Exchanging.{alters, minds, AreFree}
use Rattle.laws.proofs.Agreeing.{alters_minds, performs, performs_outside}

-- where the one rules out the other
not_both : (a b : Bool) → (a ≡ true → b ≡ false) → b ≡ true → a ≡ false
not_both true b apart h = absurd (true≢false (sym h ∙ apart refl))
not_both false b apart h = refl

-- Two calls one after the other, of which neither may change what matters to the other, come to the same the other way round.
pub exchange : (limit : Option ℕ) (t m r : Tree) (first second : Device) (c d : Asked) (a b : Answer) → AreFree c d → Performs limit t first c a m → Performs limit m second d b r → (n : Tree) × Performs limit t second d b n × Performs limit n first c a r
exchange limit t m r first second c d a b free one two =
    let spares_c = λ (q : Names) (h : minds d q ≡ true). not_both (alters c q) (minds d q) (free.left q) h in
    let spares_d = λ (q : Names) (h : minds c q ≡ true). not_both (alters d q) (minds c q) (free.right q) h in
    let early = performs limit m t r second d b (λ q h. performs_outside limit t m first c a q (spares_c q h) one) two in
    let late = performs limit t early.0 m first c a (λ q h. sym (performs_outside limit t early.0 second d b q (spares_d q h) early.1)) one in
    let same : late.0 ≡ r = fun_ext (λ q. elim (cases_Bool (alters c q)) [
      | inl near ↦ let h = alters_minds c q near in sym (late.2 q h) ∙ sym (performs_outside limit m r second d b q (spares_d q h) two)
      | inr far ↦ performs_outside limit early.0 late.0 first c a q far late.1 ∙ elim (cases_Bool (alters d q)) [
        | inl near ↦ sym (early.2 q (alters_minds d q near))
        | inr far' ↦ performs_outside limit t early.0 second d b q far' early.1 ∙ (sym (performs_outside limit t m first c a q far one) ∙ sym (performs_outside limit m r second d b q far' two))
      ]
    ]) in
    (early.0, early.1, subst (λ (x : Tree). Performs limit early.0 first c a x) same late.1)
