use Rattle.std.proofs.Common.{ℕ, ◌≡◌, ◌≤◌, List, length, take, sym, ap, ◌∙◌, arith}
use Rattle.std.proofs.lemmas.Bool.{false≢true}
use Rattle.std.proofs.lemmas.List.{length-take-le}
use Rattle.paths.proofs.short.ShortBytes.is.Goals as goal

length_stored : (bytes name : List ℕ) (len : ℕ) → take len bytes ≡ name → len ≤ 22 → length bytes ≡ 22 → length name ≡ len
length_stored bytes name len is short room = ap (λ (q : List ℕ). length q) (sym is) ∙ length-take-le len bytes (omega (arith, short, room))

pub returns-then-self-other : goal.returns-then-self-other
returns-then-self-other c =
    let here : length c.args.self.now ≡ c.self.inside.len = length_stored c.self.inside.bytes c.args.self.now c.self.inside.len c.self.view_is c.self.invariant.0 c.self.told in
    let there : length c.args.other.now ≡ c.other.inside.len = length_stored c.other.inside.bytes c.args.other.now c.other.inside.len c.other.view_is c.other.invariant.0 c.other.told in
    (λ yes. absurd (false≢true yes), λ same. absurd (c.if-self-other.true (sym here ∙ (ap (λ (q : List ℕ). length q) same ∙ there))))
