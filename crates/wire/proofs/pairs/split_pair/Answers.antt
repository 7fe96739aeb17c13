use Rattle.std.proofs.Common.{◌≡◌, ℕ, zero, suc, ◌-◌, ◌/◌, ◌<◌, ◌≤◌, List, [], ◌∷◌, length, take, drop, refl, ap, ◌∙◌, arith}
use Rattle.std.proofs.lemmas.List.{length-drop, take_rest}
use Rattle.byteorder.specs.Endian.{little_number}
use Rattle.wire.specs.Pairs.{pairs_from, pairs_in}
use Rattle.wire.proofs.pairs.split_pair.Goals as goal

few : (body : List ℕ) (count : ℕ) → count ≡ 0 → pairs_from count body ≡ []
few body zero e = refl
few body (suc count) e = absurd (omega (arith, e))

more : (body : List ℕ) (count rest : ℕ) → count ≡ suc rest → pairs_from count body ≡ record { node = little_number 8 body; nlookup = little_number 8 (drop 8 body) } ∷ pairs_from rest (drop 16 body)
more body count rest e = ap (λ (n : ℕ). pairs_from n body) e

first_pair : (body rest : List ℕ) (node nlookup : ℕ) → 16 ≤ length body → node ≡ little_number 8 body → nlookup ≡ little_number 8 (drop 8 body) → rest ≡ drop 16 body
    → (pairs_in body ≡ record { node = node; nlookup = nlookup } ∷ pairs_in rest) × (length rest < length body)
first_pair body rest node nlookup long one two is =
    let left : length (drop 16 body) ≡ length body - 16 = length-drop 16 body in
    rw (is, one, two) (more body (length body / 16) (length (drop 16 body) / 16) (omega (arith, left, long)), omega (arith, left, long))

pub returns : goal.returns
returns c =
    let body = c.args.pairs.now in
    first_pair body (take (length body - 16) (drop 16 body)) c.read_u64.result c.read_u64-2.result c.if-pairs-lt-PAIR_LEN.false c.read_u64.ensures
    (c.read_u64-2.ensures ∙ ap (λ (t : List ℕ). little_number 8 t) (take_rest body 8)) (take_rest body 16)
