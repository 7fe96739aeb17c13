-- Fields that are read completely determine their bytes.
use Rattle.std.proofs.Common.{◌≡◌, ℕ, zero, suc, ◌+◌, ◌*◌, ◌/◌, ◌%◌, ◌^◌, ◌<◌, ◌≤◌, List, [], ◌∷◌, ◌++◌, length, drop, refl, sym, ap, ◌∙◌, arith}
use Rattle.std.proofs.lemmas.List.{take-append-drop}
use Rattle.std.proofs.Math.Nat.{div-div-eq-div-mul, pow-succ'}
use Rattle.std.specs.Int.{byte_at, bytes_low_first}
use Rattle.byteorder.specs.Endian.{little_from, little_number, little_bytes}
use Rattle.byteorder.specs.Numbers.{little_from-cons}
use Rattle.wire.specs.Fields.{Field, number, unread, raw, text, link_text, counted, limited, anything, Value, num, name, bytes, Spells, IsBytes}
use Rattle.wire.specs.Written.{le, written}
use Rattle.wire.proofs.Again.{IsBytes-drop, IsBytes-rest}

-- a byte in front of a number moves its bytes up by one place
byte_above : (j b m : ℕ) → b < 256 → byte_at (suc j) (b + 256 * m) ≡ byte_at j m
byte_above zero b m lt = let q : (b + 256 * m) / 256 ≡ m = omega arith in ap (λ (x : ℕ). x % 256) q
byte_above (suc j) b m lt =
    let q : (b + 256 * m) / 256 ≡ m = omega arith in
    ap (λ (x : ℕ). x % 256)
    (ap (λ (p : ℕ). (b + 256 * m) / p) (pow-succ' 256 (suc j)) ∙ sym (div-div-eq-div-mul (b + 256 * m) 256 (256 ^ suc j)) ∙ ap (λ (x : ℕ). x / 256 ^ suc j) q)

bytes_above : (j k b m : ℕ) → b < 256 → bytes_low_first (suc j) k (b + 256 * m) ≡ bytes_low_first j k m
bytes_above j zero b m lt = refl
bytes_above j (suc k) b m lt = rw (byte_above j b m lt, bytes_above (suc j) k b m lt) refl

-- the bytes of the number at the front of a list are that front
front_again : (k : ℕ) (body : List ℕ) → IsBytes body → k ≤ length body → little_bytes k (little_number k body) ++ drop k body ≡ body
front_again zero body fits h = refl
front_again (suc k) [] fits h = absurd (omega arith)
front_again (suc k) (b ∷ body) fits h =
    let lt : b < 256 = fits 0 in
    let m = little_from 0 k body in
    let moved : little_from 1 k (b ∷ body) ≡ m = little_from-cons 0 k b body in
    let low : (b + 256 * m) % 256 ≡ b = omega arith in
    rw (moved, low, bytes_above 0 k b m lt, front_again k body (λ i. fits (suc i)) (omega arith)) refl

-- none of these fields has unread bytes
abbrev pub AreRead : List Field → Type 0
AreRead [] = Unit {0}
AreRead (number _ ∷ fields) = AreRead fields
AreRead (raw _ ∷ fields) = AreRead fields
AreRead (text ∷ fields) = AreRead fields
AreRead (link_text ∷ fields) = AreRead fields
AreRead (limited _ ∷ fields) = AreRead fields
AreRead (unread _ ∷ _) = ⊥
AreRead (counted _ _ _ ∷ _) = ⊥
AreRead (anything ∷ _) = ⊥

pub exactly : (fields : List Field) (values : List Value) (body : List ℕ) → AreRead fields → IsBytes body → Spells fields values body → body ≡ written fields values
unfolding le
exactly [] [] body all fits s = s
exactly (number len ∷ fields) (num n ∷ values) body all fits s =
    let rest = exactly fields values (drop len body) all (IsBytes-drop len body fits) s.2 in
    sym (front_again len body fits s.0) ∙ ap (λ (k : ℕ). little_bytes len k ++ drop len body) (sym s.1) ∙ ap (λ (r : List ℕ). little_bytes len n ++ r) rest
exactly (raw len ∷ fields) (bytes d ∷ values) body all fits s =
    let rest = exactly fields values (drop len body) all (IsBytes-drop len body fits) s.2 in
    sym (take-append-drop len body) ∙ ap (λ (t : List ℕ). t ++ drop len body) (sym s.1) ∙ ap (λ (r : List ℕ). d ++ r) rest
exactly (text ∷ fields) (name t ∷ values) body all fits s =
    s.2 ∙ ap (λ (r : List ℕ). t ++ 0 ∷ r) (exactly fields values s.1 all (IsBytes-rest t s.1 body s.2 fits) s.3)
exactly (link_text ∷ fields) (bytes t ∷ values) body all fits s =
    s.2 ∙ ap (λ (r : List ℕ). t ++ 0 ∷ r) (exactly fields values s.1 all (IsBytes-rest t s.1 body s.2 fits) s.3)
exactly (limited limit ∷ fields) (num n ∷ values) body all fits s =
    let rest = exactly fields values (drop 4 body) all (IsBytes-drop 4 body fits) s.3 in
    sym (front_again 4 body fits s.0) ∙ ap (λ (k : ℕ). little_bytes 4 k ++ drop 4 body) (sym s.1) ∙ ap (λ (r : List ℕ). little_bytes 4 n ++ r) rest
exactly (unread _ ∷ _) values body all fits s = absurd all
exactly (counted _ _ _ ∷ _) values body all fits s = absurd all
exactly (anything ∷ _) values body all fits s = absurd all
exactly _ _ body all fits s = absurd s
