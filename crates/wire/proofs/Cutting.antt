-- A frame that is removed is the front of the kept bytes.
use Rattle.std.proofs.Common.{◌≡◌, ℕ, ◌+◌, List, [], ◌∷◌, ◌++◌, length, take, drop, sym, ap, ◌∙◌, refl, arith, append_assoc, inl, inr}
use Rattle.std.proofs.lemmas.List.{take-append-drop, length-take-le, take_at, append_cancel_left, length-append}
use Rattle.byteorder.specs.Endian.{little_number}
use Rattle.byteorder.specs.Numbers.{little_from-take, little_from-append}
use Rattle.wire.specs.Requests.{IsFramed}
use Rattle.wire.specs.NextFrame.{IsWhole}
use Rattle.wire.specs.Stream.{BeginsBadly, IsPartial, joined, Splits}

pub handed : (kept frame : List ℕ) (len : ℕ) → IsWhole kept len → frame ≡ take len kept → (kept ≡ frame ++ drop len kept) × IsFramed frame
handed kept frame len whole is =
    let size : length (take len kept) ≡ len = length-take-le len kept whole.there in
    let long = whole.lawful.long in
    let short = whole.lawful.short in
    let same : little_number 4 (take len kept) ≡ little_number 4 kept = little_from-take 0 4 len kept (omega arith) in
    rw is (
      sym (take-append-drop len kept),
      record {
        long = omega arith;
        short = omega arith;
        len = same ∙ sym whole.is ∙ sym size;
      },
    )

-- two frames at the front of one stream are equal
one_front : (f g x y : List ℕ) → IsFramed f → IsFramed g → f ++ x ≡ g ++ y → (f ≡ g) × (x ≡ y)
one_front f g x y a b e =
    let la = a.long in
    let lb = b.long in
    let nf : little_number 4 (f ++ x) ≡ little_number 4 f = little_from-append 4 f x (omega arith) in
    let ng : little_number 4 (g ++ y) ≡ little_number 4 g = little_from-append 4 g y (omega arith) in
    let len : length f ≡ length g = sym a.len ∙ sym nf ∙ ap (little_number 4) e ∙ ng ∙ b.len in
    let same : f ≡ g = sym (take_at f x (length f) refl) ∙ ap (take (length f)) e ∙ take_at g y (length f) (sym len) in
    (same, append_cancel_left g x y (ap (λ (h : List ℕ). h ++ x) (sym same) ∙ e))

-- a stream has no other frames and no other rest
pub one_split : (fs gs : List (List ℕ)) (r q stream : List ℕ) → Splits stream fs r → Splits stream gs q → (fs ≡ gs) × (r ≡ q)
one_split [] [] r q stream a b = (refl, sym a.whole ∙ b.whole)
one_split [] (g ∷ gs) r q stream a b = absurd (a.ends g (joined gs ++ q) b.each.0 (sym a.whole ∙ b.whole ∙ append_assoc g (joined gs) q))
one_split (f ∷ fs) [] r q stream a b = absurd (b.ends f (joined fs ++ r) a.each.0 (sym b.whole ∙ a.whole ∙ append_assoc f (joined fs) r))
one_split (f ∷ fs) (g ∷ gs) r q stream a b =
    let front = one_front f g (joined fs ++ r) (joined gs ++ q) a.each.0 b.each.0 (sym (append_assoc f (joined fs) r) ∙ sym a.whole ∙ b.whole ∙ append_assoc g (joined gs) q) in
    let rest = one_split fs gs r q (joined fs ++ r) (record { whole = refl; each = a.each.1; ends = a.ends }) (record { whole = front.1; each = b.each.1; ends = b.ends }) in
    (cc, rest.1)

-- if the bytes begin neither with a frame nor with a bad length, they begin with no whole frame
pub partial_ends : (rest : List ℕ) → IsPartial rest → (frame more : List ℕ) → IsFramed frame → rest ≡ frame ++ more → ⊥
partial_ends rest p frame more a e =
    let la = a.long in
    let size : length rest ≡ length frame + length more = ap length e ∙ length-append frame more in
    let n : little_number 4 rest ≡ length frame = ap (little_number 4) e ∙ little_from-append 4 frame more (omega arith) ∙ a.len in
    elim p [ inl short ↦ absurd (omega arith) | inr s ↦ absurd (omega (arith, s.1)) ]

pub bad_ends : (rest : List ℕ) (len : ℕ) → BeginsBadly rest len → (frame more : List ℕ) → IsFramed frame → rest ≡ frame ++ more → ⊥
bad_ends rest len p frame more a e =
    let la = a.long in
    let sa = a.short in
    let n : little_number 4 rest ≡ length frame = ap (little_number 4) e ∙ little_from-append 4 frame more (omega arith) ∙ a.len in
    let is = p.is in
    elim p.lawless [ inl low ↦ absurd (omega arith) | inr high ↦ absurd (omega arith) ]
